use native.Mathlib.Nat.{le_antisymm}
use lib.Pow.{pow_pos}
use Rattle.sets.specs.Sets.{singleton, all}
use Rattle.sets.proofs.all.Goals as goal

pub overflow_sub-result : goal.overflow_sub-result
unfolding singleton
overflow_sub-result c = rw c.singleton.ensures (pow_pos c.args.n)

pub returns-then-n-lt-DISKS : goal.returns-then-n-lt-DISKS
unfolding singleton all
returns-then-n-lt-DISKS c = rw c.singleton.ensures

pub returns-else-n-lt-DISKS : goal.returns-else-n-lt-DISKS
unfolding all
returns-else-n-lt-DISKS c = rw (le_antisymm c.requires c.if-n-lt-DISKS.false)
