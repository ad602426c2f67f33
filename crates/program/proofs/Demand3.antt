-- The program, from its input to demand 3. Assumes nothing.
use mathlib.Core.Path.{◌≡◌, refl, sym, ap, ◌∙◌}
use mathlib.Core.Logic.{◌≢◌}
use mathlib.Core.Bool.{true}
use mathlib.Core.List.{List, [], ◌∷◌, ◌++◌, append_assoc}
use Prim.Native.Nat.{ℕ, ◌<◌, ◌≤◌}
use native.Mathlib.Omega.{arith}
use lib.ListN.{length, take}
use Rattle.sets.specs.Sets.{has, all}
use Rattle.sets.proofs.Bounds.{below_members}
use Rattle.protocol.specs.declared.Call.TheVariants.{Restart}
use Rattle.protocol.specs.declared.Power.TheVariants.{Stopped, Running}
use Rattle.protocol.specs.Geometry.{most_disks, most_blocks, area_size}
use Rattle.protocol.specs.Calls.{zero_area}
use Rattle.protocol.specs.Lists.{restart_list}
use Rattle.protocol.specs.Naming.{one, found_by}
use Rattle.protocol.specs.Outcomes.{Outcome}
use Rattle.protocol.specs.States.{zero_state, current_of}
use Rattle.protocol.specs.History.{Step, cabinet_of}
use Rattle.protocol.specs.Demand3.{cabinet_after, Demand3}
use Rattle.protocol.proofs.Demand3.{demand_3}
use Rattle.protocol.proofs.History.{ran_last}
use Rattle.protocol.proofs.Invariant.{invariant}
use Rattle.commands.specs.declared.Loan.TheVariants.{Block}
use Rattle.replies.specs.Replies.{reply_line}
use Rattle.interpreter.specs.Execution.{Machine, machine_of, cabinet_in, call_reply, reply_to}
use Rattle.interpreter.specs.Histories.{machine_after, calls, good}
use Rattle.interpreter.proofs.Memory.{block_in_memory}
use Rattle.interpreter.proofs.Tracking.{fits}
use Rattle.shell.specs.Dialogue.{line_executed, answers, transcript}
use Rattle.shell.proofs.Transcript.{blocks_print, blocks_leave}
use Rattle.program.specs.Demand3.{LineIn, commands_of, behind, calls_since, executed_at, IsRestart, Hold}
use Rattle.program.specs.Demand3.{ProgramMeetsDemand3}
use Rattle.program.proofs.Lines.{done, with_it, here, yielded, up_to, machine_is, is_behind, call_line}
use Rattle.program.proofs.Blocks.{read_shows, write_counts}

-- ---- what lines print, in two parts

answers_append : (first later : List (List ℕ)) (m : Machine)
    → answers (first ++ later) m ≡ answers first m ++ answers later (machine_after (commands_of first) m)
unfolding answers machine_after
answers_append [] later m = refl
answers_append (line ∷ first) later m =
    rw (answers_append first later (line_executed line m).machine)
    (sym (append_assoc (reply_line (line_executed line m).reply) _ _))

-- ---- a restart behind a good `f`

module _ (budget n b : ℕ) (since : List Step) (g : good n b ≡ true) where
  abbrev list : List Step
  list = with_it (Restart budget) (Block 0) n b since

  abbrev gave : Outcome
  gave = yielded (Restart budget) (Block 0) n b since

  one_more : cabinet_after n b (zero_area n b) list ≡ cabinet_of gave
  one_more = ran_last since _ _

  demand : Demand3 n b (zero_area n b) list
  demand = demand_3 n b (zero_area n b) (done n b g) _

  -- the set that it names has disks of the cabinet only
  named-below : (set : ℕ) → gave.answer.state.power ≡ Running set → (d : ℕ) → has set d ≡ true → d < n
  named-below set p =
      let h = rw one_more at (invariant n b (zero_area n b) (done n b g) list) in
      (below_members set n).0 (rw h.disks at (rw p at h.proper.fit.power)).known

  -- what the memory of a machine holds that the restart has left
  held : (m : Machine) → cabinet_in m ≡ cabinet_after n b (zero_area n b) list → gave.answer.refusal ≡ 0
      → Hold (calls n b list) (current_of gave.answer.state.power) m.memory
  held m e z d k member hk =
      let (set, p, right) = demand.right (here (Restart budget) (Block 0) n b since) budget refl z in
      let (disks, blocks, size) = fits n b (done n b g) list in
      let left : take (area_size n b) m.memory ≡ (cabinet_after n b (zero_area n b) list).area =
      rw (ap (λ c. c.state.disks) e ∙ disks, ap (λ c. c.state.blocks) e ∙ blocks) at (ap (λ c. c.area) e) in
      let area : take (area_size n b) m.memory ≡ gave.area = left ∙ ap (λ c. c.area) one_more in
      let full : length (take (area_size n b) m.memory) ≡ area_size n b = rw left size in
      let m' : has set d ≡ true = rw p at member in
      block_in_memory n b m.memory full d k (named-below set p d m') hk ∙ rw area (right d k m' hk)

-- ---- a restart among the lines

module _ (memory : List ℕ) (size : length memory ≡ area_size most_disks most_blocks)
    {whole : List (List ℕ)} (c : LineIn whole) (budget : ℕ) (is : IsRestart c.this budget) where
  one_set : (executed_at memory c).reply.result ≢ 14
  unfolding call_reply reply_to
  one_set =
      call_line memory size c (Restart budget) (Block 0) is (λ reply t u. reply.result ≢ 14)
      (λ z. absurd (omega (arith, z)))
      (λ n b since known. (demand budget n b since known.good_format).one_set
      (here (Restart budget) (Block 0) n b since) budget refl)

  right : (executed_at memory c).reply.result ≡ 0
      → Hold (calls_since (up_to memory size c)) (executed_at memory c).reply.current
      (executed_at memory c).machine.memory
  unfolding call_reply reply_to
  right =
      call_line memory size c (Restart budget) (Block 0) is
      (λ reply t u. reply.result ≡ 0 → Hold u reply.current (executed_at memory c).machine.memory)
      (λ z. absurd (omega (arith, z)))
      (λ n b since known. rw (← machine_is memory size c)
      (held budget n b since known.good_format (behind memory (up_to memory size c)) known.left))

  finds : (n b : ℕ) (since : List Step) → calls_since c.before ≡ calls n b since
      → (behind memory c.before).state.power ≡ Stopped → (behind memory c.before).state.online ≡ all n
      → (g : ℕ) × (found_by (behind memory c.before).state ≡ one g)
      × (length (restart_list (behind memory c.before).state g) ≤ budget
      → (executed_at memory c).reply.result ≡ 0)
  unfolding call_reply reply_to
  finds n b since e =
      let known = (is_behind memory size c (Restart budget) (Block 0) is n b since e).1 in
      rw (known.replied, ap (λ w. w.state) known.given)
      ((demand budget n b since known.good_format).finds (here (Restart budget) (Block 0) n b since) budget refl)

pub program_meets_demand_3 : ProgramMeetsDemand3
unfolding transcript answers
program_meets_demand_3 memory size blocks = record {
  prints = blocks_print memory blocks;
  in_place = λ c. ap (λ xs. answers xs (machine_of zero_state memory)) c.here ∙ answers_append c.before _ _;
  leaves = ap (λ d. d.machine) (blocks_leave memory blocks);
  one_set = one_set memory size;
  right = right memory size;
  finds = finds memory size;
  reads_right = read_shows memory size;
  writes_count = write_counts memory size;
}
