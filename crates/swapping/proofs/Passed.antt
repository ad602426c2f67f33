-- What a swap that is not refused knows, before its first store. Assumes nothing.
use mathlib.Core.Path.{◌≡◌}
use mathlib.Core.List.{List}
use Prim.Native.Nat.{ℕ, ◌<◌}
use native.Mathlib.Omega.{arith}
use Rattle.refusals.specs.Refusals.{first_of}
use Rattle.protocol.specs.declared.State.{State}
use Rattle.protocol.specs.Geometry.{most_disks}
use Rattle.protocol.specs.Soundness.{Sound}
use Rattle.protocol.specs.Calls.{swap_refusals}
use Rattle.protocol.proofs.NotRefused.{swap_passed}
use Rattle.area.specs.Parts.{InArea}
use Rattle.area.proofs.Parts.{disk_in_area}

module _ (s : State) (area : List ℕ) (d : ℕ) (e : first_of (swap_refusals s area d) ≡ 0) where
  pub swap_sound : Sound s
  swap_sound = (swap_passed s area d e).fit

  pub known_disk : d < most_disks
  known_disk = let pass = swap_passed s area d e in omega (arith, pass.known, pass.fit.range.disks)

  pub disk_part : InArea s.blocks d 0 area
  disk_part =
      let pass = swap_passed s area d e in
      let range = pass.fit.range in
      disk_in_area s.disks s.blocks d 0 area range.disks range.blocks pass.size pass.known
      range.some_block
