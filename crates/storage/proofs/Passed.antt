-- What a call that is not refused knows, before its first store. Assumes nothing.
use mathlib.Core.Path.{◌≡◌}
use mathlib.Core.List.{List}
use Prim.Native.Nat.{ℕ, ◌<◌}
use lib.ListN.{length}
use Rattle.refusals.specs.Refusals.{first_of}
use Rattle.protocol.specs.declared.State.{State}
use Rattle.protocol.specs.Geometry.{block_size}
use Rattle.protocol.specs.States.{live, source}
use Rattle.protocol.specs.Soundness.{Sound}
use Rattle.protocol.specs.Calls.{block_refusals, join_refusals}
use Rattle.protocol.proofs.States.{source_known}
use Rattle.protocol.proofs.Soundness.{live_known}
use Rattle.protocol.proofs.NotRefused.{Runs, block_passed, join_passed}
use Rattle.area.specs.Parts.{InArea}
use Rattle.budget.specs.Sizes.{SoundCabinet}
use Rattle.block_stores.proofs.Copying.{in_area}
use Rattle.budget.proofs.Sizes.{sound-fits}

-- read and write
module _ (s : State) (area : List ℕ) (k : ℕ) (bytes : List ℕ) (e : first_of (block_refusals s area k bytes) ≡ 0) where
  pub write_passed : SoundCabinet s area × (k < s.blocks) × (length bytes ≡ block_size)
  write_passed =
      let pass = block_passed s area k bytes e in
      (record { fit = pass.fit; size = pass.size }, pass.known, pass.full)

  pub read_passed : Sound s × Runs s.power
  read_passed =
      let pass = block_passed s area k bytes e in
      (pass.fit, pass.runs)

  pub load_passed : InArea s.blocks (source (live s)) k area
  load_passed =
      let pass = block_passed s area k bytes e in
      in_area s.disks s.blocks _ k area (sound-fits write_passed.0)
      (source_known s.disks (live s) pass.some (live_known s pass.fit)) pass.known

pub join_fits : (s : State) (area : List ℕ) (d : ℕ) → first_of (join_refusals s area d) ≡ 0
    → SoundCabinet s area × (0 < live s) × (d < s.disks)
join_fits s area d e =
    let pass = join_passed s area d e in
    (record { fit = pass.fit; size = pass.size }, pass.some, pass.known)
