-- Soundness is kept by every call, and given by fresh and assembling, so no call of a list gives 1. Assumes nothing.
use mathlib.Core.List.{List}
use Prim.Native.Nat.{ℕ}
use Rattle.protocol.specs.declared.State.{State}
use Rattle.protocol.specs.Soundness.{Proper}
use Rattle.protocol.specs.Saving.{save_outcome}
use Rattle.protocol.specs.Claims.{SoundnessKept}
use Rattle.protocol.proofs.Outcomes.{refused_or_lem}
use Rattle.protocol.proofs.Assembling.{assembled_proper}
use Rattle.protocol.proofs.Formatting.{format_proper}
use Rattle.protocol.proofs.Calls.{call_preserves}
use Rattle.protocol.proofs.Invariant.{invariant_before}

save_keeps : (s : State) (area slots : List ℕ) → Proper s → Proper (save_outcome s area slots).answer.state
unfolding save_outcome
save_keeps s area slots p = refused_or_lem _ s area slots _ (λ o. Proper o.answer.state) (λ ne. p) (λ e. p)

pub soundness_kept : SoundnessKept
soundness_kept = record {
  by_calls = λ x c. (call_preserves x.call x.bytes x.output c).proper;
  by_save = save_keeps;
  by_format = format_proper;
  by_assemble = assembled_proper;
  in_lists = λ n b lent done calls c.
      (call_preserves c.this.call c.this.bytes c.this.output _).accepts
      (invariant_before n b lent done c).proper.fit;
}
