-- A call among the lines: behind a good `f` it is the last call of a list, and before one it is refused. Assumes
-- nothing.
use mathlib.Core.Path.{◌≡◌, refl, ap, ◌∙◌}
use mathlib.Core.Bool.{true}
use mathlib.Core.List.{List, [], ◌∷◌, ◌++◌, map-append}
use Prim.Native.Nat.{ℕ}
use lib.ListN.{length}
use borrow.Author.Tests.{eqb-true}
use Rattle.protocol.specs.declared.Call.{Call}
use Rattle.protocol.specs.Geometry.{most_disks, most_blocks, area_size}
use Rattle.protocol.specs.Calls.{zero_area, format_outcome}
use Rattle.protocol.specs.Outcomes.{Outcome}
use Rattle.protocol.specs.States.{zero_state}
use Rattle.protocol.specs.History.{Step}
use Rattle.protocol.specs.Demand3.{CallIn, cabinet_after, result}
use Rattle.commands.specs.declared.Command.TheVariants.{Perform}
use Rattle.commands.specs.declared.Loan.{Loan}
use Rattle.commands.specs.Commands.{command_of}
use Rattle.replies.specs.declared.Reply.{Reply}
use Rattle.interpreter.specs.Execution.{machine_of, cabinet_in, step_of, call_reply, reply_to}
use Rattle.interpreter.specs.Histories.{machine_after, SinceFormat, unformatted, calls, good, with_command}
use Rattle.interpreter.specs.Histories.{since_format}
use Rattle.interpreter.specs.Histories.{Conforms}
use Rattle.interpreter.proofs.Histories.{commands_are_histories, machine_last, since_last}
use Rattle.program.specs.Demand3.{LineIn, commands_of, behind, calls_since, executed_at}

pub done : (n b : ℕ) → good n b ≡ true → (format_outcome (zero_area n b) [] n b).answer.refusal ≡ 0
done n b g = eqb-true _ 0 g

-- ---- a call behind others, as the last of a list

module _ (call : Call) (loan : Loan) (n b : ℕ) (since : List Step) where
  abbrev step : Step
  step = step_of call loan (cabinet_after n b (zero_area n b) since).state

  abbrev pub with_it : List Step
  with_it = since ++ (step ∷ [])

  abbrev pub here : CallIn with_it
  here = record { before = since; this = step; after = []; here = refl }

  abbrev pub yielded : Outcome
  yielded = result n b (zero_area n b) here

-- ---- the same among the lines

module _ (memory : List ℕ) (size : length memory ≡ area_size most_disks most_blocks)
    {whole : List (List ℕ)} (c : LineIn whole) where
  abbrev pub up_to : List (List ℕ)
  up_to = c.before ++ (c.this ∷ [])

  conforms : (lines : List (List ℕ)) → Conforms (calls_since lines) (behind memory lines)
  conforms lines = commands_are_histories memory size (commands_of lines)

  last : commands_of up_to ≡ commands_of c.before ++ (command_of c.this ∷ [])
  last = map-append command_of c.before (c.this ∷ [])

  pub machine_is : behind memory up_to ≡ (executed_at memory c).machine
  machine_is = ap (λ xs. machine_after xs (machine_of zero_state memory)) last ∙ machine_last _ _ _

  since_is : calls_since up_to ≡ with_command (command_of c.this) (calls_since c.before)
  since_is =
      ap (λ xs. since_format xs unformatted) last
      ∙ since_last (commands_of c.before) (command_of c.this) unformatted

  module _ (call : Call) (loan : Loan) (is : command_of c.this ≡ Perform call loan) where
    -- What is known of the line where these are the calls before it.
    pub record Behind (n b : ℕ) (since : List Step) : Type 0 where
      pub good_format : good n b ≡ true
      pub given : cabinet_in (behind memory c.before) ≡ cabinet_after n b (zero_area n b) since
      pub left : cabinet_in (behind memory up_to) ≡ cabinet_after n b (zero_area n b) (with_it call loan n b since)
      pub replied : (executed_at memory c).reply ≡ call_reply call (yielded call loan n b since)

    pub is_behind : (n b : ℕ) (since : List Step) → calls_since c.before ≡ calls n b since
        → (calls_since up_to ≡ calls n b (with_it call loan n b since)) × Behind n b since
    is_behind n b since e =
        let now : calls_since up_to ≡ calls n b (with_it call loan n b since) = since_is ∙ rw (is, e) in
        let earlier = rw e at (conforms c.before).left in
        let later = rw now at (conforms up_to).left in (
          now,
          record {
            good_format = earlier.0;
            given = earlier.1;
            left = later.1;
            replied = rw is ((conforms c.before).replies n b since e call loan);
          },
        )

    -- What holds of such a reply, and of that of a refused call before the first good `f`, holds of the line's.
    pub call_line : (P : Reply → SinceFormat → SinceFormat → Type 0)
        → P (reply_to 1 0 zero_state 0) unformatted unformatted
        → ((n b : ℕ) (since : List Step) → Behind n b since
        → P (call_reply call (yielded call loan n b since)) (calls n b since) (calls n b (with_it call loan n b since)))
        → P (executed_at memory c).reply (calls_since c.before) (calls_since up_to)
    call_line P first later = go (calls_since c.before) refl
      where
        go : (t : SinceFormat) → calls_since c.before ≡ t
            → P (executed_at memory c).reply (calls_since c.before) (calls_since up_to)
        go unformatted e =
            let none : calls_since up_to ≡ unformatted = since_is ∙ rw (is, e) in
            let refused : (executed_at memory c).reply ≡ reply_to 1 0 zero_state 0 =
            rw is ((conforms c.before).refused e call loan) in
            rw (refused, e, none) first
        go (calls n b since) e =
            let (now, known) = is_behind n b since e in
            rw (known.replied, e, now) (later n b since known)
