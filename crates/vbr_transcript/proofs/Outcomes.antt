-- What the outcomes of a script say of the calls of each worker, and of the phases.
use Rattle.std.proofs.Common.{◌≡◌, ℕ, ◌<◌, ◌≤◌, Bool, true, false, cond, eqb, List, [], ◌∷◌, ◌++◌, length, map, inl}
use Rattle.std.proofs.Common.{inr, refl, sym, ap, ap₂, subst, ◌∙◌, arith}
use Rattle.std.proofs.lemmas.Bool.{cases_Bool, eq-eqb}
use Rattle.std.proofs.lemmas.Bool.Decides.{nat_tests}
use Rattle.std.proofs.lemmas.List.Elements.{All-nil, All-cons, All-head, All-tail}
use Rattle.std.proofs.lemmas.Slice.Zip.{firsts-zip}
use Rattle.std.specs.Prelude.{nat_le, zip, All}
use Rattle.vbr_machine.specs.History.{calls_by}
use Rattle.vbr_machine.specs.declared.history.Call.{Call}
use Rattle.vbr_machine.proofs.Lemmas.{calls_by-append}
use Rattle.vbr_transcript.specs.Calls.{Outcome, answer_of, answered_calls, lines_by, lines_up_to, outcomes_by}
use Rattle.vbr_transcript.specs.Calls.{outcomes_up_to}
use Rattle.vbr_script.specs.Scripts.{AscendFrom}
use Rattle.vbr_script.specs.declared.script.Kind.{Kind}
use Rattle.vbr_script.specs.declared.script.Line.{Line}
use Rattle.vbr_transcript.specs.declared.reply.Reply.{Reply}
use Rattle.vbr_transcript.specs.declared.reply.Reply.TheVariants.{Yes, Value, No, Full, Spent, Tired}
use Rattle.vbr_transcript.proofs.Filters.{filter_swap, filter-map, zip_parts}

-- ---- calls

-- nothing is kept of nothing
none_kept : (b : Bool) → cond {A = List Call} b [] [] ≡ []
none_kept true = refl
none_kept false = refl

-- an answer is a call of its worker
calls_by-answer : (kind : Kind) (who : ℕ) (line : Line) (reply : Reply) →
    calls_by who (answer_of kind line reply) ≡ cond (eqb line.worker who) (answer_of kind line reply) []
calls_by-answer kind who line Yes = refl
calls_by-answer kind who line (Value value) = refl
calls_by-answer kind who line No = refl
calls_by-answer kind who line Full = sym (none_kept (eqb line.worker who))
calls_by-answer kind who line Spent = sym (none_kept (eqb line.worker who))
calls_by-answer kind who line Tired = sym (none_kept (eqb line.worker who))

-- an outcome that is kept, or not, before the rest
answered-kept : (kind : Kind) (b : Bool) (outcome : Outcome) (rest : List Outcome) →
    cond b (answer_of kind outcome.0 outcome.1) [] ++ answered_calls kind rest
    ≡ answered_calls kind (cond b (outcome ∷ rest) rest)
answered-kept kind true outcome rest = refl
answered-kept kind false outcome rest = refl

-- the answered calls of a worker are those of its outcomes
pub calls_by-answered : (kind : Kind) (who : ℕ) (outcomes : List Outcome) →
    calls_by who (answered_calls kind outcomes) ≡ answered_calls kind (outcomes_by who outcomes)
calls_by-answered kind who [] = refl
calls_by-answered kind who (outcome ∷ outcomes) =
    calls_by-append who (answer_of kind outcome.0 outcome.1) (answered_calls kind outcomes)
    ∙ ap₂ (λ (a b : List Call). a ++ b) (calls_by-answer kind who outcome.0 outcome.1)
    (calls_by-answered kind who outcomes)
    ∙ answered-kept kind (eqb outcome.0.worker who) outcome (outcomes_by who outcomes)

-- ---- workers

-- the lines of a worker are those of its outcomes
lines_of_outcomes : (who : ℕ) (lines : List Line) (replies : List Reply) → length replies ≡ length lines →
    map (λ (outcome : Outcome). outcome.0) (outcomes_by who (zip lines replies)) ≡ lines_by who lines
lines_of_outcomes who lines replies same =
    sym (filter-map (λ (line : Line). eqb line.worker who) (λ (outcome : Outcome). outcome.0) (zip lines replies))
    ∙ ap (lines_by who) (firsts-zip lines replies same)

-- the outcomes of a worker are its lines beside its replies
pub outcomes_by-own : (who : ℕ) (lines : List Line) (replies own : List Reply) → length replies ≡ length lines →
    map (λ (outcome : Outcome). outcome.1) (outcomes_by who (zip lines replies)) ≡ own →
    outcomes_by who (zip lines replies) ≡ zip (lines_by who lines) own
outcomes_by-own who lines replies own same is =
    sym (zip_parts (outcomes_by who (zip lines replies)))
    ∙ ap₂ (λ (a : List Line) (b : List Reply). zip a b) (lines_of_outcomes who lines replies same) is

-- what holds of the outcomes of each worker holds of all
pub all_outcomes : (P : Outcome → Type 0) (workers : ℕ) (outcomes : List Outcome) →
    All (λ outcome. outcome.0.worker < workers) outcomes →
    ((who : ℕ) → who < workers → All P (outcomes_by who outcomes)) → All P outcomes
all_outcomes P workers [] within own = All-nil P
all_outcomes P workers (outcome ∷ outcomes) within own =
    let here : outcome.0.worker < workers = All-head (λ (o : Outcome). o.0.worker < workers) outcome outcomes within in
    let kept : outcomes_by outcome.0.worker (outcome ∷ outcomes) ≡ outcome ∷ outcomes_by outcome.0.worker outcomes =
    rw (eq-eqb outcome.0.worker outcome.0.worker refl) refl in
    All-cons P outcome outcomes
    (All-head P outcome (outcomes_by outcome.0.worker outcomes) (subst (All P) kept (own outcome.0.worker here)))
    (all_outcomes P workers outcomes (All-tail (λ (o : Outcome). o.0.worker < workers) outcome outcomes within)
    (λ who below. rest (eqb outcome.0.worker who) (outcomes_by who outcomes) (own who below)))
  where
    rest : (b : Bool) (others : List Outcome) → All P (cond b (outcome ∷ others) others) → All P others
    rest true others all = All-tail P outcome others all
    rest false others all = all

-- ---- phases

-- lines that ascend from a phase ascend from an earlier one
pub ascend_lower : (low high : ℕ) (lines : List Line) → low ≤ high → AscendFrom high lines → AscendFrom low lines
ascend_lower low high [] below up = tt
ascend_lower low high (line ∷ lines) below up = (omega (arith, up.0), up.1)

-- the lines of a worker ascend as all do
pub lines_by-ascend : (who phase : ℕ) (lines : List Line) → AscendFrom phase lines →
    AscendFrom phase (lines_by who lines)
lines_by-ascend who phase [] up = tt
lines_by-ascend who phase (line ∷ lines) up =
    kept (eqb line.worker who) (lines_by who lines) (lines_by-ascend who line.phase lines up.1)
  where
    kept : (b : Bool) (rest : List Line) → AscendFrom line.phase rest → AscendFrom phase (cond b (line ∷ rest) rest)
    kept true rest more = (up.0, more)
    kept false rest more = ascend_lower phase line.phase rest up.0 more

-- beyond a phase there are no lines up to it
beyond : (phase from : ℕ) (lines : List Line) (replies : List Reply) → phase < from → AscendFrom from lines →
    (lines_up_to phase lines ≡ []) × (outcomes_up_to phase (zip lines replies) ≡ [])
beyond phase from [] replies past up = (refl, refl)
beyond phase from (line ∷ lines) [] past up =
    let fails : nat_le line.phase phase ≡ false = let low = up.0 in grind (arith, nat_tests) in
    (rw fails (beyond phase line.phase lines [] (omega (arith, up.0)) up.1).0, refl)
beyond phase from (line ∷ lines) (reply ∷ replies) past up =
    let fails : nat_le line.phase phase ≡ false = let low = up.0 in grind (arith, nat_tests) in
    let rest = beyond phase line.phase lines replies (omega (arith, up.0)) up.1 in
    (rw fails rest.0, rw fails rest.1)

-- where phases ascend, the outcomes up to a phase are the lines up to it beside the replies
pub outcomes_up_to-zip : (phase from : ℕ) (lines : List Line) (replies : List Reply) → AscendFrom from lines →
    outcomes_up_to phase (zip lines replies) ≡ zip (lines_up_to phase lines) replies
outcomes_up_to-zip phase from [] replies up = refl
outcomes_up_to-zip phase from (line ∷ lines) [] up = sym (nothing (lines_up_to phase (line ∷ lines)))
  where
    nothing : (some : List Line) → zip {X = Reply} some [] ≡ []
    nothing [] = refl
    nothing (line ∷ lines) = refl
outcomes_up_to-zip phase from (line ∷ lines) (reply ∷ replies) up = elim (cases_Bool (nat_le line.phase phase)) [
  | inl within ↦
      rw within (ap (λ (rest : List Outcome). (line, reply) ∷ rest)
      (outcomes_up_to-zip phase line.phase lines replies up.1))
  | inr past ↦
      let late : phase < line.phase = grind (arith, nat_tests) in
      let none = beyond phase line.phase lines replies late up.1 in
      rw past (rw (none.0, none.1) refl)
]

-- the lines of one worker, up to a phase: in either order
pub lines_by-up_to : (who phase : ℕ) (lines : List Line) →
    lines_by who (lines_up_to phase lines) ≡ lines_up_to phase (lines_by who lines)
lines_by-up_to who phase lines =
    filter_swap (λ (line : Line). eqb line.worker who) (λ (line : Line). nat_le line.phase phase) lines

-- and so its outcomes
pub outcomes_by-up_to : (who phase : ℕ) (outcomes : List Outcome) →
    outcomes_by who (outcomes_up_to phase outcomes) ≡ outcomes_up_to phase (outcomes_by who outcomes)
outcomes_by-up_to who phase outcomes =
    filter_swap (λ (outcome : Outcome). eqb outcome.0.worker who) (λ (outcome : Outcome). nat_le outcome.0.phase phase)
    outcomes
