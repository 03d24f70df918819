-- A phase's lines as a slice of the script's: what is played of it comes after what was played before.
use Rattle.std.proofs.Common.{◌≡◌, ℕ, suc, ◌+◌, ◌<◌, ◌≤◌, true, false, eqb, List, [], ◌∷◌, ◌++◌, length, take, drop}
use Rattle.std.proofs.Common.{inl, inr, refl, sym, ap, ap₂, subst, ◌∙◌, append-nil, arith, length-append}
use Rattle.std.proofs.lemmas.Bool.{cases_Bool}
use Rattle.std.proofs.lemmas.Bool.Decides.{nat_tests}
use Rattle.std.proofs.lemmas.List.Concat.{flat_map-append}
use Rattle.std.proofs.lemmas.List.Elements.{All-nil, All-cons, All-head, filter-append}
use Rattle.std.specs.Prelude.{nat_le, zip, All}
use Rattle.std.specs.List.{prefix_len}
use Rattle.vbr_machine.specs.declared.history.Call.{Call}
use Rattle.vbr_transcript.specs.Calls.{Outcome, answer_of, answered_calls, lines_by, lines_up_to}
use Rattle.vbr_script.specs.Scripts.{AscendFrom}
use Rattle.vbr_script.specs.declared.script.Kind.{Kind}
use Rattle.vbr_script.specs.declared.script.Line.{Line}
use Rattle.vbr_transcript.specs.declared.reply.Reply.{Reply}
use Rattle.vbr_transcript.proofs.Lemmas.{filter_all, filter_none, zip-append}

-- ---- what one worker plays of it

-- the lines of a worker, and the answered calls, of two parts
pub lines_by-append : (who : ℕ) (front back : List Line) →
    lines_by who (front ++ back) ≡ lines_by who front ++ lines_by who back
lines_by-append who front back = filter-append (λ (line : Line). eqb line.worker who) front back

pub answered-append : (kind : Kind) (front back : List Outcome) →
    answered_calls kind (front ++ back) ≡ answered_calls kind front ++ answered_calls kind back
answered-append kind front back = flat_map-append (λ (outcome : Outcome). answer_of kind outcome.0 outcome.1) front back

-- the calls of a worker's next lines come after those of the lines before
pub called_more : (kind : Kind) (who : ℕ) (front back : List Line) (old more : List Reply) (before after : List Call) →
    length old ≡ length (lines_by who front) → before ≡ answered_calls kind (zip (lines_by who front) old) →
    after ≡ before ++ answered_calls kind (zip (lines_by who back) more) →
    after ≡ answered_calls kind (zip (lines_by who (front ++ back)) (old ++ more))
called_more kind who front back old more before after same was is =
    is
    ∙ ap (λ (calls : List Call). calls ++ answered_calls kind (zip (lines_by who back) more)) was
    ∙ sym (answered-append kind (zip (lines_by who front) old) (zip (lines_by who back) more))
    ∙ ap (answered_calls kind)
    (sym (zip-append (lines_by who front) (lines_by who back) old more same)
    ∙ ap (λ (lines : List Line). zip lines (old ++ more)) (sym (lines_by-append who front back)))

-- a worker that has a reply to each of its lines has one to each of more lines, where it got as many as are its own
pub replied_more : (who : ℕ) (front back : List Line) (old more : List Reply) →
    length old ≡ length (lines_by who front) → length more ≡ length (lines_by who back) →
    length (old ++ more) ≡ length (lines_by who (front ++ back))
replied_more who front back old more same as_many =
    rw lines_by-append
    (omega (arith, same, as_many, length-append old more, length-append (lines_by who front) (lines_by who back)))

-- ---- the slice of a phase

-- lines that ascend from a phase are all of it or later ones
pub all_from : (from low : ℕ) (lines : List Line) → low ≤ from → AscendFrom from lines →
    All (λ line. low ≤ line.phase) lines
all_from from low [] below up = All-nil (λ (line : Line). low ≤ line.phase)
all_from from low (line ∷ lines) below up =
    All-cons (λ (line : Line). low ≤ line.phase) line lines (omega (arith, below, up.0))
    (all_from line.phase low lines (omega (arith, below, up.0)) up.1)

-- what lines are cut into: the first of them, of the phases up to one, and those of later phases
abbrev pub CutsAt : ℕ → List Line → ℕ → Type 0
CutsAt phase rest n = All (λ line. line.phase ≤ phase) (take n rest) × AscendFrom (phase + 1) (drop n rest)

-- they are cut where the first line of a later phase stands
pub next_phase : (phase from : ℕ) (rest : List Line) → AscendFrom from rest →
    CutsAt phase rest (prefix_len (λ line. nat_le line.phase phase) rest)
next_phase phase from [] up = (All-nil (λ (line : Line). line.phase ≤ phase), tt)
next_phase phase from (line ∷ lines) up = elim (cases_Bool (nat_le line.phase phase)) [
  | inl this ↦
      let low : line.phase ≤ phase = grind (arith, nat_tests) in
      let rest = next_phase phase line.phase lines up.1 in
      let len : suc (prefix_len (λ (line : Line). nat_le line.phase phase) lines)
      ≡ prefix_len (λ (line : Line). nat_le line.phase phase) (line ∷ lines) = rw this (omega arith) in
      subst (CutsAt phase (line ∷ lines)) len (All-cons (λ (line : Line). line.phase ≤ phase) line _ low rest.0, rest.1)
  | inr other ↦
      let len : 0 ≡ prefix_len (λ (line : Line). nat_le line.phase phase) (line ∷ lines) = rw other refl in
      let past : phase + 1 ≤ line.phase = grind (arith, nat_tests) in
      subst (CutsAt phase (line ∷ lines)) len (All-nil (λ (line : Line). line.phase ≤ phase), (past, up.1))
]

-- the lines up to a phase are those in front of the lines of later ones
pub lines_up_to-front : (phase : ℕ) (front back : List Line) → All (λ line. line.phase ≤ phase) front →
    AscendFrom (phase + 1) back → lines_up_to phase (front ++ back) ≡ front
lines_up_to-front phase front back within up =
    filter-append (λ (line : Line). nat_le line.phase phase) front back
    ∙ ap₂ (λ (a b : List Line). a ++ b)
    (filter_all (λ (line : Line). nat_le line.phase phase) front (λ k d inside. yes_le (within k d inside)))
    (filter_none (λ (line : Line). nat_le line.phase phase) back
    (λ k d inside. no_le (all_from (phase + 1) (phase + 1) back (omega arith) up k d inside)))
    ∙ append-nil front
  where
    yes_le : {n : ℕ} → n ≤ phase → nat_le n phase ≡ true
    yes_le low = grind (arith, nat_tests)

    no_le : {n : ℕ} → phase + 1 ≤ n → nat_le n phase ≡ false
    no_le high = grind (arith, nat_tests)

-- lines from the number of phases on are none
pub none_left : (phases : ℕ) (rest : List Line) → AscendFrom phases rest → All (λ line. line.phase < phases) rest →
    rest ≡ []
none_left phases [] up below = refl
none_left phases (line ∷ lines) up below =
    absurd (let late = up.0 in
    let early : line.phase < phases = All-head (λ (line : Line). line.phase < phases) line lines below in
    omega arith)
