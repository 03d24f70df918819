-- The words of a world before and after a step.
use Rattle.std.proofs.Common.{◌≡◌, ℕ, ◌<◌, List, length, set, get_or, sym, ap, ◌∙◌, length-set, get_or-set_other}
use Rattle.std.proofs.Common.{get_or-set_same, arith}
use mathlib.Core.Logic.{dite}
use native.Mathlib.Decide.{ℕ_discrete}
use Rattle.vbr_machine.specs.Start.{Start}
use Rattle.vbr_words.specs.Places.{IsIn, index_of}
use Rattle.vbr_words.specs.declared.place.Place.{Place}
use Rattle.vbr_words.proofs.Lemmas.{index_of-lt, same_place}
use Rattle.vbr_machine.specs.Acceptance.{Accepts}
use Rattle.vbr_machine.specs.Machine.{word_made, World, place_of_step, word_at, access_of, found, after}
use Rattle.vbr_machine.specs.Agreement.{Agrees}
use Rattle.vbr_machine.specs.Incarnations.{Incarnations}
use Rattle.vbr_machine.specs.Notes.{Notes}
use Rattle.vbr_machine.specs.declared.event.Step.{Step}
use Rattle.vbr_slots.specs.words.Words.{AreWordsOf, kept_at}
use Rattle.vbr_machine.proofs.Lemmas.{place_in, word_elsewhere, word_here}

-- the words after a step are those before it with the step's word changed
pub words_after : (start : Start) (w : World) (a : Incarnations) (notes : ℕ → Notes) (p : ℕ) (step : Step) →
    Agrees start w a notes → Accepts start (w.know p) step → (words : List ℕ) → AreWordsOf start w words → (f : ℕ → ℕ)
    → f (kept_at start.shape (place_of_step step) (found start w step))
    ≡ kept_at start.shape (place_of_step step) (word_made (access_of (w.know p) step) (found start w step)) →
    AreWordsOf start (after start w p step)
    (set words (index_of start.shape (place_of_step step))
    (f (get_or words (index_of start.shape (place_of_step step)) 0)))
words_after start w a notes p step agrees ok words are f does =
    let i : ℕ = index_of start.shape (place_of_step step) in
    let in_step : IsIn start.shape (place_of_step step) = place_in start step ok.in_shape in
    let low : i < length words = let c = are.count in
    let l = index_of-lt start.shape (place_of_step step) in_step in
    omega arith in
    let v : ℕ = f (get_or words i 0) in
    let keeps : ℕ → ℕ = kept_at start.shape (place_of_step step) in
    let now : v ≡ keeps (word_at start (after start w p step) (place_of_step step)) =
    ap f (are.each (place_of_step step) in_step) ∙ does
    ∙ ap keeps (sym (word_here start w p step ok.in_shape)) in
    record {
      count = length-set words i v ∙ are.count;
      each = λ place is_in.
          dite (ℕ_discrete (index_of start.shape place) i)
          (λ same.
          ap (λ (j : ℕ). get_or (set words i v) j 0) same ∙ get_or-set_same words i v 0 low ∙ now
          ∙ ap (λ (q : Place). kept_at start.shape q (word_at start (after start w p step) q))
          (sym (same_place start.shape place (place_of_step step) is_in in_step same)))
          (λ other.
          get_or-set_other words i (index_of start.shape place) v 0 other ∙ are.each place is_in
          ∙ ap (kept_at start.shape place)
          (sym (word_elsewhere start w a notes p step place agrees ok
          (λ same. other (ap (index_of start.shape) same)))));
    }
