-- What is told of link words as a table keeps them, in the numbers by which steps are named.
use Rattle.std.proofs.Common.{◌≡◌, ◌≢◌, ℕ, sym, ap, ◌∙◌}
use Rattle.vbr_words.specs.Packing.{packed, slot_bits, unpacked}
use Rattle.vbr_words.specs.declared.link.TheConstants.{SLOT_BITS}
use Rattle.vbr_words.proofs.Lemmas.{packed-unpacked}
use Rattle.std.proofs.Common.{◌≤◌}
use Rattle.vbr_machine.specs.declared.event.Step.{Step}
use Rattle.vbr_slots.specs.steps.Expected.{FindsOther}
use Rattle.vbr_slots.specs.views.Views.{Did, KeepsPool, PassView, TableView}
use Rattle.vbr_slots.specs.words.WideWords.{wide_in}

-- the number that a step names, by the layout of the table
pub named_as : (table : TableView) (layout word wide : ℕ) → layout ≡ slot_bits table.start.shape.slots →
    wide ≡ unpacked layout word → wide ≡ wide_in table word
named_as table layout word wide is named = named ∙ ap (λ (b : ℕ). unpacked b word) is

-- words that differ have numbers that differ
pub wide_other : (table : TableView) (layout a b : ℕ) → layout ≡ slot_bits table.start.shape.slots →
    layout ≤ SLOT_BITS → a ≢ b → wide_in table a ≢ wide_in table b
wide_other table layout a b is few other same =
    other (sym (packed-unpacked layout a few)
    ∙ ap (packed layout) (ap (λ (n : ℕ). unpacked n a) is ∙ same ∙ sym (ap (λ (n : ℕ). unpacked n b) is))
    ∙ packed-unpacked layout b few)

-- so a step that found another word than the expected one is told
pub finds_other : (table : TableView) (layout expected found : ℕ) (step : Step) {p q : PassView} →
    layout ≡ slot_bits table.start.shape.slots → layout ≤ SLOT_BITS → found ≢ expected →
    Did step p.trace q.trace (wide_in table found) → KeepsPool p q →
    FindsOther step p q (wide_in table expected) (wide_in table found)
finds_other table layout expected found step is few other did keeps = record {
  did = did;
  unexpected = wide_other table layout found expected is few other;
  keeps = keeps;
}
