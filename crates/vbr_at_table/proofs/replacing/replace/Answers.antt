use Rattle.std.proofs.Common.{inr}
use Rattle.std.proofs.Common.{ℕ, ◌≡◌, Some, sym, ap, ◌∙◌, subst, refl, rules}
use Rattle.vbr_machine.specs.Start.{Start, IsStart}
use denote.Bor.{Bor}
use Rattle.vbr_words.specs.Packing.{IsPackable, slot_bits, unpacked}
use Rattle.vbr_words.specs.Words.{link_of, word_of}
use Rattle.vbr_slots.specs.views.Views.{TableView}
use Rattle.vbr_at_table.specs.answers.Exchanges.{LosesExchange}
use Rattle.vbr_at_table.specs.reads.Held.{said, said_marked, said_rollback}
use Rattle.vbr_at_table.specs.answers.Replacing.{IsReplaceable, ReplacesHeld}
use Rattle.vbr_at_table.specs.answers.Values.{FillsEntry}
use Rattle.vbr_at_table.specs.declared.rollback.Rollback.TheVariants.{LostExchange}
use Rattle.vbr_machine.specs.Acceptance.{IsAtIn}
use Rattle.vbr_words.specs.declared.place.At.{At}
use Rattle.vbr_machine.specs.Links.{link_to, marked}
use Rattle.vbr_at_table.proofs.reads.KeptKnowledge.{held_kept, birth_named_kept}
use Rattle.vbr_at_table.proofs.steps.SaidWords.{layout_on}
use Rattle.vbr_at_table.proofs.steps.Accepted.{accepted_checked, place_in}
use Rattle.vbr_at_table.proofs.exchanges.Filled.{filled_there, fits_there, marked_room_there, in_hand_there}
use Rattle.vbr_at_table.proofs.exchanges.Filled.{valued_there}
use Rattle.vbr_at_table.proofs.exchanges.Replacements.{replace_accepted, replace_lost, replace_lost_keeps}
use Rattle.vbr_at_table.proofs.exchanges.Replacements.{replace_stores, replace_told, replace_writes, key_on, value_on}
use Rattle.vbr_at_table.proofs.exchanges.Storing.{stores_lost}
use Rattle.vbr_at_table.specs.answers.Records.{PublishesSlot}
use Rattle.vbr_at_table.proofs.answers.Records.{replaced_slot}
use Rattle.vbr_at_table.proofs.replacing.replace.Goals as goal

pub marked_link_to-word-requires : goal.marked_link_to-word-requires
marked_link_to-word-requires g c =
    let same = sym c.fill.ensures.table.slots in
    let G : Bor TableView → Type 0 = λ s. IsReplaceable c.args.at.now.stepper.now.trace (said s.now c.args.held.now)
    c.args.key c.args.next_birth in
    let node = subst G same c.requires.node in
    let F : Bor TableView → Type 0 = λ s. FillsEntry c.args.at.now.stepper.now c.fill.new.at.stepper.now
    (said s.now c.args.held.now) c.args.hand c.args.key c.args.value c.args.next_birth in
    let filled = subst F same c.fill.ensures.fills in
    let held = held_kept (said c.fill.new.at.slots.now c.args.held.now) c.fill.ensures.stores.keeps node.present.held in
    let one = fits_there filled c.slot-new.ensures c.law.ensures c.requires.hand.slot held c.birth.ensures in
    let S : Start → Type 0 = λ start. IsPackable (slot_bits start.shape.slots)
    (word_of (marked (link_to (Some c.slot-new.result) c.args.held.now.birth c.birth.result))) in
    let B : ℕ → Type 0 = λ b. IsPackable b
    (word_of (marked (link_to (Some c.slot-new.result) c.args.held.now.birth c.birth.result))) in
    record {
      fits = record { slot = one.slot; version = one.version };
      room = subst B (sym (layout_on c.layout-layout.ensures.layout c.fill.ensures.table))
          (subst S c.fill.new.at.own.1
          (marked_room_there filled c.slot-new.ensures c.law.ensures c.requires.hand.slot held c.birth.ensures));
    }

pub replace-requires-clause-slot : goal.replace-requires-clause-slot
replace-requires-clause-slot g c =
    let same = sym c.fill.ensures.table.slots in
    let G : Bor TableView → Type 0 = λ s. IsReplaceable c.args.at.now.stepper.now.trace (said s.now c.args.held.now)
    c.args.key c.args.next_birth in
    let node = subst G same c.requires.node in
    let P : Start → Type 0 = λ start. IsAtIn start c.args.held.now.at in
    let Q : At → Type 0 = IsAtIn c.fill.new.at.slots.now.start in
    subst Q c.in-Slot.is
    (subst P (c.fill.new.at.own.1)
    (place_in c.fill.new.at.stepper.now c.law.ensures (said c.fill.new.at.slots.now c.args.held.now)
    (held_kept (said c.fill.new.at.slots.now c.args.held.now) c.fill.ensures.stores.keeps node.present.held)))

pub replace-requires-clause-values : goal.replace-requires-clause-values
replace-requires-clause-values g c =
    ap (λ (d : Start). d.shape.values) (sym c.fill.new.at.own.1 ∙ c.fill.ensures.fills.fills.quiet.same.start)
    ∙ c.requires.node.has_values

pub replace-requires-clause-checked : goal.replace-requires-clause-checked
replace-requires-clause-checked g c =
    let same = sym c.fill.ensures.table.slots in
    let G : Bor TableView → Type 0 = λ s. IsReplaceable c.args.at.now.stepper.now.trace (said s.now c.args.held.now)
    c.args.key c.args.next_birth in
    let node = subst G same c.requires.node in
    let F : Bor TableView → Type 0 = λ s. FillsEntry c.args.at.now.stepper.now c.fill.new.at.stepper.now
    (said s.now c.args.held.now) c.args.hand c.args.key c.args.value c.args.next_birth in
    let filled = subst F same c.fill.ensures.fills in
    let p = c.fill.new.at.stepper.now in
    let k = c.fill.ensures.stores.keeps in
    let in_hand = in_hand_there filled c.slot-new.ensures c.law.ensures c.requires.hand.slot in
    let has = ap (λ (d : Start). d.shape.values) filled.fills.quiet.same.start
    ∙ node.has_values in
    let old = node.valued node.has_values in
    accepted_checked c.fill.new.at.own
    (replace_accepted p c.law.ensures (said c.fill.new.at.slots.now c.args.held.now) c.in-Slot.slot c.slot-new.result
    c.args.key c.args.hand.birth
    c.args.next_birth (held_kept (said c.fill.new.at.slots.now c.args.held.now) k node.present.held) c.in-Slot.is
    (filled_there filled c.slot-new.ensures)
    c.args.value old.0 has (valued_there filled c.slot-new.ensures has)
    node.present.unmarked in_hand.0
    (birth_named_kept (link_of (said c.fill.new.at.slots.now c.args.held.now).word).slot c.args.next_birth k node.birth)
    (key_on c.args.held.now.at c.args.key k node.key_is) (value_on c.args.held.now.at old.0 k old.1))

pub replace-requires-clause-word : goal.replace-requires-clause-word
replace-requires-clause-word g c =
    let same = sym c.fill.ensures.table.slots in
    let G : Bor TableView → Type 0 = λ s. IsReplaceable c.args.at.now.stepper.now.trace (said s.now c.args.held.now)
    c.args.key c.args.next_birth in
    let node = subst G same c.requires.node in
    let F : Bor TableView → Type 0 = λ s. FillsEntry c.args.at.now.stepper.now c.fill.new.at.stepper.now
    (said s.now c.args.held.now) c.args.hand c.args.key c.args.value c.args.next_birth in
    let filled = subst F same c.fill.ensures.fills in
    let W : ℕ → Type 0 = λ b. unpacked b c.marked_link_to-word.result ≡ word_of
    (marked (link_to (Some c.slot-new.result) c.args.held.now.birth c.birth.result)) in
    let word_is = subst W (layout_on c.layout-layout.ensures.layout c.fill.ensures.table)
    c.marked_link_to-word.ensures.word in
    replace_writes c.fill.new.at.stepper.now c.law.ensures (said c.fill.new.at.slots.now c.args.held.now) c.in-Slot.slot
    c.slot-new.result c.args.key
    c.args.hand.birth c.args.next_birth
    (held_kept (said c.fill.new.at.slots.now c.args.held.now) c.fill.ensures.stores.keeps node.present.held)
    c.in-Slot.is
    (filled_there filled c.slot-new.ensures) word_is c.birth.ensures

pub returns-in-Ok-clause-stores : goal.returns-in-Ok-clause-stores
returns-in-Ok-clause-stores g c =
    replace_stores c.fill.ensures.stores c.in-Ok.ensures.found
    (c.fill.ensures.fills.fills.hand ∙ c.requires.hand.slot ∙ ap Some (sym c.slot-new.ensures))

pub returns-in-Ok-clause-replaced : goal.returns-in-Ok-clause-replaced
returns-in-Ok-clause-replaced g c =
    let same = sym c.fill.ensures.table.slots in
    let G : Bor TableView → Type 0 = λ s. IsReplaceable c.args.at.now.stepper.now.trace (said s.now c.args.held.now)
    c.args.key c.args.next_birth in
    let node = subst G same c.requires.node in
    let F : Bor TableView → Type 0 = λ s. FillsEntry c.args.at.now.stepper.now c.fill.new.at.stepper.now
    (said s.now c.args.held.now) c.args.hand c.args.key c.args.value c.args.next_birth in
    let filled = subst F same c.fill.ensures.fills in
    let L : ℕ → Type 0 = λ b. link_of (unpacked b c.marked_link_to-word.result) ≡ marked
    (link_to (Some c.slot-new.result) c.args.held.now.birth c.birth.result) in
    let link_is = subst L (layout_on c.layout-layout.ensures.layout c.fill.ensures.table)
    c.marked_link_to-word.ensures.link in
    let p = c.fill.new.at.stepper.now in
    let k = c.fill.ensures.stores.keeps in
    let has = ap (λ (d : Start). d.shape.values) filled.fills.quiet.same.start
    ∙ node.has_values in
    let P : Bor TableView → Type 0 = λ s. ReplacesHeld c.args.at.now.stepper.now c.replace.new.self.stepper.now
    (said s.now c.args.held.now) c.args.key c.args.value (said_marked s.now (record {
      slot = c.in-Slot.slot;
      birth = c.args.held.now.birth;
      word = c.marked_link_to-word.result;
      epoch = c.args.held.now.epoch;
    })) in
    subst P c.fill.ensures.table.slots (
    replace_told c.args.at.now.stepper.now p c.replace.new.self.stepper.now
    (said c.fill.new.at.slots.now c.args.held.now) c.in-Slot.slot
    c.slot-new.result c.args.key c.args.hand.birth c.args.next_birth c.args.value
    (unpacked (slot_bits c.fill.new.at.slots.now.start.shape.slots) c.marked_link_to-word.result)
    (subst IsStart filled.fills.quiet.same.start c.law.ensures.start) c.law.ensures
    filled.fills.quiet k (held_kept (said c.fill.new.at.slots.now c.args.held.now) k node.present.held) c.in-Slot.is
    (filled_there filled c.slot-new.ensures)
    filled.fills.unchanged has
    (valued_there filled c.slot-new.ensures has) node.key_is
    (link_is
    ∙ ap (λ (b : ℕ). marked (link_to (Some c.slot-new.result) (said c.fill.new.at.slots.now c.args.held.now).birth b))
    c.birth.ensures)
    c.in-Ok.ensures.found.did (search rules))

pub returns-in-Ok-clause-published : goal.returns-in-Ok-clause-published
returns-in-Ok-clause-published g c =
    let same = sym c.fill.ensures.table.slots in
    let G : Bor TableView → Type 0 = λ s. IsReplaceable c.args.at.now.stepper.now.trace (said s.now c.args.held.now)
    c.args.key c.args.next_birth in
    let node = subst G same c.requires.node in
    let F : Bor TableView → Type 0 = λ s. FillsEntry c.args.at.now.stepper.now c.fill.new.at.stepper.now
    (said s.now c.args.held.now) c.args.hand c.args.key c.args.value c.args.next_birth in
    let filled = subst F same c.fill.ensures.fills in
    let P : ℕ → Type 0 =
    λ s. PublishesSlot c.args.at.now.stepper.now.trace c.replace.new.self.stepper.now.trace s c.args.hand.birth
    c.args.key in
    subst P c.slot-new.ensures
    (replaced_slot c.law.ensures.start filled.fills.quiet
    (filled_there filled c.slot-new.ensures) c.in-Ok.ensures.found.did)

pub returns-in-Err-clause-stores : goal.returns-in-Err-clause-stores
returns-in-Err-clause-stores g c =
    let lost = c.in-Err.ensures.other in
    stores_lost c.fill.ensures.stores lost refl
    (inr (c.fill.ensures.fills.fills.hand ∙ c.requires.hand.slot ∙ ap Some (sym c.slot-new.ensures)))
    (replace_lost_keeps lost.did lost.unexpected)

pub returns-in-Err-clause-lost : goal.returns-in-Err-clause-lost
returns-in-Err-clause-lost g c =
    let same = sym c.fill.ensures.table.slots in
    let G : Bor TableView → Type 0 = λ s. IsReplaceable c.args.at.now.stepper.now.trace (said s.now c.args.held.now)
    c.args.key c.args.next_birth in
    let node = subst G same c.requires.node in
    let F : Bor TableView → Type 0 = λ s. FillsEntry c.args.at.now.stepper.now c.fill.new.at.stepper.now
    (said s.now c.args.held.now) c.args.hand c.args.key c.args.value c.args.next_birth in
    let filled = subst F same c.fill.ensures.fills in
    let L : Bor TableView → Type 0 = λ s. LosesExchange c.args.at.now.stepper.now.trace
    c.replace.new.self.stepper.now.trace
    (said s.now c.args.held.now) (said_rollback s.now (LostExchange c.in-Err.found)) in
    record {
      same = search rules;
      hand = search rules;
      exchange = subst L c.fill.ensures.table.slots
          (replace_lost (said c.fill.new.at.slots.now c.args.held.now) c.in-Slot.is c.law.ensures.start
          filled.fills.quiet
          filled.fills.unchanged c.fill.ensures.stores.keeps c.in-Err.ensures.other.did
          c.in-Err.ensures.other.unexpected);
    }
