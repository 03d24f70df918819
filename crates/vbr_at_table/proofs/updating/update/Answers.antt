use Rattle.std.proofs.Common.{inr}
use Rattle.std.proofs.Common.{ℕ, ◌≡◌, Some, sym, ap, ◌∙◌, subst, refl, rules}
use Rattle.vbr_machine.specs.Start.{Start}
use denote.Bor.{Bor}
use Rattle.vbr_words.specs.Packing.{IsPackable, slot_bits, unpacked}
use Rattle.vbr_words.specs.Words.{link_of, word_of}
use Rattle.vbr_machine.specs.Links.{link_to}
use Rattle.vbr_machine.specs.Acceptance.{IsAtIn}
use Rattle.vbr_machine.specs.Membership.{BirthNamed, StandsBehind}
use Rattle.vbr_slots.specs.views.Views.{TableView, knows}
use Rattle.vbr_at_table.proofs.reads.KeptKnowledge.{held_kept, birth_named_kept, behind_kept, before_kept}
use Rattle.vbr_at_table.proofs.steps.SaidWords.{layout_on}
use Rattle.vbr_at_table.proofs.exchanges.WonExchanges.{publish_lost_keeps}
use Rattle.vbr_at_table.proofs.steps.Accepted.{accepted_checked, place_in}
use Rattle.vbr_at_table.proofs.exchanges.Filled.{filled_there, fits_there, room_there, in_hand_there, publish_accepted}
use Rattle.vbr_at_table.proofs.exchanges.Filled.{publish_made}
use Rattle.vbr_at_table.proofs.exchanges.Filled.{publish_writes, valued_there}
use Rattle.vbr_at_table.proofs.own_slots.KeptSlots.{publish_stores}
use Rattle.vbr_at_table.proofs.exchanges.ExchangeCalls.{entry_told, publish_lost}
use Rattle.vbr_at_table.proofs.exchanges.Storing.{stores_lost}
use Rattle.vbr_at_table.proofs.answers.Records.{published_slot}
use Rattle.vbr_at_table.specs.answers.Exchanges.{IsGap, LosesExchange}
use Rattle.vbr_at_table.specs.answers.Values.{FillsEntry}
use Rattle.vbr_at_table.specs.reads.Held.{said, said_rollback}
use Rattle.vbr_at_table.specs.answers.Records.{PublishesSlot}
use Rattle.vbr_at_table.specs.declared.rollback.Rollback.TheVariants.{LostExchange}
use Rattle.vbr_at_table.proofs.updating.update.Goals as goal

pub link_to-new-requires : goal.link_to-new-requires
link_to-new-requires g c =
    let same = sym c.fill.ensures.table.slots in
    let G : Bor TableView → Type 0 = λ s. IsGap c.args.at.now.stepper.now.trace c.args.key
    (said s.now c.args.pred.now) in
    let gap = subst G same c.requires.gap in
    let F : Bor TableView → Type 0 = λ s. FillsEntry c.args.at.now.stepper.now c.fill.new.at.stepper.now
    (said s.now c.args.pred.now) c.args.hand c.args.key c.args.value c.birth_named-birth.result in
    let filled = subst F same c.fill.ensures.fills in
    let held = held_kept (said c.fill.new.at.slots.now c.args.pred.now) c.fill.ensures.stores.keeps gap.held in
    let S : Start → Type 0 = λ start.
    IsPackable (slot_bits start.shape.slots)
    (word_of (link_to (Some c.slot-slot.result) c.args.pred.now.birth c.birth.result)) in
    let B : ℕ → Type 0 = λ b.
    IsPackable b (word_of (link_to (Some c.slot-slot.result) c.args.pred.now.birth c.birth.result)) in
    record {
      fits = fits_there filled c.slot-slot.ensures c.law.ensures c.requires.hand.slot held c.birth.ensures;
      room = subst B (sym (layout_on c.layout-layout.ensures.layout c.fill.ensures.table))
          (subst S c.fill.new.at.own.1
          (room_there filled c.slot-slot.ensures c.law.ensures c.requires.hand.slot held c.birth.ensures));
    }

pub publish-requires-clause-pred : goal.publish-requires-clause-pred
publish-requires-clause-pred g c =
    let same = sym c.fill.ensures.table.slots in
    let G : Bor TableView → Type 0 = λ s. IsGap c.args.at.now.stepper.now.trace c.args.key
    (said s.now c.args.pred.now) in
    let gap = subst G same c.requires.gap in
    let P : Start → Type 0 = λ start. IsAtIn start c.args.pred.now.at in
    subst P c.fill.new.at.own.1
    (place_in c.fill.new.at.stepper.now c.law.ensures (said c.fill.new.at.slots.now c.args.pred.now)
    (held_kept (said c.fill.new.at.slots.now c.args.pred.now) c.fill.ensures.stores.keeps gap.held))

pub publish-requires-clause-checked : goal.publish-requires-clause-checked
publish-requires-clause-checked g c =
    let same = sym c.fill.ensures.table.slots in
    let G : Bor TableView → Type 0 = λ s. IsGap c.args.at.now.stepper.now.trace c.args.key
    (said s.now c.args.pred.now) in
    let gap = subst G same c.requires.gap in
    let F : Bor TableView → Type 0 = λ s. FillsEntry c.args.at.now.stepper.now c.fill.new.at.stepper.now
    (said s.now c.args.pred.now) c.args.hand c.args.key c.args.value c.birth_named-birth.result in
    let filled = subst F same c.fill.ensures.fills in
    let N : Bor TableView → Type 0 = λ s. BirthNamed (knows c.args.at.now.stepper.now.trace)
    (link_of (said s.now c.args.pred.now).word).slot c.birth_named-birth.result in
    let named = subst N same c.birth_named-birth.ensures in
    let p = c.fill.new.at.stepper.now in
    let k = c.fill.ensures.stores.keeps in
    let in_hand = in_hand_there filled c.slot-slot.ensures c.law.ensures c.requires.hand.slot in
    let P : Start → Type 0 = λ start. StandsBehind start (knows p.trace) c.args.pred.now.at c.args.key in
    accepted_checked c.fill.new.at.own
    (publish_accepted p c.law.ensures (said c.fill.new.at.slots.now c.args.pred.now) c.slot-slot.result c.args.key
    c.args.hand.birth
    c.birth_named-birth.result (held_kept (said c.fill.new.at.slots.now c.args.pred.now) k gap.held)
    (filled_there filled c.slot-slot.ensures)
    c.args.value (valued_there filled c.slot-slot.ensures)
    gap.unmarked in_hand.0
    (birth_named_kept (link_of (said c.fill.new.at.slots.now c.args.pred.now).word).slot c.birth_named-birth.result k
    named)
    (subst P (sym filled.fills.quiet.same.start)
    (behind_kept c.args.at.now.stepper.now.trace.start c.args.pred.now.at c.args.key k gap.behind))
    (before_kept c.args.key (link_of (said c.fill.new.at.slots.now c.args.pred.now).word).slot k gap.before))

pub publish-requires-clause-new : goal.publish-requires-clause-new
publish-requires-clause-new g c =
    let W : ℕ → Type 0 = λ b. unpacked b c.link_to-new.result ≡ word_of
    (link_to (Some c.slot-slot.result) c.args.pred.now.birth c.birth.result) in
    let same = sym c.fill.ensures.table.slots in
    let G : Bor TableView → Type 0 = λ s. IsGap c.args.at.now.stepper.now.trace c.args.key
    (said s.now c.args.pred.now) in
    let gap = subst G same c.requires.gap in
    let F : Bor TableView → Type 0 = λ s. FillsEntry c.args.at.now.stepper.now c.fill.new.at.stepper.now
    (said s.now c.args.pred.now) c.args.hand c.args.key c.args.value c.birth_named-birth.result in
    let filled = subst F same c.fill.ensures.fills in
    publish_writes c.fill.new.at.stepper.now c.law.ensures (said c.fill.new.at.slots.now c.args.pred.now)
    c.slot-slot.result c.args.key
    c.args.hand.birth c.birth_named-birth.result
    (held_kept (said c.fill.new.at.slots.now c.args.pred.now) c.fill.ensures.stores.keeps gap.held)
    (filled_there filled c.slot-slot.ensures)
    (subst W (layout_on c.layout-layout.ensures.layout c.fill.ensures.table) c.link_to-new.ensures.word)
    c.birth.ensures

pub returns-in-Ok-clause-stores : goal.returns-in-Ok-clause-stores
returns-in-Ok-clause-stores g c =
    publish_stores c.fill.ensures.stores c.in-Ok.ensures.found
    (c.fill.ensures.fills.fills.hand ∙ c.requires.hand.slot ∙ ap Some (sym c.slot-slot.ensures))

pub returns-in-Err-clause-stores : goal.returns-in-Err-clause-stores
returns-in-Err-clause-stores g c =
    let lost = c.in-Err.ensures.other in
    stores_lost c.fill.ensures.stores lost refl
    (inr (c.fill.ensures.fills.fills.hand ∙ c.requires.hand.slot ∙ ap Some (sym c.slot-slot.ensures)))
    (publish_lost_keeps lost.did lost.unexpected)

pub returns-in-Ok-clause-inserted : goal.returns-in-Ok-clause-inserted
returns-in-Ok-clause-inserted g c =
    let same = sym c.fill.ensures.table.slots in
    let G : Bor TableView → Type 0 = λ s. IsGap c.args.at.now.stepper.now.trace c.args.key
    (said s.now c.args.pred.now) in
    let gap = subst G same c.requires.gap in
    let F : Bor TableView → Type 0 = λ s. FillsEntry c.args.at.now.stepper.now c.fill.new.at.stepper.now
    (said s.now c.args.pred.now) c.args.hand c.args.key c.args.value c.birth_named-birth.result in
    let filled = subst F same c.fill.ensures.fills in
    let p = c.fill.new.at.stepper.now in
    let made = publish_made p c.law.ensures (said c.fill.new.at.slots.now c.args.pred.now) c.slot-slot.result c.args.key
    c.args.hand.birth
    c.birth_named-birth.result (held_kept (said c.fill.new.at.slots.now c.args.pred.now) c.fill.ensures.stores.keeps
    gap.held)
    (filled_there filled c.slot-slot.ensures) c.args.value
    (valued_there filled c.slot-slot.ensures)
    c.in-Ok.ensures.found.did in
    entry_told c.args.key c.args.value c.args.at.now.stepper.now p c.publish.new.self.stepper.now
    filled.fills.quiet made (search rules)

pub returns-in-Ok-clause-published : goal.returns-in-Ok-clause-published
returns-in-Ok-clause-published g c =
    let same = sym c.fill.ensures.table.slots in
    let G : Bor TableView → Type 0 = λ s. IsGap c.args.at.now.stepper.now.trace c.args.key
    (said s.now c.args.pred.now) in
    let gap = subst G same c.requires.gap in
    let F : Bor TableView → Type 0 = λ s. FillsEntry c.args.at.now.stepper.now c.fill.new.at.stepper.now
    (said s.now c.args.pred.now) c.args.hand c.args.key c.args.value c.birth_named-birth.result in
    let filled = subst F same c.fill.ensures.fills in
    let P : ℕ → Type 0 =
    λ s. PublishesSlot c.args.at.now.stepper.now.trace c.publish.new.self.stepper.now.trace s c.args.hand.birth
    c.args.key in
    subst P c.slot-slot.ensures
    (published_slot c.law.ensures.start filled.fills.quiet
    (filled_there filled c.slot-slot.ensures) c.in-Ok.ensures.found.did)

pub returns-in-Err-clause-lost : goal.returns-in-Err-clause-lost
returns-in-Err-clause-lost g c =
    let same = sym c.fill.ensures.table.slots in
    let G : Bor TableView → Type 0 = λ s. IsGap c.args.at.now.stepper.now.trace c.args.key
    (said s.now c.args.pred.now) in
    let gap = subst G same c.requires.gap in
    let F : Bor TableView → Type 0 = λ s. FillsEntry c.args.at.now.stepper.now c.fill.new.at.stepper.now
    (said s.now c.args.pred.now) c.args.hand c.args.key c.args.value c.birth_named-birth.result in
    let filled = subst F same c.fill.ensures.fills in
    let L : Bor TableView → Type 0 = λ s. LosesExchange c.args.at.now.stepper.now.trace
    c.publish.new.self.stepper.now.trace
    (said s.now c.args.pred.now) (said_rollback s.now (LostExchange c.in-Err.found)) in
    record {
      same = search rules;
      hand = search rules;
      exchange = subst L c.fill.ensures.table.slots
          (publish_lost (said c.fill.new.at.slots.now c.args.pred.now) c.law.ensures.start filled.fills.quiet
          filled.fills.unchanged c.fill.ensures.stores.keeps c.in-Err.ensures.other.did
          c.in-Err.ensures.other.unexpected);
    }
