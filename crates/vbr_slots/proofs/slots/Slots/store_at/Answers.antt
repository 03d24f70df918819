use Rattle.std.proofs.Common.{ℕ, ◌≡◌, sym, ap, ◌∙◌}
use Rattle.vbr_words.specs.Packing.{packed, slot_bits, unpacked}
use Rattle.vbr_words.specs.Places as places
use Rattle.vbr_words.proofs.Lemmas.{packed-unpacked}
use Rattle.vbr_machine.specs.Machine.{word_made}
use Rattle.vbr_slots.specs.views.Views.{knows}
use Rattle.vbr_slots.specs.words.Words.{kept_at}
use Rattle.vbr_slots.specs.words.WideWords.{wide_in}
use Rattle.vbr_slots.proofs.steps.Learning.{blind}
use Rattle.vbr_slots.proofs.words.LinkIndices.{link_is}
use Rattle.vbr_slots.proofs.words.Packed.{kept_link}
use Rattle.vbr_slots.proofs.steps.Steps.{asks_alone, bits_few, bits_same, link_epoch, shown_link, steps_did}
use Rattle.vbr_slots.proofs.steps.Steps.{steps_sound}
use Rattle.vbr_slots.proofs.slots.Slots.store_at.Goals as goal

pub store-requires : goal.store-requires
store-requires g c =
    let shape = c.self.inside.opening.shape in
    let bits : ℕ = slot_bits shape.slots in
    let keeps : ℕ → ℕ = kept_at shape (places.place_of c.args.holder) in
    let new : c.args.new ≡ packed bits (wide_in c.args.self.now c.args.new) =
    sym (packed-unpacked bits c.args.new (bits_few c.self.inside c.self.invariant))
    ∙ ap (λ (b : ℕ). packed bits (unpacked b c.args.new)) (sym (bits_same c.self.inside c.self.view_is)) in
    asks_alone c.self.invariant c.self.view_is c.runner.invariant c.runner.view_is c.requires.own c.requires.named _
    (places.place_of c.args.holder) _ (λ _. c.args.new)
    (λ _. unpacked (slot_bits g.E.Naming.opening.start.shape.slots) c.args.new)
    (c.link_index_in-word.ensures ∙ link_is shape c.args.holder) c.requires.place
    (λ n room. new ∙ sym (kept_link shape c.args.holder (wide_in c.args.self.now c.args.new))
    ∙ ap keeps (sym (ap (λ a. word_made a n) c.requires.access)))
    (λ n room. blind (knows c.args.runner.now) c.args.step (wide_in c.args.self.now c.args.new) c.requires.access _ n)
    c.requires.accepted

pub invariant_of-runner : goal.invariant_of-runner
invariant_of-runner g c =
    steps_sound c.runner.inside _ _ c.args.step _ _ _ c.store.new.seat c.runner.inside.epoch
    c.runner.invariant c.runner.view_is c.requires.own c.requires.named c.store.ensures.2
    c.store.ensures.0 (link_epoch c.args.holder c.args.step _ _ c.requires.place)

pub returns : goal.returns
returns g c = shown_link _ c.requires.named
    (steps_did c.runner.inside _ _ c.args.step _ _ _ c.store.new.seat c.runner.inside.epoch
    c.runner.invariant c.runner.view_is c.requires.own c.requires.named c.store.ensures.2
    c.store.ensures.0 (link_epoch c.args.holder c.args.step _ _ c.requires.place))
