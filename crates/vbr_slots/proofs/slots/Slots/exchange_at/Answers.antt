use Rattle.std.proofs.Common.{ℕ, ◌≡◌, ◌==◌, cond, sym, ap, subst, ◌∙◌}
use prog.Atomic.{either}
use Rattle.vbr_words.specs.Packing.{IsPackable, packed, slot_bits, unpacked}
use Rattle.vbr_words.specs.Places as places
use Rattle.vbr_words.proofs.Lemmas.{packed-unpacked, unpacked_room}
use Rattle.vbr_machine.specs.Machine.{word_made}
use Rattle.vbr_slots.specs.words.Words.{kept_at}
use Rattle.vbr_slots.specs.words.WideWords.{wide_in}
use Rattle.vbr_slots.proofs.steps.Learning.{by_either}
use Rattle.vbr_slots.proofs.words.LinkIndices.{link_is}
use Rattle.vbr_slots.proofs.words.Packed.{exchanged, tells_link}
use Rattle.vbr_slots.proofs.steps.Steps.{asks_alone, bits_few, bits_same, link_epoch, named_bits, shown_link, steps_did}
use Rattle.vbr_slots.proofs.steps.Steps.{steps_sound}
use Rattle.vbr_slots.proofs.slots.Slots.exchange_at.Goals as goal

pub compare_exchange-requires : goal.compare_exchange-requires
compare_exchange-requires g c =
    let shape = c.self.inside.opening.shape in
    let bits : ℕ = slot_bits shape.slots in
    let few = bits_few c.self.inside c.self.invariant in
    let same = bits_same c.self.inside c.self.view_is in
    let keeps : ℕ → ℕ = kept_at shape (places.place_of c.args.holder) in
    let wide : ℕ → ℕ = wide_in c.args.self.now in
    let kept : (word : ℕ) → word ≡ packed bits (wide word) =
    λ word. sym (packed-unpacked bits word few) ∙ ap (λ (b : ℕ). packed bits (unpacked b word)) (sym same) in
    let expects : IsPackable bits (wide c.args.expected) =
    subst (λ (b : ℕ). IsPackable bits (unpacked b c.args.expected)) (sym same)
    (unpacked_room bits c.args.expected few c.ranges.expected.fits) in
    asks_alone c.self.invariant c.self.view_is c.runner.invariant c.runner.view_is c.requires.own c.requires.named _
    (places.place_of c.args.holder) _ (λ n. either (n == c.args.expected) c.args.new n)
    (unpacked (slot_bits g.E.Naming.opening.start.shape.slots))
    (c.link_index_in-word.ensures ∙ link_is shape c.args.holder) c.requires.place
    (λ n room. by_either (keeps n == c.args.expected) c.args.new (keeps n)
    ∙ (λ i. cond (keeps n == kept c.args.expected i) (kept c.args.new i) (keeps n))
    ∙ exchanged shape c.args.holder n (wide c.args.expected) (wide c.args.new) room expects
    ∙ ap keeps (sym (ap (λ a. word_made a n) c.requires.access)))
    (tells_link shape c.args.holder c.args.step _ (named_bits c.self.inside c.self.view_is c.requires.named))
    c.requires.accepted

pub invariant_of-runner : goal.invariant_of-runner
invariant_of-runner g c =
    steps_sound c.runner.inside _ _ c.args.step _ _ _ c.compare_exchange.new.seat c.runner.inside.epoch
    c.runner.invariant c.runner.view_is c.requires.own c.requires.named c.compare_exchange.ensures.2
    c.compare_exchange.ensures.0 (link_epoch c.args.holder c.args.step _ _ c.requires.place)

pub returns : goal.returns
returns g c = shown_link _ c.requires.named
    (steps_did c.runner.inside _ _ c.args.step _ _ _ c.compare_exchange.new.seat c.runner.inside.epoch
    c.runner.invariant c.runner.view_is c.requires.own c.requires.named c.compare_exchange.ensures.2
    c.compare_exchange.ensures.0 (link_epoch c.args.holder c.args.step _ _ c.requires.place))
