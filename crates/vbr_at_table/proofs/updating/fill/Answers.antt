use Rattle.std.proofs.Common.{inr}
use Rattle.std.proofs.Common.{◌≡◌, ℕ, ◌+◌, ◌==◌, Bool, Option, Some, sym, ap, ◌∙◌, subst, refl}
use Rattle.vbr_machine.specs.Start.{Start}
use Rattle.vbr_words.specs.Words.{link_of, word_of}
use Rattle.vbr_words.specs.declared.link.Link.{Link}
use Rattle.vbr_words.specs.KeptLinks.{kept_link}
use Rattle.vbr_words.proofs.Lemmas.{kept_fits}
use Rattle.vbr_machine.specs.Acceptance.{IsNextIn, IsNextHeld}
use Rattle.vbr_machine.specs.Links.{link_to}
use Rattle.vbr_slots.specs.views.Views.{knows}
use Rattle.vbr_slots.proofs.Lemmas.{quiet_on}
use Rattle.vbr_at_table.proofs.epochs.Advancing.{did_none}
use Rattle.vbr_at_table.proofs.steps.Unchanged.{did_unchanged, none_counted, unchanged_on}
use Rattle.vbr_machine.specs.Learning.{value_in_hand}
use Rattle.vbr_at_table.specs.answers.Exchanges.{StoresIn}
use Rattle.vbr_at_table.specs.reads.Held.{IsFilled, said}
use Rattle.vbr_words.specs.Packing.{IsPackable, unpacked, slot_bits}
use denote.Bor.{Bor}
use Rattle.vbr_slots.specs.views.Views.{TableView}
use Rattle.vbr_at_table.proofs.steps.SaidWords.{said_link}
use Rattle.vbr_at_table.specs.answers.Values.{steps_to_value}
use Rattle.vbr_at_table.proofs.exchanges.WrittenLinks.{fits, has_room, birth_in_hand_low, birth_named_low}
use Rattle.vbr_at_table.proofs.exchanges.Filled.{hand_at, key_stored_keeps, key_stored_quiet, link_stored_quiet}
use Rattle.vbr_at_table.proofs.exchanges.Filled.{link_accepted}
use Rattle.vbr_at_table.proofs.exchanges.Filled.{IsReady, link_now, filled, link_stored_keeps, ready}
use Rattle.vbr_at_table.proofs.exchanges.Storing.{stores_on, stores_one}
use Rattle.vbr_at_table.proofs.updating.fill.Given.{Over}
use Rattle.vbr_at_table.proofs.updating.fill.Goals.{After-link_to_same-link, After-put_value}
use Rattle.vbr_at_table.proofs.updating.fill.Goals as goal

-- the slot is ready for its link once its key and its value are stored
is_ready : (g : Over) (c : After-put_value g) →
    IsReady c.put_value.new.at.stepper.now (said c.args.at.now.slots.now c.args.pred.now) c.slot-slot.result
    c.args.hand.now.birth c.args.birth
is_ready g c =
    ready c.args.hand.now (said c.args.at.now.slots.now c.args.pred.now) c.args.birth c.law.ensures c.requires.hand
    c.slot-slot.ensures
    c.requires.pred c.requires.birth c.store_key.ensures.step c.put_value.ensures.puts c.put_value.ensures.stores.keeps

-- the table keeps words as it did
same_bits : (g : Over) (c : After-put_value g) →
    c.layout-layout.result ≡ slot_bits c.put_value.new.at.slots.now.start.shape.slots
same_bits g c =
    c.layout-layout.ensures.layout ∙ ap (λ (s : Bor TableView). slot_bits s.now.start.shape.slots)
    (sym (c.put_value.ensures.table.slots ∙ c.store_key.ensures.table.slots))

-- the link that is decoded is that of the word
decoded : (g : Over) (c : After-put_value g) →
    (kept_link c.layout-layout.result c.args.pred.now.word)
    ≡ link_of (said c.args.at.now.slots.now c.args.pred.now).word
decoded g c = said_link _ _ c.args.pred.now.word _ c.layout-layout.ensures.layout refl

-- the link that is stored names what comes next
names_next : (g : Over) (c : After-link_to_same-link g) →
    (link_of (unpacked (slot_bits c.put_value.new.at.slots.now.start.shape.slots) c.link_to_same-link.result)).slot ≡
    (link_of (said c.args.at.now.slots.now c.args.pred.now).word).slot
names_next g c =
    let same = c.layout-layout.ensures.layout ∙ ap (λ (s : Bor TableView). slot_bits s.now.start.shape.slots)
    (sym (c.put_value.ensures.table.slots ∙ c.store_key.ensures.table.slots)) in
    let L : ℕ → Type 0 = λ b. link_of (unpacked b c.link_to_same-link.result) ≡ link_to
    (kept_link c.layout-layout.result c.args.pred.now.word).slot
    c.birth.result c.args.birth in
    ap (λ (l : Link). l.slot) (subst L same c.link_to_same-link.ensures.link) ∙ ap (λ (l : Link). l.slot)
    (said_link _ _ c.args.pred.now.word _ c.layout-layout.ensures.layout refl)

pub link_to_same-link-requires : goal.link_to_same-link-requires
link_to_same-link-requires g c =
    let d = (goal.at.link_to_same-link-requires g c).After-put_value in
    let p = c.put_value.new.at.stepper.now in
    let all = is_ready g d in
    let holder = birth_in_hand_low p c.law-2.ensures c.slot-slot.result c.birth.result
    (all.hand.1 ∙ sym c.birth.ensures) in
    let named = birth_named_low p c.law-2.ensures
    (link_of (said c.args.at.now.slots.now c.args.pred.now).word).slot c.args.birth all.named in
    let ok = link_accepted p c.law-2.ensures (said c.args.at.now.slots.now c.args.pred.now) c.slot-slot.result
    c.args.hand.now.birth c.args.birth all in
    let N : Link → Type 0 = λ link. IsNextIn p.trace.start link.slot in
    let next = subst N (sym (decoded g d)) ok.in_shape.1 in
    let S : Start → Type 0 = λ start.
    IsPackable (slot_bits start.shape.slots)
    (word_of (link_to (kept_link c.layout-layout.result c.args.pred.now.word).slot c.birth.result c.args.birth)) in
    let B : ℕ → Type 0 = λ b. IsPackable b
    (word_of (link_to (kept_link c.layout-layout.result c.args.pred.now.word).slot c.birth.result c.args.birth)) in
    record {
      fits = fits p c.law-2.ensures (kept_link c.layout-layout.result c.args.pred.now.word).slot c.birth.result
          c.args.birth
          (kept_fits c.layout-layout.result c.args.pred.now.word c.layout-layout.ensures.few) holder named;
      room = subst B (sym (same_bits g d)) (subst S c.put_value.new.at.own.1
          (has_room p c.law-2.ensures (kept_link c.layout-layout.result c.args.pred.now.word).slot c.birth.result
          c.args.birth next holder named));
    }

pub store_link-requires-clause-next_in : goal.store_link-requires-clause-next_in
store_link-requires-clause-next_in g c =
    let all = is_ready g (goal.at.store_link-requires-clause-next_in g c).After-put_value in
    let ok = link_accepted c.put_value.new.at.stepper.now c.law-2.ensures (said c.args.at.now.slots.now c.args.pred.now)
    c.slot-slot.result
    c.args.hand.now.birth c.args.birth all in
    let P : Start → Type 0 = λ start. IsNextIn start
    (link_of (said c.args.at.now.slots.now c.args.pred.now).word).slot in
    let Q : Option ℕ → Type 0 = IsNextIn c.put_value.new.at.slots.now.start in
    subst Q (sym (names_next g (goal.at.store_link-requires-clause-next_in g c).After-link_to_same-link))
    (subst P c.put_value.new.at.own.1 ok.in_shape.1)

pub store_link-requires-clause-next_held : goal.store_link-requires-clause-next_held
store_link-requires-clause-next_held g c =
    let all = is_ready g (goal.at.store_link-requires-clause-next_held g c).After-put_value in
    let ok = link_accepted c.put_value.new.at.stepper.now c.law-2.ensures (said c.args.at.now.slots.now c.args.pred.now)
    c.slot-slot.result
    c.args.hand.now.birth c.args.birth all in
    let Q : Option ℕ → Type 0 = IsNextHeld (knows c.put_value.new.at.stepper.now.trace).checked in
    subst Q (sym (names_next g (goal.at.store_link-requires-clause-next_held g c).After-link_to_same-link)) ok.held

pub store_link-requires-clause-word : goal.store_link-requires-clause-word
store_link-requires-clause-word g c =
    let all = is_ready g (goal.at.store_link-requires-clause-word g c).After-put_value in
    let written =
    link_now c.put_value.new.at.stepper.now c.law-2.ensures (said c.args.at.now.slots.now c.args.pred.now)
    c.slot-slot.result c.args.hand.now.birth
    c.args.birth all
    (link_of (unpacked (slot_bits c.put_value.new.at.slots.now.start.shape.slots) c.link_to_same-link.result)).slot
    (names_next g (goal.at.store_link-requires-clause-word g c).After-link_to_same-link) in
    let is : link_to (kept_link c.layout-layout.result c.args.pred.now.word).slot c.birth.result c.args.birth
    ≡ link_to (link_of (said c.args.at.now.slots.now c.args.pred.now).word).slot c.args.hand.now.birth c.args.birth =
    (λ i. link_to (decoded g (goal.at.store_link-requires-clause-word g c).After-put_value i).slot (c.birth.ensures i)
    c.args.birth) in
    let W : ℕ → Type 0 = λ b. unpacked b c.link_to_same-link.result ≡ word_of
    (link_to (kept_link c.layout-layout.result c.args.pred.now.word).slot c.birth.result c.args.birth) in
    subst W (same_bits g (goal.at.store_link-requires-clause-word g c).After-put_value) c.link_to_same-link.ensures.word
    ∙ ap word_of is ∙ ap word_of (sym written)

pub returns-clause-stores : goal.returns-clause-stores
returns-clause-stores g c =
    let p = c.args.at.now.stepper.now in
    let key = c.store_key.ensures.step in
    let put = c.put_value.ensures in
    let hand : p.hand ≡ Some c.slot-slot.result = c.requires.hand.slot ∙ ap Some (sym c.slot-slot.ensures) in
    let values : c.store_key.new.self.stepper.now.trace.start.shape.values ≡ p.trace.start.shape.values =
    ap (λ (d : Start). d.shape.values) key.same.1 in
    let P : Bool → Type 0 =
    λ b. StoresIn c.store_key.new.self.stepper.now c.put_value.new.at.stepper.now (steps_to_value b) in
    let stored = subst P values put.stores in
    let link = c.store_link.ensures.step in
    let first = stores_one key (key_stored_keeps key) c.store_key.ensures.pool.0
    (did_none key refl (inr hand) c.store_key.ensures.pool) in
    let last = stores_one link (link_stored_keeps link) c.store_link.ensures.pool.0
    (did_none link refl (inr (put.puts.hand ∙ c.store_key.ensures.pool.1 ∙ hand)) c.store_link.ensures.pool) in
    stores_on (1 + steps_to_value p.trace.start.shape.values) 1
    (stores_on 1 (steps_to_value p.trace.start.shape.values) first stored) last

pub returns-clause-fills : goal.returns-clause-fills
returns-clause-fills g c =
    let p = c.args.at.now.stepper.now in
    let key = c.store_key.ensures.step in
    let link = c.store_link.ensures.step in
    let put = c.put_value.ensures.puts in
    let in_hand = hand_at p c.law.ensures c.args.hand.now c.requires.hand c.slot-slot.result c.slot-slot.ensures in
    let all = is_ready g (goal.at.returns-clause-fills g c).After-put_value in
    let written =
    link_now c.put_value.new.at.stepper.now c.law-2.ensures (said c.args.at.now.slots.now c.args.pred.now)
    c.slot-slot.result c.args.hand.now.birth
    c.args.birth all
    (link_of (unpacked (slot_bits c.put_value.new.at.slots.now.start.shape.slots) c.link_to_same-link.result)).slot
    (names_next g (goal.at.returns-clause-fills g c).After-link_to_same-link) in
    let values : c.store_key.new.self.stepper.now.trace.start.shape.values ≡ p.trace.start.shape.values =
    ap (λ (d : Start). d.shape.values) key.same.1 in
    let full = filled c.store_key.new.self.stepper.now.trace.start.shape.values c.args.value key put.holding link
    in_hand.1
    in_hand.2 written in
    let F : ℕ → Type 0 =
    λ s. IsFilled ((knows c.store_link.new.self.stepper.now.trace).own s) c.args.hand.now.birth c.args.key
    (link_to (link_of (said c.args.at.now.slots.now c.args.pred.now).word).slot c.args.hand.now.birth c.args.birth) in
    let V : ℕ → Type 0 =
    λ s. value_in_hand ((knows c.store_link.new.self.stepper.now.trace).own s) ≡ Some c.args.value in
    record {
      fills = record {
        quiet = quiet_on (quiet_on (key_stored_quiet key) put.quiet) (link_stored_quiet link);
        hand = c.store_link.ensures.pool.1 ∙ put.hand ∙ c.store_key.ensures.pool.1;
        filled = subst F c.slot-slot.ensures full.0;
        unchanged = unchanged_on
            (unchanged_on (did_unchanged key (λ w a bucket. none_counted (p.trace.who == p.trace.who))) put.unchanged)
            (did_unchanged link
            (λ w a bucket.
            none_counted (c.put_value.new.at.stepper.now.trace.who == c.put_value.new.at.stepper.now.trace.who)));
      };
      valued = λ has. subst V c.slot-slot.ensures (full.1 (values ∙ has));
    }
