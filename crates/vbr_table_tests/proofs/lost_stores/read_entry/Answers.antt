-- The head and the node stay held, the node's key and value are known, and its link isn't marked and names nothing.
use Rattle.std.proofs.Common.{◌≡◌, ℕ, false, ap, ◌∙◌, refl, subst, sym, rules}
use Rattle.std.specs.Prelude.{None}
use Rattle.vbr_words.specs.Words.{link_of}
use Rattle.vbr_words.specs.declared.link.Link.{Link}
use Rattle.vbr_words.specs.declared.place.At.{At}
use Rattle.vbr_words.specs.declared.place.At.TheVariants.{Head, Slot}
use Rattle.vbr_machine.specs.Knowledge.{Know}
use Rattle.vbr_machine.specs.Membership.{BirthNamed, KeyAt}
use Rattle.vbr_slots.specs.views.Views.{knows}
use Rattle.vbr_at_table.specs.reads.Held.{said}
use Rattle.vbr_at_table.specs.reads.KeptKnowledge.{Keeps}
use Rattle.vbr_at_table.specs.reads.Reading.{IsKeyRead}
use Rattle.vbr_at_table.specs.answers.Values.{IsValueRead}
use Rattle.vbr_at_table.proofs.Lemmas.{held_kept}
use Rattle.vbr_table_tests.proofs.retiring.HeldThrough.{held_through}
use Rattle.vbr_table_tests.proofs.lost_stores.read_entry.Goals as goal

key_kept : {know later : Know} (place : At) (key : ℕ) → Keeps know later → KeyAt know place key → KeyAt later place key
key_kept (Head b) key k h = h
key_kept (Slot s) key k h = k.reads _ h

-- a link to none names no slot
none_named : (know : Know) (link : Link) → link ≡ record { slot = None; mark = false; version = 1 } →
    BirthNamed know link.slot 0
none_named know link is = subst (λ (l : Link). BirthNamed know l.slot 0) (sym is) refl

pub value_of-requires-clause-held : goal.value_of-requires-clause-held
value_of-requires-clause-held g c =
    held_through (said c.args.slots.now c.last_node-node.result) c.key_of.result _ c.expect-key.ensures
    c.key_of.ensures.key
    (λ key read. read.keeps) c.last_node-node.ensures.node

pub returns-clause-head : goal.returns-clause-head
returns-clause-head g c =
    let head = said c.args.slots.now c.head_of-head.result in
    let held = held_through head c.key_of.result _ c.expect-key.ensures c.key_of.ensures.key (λ key read. read.keeps)
    c.last_node-node.ensures.head in
    let value : IsValueRead c.key_of.new.pass c.value_of.new.pass c.last_node-node.result.at c.expect-told.result =
    search rules in
    record {
      held = held_kept head value.keeps held;
      unmarked = ap (λ (l : Link). l.mark)
          (c.head_of-head.ensures.link ∙ c.to_slot.ensures);
    }

pub returns-clause-node : goal.returns-clause-node
returns-clause-node g c =
    let node = said c.args.slots.now c.last_node-node.result in
    let held = held_through node c.key_of.result _ c.expect-key.ensures c.key_of.ensures.key (λ key read. read.keeps)
    c.last_node-node.ensures.node in
    let value : IsValueRead c.key_of.new.pass c.value_of.new.pass node.at c.expect-told.result = search rules in
    let key : IsKeyRead c.last_node-node.new.pass c.key_of.new.pass node.at c.expect-key.result = search rules in
    let seven : c.expect-key.result ≡ 7 = search rules in
    let K : ℕ → Type 0 = λ k. KeyAt (knows c.key_of.new.pass.trace) node.at k in
    let keyed = key_kept node.at 7 value.keeps (subst K seven key.key) in
    record {
      has_values = search rules;
      present = record {
        held = held_kept node value.keeps held;
        key = (7, keyed);
        unmarked = ap (λ (l : Link). l.mark) c.last_node-node.ensures.link;
      };
      key_is = keyed;
      valued = λ _. (c.expect-told.result, value.value);
      birth = none_named _ (link_of node.word) c.last_node-node.ensures.link;
    }
