-- The node stays held, and its key and its value are known.
use Rattle.std.proofs.Common.{ℕ, rules}
use Rattle.vbr_words.specs.declared.place.At.{At}
use Rattle.vbr_words.specs.declared.place.At.TheVariants.{Head, Slot}
use Rattle.vbr_machine.specs.Knowledge.{Know}
use Rattle.vbr_machine.specs.Membership.{KeyAt}
use Rattle.vbr_at_table.specs.reads.KeptKnowledge.{Keeps}
use Rattle.vbr_at_table.specs.reads.Held.{said}
use Rattle.vbr_at_table.specs.answers.Values.{IsValueRead}
use Rattle.vbr_at_table.proofs.Lemmas.{held_kept}
use Rattle.vbr_table_tests.proofs.lost_stores.lose_get.Goals as goal

key_kept : {know later : Know} (place : At) (key : ℕ) → Keeps know later → KeyAt know place key → KeyAt later place key
key_kept (Head b) key k h = h
key_kept (Slot s) key k h = k.reads _ h

pub value_of-requires-clause-held : goal.value_of-requires-clause-held
value_of-requires-clause-held g c = c.requires.node.present.held

pub confirm_present_entry-told-requires-clause-node : goal.confirm_present_entry-told-requires-clause-node
confirm_present_entry-told-requires-clause-node g c =
    let node = said c.args.slots.now c.args.node.now in
    let value : IsValueRead c.args.pass.now c.value_of.new.pass node.at c.expect-value.result = search rules in
    record {
      held = held_kept node value.keeps c.requires.node.present.held;
      key = (7, key_kept node.at 7 value.keeps c.requires.node.key_is);
      unmarked = c.requires.node.present.unmarked;
    }

pub confirm_present_entry-told-requires-clause-asked : goal.confirm_present_entry-told-requires-clause-asked
confirm_present_entry-told-requires-clause-asked g c =
    let value : IsValueRead c.args.pass.now c.value_of.new.pass c.args.node.now.at c.expect-value.result =
    search rules in
    λ get. (search rules, (c.expect-value.result, value.value))

pub returns-clause-held : goal.returns-clause-held
returns-clause-held g c =
    let node = said c.args.slots.now c.args.node.now in
    let value : IsValueRead c.args.pass.now c.value_of.new.pass node.at c.expect-value.result = search rules in
    held_kept node c.confirm_present_entry-told.ensures.keeps.keeps.keeps
    (held_kept node value.keeps c.requires.node.present.held)
