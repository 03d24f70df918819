-- The link names none, and its version is the birth.
use Rattle.std.proofs.Common.{◌≡◌, ℕ, None, ap, ◌∙◌, sym, subst}
use Rattle.vbr_words.specs.Packing.{slot_bits, unpacked}
use Rattle.vbr_words.specs.Words.{link_of, word_of}
use Rattle.vbr_machine.specs.Acceptance.{IsNextIn, IsNextHeld}
use Rattle.vbr_slots.specs.views.Views.{TableView, knows}
use Rattle.vbr_slots.specs.words.WideWords.{wide_in}
use Rattle.vbr_table_tests.proofs.running_table.OwnedSlots.{is_word, names_none, none_has_room, to_none}
use Rattle.vbr_table_tests.proofs.running_table.link_none.Goals as goal

pub encode-word-requires-clause-room : goal.encode-word-requires-clause-room
encode-word-requires-clause-room g c = none_has_room c.layout.result c.layout.ensures.few

-- what the table keeps is that word
kept_is : (table : TableView) (layout word : ℕ) → layout ≡ slot_bits table.start.shape.slots →
    unpacked layout word ≡ word_of to_none → wide_in table word ≡ word_of to_none
kept_is table layout word is told = ap (λ bits. unpacked bits word) (sym is) ∙ told

names : (table : TableView) (word : ℕ) → wide_in table word ≡ word_of to_none → (link_of (wide_in table word)).slot ≡
    None
names table word is = ap (λ (n : ℕ). (link_of n).slot) is ∙ names_none

pub store_link-requires-clause-next_in : goal.store_link-requires-clause-next_in
store_link-requires-clause-next_in g c =
    subst (IsNextIn c.args.slots.now.start)
    (sym (names c.args.slots.now c.encode-word.result
    (kept_is c.args.slots.now _ _ c.layout.ensures.layout c.encode-word.ensures))) tt

pub store_link-requires-clause-next_held : goal.store_link-requires-clause-next_held
store_link-requires-clause-next_held g c =
    subst (IsNextHeld (knows c.args.pass.now.trace).checked)
    (sym (names c.args.slots.now c.encode-word.result
    (kept_is c.args.slots.now _ _ c.layout.ensures.layout c.encode-word.ensures))) tt

pub store_link-requires-clause-word : goal.store_link-requires-clause-word
store_link-requires-clause-word g c =
    let is = kept_is c.args.slots.now _ _ c.layout.ensures.layout c.encode-word.ensures in
    is ∙ is_word (knows c.args.pass.now.trace).checked _ _ (names c.args.slots.now c.encode-word.result is)
    c.requires.birth
