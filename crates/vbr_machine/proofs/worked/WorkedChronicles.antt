-- The chronicles of the worked lists, computed: their events are lawful, and the words are their image.
-- The notes of each pass are of the reads that it knows, and each was of what the incarnations showed.
use Rattle.std.proofs.Common.{◌≡◌, ℕ, false, List, [], ◌∷◌, map, Some, None, refl, rules, tests}
use Rattle.vbr_words.specs.Flags.{has_flag, first_bits, flag_word}
use Rattle.vbr_words.specs.Words.{word_of, link_of}
use Rattle.vbr_words.specs.declared.place.At.TheVariants.{Head, Slot}
use Rattle.vbr_machine.specs.Start.{Start}
use Rattle.vbr_machine.specs.Opened.{opening_keys}
use Rattle.vbr_machine.specs.declared.event.Event.{Event}
use Rattle.vbr_words.specs.Buckets.{bucket_of}
use Rattle.vbr_machine.specs.Incarnations.{State, at_opening, Linked, Unlinked, Stamped, InHand}
use Rattle.vbr_machine.specs.Images.{link_shown_at, birth_shown, key_shown}
use Rattle.vbr_machine.specs.Chronicles.{Happening, Advances, Gains, Bears, Keyed, Aims, Inserts, Removes, Unlinks}
use Rattle.vbr_machine.specs.Chronicles.{Stamps, AtHead, Entry, IsLawful}
use Rattle.vbr_machine.specs.Accounts.{chronicle, incarnations_after, notes_after}
use Rattle.vbr_machine.specs.Runs.{world_after, know_after}
use Rattle.vbr_machine.proofs.worked.WorkedLists.{shape_of_three, shape_of_one, reborn_slot, same_word, two_helpers}

abbrev entry : ℕ → Happening → Entry
entry pass what = record { pass = pass; what = what }

-- the words after events are the image of the incarnations after them, at the head of the first bucket and in these
-- slots
abbrev IsImage : Start → List Event → List ℕ → Type 0
IsImage start events slots =
    let w = world_after start events in
    let a = incarnations_after start events in
    (w.epoch ≡ a.epoch) × (w.births ≡ a.count) × (w.calls ≡ a.calls) × (w.head 0 ≡ link_shown_at a (Head 0)) ×
    (map w.link slots ≡ map (λ s. link_shown_at a (Slot s)) slots)
    × (map w.birth slots ≡ map (λ s. birth_shown a (a.last s)) slots) ×
    (map w.key slots ≡ map (λ s. key_shown a (a.last s)) slots) × (map w.stamp slots ≡ map a.stamp slots) ×
    (map w.place slots ≡ map a.place slots)

-- the notes of a pass are of the reads that it knows, and each was of what the incarnations showed
abbrev IsNoted : Start → List Event → ℕ → Type 0
IsNoted start events pass =
    let notes = (notes_after start events pass).checked in
    (map (λ note. note.read) notes ≡ (know_after start events pass).checked) ×
    (map (λ note. note.read) notes ≡ map (λ note. note.shown) notes)

-- the chronicle of events is this one, and lawful, and it leaves these incarnations in these states
abbrev HasChronicle : Start → List Event → List Entry → List ℕ → List State → Type 0
HasChronicle start events entries numbers states =
    (chronicle start events ≡ entries) ×
    IsLawful start (opening_keys start) (at_opening start) (chronicle start events) ×
    (map (incarnations_after start events).state numbers ≡ states)

-- the chronicles
pub worked_chronicles : HasChronicle shape_of_three reborn_slot
    (entry 0 (Gains 0) ∷ entry 0 (Bears 0 1) ∷ entry 0 (Keyed 0 30)
    ∷ entry 0 (Aims 0 (record { slot = None; mark = false; version = 1 })) ∷ entry 0 (Inserts 0 (AtHead 0))
    ∷ entry 0 (Gains 1) ∷ entry 0 (Bears 1 1) ∷ entry 0 (Keyed 1 20)
    ∷ entry 0 (Aims 1 (record { slot = Some 0; mark = false; version = 1 })) ∷ entry 0 (Inserts 1 (AtHead 0))
    ∷ entry 1 (Gains 2) ∷ entry 1 (Bears 2 1) ∷ entry 1 (Keyed 2 25)
    ∷ entry 1 (Aims 2 (record { slot = Some 0; mark = false; version = 1 })) ∷ entry 0 (Removes 1)
    ∷ entry 0 (Unlinks 1 (AtHead 0)) ∷ entry 0 (Stamps 1 1) ∷ entry 0 Advances ∷ entry 0 (Bears 1 2)
    ∷ entry 0 (Keyed 3 10) ∷ entry 0 (Aims 3 (record { slot = Some 0; mark = false; version = 2 }))
    ∷ entry 0 (Inserts 3 (AtHead 0)) ∷ [])
    (0 ∷ 1 ∷ 2 ∷ 3 ∷ []) (Linked ∷ (Stamped 1 1) ∷ (InHand 1) ∷ Linked ∷ [])
    × HasChronicle shape_of_three same_word
    (entry 0 Advances ∷ entry 0 (Gains 0) ∷ entry 0 (Bears 0 2) ∷ entry 0 (Keyed 0 30)
    ∷ entry 0 (Aims 0 (record { slot = None; mark = false; version = 2 })) ∷ entry 0 (Inserts 0 (AtHead 0))
    ∷ entry 1 (Gains 1) ∷ entry 1 (Bears 1 2) ∷ entry 1 (Keyed 1 20)
    ∷ entry 1 (Aims 1 (record { slot = Some 0; mark = false; version = 2 })) ∷ entry 0 Advances ∷ entry 0 Advances
    ∷ entry 0 Advances ∷ entry 0 (Gains 2) ∷ entry 0 (Bears 2 5) ∷ entry 0 (Keyed 2 10)
    ∷ entry 0 (Aims 2 (record { slot = Some 0; mark = false; version = 5 })) ∷ entry 0 (Inserts 2 (AtHead 0))
    ∷ entry 0 (Removes 2) ∷ entry 0 (Unlinks 2 (AtHead 0)) ∷ entry 1 (Inserts 1 (AtHead 0)) ∷ [])
    (0 ∷ 1 ∷ 2 ∷ []) (Linked ∷ Linked ∷ (Unlinked 0 5) ∷ [])
    × HasChronicle shape_of_one two_helpers
    (entry 0 (Gains 0) ∷ entry 0 (Bears 0 1) ∷ entry 0 (Keyed 0 7)
    ∷ entry 0 (Aims 0 (record { slot = None; mark = false; version = 1 })) ∷ entry 0 (Inserts 0 (AtHead 0))
    ∷ entry 0 (Removes 0) ∷ entry 1 (Unlinks 0 (AtHead 0)) ∷ [])
    (0 ∷ []) ((Unlinked 1 1) ∷ [])
unfolding bucket_of link_of word_of has_flag first_bits flag_word
worked_chronicles =
    ((refl, search (rules, tests), refl), (refl, search (rules, tests), refl), (refl, search (rules, tests), refl))

-- and the words and the notes
pub worked_images :
    (IsImage shape_of_three reborn_slot (0 ∷ 1 ∷ 2 ∷ []) × IsNoted shape_of_three reborn_slot 0 ×
    IsNoted shape_of_three reborn_slot 1)
    × (IsImage shape_of_three same_word (0 ∷ 1 ∷ 2 ∷ []) × IsNoted shape_of_three same_word 0 ×
    IsNoted shape_of_three same_word 1)
    × (IsImage shape_of_one two_helpers (0 ∷ []) × IsNoted shape_of_one two_helpers 0 ×
    IsNoted shape_of_one two_helpers 1)
unfolding bucket_of link_of word_of has_flag first_bits flag_word
worked_images = (
  ((refl, refl, refl, refl, refl, refl, refl, refl, refl), (refl, refl), (refl, refl)),
  ((refl, refl, refl, refl, refl, refl, refl, refl, refl), (refl, refl), (refl, refl)),
  ((refl, refl, refl, refl, refl, refl, refl, refl, refl), (refl, refl), (refl, refl)),
)

pub reborn_slot_held_by_1 : map (λ note. note.of) (notes_after shape_of_three reborn_slot 1).checked
    ≡ None ∷ Some 1 ∷ Some 1 ∷ Some 1 ∷ Some 0 ∷ Some 0 ∷ []
unfolding bucket_of link_of word_of has_flag first_bits flag_word
reborn_slot_held_by_1 = refl

pub reborn_slot_named_to_1 : map (λ note. note.names) (notes_after shape_of_three reborn_slot 1).checked
    ≡ Some 1 ∷ None ∷ None ∷ Some 0 ∷ None ∷ None ∷ []
unfolding bucket_of link_of word_of has_flag first_bits flag_word
reborn_slot_named_to_1 = refl
