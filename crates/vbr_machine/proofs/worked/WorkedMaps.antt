-- A worked run of a table that keeps values, computed.
-- An insert stores a value, and a get and a remove give it.
-- Steps that lack a value are refused, and so are steps for a value in a table that keeps none.
use Rattle.std.proofs.Common.{◌≡◌, true, List, [], ◌∷◌, ◌++◌, Some, None, refl, rules, tests}
use Rattle.vbr_machine.specs.Start.{Start, empty_start}
use Rattle.vbr_words.specs.Flags.{has_flag, first_bits, flag_word}
use Rattle.vbr_words.specs.Words.{word_of, link_of}
use Rattle.vbr_words.specs.declared.place.At.TheVariants.{Head, Slot}
use Rattle.vbr_words.specs.declared.place.Place.TheVariants as place
use Rattle.vbr_words.specs.Buckets.{bucket_of}
use Rattle.vbr_machine.specs.Machine.{opening, word_at}
use Rattle.vbr_machine.specs.Runs.{Refuses, world_after}
use Rattle.vbr_machine.specs.declared.history.Op.TheVariants.{Insert, Remove, Get}
use Rattle.vbr_machine.specs.declared.event.Event.{Event}
use Rattle.vbr_machine.specs.declared.event.Step.TheVariants.{ReadEpoch, TakeFlag, StoreBirth, StoreKey, StoreValue}
use Rattle.vbr_machine.specs.declared.event.Step.TheVariants.{StoreLink, LoadLink, LoadKey, LoadValue, Publish, Mark}
use Rattle.vbr_machine.specs.declared.event.Step.TheVariants.{ConfirmPresent, ConfirmAbsent}
use Rattle.vbr_machine.specs.declared.event.Effect.TheVariants.{Value, Done, Won, Lost, Answered}
use Rattle.vbr_machine.specs.declared.event.CoreRefusal.TheVariants.{NotHeld, OutOfRange}
use Rattle.vbr_machine.proofs.worked.WorkedLists.{by, shape_of_one, Plays}

abbrev map_of_one : Start
map_of_one = empty_start (record { slots = 1; buckets = 1; spread = None; last_epoch = 10; values = true })

-- a slot is born in and gets a key
abbrev in_hand : List Event
in_hand = by 0 ReadEpoch ∷ by 0 (TakeFlag 0) ∷ by 0 (StoreBirth 0 1) ∷ by 0 (StoreKey 0 7) ∷ by 0 (LoadLink (Head 0))
    ∷ by 0 ReadEpoch ∷ by 0 (StoreLink 0 None) ∷ []

-- another pass finds the node, and reads its key and its link
abbrev read_by_another : List Event
read_by_another = by 1 ReadEpoch ∷ by 1 (LoadLink (Head 0)) ∷ by 1 ReadEpoch ∷ by 1 (LoadKey 0)
    ∷ by 1 (LoadLink (Slot 0)) ∷ by 1 ReadEpoch ∷ []

abbrev inserted : List Event
inserted = in_hand ++ by 0 (StoreValue 0 107) ∷ by 0 (Publish (Head 0) 0 0) ∷ []

abbrev valued_run : List Event
valued_run = inserted ++ read_by_another ++ by 1 (LoadValue 0) ∷ by 1 ReadEpoch ∷ by 1 (ConfirmPresent Get 0 4294967296)
    ∷ by 0 (Mark 0 4294967296) ∷ by 1 (ConfirmPresent Get 0 4294967296) ∷ []

pub valued_run_plays : Plays map_of_one 2 valued_run
    ((Value 1) ∷ Won ∷ Done ∷ Done ∷ (Value 0) ∷ (Value 1) ∷ Done ∷ Done ∷ Won ∷ (Value 1) ∷ (Value 4294967297)
    ∷ (Value 1) ∷ (Value 7) ∷ (Value 4294967296) ∷ (Value 1) ∷ (Value 107) ∷ (Value 1) ∷ (Answered true) ∷ Won
    ∷ (Lost 6442450944) ∷ [])
    (record { who = 0; op = Insert; key = 7; reply = true; value = Some 107 }
    ∷ record { who = 1; op = Get; key = 7; reply = true; value = Some 107 }
    ∷ record { who = 0; op = Remove; key = 7; reply = true; value = Some 107 } ∷ [])
unfolding bucket_of link_of word_of has_flag first_bits flag_word
valued_run_plays = (search (rules, tests), refl, refl)

pub valued_run_word : word_at map_of_one (world_after map_of_one valued_run) (place.Value 0) ≡ 107
unfolding bucket_of link_of word_of has_flag first_bits flag_word
valued_run_word = refl

-- ---- where a value is missing

pub published_without_a_value : Refuses map_of_one 2 (world_after map_of_one in_hand) (by 0 (Publish (Head 0) 0 0))
    OutOfRange
unfolding bucket_of link_of word_of has_flag first_bits flag_word
published_without_a_value = search (rules, tests)

pub marked_without_a_value : Refuses map_of_one 2 (world_after map_of_one (inserted ++ read_by_another))
    (by 1 (Mark 0 4294967296)) NotHeld
unfolding bucket_of link_of word_of has_flag first_bits flag_word
marked_without_a_value = search (rules, tests)

pub got_without_a_value : Refuses map_of_one 2 (world_after map_of_one (inserted ++ read_by_another))
    (by 1 (ConfirmPresent Get 0 4294967296)) NotHeld
unfolding bucket_of link_of word_of has_flag first_bits flag_word
got_without_a_value = search (rules, tests)

-- ---- where the table keeps none

pub stored_in_a_set : Refuses shape_of_one 2 (world_after shape_of_one in_hand) (by 0 (StoreValue 0 107)) OutOfRange
unfolding bucket_of link_of word_of has_flag first_bits flag_word
stored_in_a_set = search (rules, tests)

pub asked_of_a_set : Refuses shape_of_one 2 (opening shape_of_one) (by 0 (ConfirmAbsent Get 7 (Head 0) 0)) OutOfRange
unfolding bucket_of link_of word_of has_flag first_bits flag_word
asked_of_a_set = search (rules, tests)
