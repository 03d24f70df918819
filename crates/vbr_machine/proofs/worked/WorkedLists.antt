-- Three worked lists of events, computed: each is accepted, with these effects and these words.
-- In the first, a slot is unlinked, retired and born again while a reader stands in it, whose exchange is then lost.
-- In the second, a head shows one word, another, and the first again, and speaks of the same nodes.
-- In the third, two passes help to unlink one node, and one of them wins.
use Rattle.std.proofs.Common.{◌≡◌, ℕ, true, List, [], ◌∷◌, map, take, Some, None, refl, rules, tests, false}
use Rattle.vbr_machine.specs.Start.{Start, empty_start}
use Rattle.vbr_words.specs.Flags.{has_flag, first_bits, flag_word}
use Rattle.vbr_words.specs.Words.{word_of, link_of}
use Rattle.vbr_words.specs.declared.place.At.TheVariants.{Head, Slot}
use Rattle.vbr_words.specs.declared.place.Place.{Place}
use Rattle.vbr_words.specs.declared.place.Place.TheVariants as place
use Rattle.vbr_words.specs.Buckets.{bucket_of}
use Rattle.vbr_machine.specs.Machine.{opening, word_at, World, found, after}
use Rattle.vbr_machine.specs.Runs.{IsRun, world_after}
use Rattle.vbr_machine.specs.declared.history.Call.{Call}
use Rattle.vbr_machine.specs.declared.history.Op.TheVariants.{Insert, Remove}
use Rattle.vbr_machine.specs.declared.event.Event.{Event}
use Rattle.vbr_machine.specs.declared.event.Step.{Step}
use Rattle.vbr_machine.specs.declared.event.Step.TheVariants.{ReadEpoch, Advance, LoadStamp, StoreStamp, TakeFlag}
use Rattle.vbr_machine.specs.declared.event.Step.TheVariants.{StoreBirth, StoreKey, StoreLink, LoadLink, LoadBirth}
use Rattle.vbr_machine.specs.declared.event.Step.TheVariants.{LoadKey, Publish, Mark, Unlink}
use Rattle.vbr_machine.specs.declared.event.Effect.TheVariants.{Value, Done, Won, Lost}
use Rattle.vbr_machine.specs.declared.knowledge.SlotPlace.{SlotPlace}
use Rattle.vbr_machine.specs.declared.knowledge.SlotPlace.TheVariants.{Own, Hand, Listed}
use Rattle.vbr_machine.specs.Learning.{effect_of}
use Rattle.vbr_machine.specs.declared.event.Effect.{Effect}

-- the effects of events from a world, in order
abbrev pub effects_from : Start → World → List Event → List Effect
effects_from start w [] = []
effects_from start w (event ∷ events) =
    effect_of event.step (found start w event.step) ∷ effects_from start (after start w event.pass event.step) events

abbrev pub by : ℕ → Step → Event
by pass step = record { pass = pass; step = step }

-- events are a run of so many passes, with these effects and these calls
abbrev pub Plays : Start → ℕ → List Event → List Effect → List Call → Type 0
Plays start passes events effects calls = IsRun start passes events ×
    (effects_from start (opening start) events ≡ effects) × ((world_after start events).calls ≡ calls)

-- after them so many nodes were born, the epoch is this, and the slots stand at these places
abbrev Ends : Start → List Event → List ℕ → ℕ → ℕ → List SlotPlace → Type 0
Ends start events slots births epoch places = ((world_after start events).births ≡ births) ×
    ((world_after start events).epoch ≡ epoch) × (map (world_after start events).place slots ≡ places)

-- the words at places, each after so many of the events
abbrev words_along : Start → List Event → List (ℕ × Place) → List ℕ
words_along start events moments =
    map (λ (it : ℕ × Place). word_at start (world_after start (take it.0 events)) it.1) moments

abbrev pub shape_of_three : Start
shape_of_three = empty_start (record { slots = 3; buckets = 1; spread = None; last_epoch = 10; values = false })

abbrev pub shape_of_one : Start
shape_of_one = empty_start (record { slots = 1; buckets = 1; spread = None; last_epoch = 10; values = false })

abbrev pub reborn_slot : List Event
reborn_slot = by 0 ReadEpoch ∷ by 0 (TakeFlag 0) ∷ by 0 (LoadStamp 0) ∷ by 0 (StoreBirth 0 1) ∷ by 0 (StoreKey 0 30)
    ∷ by 0 (LoadLink (Head 0)) ∷ by 0 ReadEpoch ∷ by 0 (StoreLink 0 None) ∷ by 0 (Publish (Head 0) 0 0)
    ∷ by 0 (TakeFlag 1) ∷ by 0 (StoreBirth 1 1) ∷ by 0 (StoreKey 1 20) ∷ by 0 (StoreLink 1 (Some 0))
    ∷ by 0 (Publish (Head 0) 4294967297 1) ∷ by 1 ReadEpoch ∷ by 1 (LoadLink (Head 0)) ∷ by 1 ReadEpoch ∷ by 1
    (LoadKey 1)
    ∷ by 1 (LoadBirth 1) ∷ by 1 (LoadLink (Slot 1)) ∷ by 1 ReadEpoch ∷ by 1 (LoadKey 0) ∷ by 1 (LoadBirth 0)
    ∷ by 1 ReadEpoch ∷ by 1 (TakeFlag 2) ∷ by 1 (StoreBirth 2 1) ∷ by 1 (StoreKey 2 25) ∷ by 1 (StoreLink 2 (Some 0))
    ∷ by 0 (Mark 1 4294967297) ∷ by 0 (Unlink (Head 0) 4294967298 1) ∷ by 0 ReadEpoch ∷ by 0 (StoreStamp 1 1)
    ∷ by 0 (Advance 1) ∷ by 0 ReadEpoch ∷ by 0 (StoreBirth 1 2) ∷ by 0 (StoreKey 1 10) ∷ by 0 (LoadLink (Head 0))
    ∷ by 0 ReadEpoch ∷ by 0 (LoadKey 0) ∷ by 0 (LoadBirth 0) ∷ by 0 ReadEpoch ∷ by 0 (StoreLink 1 (Some 0))
    ∷ by 0 (Publish (Head 0) 4294967297 1) ∷ by 1 (Publish (Slot 1) 4294967297 2) ∷ []

abbrev pub same_word : List Event
same_word = by 0 ReadEpoch ∷ by 0 (Advance 1) ∷ by 0 ReadEpoch ∷ by 0 (TakeFlag 0) ∷ by 0 (StoreBirth 0 2)
    ∷ by 0 (StoreKey 0 30) ∷ by 0 (LoadLink (Head 0)) ∷ by 0 ReadEpoch ∷ by 0 (StoreLink 0 None)
    ∷ by 0 (Publish (Head 0) 0 0) ∷ by 1 ReadEpoch ∷ by 1 (LoadLink (Head 0)) ∷ by 1 ReadEpoch ∷ by 1 (LoadKey 0)
    ∷ by 1 (LoadBirth 0) ∷ by 1 ReadEpoch ∷ by 1 (TakeFlag 1) ∷ by 1 (StoreBirth 1 2) ∷ by 1 (StoreKey 1 20)
    ∷ by 1 (StoreLink 1 (Some 0)) ∷ by 0 (Advance 2) ∷ by 0 (Advance 3) ∷ by 0 (Advance 4) ∷ by 0 ReadEpoch
    ∷ by 0 (TakeFlag 2) ∷ by 0 (StoreBirth 2 5) ∷ by 0 (StoreKey 2 10) ∷ by 0 (LoadLink (Head 0)) ∷ by 0 ReadEpoch
    ∷ by 0 (LoadKey 0) ∷ by 0 (LoadBirth 0) ∷ by 0 ReadEpoch ∷ by 0 (StoreLink 2 (Some 0))
    ∷ by 0 (Publish (Head 0) 8589934593 2) ∷ by 0 (Mark 2 21474836481) ∷ by 0 (Unlink (Head 0) 21474836483 2)
    ∷ by 1 (Publish (Head 0) 8589934593 1) ∷ []

abbrev pub two_helpers : List Event
two_helpers = by 0 ReadEpoch ∷ by 0 (TakeFlag 0) ∷ by 0 (StoreBirth 0 1) ∷ by 0 (StoreKey 0 7)
    ∷ by 0 (LoadLink (Head 0)) ∷ by 0 ReadEpoch ∷ by 0 (StoreLink 0 None) ∷ by 0 (Publish (Head 0) 0 0) ∷ by 1 ReadEpoch
    ∷ by 1 (LoadLink (Head 0)) ∷ by 1 ReadEpoch ∷ by 0 (Mark 0 4294967296) ∷ by 1 (LoadKey 0) ∷ by 1 (LoadBirth 0)
    ∷ by 1 (LoadLink (Slot 0)) ∷ by 1 ReadEpoch ∷ by 1 (Unlink (Head 0) 4294967297 0) ∷ by 0
    (Unlink (Head 0) 4294967297 0)
    ∷ []

-- each is a run, with its effects and its calls
pub worked_plays : Plays shape_of_three 2 reborn_slot
    ((Value 1) ∷ Won ∷ (Value 0) ∷ Done ∷ Done ∷ (Value 0) ∷ (Value 1) ∷ Done ∷ Won ∷ Won ∷ Done ∷ Done ∷ Done ∷ Won
    ∷ (Value 1) ∷ (Value 4294967298) ∷ (Value 1) ∷ (Value 20) ∷ (Value 1) ∷ (Value 4294967297) ∷ (Value 1) ∷ (Value 30)
    ∷ (Value 1) ∷ (Value 1) ∷ Won ∷ Done ∷ Done ∷ Done ∷ Won ∷ Won ∷ (Value 1) ∷ Done ∷ Won ∷ (Value 2) ∷ Done ∷ Done
    ∷ (Value 4294967297) ∷ (Value 2) ∷ (Value 30) ∷ (Value 1) ∷ (Value 2) ∷ Done ∷ Won ∷ (Lost 8589934593) ∷ [])
    (record { who = 0; op = Insert; key = 30; reply = true; value = None }
    ∷ record { who = 0; op = Insert; key = 20; reply = true; value = None }
    ∷ record { who = 0; op = Remove; key = 20; reply = true; value = None }
    ∷ record { who = 0; op = Insert; key = 10; reply = true; value = None } ∷ [])
    × Plays shape_of_three 2 same_word
    ((Value 1) ∷ Won ∷ (Value 2) ∷ Won ∷ Done ∷ Done ∷ (Value 0) ∷ (Value 2) ∷ Done ∷ Won ∷ (Value 2) ∷
    (Value 8589934593)
    ∷ (Value 2) ∷ (Value 30) ∷ (Value 2) ∷ (Value 2) ∷ Won ∷ Done ∷ Done ∷ Done ∷ Won ∷ Won ∷ Won ∷ (Value 5) ∷ Won
    ∷ Done ∷ Done ∷ (Value 8589934593) ∷ (Value 5) ∷ (Value 30) ∷ (Value 2) ∷ (Value 5) ∷ Done ∷ Won ∷ Won ∷ Won ∷ Won
    ∷ [])
    (record { who = 0; op = Insert; key = 30; reply = true; value = None }
    ∷ record { who = 0; op = Insert; key = 10; reply = true; value = None }
    ∷ record { who = 0; op = Remove; key = 10; reply = true; value = None }
    ∷ record { who = 1; op = Insert; key = 20; reply = true; value = None } ∷ [])
    × Plays shape_of_one 2 two_helpers
    ((Value 1) ∷ Won ∷ Done ∷ Done ∷ (Value 0) ∷ (Value 1) ∷ Done ∷ Won ∷ (Value 1) ∷ (Value 4294967297) ∷ (Value 1) ∷
    Won
    ∷ (Value 7) ∷ (Value 1) ∷ (Value 6442450944) ∷ (Value 1) ∷ Won ∷ (Lost 0) ∷ [])
    (record { who = 0; op = Insert; key = 7; reply = true; value = None }
    ∷ record { who = 0; op = Remove; key = 7; reply = true; value = None } ∷ [])
unfolding bucket_of link_of word_of has_flag first_bits flag_word
worked_plays =
    ((search (rules, tests), refl, refl), (search (rules, tests), refl, refl), (search (rules, tests), refl, refl))

-- and what is there in the end
pub worked_ends : Ends shape_of_three reborn_slot (0 ∷ 1 ∷ 2 ∷ []) 4 2 ((Listed 0) ∷ (Listed 0) ∷ (Hand 1) ∷ [])
    × Ends shape_of_three same_word (0 ∷ 1 ∷ 2 ∷ []) 3 5 ((Listed 0) ∷ (Listed 0) ∷ (Own 0) ∷ [])
    × Ends shape_of_one two_helpers (0 ∷ []) 1 1 ((Own 1) ∷ [])
unfolding bucket_of link_of word_of has_flag first_bits flag_word
worked_ends = ((refl, refl, refl), (refl, refl, refl), (refl, refl, refl))

-- and the words along it
pub worked_words :
    (words_along shape_of_three reborn_slot
    ((9, place.Head 0) ∷ (14, place.Head 0) ∷ (29, place.LinkOf 1) ∷ (30, place.Head 0) ∷ (42, place.LinkOf 1)
    ∷ (43, place.Head 0) ∷ [])
    ≡ 4294967297 ∷ 4294967298 ∷ 6442450945 ∷ 4294967297 ∷ 8589934593 ∷ 8589934594 ∷ [])
    × (words_along shape_of_three same_word
    ((9, place.LinkOf 0) ∷ (33, place.LinkOf 2) ∷ (34, place.Head 0) ∷ (35, place.LinkOf 2) ∷ (36, place.Head 0)
    ∷ (37, place.Head 0) ∷ [])
    ≡ 8589934592 ∷ 21474836481 ∷ 21474836483 ∷ 23622320129 ∷ 8589934593 ∷ 8589934594 ∷ [])
    × (words_along shape_of_one two_helpers ((18, place.Head 0) ∷ [])
    ≡ 0 ∷ [])
unfolding bucket_of link_of word_of has_flag first_bits flag_word
worked_words = (refl, refl, refl)
