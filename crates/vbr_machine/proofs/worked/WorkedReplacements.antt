-- Worked runs with replacements, computed: some are won, some lost, and some refused.
-- In the one that is won, a reader on the old node goes on to the new one, and unlinks the old.
-- Look-ups stand between the replacement and the unlinking.
-- Others are lost to a mark, an insert behind the node, another replacement, and a later node in the slot.
use Rattle.std.proofs.Common.{◌≡◌, ℕ, ◌≤◌, zero, suc, true, false, List, [], ◌∷◌, ◌++◌, Some, None, refl, rules, tests}
use Rattle.std.proofs.Common.{arith, inr}
use Rattle.vbr_machine.specs.Start.{Start, empty_start}
use Rattle.vbr_words.specs.Flags.{has_flag, first_bits, flag_word}
use Rattle.vbr_words.specs.Words.{word_of, link_of}
use Rattle.vbr_words.specs.declared.place.At.TheVariants.{Head, Slot}
use Rattle.vbr_words.specs.declared.place.Place.TheVariants as place
use Rattle.vbr_words.specs.Buckets.{bucket_of}
use Rattle.vbr_machine.specs.Acceptance.{IsBefore, after_turns}
use Rattle.vbr_machine.specs.Accounts.{chronicle, incarnations_after}
use Rattle.vbr_machine.specs.Chronicles.{Gains, Bears, Keyed, Valued, Aims, Inserts, Replaces, Unlinks, Confirms}
use Rattle.vbr_machine.specs.Chronicles.{AtHead}
use Rattle.vbr_machine.specs.Incarnations.{Linked, Marked, Unlinked}
use Rattle.vbr_machine.specs.Machine.{opening, word_at}
use Rattle.vbr_machine.specs.Runs.{IsRun, Refuses, world_after, know_after}
use Rattle.vbr_machine.specs.declared.history.Call.{Call}
use Rattle.vbr_machine.specs.declared.history.Op.TheVariants.{Insert, Remove, Has, Get}
use Rattle.vbr_machine.specs.declared.event.Event.{Event}
use Rattle.vbr_machine.specs.declared.event.Effect.{Effect}
use Rattle.vbr_machine.specs.declared.event.Step.TheVariants.{ReadEpoch, TakeFlag, Advance, StoreBirth, StoreKey}
use Rattle.vbr_machine.specs.declared.event.Step.TheVariants.{StoreValue, StoreLink, StoreStamp, LoadLink, LoadBirth}
use Rattle.vbr_machine.specs.declared.event.Step.TheVariants.{LoadKey, LoadValue, Publish, Mark, Replace, Unlink}
use Rattle.vbr_machine.specs.declared.event.Step.TheVariants.{ConfirmPresent, ConfirmAbsent}
use Rattle.vbr_machine.specs.declared.event.Effect.TheVariants.{Value, Done, Won, Lost, Answered}
use Rattle.vbr_machine.specs.declared.event.CoreRefusal.TheVariants.{NotOwned, NotHeld, OutOfRange}
use Rattle.vbr_machine.proofs.worked.WorkedLists.{by, effects_from, Plays}

abbrev map_of_three : Start
map_of_three = empty_start (record { slots = 3; buckets = 1; spread = None; last_epoch = 10; values = true })

-- after a run of so many passes these events are accepted, with these effects; and these are the calls of all
abbrev PlaysOn : ℕ → List Event → List Event → List Effect → List Call → Type 0
PlaysOn passes before events effects calls =
    IsRun map_of_three passes (before ++ events) ×
    (effects_from map_of_three (world_after map_of_three before) events ≡ effects) ×
    ((world_after map_of_three (before ++ events)).calls ≡ calls)

-- a pass inserts 7 with 107
abbrev inserted : List Event
inserted = by 0 ReadEpoch ∷ by 0 (TakeFlag 0) ∷ by 0 (StoreBirth 0 1) ∷ by 0 (StoreKey 0 7) ∷ by 0 (LoadLink (Head 0))
    ∷ by 0 ReadEpoch ∷ by 0 (StoreLink 0 None) ∷ by 0 (StoreValue 0 107) ∷ by 0 (Publish (Head 0) 0 0) ∷ []

-- another one finds the node, and reads it
abbrev read_by_another : List Event
read_by_another = by 1 ReadEpoch ∷ by 1 (LoadLink (Head 0)) ∷ by 1 ReadEpoch ∷ by 1 (LoadKey 0) ∷ by 1 (LoadValue 0)
    ∷ by 1 (LoadLink (Slot 0)) ∷ by 1 ReadEpoch ∷ []

-- ---- a replacement that is won

-- the first one puts 207 in its place
abbrev replaced : List Event
replaced = inserted ++ read_by_another ++ by 0 (TakeFlag 1) ∷ by 0 (StoreBirth 1 1) ∷ by 0 (StoreKey 1 7)
    ∷ by 0 (StoreValue 1 207) ∷ by 0 (StoreLink 1 None) ∷ by 0 (Replace 0 4294967296 1) ∷ []

-- and the other, which stands on the old node, goes on to the new one, and unlinks the old one
abbrev replaced_run : List Event
replaced_run = replaced ++ by 1 (ConfirmPresent Get 0 4294967296) ∷ by 1 (LoadLink (Slot 0)) ∷ by 1 ReadEpoch
    ∷ by 1 (LoadKey 1) ∷ by 1 (LoadValue 1) ∷ by 1 (LoadLink (Slot 1)) ∷ by 1 (LoadBirth 1) ∷ by 1 ReadEpoch
    ∷ by 1 (ConfirmPresent Get 1 4294967296) ∷ by 1 (Unlink (Head 0) 4294967297 0) ∷ []

-- one step made two calls
pub replaced_run_plays : Plays map_of_three 2 replaced_run
    ((Value 1) ∷ Won ∷ Done ∷ Done ∷ (Value 0) ∷ (Value 1) ∷ Done ∷ Done ∷ Won ∷ (Value 1) ∷ (Value 4294967297)
    ∷ (Value 1) ∷ (Value 7) ∷ (Value 107) ∷ (Value 4294967296) ∷ (Value 1) ∷ Won ∷ Done ∷ Done ∷ Done ∷ Done ∷ Won
    ∷ (Lost 6442450946) ∷ (Value 6442450946) ∷ (Value 1) ∷ (Value 7) ∷ (Value 207) ∷ (Value 4294967296) ∷ (Value 1)
    ∷ (Value 1) ∷ (Answered true) ∷ Won ∷ [])
    (record { who = 0; op = Insert; key = 7; reply = true; value = Some 107 }
    ∷ record { who = 0; op = Remove; key = 7; reply = true; value = Some 107 }
    ∷ record { who = 0; op = Insert; key = 7; reply = true; value = Some 207 }
    ∷ record { who = 1; op = Get; key = 7; reply = true; value = Some 207 } ∷ [])
unfolding bucket_of link_of word_of has_flag first_bits flag_word
replaced_run_plays = (search (rules, tests), refl, refl)

-- the head names the new node
pub replaced_run_head : word_at map_of_three (world_after map_of_three replaced_run) (place.Head 0) ≡ 4294967298
unfolding bucket_of link_of word_of has_flag first_bits flag_word
replaced_run_head = refl

-- one event of the chronicle tells of the replacement
pub replaced_run_chronicle : chronicle map_of_three replaced_run
    ≡ record { pass = 0; what = Gains 0 } ∷ record { pass = 0; what = Bears 0 1 }
    ∷ record { pass = 0; what = Keyed 0 7 }
    ∷ record { pass = 0; what = Aims 0 (record { slot = None; mark = false; version = 1 }) }
    ∷ record { pass = 0; what = Valued 0 107 } ∷ record { pass = 0; what = Inserts 0 (AtHead 0) }
    ∷ record { pass = 0; what = Gains 1 } ∷ record { pass = 0; what = Bears 1 1 }
    ∷ record { pass = 0; what = Keyed 1 7 } ∷ record { pass = 0; what = Valued 1 207 }
    ∷ record { pass = 0; what = Aims 1 (record { slot = None; mark = false; version = 1 }) }
    ∷ record { pass = 0; what = Replaces 0 1 }
    ∷ record { pass = 1; what = Confirms (record { who = 1; op = Get; key = 7; reply = true; value = Some 207 }) }
    ∷ record { pass = 1; what = Unlinks 0 (AtHead 0) } ∷ []
unfolding bucket_of link_of word_of has_flag first_bits flag_word
replaced_run_chronicle = refl

-- the old node is unlinked, and the new one linked, with the rank next to the old one's
pub replaced_run_nodes : let a = incarnations_after map_of_three replaced_run in
    (a.state 0 ≡ Unlinked 1 1) × (a.state 1 ≡ Linked) × (a.rank 1 ≡ 1)
unfolding bucket_of link_of word_of has_flag first_bits flag_word
replaced_run_nodes = (refl, refl, refl)

-- ---- look-ups between the replacement and the unlinking

-- a third pass begins at the head, passes the old node, which is marked, and stands on the new one
abbrev walked : List Event
walked = by 2 ReadEpoch ∷ by 2 (LoadLink (Head 0)) ∷ by 2 ReadEpoch ∷ by 2 (LoadLink (Slot 0)) ∷ by 2 ReadEpoch
    ∷ by 2 (LoadKey 1) ∷ by 2 (LoadValue 1) ∷ by 2 (LoadLink (Slot 1)) ∷ by 2 ReadEpoch ∷ []

-- there the key is present, with the new value; behind it 8 is absent
abbrev looked_up : List Event
looked_up = walked ++ by 2 (ConfirmPresent Has 1 4294967296) ∷ by 2 (ConfirmPresent Get 1 4294967296)
    ∷ by 2 (ConfirmAbsent Has 8 (Slot 1) 4294967296) ∷ []

pub looked_up_plays : PlaysOn 3 replaced looked_up
    ((Value 1) ∷ (Value 4294967297) ∷ (Value 1) ∷ (Value 6442450946) ∷ (Value 1) ∷ (Value 7) ∷ (Value 207)
    ∷ (Value 4294967296) ∷ (Value 1) ∷ (Answered true) ∷ (Answered true) ∷ (Answered false) ∷ [])
    (record { who = 0; op = Insert; key = 7; reply = true; value = Some 107 }
    ∷ record { who = 0; op = Remove; key = 7; reply = true; value = Some 107 }
    ∷ record { who = 0; op = Insert; key = 7; reply = true; value = Some 207 }
    ∷ record { who = 2; op = Has; key = 7; reply = true; value = None }
    ∷ record { who = 2; op = Get; key = 7; reply = true; value = Some 207 }
    ∷ record { who = 2; op = Has; key = 8; reply = false; value = None } ∷ [])
unfolding bucket_of link_of word_of has_flag first_bits flag_word
looked_up_plays = (search (rules, tests), refl, refl)

-- all the while the old node is in the list, and marked
pub looked_up_old : (incarnations_after map_of_three (replaced ++ looked_up)).state 0 ≡ Marked
unfolding bucket_of link_of word_of has_flag first_bits flag_word
looked_up_old = refl

-- ---- replacements that are lost

-- the other has a node in hand that is ready to take the place
abbrev ready : List Event
ready = inserted ++ read_by_another ++ by 1 (LoadBirth 0) ∷ by 1 ReadEpoch ∷ by 1 (TakeFlag 1) ∷ by 1 (StoreBirth 1 1)
    ∷ by 1 (StoreKey 1 7) ∷ by 1 (StoreValue 1 207) ∷ by 1 (StoreLink 1 None) ∷ []

-- to a mark
abbrev lost_to_a_mark : List Event
lost_to_a_mark = by 0 (Mark 0 4294967296) ∷ by 1 (Replace 0 4294967296 1) ∷ []

-- to an insert of 9 behind the node
abbrev lost_to_an_insert : List Event
lost_to_an_insert = by 0 (TakeFlag 2) ∷ by 0 (StoreBirth 2 1) ∷ by 0 (StoreKey 2 9) ∷ by 0 (StoreValue 2 109)
    ∷ by 0 (StoreLink 2 None) ∷ by 0 (Publish (Slot 0) 4294967296 2) ∷ by 1 (Replace 0 4294967296 1) ∷ []

-- to another replacement
abbrev replaced_before : List Event
replaced_before = by 0 (TakeFlag 2) ∷ by 0 (StoreBirth 2 1) ∷ by 0 (StoreKey 2 7) ∷ by 0 (StoreValue 2 307)
    ∷ by 0 (StoreLink 2 None) ∷ by 0 (Replace 0 4294967296 2) ∷ []

abbrev lost_to_another : List Event
lost_to_another = replaced_before ++ by 1 (Replace 0 4294967296 1) ∷ []

-- to a later node in the same slot, of the same key and with the same successor: its link has another version
abbrev lost_to_a_later_node : List Event
lost_to_a_later_node = by 0 (Mark 0 4294967296) ∷ by 0 (Unlink (Head 0) 4294967297 0) ∷ by 0 ReadEpoch
    ∷ by 0 (StoreStamp 0 1) ∷ by 0 (Advance 1) ∷ by 0 ReadEpoch ∷ by 0 (StoreBirth 0 2) ∷ by 0 (StoreKey 0 7)
    ∷ by 0 (StoreValue 0 307) ∷ by 0 (LoadLink (Head 0)) ∷ by 0 ReadEpoch ∷ by 0 (StoreLink 0 None)
    ∷ by 0 (Publish (Head 0) 0 0) ∷ by 1 (Replace 0 4294967296 1) ∷ []

-- each is lost; the calls of the third are those of the one that won
pub lost_plays : PlaysOn 2 ready lost_to_a_mark
    (Won ∷ (Lost 6442450944) ∷ [])
    (record { who = 0; op = Insert; key = 7; reply = true; value = Some 107 }
    ∷ record { who = 0; op = Remove; key = 7; reply = true; value = Some 107 } ∷ [])
    × PlaysOn 2 ready lost_to_an_insert
    (Won ∷ Done ∷ Done ∷ Done ∷ Done ∷ Won ∷ (Lost 4294967299) ∷ [])
    (record { who = 0; op = Insert; key = 7; reply = true; value = Some 107 }
    ∷ record { who = 0; op = Insert; key = 9; reply = true; value = Some 109 } ∷ [])
    × PlaysOn 2 ready lost_to_another
    (Won ∷ Done ∷ Done ∷ Done ∷ Done ∷ Won ∷ (Lost 6442450947) ∷ [])
    (record { who = 0; op = Insert; key = 7; reply = true; value = Some 107 }
    ∷ record { who = 0; op = Remove; key = 7; reply = true; value = Some 107 }
    ∷ record { who = 0; op = Insert; key = 7; reply = true; value = Some 307 } ∷ [])
    × PlaysOn 2 ready lost_to_a_later_node
    (Won ∷ Won ∷ (Value 1) ∷ Done ∷ Won ∷ (Value 2) ∷ Done ∷ Done ∷ Done ∷ (Value 0) ∷ (Value 2) ∷ Done ∷ Won
    ∷ (Lost 8589934592) ∷ [])
    (record { who = 0; op = Insert; key = 7; reply = true; value = Some 107 }
    ∷ record { who = 0; op = Remove; key = 7; reply = true; value = Some 107 }
    ∷ record { who = 0; op = Insert; key = 7; reply = true; value = Some 307 } ∷ [])
unfolding bucket_of link_of word_of has_flag first_bits flag_word
lost_plays = (
  (search (rules, tests), refl, refl),
  (search (rules, tests), refl, refl),
  (search (rules, tests), refl, refl),
  (search (rules, tests), refl, refl),
)

-- where it is lost to another, it still has its node in hand, and then replaces the new one: two marked nodes stand
-- before the linked one
abbrev replaced_next : List Event
replaced_next = by 1 (LoadLink (Slot 0)) ∷ by 1 ReadEpoch ∷ by 1 (LoadBirth 2) ∷ by 1 (LoadKey 2) ∷ by 1 (LoadValue 2)
    ∷ by 1 (LoadLink (Slot 2)) ∷ by 1 ReadEpoch ∷ by 1 (Replace 2 4294967296 1) ∷ []

pub replaced_next_plays : PlaysOn 2 (ready ++ lost_to_another) replaced_next
    ((Value 6442450947) ∷ (Value 1) ∷ (Value 1) ∷ (Value 7) ∷ (Value 307) ∷ (Value 4294967296) ∷ (Value 1) ∷ Won ∷ [])
    (record { who = 0; op = Insert; key = 7; reply = true; value = Some 107 }
    ∷ record { who = 0; op = Remove; key = 7; reply = true; value = Some 107 }
    ∷ record { who = 0; op = Insert; key = 7; reply = true; value = Some 307 }
    ∷ record { who = 1; op = Remove; key = 7; reply = true; value = Some 307 }
    ∷ record { who = 1; op = Insert; key = 7; reply = true; value = Some 207 } ∷ [])
unfolding bucket_of link_of word_of has_flag first_bits flag_word
replaced_next_plays = (search (rules, tests), refl, refl)

-- the incarnation in hand was born before the one that it replaces, and stands behind it: by its rank, and not by
-- its number
pub replaced_next_place : let a = incarnations_after map_of_three (ready ++ lost_to_another ++ replaced_next) in
    (a.next 2 ≡ Some 1) × (a.rank 1 ≡ 2)
unfolding bucket_of link_of word_of has_flag first_bits flag_word
replaced_next_place = (refl, refl)

-- ---- what is refused

pub replaced_without_its_birth : Refuses map_of_three 2
    (world_after map_of_three
    (inserted ++ read_by_another ++ by 1 (TakeFlag 1) ∷ by 1 (StoreBirth 1 1) ∷ by 1 (StoreKey 1 7)
    ∷ by 1 (StoreValue 1 207) ∷ by 1 (StoreLink 1 None) ∷ [])) (by 1 (Replace 0 4294967296 1)) NotHeld
unfolding bucket_of link_of word_of has_flag first_bits flag_word
replaced_without_its_birth = search (rules, tests)

pub replaced_by_another_key : Refuses map_of_three 2 (world_after map_of_three (ready ++ by 1 (StoreKey 1 8) ∷ []))
    (by 1 (Replace 0 4294967296 1)) OutOfRange
unfolding bucket_of link_of word_of has_flag first_bits flag_word
replaced_by_another_key = search (rules, tests)

pub replaced_without_a_value : Refuses map_of_three 2
    (world_after map_of_three
    (inserted ++ read_by_another ++ by 1 (LoadBirth 0) ∷ by 1 ReadEpoch ∷ by 1 (TakeFlag 1) ∷ by 1 (StoreBirth 1 1)
    ∷ by 1 (StoreKey 1 7) ∷ by 1 (StoreLink 1 None) ∷ [])) (by 1 (Replace 0 4294967296 1)) OutOfRange
unfolding bucket_of link_of word_of has_flag first_bits flag_word
replaced_without_a_value = search (rules, tests)

pub replaced_by_nothing_in_hand : Refuses map_of_three 2 (world_after map_of_three ready)
    (by 1 (Replace 0 4294967296 2))
    NotOwned
unfolding bucket_of link_of word_of has_flag first_bits flag_word
replaced_by_nothing_in_hand = search (rules, tests)

pub replaced_in_a_set :
    Refuses (empty_start (record { slots = 3; buckets = 1; spread = None; last_epoch = 10; values = false })) 2
    (opening (empty_start (record { slots = 3; buckets = 1; spread = None; last_epoch = 10; values = false })))
    (by 0 (Replace 0 4294967296 1)) OutOfRange
unfolding bucket_of link_of word_of has_flag first_bits flag_word
replaced_in_a_set = search (rules, tests)

-- no number of turns leads the third pass from the old node to one before which 7 stands
never_above : (turns : ℕ) → turns ≤ 3 →
    IsBefore (know_after map_of_three (replaced ++ walked) 2).checked 7
    (after_turns (know_after map_of_three (replaced ++ walked) 2).checked turns (Some 0)) → ⊥
unfolding bucket_of link_of word_of has_flag first_bits flag_word
never_above zero within before = omega (arith, before)
never_above (suc zero) within before = omega (arith, before)
never_above (suc (suc zero)) within before = omega (arith, before)
never_above (suc (suc (suc zero))) within before = omega (arith, before)
never_above (suc (suc (suc (suc turns)))) within before = omega (arith, within)

-- so it can't answer that the key is absent, past the old node
pub absent_past_the_old_node : Refuses map_of_three 3 (world_after map_of_three (replaced ++ walked))
    (by 2 (ConfirmAbsent Has 7 (Head 0) 4294967297)) OutOfRange
unfolding bucket_of link_of word_of has_flag first_bits flag_word
absent_past_the_old_node = (
  omega arith,
  inr (
    (omega arith, tt),
    tt,
    (refl, tt, record { turns = 1; within = omega arith; known = refl }),
    λ range. never_above range.3.turns range.3.within range.3.before,
  ),
)
