-- The worked lists of events, and each with other numbers as the link words that its steps expect.
use Rattle.std.proofs.Common.{ℕ, true, List, [], ◌∷◌, Some, None}
use Rattle.vbr_words.specs.declared.place.At.TheVariants.{Head, Slot}
use Rattle.vbr_machine.specs.declared.event.Effect.{Effect}
use Rattle.vbr_machine.specs.declared.event.Effect.TheVariants.{Value, Done, Won, Lost, Answered}
use Rattle.vbr_machine.specs.declared.event.Step.{Step}
use Rattle.vbr_machine.specs.declared.event.Step.TheVariants.{ReadEpoch, Advance, LoadStamp, PeekBirth, StoreStamp, Raise}
use Rattle.vbr_machine.specs.declared.event.Step.TheVariants.{TakeFlag, StoreBirth, StoreKey, StoreValue, StoreLink}
use Rattle.vbr_machine.specs.declared.event.Step.TheVariants.{LoadLink, LoadBirth, LoadKey, LoadValue, Publish, Mark}
use Rattle.vbr_machine.specs.declared.event.Step.TheVariants.{Replace, Unlink, ConfirmPresent}
use Rattle.vbr_machine.specs.declared.history.Op.TheVariants.{Has, Get}

abbrev pub reborn_slot_with : (a b c d e f : ℕ) → List (ℕ × Step × Effect)
reborn_slot_with a b c d e f =
    (0, ReadEpoch, Value 1) ∷ (0, TakeFlag 0, Won) ∷ (0, LoadStamp 0, Value 0) ∷ (0, StoreBirth 0 1, Done) ∷
    (0, StoreKey 0 30, Done) ∷ (0, LoadLink (Head 0), Value 0) ∷ (0, ReadEpoch, Value 1) ∷
    (0, StoreLink 0 None, Done) ∷ (0, Publish (Head 0) a 0, Won) ∷ (0, TakeFlag 1, Won) ∷
    (0, StoreBirth 1 1, Done) ∷ (0, StoreKey 1 20, Done) ∷ (0, StoreLink 1 (Some 0), Done) ∷
    (0, Publish (Head 0) b 1, Won) ∷ (1, ReadEpoch, Value 1) ∷ (1, LoadLink (Head 0), Value 4294967298) ∷
    (1, ReadEpoch, Value 1) ∷ (1, LoadKey 1, Value 20) ∷ (1, LoadBirth 1, Value 1) ∷
    (1, LoadLink (Slot 1), Value 4294967297) ∷ (1, ReadEpoch, Value 1) ∷ (1, LoadKey 0, Value 30) ∷
    (1, LoadBirth 0, Value 1) ∷ (1, ReadEpoch, Value 1) ∷ (1, TakeFlag 2, Won) ∷ (1, StoreBirth 2 1, Done) ∷
    (1, StoreKey 2 25, Done) ∷ (1, StoreLink 2 (Some 0), Done) ∷ (0, Mark 1 c, Won) ∷
    (0, Unlink (Head 0) d 1, Won) ∷ (0, ReadEpoch, Value 1) ∷ (0, StoreStamp 1 1, Done) ∷ (0, Advance 1, Won) ∷
    (0, ReadEpoch, Value 2) ∷ (0, StoreBirth 1 2, Done) ∷ (0, StoreKey 1 10, Done) ∷
    (0, LoadLink (Head 0), Value 4294967297) ∷ (0, ReadEpoch, Value 2) ∷ (0, LoadKey 0, Value 30) ∷
    (0, LoadBirth 0, Value 1) ∷ (0, ReadEpoch, Value 2) ∷ (0, StoreLink 1 (Some 0), Done) ∷
    (0, Publish (Head 0) e 1, Won) ∷ (1, Publish (Slot 1) f 2, Lost 8589934593) ∷ (1, PeekBirth 1, Value 2) ∷ []

abbrev pub reborn_slot : List (ℕ × Step × Effect)
reborn_slot = reborn_slot_with 0 4294967297 4294967297 4294967298 4294967297 4294967297

abbrev pub same_word_with : (a b c d e : ℕ) → List (ℕ × Step × Effect)
same_word_with a b c d e =
    (0, ReadEpoch, Value 1) ∷ (0, Advance 1, Won) ∷ (0, ReadEpoch, Value 2) ∷ (0, TakeFlag 0, Won) ∷
    (0, StoreBirth 0 2, Done) ∷ (0, StoreKey 0 30, Done) ∷ (0, LoadLink (Head 0), Value 0) ∷
    (0, ReadEpoch, Value 2) ∷ (0, StoreLink 0 None, Done) ∷ (0, Publish (Head 0) a 0, Won) ∷
    (1, ReadEpoch, Value 2) ∷ (1, LoadLink (Head 0), Value 8589934593) ∷ (1, ReadEpoch, Value 2) ∷
    (1, LoadKey 0, Value 30) ∷ (1, LoadBirth 0, Value 2) ∷ (1, ReadEpoch, Value 2) ∷ (1, TakeFlag 1, Won) ∷
    (1, StoreBirth 1 2, Done) ∷ (1, StoreKey 1 20, Done) ∷ (1, StoreLink 1 (Some 0), Done) ∷ (0, Advance 2, Won) ∷
    (0, Advance 3, Won) ∷ (0, Advance 4, Won) ∷ (0, ReadEpoch, Value 5) ∷ (0, TakeFlag 2, Won) ∷
    (0, StoreBirth 2 5, Done) ∷ (0, StoreKey 2 10, Done) ∷ (0, LoadLink (Head 0), Value 8589934593) ∷
    (0, ReadEpoch, Value 5) ∷ (0, LoadKey 0, Value 30) ∷ (0, LoadBirth 0, Value 2) ∷ (0, ReadEpoch, Value 5) ∷
    (0, StoreLink 2 (Some 0), Done) ∷ (0, Publish (Head 0) b 2, Won) ∷ (0, Mark 2 c, Won) ∷
    (0, Unlink (Head 0) d 2, Won) ∷ (1, Publish (Head 0) e 1, Won) ∷ []

abbrev pub same_word : List (ℕ × Step × Effect)
same_word = same_word_with 0 8589934593 21474836481 21474836483 8589934593

abbrev pub two_helpers_with : (a b c d : ℕ) → List (ℕ × Step × Effect)
two_helpers_with a b c d =
    (0, ReadEpoch, Value 1) ∷ (0, TakeFlag 0, Won) ∷ (0, StoreBirth 0 1, Done) ∷ (0, StoreKey 0 7, Done) ∷
    (0, LoadLink (Head 0), Value 0) ∷ (0, ReadEpoch, Value 1) ∷ (0, StoreLink 0 None, Done) ∷
    (0, Publish (Head 0) a 0, Won) ∷ (1, ReadEpoch, Value 1) ∷ (1, LoadLink (Head 0), Value 4294967297) ∷
    (1, ReadEpoch, Value 1) ∷ (0, Mark 0 b, Won) ∷ (1, LoadKey 0, Value 7) ∷ (1, LoadBirth 0, Value 1) ∷
    (1, LoadLink (Slot 0), Value 6442450944) ∷ (1, ReadEpoch, Value 1) ∷ (1, Unlink (Head 0) c 0, Won) ∷
    (0, Unlink (Head 0) d 0, Lost 0) ∷ []

abbrev pub two_helpers : List (ℕ × Step × Effect)
two_helpers = two_helpers_with 0 4294967296 4294967297 4294967297

abbrev pub raised_in_hand_with : (a : ℕ) → List (ℕ × Step × Effect)
raised_in_hand_with a =
    (1, ReadEpoch, Value 1) ∷ (1, LoadLink (Head 0), Value 0) ∷ (1, ReadEpoch, Value 1) ∷ (0, ReadEpoch, Value 1) ∷
    (0, Advance 1, Won) ∷ (0, ReadEpoch, Value 2) ∷ (0, TakeFlag 0, Won) ∷ (0, StoreBirth 0 2, Done) ∷
    (0, StoreKey 0 9, Done) ∷ (0, StoreLink 0 None, Done) ∷ (0, Raise 0, Done) ∷ (1, TakeFlag 0, Won) ∷
    (1, StoreBirth 0 1, Done) ∷ (1, StoreKey 0 7, Done) ∷ (1, StoreLink 0 None, Done) ∷
    (1, Publish (Head 0) a 0, Won) ∷ []

abbrev pub raised_in_hand : List (ℕ × Step × Effect)
raised_in_hand = raised_in_hand_with 0

abbrev pub replaced_value_with : (a b c d e f g h : ℕ) → List (ℕ × Step × Effect)
replaced_value_with a b c d e f g h =
    (0, ReadEpoch, Value 1) ∷ (0, TakeFlag 0, Won) ∷ (0, StoreBirth 0 1, Done) ∷ (0, StoreKey 0 7, Done) ∷
    (0, StoreValue 0 107, Done) ∷ (0, LoadLink (Head 0), Value 0) ∷ (0, ReadEpoch, Value 1) ∷
    (0, StoreLink 0 None, Done) ∷ (0, Publish (Head 0) a 0, Won) ∷ (1, ReadEpoch, Value 1) ∷
    (1, LoadLink (Head 0), Value 4294967297) ∷ (1, ReadEpoch, Value 1) ∷ (1, LoadKey 0, Value 7) ∷
    (1, LoadValue 0, Value 107) ∷ (1, LoadBirth 0, Value 1) ∷ (1, LoadLink (Slot 0), Value 4294967296) ∷
    (1, ReadEpoch, Value 1) ∷ (1, TakeFlag 2, Won) ∷ (1, StoreBirth 2 1, Done) ∷ (1, StoreKey 2 7, Done) ∷
    (1, StoreValue 2 307, Done) ∷ (1, StoreLink 2 None, Done) ∷ (0, TakeFlag 1, Won) ∷ (0, StoreBirth 1 1, Done) ∷
    (0, StoreKey 1 7, Done) ∷ (0, StoreValue 1 207, Done) ∷ (0, StoreLink 1 None, Done) ∷ (0, Replace 0 b 1, Won) ∷
    (1, Replace 0 c 2, Lost 6442450946) ∷ (1, ConfirmPresent Get 0 d, Lost 6442450946) ∷
    (1, LoadLink (Slot 0), Value 6442450946) ∷ (1, ReadEpoch, Value 1) ∷ (1, LoadKey 1, Value 7) ∷
    (1, LoadValue 1, Value 207) ∷ (1, LoadBirth 1, Value 1) ∷ (1, LoadLink (Slot 1), Value 4294967296) ∷
    (1, ReadEpoch, Value 1) ∷ (1, ConfirmPresent Get 1 e, Answered true) ∷ (1, Unlink (Head 0) f 0, Won) ∷
    (1, ReadEpoch, Value 1) ∷ (1, StoreStamp 0 1, Done) ∷ (1, Replace 1 g 2, Won) ∷
    (0, Mark 1 h, Lost 6442450947) ∷ []

abbrev pub replaced_value : List (ℕ × Step × Effect)
replaced_value = replaced_value_with 0 4294967296 4294967296 4294967296 4294967296 4294967297 4294967296 4294967296

abbrev pub standing_rows_with : (a b c d e : ℕ) → List (ℕ × Step × Effect)
standing_rows_with a b c d e =
    (0, ReadEpoch, Value 1) ∷ (0, TakeFlag 0, Won) ∷ (0, StoreBirth 0 1, Done) ∷ (0, StoreKey 0 7, Done) ∷
    (0, LoadLink (Head 0), Value 0) ∷ (0, ReadEpoch, Value 1) ∷ (0, StoreLink 0 None, Done) ∷
    (0, Publish (Head 0) a 0, Won) ∷ (1, ReadEpoch, Value 1) ∷ (1, TakeFlag 1, Won) ∷ (1, LoadStamp 1, Value 0) ∷
    (1, StoreBirth 1 1, Done) ∷ (1, StoreKey 1 8, Done) ∷ (1, LoadLink (Head 0), Value 4294967297) ∷
    (1, ReadEpoch, Value 1) ∷ (1, LoadBirth 0, Value 1) ∷ (1, LoadLink (Slot 0), Value 4294967296) ∷
    (1, ReadEpoch, Value 1) ∷ (1, LoadKey 0, Value 7) ∷ (1, ReadEpoch, Value 1) ∷
    (1, ConfirmPresent Has 0 b, Answered true) ∷ (1, StoreLink 1 None, Done) ∷ (1, Publish (Slot 0) c 1, Won) ∷
    (1, Mark 0 d, Won) ∷ (1, Unlink (Head 0) e 0, Won) ∷ (1, ReadEpoch, Value 1) ∷ (1, StoreStamp 0 1, Done) ∷
    (1, Raise 0, Done) ∷ (1, Advance 1, Won) ∷ (1, PeekBirth 1, Value 1) ∷ []

abbrev pub standing_rows : List (ℕ × Step × Effect)
standing_rows = standing_rows_with 0 4294967296 4294967296 4294967298 4294967297

abbrev pub standing_rows_with_values_with : (a b c d e : ℕ) → List (ℕ × Step × Effect)
standing_rows_with_values_with a b c d e =
    (0, ReadEpoch, Value 1) ∷ (0, TakeFlag 0, Won) ∷ (0, StoreBirth 0 1, Done) ∷ (0, StoreKey 0 7, Done) ∷
    (0, StoreValue 0 107, Done) ∷ (0, LoadLink (Head 0), Value 0) ∷ (0, ReadEpoch, Value 1) ∷
    (0, StoreLink 0 None, Done) ∷ (0, Publish (Head 0) a 0, Won) ∷ (1, ReadEpoch, Value 1) ∷ (1, TakeFlag 1, Won) ∷
    (1, LoadStamp 1, Value 0) ∷ (1, StoreBirth 1 1, Done) ∷ (1, StoreKey 1 8, Done) ∷ (1, StoreValue 1 108, Done) ∷
    (1, LoadLink (Head 0), Value 4294967297) ∷ (1, ReadEpoch, Value 1) ∷ (1, LoadBirth 0, Value 1) ∷
    (1, LoadLink (Slot 0), Value 4294967296) ∷ (1, ReadEpoch, Value 1) ∷ (1, LoadKey 0, Value 7) ∷
    (1, LoadValue 0, Value 107) ∷ (1, ReadEpoch, Value 1) ∷ (1, ConfirmPresent Has 0 b, Answered true) ∷
    (1, StoreLink 1 None, Done) ∷ (1, Publish (Slot 0) c 1, Won) ∷ (1, Mark 0 d, Won) ∷
    (1, Unlink (Head 0) e 0, Won) ∷ (1, ReadEpoch, Value 1) ∷ (1, StoreStamp 0 1, Done) ∷ (1, Raise 0, Done) ∷
    (1, Advance 1, Won) ∷ (1, PeekBirth 1, Value 1) ∷ []

abbrev pub standing_rows_with_values : List (ℕ × Step × Effect)
standing_rows_with_values = standing_rows_with_values_with 0 4294967296 4294967296 4294967298 4294967297

abbrev pub stored_value_with : (a b c d : ℕ) → List (ℕ × Step × Effect)
stored_value_with a b c d =
    (0, ReadEpoch, Value 1) ∷ (0, TakeFlag 0, Won) ∷ (0, StoreBirth 0 1, Done) ∷ (0, StoreKey 0 7, Done) ∷
    (0, StoreValue 0 107, Done) ∷ (0, LoadLink (Head 0), Value 0) ∷ (0, ReadEpoch, Value 1) ∷
    (0, StoreLink 0 None, Done) ∷ (0, Publish (Head 0) a 0, Won) ∷ (0, LoadValue 0, Value 107) ∷
    (0, ReadEpoch, Value 1) ∷ (1, ReadEpoch, Value 1) ∷ (1, LoadLink (Head 0), Value 4294967297) ∷
    (1, ReadEpoch, Value 1) ∷ (1, LoadKey 0, Value 7) ∷ (1, LoadLink (Slot 0), Value 4294967296) ∷
    (1, LoadValue 0, Value 107) ∷ (1, ReadEpoch, Value 1) ∷ (1, ConfirmPresent Get 0 b, Answered true) ∷
    (0, Mark 0 c, Won) ∷ (1, ConfirmPresent Get 0 d, Lost 6442450944) ∷ []

abbrev pub stored_value : List (ℕ × Step × Effect)
stored_value = stored_value_with 0 4294967296 4294967296 4294967296
