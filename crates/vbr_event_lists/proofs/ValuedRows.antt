-- The worked lists of events on nodes that have values, computed with their effects and the words that they name.
use Rattle.std.proofs.Common.{ℕ, zero, suc, List, take, drop, rules, tests}
use Rattle.vbr_machine.specs.Start.{Start}
use Rattle.vbr_words.specs.Flags.{has_flag, first_bits, flag_word}
use Rattle.vbr_words.specs.Words.{word_of, link_of}
use Rattle.vbr_words.specs.Buckets.{bucket_of}
use Rattle.vbr_machine.specs.Machine.{World, opening}
use Rattle.vbr_machine.specs.declared.event.Effect.{Effect}
use Rattle.vbr_machine.specs.declared.event.Step.{Step}
use Rattle.vbr_event_lists.proofs.RowLists as rows
use Rattle.vbr_event_lists.specs.Worked.{AreWorked, three_slots, one_slot, many_epochs}
use Rattle.vbr_event_lists.specs.Valued.{valued, with_values}
use Rattle.vbr_event_lists.specs.declared.worked_lists.TheConstants.{REBORN_SLOT_WORDS}
use Rattle.vbr_event_lists.specs.declared.worked_lists.TheConstants.{SAME_WORD_WORDS, TWO_HELPERS_WORDS}
use Rattle.vbr_event_lists.specs.declared.raised_slot.TheConstants.{RAISED_IN_HAND_WORDS}
use Rattle.vbr_event_lists.specs.declared.replacements.TheConstants.{REPLACED_VALUE_WORDS}
use Rattle.vbr_event_lists.specs.declared.step_kinds.TheConstants.{STANDING_WORDS}
use Rattle.vbr_event_lists.specs.declared.values.TheConstants.{STORED_VALUE_WORDS}
use Rattle.vbr_event_lists.proofs.WorkedRows.{left_after, worked_in_two}

-- rows are worked in parts: so many parts of n rows, and then what is left
abbrev pub InParts : Start → ℕ → ℕ → List (ℕ × Step × Effect) → World → List ℕ → Type 0
InParts start zero n rows w words = AreWorked start w rows words
InParts start (suc parts) n rows w words =
    AreWorked start w (take n rows) words ×
    InParts start parts n (drop n rows) (left_after start n rows w words).0 (left_after start n rows w words).1

-- rows that are worked in parts are worked
worked_in_parts : (start : Start) (parts n : ℕ) (rows : List (ℕ × Step × Effect)) (w : World) (words : List ℕ) →
    InParts start parts n rows w words → AreWorked start w rows words
worked_in_parts start zero n rows w words all = all
worked_in_parts start (suc parts) n rows w words all =
    worked_in_two start n rows w words all.0
    (worked_in_parts start parts n (drop n rows) (left_after start n rows w words).0 (left_after start n rows w words).1
    all.1)

pub stored_value : AreWorked (valued one_slot) (opening (valued one_slot)) rows.stored_value STORED_VALUE_WORDS
unfolding bucket_of link_of word_of has_flag first_bits flag_word
stored_value = search (rules, tests)

-- the rows are worked where nodes have values, once those of values are added
abbrev pub IsWorkedValued : Start → List (ℕ × Step × Effect) → List ℕ → Type 0
IsWorkedValued start rows words = AreWorked (valued start) (opening (valued start)) (with_values rows) words

-- so are those that are in parts
valued_in_parts : (start : Start) (parts n : ℕ) (rows : List (ℕ × Step × Effect)) (words : List ℕ) →
    InParts (valued start) parts n (with_values rows) (opening (valued start)) words → IsWorkedValued start rows words
valued_in_parts start parts n rows words all =
    worked_in_parts (valued start) parts n (with_values rows) (opening (valued start)) words all

-- the lists that are made from others in parts, since the whole is too long for one search
pub two_helpers_with_values : IsWorkedValued one_slot rows.two_helpers TWO_HELPERS_WORDS
unfolding bucket_of link_of word_of has_flag first_bits flag_word
two_helpers_with_values =
    valued_in_parts one_slot 1 10 rows.two_helpers TWO_HELPERS_WORDS (search (rules, tests), search (rules, tests))

pub reborn_slot_with_values : IsWorkedValued three_slots rows.reborn_slot REBORN_SLOT_WORDS
unfolding bucket_of link_of word_of has_flag first_bits flag_word
reborn_slot_with_values =
    valued_in_parts three_slots 4 10 rows.reborn_slot REBORN_SLOT_WORDS (
      search (rules, tests),
      (search (rules, tests), (search (rules, tests), (search (rules, tests), search (rules, tests)))),
    )

pub same_word_with_values : IsWorkedValued three_slots rows.same_word SAME_WORD_WORDS
unfolding bucket_of link_of word_of has_flag first_bits flag_word
same_word_with_values =
    valued_in_parts three_slots 3 10 rows.same_word SAME_WORD_WORDS
    (search (rules, tests), (search (rules, tests), (search (rules, tests), search (rules, tests))))

pub raised_in_hand_with_values : IsWorkedValued one_slot rows.raised_in_hand RAISED_IN_HAND_WORDS
unfolding bucket_of link_of word_of has_flag first_bits flag_word
raised_in_hand_with_values =
    valued_in_parts one_slot 1 10 rows.raised_in_hand RAISED_IN_HAND_WORDS
    (search (rules, tests), search (rules, tests))

pub standing_with_values : AreWorked (valued many_epochs) (opening (valued many_epochs)) rows.standing_rows_with_values
    STANDING_WORDS
unfolding bucket_of link_of word_of has_flag first_bits flag_word
standing_with_values =
    worked_in_parts (valued many_epochs) 3 10 rows.standing_rows_with_values (opening (valued many_epochs))
    STANDING_WORDS
    (search (rules, tests), (search (rules, tests), (search (rules, tests), search (rules, tests))))

pub replaced_value : AreWorked (valued many_epochs) (opening (valued many_epochs)) rows.replaced_value
    REPLACED_VALUE_WORDS
unfolding bucket_of link_of word_of has_flag first_bits flag_word
replaced_value =
    worked_in_parts (valued many_epochs) 4 10 rows.replaced_value (opening (valued many_epochs)) REPLACED_VALUE_WORDS (
      search (rules, tests),
      (search (rules, tests), (search (rules, tests), (search (rules, tests), search (rules, tests)))),
    )
