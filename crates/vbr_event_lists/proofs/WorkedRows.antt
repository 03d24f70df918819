-- The worked lists of events, computed: each is accepted, with its effects and with the link words that it names.
use Rattle.std.proofs.Common.{ℕ, zero, suc, List, [], ◌∷◌, take, drop, rules, tests}
use Rattle.std.specs.Prelude.{if◌then◌else◌}
use Rattle.vbr_machine.specs.Start.{Start}
use Rattle.vbr_words.specs.Flags.{has_flag, first_bits, flag_word}
use Rattle.vbr_words.specs.Words.{word_of, link_of}
use Rattle.vbr_words.specs.Buckets.{bucket_of}
use Rattle.vbr_machine.specs.Machine.{World, after, opening}
use Rattle.vbr_machine.specs.declared.event.Effect.{Effect}
use Rattle.vbr_machine.specs.declared.event.Step.{Step}
use Rattle.vbr_event_lists.proofs.RowLists as rows
use Rattle.vbr_event_lists.specs.Worked.{AreWorked, names_link, others_of, three_slots, one_slot}
use Rattle.vbr_event_lists.specs.declared.worked_lists.TheConstants.{REBORN_SLOT_WORDS}
use Rattle.vbr_event_lists.specs.declared.worked_lists.TheConstants.{SAME_WORD_WORDS, TWO_HELPERS_WORDS}
use Rattle.vbr_event_lists.specs.declared.raised_slot.TheConstants.{RAISED_IN_HAND_WORDS}

pub two_helpers : AreWorked one_slot (opening one_slot) rows.two_helpers TWO_HELPERS_WORDS
unfolding bucket_of link_of word_of has_flag first_bits flag_word
two_helpers = search (rules, tests)

pub reborn_slot : AreWorked three_slots (opening three_slots) rows.reborn_slot REBORN_SLOT_WORDS
unfolding bucket_of link_of word_of has_flag first_bits flag_word
reborn_slot = search (rules, tests)

pub raised_in_hand : AreWorked one_slot (opening one_slot) rows.raised_in_hand RAISED_IN_HAND_WORDS
unfolding bucket_of link_of word_of has_flag first_bits flag_word
raised_in_hand = search (rules, tests)

-- the world and the words that are left after so many rows
abbrev pub left_after : Start → ℕ → List (ℕ × Step × Effect) → World → List ℕ → World × List ℕ
left_after start (suc n) (row ∷ rows) w words =
    left_after start n rows (after start w row.0 row.1) (if names_link row.1 then others_of words else words)
left_after start zero rows w words = (w, words)
left_after start (suc n) [] w words = (w, words)

-- rows are worked where the first of them are, and then the others
pub worked_in_two : (start : Start) (n : ℕ) (rows : List (ℕ × Step × Effect)) (w : World) (words : List ℕ) →
    AreWorked start w (take n rows) words →
    AreWorked start (left_after start n rows w words).0 (drop n rows) (left_after start n rows w words).1 →
    AreWorked start w rows words
worked_in_two start zero rows w words first later = later
worked_in_two start (suc n) [] w words first later = later
worked_in_two start (suc n) (row ∷ rows) w words first later = (
  first.0,
  first.1,
  first.2,
  first.3,
  worked_in_two start n rows (after start w row.0 row.1) (if names_link row.1 then others_of words else words) first.4
      later,
)

-- in three parts, since the whole is too long for one search
pub same_word : AreWorked three_slots (opening three_slots) rows.same_word SAME_WORD_WORDS
unfolding bucket_of link_of word_of has_flag first_bits flag_word
same_word =
    worked_in_two three_slots 18 rows.same_word (opening three_slots) SAME_WORD_WORDS (search (rules, tests))
    (worked_in_two three_slots 9 (drop 18 rows.same_word)
    (left_after three_slots 18 rows.same_word (opening three_slots) SAME_WORD_WORDS).0
    (left_after three_slots 18 rows.same_word (opening three_slots) SAME_WORD_WORDS).1 (search (rules, tests))
    (search (rules, tests)))
