-- The list with a step of each kind, computed, and its beginnings.
use Rattle.std.proofs.Common.{ℕ, zero, suc, List, [], ◌∷◌, take, rules, tests}
use Rattle.std.specs.Prelude.{if◌then◌else◌}
use Rattle.vbr_machine.specs.Start.{Start}
use Rattle.vbr_words.specs.Flags.{has_flag, first_bits, flag_word}
use Rattle.vbr_words.specs.Words.{word_of, link_of}
use Rattle.vbr_words.specs.Buckets.{bucket_of}
use Rattle.vbr_machine.specs.Machine.{World, after, opening}
use Rattle.vbr_machine.specs.declared.event.Effect.{Effect}
use Rattle.vbr_machine.specs.declared.event.Step.{Step}
use Rattle.vbr_event_lists.proofs.RowLists as rows
use Rattle.vbr_event_lists.specs.Worked.{AreWorked, names_link, others_of, many_epochs}
use Rattle.vbr_event_lists.specs.declared.step_kinds.TheConstants.{STANDING_WORDS}

pub standing : AreWorked many_epochs (opening many_epochs) rows.standing_rows STANDING_WORDS
unfolding bucket_of link_of word_of has_flag first_bits flag_word
standing = search (rules, tests)

-- the first rows of those that are worked are worked
pub first_worked : (start : Start) (n : ℕ) (rows : List (ℕ × Step × Effect)) (w : World) (words : List ℕ) →
    AreWorked start w rows words → AreWorked start w (take n rows) words
first_worked start zero rows w words all = tt
first_worked start (suc n) [] w words all = tt
first_worked start (suc n) (row ∷ rows) w words all = (
  all.0,
  all.1,
  all.2,
  all.3,
  first_worked start n rows (after start w row.0 row.1) (if names_link row.1 then others_of words else words) all.4,
)
