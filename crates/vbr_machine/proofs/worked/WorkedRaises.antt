-- A run in which a slot is raised while it is in hand, computed.
-- Its incarnation is given up, and another pass, which read an earlier epoch, bears there with a smaller birth.
-- And the raises that are refused of a slot that was unlinked and isn't stamped.
use Rattle.std.proofs.Common.{◌≡◌, ℕ, false, List, [], ◌∷◌, map, take, None, refl, rules, tests}
use Rattle.vbr_words.specs.Buckets.{bucket_of}
use Rattle.vbr_words.specs.Flags.{has_flag, first_bits, flag_word}
use Rattle.vbr_words.specs.Words.{word_of, link_of}
use Rattle.vbr_words.specs.declared.place.At.TheVariants.{Head}
use Rattle.vbr_machine.specs.Accounts.{chronicle, incarnations_after}
use Rattle.vbr_machine.specs.Chronicles.{Happening, Advances, Gains, Raises, GivesUp, Bears, Keyed, Aims, Inserts}
use Rattle.vbr_machine.specs.Chronicles.{AtHead, Entry}
use Rattle.vbr_machine.specs.Incarnations.{GivenUp, Linked}
use Rattle.vbr_machine.specs.Runs.{IsRun, Refuses, world_after}
use Rattle.vbr_machine.specs.declared.event.CoreRefusal.TheVariants.{NotOwned}
use Rattle.vbr_machine.specs.declared.event.Event.{Event}
use Rattle.vbr_machine.specs.declared.event.Step.TheVariants.{ReadEpoch, Advance, Raise, TakeFlag, StoreBirth, StoreKey}
use Rattle.vbr_machine.specs.declared.event.Step.TheVariants.{StoreLink, LoadLink, Publish}
use Rattle.vbr_machine.proofs.worked.WorkedLists.{by, shape_of_one, two_helpers}

abbrev raised_in_hand : List Event
raised_in_hand = by 1 ReadEpoch ∷ by 1 (LoadLink (Head 0)) ∷ by 1 ReadEpoch ∷ by 0 ReadEpoch ∷ by 0 (Advance 1)
    ∷ by 0 ReadEpoch ∷ by 0 (TakeFlag 0) ∷ by 0 (StoreBirth 0 2) ∷ by 0 (Raise 0) ∷ by 1 (TakeFlag 0)
    ∷ by 1 (StoreBirth 0 1) ∷ by 1 (StoreKey 0 7) ∷ by 1 (StoreLink 0 None) ∷ by 1 (Publish (Head 0) 0 0) ∷ []

abbrev entry : ℕ → Happening → Entry
entry pass what = record { pass = pass; what = what }

pub raised_in_hand_accepted : IsRun shape_of_one 2 raised_in_hand
unfolding bucket_of link_of word_of has_flag first_bits flag_word
raised_in_hand_accepted = search (rules, tests)

pub raised_in_hand_chronicle : chronicle shape_of_one raised_in_hand
    ≡ entry 0 Advances ∷ entry 0 (Gains 0) ∷ entry 0 (Bears 0 2) ∷ entry 0 (GivesUp 0) ∷ entry 0 (Raises 0)
    ∷ entry 1 (Gains 0) ∷ entry 1 (Bears 0 1) ∷ entry 1 (Keyed 1 7)
    ∷ entry 1 (Aims 1 (record { slot = None; mark = false; version = 1 })) ∷ entry 1 (Inserts 1 (AtHead 0)) ∷ []
unfolding bucket_of link_of word_of has_flag first_bits flag_word
raised_in_hand_chronicle = refl

-- what became of the two incarnations, and their births
pub raised_in_hand_incarnations :
    (map (incarnations_after shape_of_one raised_in_hand).state (0 ∷ 1 ∷ []) ≡ GivenUp ∷ Linked ∷ []) ×
    (map (incarnations_after shape_of_one raised_in_hand).birth (0 ∷ 1 ∷ []) ≡ 2 ∷ 1 ∷ [])
unfolding bucket_of link_of word_of has_flag first_bits flag_word
raised_in_hand_incarnations = (refl, refl)

-- by the pass that unlinked it, and by another
pub unstamped_is_not_raised : Refuses shape_of_one 2 (world_after shape_of_one (take 17 two_helpers)) (by 1 (Raise 0))
    NotOwned × Refuses shape_of_one 2 (world_after shape_of_one (take 17 two_helpers)) (by 0 (Raise 0)) NotOwned
unfolding bucket_of link_of word_of has_flag first_bits flag_word
unstamped_is_not_raised = (search (rules, tests), search (rules, tests))
