-- Where the slots are along the first worked run, computed at seven of its moments.
-- In a second run a pass has two unstamped slots at once.
use Rattle.std.proofs.Common.{◌≡◌, ℕ, List, [], ◌∷◌, ◌++◌, map, take, refl, rules, tests}
use Rattle.vbr_words.specs.Flags.{has_flag, first_bits, flag_word}
use Rattle.vbr_words.specs.Words.{word_of, link_of}
use Rattle.vbr_words.specs.Buckets.{bucket_of}
use Rattle.vbr_machine.specs.declared.event.Event.{Event}
use Rattle.vbr_machine.specs.Whereabouts.{Whereabouts, InSharedPool, WithPass, InSet, MarkedInList, Unstamped}
use Rattle.vbr_machine.specs.Whereabouts.{number_at}
use Rattle.vbr_machine.specs.declared.event.Step.TheVariants.{Mark, Unlink}
use Rattle.vbr_machine.specs.Runs.{IsRun}
use Rattle.vbr_words.specs.declared.place.At.TheVariants.{Head}
use Rattle.vbr_machine.proofs.worked.WorkedLists.{by, shape_of_three, reborn_slot}

-- how many slots are in the shared pool, with each of the two passes, in the set, marked, and unstamped with each pass
abbrev numbers : ℕ → List ℕ
numbers moment =
    let number_in = λ (whereabouts : Whereabouts). number_at shape_of_three (take moment reborn_slot) whereabouts in
    number_in InSharedPool ∷ number_in (WithPass 0) ∷ number_in (WithPass 1) ∷ number_in InSet
    ∷ number_in MarkedInList ∷ number_in (Unstamped 0)
    ∷ number_in (Unstamped 1) ∷ []

-- at the opening; once pass 0 has taken a slot; once it has published two, and pass 1 has one in hand; once a node
-- is marked; unlinked; stamped; and born in again and published
pub along_reborn_slot : map numbers (0 ∷ 2 ∷ 28 ∷ 29 ∷ 30 ∷ 32 ∷ 43 ∷ [])
    ≡ (3 ∷ 0 ∷ 0 ∷ 0 ∷ 0 ∷ 0 ∷ 0 ∷ [])
    ∷ (2 ∷ 1 ∷ 0 ∷ 0 ∷ 0 ∷ 0 ∷ 0 ∷ [])
    ∷ (0 ∷ 0 ∷ 1 ∷ 2 ∷ 0 ∷ 0 ∷ 0 ∷ [])
    ∷ (0 ∷ 0 ∷ 1 ∷ 1 ∷ 1 ∷ 0 ∷ 0 ∷ [])
    ∷ (0 ∷ 0 ∷ 1 ∷ 1 ∷ 0 ∷ 1 ∷ 0 ∷ [])
    ∷ (0 ∷ 1 ∷ 1 ∷ 1 ∷ 0 ∷ 0 ∷ 0 ∷ [])
    ∷ (0 ∷ 0 ∷ 1 ∷ 2 ∷ 0 ∷ 0 ∷ 0 ∷ [])
    ∷ []
unfolding bucket_of link_of word_of has_flag first_bits flag_word
along_reborn_slot = refl

-- ---- two unstamped at once

-- a run of the same beginning, in which pass 0 unlinks both nodes before it stamps one
abbrev two_unlinked : List Event
two_unlinked = take 14 reborn_slot ++ by 0 (Mark 1 4294967297) ∷ by 0 (Unlink (Head 0) 4294967298 1)
    ∷ by 0 (Mark 0 4294967296) ∷ by 0 (Unlink (Head 0) 4294967297 0) ∷ []

pub two_unlinked_accepted : IsRun shape_of_three 2 two_unlinked
unfolding bucket_of link_of word_of has_flag first_bits flag_word
two_unlinked_accepted = search (rules, tests)

pub two_unstamped : number_at shape_of_three two_unlinked (Unstamped 0) ≡ 2
unfolding bucket_of link_of word_of has_flag first_bits flag_word
two_unstamped = refl
