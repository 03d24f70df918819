-- A look-up that passes a marked node, computed: that node has the key, and its link names none.
use Rattle.std.proofs.Common.{◌≡◌, true, false, [], ◌∷◌, ◌++◌, take, refl, rules, arith, None}
use Rattle.vbr_words.specs.Flags.{has_flag, first_bits, flag_word}
use Rattle.vbr_words.specs.Words.{word_of, link_of}
use Rattle.vbr_words.specs.declared.place.At.TheVariants.{Head}
use Rattle.vbr_words.specs.Buckets.{bucket_of}
use Rattle.vbr_machine.specs.Learning.{effect_of}
use Rattle.vbr_machine.specs.Machine.{found}
use Rattle.vbr_machine.specs.Runs.{IsAccepted, world_after}
use Rattle.vbr_machine.specs.declared.event.Step.{Step}
use Rattle.vbr_machine.specs.declared.event.Step.TheVariants.{ConfirmAbsent}
use Rattle.vbr_machine.specs.declared.event.Effect.TheVariants.{Answered}
use Rattle.vbr_machine.specs.declared.history.Op.TheVariants.{Insert, Remove, Has}
use Rattle.vbr_machine.proofs.worked.WorkedLists.{by, shape_of_one, two_helpers}

abbrev look : Step
look = ConfirmAbsent Has 7 (Head 0) 4294967297

pub passes_a_marked_node : IsAccepted shape_of_one 2 (world_after shape_of_one (take 16 two_helpers)) (by 1 look)
unfolding bucket_of link_of word_of has_flag first_bits flag_word
passes_a_marked_node = (
  omega arith,
  record {
    in_shape = omega arith;
    owned = tt;
    held = (refl, tt, record { turns = 0; within = omega arith; known = refl });
    in_range = (refl, search rules, refl, record { turns = 1; within = omega arith; before = tt });
    below_last = tt;
  },
)

pub answers_no : effect_of look (found shape_of_one (world_after shape_of_one (take 16 two_helpers)) look)
    ≡ Answered false
unfolding bucket_of link_of word_of has_flag first_bits flag_word
answers_no = refl

pub calls : (world_after shape_of_one (take 16 two_helpers ++ by 1 look ∷ [])).calls ≡
    record { who = 0; op = Insert; key = 7; reply = true; value = None }
    ∷ record { who = 0; op = Remove; key = 7; reply = true; value = None }
    ∷ record { who = 1; op = Has; key = 7; reply = false; value = None } ∷ []
unfolding bucket_of link_of word_of has_flag first_bits flag_word
calls = refl
