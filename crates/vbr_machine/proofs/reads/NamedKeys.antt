-- A confirming load for an absent key needs no walk where the named node's key is checked, and is greater.
use Rattle.std.proofs.Common.{◌≢◌, ℕ, arith}
use Rattle.vbr_machine.specs.Start.{Start}
use Rattle.vbr_words.specs.Words.{link_of}
use Rattle.vbr_words.specs.declared.place.At.{At}
use Rattle.vbr_machine.specs.Knowledge.{Know}
use Rattle.vbr_machine.specs.Acceptance.{IsBetween, IsAtIn, IsOpIn, Accepts}
use Rattle.vbr_machine.specs.declared.history.Op.{Op}
use Rattle.vbr_machine.specs.declared.history.Op.TheVariants.{Insert}
use Rattle.vbr_machine.specs.declared.event.Step.TheVariants.{ConfirmAbsent}

pub between_accepted : (start : Start) (know : Know) (op : Op) (key : ℕ) (place : At) (expected : ℕ) →
    IsAtIn start place →
    IsOpIn start op → op ≢ Insert → IsBetween start know.checked key place (link_of expected) →
    Accepts start know (ConfirmAbsent op key place expected)
between_accepted start know op key place expected inside asked not between = record {
  in_shape = (inside, asked);
  owned = tt;
  held = (between.known, between.here, record { turns = 0; within = omega arith; known = between.there });
  in_range = (
    between.unmarked,
    not,
    between.behind,
    record { turns = 0; within = omega arith; before = between.before },
  );
  below_last = tt;
}
