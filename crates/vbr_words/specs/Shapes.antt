-- Which numbers are refused as a shape.
use Rattle.std.specs.Prelude.{ℕ, ◌||◌, ◌==◌, min, nat_lt, Option, Some, None, if◌then◌else◌}
use Rattle.vbr_words.specs.declared.link.TheConstants.{MAX_SLOTS}
use Rattle.vbr_words.specs.declared.shape.TheConstants.{MAX_BUCKETS, MAX_EPOCH}
use Rattle.vbr_words.specs.Packing.{max_epoch}
use Rattle.vbr_words.specs.declared.shape.ShapeError.{ShapeError}
use Rattle.vbr_words.specs.declared.shape.ShapeError.TheVariants as error

-- the last epoch that a number asks for if there are so many slots: the number, but MAX_EPOCH never asks for more than there is room for
abbrev pub last_epoch_for : ℕ → ℕ → ℕ
last_epoch_for slots asked = if asked == MAX_EPOCH then min asked (max_epoch slots) else asked

-- why three numbers are no shape: the first of the slots, the buckets and the last epoch that is 0 or above its limit, which for the last epoch follows from the slots
abbrev pub shape_error : ℕ → ℕ → ℕ → Option ShapeError
shape_error slots buckets last_epoch =
    if slots == 0 || nat_lt MAX_SLOTS slots then Some error.Slots
    else (if buckets == 0 || nat_lt MAX_BUCKETS buckets then Some error.Buckets
    else (if last_epoch_for slots last_epoch == 0 || nat_lt (max_epoch slots) (last_epoch_for slots last_epoch)
    then Some error.LastEpoch
    else None))
