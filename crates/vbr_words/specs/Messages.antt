-- What an error prints.
use Rattle.std.specs.Prelude.{ℕ, List, ◌++◌, codes, decimal}
use Rattle.vbr_words.specs.declared.link.TheConstants.{MAX_SLOTS}
use Rattle.vbr_words.specs.declared.shape.TheConstants.{MAX_BUCKETS, MAX_SPREAD_BUCKETS}
use Rattle.vbr_words.specs.declared.shape.ShapeError.{ShapeError}
use Rattle.vbr_words.specs.declared.shape.ShapeError.TheVariants.{Slots, Buckets, LastEpoch}

-- what is printed of a shape that is refused
abbrev pub shape_error_text : ShapeError → List ℕ
shape_error_text Slots = codes "the number of slots is not from 1 to " ++ decimal MAX_SLOTS
shape_error_text Buckets = codes "the number of buckets is not from 1 to " ++ decimal MAX_BUCKETS
shape_error_text LastEpoch = codes "the last epoch is 0, or greater than so many slots leave room for"

-- what is printed of a number of buckets that keys can't be spread over
abbrev pub spread_error_text : List ℕ
spread_error_text = codes "the number of buckets is not from 1 to " ++ decimal MAX_SPREAD_BUCKETS
