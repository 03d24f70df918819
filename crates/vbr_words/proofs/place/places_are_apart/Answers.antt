use Rattle.vbr_words.proofs.Indices.{same_place, index_of-lt}
use Rattle.vbr_words.proofs.place.places_are_apart.Goals as goal

pub returns : goal.returns
returns c = record { apart = same_place; in_range = index_of-lt }
