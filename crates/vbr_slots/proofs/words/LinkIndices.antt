-- The index of a link word.
use Rattle.std.proofs.Common.{◌≡◌, ◌+◌, refl}
use Rattle.vbr_words.specs.Dimensions.{Dimensions}
use Rattle.vbr_words.specs.Places.{index_of, place_of, node_words}
use Rattle.vbr_words.specs.declared.place.At.{At}
use Rattle.vbr_words.specs.declared.place.At.TheVariants.{Head, Slot}
use Rattle.vbr_slots.specs.steps.LookUpStep.{link_from}

pub link_is : (shape : Dimensions) (place : At) →
    link_from (2 + shape.buckets) (node_words shape) place ≡ index_of shape (place_of place)
link_is shape (Head b) = refl
link_is shape (Slot s) = refl
