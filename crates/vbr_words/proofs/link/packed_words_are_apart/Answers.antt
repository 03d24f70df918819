use Rattle.vbr_words.proofs.Packing.{packed-lt, packed_same, unpacked-packed}
use Rattle.vbr_words.proofs.link.packed_words_are_apart.Goals as goal

pub returns : goal.returns
returns c = record {
  kept = λ bits word few room. (packed-lt bits word few room, unpacked-packed bits word room);
  apart = packed_same;
}
