-- The mark is the number by which the table's words are divided.
use Rattle.std.proofs.Common.{refl}
use Rattle.vbr_words.specs.Packing.{unpacked}
use Rattle.vbr_table_tests.proofs.kept_words.number_in.Goals as goal

pub returns : goal.returns
unfolding unpacked
returns g c = rw (c.from.ensures, c.from-2.ensures, c.mark-mark.ensures.mark, c.layout.ensures.layout) refl
