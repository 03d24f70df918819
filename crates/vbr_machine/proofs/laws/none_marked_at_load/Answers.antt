use Rattle.vbr_machine.proofs.moments.RunForms.{none_marked_here, none_marked_between, none_marked_skipped}
use Rattle.vbr_machine.proofs.moments.RunForms.{skipped_unlisted}
use Rattle.vbr_machine.proofs.laws.none_marked_at_load.Goals as goal

pub returns : goal.returns
returns c = record {
  here = λ start passes moment run pass place link key is ok was.
      none_marked_here start passes moment run is ok pass place link was key;
  between = λ start passes moment run pass place link key is ok was.
      none_marked_between start passes moment run is ok pass place link was key;
  skipped = λ start passes moment run pass place link frozen s key is ok was i k m same j out.
      none_marked_skipped start passes moment run is ok pass place link was s key frozen i k m same j out;
  unlisted = λ start passes moment run pass place link frozen s key node is ok was i k m same j h.
      skipped_unlisted start passes moment run is ok pass place link was s key node frozen i k m same j h;
}
