-- The keys from a number on are linked.
use Rattle.std.proofs.Common.{◌≤◌, length}
use Rattle.vbr_machine.specs.Start.{start_with}
use Rattle.vbr_machine.specs.Making.{opening_from}
use Rattle.vbr_slots.specs.words.Words.{AreWordsOf}
use Rattle.vbr_slots.proofs.laying.opening_words.Given as goal

abbrev pub invariant-loop-number : goal.invariant-loop-number
invariant-loop-number l = record {
  low : l.number ≤ length l.keys;
  words : AreWordsOf (start_with l.shape l.keys l.values) (opening_from (start_with l.shape l.keys l.values) l.number)
      l.words.items;
}

abbrev pub decreases-loop-number : goal.decreases-loop-number
decreases-loop-number l = l.number
