use Rattle.vbr_slots.proofs.runs.Openings.{AreLaid, laid}
use Rattle.vbr_slots.proofs.laying.empty_words.Given as goal

abbrev pub invariant-loop-slot : goal.invariant-loop-slot
invariant-loop-slot l = AreLaid l.shape (laid l.shape l.slot 0) l.words.items

abbrev pub invariant-loop-number : goal.invariant-loop-number
invariant-loop-number l = AreLaid l.shape (laid l.shape l.shape.slots l.number) l.words.items
