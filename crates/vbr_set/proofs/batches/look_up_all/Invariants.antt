use Rattle.std.proofs.Common.{◌≡◌, length}
use Rattle.vbr_set.proofs.many_keys.InTurn.{SoFar}
use Rattle.vbr_set.proofs.batches.look_up_all.Given as goal

-- the keys so far have been looked up in turn
abbrev pub invariant-loop-i : goal.invariant-loop-i
invariant-loop-i g l =
    SoFar (λ m n key answer. g.W.LooksUp.told m n key l.fn.budget answer) l.fn.who l.who l.fn.keys l.answers l.i ×
    (length l.answers ≡ length l.fn.keys)
