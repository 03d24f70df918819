use Rattle.std.proofs.Common.{◌≡◌, ◌++◌, map}
use Rattle.std.specs.Vec.Iter.{into_iter_items}
use Rattle.vbr_player.specs.Ending.{passes_of}
use Rattle.vbr_player.specs.Standing.{replies_of}
use Rattle.vbr_player.proofs.ending.take_apart.Given as goal

-- the workers so far are taken apart
abbrev pub invariant-loop-worker : goal.invariant-loop-worker
invariant-loop-worker g l = record {
  passes : l.passes.items ≡ passes_of l.yielded;
  replies : map (λ replies. replies.items) l.own.items ≡ replies_of l.yielded;
  all : l.yielded ++ into_iter_items l.worker-iterator ≡ l.fn.workers.items;
}
