use Rattle.std.proofs.Common.{◌≡◌, ◌^◌, ◌<◌}
use Rattle.vbr_set.specs.calls.AtSets.{caller_after, caller_at}
use Rattle.vbr_set.proofs.many_keys.Listing.{GathersAs, left_of}
use Rattle.vbr_set.proofs.at_set.AtSet.go_over.Given as goal

abbrev pub invariant-loop-key : goal.invariant-loop-key
invariant-loop-key g l =
    GathersAs g.G.Gathered.of (caller_at l.fn.self) (caller_after l.fn.self l.self) l.cursor l.fn.budget l.gathered ×
    (l.cursor.from < 2 ^ 64) × (l.self.pass.ghost_name ≡ l.fn.self.pass.ghost_name) × (l.self.set ≡ l.fn.self.set)

abbrev pub decreases-loop-key : goal.decreases-loop-key
decreases-loop-key g l = left_of l.cursor
