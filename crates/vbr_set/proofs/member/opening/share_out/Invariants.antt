use Rattle.std.proofs.Common.{◌≡◌, ◌++◌, map, None}
use Rattle.std.specs.Arc.{arc_value}
use Rattle.std.specs.Vec.Iter.{into_iter_items}
use Rattle.vbr_set.proofs.member.opening.share_out.Given as goal
use Rattle.vbr_set.proofs.members.Seats.{AreSeated}

-- the members so far are those of the passes so far, and each pass that is left has its seat
abbrev pub invariant-loop-pass : goal.invariant-loop-pass
invariant-loop-pass g l = record {
  made : l.members.items
      ++ map (λ pass. record { set = l.fn.set; pass = pass; aside = None }) (into_iter_items l.pass-iterator)
      ≡ map (λ pass. record { set = l.fn.set; pass = pass; aside = None }) l.fn.passes.items;
  seated : AreSeated l.fn.set (arc_value l.common).mailboxes.items (into_iter_items l.pass-iterator)
      (into_iter_items l.seats);
}
