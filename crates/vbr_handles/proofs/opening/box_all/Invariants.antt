use Rattle.vbr_handles.proofs.Names.{◌≡◌, ◌++◌, map, Some, into_iter_items}
use Rattle.vbr_handles.proofs.opening.box_all.Given as goal

-- the owners so far have the members so far
abbrev pub invariant-loop-member : goal.invariant-loop-member
invariant-loop-member g l =
    map (λ o. o.member) l.owners.items ++ map Some (into_iter_items l.member-iterator) ≡ map Some l.fn.members.items
