use Rattle.vbr_handles.proofs.Names.{◌∷◌, slice_index_or, sym, subst, IsSome, All-head, All-rest, All-same}
use Rattle.vbr_handles.proofs.asking_all.are_beside.Goals as goal

pub is_beside-requires-clause-one : goal.is_beside-requires-clause-one
is_beside-requires-clause-one g c =
    let member = g.H.HandleOf.member in
    let handles = c.args.handles.now in
    let first = c.in-Some.first.now in
    let others = c.in-Some.others.now in
    let split = c.in-Some.ensures.cases.0 in
    subst (λ h. IsSome (member h)) (sym c.loop-i.invariant.first)
    (All-head (λ h. IsSome (member h)) first others
    (All-same (λ h. IsSome (member h)) (first ∷ others) handles (sym split) c.requires))

pub is_beside-requires-clause-other : goal.is_beside-requires-clause-other
is_beside-requires-clause-other g c =
    let member = g.H.HandleOf.member in
    let full = All-rest (λ h. IsSome (member h)) c.in-Some.first.now c.in-Some.others.now c.args.handles.now
    c.in-Some.ensures.cases.0 c.requires in
    subst (λ hs. IsSome (member (slice_index_or hs c.loop-i.i c.index-others-i.result))) (sym c.loop-i.invariant.others)
    (full c.loop-i.i c.index-others-i.result c.loop-i-test.true)
