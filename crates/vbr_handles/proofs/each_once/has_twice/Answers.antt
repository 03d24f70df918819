use Rattle.vbr_handles.proofs.Names.{◌≤◌, subst, arith, borne}
use Rattle.vbr_handles.proofs.EachOnce.{none_twice}
use Rattle.vbr_handles.proofs.each_once.has_twice.Goals as goal

pub returns-clause-no : goal.returns-clause-no
returns-clause-no g c e =
    let i = c.loop-part.invariant in
    none_twice g.H.HandleOf.member c.args.handles.now c.greatest_number-greatest.result c.requires
    c.greatest_number-greatest.ensures.none (λ who low.
    subst (λ hs. borne g.H.HandleOf.member hs who ≤ 1) c.greatest_number-greatest.ensures.same
    (i.once who (omega (arith, low))))
