use Rattle.vbr_handles.proofs.Names.{length, sym, ap, ◌∙◌, arith, borne, take_all}
use Rattle.vbr_handles.proofs.EachOnce.{same_again, still_none}
use Rattle.vbr_handles.proofs.each_once.greatest_number.Goals.{then-number-greatest, else-number-greatest}
use Rattle.vbr_handles.proofs.each_once.greatest_number.Goals as goal

pub loop-i-preserved : goal.loop-i-preserved
loop-i-preserved g c =
    let member = g.H.HandleOf.member in
    let handles = c.args.handles.now in
    let i = c.loop-i.invariant in
    record {
      same = same_again member handles c.loop-i.handles c.loop-i.i c.index-handles-i.result c.number-number.new.self
          i.same c.number-number.ensures.1;
      none = λ who above.
          still_none member handles c.loop-i.handles i.same c.loop-i.i c.index-handles-i.result c.number-number.result
          (omega arith) c.number-number.ensures.0 who
          (elim c.if-number-greatest.branch [
            | then-number-greatest w ↦ omega arith
            | else-number-greatest w ↦ omega arith
          ])
          (i.none who (elim c.if-number-greatest.branch [
            | then-number-greatest w ↦ omega arith
            | else-number-greatest w ↦ omega arith
          ]));
    }

pub returns-clause-none : goal.returns-clause-none
returns-clause-none g c who above =
    let i = c.loop-i.invariant in
    let long = ap (λ hs. length hs) i.same in
    sym (ap (λ hs. borne g.H.HandleOf.member hs who) (take_all c.loop-i.i c.args.handles.now (omega arith)))
    ∙ i.none who above
