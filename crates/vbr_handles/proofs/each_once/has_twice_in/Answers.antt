use Rattle.vbr_handles.proofs.Names.{◌%◌, cond, false, sym, ap, arith, refl, get_or-replicate}
use Rattle.vbr_handles.proofs.EachOnce.{comes_twice}
use Rattle.vbr_handles.proofs.each_once.has_twice_in.Goals as goal

pub loop-i-init : goal.loop-i-init
loop-i-init g c = record {
  same = refl;
  wide = refl;
  marks = λ who there.
      ap (λ b. cond b 1 0) (sym (get_or-replicate 4096 (who % 4096) false false (omega arith)));
}

pub returns-then-seen-place-clause-yes : goal.returns-then-seen-place-clause-yes
returns-then-seen-place-clause-yes g c e =
    let i = c.loop-i.invariant in
    comes_twice g.H.HandleOf.member c.args.handles.now c.loop-i.handles i.same c.loop-i.i c.index-handles-i.result
    c.number-number.result (omega arith) c.number-number.ensures.0 c.args.part c.loop-i.seen c.requires i.marks
    c.if-number-part.true c.if-seen-place.true
