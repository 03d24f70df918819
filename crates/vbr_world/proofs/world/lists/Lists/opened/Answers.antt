-- Each turn links the key before those that are linked; after the last, all are.
use Rattle.std.proofs.Common.{◌≡◌, suc, ◌-◌, ◌<◌, length, refl, ap, ◌∙◌, arith}
use Rattle.vbr_machine.specs.Start.{Start, start_with}
use Rattle.vbr_machine.specs.Making.{opening_from}
use Rattle.vbr_world.specs.WorldInLists.{world_of}
use Rattle.vbr_machine.proofs.Lemmas.{opening_step, opening_all}
use Rattle.vbr_world.proofs.world.lists.Lists.opened.Goals as goal

pub loop-number-preserved : goal.loop-number-preserved
loop-number-preserved c =
    let start : Start = start_with c.args.shape c.args.keys.now c.args.values.now in
    let lists = c.loop-number.lists in
    let low = c.loop-number.invariant.low in
    let last : c.loop-number.number ≡ suc (c.loop-number.number - 1) =
    (let test = c.loop-number-test.true in omega (arith, test)) in
    let inside : c.loop-number.number - 1 < length c.args.keys.now = omega (arith, low, last) in
    record {
      low = omega (arith, low);
      world = opening_step start lists.start c.loop-number.number (c.loop-number.number - 1) _ _ _ (world_of lists)
          (world_of c.link_key.new.self) c.loop-number.invariant.start c.loop-number.invariant.world last
          (omega (arith, inside)) refl c.value_at.ensures inside (omega arith) c.link_key.ensures.written;
      start = c.link_key.ensures.start ∙ c.loop-number.invariant.start;
      passes = c.link_key.ensures.passes ∙ c.loop-number.invariant.passes;
    }

pub returns : goal.returns
returns c =
    let start : Start = start_with c.args.shape c.args.keys.now c.args.values.now in
    let none : c.loop-number.number ≡ 0 = (let test = c.loop-number-test.false in omega (arith, test)) in
    record {
      world = c.loop-number.invariant.world ∙ ap (opening_from start) none ∙ opening_all start;
      start = c.loop-number.invariant.start;
      passes = c.loop-number.invariant.passes;
    }
