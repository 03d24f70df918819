use Rattle.vbr_list.proofs.Names.{rules, ◌≡◌}
use Rattle.vbr_list.proofs.traversals.Clearing.{clear_traversed}
use Rattle.vbr_list.proofs.removes.Marks.{traversed}
use Rattle.vbr_list.proofs.traversals.Sweeping.{swept_traversed}
use Rattle.vbr_list.proofs.removing.search_apart.Goals as goal

pub returns : goal.returns
returns g c =
    let same : c.stepper-1.given.0 ≡ c.search.new.self.at.stepper.now = search rules in
    record {
      goes = rw same c.search.ensures.goes.goes;
      within = search rules;
      traverses = rw same (traversed _ c.search.new.self c.search.result c.search.ensures.found c.search.ensures.tired);
      clear = λ room.
          rw same
          (clear_traversed _ c.search.new.self c.search.result c.law.ensures.start c.search.ensures.goes.goes.quiet.same
          c.search.ensures.found c.search.ensures.tired room);
      sweeps = λ room.
          rw same (swept_traversed _ c.search.new.self c.search.result c.law.ensures.start c.law.ensures.is_run
          c.search.ensures.goes.goes.quiet c.search.ensures.found c.search.ensures.tired room);
    }
