use Rattle.vbr_list.proofs.Names.{rules, ◌≡◌, refl, sym, subst, None, counts_on, IsStart, there_of, took_all}
use Rattle.vbr_list.proofs.pieces.Going.{within_call, within_of}
use Rattle.vbr_list.proofs.removes.AnsweredRemoves.{remove_refused, removed, removed_none, removes_again}
use Rattle.vbr_list.proofs.named_entries.OtherEntries.{other_since, was_other}
use Rattle.vbr_list.proofs.named_entries.RemovedEntries.{marked_node, takes_exactly, tires_exactly}
use Rattle.vbr_list.proofs.traversals.LostTraversals.{searched_none, searched_on}
use Rattle.vbr_list.proofs.pieces.WideWords.{node_bare, node_wide}
use Rattle.vbr_list.proofs.removing.remove_exactly_by.Goals as goal

pub loop-found-init : goal.loop-found-init
loop-found-init g c = searched_none _ _ 6

pub loop-found-preserved : goal.loop-found-preserved
loop-found-preserved g c =
    removes_again c.law.ensures c.loop-found.invariant c.reach.ensures.goes c.in-Some.ensures.found
    c.mark_and_unlink.ensures.settles
    (simp c.reach.ensures.goes.call.at.slots at c.in_default-mark_and_unlink.ensures.rolls)

pub returns-in_default : goal.returns-in_default
returns-in_default g c =
    let same : c.stepper-1.given.0 ≡ c.reach.new.self.at.stepper.now = search rules in
    let so = c.loop-found.invariant in
    let went = c.reach.ensures.goes in
    rw same (record {
      took = took_all (searched_on c.law.ensures so went).goes.counts;
      removes = tires_exactly c.args.entry.now
          (remove_refused c.law.ensures refl so went c.in_default.ensures.tired (search rules));
    })

pub returns-then-not-is_node_of : goal.returns-then-not-is_node_of
returns-then-not-is_node_of g c =
    let same : c.stepper-then-not-is_node_of-1.given.0 ≡ c.reach.new.self.at.stepper.now = search rules in
    let so = c.loop-found.invariant in
    let went = c.reach.ensures.goes in
    let all = searched_on c.law.ensures so went in
    let start = subst IsStart (sym so.1.goes.quiet.same.start) c.law.ensures.start in
    rw same (record {
      took = took_all all.goes.counts;
      removes = record {
        same = all.goes.quiet.same;
        told = record {
          quiet = all.goes.quiet;
          lacked = other_since so.1.goes.quiet
              (was_other start went.goes.quiet.same (rw so.0.key at c.in-Some.ensures.found.found) c.args.entry.now
              (λ is. c.is_node_of.ensures.is_not c.if-not-is_node_of.true
              (node_bare c.loop-found.call c.in-Some.found is)));
        };
        quiet = tt;
        hand = search rules;
        steps = within_of c.reach.new.self.used c.args.budget (within_call all.call) all.goes.counts;
        bounds = removed_none c.law.ensures refl so went c.in-Some.ensures.found;
      };
    })

pub returns-in-Ok : goal.returns-in-Ok
returns-in-Ok g c =
    let same : c.stepper-in-Ok-1.given.0 ≡ c.mark_and_unlink.new.self.at.stepper.now = search rules in
    let so = c.loop-found.invariant in
    let went = c.reach.ensures.goes in
    let all = searched_on c.law.ensures so went in
    let answers = simp went.call.at.slots at c.in-Ok.ensures.answers in
    let marked = marked_node c.args.entry.now all.goes.quiet (rw all.call.key at (answers.marks c.in-Ok.ensures.some))
    (node_wide c.loop-found.call (c.is_node_of.ensures.is c.if-not-is_node_of.false)) in
    rw (same, c.there.ensures) (record {
      took = took_all (counts_on all.goes.counts c.mark_and_unlink.ensures.settles.counts);
      removes = takes_exactly c.args.entry.now (there_of c.in-Ok.outcome)
          (removed c.law.ensures refl so went c.in-Some.ensures.found None c.in-Ok.outcome
          c.mark_and_unlink.ensures.settles answers (search rules))
          c.in-Ok.ensures.some marked;
    })
