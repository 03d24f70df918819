use Rattle.vbr_list.proofs.Names.{rules, arith, inl, inr, sym, ◌∙◌}
use Rattle.vbr_list.proofs.traversals.Clearing.{clear_since}
use Rattle.vbr_list.proofs.pieces.Going.{goes_on}
use Rattle.vbr_list.proofs.removes.Marks.{lost_unlinking}
use Rattle.vbr_list.proofs.inserts.Preparing.{if_went}
use Rattle.vbr_list.proofs.traversals.Sweeping.{swept_at}
use Rattle.vbr_list.proofs.call.PendingCall.unlink_marked.Goals as goal

pub returns-then-is_err : goal.returns-then-is_err
returns-then-is_err g c =
    let tried = c.unlink_and_retire-outcome in
    let on = c.search_on-self.ensures in
    let first = (tried.ensures.goes 0).quiet in
    record {
      goes = record {
        call = search rules;
        goes = goes_on (tried.ensures.goes c.args.self.now.used) on.goes;
        more = omega (arith, on.within.1);
      };
      leaves = λ room.
          swept_at c.args.self.now.at.stepper.now.trace tried.new.at.stepper.now.trace
          c.search_on-self.new.at.stepper.now.trace c.args.marked.slot c.args.self.now.key c.law.ensures.start
          c.law.ensures.is_run first (on.sweeps room) c.requires.marked.key;
      clear = λ out room. clear_since first (on.clear room);
      paid = inr (lost_unlinking c.args.self.now.used tried.result.0 (sym c.is_err.ensures.value ∙ c.if-is_err.true)
          tried.ensures.lost tried.ensures.goes tried.ensures.few on.goes.quiet on.traverses);
    }

pub returns-else-is_err : goal.returns-else-is_err
returns-else-is_err g c =
    let tried = c.unlink_and_retire-outcome in
    let few = tried.ensures.few in
    let won = (if_went tried.result.0 (sym c.is_err.ensures.value ∙ c.if-is_err.false) tried.ensures.unlinks).1 in
    let left = won.left c.args.self.now.key c.requires.marked.key c.requires.marked.behind in
    let clear = won.clear c.args.self.now.key c.requires.marked.key c.requires.marked.behind in
    record {
      goes = record { call = search rules; goes = tried.ensures.goes c.args.self.now.used; more = omega arith };
      leaves = λ room. left;
      clear = λ out room. clear out;
      paid = inl (record { few = omega (arith, few); leaves = left; clear = clear });
    }
