use Rattle.vbr_list.proofs.Names.{◌+◌, ℕ, sym, ◌∙◌, subst, arith, At, behind_kept, counts_on, Goes, is_kept}
use Rattle.vbr_list.proofs.Names.{IsUnlinked, KeepsUnlinked, KeyOf, knows, link_of, quiet_on, said, said_marked}
use Rattle.vbr_list.proofs.Names.{said_rollback, StandsBehind, Start}
use Rattle.vbr_list.proofs.traversals.Clearing.{clear_before, clear_skipped, out_kept}
use Rattle.vbr_list.proofs.traversals.Disturbing.{loses_place, moved_late, opened, unchanged_of}
use Rattle.vbr_list.proofs.pieces.Going.{counts_step, took_same}
use Rattle.vbr_list.proofs.pieces.KeptHands.{helped_hand, retired_hand}
use Rattle.vbr_list.proofs.traversals.Reaching.{helped, retired_keeps}
use Rattle.vbr_list.proofs.traversals.Sweeping.{left_skipped}
use Rattle.vbr_list.proofs.helping.unlink_and_retire.Goals as goal

pub returns-in-Ok-clause-goes : goal.returns-in-Ok-clause-goes
returns-in-Ok-clause-goes g c = λ used.
    let a = c.unlink-outcome.ensures in
    let b = c.retire.ensures.retires in
    let q = c.unlink-outcome.new.at.stepper.now in
    let P : ℕ → Type 0 = λ s. IsUnlinked ((knows q.trace).own s) in
    let Q : ℕ → Type 0 = λ s. KeepsUnlinked s c.args.at.now.stepper.now q in
    subst (λ (n : ℕ). Goes c.args.at.now.stepper.now c.retire.new.at.stepper.now used n) (omega arith)
    (record {
      quiet = quiet_on a.stays.quiet b.quiet;
      counts = counts_on
          (counts_step used c.steps_to_unlink-used.result
          (took_same c.steps_to_unlink-used.result _
          (rw c.layout-layout.ensures.layout at c.steps_to_unlink-used.ensures.is) a.stays.took))
          (counts_step (used + c.steps_to_unlink-used.result) c.retire.result b.took);
      hand = helped_hand a.stays.own
          (subst Q (sym (rw c.in-Ok.is at c.unlink-outcome.ensures.unlinked).slot)
          (rw c.in-Ok.is at c.unlink-outcome.ensures.unlinked).unlinks)
          (retired_hand c.in-Ok.unlinked.slot c.law-in-Ok.ensures.own
          (subst P (sym (rw c.in-Ok.is at c.unlink-outcome.ensures.unlinked).slot)
          (rw c.in-Ok.is at c.unlink-outcome.ensures.unlinked).owned) b.known b.pool b.hand b.takes_no_slot) b.turn
          b.known;
    })

pub returns-in-Ok-clause-unlinks : goal.returns-in-Ok-clause-unlinks
returns-in-Ok-clause-unlinks g c =
    let p = c.args.at.now.stepper.now in
    let q = c.unlink-outcome.new.at.stepper.now in
    let r = c.retire.new.at.stepper.now in
    let a = c.unlink-outcome.ensures.stays.quiet in
    let b = c.retire.ensures.retires.quiet in
    let won = rw c.in-Ok.is at c.unlink-outcome.ensures.unlinked in
    record {
      helps = λ e. record {
        same_place = won.place;
        epoch = sym e ∙ won.read.known.epoch ∙ won.keeps.epoch;
        opens = opened p.trace q.trace r.trace (said c.args.at.now.slots.now c.args.pred.now)
            (said_marked c.args.at.now.slots.now c.args.marked) (said c.args.at.now.slots.now c.in-Ok.place) a b
            c.law-in-Ok.ensures.start
            c.law-in-Ok.ensures.is_run won.keeps won.place won.read.known won.still won.stands won.next
            c.retire.ensures.retires.unchanged;
        come = λ key is.
            helped key (said c.args.at.now.slots.now c.args.pred.now) (said c.args.at.now.slots.now c.in-Ok.place) is
            won.keeps won.place won.still won.read a b
            (retired_keeps (knows q.trace) (knows r.trace) c.in-Ok.unlinked.slot (is_kept q.pool)
            c.retire.ensures.retires.known (sym e ∙ won.read.known.epoch));
      };
      late = λ other.
          moved_late p.trace q.trace r.trace a b c.law.ensures.start (won.read.known.epoch ∙ won.keeps.epoch)
          c.retire.ensures.retires.stamped other;
      clear = λ key k behind out.
          let P : At → Type 0 = λ t. StandsBehind q.trace.start (knows q.trace) t key in
          let Q : Start → Type 0 = λ s. StandsBehind s (knows q.trace) c.args.pred.now.at key in
          clear_before
          (clear_skipped (said c.args.at.now.slots.now c.in-Ok.place) c.law.ensures.start a.same won.read won.still
          c.args.marked.slot key
          (link_of (said_marked c.args.at.now.slots.now c.args.marked).word)
          (subst P (sym won.place)
          (subst Q (sym a.same.start) (behind_kept p.trace.start c.args.pred.now.at key won.keeps behind)))
          (won.keeps.reads _ c.requires.may.marked.held.link) c.requires.may.marked.mark (sym won.next)
          (won.keeps.reads (KeyOf c.args.marked.slot key) k)
          (out_kept p.trace q.trace c.args.marked.slot c.law.ensures.start c.law.ensures.is_run a won.keeps.epoch out))
          b;
      left = λ key k behind.
          let P : At → Type 0 = λ t. StandsBehind q.trace.start (knows q.trace) t key in
          let Q : Start → Type 0 = λ s. StandsBehind s (knows q.trace) c.args.pred.now.at key in
          left_skipped p.trace q.trace r.trace (said c.args.at.now.slots.now c.in-Ok.place)
          (said_marked c.args.at.now.slots.now c.args.marked) key c.law.ensures.start c.law.ensures.is_run
          a b won.keeps won.read won.still c.requires.may.marked (sym won.next)
          (subst P (sym won.place)
          (subst Q (sym a.same.start) (behind_kept p.trace.start c.args.pred.now.at key won.keeps behind))) k;
    }

pub returns-in-Err-clause-lost : goal.returns-in-Err-clause-lost
returns-in-Err-clause-lost g c =
    let failed = rw c.in-Err.is at c.unlink-outcome.ensures.failed in
    loses_place c.args.at.now.stepper.now.trace c.unlink-outcome.new.at.stepper.now.trace
    (said c.args.at.now.slots.now c.args.pred.now)
    (said_rollback c.args.at.now.slots.now c.in-Err.rollback) c.unlink-outcome.ensures.stays.quiet.same failed.rolled
    failed.fresh (unchanged_of c.law.ensures c.unlink-outcome.ensures.stays.quiet failed.adds_none)
    c.unlink-outcome.ensures.stays.quiet.seen
