use Rattle.vbr_list.proofs.Names.{rules, ℕ, Ok, Err, IfOk, IfErr, Result, Checks, Held, IsFresh, IsHeadRead, PassView}
use Rattle.vbr_list.proofs.Names.{reads_on, ReadsIn, Rollback, RollsBack, said, StartsAt, StartsNone, TableView}
use Rattle.vbr_list.proofs.traversals.Disturbing.{moves_epoch}
use Rattle.vbr_list.proofs.visiting.start_at.Goals as goal

module _ {p q r : PassView} {m n : ℕ} (x : ReadsIn p q m) (y : ReadsIn q r n) (fresh : IsFresh q.trace) where
  -- on its way it read the epoch that stood
  abbrev checked : Checks p.trace r.trace
  checked = record { between = q.trace; same = x.quiet.same; from = x.quiet.seen; to = y.quiet.seen; was = fresh }

  starts : (table : TableView) (bucket : ℕ) (head : Result Held Rollback) →
      IfOk head (λ held. IsHeadRead q r bucket (said table held)) →
      IfOk head (λ held. StartsAt p.trace r.trace bucket (said table held))
  starts table bucket (Ok h) read = record {
    known = read.read.known;
    unmarked = read.unmarked;
    place = read.place;
    reads = record { checks = checked; epoch = read.keeps.epoch; fresh = read.fresh; stood = read.read.stood };
  }
  starts table bucket (Err e) read = tt

  starts_none : (head : Result Held Rollback) → IfErr head (RollsBack q r) → IfErr head (StartsNone p.trace r.trace)
  starts_none (Ok h) rolls = tt
  starts_none (Err e) rolls = record { checks = checked; moves = moves_epoch e rolls }

pub returns : goal.returns
returns g c =
    record {
      reads = reads_on c.checkpoint-point.ensures.reads c.first.ensures.reads;
      head = starts c.checkpoint-point.ensures.reads c.first.ensures.reads c.checkpoint-point.ensures.point.fresh
          c.args.at.now.slots.now c.args.bucket c.first.result
          (rw c.checkpoint-point.ensures.table.slots at c.first.ensures.head);
      moved = starts_none c.checkpoint-point.ensures.reads c.first.ensures.reads c.checkpoint-point.ensures.point.fresh
          c.first.result c.first.ensures.moved;
      table = search rules;
    }
