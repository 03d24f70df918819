-- Where another link stands than the one that tells it, no call was made and the find is lost.
use Rattle.vbr_list.proofs.Names.{◌≡◌, Some, Option, inl, inr, sym, subst, Result, Ok, Err, IfErr, AnswersNone}
use Rattle.vbr_list.proofs.Names.{FindsAnother, Found, Ghosts, Held, LosesNext, LosesPlace, pass_in, PassLaw}
use Rattle.vbr_list.proofs.Names.{PassView, PendingCall, Rollback, said_rollback, TableView, Trace, trace_in}
use Rattle.vbr_list.proofs.traversals.Disturbing.{lost_place, unchanged_of}

lost : (p : PassView) (r : Trace) → PassLaw p → (held : Held) (rollback : Rollback) →
    FindsAnother p.trace r held rollback → LosesPlace p.trace r held
lost p r law held rollback x = lost_place held rollback x.lost (unchanged_of law x.quiet x.adds_none)

-- the link of the place before the key
pub unanswered_by_pred : {A N : Type 0} {kind : Ghosts N} (c d : PendingCall N kind) (table : TableView) →
    PassLaw (pass_in c) → (found : Found) (answer : Result A Rollback) →
    IfErr answer (λ why. FindsAnother (trace_in c) (trace_in d) found.pred (said_rollback table why)) →
    IfErr answer (λ why. AnswersNone c d found)
unanswered_by_pred c d table law found (Ok value) x = tt
unanswered_by_pred c d table law found (Err why) x = record {
  quiet = x.quiet;
  loses = inl (lost (pass_in c) (trace_in d) law found.pred (said_rollback table why) x);
}

-- the link of the node with the key
pub unanswered_by_cur : {A N : Type 0} {kind : Ghosts N} (c d : PendingCall N kind) (table : TableView) →
    PassLaw (pass_in c) → (found : Found) (cur : Held) → found.cur ≡ Some cur → (answer : Result A Rollback) →
    IfErr answer (λ why. FindsAnother (trace_in c) (trace_in d) cur (said_rollback table why)) →
    IfErr answer (λ why. AnswersNone c d found)
unanswered_by_cur c d table law found cur is (Ok value) x = tt
unanswered_by_cur c d table law found cur is (Err why) x =
    let Q : Option Held → Type 0 = LosesNext (trace_in c) (trace_in d) in
    record {
      quiet = x.quiet;
      loses = inr (subst Q (sym is) (lost (pass_in c) (trace_in d) law cur (said_rollback table why) x));
    }
