-- What is lost after a call that read is lost since.
use Rattle.vbr_list.proofs.Names.{◌≡◌, ℕ, Option, Some, None, ap, sym, subst, ◌∙◌, inl, inr, begins_trans}
use Rattle.vbr_list.proofs.Names.{ChangesNone, Found, Held, incarnations_after, Keeps, knows, LosesExchange}
use Rattle.vbr_list.proofs.Names.{LosesFound, LosesNext, LosesPlace, LostExchange, PassLaw, PassView, Quiet, ReadsIn}
use Rattle.vbr_list.proofs.Names.{Rollback, Start, Trace}
use Rattle.vbr_list.proofs.traversals.Disturbing.{lost_place_later, unchanged_of}

-- a place that is lost after what only read was lost since
pub place_lost_since : {p q r : Trace} (held : Held) → Quiet p q → Keeps (knows p) (knows q) → ChangesNone p q →
    LosesPlace q r held → LosesPlace p r held
place_lost_since {p} {q} {r} held a keeps none (inl moves) = inl (record {
  moment = moves.moment;
  from = begins_trans p.seen q.seen moves.moment a.seen moves.from;
  to = moves.to;
  other = λ e.
      moves.other (ap (λ (start : Start). (incarnations_after start moves.moment).epoch) a.same.start ∙ e
      ∙ sym keeps.epoch);
})
place_lost_since held a keeps none (inr (word, lost, then)) =
    lost_place_later held (LostExchange word) a keeps none lost then

next_lost_since : (p q r : Trace) (cur : Option Held) → Quiet p q → Keeps (knows p) (knows q) → ChangesNone p q →
    LosesNext q r cur → LosesNext p r cur
next_lost_since p q r None a keeps none x = x
next_lost_since p q r (Some cur) a keeps none x = place_lost_since cur a keeps none x

-- what only read changed no list
reads_unchanged : {p q : PassView} {n : ℕ} → PassLaw p → ReadsIn p q n → ChangesNone p.trace q.trace
reads_unchanged law x = unchanged_of law x.quiet x.adds_none

-- so it is of a node that was found, whose link another exchanged
pub cur_lost_since : {p q : PassView} {r : Trace} {n : ℕ} {cur : Held} {rollback : Rollback} (found : Found) →
    PassLaw p → ReadsIn p q n → Keeps (knows p.trace) (knows q.trace) → found.cur ≡ Some cur →
    LosesExchange q.trace r cur rollback → LosesFound p.trace r found
cur_lost_since {p} {q} {r} {n} {cur} {rollback} found law x keeps is lost =
    let P : Option Held → Type 0 = LosesNext p.trace r in
    inr (subst P (sym is)
    (lost_place_later cur rollback x.quiet keeps (reads_unchanged law x) lost.lost lost.unchanged))

-- and of what was found
pub found_lost_since : {p q : PassView} {r : Trace} {n : ℕ} (found : Found) → PassLaw p → ReadsIn p q n →
    Keeps (knows p.trace) (knows q.trace) → LosesFound q.trace r found → LosesFound p.trace r found
found_lost_since found law x keeps (inl lost) =
    inl (place_lost_since found.pred x.quiet keeps (reads_unchanged law x) lost)
found_lost_since {p} {q} {r} found law x keeps (inr lost) =
    inr (next_lost_since p.trace q.trace r found.cur x.quiet keeps (reads_unchanged law x) lost)
