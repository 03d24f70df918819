-- A key is clear at a moment where no marked node of it is in a list.
-- What a traversal to the key shows of that, and what follows for a node that the pass has marked.
use Rattle.vbr_list.proofs.Names.{◌≡◌, ℕ, ◌+◌, ◌≤◌, arith, true, false, List, [], ◌∷◌, ◌++◌, Option, Some, None, refl}
use Rattle.vbr_list.proofs.Names.{sym, ap, ◌∙◌, subst, IfSome, IfNone, Event, Found, Ghosts, Held, incarnations_after}
use Rattle.vbr_list.proofs.Names.{IsFound, IsHeldPlace, IsRead, IsRun, IsSame, IsStart, IsTakenOut, KeyAt, KeyOf}
use Rattle.vbr_list.proofs.Names.{Know, know_after, Knows, knows, Leaves, left_since, Link, link_at, link_of, LinkAt}
use Rattle.vbr_list.proofs.Names.{Made, marked_left, MarkedLeft, moment_after, moment_before, nodes}
use Rattle.vbr_list.proofs.Names.{none_marked_between, none_marked_here, none_marked_skipped, NoneMarked, out_on}
use Rattle.vbr_list.proofs.Names.{own_calls, PendingCall, PIECE, Quiet, Remove, same_on, SearchFinds, SearchTires}
use Rattle.vbr_list.proofs.Names.{Slot, StandsBefore, StandsBehind, Start, Trace, trace_in, WasClear, WasShown}
use Rattle.vbr_list.proofs.Names.{wide_found, world_after}
use Rattle.vbr_machine.specs.declared.history.Call.{Call as ListedCall}
use Rattle.vbr_list.proofs.traversals.Disturbing.{run_at}
use Rattle.vbr_list.proofs.traversals.Moments.{by_found, key_known}

-- ---- what a read link shows

module _ {p q : Trace} (held : Held) (start : IsStart p.start) (same : IsSame p q) (read : IsRead p q held)
    (unmarked : (link_of held.word).mark ≡ false) where
  pub was_known : (moment : List Event) → know_after q.start moment q.who ≡ know_after p.start moment p.who
  was_known moment = λ i. know_after (same.start i) moment (same.who i)

  pub was_shown : WasShown q.start read.stood.moment q.seen q.who held.at (link_of held.word)
  was_shown = record {
    begins = read.stood.within.to;
    epoch = ap (λ (k : Know). k.epoch) (was_known read.stood.moment) ∙ read.stood.epoch ∙ read.known.epoch;
    held =
        let P : Know → Type 0 = λ k. IsHeldPlace k held.at in
        subst P (sym (was_known read.stood.moment)) read.stood.place;
    shown = ap (λ (s : Start). link_at (world_after s read.stood.moment) held.at) same.start ∙ read.stood.shown;
    known = read.known.link;
    unmarked = unmarked;
  }

  shape_now : IsStart q.start
  shape_now = subst IsStart (sym same.start) start

  clear_then : (key : ℕ) → NoneMarked (incarnations_after q.start read.stood.moment) key → WasClear p q key
  clear_then key none = record {
    moment = read.stood.moment;
    within = read.stood.within;
    none =
        let P : Start → Type 0 = λ s. NoneMarked (incarnations_after s read.stood.moment) key in
        subst P same.start none;
  }

  -- of the key of the place
  clear_here : (key : ℕ) → KeyAt (knows q) held.at key → WasClear p q key
  clear_here key k =
      clear_then key
      (none_marked_here q.start q.passes read.stood.moment q.seen shape_now read.stood.within.is_run q.who held.at
      (link_of held.word) was_shown key k)

  -- of a key between the place and what its link names
  clear_between : (key : ℕ) → StandsBehind q.start (knows q) held.at key →
      StandsBefore (knows q) key (link_of held.word).slot → WasClear p q key
  clear_between key i j =
      clear_then key
      (none_marked_between q.start q.passes read.stood.moment q.seen shape_now read.stood.within.is_run q.who held.at
      (link_of held.word) was_shown key i j)

  -- of the key of a slot that was taken out, and whose marked link names the same
  pub clear_skipped : (s key : ℕ) (frozen : Link) → StandsBehind q.start (knows q) held.at key →
      Knows (knows q) (LinkAt (Slot s) frozen) → frozen.mark ≡ true → frozen.slot ≡ (link_of held.word).slot →
      Knows (knows q) (KeyOf s key) → IsTakenOut (nodes q) (knows q).epoch s → WasClear p q key
  clear_skipped s key frozen i k m e j out =
      clear_then key
      (none_marked_skipped q.start q.passes read.stood.moment q.seen shape_now read.stood.within.is_run q.who held.at
      (link_of held.word) was_shown s key frozen i k m e j out)

-- ---- where a traversal has come to the key

pub clear_found : {p q : Trace} (key : ℕ) (found : Found) → IsStart p.start → IsSame p q → IsFound p q key found →
    WasClear p q key
clear_found {p} {q} key found start same x =
    by_found key found (λ present. WasClear p q key) x
    (λ before. clear_between found.pred start same (record { known = x.locates.pred.held; stood = x.stood })
    x.locates.pred.unmarked key x.locates.pred.behind before)
    (λ cur y z. clear_here cur start same (record { known = y.held; stood = z }) y.unmarked key
    (key_known (knows q) key found.pred cur y))

-- of a traversal that ended with room in its budget
pub clear_traversed : {N : Type 0} {kind : Ghosts N} → (c d : PendingCall N kind) (found : Option Found) →
    IsStart (trace_in c).start → IsSame (trace_in c) (trace_in d) →
    IfSome found (λ told. SearchFinds c d (wide_found c told)) → IfNone found (SearchTires c d) → d.used + PIECE ≤
    c.budget → WasClear (trace_in c) (trace_in d) c.key
clear_traversed c d None start same x tired room = let short = tired.tired in absurd (omega (arith, short, room))
clear_traversed c d (Some found) start same x tired room = clear_found c.key (wide_found c found) start same x.found

-- ---- a part of what the pass did

pub clear_before : {p q r : Trace} {key : ℕ} → WasClear p q key → Quiet q r → WasClear p r key
clear_before x b = record { moment = x.moment; within = moment_before x.within b; none = x.none }

pub clear_since : {p q r : Trace} {key : ℕ} → Quiet p q → WasClear q r key → WasClear p r key
clear_since {p} {q} {r} {key} a x = record {
  moment = x.moment;
  within = moment_after a.seen x.within;
  none = let P : Start → Type 0 = λ s. NoneMarked (incarnations_after s x.moment) key in subst P a.same.start x.none;
}

-- what was taken out stays so
pub out_kept : (p q : Trace) (s : ℕ) → IsStart p.start → IsRun p.start p.passes p.seen → Quiet p q →
    (knows q).epoch ≡ (knows p).epoch → IsTakenOut (nodes p) (knows p).epoch s → IsTakenOut (nodes q) (knows q).epoch s
out_kept p q s start ok a epoch out =
    let R : ℕ → Type 0 = λ e. IsTakenOut (nodes q) e s in
    let S : Start → Type 0 = λ x. IsTakenOut (incarnations_after x q.seen) (knows p).epoch s in
    subst R (sym epoch)
    (subst S (sym a.same.start)
    (out_on p.start p.passes p.seen q.seen start (run_at p q a.same (a.is_run ok)) a.seen p.who s out))

-- ---- the node that a remove has marked

-- once the key is clear, it has left
pub leaves_clear : {p q r : Trace} {key : ℕ} {value : Option ℕ} → IsStart p.start →
    Made (record { who = p.who; op = Remove; key = key; reply = true; value = value }) p q → IsSame q r →
    WasClear q r key → Leaves p r key
leaves_clear {p} {q} {r} {key} {value} start made same x =
    let P : Start → Type 0 = λ s. NoneMarked (incarnations_after s x.moment) key in
    let call : ListedCall = record { who = p.who; op = Remove; key = key; reply = true; value = value } in
    let calls : own_calls p.start q.seen p.who ≡ own_calls p.start p.seen p.who ++ call ∷ [] =
    sym (λ i. own_calls (made.same.start i) q.seen (made.same.who i)) ∙ made.calls in
    marked_left p.start p.passes start p.seen q.seen x.moment r.seen p.who call
    (run_at p r (same_on made.same same) x.within.is_run) made.seen x.within.from x.within.to refl refl calls
    (subst P made.same.start x.none)

-- what has left since a moment has left since an earlier one
pub leaves_since : {p q : Trace} (r : Trace) (key : ℕ) → IsStart p.start → Quiet p q → Leaves q r key → Leaves p r key
leaves_since {p} {q} r key start a x =
    let P : Start → Type 0 = λ s. MarkedLeft s q.seen r.seen q.who key in
    let Q : ℕ → Type 0 = λ w. MarkedLeft p.start q.seen r.seen w key in
    left_since p.start p.passes start p.seen q.seen r.seen p.who key a.seen
    (subst Q a.same.who (subst P a.same.start x))
