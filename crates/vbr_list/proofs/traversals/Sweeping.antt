-- What a traversal to a key, and an unlinking, show of removed nodes: they have left their list.
use Rattle.vbr_list.proofs.Names.{◌≡◌, ℕ, ◌+◌, ◌≤◌, false, Option, Some, None, sym, subst, arith, IfSome, IfNone, At}
use Rattle.vbr_list.proofs.Names.{begins_refl, Found, found_left, Ghosts, has_key, HasLeft, Held, held_key, held_on}
use Rattle.vbr_list.proofs.Names.{HoldsMarked, incarnations_after, IsFound, IsHeldIncarnation, IsRead, IsRemoved}
use Rattle.vbr_list.proofs.Names.{IsRun, IsSame, IsStart, Keeps, KeyAt, KeyOf, knows, LeavesAt, LeavesReplaced}
use Rattle.vbr_list.proofs.Names.{left_on, link_of, Marked, nodes, passed_left, PendingCall, PIECE, Quiet, removed_on}
use Rattle.vbr_list.proofs.Names.{replaced_earlier, replaced_later, ReplacedAt, ReplacedLeft, same_on, SearchFinds}
use Rattle.vbr_list.proofs.Names.{SearchTires, skipped_left, Slot, StandsBehind, Start, Sweeps, Trace, trace_in}
use Rattle.vbr_list.proofs.Names.{WasShown, wide_found}
use Rattle.vbr_list.proofs.traversals.Clearing.{was_shown}
use Rattle.vbr_list.proofs.traversals.Disturbing.{run_at}
use Rattle.vbr_list.proofs.traversals.Moments.{by_found, key_known}

-- ---- from the start of one trace to that of another

moved_state : (P : Start → Type 0) (p q : Trace) → IsSame p q → P p.start → P q.start
moved_state P p q same x = subst P (sym same.start) x

-- what has left stays out
pub left_later : (q r : Trace) (node : ℕ) → IsStart q.start → Quiet q r → IsRun q.start q.passes q.seen →
    HasLeft ((nodes q).state node) → HasLeft ((nodes r).state node)
left_later q r node start quiet ok left =
    let is_r : IsStart r.start = moved_state IsStart q r quiet.same start in
    let P : Start → Type 0 = λ s. HasLeft ((incarnations_after s q.seen).state node) in
    left_on r.start r.passes is_r q.seen r.seen node (quiet.is_run ok) quiet.seen (moved_state P q r quiet.same left)

-- ---- a traversal

module _ {p q : Trace} (key : ℕ) (start : IsStart p.start) (ok : IsRun p.start p.passes p.seen) (quiet : Quiet p q)
    (node : ℕ) (removed : IsRemoved ((nodes p).state node)) (of_key : (nodes p).key node ≡ key) where
  is_start : IsStart q.start
  is_start = moved_state IsStart p q quiet.same start

  was_removed : IsRemoved ((incarnations_after q.start p.seen).state node)
  was_removed =
      let P : Start → Type 0 = λ s. IsRemoved ((incarnations_after s p.seen).state node) in
      moved_state P p q quiet.same removed

  had_key : (incarnations_after q.start p.seen).key node ≡ key
  had_key =
      let P : Start → Type 0 = λ s. (incarnations_after s p.seen).key node ≡ key in moved_state P p q quiet.same of_key

  -- that came to the key
  found_swept : (found : Found) → IsFound p q key found → HasLeft ((nodes q).state node)
  found_swept found x =
      let pred = found.pred in
      let shown : WasShown q.start x.stood.moment q.seen q.who pred.at (link_of pred.word) =
      was_shown pred start quiet.same (record { known = x.locates.pred.held; stood = x.stood })
      x.locates.pred.unmarked in
      by_found key found (λ present. HasLeft ((nodes q).state node)) x
      (λ before. passed_left q.start q.passes p.seen q.seen is_start (quiet.is_run ok) q.who key node was_removed
      had_key x.stood.moment pred.at (link_of pred.word) shown x.stood.within.from x.locates.pred.behind before)
      (λ cur y z.
      (let there = was_shown cur start quiet.same (record { known = y.held; stood = z }) y.unmarked in
      let P : At → Type 0 = λ place. WasShown q.start z.moment q.seen q.who place (link_of cur.word) in
      let K : At → Type 0 = λ place. KeyAt (knows q) place key in
      found_left q.start q.passes p.seen q.seen is_start (quiet.is_run ok) q.who key node was_removed had_key
      x.stood.moment z.moment pred.at (link_of pred.word) (link_of cur.word) y.slot shown (subst P y.place there)
      x.stood.within.from z.within.from x.locates.pred.behind y.named
      (subst K y.place (key_known (knows q) key pred cur y))))

pub swept_found : {p q : Trace} (key : ℕ) (found : Found) → IsStart p.start → IsRun p.start p.passes p.seen →
    Quiet p q → IsFound p q key found → Sweeps p q key
swept_found key found start ok quiet x node removed of_key = found_swept key start ok quiet node removed of_key found x

-- of a traversal that ended with room in its budget
pub swept_traversed : {N : Type 0} {kind : Ghosts N} → (c d : PendingCall N kind) (found : Option Found) →
    IsStart (trace_in c).start → IsRun (trace_in c).start (trace_in c).passes (trace_in c).seen →
    Quiet (trace_in c) (trace_in d) → IfSome found (λ told. SearchFinds c d (wide_found c told)) →
    IfNone found (SearchTires c d) →
    d.used + PIECE ≤ c.budget → Sweeps (trace_in c) (trace_in d) c.key
swept_traversed c d None start ok quiet x tired room = let short = tired.tired in absurd (omega (arith, short, room))
swept_traversed c d (Some found) start ok quiet x tired room = swept_found c.key (wide_found c found) start ok quiet
    x.found

-- ---- an unlinking

-- the node of a slot behind a place that shows what its marked link names
pub left_skipped : (p q r : Trace) (place : Held) (gone : Marked) (key : ℕ) → IsStart p.start →
    IsRun p.start p.passes p.seen → Quiet p q → Quiet q r → Keeps (knows p) (knows q) → IsRead p q place →
    (link_of place.word).mark ≡ false → HoldsMarked (knows p) gone →
    (link_of gone.word).slot ≡ (link_of place.word).slot → StandsBehind q.start (knows q) place.at key →
    KeyAt (knows p) (Slot gone.slot) key → LeavesAt p r gone.slot
left_skipped p q r place gone key start ok quiet later keeps read unmarked marked same behind key_is node held removed =
    let is_q : IsStart q.start = moved_state IsStart p q quiet.same start in
    let run = quiet.is_run ok in
    let R : Start → Type 0 = λ s. IsRemoved ((incarnations_after s p.seen).state node) in
    let K : Start → Type 0 = λ s. (incarnations_after s p.seen).key node ≡ key in
    let H : Start → Type 0 = λ s. IsHeldIncarnation (incarnations_after s q.seen) (knows p).epoch gone.slot node in
    let E : ℕ → Type 0 = λ e. IsHeldIncarnation (nodes q) e gone.slot node in
    let of_key : (nodes p).key node ≡ key =
    held_key p.start p.passes p.seen start ok p.who gone.slot key node held key_is in
    let run_p = run_at p q quiet.same run in
    let held_q : IsHeldIncarnation (nodes q) (knows q).epoch gone.slot node =
    subst E (sym keeps.epoch)
    (moved_state H p q quiet.same
    (held_on p.start p.passes start p.seen q.seen p.who gone.slot node run_p quiet.seen held)) in
    left_later q r node is_q later run
    (skipped_left q.start q.passes p.seen q.seen is_q run q.who key node (moved_state R p q quiet.same removed)
    (moved_state K p q quiet.same of_key) gone.slot held_q (keeps.reads (KeyOf gone.slot key) key_is) read.stood.moment
    place.at (link_of place.word)
    (was_shown place start quiet.same read unmarked) read.stood.within.from (link_of gone.word) behind
    (keeps.reads _ marked.held.link) marked.mark same)

-- where that was lost, a traversal follows
pub swept_at : (p q r : Trace) (slot key : ℕ) → IsStart p.start → IsRun p.start p.passes p.seen → Quiet p q →
    Sweeps q r key → KeyAt (knows p) (Slot slot) key → LeavesAt p r slot
swept_at p q r slot key start ok quiet sweeps key_is node held removed =
    let run = quiet.is_run ok in
    let of_key : (nodes p).key node ≡ key = held_key p.start p.passes p.seen start ok p.who slot key node held key_is in
    let run_p = run_at p q quiet.same run in
    let R : Start → Type 0 = λ s. IsRemoved ((incarnations_after s q.seen).state node) in
    let K : Start → Type 0 = λ s. (incarnations_after s q.seen).key node ≡ key in
    sweeps node (moved_state R p q quiet.same
    (removed_on p.start p.passes start p.seen q.seen node run_p quiet.seen removed))
    (moved_state K p q quiet.same
    (has_key p.start p.passes p.seen q.seen start run_p p.who key node removed of_key q.seen quiet.seen
    (begins_refl q.seen)))

-- ---- the node that a pass has replaced

pub leaves_replaced : (p q r : Trace) (slot key : ℕ) → IsStart p.start → IsSame p q → IsRun q.start q.passes q.seen →
    ReplacedAt p.start p.seen q.seen p.who (knows q).epoch slot → KeyAt (knows q) (Slot slot) key → Quiet q r →
    LeavesAt q r slot → LeavesReplaced p r key
leaves_replaced p q r slot key start same ok x key_is quiet leaves =
    let is_q : IsStart q.start = moved_state IsStart p q same start in
    let run = quiet.is_run ok in
    let pr : IsSame p r = same_on same quiet.same in
    let H : Start → Type 0 = λ s. IsHeldIncarnation (incarnations_after s q.seen) (knows q).epoch slot x.node in
    let R : Start → Type 0 = λ s. IsRemoved ((incarnations_after s q.seen).state x.node) in
    let L : Start → Type 0 = λ s. HasLeft ((incarnations_after s r.seen).state x.node) in
    let K : Start → Type 0 = λ s. (incarnations_after s r.seen).key x.node ≡ key in
    let run_q = run_at q r quiet.same run in
    let held = moved_state H p q same x.held in
    let removed = moved_state R p q same x.removed in
    let of_key = held_key q.start q.passes q.seen is_q ok q.who slot key x.node held key_is in
    record {
      node = x.node;
      replaced = replaced_later p.start p.passes start p.seen q.seen r.seen p.who x.node quiet.seen x.replaced;
      of_key = subst K same.start
          (has_key q.start q.passes q.seen r.seen is_q run_q q.who key x.node removed of_key r.seen quiet.seen
          (begins_refl r.seen));
      left = subst L pr.start (leaves x.node held removed);
    }

-- and so it is since an earlier moment
pub leaves_replaced_since : {p q : Trace} (r : Trace) (key : ℕ) → IsStart p.start → Quiet p q → LeavesReplaced q r key →
    LeavesReplaced p r key
leaves_replaced_since {p} {q} r key start quiet x =
    let P : Start → Type 0 = λ s. ReplacedLeft s q.seen r.seen q.who key in
    let W : ℕ → Type 0 = λ w. ReplacedLeft p.start q.seen r.seen w key in
    let y = subst W quiet.same.who (subst P quiet.same.start x) in
    record {
      node = y.node;
      replaced = replaced_earlier p.start p.passes start p.seen q.seen r.seen p.who y.node quiet.seen y.replaced;
      of_key = y.of_key;
      left = y.left;
    }
