-- Searches of a call, one after another: each but the last was lost, disturbed by another pass.
use Rattle.vbr_list.proofs.Names.{◌≡◌, ℕ, ◌+◌, ◌<◌, ◌≤◌, Bool, true, false, arith, subst, advances, bucket_of, Found}
use Rattle.vbr_list.proofs.Names.{Ghosts, Goes, GoesOn, HasRoomForPiece, IsFound, IsRun, IsSameCall, LastTraversal}
use Rattle.vbr_list.proofs.Names.{LosesFound, no_room, pass_in, PassLaw, PendingCall, PIECE, Quiet, quiet_on}
use Rattle.vbr_list.proofs.Names.{Searches, SearchesFor, SearchFinds, Trace, trace_in, TraversesAgain, Tries, WasSo}
use Rattle.vbr_list.proofs.traversals.Disturbing.{run_of}
use Rattle.vbr_list.proofs.pieces.Going.{call_on, call_refl, goes_further, tries_on, tries_refl, within_call}
use Rattle.vbr_list.proofs.traversals.Moments.{found_since, was_so}
use Rattle.vbr_list.proofs.traversals.Searching.{HasRepeated, HasRepeatedIn, repeated_none_in, search_round_on}
use Rattle.vbr_list.proofs.traversals.Searching.{searches_until, searches_later}

-- a call goes on, after what it did first
module _ {N : Type 0} {kind : Ghosts N} {b c d : PendingCall N kind} (law : PassLaw (pass_in b)) (same : IsSameCall b c)
    (first : Quiet (trace_in b) (trace_in c)) (went : GoesOn c d) where
  abbrev then : Quiet (trace_in c) (trace_in d)
  then = went.goes.quiet

  pub whole : Quiet (trace_in b) (trace_in d)
  whole = quiet_on first then

  pub run_whole : IsRun (trace_in b).start (trace_in b).passes (trace_in d).seen
  run_whole = run_of law whole

  -- by one more search, and what came then
  pub search_ends : {e each : ℕ} → (e ≤ each) × (3 ≤ each) →
      HasRepeated 9 (trace_in b) (trace_in c) b.key e b.used c.used →
      TraversesAgain 9 (trace_in c) (trace_in d) c.key c.used d.used → (now more all : ℕ) → now ≤ d.used + more →
      more + 3 ≤ all → Searches each (trace_in b) (trace_in d) b.key b.used now all
  search_ends few lost traverses =
      let P : ℕ → Type 0 = λ key. TraversesAgain 9 (trace_in c) (trace_in d) key c.used d.used in
      searches_until (trace_in b) (trace_in c) (trace_in d) law.start run_whole b.key first.same first.seen then.seen
      few lost (subst P same.key traverses)

  -- what it found was lost
  pub search_lost : (each : ℕ) (e : PendingCall N kind) →
      HasRepeated 9 (trace_in b) (trace_in c) b.key (3 + each) b.used c.used → (found : Found) → SearchFinds c d found →
      Quiet (trace_in d) (trace_in e) → advances (trace_in e) ≡ advances (trace_in d) → e.used ≤ d.used + each →
      LosesFound (trace_in d) (trace_in e) found →
      HasRepeated 9 (trace_in b) (trace_in e) b.key (3 + each) b.used e.used
  search_lost each e lost found finds since count few loses =
      let all = quiet_on whole since in
      let P : ℕ → Type 0 = λ key. LastTraversal (trace_in c) (trace_in d) key c.used d.used found in
      search_round_on (trace_in b) (trace_in c) (trace_in d) (trace_in e) law.start (run_of law all) b.key each
      first.same then.same all.same first.seen then.seen since.seen count lost found (subst P same.key finds.last) few
      loses

-- ---- how far the loop of a call has come that has no slot in hand

-- a call has gone on within its budget by traversals that were lost, with so many steps for each besides
abbrev pub HasSearchedIn : {N : Type 0} {kind : Ghosts N} → ℕ → ℕ → PendingCall N kind → PendingCall N kind → Type 0
HasSearchedIn bucket each b c = IsSameCall b c × Tries (pass_in b) (pass_in c) b.used c.used b.budget ×
    HasRepeatedIn 9 (trace_in b) (trace_in c) bucket each b.used c.used

-- or by searches for its key
abbrev pub HasSearched : {N : Type 0} {kind : Ghosts N} → ℕ → PendingCall N kind → PendingCall N kind → Type 0
HasSearched each b c = HasSearchedIn (bucket_of (trace_in b).start.shape b.key) each b c

-- when it begins, it has made none
pub searched_none : {N : Type 0} {kind : Ghosts N} (c : PendingCall N kind) (bucket each : ℕ) →
    HasSearchedIn bucket each c c
searched_none c bucket each = (
  call_refl c,
  tries_refl (pass_in c) c.used c.budget c.within,
  repeated_none_in 9 (trace_in c) bucket each c.used,
)

-- one more search
module _ {N : Type 0} {kind : Ghosts N} {each : ℕ} {b c d : PendingCall N kind} (law : PassLaw (pass_in b))
    (so : HasSearched each b c) (went : GoesOn c d) where
  pub searched_on : GoesOn b d
  searched_on = goes_further so.0 so.1 went

  -- it was the last one
  pub searched_for : each ≤ 7 → TraversesAgain 9 (trace_in c) (trace_in d) c.key c.used d.used → (now more all : ℕ) →
      now ≤ d.used + more → more + 3 ≤ all → SearchesFor (trace_in b) (trace_in d) b.key b.used now all
  searched_for few = search_ends law so.0 so.1.goes.quiet went (few, omega arith) so.2

  module _ (found : Found) (finds : SearchFinds c d found) where
    -- what it found was so at a moment since the call began
    pub found_in : IsFound (trace_in b) (trace_in d) b.key found
    found_in =
        let P : ℕ → Type 0 = λ key. IsFound (trace_in c) (trace_in d) key found in
        found_since b.key found so.1.goes.quiet (subst P so.0.key finds.found)

    pub so_in : WasSo (trace_in b) (trace_in d) b.key found.present
    so_in = was_so b.key found law.start searched_on.goes.quiet.same found_in

-- and what it found was lost, in so many steps at most
pub searched_more : {N : Type 0} {kind : Ghosts N} (each : ℕ) {b c d e : PendingCall N kind} → PassLaw (pass_in b) →
    HasSearched (3 + each) b c → GoesOn c d → (found : Found) → SearchFinds c d found → IsSameCall d e →
    Goes (pass_in d) (pass_in e) d.used e.used → d.used ≤ e.used → e.used ≤ d.used + each →
    LosesFound (trace_in d) (trace_in e) found → HasSearched (3 + each) b e
searched_more each {e = e} law so went found finds same goes more few loses =
    let before = goes_further so.0 so.1 went in
    let now = call_on before.call same in (
      now,
      tries_on (tries_on so.1 went.goes went.more (within_call before.call)) goes more (within_call now),
      search_lost law so.0 so.1.goes.quiet went each e so.2 found finds goes.quiet goes.hand.takes_no_slot.count few
          loses,
    )

-- searches of a call that went on, until a later moment
pub searched_until : {N : Type 0} {kind : Ghosts N} {c d : PendingCall N kind} {r : Trace} → PassLaw (pass_in c) →
    GoesOn c d → Quiet (trace_in d) r → {now least : ℕ} (most : ℕ) → least ≤ most →
    SearchesFor (trace_in c) (trace_in d) c.key c.used now least → SearchesFor (trace_in c) r c.key c.used now most
searched_until {c = c} {d = d} {r = r} law gone quiet most le x =
    searches_later (trace_in c) (trace_in d) r law.start (run_of law (quiet_on gone.goes.quiet quiet)) c.key
    gone.goes.quiet.seen quiet.seen most le x

-- a call that went on has no room in its budget for one more piece
pub short_of : {N : Type 0} {kind : Ghosts N} {c d : PendingCall N kind} → IsSameCall c d → (fits : Bool) →
    fits ≡ false → (HasRoomForPiece d → fits ≡ true) → c.budget < d.used + PIECE
short_of {d = d} same fits none room =
    let P : ℕ → Type 0 = λ budget. budget < d.used + PIECE in
    subst P same.budget (no_room d.used d.budget fits none room)
