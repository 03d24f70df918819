-- Searches of a call by loads alone, one after another: each but the last was lost, disturbed by another pass.
use Rattle.vbr_list.proofs.Names.{ℕ, ◌+◌, ◌≤◌, subst, bucket_of, Ghosts, Goes, GoesOn, Held, IsFresh, IsSameCall}
use Rattle.vbr_list.proofs.Names.{LooksTo, LosesHeld, Observes, pass_in, PassLaw, Peeks, PendingCall, same_refl}
use Rattle.vbr_list.proofs.Names.{trace_in}
use Rattle.vbr_list.proofs.traversals.Disturbing.{run_of, unchanged_at}
use Rattle.vbr_list.proofs.traversals.Searching.{HasRepeatedIn, repeated_none_in, round_on}
use Rattle.vbr_list.proofs.pieces.Going.{call_on, call_refl, within_call}
use Rattle.vbr_list.proofs.look_ups.Passing.{peeks_on, peeks_refl}

-- a call has gone on within its budget by traversals that were lost, with so many steps for each besides
abbrev pub HasLookedIn : {N : Type 0} {kind : Ghosts N} → ℕ → ℕ → PendingCall N kind → PendingCall N kind → Type 0
HasLookedIn bucket each b c = IsSameCall b c × Peeks (pass_in b) (pass_in c) b.used c.used b.budget ×
    HasRepeatedIn 5 (trace_in b) (trace_in c) bucket each b.used c.used

-- or by searches for its key
abbrev pub HasLooked : {N : Type 0} {kind : Ghosts N} → ℕ → PendingCall N kind → PendingCall N kind → Type 0
HasLooked each b c = HasLookedIn (bucket_of (trace_in b).start.shape b.key) each b c

-- when it begins, it has made none
pub looked_none : {N : Type 0} {kind : Ghosts N} (c : PendingCall N kind) (bucket each : ℕ) →
    HasLookedIn bucket each c c
looked_none c bucket each = (
  call_refl c,
  peeks_refl (pass_in c) c.used c.budget c.within,
  repeated_none_in 5 (trace_in c) bucket each c.used,
)

-- one more, and what it came to was lost
module _ {N : Type 0} {kind : Ghosts N} (each : ℕ) {b c d : PendingCall N kind} (law : PassLaw (pass_in b))
    (so : HasLooked (3 + each) b c) (went : GoesOn c d) (observes : Observes (trace_in c) (trace_in d)) where
  pub peeks_until : Peeks (pass_in b) (pass_in d) b.used d.used b.budget
  peeks_until = peeks_on so.1 went.goes observes went.more (within_call (call_on so.0 went.call))

  pub looked_more : {e : PendingCall N kind} (held : Held) → IsFresh (trace_in d) →
      LooksTo (trace_in c) (trace_in d) c.key c.used d.used held → IsSameCall d e →
      Goes (pass_in d) (pass_in e) d.used e.used → Observes (trace_in d) (trace_in e) → d.used ≤ e.used →
      e.used ≤ d.used + each → LosesHeld (trace_in d) (trace_in e) held → HasLooked (3 + each) b e
  looked_more {e} held fresh look same goes then more few loses =
      let p = trace_in b in
      let r = trace_in e in
      let now = call_on (call_on so.0 went.call) same in
      let peeks = peeks_on peeks_until goes then more (within_call now) in
      let first = so.1.tries.goes.quiet in
      let whole = peeks.tries.goes.quiet in
      let ok = run_of law whole in
      let L : ℕ → Type 0 = λ key. LooksTo (trace_in c) (trace_in d) key c.used d.used held in (
        now,
        peeks,
        round_on p (trace_in c) (trace_in d) r law.start ok b.key each first.same peeks_until.tries.goes.quiet.same
            whole.same first.seen went.goes.quiet.seen goes.quiet.seen
            (unchanged_at p p r (bucket_of p.start.shape b.key) law.start ok (same_refl p) whole.same whole.seen
            peeks.observes.adds_none) held so.2 fresh (subst L so.0.key look) few loses,
      )
