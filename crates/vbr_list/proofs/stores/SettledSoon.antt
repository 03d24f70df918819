-- What a call with a slot in hand costs that stores a value, seen from before its searches.
use Rattle.vbr_list.proofs.Names.{◌≡◌, ◌<◌, ◌≤◌, ℕ, ◌+◌, Bool, true, false, Option, subst, inl, inr, arith, ◌∙◌, refl}
use Rattle.vbr_list.proofs.Names.{None, Some, AnswersOther, Asks, begins_refl, Call, Entry, FindsOtherEntry, Found}
use Rattle.vbr_list.proofs.Names.{Ghosts, given_call, GoesOn, had_grown, had_node, HandView, HasStill, Insert}
use Rattle.vbr_list.proofs.Names.{IsSameCall, LacksInHand, LastTraversal, LeavesInHand, LeavesReplaced, LosesFound}
use Rattle.vbr_list.proofs.Names.{MadeTwo, Makes, MarksAndSearches, MaySettle, pass_in, PassLaw, PendingCall, PIECE}
use Rattle.vbr_list.proofs.Names.{PublishesSlot, Quiet, Remove, RunsShort, same_on, Searches, SearchesWith}
use Rattle.vbr_list.proofs.Names.{SearchFinds, SearchTires, SettlesIn, SettlesSoon, stored_call, StoredIn, StoredSoon}
use Rattle.vbr_list.proofs.Names.{StoresByHand, StoresHeld, storing_calls, TellsThere, Trace, trace_in, WasOther}
use Rattle.vbr_list.proofs.traversals.Disturbing.{run_at, run_of}
use Rattle.vbr_list.proofs.inserts.HeldCosts.{costs_after, lacks_after, stored_costs, stored_leaves}
use Rattle.vbr_list.proofs.stores.LateSearches.{late_searched}
use Rattle.vbr_list.proofs.inserts.Linking.{begun, counts_until, has_until, IsLinking, lost_then, quiet_until}
use Rattle.vbr_list.proofs.inserts.Linking.{TakesOn}
use Rattle.vbr_list.proofs.look_ups.FoundValues.{tells_since}
use Rattle.vbr_list.proofs.named_entries.Publishing.{published_since}
use Rattle.vbr_list.proofs.stores.Stores.{are_alone, hand_kept, has_made, HasMade, makes_on}
use Rattle.vbr_list.proofs.traversals.LostTraversals.{search_ends}
use Rattle.vbr_list.proofs.traversals.Sweeping.{leaves_replaced_since}

abbrev AnswersSoon : {N : Type 0} {kind : Ghosts N} → Bool → PendingCall N kind → PendingCall N kind → Type 0
AnswersSoon stored c d = StoredSoon stored (trace_in c) (trace_in d) c.key c.used d.used c.budget

abbrev AnswersIn : {N : Type 0} {kind : Ghosts N} → Bool → PendingCall N kind → PendingCall N kind → Type 0
AnswersIn stored c d = StoredIn stored (trace_in c) (trace_in d) c.key c.used d.used c.budget

module _ {N : Type 0} {kind : Ghosts N} (b c d e : PendingCall N kind) {hand : HandView} (law : PassLaw (pass_in b))
    (so : IsLinking 11 b c hand) (went : GoesOn c d) (found : Found) (finds : SearchFinds c d found)
    (made : HasMade (trace_in d) (trace_in e)) where
  -- it is answered soon then
  pub soon_then : (stored : Bool) → SettlesSoon PIECE stored d e → AnswersSoon stored b e
  soon_then stored soon =
      let quiet = quiet_until so went in
      let same = begun so went in
      record {
        ended = trace_in d;
        quiet = quiet;
        to = made.seen;
        used = d.used;
        searches = search_ends law so.0 so.1 went (omega arith, omega arith) so.6 finds.traverses d.used 0 3
            (omega arith) (omega arith);
        few = let few = soon.few in omega (arith, few);
        leaves = λ yes room.
            let L : ℕ → Type 0 = LeavesReplaced (trace_in d) (trace_in e) in
            let budget = same.budget in
            leaves_replaced_since (trace_in e) b.key law.start quiet
            (subst L same.key (soon.leaves yes (omega (arith, room, budget))));
      }

  -- or late
  pub answers_then : (stored : Bool) → SettlesIn PIECE stored d e found → AnswersIn stored b e
  answers_then false soon = soon_then false soon
  answers_then true (inl soon) = inl (soon_then true soon)
  answers_then true (inr late) =
      let quiet = quiet_until so went in
      let p = trace_in b in
      let S : ℕ → Type 0 = λ k. MarksAndSearches PIECE (trace_in d) (trace_in e) k d.used e.used found.pred in
      let L : ℕ → Type 0 = λ k. LastTraversal (trace_in c) (trace_in d) k c.used d.used found in
      inr (late_searched p (trace_in c) (trace_in d) (trace_in e) law.start
      (run_at p (trace_in e) (same_on quiet.same made.same) made.is_run) b.key so.1.same went.goes.quiet.same so.1.seen
      went.goes.quiet.seen quiet made.seen so.6 found (subst L so.0.key finds.last) e.used
      (subst S (begun so went).key late))

-- a piece that may have answered the call
pub takes_settled : {N : Type 0} {kind : Ghosts N} {c d : PendingCall N kind} → MaySettle c d → TakesOn c d
takes_settled x =
    record {
      call = x.call;
      counts = x.counts;
      more = (let more = x.more in omega (arith, more));
      takes_no_slot = x.takes_no_slot;
    }

-- a piece that asks, and what slots the pass has then
pub takes_asked : {N : Type 0} {kind : Ghosts N} {c d : PendingCall N kind} → Asks c d → TakesOn c d
takes_asked x = record { call = x.call; counts = x.counts; more = x.more; takes_no_slot = x.hand.takes_no_slot }

pub had_asked : {N : Type 0} {kind : Ghosts N} {c d : PendingCall N kind} → Asks c d → HasStill (pass_in c) (pass_in d)
had_asked {c = c} {d = d} x = had_grown (pass_in c) (pass_in d) x.hand.takes_no_slot.grows x.hand.hand

-- ---- by a slot in hand

-- two calls where a node was replaced
held_two : (p r : Trace) (who key value : ℕ) (there : Option ℕ) → Makes (storing_calls who key value there) p r →
    had_node there ≡ true →
    (first : Call) × (second : Call) × MadeTwo first second p r × (first.op ≡ Remove) × (second.op ≡ Insert)
held_two p r who key value None made had = absurd (let z : false ≡ true = had in cc)
held_two p r who key value (Some old) made had =
    (given_call who Remove key (Some old), stored_call who key value true, made, refl, refl)

-- the value was stored after some searches
pub held_stores : {N : Type 0} {kind : Ghosts N} (b c d e : PendingCall N kind) {hand first : HandView}
    (law : PassLaw (pass_in b)) (so : IsLinking 11 b c hand) (went : GoesOn c d) (found : Found)
    (finds : SearchFinds c d found) → IsSameCall d e → (value : ℕ) (there : Option ℕ) → hand ≡ first →
    StoresByHand PIECE value d e hand found there →
    StoresHeld (pass_in b) (pass_in e) b.key value b.used e.used b.budget first there
held_stores b c d e {hand} {first} law so went found finds call value there is x =
    let p = trace_in b in
    let q = trace_in d in
    let r = trace_in e in
    let same = begun so went in
    let quiet = quiet_until so went in
    let K : ℕ → Type 0 = λ k. Makes (storing_calls q.who k value there) p r in
    let W : ℕ → Type 0 = λ who. Makes (storing_calls who b.key value there) p r in
    let S : ℕ → HandView → Type 0 = λ k h. PublishesSlot p x.slot.ended h.slot h.birth k in
    let F : ℕ → Type 0 = λ k. S k hand in
    let H : HandView → Type 0 = S b.key in
    let L : ℕ → Type 0 = LeavesReplaced q r in
    let made : Makes (storing_calls p.who b.key value there) p r =
    subst W quiet.same.who
    (subst K same.key (makes_on p q r (storing_calls q.who d.key value there) quiet x.stores.made)) in
    let has = has_made p r (storing_calls p.who b.key value there) made in
    let ok = run_at p r has.same has.is_run in
    let paid : StoredIn (had_node there) p r b.key b.used e.used b.budget =
    answers_then b c d e law so went found finds
    (has_made q r (storing_calls q.who d.key value there) x.stores.made) (had_node there) x.paid in
    record {
      made = made;
      alone = are_alone p r (storing_calls p.who b.key value there) law.start law.low made;
      spent = x.stores.spent;
      slot = record {
        ended = x.slot.ended;
        same = same_on quiet.same x.slot.same;
        to = x.slot.to;
        published = subst H is (subst F same.key (published_since quiet x.slot.published));
      };
      leaves = λ yes room.
          let kept = call.budget in
          let before = same.budget in
          leaves_replaced_since r b.key law.start quiet
          (subst L same.key (x.leaves yes (omega (arith, room, kept, before))));
      leaves_alone = stored_leaves (had_node there) p r law.start ok b.key b.used e.used b.budget paid;
      paid = paid;
      costs = stored_costs (had_node there) p r law.start ok b.key b.used e.used b.budget
          (held_two p r p.who b.key value there made) paid;
    }

-- what was asked, or read, was lost: the slot is in hand still
pub held_asked : {N : Type 0} {kind : Ghosts N} (each : ℕ) → 3 ≤ each → {b c d e : PendingCall N kind}
    {hand : HandView} (law : PassLaw (pass_in b)) (so : IsLinking (3 + each) b c hand) (went : GoesOn c d) → Asks d e →
    Quiet (trace_in d) (trace_in e) → (found : Found) → SearchFinds c d found →
    LosesFound (trace_in d) (trace_in e) found → IsLinking (3 + each) b e hand
held_asked each three {d = d} {e = e} {hand = hand} law so went asks quiet found finds loses =
    let few = asks.few in
    lost_then each law so went (takes_asked asks) (omega (arith, few, three)) quiet
    (hand_kept hand asks.hand (has_until so went)) (had_asked asks) found finds loses

-- what was to be stored wasn't: it is in hand again
pub held_lost : {N : Type 0} {kind : Ghosts N} (each : ℕ) {b c d e : PendingCall N kind} {hand back first : HandView}
    (law : PassLaw (pass_in b)) (so : IsLinking (3 + each) b c hand) (went : GoesOn c d) (found : Found) →
    SearchFinds c d found → hand ≡ first → MaySettle d e → LeavesInHand each d e found hand back →
    IsLinking (3 + each) b e back × (back ≡ first)
held_lost each law so went found finds is settles x = (
  lost_then each law so went (takes_settled settles) x.few x.given.quiet x.given.hand x.had found finds x.given.loses,
  x.same ∙ is,
)

-- a get was answered with what was there, which isn't as wanted
pub held_told : {N : Type 0} {kind : Ghosts N} {b c d e : PendingCall N kind} {hand : HandView}
    (law : PassLaw (pass_in b)) (so : IsLinking 11 b c hand) (went : GoesOn c d) → Asks d e → (found : Found) →
    SearchFinds c d found → (there : Option ℕ) → TellsThere d e there →
    AnswersOther (trace_in b) (trace_in e) b.key b.used e.used b.budget there
held_told {b = b} {c = c} {d = d} {e = e} law so went asks found finds there told =
    let few = asks.few in
    record {
      told = tells_since b d e there (begun so went).key (quiet_until so went) told;
      paid = soon_then b c d e law so went found finds
          (record { same = told.same; seen = told.seen; is_run = told.is_run }) false
          (record { few = omega (arith, few); leaves = λ yes room. absurd (cc) });
    }

-- the last search left no room in the budget for one more piece
pub searched_out : {N : Type 0} {kind : Ghosts N} {e : ℕ} {b c d : PendingCall N kind} {hand : HandView} →
    PassLaw (pass_in b) → IsLinking e b c hand → GoesOn c d → SearchTires c d → (each : ℕ) → (e ≤ each) × (3 ≤ each) →
    RunsShort (trace_in b) (trace_in d) b.used d.used b.budget ×
    Searches each (trace_in b) (trace_in d) b.key b.used (b.budget + 1) 11 ×
    LacksInHand each (trace_in b) (trace_in d) b.key b.used b.budget
searched_out {b = b} {d = d} law so went tired each few =
    let short : b.budget < d.used + PIECE = rw so.0.budget at tired.tired in
    let quiet = quiet_until so went in
    let searches : Searches each (trace_in b) (trace_in d) b.key b.used (b.budget + 1) 11 =
    search_ends law so.0 so.1 went few so.6 tired.traverses (b.budget + 1) 8 11 (omega (arith, short)) (omega arith)
    in (
      record { counts = counts_until so went; short = short },
      searches,
      lacks_after each (trace_in b) (trace_in d) law.start (run_of law quiet) b.key quiet b.used b.budget searches,
    )

-- the key was found otherwise
pub held_finds : {N : Type 0} {kind : Ghosts N} {b c d : PendingCall N kind} {hand : HandView}
    (law : PassLaw (pass_in b)) (so : IsLinking 11 b c hand) (went : GoesOn c d) (found : Found) →
    SearchFinds c d found → (entry : Entry) → WasOther (trace_in b) (trace_in d) b.key entry →
    FindsOtherEntry (trace_in b) (trace_in d) b.key b.used d.used entry
held_finds {b = b} {d = d} law so went found finds entry was =
    let quiet = quiet_until so went in
    let searches : SearchesWith (trace_in b) (trace_in d) b.key b.used d.used 3 =
    search_ends law so.0 so.1 went (omega arith, omega arith) so.6 finds.traverses d.used 0 3 (omega arith)
    (omega arith) in
    record {
      was = was;
      searches = searches;
      costs = costs_after 12 0 (trace_in b) (trace_in d) (trace_in d) law.start (run_of law quiet) b.key quiet
          (begins_refl (trace_in d).seen) b.used d.used d.used 3 searches (omega arith);
    }
