-- An insert by a slot in hand: what it tells of a slot that is published, or stays in hand.
use Rattle.vbr_list.proofs.Names.{◌≡◌, ℕ, ◌+◌, ◌≤◌, Bool, true, false, ap, subst, arith, AnswersHeld, Found, Ghosts}
use Rattle.vbr_list.proofs.Names.{GoesOn, HandView, HoldsOn, KeepsUnstored, LinksNode, Made, Otherwise, pass_in}
use Rattle.vbr_list.proofs.Names.{PassLaw, PendingCall, PublishesHeld, PublishesSlot, SearchesFor, SearchFinds}
use Rattle.vbr_list.proofs.Names.{steps_to_update, still_in_hand, stored_in, trace_in, Unstored, Wanted}
use Rattle.vbr_list.specs.declared.storing.Unstored.TheVariants.{OutOfSteps}
use Rattle.vbr_list.proofs.traversals.Disturbing.{run_at}
use Rattle.vbr_list.proofs.inserts.HeldCosts.{costs_after}
use Rattle.vbr_list.proofs.named_entries.Publishing.{published_since}
use Rattle.vbr_list.proofs.inserts.Linking.{IsLinking, begun, quiet_until}
use Rattle.vbr_list.proofs.pieces.Told.{stored_same, told_since}
use Rattle.vbr_list.proofs.traversals.LostTraversals.{search_ends}

module _ {N : Type 0} {kind : Ghosts N} {b c d : PendingCall N kind} {hand : HandView} (law : PassLaw (pass_in b))
    (so : IsLinking 7 b c hand) (went : GoesOn c d) where
  -- the insert is answered
  pub held_answers : (e : PendingCall N kind) (value : ℕ) (reply : Bool) (found : Found) → SearchFinds c d found →
      e.used ≤ d.used + steps_to_update (trace_in d).start →
      Made (stored_in (trace_in d) d.key value reply) (trace_in d) (trace_in e) →
      AnswersHeld (trace_in b) (trace_in e) b.key value b.used e.used reply
  held_answers e value reply found finds few made =
      let p = trace_in b in
      let q = trace_in d in
      let r = trace_in e in
      let quiet = quiet_until so went in
      let P : ℕ → Type 0 = λ key. Made (stored_in q key value reply) q r in
      let steps = steps_to_update p.start in
      let start = ap steps_to_update quiet.same.start in
      let told : Made (stored_in p b.key value reply) p r =
      told_since quiet (stored_same quiet.same b.key value reply) (subst P (begun so went).key made) in
      let searches : SearchesFor p q b.key b.used e.used (steps + 3) =
      search_ends law so.0 so.1 went (omega arith, omega arith) so.6 finds.traverses e.used steps (steps + 3)
      (omega (arith, few, start)) (omega arith) in
      record {
        made = told;
        searched = record { ended = q; quiet = quiet; to = made.seen; searches = searches };
        costs = costs_after 7 steps p q r law.start (run_at p r told.same told.is_run) b.key quiet made.seen b.used
            e.used e.used (steps + 3) searches (omega arith);
      }

  -- the slot is published
  pub held_linked : {first : HandView} → hand ≡ first → (e : PendingCall N kind) (value : ℕ) (found : Found) →
      SearchFinds c d found → LinksNode value d e hand →
      PublishesHeld (pass_in b) (pass_in e) b.key value b.used e.used first
  held_linked {first} is_first e value found finds x =
      let S : ℕ → HandView → Type 0 = λ key h. PublishesSlot (trace_in b) (trace_in e) h.slot h.birth key in
      let P : ℕ → Type 0 = λ key. S key hand in
      let H : HandView → Type 0 = S b.key in
      record {
        answers = held_answers e value true found finds x.few x.made;
        spent = x.spent;
        slot = subst H is_first (subst P (begun so went).key (published_since (quiet_until so went) x.slot));
      }

-- the slot wasn't published, and is in hand as before
pub kept_held : {N : Type 0} {kind : Ghosts N} (value : ℕ) {wanted : Wanted} {c d : PendingCall N kind}
    {hand : HandView} (back : HandView) (why : Unstored) → KeepsUnstored false wanted c d hand (back, why) →
    HoldsOn (pass_in c) (pass_in d) c.key value c.used d.used c.budget hand (back, still_in_hand why)
kept_held value back (Otherwise there) x = record { same = x.same; has = x.has; says = x.says value }
kept_held value back (OutOfSteps used) x = record { same = x.same; has = x.has; says = x.says }
