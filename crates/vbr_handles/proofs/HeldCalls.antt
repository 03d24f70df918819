-- A call by a slot that is held, with the top-up after it, is what a full handle tells.
use Rattle.vbr_handles.proofs.Names.{◌≡◌, ℕ, ◌&&◌, Bool, ap, ◌∙◌, subst, ℤ, Option, Some, Result, Ok, Err, IfOk}
use Rattle.vbr_handles.proofs.Names.{PassView, Trace, counted_steps, steps_of, TookWithin, TopsUpWhere, lacks_slots}
use Rattle.vbr_handles.proofs.Names.{WritesGiven, Owner, Member, is_yes}
use Rattle.vbr_set.specs.calls.HeldStores.{PutsHeldBy}
use Rattle.vbr_set.specs.declared.record_refusals.HeldRefusal.{HeldRefusal}
use Rattle.vbr_handles.specs.Codes.{held_call_code}
use Rattle.vbr_handles.specs.HeldSlots.{DoesWithRoom, MakesRoom, TellsHeldBy, TellsPutHeld, has_put_new}
use Rattle.vbr_handles.proofs.ToppingUp.{had_member, within_budget}

module _ {A : Type 0} (Does : Member → Member → Result A HeldRefusal → Type 0) (adds : Result A HeldRefusal → Bool)
    (budget : ℕ)
    (kept : (m n : Member) (reply : A) → Does m n (Ok reply) → TookWithin m.pass.trace n.pass.trace budget) where
  -- a call that is answered keeps its budget with the top-up after it
  topped_within : (tops : Bool) (m b n : Member) (answer : Result A HeldRefusal) → Does m b answer →
      TopsUpWhere tops budget m.pass.trace b n → IfOk answer (λ reply. TookWithin m.pass.trace n.pass.trace budget)
  topped_within tops m b n (Ok reply) does topped =
      within_budget tops budget m.pass.trace b n (kept m b reply does) topped
  topped_within tops m b n (Err why) does topped = tt

  -- where the pass was shown, and its steps were counted, after room was made
  pub does_with_room : {m : Member} {shown : PassView} {before : ℕ} (first b n : Member) (answer : Result A HeldRefusal)
      (added : Bool) → MakesRoom m first → Does first b answer → added ≡ adds answer → shown ≡ first.pass →
      before ≡ counted_steps (steps_of shown.trace)
      → ((p : Trace) → before ≡ counted_steps (steps_of p) → TopsUpWhere (added && lacks_slots b) budget p b n) →
      DoesWithRoom Does adds budget m n answer
  does_with_room {m} {shown} {before} first b n answer added room does is is_shown counted tops =
      let tops_up : TopsUpWhere (adds answer && lacks_slots b) budget first.pass.trace b n =
      subst (λ (x : Bool). TopsUpWhere (x && lacks_slots b) budget first.pass.trace b n) is
      (tops first.pass.trace (counted ∙ ap (λ (p : PassView). counted_steps (steps_of p.trace)) is_shown)) in
      record {
        first = first;
        room = room;
        between = b;
        does = does;
        tops_up = tops_up;
        steps = topped_within (adds answer && lacks_slots b) first b n answer does tops_up;
      }

-- what the member of a full handle did is what the handle tells
pub tells_held_call : (Does : Member → Member → Result Bool HeldRefusal → Type 0) {owner asked : Owner Member}
    {m : Member} {code : ℤ} (n : Member) (answer : Result Bool HeldRefusal) → asked ≡ owner →
    asked.member ≡ Some m → Does m n answer → code ≡ held_call_code answer →
    TellsHeldBy Does owner.member (Some n) code
tells_held_call Does {owner} {asked} {m} {code} n answer same lent does codes =
    subst (λ (o : Option Member). TellsHeldBy Does o (Some n) code) (had_member same lent)
    (record { answer = answer; is = codes; does = does })

pub tells_put : (key value budget old new : ℕ) {owner asked : Owner Member} {m : Member} {code : ℤ} (n : Member)
    (answer : Result (Option ℕ) HeldRefusal) → asked ≡ owner → asked.member ≡ Some m →
    DoesWithRoom (λ m n answer. PutsHeldBy m n key value budget answer) has_put_new budget m n answer →
    code ≡ held_call_code (is_yes answer) → WritesGiven answer old new →
    TellsPutHeld owner.member (Some n) key value budget old new code
tells_put key value budget old new {owner} {asked} {m} {code} n answer same lent does codes writes =
    subst (λ (o : Option Member). TellsPutHeld o (Some n) key value budget old new code) (had_member same lent)
    (record { answer = answer; is = codes; does = does; writes = writes })
