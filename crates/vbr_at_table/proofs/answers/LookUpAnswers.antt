-- The step that answers a look-up: it is accepted, and what it says.
use Rattle.std.proofs.Common.{◌≡◌, ◌≢◌, ℕ, Bool, true, false, refl, subst}
use Rattle.vbr_words.specs.Words.{link_of}
use Rattle.vbr_words.specs.declared.place.At.{At}
use Rattle.vbr_words.specs.declared.place.At.TheVariants.{Head, Slot}
use Rattle.vbr_machine.specs.History.{set_call}
use Rattle.vbr_machine.specs.Acceptance.{Accepts}
use Rattle.vbr_machine.specs.Membership.{KeyAt}
use Rattle.vbr_machine.specs.declared.event.Step.{Step}
use Rattle.vbr_machine.specs.declared.event.Step.TheVariants.{ConfirmAbsent, ConfirmPresent}
use Rattle.vbr_machine.specs.declared.history.Op.TheVariants.{Has, Insert, Remove, Get}
use Rattle.vbr_slots.specs.steps.LookUpStep.{look_up}
use Rattle.vbr_slots.specs.steps.PassLaw.{PassLaw}
use Rattle.vbr_slots.specs.views.Views.{PassView, Did, KeepsPool, knows}
use Rattle.vbr_at_table.specs.answers.Answering.{FindsAnother, IsAnswered, KeepsByLoad}
use Rattle.vbr_at_table.specs.reads.Held.{IsHeld, IsSlot}
use Rattle.vbr_at_table.specs.reads.DecidedKeys.{DecidesKey}
use Rattle.vbr_at_table.specs.declared.held.Held.{Held}
use Rattle.vbr_at_table.specs.declared.rollback.Rollback.TheVariants.{LostExchange}
use Rattle.vbr_at_table.proofs.steps.Accepted.{present_accepted, absent_accepted}
use Rattle.vbr_at_table.proofs.answers.AnsweringLoads.{absent_answered, absent_finds, absent_keeps, present_answered}
use Rattle.vbr_at_table.proofs.answers.AnsweringLoads.{present_finds, present_keeps}

no_remove : Has ≢ Remove
no_remove e = absurd (cc)

no_insert : Has ≢ Insert
no_insert e = absurd (cc)

no_get : Has ≢ Get
no_get e = absurd (cc)

-- it is one that answers by presence, or one that answers by absence
either_step : (P : At → Step → Type 0) (key word : ℕ) → ((s : ℕ) → P (Slot s) (ConfirmPresent Has s word)) →
    ((place : At) → P place (ConfirmAbsent Has key place word)) → (present : Bool) (place : At) →
    P place (look_up present key place word)
either_step P key word there gone true (Slot s) = there s
either_step P key word there gone true (Head b) = gone (Head b)
either_step P key word there gone false place = gone place

pub look_up_keeps : {p q : PassView} {r : ℕ} (present : Bool) (key : ℕ) (place : At) (word : ℕ) →
    Did (look_up present key place word) p.trace q.trace r → KeepsPool p q → KeepsByLoad p q
look_up_keeps {p} {q} {r} present key place word d pool =
    let P : At → Step → Type 0 = λ place step. Did step p.trace q.trace r → KeepsByLoad p q in
    either_step P key word (λ s d. present_keeps d pool) (λ place d. absent_keeps d pool) present place d

module _ (p : PassView) (sound : PassLaw p) (key : ℕ) (held : Held) where
  accepted_at : IsHeld (knows p.trace) held → (link_of held.word).mark ≡ false → (place : At) → held.at ≡ place →
      (present : Bool) → DecidesKey p.trace.start (knows p.trace) key held present →
      Accepts p.trace.start (knows p.trace) (look_up present key place held.word)
  accepted_at h unmarked (Slot s) e true a =
      present_accepted p sound Has held s h e (key, a.1) unmarked no_remove (λ get. absurd (no_get get))
  accepted_at h unmarked (Head b) e true a = absurd (subst IsSlot e a.0)
  accepted_at h unmarked place e false a =
      subst (λ (x : At). Accepts p.trace.start (knows p.trace) (ConfirmAbsent Has key x held.word)) e
      (absent_accepted p sound Has key held h a.0 a.1 unmarked no_insert (λ get. absurd (no_get get)))

  pub look_up_accepted : IsHeld (knows p.trace) held → (link_of held.word).mark ≡ false → (present : Bool) →
      DecidesKey p.trace.start (knows p.trace) key held present →
      Accepts p.trace.start (knows p.trace) (look_up present key held.at held.word)
  look_up_accepted h unmarked present a = accepted_at h unmarked held.at refl present a

  answered_at : (q : PassView) (place : At) → held.at ≡ place → (present : Bool) →
      DecidesKey p.trace.start (knows p.trace) key held present →
      Did (look_up present key place held.word) p.trace q.trace held.word →
      IsAnswered p.trace q.trace (set_call p.trace.who Has key present)
  answered_at q (Slot s) e true a d =
      present_answered sound.start sound.is_run d key 0 (subst (λ (x : At). KeyAt (knows p.trace) x key) e a.1)
      (λ get. absurd (no_get get))
  answered_at q (Head b) e true a d = absurd (subst IsSlot e a.0)
  answered_at q place e false a d = absent_answered d

  pub look_up_answered : (q : PassView) (present : Bool) → DecidesKey p.trace.start (knows p.trace) key held present →
      Did (look_up present key held.at held.word) p.trace q.trace held.word →
      IsAnswered p.trace q.trace (set_call p.trace.who Has key present)
  look_up_answered q present a d = answered_at q held.at refl present a d

  pub look_up_finds : (q : PassView) (present : Bool) (found : ℕ) →
      Did (look_up present key held.at held.word) p.trace q.trace found → found ≢ held.word →
      FindsAnother p.trace q.trace held (LostExchange found)
  look_up_finds q present found d other =
      let P : At → Step → Type 0 =
      λ place step. held.at ≡ place → Did step p.trace q.trace found →
      FindsAnother p.trace q.trace held (LostExchange found) in
      either_step P key held.word (λ s is d. present_finds held other s is d)
      (λ place is d. absent_finds held other place is d) present held.at refl d
