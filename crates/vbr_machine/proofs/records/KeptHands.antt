-- A slot in hand was in hand ever since its pass last gave birth there.
use Rattle.std.proofs.Common.{◌≡◌, ◌≢◌, ℕ, ◌==◌, Bool, true, false, cond, List, [], ◌∷◌, ◌++◌, Option, Some, None}
use Rattle.std.proofs.Common.{sym, subst, ap, ◌∙◌, inl, inr, ⊎_elim}
use Rattle.std.specs.Prelude.{◌⊎◌}
use Rattle.std.proofs.lemmas.Bool.{cases_eq}
use Rattle.vbr_words.specs.Flags.{has_flag}
use Rattle.vbr_words.specs.declared.link.Link.{Link}
use Rattle.vbr_machine.specs.Start.{Start}
use Rattle.vbr_machine.specs.Put.{put}
use Rattle.vbr_machine.specs.Knowledge.{Know}
use Rattle.vbr_machine.specs.Acceptance.{IsInHand}
use Rattle.vbr_machine.specs.Learning.{learn, link_written, reread, with_key, with_link, with_value}
use Rattle.vbr_machine.specs.Machine.{World, after, found, stamp_shown}
use Rattle.vbr_machine.specs.Records.{IsBirthIn, NoneBears}
use Rattle.vbr_machine.specs.Runs.{know_after, world_after, world_from}
use Rattle.vbr_machine.specs.declared.event.Event.{Event}
use Rattle.vbr_machine.specs.declared.event.Step.{Step}
use Rattle.vbr_machine.specs.declared.event.Step.TheVariants.{ReadEpoch, StoreStamp, Raise}
use Rattle.vbr_machine.specs.declared.event.Step.TheVariants.{TakeFlag, StoreBirth, StoreKey, StoreLink}
use Rattle.vbr_machine.specs.declared.event.Step.TheVariants.{Publish, Mark, Replace, Unlink}
use Rattle.vbr_machine.specs.declared.event.Step.TheVariants.{StoreValue}
use Rattle.vbr_machine.specs.declared.knowledge.Holding.{Holding}
use Rattle.vbr_machine.specs.declared.knowledge.Holding.TheVariants.{Free, Unlinked, InHand}
use Rattle.vbr_machine.proofs.words.Puts.{put_here, put_other}
use Rattle.vbr_machine.proofs.runs.RunsGoOn.{know_other, know_own, world_after-append}

-- ---- a slot that isn't in hand, from step to step

-- it isn't in hand
abbrev pub IsOut : Option Holding → Type 0
IsOut h = ¬ (IsInHand h)

out_read : (h : Option Holding) → IsOut h → IsOut (reread h)
out_read None x = x
out_read (Some (Free stamp)) x = x
out_read (Some (Unlinked seen)) x = λ y. y
out_read (Some (InHand known)) x = x

out_keyed : (key : ℕ) (h : Option Holding) → IsOut h → IsOut (with_key h key)
out_keyed key None x = x
out_keyed key (Some (Free stamp)) x = x
out_keyed key (Some (Unlinked seen)) x = x
out_keyed key (Some (InHand known)) x = absurd (x tt)

out_valued : (value : ℕ) (h : Option Holding) → IsOut h → IsOut (with_value h value)
out_valued value None x = x
out_valued value (Some (Free stamp)) x = x
out_valued value (Some (Unlinked seen)) x = x
out_valued value (Some (InHand known)) x = absurd (x tt)

out_aimed : (link : Link) (h : Option Holding) → IsOut h → IsOut (with_link h link)
out_aimed link None x = x
out_aimed link (Some (Free stamp)) x = x
out_aimed link (Some (Unlinked seen)) x = x
out_aimed link (Some (InHand known)) x = absurd (x tt)

-- what is so in both cases of a test is so
by_test : (P : Know → Type 0) (b : Bool) (x y : Know) → P x → P y → P (cond b x y)
by_test P true x y p q = p
by_test P false x y p q = q

module _ (s : ℕ) where
  -- of a slot, in what a pass knows
  abbrev So : Know → Type 0
  So know = IsOut (know.own s)

  put_on : (own : ℕ → Option Holding) (t : ℕ) (new : Option Holding) → (s ≡ t → IsOut new) → IsOut (own s) →
      IsOut (put own t new s)
  put_on own t new f h =
      ⊎_elim (λ (e : s ≡ t). subst IsOut (sym (ap (put own t new) e ∙ put_here own t new)) (f e))
      (λ (ne : s ≢ t). subst IsOut (sym (put_other own t new s ne)) h) (cases_eq s t)

  at_slot : (own : ℕ → Option Holding) (t : ℕ) (f : Option Holding → Option Holding) →
      ((h : Option Holding) → IsOut h → IsOut (f h)) → IsOut (own s) → IsOut (put own t (f (own t)) s)
  at_slot own t f g h =
      put_on own t (f (own t)) (λ e. (let P : ℕ → Type 0 = λ i. IsOut (f (own i)) in subst P e (g (own s) h))) h

  stays_out : (know : Know) (step : Step) (n r : ℕ) → ¬ (IsBirthIn s step) → So know → So (learn step n r know)
  stays_out know ReadEpoch n r others h =
      by_test So (n == know.epoch) _ _ (out_read (know.own s) h) (out_read (know.own s) h)
  stays_out know (StoreStamp t new) n r others h = put_on know.own t (Some (Free new)) (λ e x. x) h
  stays_out know (Raise t) n r others h = put_on know.own t None (λ e x. x) h
  stays_out know (TakeFlag t) n r others h =
      by_test So (has_flag n t) _ know (put_on know.own t (Some (Free r)) (λ e x. x) h) h
  stays_out know (StoreBirth t birth) n r others h = put_on know.own t _ (λ e. absurd (others (sym e))) h
  stays_out know (StoreKey t key) n r others h = at_slot know.own t (λ x. with_key x key) (out_keyed key) h
  stays_out know (StoreValue t value) n r others h = at_slot know.own t (λ x. with_value x value) (out_valued value) h
  stays_out know (StoreLink t next) n r others h =
      at_slot know.own t (λ x. with_link x (link_written know (StoreLink t next)))
      (out_aimed (link_written know (StoreLink t next))) h
  stays_out know (Publish pred expected t) n r others h =
      by_test So (n == expected) _ know (put_on know.own t None (λ e x. x) h) h
  stays_out know (Mark t expected) n r others h = by_test So (n == expected) _ know h h
  stays_out know (Replace v expected t) n r others h =
      by_test So (n == expected) _ know (put_on know.own t None (λ e x. x) h) h
  stays_out know (Unlink pred expected t) n r others h =
      by_test So (n == expected) _ know (put_on know.own t (Some (Unlinked false)) (λ e x. x) h) h
  stays_out know _ n r others h = h

  -- ---- along events

  out_from : (start : Start) (pass : ℕ) (w : World) (events : List Event) → So (w.know pass) →
      NoneBears pass s events → So ((world_from start w events).know pass)
  out_from start pass w [] h none = h
  out_from start pass w (event ∷ events) h none =
      out_from start pass (after start w event.pass event.step) events (next (cases_eq event.pass pass)) none.1
    where
      next : (event.pass ≡ pass) ⊎ (event.pass ≢ pass) → So ((after start w event.pass event.step).know pass)
      next (inr ne) = subst So (sym (know_other start w pass event.pass event.step (λ e. ne (sym e)))) h
      next (inl e) =
          let n = found start w event.step in
          let r = stamp_shown w event.step in
          let P : ℕ → Type 0 = λ i. So ((after start w event.pass event.step).know i) in
          let S : ℕ → Type 0 = λ i. So (w.know i) in
          let here : So (w.know event.pass) = subst S (sym e) h in
          subst P e
          (subst So (sym (know_own start w event.pass event.step))
          (stays_out (w.know event.pass) event.step n r (none.0 e) here))

in_or_out : (h : Option Holding) → IsInHand h ⊎ IsOut h
in_or_out None = inr (λ x. x)
in_or_out (Some (Free stamp)) = inr (λ x. x)
in_or_out (Some (Unlinked seen)) = inr (λ x. x)
in_or_out (Some (InHand known)) = inl tt

-- a slot that a pass has in hand it had in hand at each moment since it last gave birth there
pub in_hand_since_its_birth : (start : Start) (run more : List Event) (pass s : ℕ) →
    IsInHand ((know_after start (run ++ more) pass).own s) → NoneBears pass s more →
    IsInHand ((know_after start run pass).own s)
in_hand_since_its_birth start run more pass s held none = go (in_or_out ((know_after start run pass).own s))
  where
    go : IsInHand ((know_after start run pass).own s) ⊎ IsOut ((know_after start run pass).own s) →
        IsInHand ((know_after start run pass).own s)
    go (inl x) = x
    go (inr x) =
        let W : World → Type 0 = λ w. IsOut ((w.know pass).own s) in
        absurd (subst W (sym (world_after-append start run more)) (out_from s start pass (world_after start run) more x none)
        held)
