-- A slot that a member holds is in its pass's hand alone, between calls and throughout each.
use Rattle.std.proofs.Common.{◌≡◌, ◌≢◌, ℕ, ◌+◌, ◌==◌, ◌&&◌, Bool, true, false, cond, List, [], ◌∷◌, ◌++◌, Option}
use Rattle.std.proofs.Common.{Some, None, refl, sym, ap, ◌∙◌, subst, inl, inr, ⊎_elim, eq-eqb, arith}
use Rattle.std.specs.Prelude.{◌⊎◌, count_by}
use Rattle.std.proofs.lemmas.Bool.{cases_eq}
use Rattle.std.proofs.lemmas.List.Sums.{sum_by-append}
use Rattle.vbr_words.specs.Flags.{has_flag}
use Rattle.vbr_words.specs.declared.link.Link.{Link}
use Rattle.vbr_machine.specs.Start.{Start}
use Rattle.vbr_machine.specs.Acceptance.{IsInHand}
use Rattle.vbr_machine.specs.Knowledge.{Know}
use Rattle.vbr_machine.specs.Learning.{birth_in_hand, learn, link_written, reread, with_key, with_link, with_value}
use Rattle.vbr_machine.specs.Machine.{World, after, found, stamp_shown}
use Rattle.vbr_machine.specs.Put.{put}
use Rattle.vbr_machine.specs.Records.{IsInHandAlone}
use Rattle.vbr_machine.specs.Runs.{Begins, BeginsFor, IsRun, know_after, world_after, world_from}
use Rattle.vbr_machine.specs.declared.event.Event.{Event}
use Rattle.vbr_machine.specs.declared.event.Step.{Step}
use Rattle.vbr_machine.specs.declared.event.Step.TheVariants.{ReadEpoch, StoreStamp, Raise, TakeFlag, StoreBirth}
use Rattle.vbr_machine.specs.declared.event.Step.TheVariants.{StoreKey, StoreValue, StoreLink, Publish, Mark, Replace}
use Rattle.vbr_machine.specs.declared.event.Step.TheVariants.{Unlink}
use Rattle.vbr_machine.specs.declared.knowledge.Holding.{Holding}
use Rattle.vbr_machine.specs.declared.knowledge.Holding.TheVariants.{Free, Unlinked, InHand}
use Rattle.vbr_machine.specs.declared.knowledge.Unpublished.{Unpublished}
use Rattle.vbr_machine.proofs.Lemmas.{begins_for_know, in_hand_alone, know_other, know_own, put_here, put_other}
use Rattle.vbr_machine.proofs.Lemmas.{world_after-append}
use Rattle.vbr_slots.specs.steps.Calls.{IsSame}
use Rattle.vbr_slots.specs.steps.PassLaw.{PassLaw}
use Rattle.vbr_slots.specs.views.Views.{PassView, knows}
use Rattle.vbr_at_table.specs.hands.Aside.{IsPutAside}
use Rattle.vbr_at_table.specs.hands.KeptSlots.{KeepsSlots}
use Rattle.vbr_at_table.specs.costs.StepKinds.{bears_in}
use Rattle.vbr_at_table.specs.declared.aside.Aside.{Aside}

-- ---- between calls

known_in_hand : (h : Option Holding) → IsInHand h → (known : Unpublished) × (h ≡ Some (InHand known))
known_in_hand (Some (InHand known)) i = (known, refl)
known_in_hand _ i = absurd i

pub held_alone : (p : PassView) (aside : Aside) (run : List Event) → PassLaw p → IsPutAside p aside →
    BeginsFor p.trace.who p.trace.seen run → IsRun p.trace.start p.trace.passes run →
    IsInHandAlone p.trace.start run p.trace.who aside.slot aside.birth
held_alone p aside run law has begins ok =
    let k = known_in_hand ((knows p.trace).own aside.slot) has.is.0 in
    let own = ap (λ (know : Know). know.own aside.slot)
    (begins_for_know p.trace.start p.trace.who p.trace.seen run begins) ∙ k.1 in
    let P : ℕ → Type 0 = IsInHandAlone p.trace.start run p.trace.who aside.slot in
    subst P (sym (ap birth_in_hand k.1) ∙ has.given)
    (in_hand_alone p.trace.start p.trace.passes run p.trace.who aside.slot k.0 law.start ok own)

-- ---- a slot that isn't in hand comes there by a birth alone

not_reread : (h : Option Holding) → ¬ (IsInHand h) → ¬ (IsInHand (reread h))
not_reread (Some (InHand known)) out = out
not_reread _ out = out

not_keyed : (h : Option Holding) (key : ℕ) → ¬ (IsInHand h) → ¬ (IsInHand (with_key h key))
not_keyed (Some (InHand known)) key out = absurd (out tt)
not_keyed _ key out = out

not_valued : (h : Option Holding) (value : ℕ) → ¬ (IsInHand h) → ¬ (IsInHand (with_value h value))
not_valued (Some (InHand known)) value out = absurd (out tt)
not_valued _ value out = out

not_aimed : (h : Option Holding) (link : Link) → ¬ (IsInHand h) → ¬ (IsInHand (with_link h link))
not_aimed (Some (InHand known)) link out = absurd (out tt)
not_aimed _ link out = out

module _ (s : ℕ) where
  -- the slot isn't in hand, by what is known
  abbrev Out : Know → Type 0
  Out know = ¬ (IsInHand (know.own s))

  either_out : (b : Bool) (x y : Know) → Out x → Out y → Out (cond b x y)
  either_out true x y f g = f
  either_out false x y f g = g

  put_out : (own : ℕ → Option Holding) (t : ℕ) (new : Option Holding) → (s ≡ t → ¬ (IsInHand new)) →
      ¬ (IsInHand (own s)) → ¬ (IsInHand (put own t new s))
  put_out own t new here out =
      ⊎_elim (λ (is : s ≡ t). λ h. here is (subst IsInHand (ap (put own t new) is ∙ put_here own t new) h))
      (λ (other : s ≢ t). λ h. out (subst IsInHand (put_other own t new s other) h)) (cases_eq s t)

  stored_out : (own : ℕ → Option Holding) (t : ℕ) (f : Option Holding → Option Holding) →
      ((h : Option Holding) → ¬ (IsInHand h) → ¬ (IsInHand (f h))) → ¬ (IsInHand (own s)) →
      ¬ (IsInHand (put own t (f (own t)) s))
  stored_out own t f kept out =
      put_out own t (f (own t))
      (λ is. kept (own t) (λ h. out (subst (λ (i : ℕ). IsInHand (own i)) (sym is) h))) out

  out_learned : (step : Step) (n r : ℕ) (know : Know) → bears_in s step ≡ false → Out know →
      Out (learn step n r know)
  out_learned ReadEpoch n r know none out =
      either_out (n == know.epoch) _ _ (not_reread (know.own s) out) (not_reread (know.own s) out)
  out_learned (StoreStamp t new) n r know none out = put_out know.own t (Some (Free new)) (λ is h. h) out
  out_learned (Raise t) n r know none out = put_out know.own t None (λ is h. h) out
  out_learned (TakeFlag t) n r know none out =
      either_out (has_flag n t) _ know (put_out know.own t (Some (Free r)) (λ is h. h) out) out
  out_learned (StoreBirth t birth) n r know none out =
      put_out know.own t _
      (λ is h. (let same : (t == s) ≡ true = eq-eqb t s (sym is) in absurd (cc))) out
  out_learned (StoreKey t key) n r know none out =
      stored_out know.own t (λ h. with_key h key) (λ h. not_keyed h key) out
  out_learned (StoreValue t value) n r know none out =
      stored_out know.own t (λ h. with_value h value) (λ h. not_valued h value) out
  out_learned (StoreLink t next) n r know none out =
      stored_out know.own t (λ h. with_link h (link_written know (StoreLink t next)))
      (λ h. not_aimed h (link_written know (StoreLink t next))) out
  out_learned (Publish pred expected t) n r know none out =
      either_out (n == expected) _ know (put_out know.own t None (λ is h. h) out) out
  out_learned (Mark t expected) n r know none out = either_out (n == expected) _ know out out
  out_learned (Replace v expected t) n r know none out =
      either_out (n == expected) _ know (put_out know.own t None (λ is h. h) out) out
  out_learned (Unlink pred expected t) n r know none out =
      either_out (n == expected) _ know (put_out know.own t (Some (Unlinked false)) (λ is h. h) out) out
  out_learned _ n r know none out = out

  -- ---- along events

  born : ℕ → List Event → ℕ
  born who events = count_by (λ (e : Event). (e.pass == who) && bears_in s e.step) events

  born-append : (who : ℕ) (xs ys : List Event) → born who (xs ++ ys) ≡ born who xs + born who ys
  unfolding born
  born-append who xs ys = sum_by-append (λ (e : Event). cond ((e.pass == who) && bears_in s e.step) 1 0) xs ys

  not_born : (who : ℕ) (e : Event) → e.pass ≡ who → born who (e ∷ []) ≡ 0 → bears_in s e.step ≡ false
  unfolding born
  not_born who e mine none = go (e.pass == who) (bears_in s e.step) (eq-eqb e.pass who mine) none
    where
      go : (p q : Bool) → p ≡ true → 0 + cond (p && q) 1 0 ≡ 0 → q ≡ false
      go p q is zero = grind arith

  out_from : (start : Start) (w : World) (who : ℕ) (events : List Event) → born who events ≡ 0 → Out (w.know who) →
      Out ((world_from start w events).know who)
  out_from start w who [] none out = out
  out_from start w who (e ∷ events) none out =
      let sum = born-append who (e ∷ []) events in
      out_from start (after start w e.pass e.step) who events (omega (arith, none, sum))
      (elim (cases_eq e.pass who) [
        | inr ne ↦ subst (λ (k : Know). Out k) (sym (know_other start w who e.pass e.step (λ x. ne (sym x)))) out
        | inl mine ↦
            let P : ℕ → Type 0 = λ i. Out ((after start w e.pass e.step).know i) in
            let S : ℕ → Type 0 = λ i. Out (w.know i) in
            subst P mine
            (subst (λ (k : Know). Out k) (sym (know_own start w e.pass e.step))
            (out_learned e.step (found start w e.step) (stamp_shown w e.step) (w.know e.pass)
            (not_born who e mine (omega (arith, none, sum))) (subst S (sym mine) out)))
      ])

-- ---- throughout a call

in_or_out : (h : Option Holding) → IsInHand h ⊎ (¬ (IsInHand h))
in_or_out (Some (InHand known)) = inl tt
in_or_out _ = inr (λ h. h)

pub held_throughout : (p q : PassView) (aside : Aside) (moment : List Event) → IsPutAside p aside → KeepsSlots p q →
    IsSame p.trace q.trace → Begins p.trace.seen moment → Begins moment q.trace.seen →
    IsInHand ((know_after p.trace.start moment p.trace.who).own aside.slot)
unfolding born
held_throughout p q aside moment has keeps same a b =
    ⊎_elim (λ held. held) (λ out. absurd (gone out))
    (in_or_out ((know_after p.trace.start moment p.trace.who).own aside.slot))
  where
    s : ℕ
    s = aside.slot

    stays : (knows q.trace).own s ≡ (knows p.trace).own s
    stays = (keeps.aside s has.is).known

    counted : born s q.trace.who q.trace.seen ≡ born s p.trace.who p.trace.seen
    counted = (keeps.aside s has.is).births

    none : born s p.trace.who b.0 ≡ 0
    none =
        let who : born s q.trace.who q.trace.seen ≡ born s p.trace.who q.trace.seen =
        ap (λ (w : ℕ). born s w q.trace.seen) same.who in
        let one = born-append s p.trace.who p.trace.seen a.0 in
        let two = born-append s p.trace.who moment b.0 in
        let e1 = ap (born s p.trace.who) a.1 in
        let e2 = ap (born s p.trace.who) b.1 in
        let c = counted in
        omega (arith, who, one, two, e1, e2, c)

    held_then : IsInHand ((know_after p.trace.start q.trace.seen p.trace.who).own s)
    held_then =
        let K : Start × ℕ → Type 0 = λ x. IsInHand ((know_after x.0 q.trace.seen x.1).own s) in
        subst K (λ i. (same.start i, same.who i)) (subst IsInHand (sym stays) has.is.0)

    gone : ¬ (IsInHand ((know_after p.trace.start moment p.trace.who).own s)) → ⊥
    gone out =
        let W : World → Type 0 = λ w. ¬ (IsInHand ((w.know p.trace.who).own s)) in
        let L : List Event → Type 0 = λ l. ¬ (IsInHand ((know_after p.trace.start l p.trace.who).own s)) in
        subst L (sym b.1)
        (subst W (sym (world_after-append p.trace.start moment b.0))
        (out_from s p.trace.start (world_after p.trace.start moment) p.trace.who b.0 none out)) held_then
