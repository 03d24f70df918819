-- The slots of a member that holds one: none is lost.
use Rattle.std.proofs.Common.{◌≡◌, ◌≢◌, ℕ, List, [], ◌∷◌, ◌++◌, Option, Some, None, Ok, sym, ap, ◌∙◌}
use Rattle.std.proofs.Common.{subst, inl, inr, ⊎_elim, arith}
use Rattle.std.specs.Prelude.{◌⊎◌, Contains}
use Rattle.std.proofs.lemmas.Bool.{cases_eq}
use Rattle.std.proofs.lemmas.List.Elements.{Contains-append_left, Contains-append_right}
use Rattle.vbr_machine.specs.Acceptance.{IsUnlinked, MayBear}
use Rattle.vbr_machine.specs.Knowledge.{Know}
use Rattle.vbr_machine.specs.Put.{put}
use Rattle.vbr_machine.specs.declared.event.Step.TheVariants.{Raise}
use Rattle.vbr_machine.specs.declared.knowledge.Holding.{Holding}
use Rattle.vbr_machine.specs.declared.knowledge.Holding.TheVariants.{Free, InHand}
use Rattle.vbr_machine.proofs.Lemmas.{put_here, put_other}
use Rattle.vbr_slots.specs.views.Views.{Did, PassView, Trace, knows}
use Rattle.vbr_at_table.specs.hands.KeptSlots.{HasSlot, KeepsSlots}
use Rattle.vbr_at_table.specs.declared.aside.Aside.{Aside}
use Rattle.vbr_set.specs.whereabouts.HeldRoom.{HeldSlotsComeBack}
use Rattle.vbr_set.specs.members.LettingGo.{LetsGo}
use Rattle.vbr_set.specs.calls.Members.{MemberView}
use Rattle.vbr_set.specs.calls.RecordCalls.{TakesAside, slot_aside}
use Rattle.vbr_set.specs.whereabouts.Room.{HasAllSlots, HasAllWith}
use Rattle.vbr_set.proofs.whereabouts.HavingSlots.{all_kept}

may_or_not : (h : Option Holding) → MayBear h ⊎ (¬ (MayBear h))
may_or_not (Some (Free stamp)) = inl tt
may_or_not (Some (InHand known)) = inl tt
may_or_not _ = inr (λ m. m)

same_some : {s t : ℕ} → Some s ≡ Some t → s ≡ t
same_some e = cc

held : (m n : MemberView) (budget slot : ℕ) → HasAllSlots m.pass → TakesAside m n budget (Ok slot) →
    HasAllWith n.aside n.pass
held m n budget slot all x =
    let has = all_kept m.pass x.back x.takes.kept all in
    let same = x.ends.keeps.trace in
    record {
      free = λ s may. placed s (has.free s (subst (λ (t : Trace). MayBear ((knows t).own s)) same may));
      stamped = λ s u. has.stamped s (subst (λ (t : Trace). IsUnlinked ((knows t).own s)) same u);
    }
  where
    placed : (s : ℕ) → HasSlot x.back s → HasSlot n.pass s ⊎ (slot_aside n.aside ≡ Some s)
    placed s (inl c) = inl (inl (subst (λ (l : List ℕ). Contains l s) (sym x.ends.keeps.pool) c))
    placed s (inr h) = inr (ap slot_aside x.put ∙ sym x.holds.has.is.slot ∙ h)

kept : (aside : Option Aside) (p q : PassView) → HasAllWith aside p → KeepsSlots p q → HasAllWith aside q
kept aside p q all keeps = record {
  free = λ slot m.
      ⊎_elim (λ (may : MayBear ((knows p.trace).own slot)).
      ⊎_elim (λ has. inl (keeps.free slot (m, λ before. has))) (λ is. inr is) (all.free slot may))
      (λ (not : ¬ (MayBear ((knows p.trace).own slot))). inl (keeps.free slot (m, λ before. absurd (not before))))
      (may_or_not ((knows p.trace).own slot));
  stamped = λ slot u. all.stamped slot (keeps.stamped slot u);
}

-- in the own pool
back_pooled : (aside : Aside) (p q : PassView) → p.hand ≡ None → HasAllWith (Some aside) p → q.trace ≡ p.trace →
    q.pool ≡ p.pool ++ aside.slot ∷ [] → HasAllSlots q
back_pooled aside p q empty all same pool = record {
  free = λ s m. placed s (all.free s (subst (λ (t : Trace). MayBear ((knows t).own s)) same m));
  stamped = λ s u. all.stamped s (subst (λ (t : Trace). IsUnlinked ((knows t).own s)) same u);
}
  where
    placed : (s : ℕ) → HasSlot p s ⊎ (slot_aside (Some aside) ≡ Some s) → HasSlot q s
    placed s (inl (inl c)) =
        inl (subst (λ (l : List ℕ). Contains l s) (sym pool) (Contains-append_left p.pool (aside.slot ∷ []) s c))
    placed s (inl (inr h)) = absurd (cc)
    placed s (inr is) =
        inl (subst (λ (l : List ℕ). Contains l s) (sym pool)
        (Contains-append_right p.pool (aside.slot ∷ []) s (0, omega arith, same_some is)))

-- or in the shared one
back_shared : (aside : Aside) (p q : PassView) (found : ℕ) → p.hand ≡ None → HasAllWith (Some aside) p →
    Did (Raise aside.slot) p.trace q.trace found → q.pool ≡ p.pool → HasAllSlots q
back_shared aside p q found empty all d pool = record {
  free = λ s m.
      ⊎_elim (λ (is : s ≡ aside.slot). absurd (subst MayBear (gone s is) m))
      (λ (other : s ≢ aside.slot). placed s other (all.free s (subst MayBear (stays s other) m)))
      (cases_eq s aside.slot);
  stamped = λ s u.
      ⊎_elim (λ (is : s ≡ aside.slot). absurd (subst IsUnlinked (gone s is) u))
      (λ (other : s ≢ aside.slot). all.stamped s (subst IsUnlinked (stays s other) u)) (cases_eq s aside.slot);
}
  where
    gone : (s : ℕ) → s ≡ aside.slot → (knows q.trace).own s ≡ None
    gone s is = ap (λ (k : Know). k.own s) d.know ∙ ap (put (knows p.trace).own aside.slot None) is
        ∙ put_here (knows p.trace).own aside.slot None

    stays : (s : ℕ) → s ≢ aside.slot → (knows q.trace).own s ≡ (knows p.trace).own s
    stays s other = ap (λ (k : Know). k.own s) d.know ∙ put_other (knows p.trace).own aside.slot None s other

    placed : (s : ℕ) → s ≢ aside.slot → HasSlot p s ⊎ (slot_aside (Some aside) ≡ Some s) → HasSlot q s
    placed s other (inl (inl c)) = inl (subst (λ (l : List ℕ). Contains l s) (sym pool) c)
    placed s other (inl (inr h)) = absurd (cc)
    placed s other (inr is) = absurd (other (sym (same_some is)))

let_go : (aside : Option Aside) (p q : PassView) → p.hand ≡ None → HasAllWith aside p → LetsGo aside p q →
    HasAllSlots q
let_go None p q empty all same =
    subst HasAllSlots (sym same)
    (record {
      free = λ s m. ⊎_elim (λ has. has) (λ is. absurd (cc)) (all.free s m);
      stamped = all.stamped;
    })
let_go (Some aside) p q empty all x =
    ⊎_elim (λ back. back_pooled aside p q empty all back.0 back.1)
    (λ raised. back_shared aside p q raised.1.0 empty all raised.1.1 raised.2) x.0

pub come_back : HeldSlotsComeBack
come_back = record { held = held; kept = kept; let_go = let_go }
