-- A slot that is outside the shared pool stays outside while no flag is raised.
use Rattle.std.proofs.Common.{◌≡◌, ◌≢◌, ℕ, zero, suc, ◌<◌, ◌==◌, Bool, true, false, List, [], ◌∷◌, ◌++◌, refl, arith}
use Rattle.std.proofs.Common.{sym, subst, ap, ◌∙◌, inl, inr, ⊎_elim, append_assoc, append-nil}
use Rattle.std.specs.Prelude.{◌⊎◌, if◌then◌else◌}
use Rattle.std.proofs.lemmas.Bool.{cases_eq}
use Rattle.vbr_machine.specs.Start.{Start}
use Rattle.vbr_words.specs.Flags.{has_flag}
use Rattle.vbr_machine.specs.Put.{put}
use Rattle.vbr_machine.specs.Machine.{World, after, found, is_shared}
use Rattle.vbr_machine.specs.Nodes.{count_below}
use Rattle.vbr_machine.specs.Runs.{world_after}
use Rattle.vbr_machine.specs.Whereabouts.{InSharedPool, number_at}
use Rattle.vbr_machine.specs.declared.event.Event.{Event}
use Rattle.vbr_machine.specs.declared.event.Step.{Step}
use Rattle.vbr_machine.specs.declared.event.Step.TheVariants.{ReadEpoch, Advance, LoadStamp, PeekBirth, StoreStamp}
use Rattle.vbr_machine.specs.declared.event.Step.TheVariants.{Raise}
use Rattle.vbr_machine.specs.declared.event.Step.TheVariants.{TakeFlag, StoreBirth, StoreKey, StoreLink, LoadLink}
use Rattle.vbr_machine.specs.declared.event.Step.TheVariants.{LoadBirth, LoadKey, Publish, Mark, Replace, Unlink}
use Rattle.vbr_machine.specs.declared.event.Step.TheVariants.{ConfirmPresent, ConfirmAbsent, StoreValue, LoadValue}
use Rattle.vbr_machine.specs.declared.knowledge.SlotPlace.{SlotPlace}
use Rattle.vbr_machine.specs.declared.knowledge.SlotPlace.TheVariants.{Shared, Own, Hand, Listed}
use Rattle.vbr_machine.proofs.words.Puts.{put_here, put_other}
use Rattle.vbr_machine.proofs.runs.RunsGoOn.{world_after-snoc}

-- a step that raises a flag
abbrev pub IsRaise : Step → Type 0
IsRaise (Raise s) = Unit {0}
IsRaise _ = ⊥

-- no event raises one
abbrev pub NoneRaises : List Event → Type 0
NoneRaises [] = Unit {0}
NoneRaises (event ∷ events) = (IsRaise event.step → ⊥) × NoneRaises events

by_test : {Q : Type 0} (b : Bool) (v w : World) (s : ℕ) → (v.place s ≡ Shared → Q) → (w.place s ≡ Shared → Q) →
    (if b then v else w).place s ≡ Shared → Q
by_test true v w s f g e = f e
by_test false v w s f g e = g e

put_in : (place : ℕ → SlotPlace) (t : ℕ) (new : SlotPlace) (s : ℕ) → new ≢ Shared → put place t new s ≡ Shared →
    place s ≡ Shared
put_in place t new s ne e =
    ⊎_elim (λ (is : s ≡ t). absurd (ne (sym (ap (put place t new) is ∙ put_here place t new) ∙ e)))
    (λ (other : s ≢ t). sym (put_other place t new s other) ∙ e) (cases_eq s t)

-- a slot that is in the shared pool after a step was there before, or a flag was raised
was_or_raised : (start : Start) (w : World) (p : ℕ) (step : Step) (s : ℕ) → (after start w p step).place s ≡ Shared →
    (w.place s ≡ Shared) ⊎ IsRaise step
was_or_raised start w p ReadEpoch s e = inl e
was_or_raised start w p (Advance from) s e =
    inl (by_test (found start w (Advance from) == from) _ w s (λ x. x) (λ x. x) e)
was_or_raised start w p (LoadStamp t) s e = inl e
was_or_raised start w p (PeekBirth t) s e = inl e
was_or_raised start w p (StoreStamp t stamp) s e = inl e
was_or_raised start w p (Raise t) s e = inr tt
was_or_raised start w p (TakeFlag t) s e =
    inl (by_test (has_flag (found start w (TakeFlag t)) t) _ w s (put_in w.place t (Own p) s (λ x. cc)) (λ x. x) e)
was_or_raised start w p (StoreBirth t birth) s e = inl (put_in w.place t (Hand p) s (λ x. cc) e)
was_or_raised start w p (StoreKey t key) s e = inl e
was_or_raised start w p (StoreValue t value) s e = inl e
was_or_raised start w p (StoreLink t next) s e = inl e
was_or_raised start w p (LoadLink place) s e = inl e
was_or_raised start w p (LoadBirth t) s e = inl e
was_or_raised start w p (LoadKey t) s e = inl e
was_or_raised start w p (LoadValue t) s e = inl e
was_or_raised start w p (Publish pred expected t) s e =
    inl (by_test (found start w (Publish pred expected t) == expected) _ w s (put_in w.place t _ s (λ x. cc)) (λ x. x)
    e)
was_or_raised start w p (Mark t expected) s e =
    inl (by_test (found start w (Mark t expected) == expected) _ w s (λ x. x) (λ x. x) e)
was_or_raised start w p (Replace v expected t) s e =
    inl (by_test (found start w (Replace v expected t) == expected) _ w s (put_in w.place t _ s (λ x. cc)) (λ x. x) e)
was_or_raised start w p (Unlink pred expected t) s e =
    inl (by_test (found start w (Unlink pred expected t) == expected) _ w s (put_in w.place t (Own p) s (λ x. cc))
    (λ x. x) e)
was_or_raised start w p (ConfirmPresent op t expected) s e =
    inl (by_test (found start w (ConfirmPresent op t expected) == expected) _ w s (λ x. x) (λ x. x) e)
was_or_raised start w p (ConfirmAbsent op key place expected) s e =
    inl (by_test (found start w (ConfirmAbsent op key place expected) == expected) _ w s (λ x. x) (λ x. x) e)

-- what was outside stays outside while no flag is raised
pub stays_outside : (start : Start) (moment rest : List Event) (s : ℕ) → NoneRaises rest →
    (world_after start moment).place s ≢ Shared → (world_after start (moment ++ rest)).place s ≢ Shared
stays_outside start moment [] s none out =
    let P : List Event → Type 0 = λ r. (world_after start r).place s ≢ Shared in subst P (sym (append-nil moment)) out
stays_outside start moment (event ∷ rest) s none out =
    let P : List Event → Type 0 = λ r. (world_after start r).place s ≢ Shared in
    let next : P (moment ++ event ∷ []) =
    (λ e. ⊎_elim out none.0
    (was_or_raised start (world_after start moment) event.pass event.step s
    (sym (ap (λ (v : World). v.place s) (world_after-snoc start moment event)) ∙ e))) in
    subst P (append_assoc moment (event ∷ []) rest) (stays_outside start (moment ++ event ∷ []) rest s none.1 next)

-- ---- counts

-- what passes nowhere below a number is counted 0 times below it
pub count_none : (test : ℕ → Bool) (n : ℕ) → ((s : ℕ) → s < n → test s ≡ false) → count_below test n ≡ 0
count_none test zero none = refl
count_none test (suc n) none =
    let before = count_none test n (λ s low. none s (omega arith)) in rw (none n (omega arith)) before

not_shared : (place : SlotPlace) → place ≢ Shared → is_shared place ≡ false
not_shared Shared ne = absurd (ne refl)
not_shared (Own p) ne = refl
not_shared (Hand p) ne = refl
not_shared (Listed b) ne = refl

-- where each slot is outside the shared pool, none is in it
pub none_shared : (start : Start) (run : List Event) →
    ((s : ℕ) → s < start.shape.slots → (world_after start run).place s ≢ Shared) → number_at start run InSharedPool ≡ 0
none_shared start run out =
    count_none _ start.shape.slots (λ s low. not_shared ((world_after start run).place s) (out s low))
