-- A pass that has advanced the epoch in need has done so from any moment on.
use Rattle.std.proofs.Common.{◌≡◌, ◌≢◌, ℕ, List, [], ◌∷◌, ◌++◌, refl, sym, ap, ◌∙◌, subst, append_assoc, inl, inr}
use Rattle.std.specs.Prelude.{◌⊎◌}
use Rattle.std.proofs.lemmas.List.{append_cancel_left}
use Rattle.vbr_machine.specs.Start.{Start}
use Rattle.vbr_machine.specs.Needs.{AdvancesInNeed, NeedsAdvance}
use Rattle.vbr_machine.specs.Runs.{Begins, BeginsFor, NoneOf, know_after}
use Rattle.vbr_machine.specs.declared.event.Event.{Event}
use Rattle.vbr_machine.specs.declared.event.Step.TheVariants.{Advance}

-- ---- lists

first_same : (x y : Event) (xs ys : List Event) → x ∷ xs ≡ y ∷ ys → x ≡ y
first_same x y xs ys e = cc

rest_same : (x y : Event) (xs ys : List Event) → x ∷ xs ≡ y ∷ ys → xs ≡ ys
rest_same x y xs ys e = cc

-- an event stands in the first part of a list, behind so many, or in the second
abbrev pub IsIn : List Event → List Event → List Event → List Event → Event → Type 0
IsIn xs ys fs gs e = ((m : List Event) × (xs ≡ fs ++ e ∷ m)) ⊎ ((m : List Event) × (fs ≡ xs ++ m) × (ys ≡ m ++ e ∷ gs))

pub in_either : (xs ys fs gs : List Event) (e : Event) → xs ++ ys ≡ fs ++ e ∷ gs → IsIn xs ys fs gs e
in_either [] ys fs gs e h = inr (fs, refl, h)
in_either (x ∷ xs) ys [] gs e h = inl (xs, ap (λ (z : Event). z ∷ xs) (first_same x e (xs ++ ys) gs h))
in_either (x ∷ xs) ys (a ∷ fs) gs e h = go (in_either xs ys fs gs e (rest_same x a (xs ++ ys) (fs ++ e ∷ gs) h))
  where
    first : x ≡ a
    first = first_same x a (xs ++ ys) (fs ++ e ∷ gs) h

    go : IsIn xs ys fs gs e → IsIn (x ∷ xs) ys (a ∷ fs) gs e
    go (inl l) = inl (l.0, λ i. first i ∷ l.1 i)
    go (inr r) = inr (r.0, λ i. sym first i ∷ r.1 i, r.2)

none_at : (who : ℕ) (m gs : List Event) (e : Event) → NoneOf who (m ++ e ∷ gs) → e.pass ≢ who
none_at who [] gs e none = none.0
none_at who (x ∷ m) gs e none = none_at who m gs e none.1

-- ---- moments

-- a law: a pass did so from any moment on, as far as another has seen its steps
pub need_between : (start : Start) (first seen own run : List Event) (who : ℕ) → AdvancesInNeed start [] own who →
    BeginsFor who own run → Begins seen run → AdvancesInNeed start first seen who
need_between start first seen own run who need begins later before after from e =
    go (in_either own begins.0 (first ++ before) (after ++ later.0) step (sym begins.1 ∙ stands))
  where
    step : Event
    step = record { pass = who; step = Advance from }

    stands : run ≡ (first ++ before) ++ step ∷ (after ++ later.0)
    stands = later.1 ∙ ap (λ (l : List Event). l ++ later.0) e ∙ append_assoc (first ++ before) (step ∷ after) later.0

    go : IsIn own begins.0 (first ++ before) (after ++ later.0) step →
        NeedsAdvance (know_after start (first ++ before) who) from
    go (inl l) = need (first ++ before) l.0 from l.1
    go (inr r) =
        absurd (none_at who r.0 (after ++ later.0) step (subst (NoneOf who) r.2 begins.2) refl)

-- a pass that makes no step advances no epoch
pub need_still : (start : Start) (first seen : List Event) (who : ℕ) → BeginsFor who first seen →
    AdvancesInNeed start first seen who
need_still start first seen who begins before after from e =
    absurd (none_at who before after step (subst (NoneOf who) same begins.2) refl)
  where
    step : Event
    step = record { pass = who; step = Advance from }

    same : begins.0 ≡ before ++ step ∷ after
    same = append_cancel_left first begins.0 (before ++ step ∷ after)
        (sym begins.1 ∙ e ∙ append_assoc first before (step ∷ after))
