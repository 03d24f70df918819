-- A step keeps its pass unlinking in turn where each slot that it unlinked is stamped, or none is unlinked.
use Rattle.std.proofs.Common.{◌≡◌, ◌≢◌, ℕ, false, List, [], ◌∷◌, ◌++◌, Option, Some, None, refl, sym, ap, ◌∙◌, subst}
use Rattle.std.proofs.Common.{append-nil, inl, inr}
use Rattle.std.specs.Prelude.{◌⊎◌, Bool, true}
use Rattle.std.proofs.lemmas.Bool.{true≢false}
use Rattle.vbr_machine.specs.Start.{Start}
use Rattle.vbr_words.specs.declared.place.At.{At}
use Rattle.vbr_machine.specs.Acceptance.{IsUnlinked}
use Rattle.vbr_machine.specs.Knowledge.{Know}
use Rattle.vbr_machine.specs.Runs.{NoneOf}
use Rattle.vbr_machine.specs.Whereabouts.{Unstamped, UnlinksInTurn, is_at, is_unstamped, number_at}
use Rattle.vbr_machine.specs.declared.event.Event.{Event}
use Rattle.vbr_machine.specs.declared.event.Step.{Step}
use Rattle.vbr_machine.specs.declared.event.Step.TheVariants.{Unlink}
use Rattle.vbr_machine.specs.declared.knowledge.Holding.{Holding}
use Rattle.vbr_machine.specs.declared.knowledge.Holding.TheVariants.{Free, Unlinked, InHand}
use Rattle.vbr_machine.proofs.Lemmas.{count_none, others_leave_know}
use Rattle.vbr_slots.specs.views.Views.{Trace, Did, event_of, knows}
use Rattle.vbr_at_table.specs.hands.KeptSlots.{GoesInTurn, HasStampedAll, StaysInTurn}

-- whether a step may unlink a slot
abbrev pub is_unlink : Step → Bool
is_unlink (Unlink pred expected s) = true
is_unlink _ = false

-- ---- lists

first_same : (x y : Event) (xs ys : List Event) → x ∷ xs ≡ y ∷ ys → x ≡ y
first_same x y xs ys e = cc

rest_same : (x y : Event) (xs ys : List Event) → x ∷ xs ≡ y ∷ ys → xs ≡ ys
rest_same x y xs ys e = cc

-- an event stands in the first part of a list, behind so many, or in the second
abbrev IsIn : List Event → List Event → List Event → List Event → Event → Type 0
IsIn xs ys fs gs e = ((m : List Event) × (xs ≡ fs ++ e ∷ m)) ⊎ ((m : List Event) × (fs ≡ xs ++ m) × (ys ≡ m ++ e ∷ gs))

in_either : (xs ys fs gs : List Event) (e : Event) → xs ++ ys ≡ fs ++ e ∷ gs → IsIn xs ys fs gs e
in_either [] ys fs gs e h = inr (fs, refl, h)
in_either (x ∷ xs) ys [] gs e h = inl (xs, ap (λ (z : Event). z ∷ xs) (first_same x e (xs ++ ys) gs h))
in_either (x ∷ xs) ys (a ∷ fs) gs e h = go (in_either xs ys fs gs e (rest_same x a (xs ++ ys) (fs ++ e ∷ gs) h))
  where
    first : x ≡ a
    first = first_same x a (xs ++ ys) (fs ++ e ∷ gs) h

    go : IsIn xs ys fs gs e → IsIn (x ∷ xs) ys (a ∷ fs) gs e
    go (inl l) = inl (l.0, λ i. first i ∷ l.1 i)
    go (inr r) = inr (r.0, λ i. sym first i ∷ r.1 i, r.2)

none_at : (who : ℕ) (m gs : List Event) (e : Event) → NoneOf who (m ++ e ∷ gs) → e.pass ≢ who
none_at who [] gs e none = none.0
none_at who (x ∷ m) gs e none = none_at who m gs e none.1

-- ---- one event more

abbrev unlinking : ℕ → At → ℕ → ℕ → Event
unlinking who pred expected s = event_of who (Unlink pred expected s)

-- what others do
pub turn_others : (start : Start) (run rest : List Event) (who : ℕ) → NoneOf who rest → UnlinksInTurn start run who →
    UnlinksInTurn start (run ++ rest) who
turn_others start run rest who none turn before later pred expected s h =
    go (in_either run rest before later (unlinking who pred expected s) h)
  where
    go : IsIn run rest before later (unlinking who pred expected s) → number_at start before (Unstamped who) ≡ 0
    go (inl l) = turn before l.0 pred expected s l.1
    go (inr r) = absurd (none_at who r.0 later (unlinking who pred expected s) (subst (NoneOf who) r.2 none) refl)

-- what the pass does
turn_more : (start : Start) (run : List Event) (who : ℕ) (step : Step) →
    ((pred : At) (expected s : ℕ) → step ≡ Unlink pred expected s → number_at start run (Unstamped who) ≡ 0) →
    UnlinksInTurn start run who → UnlinksInTurn start (run ++ event_of who step ∷ []) who
turn_more start run who step none turn before later pred expected s h =
    go (in_either run (event_of who step ∷ []) before later (unlinking who pred expected s) h)
  where
    last : (m : List Event) → before ≡ run ++ m → event_of who step ∷ [] ≡ m ++ unlinking who pred expected s ∷ later →
        number_at start before (Unstamped who) ≡ 0
    last [] stands e =
        let is : event_of who step ≡ unlinking who pred expected s = first_same _ _ [] later e in
        let P : List Event → Type 0 = λ r. number_at start r (Unstamped who) ≡ 0 in
        subst P (sym (stands ∙ append-nil run)) (none pred expected s (ap (λ (v : Event). v.step) is))
    last (x ∷ m) stands e = absurd (empty m (rest_same _ _ [] (m ++ unlinking who pred expected s ∷ later) e))
      where
        empty : (m : List Event) → [] ≡ m ++ unlinking who pred expected s ∷ later → ⊥
        empty [] e = absurd (cc)
        empty (y ∷ m) e = absurd (cc)

    go : IsIn run (event_of who step ∷ []) before later (unlinking who pred expected s) →
        number_at start before (Unstamped who) ≡ 0
    go (inl l) = turn before l.0 pred expected s l.1
    go (inr r) = last r.0 r.1 r.2

-- ---- a step of a pass

not_unstamped : (known : Option Holding) → ¬ (IsUnlinked known) → is_unstamped known ≡ false
not_unstamped None n = refl
not_unstamped (Some (Free stamp)) n = refl
not_unstamped (Some (Unlinked seen)) n = absurd (n tt)
not_unstamped (Some (InHand known)) n = refl

none_unstamped : (p : Trace) (rest : List Event) → NoneOf p.who rest → HasStampedAll p →
    number_at p.start (p.seen ++ rest) (Unstamped p.who) ≡ 0
none_unstamped p rest none all =
    count_none (is_at p.start (p.seen ++ rest) (Unstamped p.who)) p.start.shape.slots
    (λ s low. ap (λ (k : Know). is_unstamped (k.own s)) (others_leave_know p.start p.seen rest p.who none)
    ∙ not_unstamped ((knows p).own s) (all s))

module _ {step : Step} {p q : Trace} {r : ℕ} (d : Did step p q r) where
  seen_turn : UnlinksInTurn p.start ((p.seen ++ d.rest) ++ event_of p.who step ∷ []) p.who →
      UnlinksInTurn q.start q.seen q.who
  seen_turn turn = subst P (λ i. (sym d.same.1 i, sym d.seen i, sym d.same.3 i)) turn
    where
      P : Start × List Event × ℕ → Type 0
      P x = UnlinksInTurn x.0 x.1 x.2

  -- each step, where the pass has stamped what it unlinked
  pub did_turn : GoesInTurn p q
  did_turn all turn =
      seen_turn (turn_more p.start (p.seen ++ d.rest) p.who step
      (λ pred expected s e. none_unstamped p d.rest d.none all) (turn_others p.start p.seen d.rest p.who d.none turn))

  -- a step that unlinks none
  pub did_stay_turn : is_unlink step ≡ false → StaysInTurn p q
  did_stay_turn other turn =
      seen_turn (turn_more p.start (p.seen ++ d.rest) p.who step
      (λ pred expected s e. absurd (true≢false (sym (ap is_unlink e) ∙ other)))
      (turn_others p.start p.seen d.rest p.who d.none turn))
