-- Each slot is somewhere, by its place and by what has become of its last incarnation, and nowhere else.
use Rattle.std.proofs.Common.{◌≡◌, ℕ, true, List, Option, Some, None, refl, arith, sym, subst, ap, ◌∙◌, inl, inr}
use Rattle.std.specs.Prelude.{◌⊎◌}
use Rattle.std.proofs.lemmas.Bool.{false≢true}
use Rattle.vbr_machine.specs.Start.{Start}
use Rattle.vbr_machine.specs.Accounts.{incarnations_after}
use Rattle.vbr_machine.specs.Agreement.{IsNotOf, OwnFits}
use Rattle.vbr_machine.specs.Chronicles.{IsDead, IsLastDead}
use Rattle.vbr_machine.specs.Incarnations.{State, Unborn, InHand, GivenUp, Linked, Marked, Unlinked, Stamped}
use Rattle.vbr_machine.specs.Incarnations.{Incarnations}
use Rattle.vbr_machine.specs.Machine.{World, is_shared}
use Rattle.vbr_machine.specs.Nodes.{is_linked, is_marked, state_in, state_shown}
use Rattle.vbr_machine.specs.Runs.{IsRun, know_after, world_after}
use Rattle.vbr_machine.specs.Safety.{IsSafe}
use Rattle.vbr_machine.specs.AgreedPlaces.{WasUnlinkedBy, LiesInHand, IsOfList, FitsPlace}
use Rattle.vbr_machine.specs.Sound.{IsListed}
use Rattle.vbr_machine.specs.Whereabouts.{Whereabouts, InSharedPool, WithPass, InSet, MarkedInList, Unstamped, may_bear}
use Rattle.vbr_machine.specs.Whereabouts.{is_unstamped, is_at, IsOfPasses, IsSomewhere}
use Rattle.vbr_machine.specs.declared.event.Event.{Event}
use Rattle.vbr_machine.specs.declared.knowledge.Holding.{Holding}
use Rattle.vbr_machine.specs.declared.knowledge.Holding.TheVariants as holding
use Rattle.vbr_machine.specs.declared.knowledge.SlotPlace.{SlotPlace}
use Rattle.vbr_machine.specs.declared.knowledge.SlotPlace.TheVariants.{Shared, Own, Hand, Listed}

-- ---- by place and state

-- where a slot is that has this place, and whose last incarnation is in this state
abbrev where_is : SlotPlace → State → Whereabouts
where_is Shared st = InSharedPool
where_is (Own p) (Unlinked q unlinked) = Unstamped p
where_is (Own p) st = WithPass p
where_is (Hand p) st = WithPass p
where_is (Listed b) Marked = MarkedInList
where_is (Listed b) st = InSet

-- a dead slot of a pass is with it
dead_with : (p : ℕ) (st : State) → IsDead st → where_is (Own p) st ≡ WithPass p
dead_with p (Stamped u r) i = refl
dead_with p Unborn i = absurd i
dead_with p (InHand q) i = absurd i
dead_with p GivenUp i = refl
dead_with p Linked i = absurd i
dead_with p Marked i = absurd i
dead_with p (Unlinked q u) i = absurd i

dead_own : (a : Incarnations) (p : ℕ) (last : Option ℕ) → IsLastDead a last →
    where_is (Own p) (state_shown a last) ≡ WithPass p
dead_own a p None r = refl
dead_own a p (Some c) r = dead_with p (a.state c) r

-- a slot that a pass may give birth in is with it
bears_with : (a : Incarnations) (p e : ℕ) (known : Option Holding) (place : SlotPlace) (last : Option ℕ) (stamp : ℕ) →
    OwnFits a p e known place last stamp → may_bear known ≡ true → where_is place (state_shown a last) ≡ WithPass p
bears_with a p e None place last stamp o m = absurd (false≢true m)
bears_with a p e (Some (holding.Unlinked reread)) place last stamp o m = absurd (false≢true m)
bears_with a p e (Some (holding.Free n)) place last stamp o m =
    ap (λ l. where_is l (state_shown a last)) o.0 ∙ dead_own a p last o.1
bears_with a p e (Some (holding.InHand known)) place last stamp o m = ap (λ l. where_is l (state_shown a last)) o.0

-- one that it unlinked and has not stamped is so
unlinked_from : (a : Incarnations) (p e : ℕ) (known : Option Holding) (place : SlotPlace) (last : Option ℕ)
    (stamp : ℕ) → OwnFits a p e known place last stamp → is_unstamped known ≡ true →
    (unlinked : ℕ) × (state_shown a last ≡ Unlinked p unlinked)
unlinked_from a p e None place last stamp o m = absurd (false≢true m)
unlinked_from a p e (Some (holding.Free n)) place last stamp o m = absurd (false≢true m)
unlinked_from a p e (Some (holding.InHand known)) place last stamp o m = absurd (false≢true m)
unlinked_from a p e (Some (holding.Unlinked reread)) place last stamp o m =
    let x = o.1 in (x.unlinked, ap (state_shown a) x.last_is ∙ x.state)

unstamped_by : (a : Incarnations) (p e : ℕ) (known : Option Holding) (place : SlotPlace) (last : Option ℕ) (stamp : ℕ) →
    OwnFits a p e known place last stamp → is_unstamped known ≡ true → where_is place (state_shown a last) ≡ Unstamped p
unstamped_by a p e None place last stamp o m = absurd (false≢true m)
unstamped_by a p e (Some (holding.Free n)) place last stamp o m = absurd (false≢true m)
unstamped_by a p e (Some (holding.InHand known)) place last stamp o m = absurd (false≢true m)
unstamped_by a p e (Some (holding.Unlinked reread)) place last stamp o m =
    let st = (unlinked_from a p e (Some (holding.Unlinked reread)) place last stamp o m).1 in
    (λ i. where_is (o.0 i) (st i))

shared_in : (place : SlotPlace) (st : State) → is_shared place ≡ true → where_is place st ≡ InSharedPool
shared_in Shared st e = refl
shared_in _ st e = absurd (false≢true e)

-- what is dead is in no list
dead_unlisted : (st : State) → IsDead st → IsListed st → ⊥
dead_unlisted st r l = grind arith

-- a slot whose last incarnation is linked or marked is in a list
listed_only : (start : Start) (passes : ℕ) (w : World) (a : Incarnations) (s : ℕ) (place : SlotPlace) →
    FitsPlace start passes w a s place → IsListed (state_in a s) → (b : ℕ) × (place ≡ Listed b)
listed_only start passes w a s (Listed b) f l = (b, refl)
listed_only start passes w a s Shared f l = absurd (go (a.last s) f l)
  where
    go : (last : Option ℕ) → IsLastDead a last → IsListed (state_shown a last) → ⊥
    go None r l = l
    go (Some c) r l = dead_unlisted (a.state c) r l
listed_only start passes w a s (Own p) f l = absurd (go (a.last s) f.1 l)
  where
    go : (last : Option ℕ) → (IsLastDead a last ⊎ WasUnlinkedBy a p last) → IsListed (state_shown a last) → ⊥
    go None r l = l
    go (Some c) (inl r) l = dead_unlisted (a.state c) r l
    go (Some c) (inr u) l = rw u.1 at l
listed_only start passes w a s (Hand p) f l = absurd (go (a.last s) f.1 l)
  where
    go : (last : Option ℕ) → LiesInHand a p last → IsListed (state_shown a last) → ⊥
    go None r l = r
    go (Some c) r l = rw r at l

linked_in : (b : ℕ) (st : State) → is_linked st ≡ true → IsListed st × (where_is (Listed b) st ≡ InSet)
linked_in b Linked e = (tt, refl)
linked_in b _ e = absurd (false≢true e)

marked_in : (b : ℕ) (st : State) → is_marked st ≡ true → IsListed st × (where_is (Listed b) st ≡ MarkedInList)
marked_in b Marked e = (tt, refl)
marked_in b _ e = absurd (false≢true e)

-- the pass of a slot is one of so many
low_in : (start : Start) (passes : ℕ) (w : World) (a : Incarnations) (s : ℕ) (place : SlotPlace) (st : State) →
    FitsPlace start passes w a s place → IsOfPasses passes (where_is place st)
low_in start passes w a s Shared st f = tt
low_in start passes w a s (Own p) (Unlinked q u) f = f.0
low_in start passes w a s (Own p) Unborn f = f.0
low_in start passes w a s (Own p) (InHand q) f = f.0
low_in start passes w a s (Own p) GivenUp f = f.0
low_in start passes w a s (Own p) Linked f = f.0
low_in start passes w a s (Own p) Marked f = f.0
low_in start passes w a s (Own p) (Stamped u r) f = f.0
low_in start passes w a s (Hand p) st f = f.0
low_in start passes w a s (Listed b) Unborn f = tt
low_in start passes w a s (Listed b) (InHand q) f = tt
low_in start passes w a s (Listed b) GivenUp f = tt
low_in start passes w a s (Listed b) Linked f = tt
low_in start passes w a s (Listed b) Marked f = tt
low_in start passes w a s (Listed b) (Unlinked q u) f = tt
low_in start passes w a s (Listed b) (Stamped u r) f = tt

-- ---- along a safe run

module _ (start : Start) (passes : ℕ) (run : List Event) (safe : IsSafe start run) (ok : IsRun start passes run) where
  abbrev w : World
  w = world_after start run

  abbrev a : Incarnations
  a = incarnations_after start run

  -- where a slot is
  abbrev here : ℕ → Whereabouts
  here s = where_is (w.place s) (state_in a s)

  fits : (s : ℕ) → FitsPlace start passes w a s (w.place s)
  fits s = (safe.slots passes ok).each s

  knows : (p s : ℕ) →
      OwnFits a p (know_after start run p).epoch ((know_after start run p).own s) (w.place s) (a.last s) (a.stamp s)
  knows p s =
      let P : SlotPlace → Type 0 =
      λ l. OwnFits a p (know_after start run p).epoch ((know_after start run p).own s) l (a.last s) (a.stamp s) in
      subst P (sym (safe.image.place s)) ((safe.knows p).last s)

  listed_here : (s : ℕ) → (whereabouts : Whereabouts) → IsListed (state_in a s) →
      ((b : ℕ) → where_is (Listed b) (state_in a s) ≡ whereabouts) → here s ≡ whereabouts
  listed_here s whereabouts l e =
      let x = listed_only start passes w a s (w.place s) (fits s) l in
      ap (λ (p : SlotPlace). where_is p (state_in a s)) x.1 ∙ e x.0

  -- a slot is nowhere else
  nowhere_else : (s : ℕ) (other : Whereabouts) → is_at start run other s ≡ true → here s ≡ other
  nowhere_else s InSharedPool e = shared_in (w.place s) (state_in a s) e
  nowhere_else s (WithPass p) e =
      bears_with a p _ ((know_after start run p).own s) (w.place s) (a.last s) (a.stamp s) (knows p s) e
  nowhere_else s (Unstamped p) e =
      unstamped_by a p _ ((know_after start run p).own s) (w.place s) (a.last s) (a.stamp s) (knows p s) e
  nowhere_else s InSet e = listed_here s InSet (linked_in 0 (state_in a s) e).0 (λ b. (linked_in b (state_in a s) e).1)
  nowhere_else s MarkedInList e =
      listed_here s MarkedInList (marked_in 0 (state_in a s) e).0 (λ b. (marked_in b (state_in a s) e).1)

  -- it is there if it is there by any name
  by_name : (s : ℕ) (other : Whereabouts) → is_at start run other s ≡ true → is_at start run (here s) s ≡ true
  by_name s other e =
      let P : Whereabouts → Type 0 = λ v. is_at start run v s ≡ true in subst P (sym (nowhere_else s other e)) e

  of_pass : (p s : ℕ) (known : Option Holding) → (know_after start run p).own s ≡ known → (IsNotOf p (w.place s) → ⊥) →
      is_at start run (here s) s ≡ true
  of_pass p s None k of = absurd (of (rw k at (knows p s)))
  of_pass p s (Some (holding.Free n)) k of = by_name s (WithPass p) (ap may_bear k)
  of_pass p s (Some (holding.InHand known)) k of = by_name s (WithPass p) (ap may_bear k)
  of_pass p s (Some (holding.Unlinked reread)) k of = by_name s (Unstamped p) (ap is_unstamped k)

  of_list : (b s : ℕ) (last : Option ℕ) → a.last s ≡ last → IsOfList start a b last → is_at start run (here s) s ≡ true
  of_list b s None e l = absurd l
  of_list b s (Some c) e l = go (a.state c) refl l.0
    where
      go : (st : State) → a.state c ≡ st → IsListed st → is_at start run (here s) s ≡ true
      go Linked is i = by_name s InSet (ap (λ (v : Option ℕ). is_linked (state_shown a v)) e ∙ ap is_linked is)
      go Marked is i = by_name s MarkedInList (ap (λ (v : Option ℕ). is_marked (state_shown a v)) e ∙ ap is_marked is)
      go Unborn is i = absurd i
      go (InHand q) is i = absurd i
      go GivenUp is i = absurd i
      go (Unlinked q u) is i = absurd i
      go (Stamped u r) is i = absurd i

  is_here : (s : ℕ) (place : SlotPlace) → w.place s ≡ place → is_at start run (here s) s ≡ true
  is_here s Shared e = by_name s InSharedPool (ap is_shared e)
  is_here s (Own p) e =
      of_pass p s ((know_after start run p).own s) refl (λ n. (let m : IsNotOf p (Own p) = rw e at n in m refl))
  is_here s (Hand p) e =
      of_pass p s ((know_after start run p).own s) refl (λ n. (let m : IsNotOf p (Hand p) = rw e at n in m refl))
  is_here s (Listed b) e =
      of_list b s (a.last s) refl (let f : FitsPlace start passes w a s (Listed b) = rw e at (fits s) in f.1)

  -- each slot is somewhere
  pub somewhere : (s : ℕ) → IsSomewhere start passes run s
  somewhere s = record {
    whereabouts = here s;
    low = low_in start passes w a s (w.place s) (state_in a s) (fits s);
    there = is_here s (w.place s) refl;
    only = λ other e. sym (nowhere_else s other e);
  }

  -- an unstamped slot is with the pass that unlinked what was born there last
  pub unlinked_by : (p s : ℕ) → is_at start run (Unstamped p) s ≡ true →
      (unlinked : ℕ) × (state_in a s ≡ Unlinked p unlinked)
  unlinked_by p s e =
      unlinked_from a p _ ((know_after start run p).own s) (w.place s) (a.last s) (a.stamp s) (knows p s) e

  not_dead : (p unlinked : ℕ) (last : Option ℕ) → state_shown a last ≡ Unlinked p unlinked → IsLastDead a last → ⊥
  not_dead p unlinked None u r = absurd (cc)
  not_dead p unlinked (Some c) u r = rw u at r

  unlinked_in : (p unlinked s : ℕ) (place : SlotPlace) (last : Option ℕ) → a.last s ≡ last →
      state_shown a last ≡ Unlinked p unlinked → FitsPlace start passes w a s place → place ≡ Own p
  unlinked_in p unlinked s Shared last e u f = absurd (not_dead p unlinked last u (rw e at f))
  unlinked_in p unlinked s (Own q) last e u f = go last u (rw e at f.1)
    where
      go : (l : Option ℕ) → state_shown a l ≡ Unlinked p unlinked → (IsLastDead a l ⊎ WasUnlinkedBy a q l) →
          Own q ≡ Own p
      go l u (inl r) = absurd (not_dead p unlinked l u r)
      go None u (inr x) = absurd x
      go (Some c) u (inr x) = let same : Unlinked q x.0 ≡ Unlinked p unlinked = sym x.1 ∙ u in cc
  unlinked_in p unlinked s (Hand q) last e u f = absurd (go last u (rw e at f.1))
    where
      go : (l : Option ℕ) → state_shown a l ≡ Unlinked p unlinked → LiesInHand a q l → ⊥
      go None u x = x
      go (Some c) u x = let same : InHand q ≡ Unlinked p unlinked = sym x ∙ u in absurd (cc)
  unlinked_in p unlinked s (Listed b) last e u f = absurd (go last u (rw e at f.1))
    where
      go : (l : Option ℕ) → state_shown a l ≡ Unlinked p unlinked → IsOfList start a b l → ⊥
      go None u x = x
      go (Some c) u x = let y : IsListed (Unlinked p unlinked) = rw u at x.0 in y

  pub unlinked_there : (p unlinked s : ℕ) → state_in a s ≡ Unlinked p unlinked → is_at start run (Unstamped p) s ≡ true
  unlinked_there p unlinked s u =
      subst P (λ i. where_is (unlinked_in p unlinked s (w.place s) (a.last s) refl u (fits s) i) (u i))
      (is_here s (w.place s) refl)
    where
      P : Whereabouts → Type 0
      P v = is_at start run v s ≡ true
