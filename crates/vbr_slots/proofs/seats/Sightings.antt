-- Somebody has seen all of the run, and so it stays when seats are opened, split and joined.
use Rattle.std.proofs.Common.{◌≡◌, ◌≢◌, ◌⊎◌, ℕ, zero, suc, List, [], ◌∷◌, ◌++◌, length, set, refl, sym, ap, ◌∙◌, subst}
use Rattle.std.proofs.Common.{⊎_elim, inl, inr}
use mathlib.Core.Logic.{dite}
use native.Mathlib.Decide.{ℕ_discrete}
use mathlib.Core.Option.{some, some-ne-none, some-injective}
use lib.ListN.{get_elem?}
use Rattle.atomic_table.proofs.Lists.{at_longer, at_last, set_else}
use Rattle.vbr_machine.specs.declared.event.Event.{Event}
use Rattle.vbr_slots.specs.declared.rule.Witness.{Witness}
use Rattle.vbr_slots.specs.runs.Rule.{HasSeen, IsSeen}

abbrev V : Type 0
V = List Witness

-- the seat that is set has what it was set to
pub set_at : (vs : List V) (i : ℕ) (a b : V) → get_elem? vs i ≡ some b → get_elem? (set vs i a) i ≡ some a
set_at [] i a b at_index = absurd (some-ne-none b (sym at_index))
set_at (v ∷ vs) zero a b at_index = refl
set_at (v ∷ vs) (suc i) a b at_index = set_at vs i a b at_index

left_seen : (run : List Event) (v w : V) → HasSeen run v → HasSeen run (v ++ w)
left_seen run [] w h = absurd h
left_seen run (m ∷ ms) w (inl e) = inl e
left_seen run (m ∷ ms) w (inr h) = inr (left_seen run ms w h)

right_seen : (run : List Event) (v w : V) → HasSeen run w → HasSeen run (v ++ w)
right_seen run [] w h = h
right_seen run (m ∷ ms) w h = inr (right_seen run ms w h)

pub seen_longer : (run : List Event) (vs : List V) (w : V) → IsSeen run vs → IsSeen run (vs ++ w ∷ [])
seen_longer run vs w x = (x.0, x.1, at_longer vs (w ∷ []) x.0 x.1 x.2, x.3)

pub seen_split : (run : List Event) (vs : List V) (id : ℕ) (v left right : V) →
    (HasSeen run v → HasSeen run left ⊎ HasSeen run right) → get_elem? vs id ≡ some v → IsSeen run vs →
    IsSeen run (set vs id left ++ right ∷ [])
seen_split run vs id v left right part at_index x = dite (ℕ_discrete x.0 id) here there
  where
    here : x.0 ≡ id → IsSeen run (set vs id left ++ right ∷ [])
    here is =
        let own : HasSeen run v =
        subst (HasSeen run) (some-injective x.1 v (sym x.2 ∙ ap (get_elem? vs) is ∙ at_index)) x.3 in
        ⊎_elim
        (λ (l : HasSeen run left).
        (id, left, at_longer (set vs id left) (right ∷ []) id left (set_at vs id left v at_index), l))
        (λ (r : HasSeen run right).
        (length (set vs id left), right, at_last (set vs id left) right (length (set vs id left)) refl, r))
        (part own)

    there : x.0 ≢ id → IsSeen run (set vs id left ++ right ∷ [])
    there apart = (x.0, x.1, at_longer (set vs id left) (right ∷ []) x.0 x.1 (set_else vs id x.0 left apart ∙ x.2), x.3)

pub seen_join : (run : List Event) (vs : List V) (id : ℕ) (v : V) (other : ℕ) (w : V) → get_elem? vs id ≡ some v →
    other ≢ id → get_elem? (set vs id (v ++ w)) other ≡ some w → IsSeen run vs →
    IsSeen run (set (set vs id (v ++ w)) other [])
seen_join run vs id v other w at_index two there x = dite (ℕ_discrete x.0 id) here elsewhere
  where
    joined : HasSeen run (v ++ w) → IsSeen run (set (set vs id (v ++ w)) other [])
    joined h = (
      id,
      v ++ w,
      set_else (set vs id (v ++ w)) other id [] (λ e. two (sym e)) ∙ set_at vs id (v ++ w) v at_index,
      h,
    )

    here : x.0 ≡ id → IsSeen run (set (set vs id (v ++ w)) other [])
    here is = joined
        (left_seen run v w (subst (HasSeen run) (some-injective x.1 v (sym x.2 ∙ ap (get_elem? vs) is ∙ at_index)) x.3))

    elsewhere : x.0 ≢ id → IsSeen run (set (set vs id (v ++ w)) other [])
    elsewhere apart = dite (ℕ_discrete x.0 other) spent stays
      where
        now : get_elem? (set vs id (v ++ w)) x.0 ≡ some x.1
        now = set_else vs id x.0 (v ++ w) apart ∙ x.2

        spent : x.0 ≡ other → IsSeen run (set (set vs id (v ++ w)) other [])
        spent is = joined
            (right_seen run v w
            (subst (HasSeen run) (some-injective x.1 w (sym now ∙ ap (get_elem? (set vs id (v ++ w))) is ∙ there)) x.3))

        stays : x.0 ≢ other → IsSeen run (set (set vs id (v ++ w)) other [])
        stays else = (x.0, x.1, set_else (set vs id (v ++ w)) other x.0 [] else ∙ now, x.3)
