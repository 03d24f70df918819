-- The incarnation in hand that a pass publishes, or puts in the place of another, is an entry then.
use Rattle.std.proofs.Common.{◌≡◌, ℕ, Bool, true, List, [], ◌∷◌, ◌++◌, Option, Some, None, refl, sym, subst, ap, ◌∙◌}
use Rattle.std.proofs.Common.{eq-eqb}
use Rattle.std.specs.Prelude.{◌==◌, if◌then◌else◌}
use Rattle.vbr_words.specs.declared.place.At.{At}
use Rattle.vbr_machine.specs.Start.{Start, IsStart}
use Rattle.vbr_machine.specs.Put.{put}
use Rattle.vbr_machine.specs.Opened.{has_opening_key, key_number, opening_birth}
use Rattle.vbr_machine.specs.Machine.{found}
use Rattle.vbr_machine.specs.Records.{IsEntry}
use Rattle.vbr_machine.specs.Runs.{IsRun, know_after, world_after}
use Rattle.vbr_machine.specs.Incarnations.{Linked, Marked, Unborn, Incarnations, last_in}
use Rattle.vbr_machine.specs.Chronicles.{Happening, Inserts, Replaces, becomes, incarnations_from}
use Rattle.vbr_machine.specs.Notes.{before_at}
use Rattle.vbr_machine.specs.Accounts.{happens, incarnations_after, just}
use Rattle.vbr_machine.specs.Agreement.{IsInHandOf, IsStored, OwnFits}
use Rattle.vbr_machine.specs.declared.event.Event.{Event}
use Rattle.vbr_machine.specs.declared.event.Step.{Step}
use Rattle.vbr_machine.specs.declared.event.Step.TheVariants.{Publish, Replace}
use Rattle.vbr_machine.specs.declared.knowledge.Holding.{Holding}
use Rattle.vbr_machine.specs.declared.knowledge.Holding.TheVariants.{InHand}
use Rattle.vbr_machine.specs.declared.knowledge.Unpublished.{Unpublished}
use Rattle.vbr_machine.proofs.words.Puts.{put_here}
use Rattle.vbr_machine.proofs.runs.EveryRun.{incarnations_after-snoc, run_agrees}
use Rattle.vbr_machine.proofs.runs.RunsGoOn.{is_run_before}

-- what happens by an exchange that finds its word
if_found : {A : Type 0} (n expected : ℕ) (x y : A) → n ≡ expected → (if n == expected then x else y) ≡ x
if_found n expected x y e = let t : (n == expected) ≡ true = eq-eqb n expected e in rw t refl

-- the stored key is the one that the pass knows
stored_key : {A : Type 0} (stored : Bool) (value key : A) (known : Option A) → IsStored stored value known →
    known ≡ Some key → value ≡ key
stored_key {A} stored value key known is e =
    let P : Option A → Type 0 = IsStored stored value in (subst P e is).1

module _ (start : Start) (passes : ℕ) (run : List Event) (pass : ℕ) (step : Step) (s key : ℕ) (known : Unpublished)
    (is : IsStart start) (ok : IsRun start passes (run ++ (record { pass = pass; step = step }) ∷ []))
    (own : (know_after start run pass).own s ≡ Some (InHand known)) (keyed : known.key ≡ Some key) where
  abbrev a : Incarnations
  a = incarnations_after start run

  in_hand : IsInHandOf (incarnations_after start run) pass (know_after start run pass).epoch known
      ((incarnations_after start run).last s)
  in_hand =
      let g = run_agrees start passes run is
      (is_run_before start passes run ((record { pass = pass; step = step }) ∷ []) ok) in
      let P : Option Holding → Type 0 =
      λ h. OwnFits a pass (know_after start run pass).epoch h (a.place s) (a.last s) (a.stamp s) in
      (subst P own (g.owns pass s)).1

  here : last_in (incarnations_after start run) s ≡ in_hand.node
  here = rw in_hand.last_is refl

  -- where one happening is all that the step adds, which leaves births, keys and last incarnations, and links it
  entry_by : (what : Happening) →
      happens start (world_after start run) (incarnations_after start run) pass step ≡ just pass what →
      ((becomes start (incarnations_after start run) pass what).last s ≡ (incarnations_after start run).last s) →
      ((becomes start (incarnations_after start run) pass what).state (last_in (incarnations_after start run) s)
      ≡ Linked) →
      ((becomes start (incarnations_after start run) pass what).birth ≡ (incarnations_after start run).birth) →
      ((becomes start (incarnations_after start run) pass what).key ≡ (incarnations_after start run).key) →
      IsEntry start (run ++ (record { pass = pass; step = step }) ∷ []) s known.birth key in_hand.node
  entry_by what adds last state birth keys =
      let now : incarnations_after start (run ++ (record { pass = pass; step = step }) ∷ [])
      ≡ becomes start a pass what =
      incarnations_after-snoc start run (record { pass = pass; step = step }) ∙ ap (incarnations_from start a) adds in
      record {
        last = ap (λ (i : Incarnations). i.last s) now ∙ last ∙ in_hand.last_is;
        linked = ap (λ (i : Incarnations). i.state in_hand.node) now
            ∙ ap (becomes start a pass what).state (sym here) ∙ state;
        birth_is = ap (λ (i : Incarnations). i.birth in_hand.node) now ∙ ap (λ (f : ℕ → ℕ). f in_hand.node) birth
            ∙ in_hand.birth_is;
        key_is = ap (λ (i : Incarnations). i.key in_hand.node) now ∙ ap (λ (f : ℕ → ℕ). f in_hand.node) keys
            ∙ stored_key (a.is_keyed in_hand.node) (a.key in_hand.node) key known.key in_hand.keyed keyed;
      }

pub published_entry : (start : Start) (passes : ℕ) (run : List Event) (pass : ℕ) (pred : At) (expected s key : ℕ)
    (known : Unpublished) → IsStart start →
    IsRun start passes (run ++ (record { pass = pass; step = Publish pred expected s }) ∷ []) →
    (know_after start run pass).own s ≡ Some (InHand known) → known.key ≡ Some key →
    found start (world_after start run) (Publish pred expected s) ≡ expected →
    (node : ℕ)
    × IsEntry start (run ++ (record { pass = pass; step = Publish pred expected s }) ∷ []) s known.birth key node
published_entry start passes run pass pred expected s key known is ok own keyed found_it =
    let a = incarnations_after start run in
    let step = Publish pred expected s in
    let c = last_in a s in (
      (in_hand start passes run pass step s key known is ok own keyed).node,
      entry_by start passes run pass step s key known is ok own keyed (Inserts c (before_at a pred))
          (if_found (found start (world_after start run) step) expected _ _ found_it) refl (put_here a.state c Linked)
          refl refl,
    )

pub replacing_entry : (start : Start) (passes : ℕ) (run : List Event) (pass t expected s key : ℕ)
    (known : Unpublished) → IsStart start →
    IsRun start passes (run ++ (record { pass = pass; step = Replace t expected s }) ∷ []) →
    (know_after start run pass).own s ≡ Some (InHand known) → known.key ≡ Some key →
    found start (world_after start run) (Replace t expected s) ≡ expected →
    (node : ℕ)
    × IsEntry start (run ++ (record { pass = pass; step = Replace t expected s }) ∷ []) s known.birth key node
replacing_entry start passes run pass t expected s key known is ok own keyed found_it =
    let a = incarnations_after start run in
    let step = Replace t expected s in
    let c = last_in a s in
    let old = last_in a t in (
      (in_hand start passes run pass step s key known is ok own keyed).node,
      entry_by start passes run pass step s key known is ok own keyed (Replaces old c)
          (if_found (found start (world_after start run) step) expected _ _ found_it) refl
          (put_here (put a.state old Marked) c Linked) refl refl,
    )

-- ---- the opening

-- a world that opens with keys has key number i as an entry in slot i
pub entry_at_opening : (start : Start) (i : ℕ) → has_opening_key start i ≡ true →
    IsEntry start [] i (opening_birth start i) (key_number start i) i
entry_at_opening start i has =
    record {
      last = ap (λ (b : Bool). if b then Some i else None) has;
      linked = ap (λ (b : Bool). if b then Linked else Unborn) has;
      birth_is = refl;
      key_is = refl;
    }
