-- Each slot is in exactly one place.
-- A listed one is reached from its bucket's head, since no listed node stands between a node and its successor.
use Rattle.std.proofs.Common.{◌≡◌, ℕ, zero, suc, ◌+◌, ◌<◌, ◌≤◌, List, [], ◌∷◌, Option, Some, None, refl, arith, sym}
use Rattle.std.proofs.Common.{subst, ap, ◌∙◌, inl, inr}
use Rattle.std.specs.Prelude.{◌⊎◌}
use Rattle.std.proofs.lemmas.Bool.{cases_lt}
use Rattle.vbr_machine.specs.Start.{Start, IsStart}
use Rattle.vbr_words.specs.declared.link.Link.{Link}
use Rattle.vbr_words.specs.declared.place.At.TheVariants.{Slot}
use Rattle.vbr_words.specs.Buckets.{bucket_of}
use Rattle.vbr_words.proofs.Lemmas.{bucket_of-lt}
use Rattle.vbr_machine.specs.Machine.{World, after}
use Rattle.vbr_machine.specs.Runs.{AreAccepted, IsRun, world_after, know_after, NoneOf}
use Rattle.vbr_machine.specs.Incarnations.{State, Unborn, InHand, GivenUp, Linked, Marked, Unlinked, Stamped}
use Rattle.vbr_machine.specs.Incarnations.{Incarnations}
use Rattle.vbr_machine.specs.Images.{slot_shown, link_in_state, link_shown, IsImage}
use Rattle.vbr_machine.specs.Chronicles.{IsDead}
use Rattle.vbr_machine.specs.Sound.{IsListed, IsOrderedBefore, IsFrom, IsApart, IsUnused, PlaceFits, Sound}
use Rattle.vbr_machine.specs.Accounts.{incarnations_after, notes_after}
use Rattle.vbr_machine.specs.Agreement.{IsNotOf, OwnFits, Fits, Agrees}
use Rattle.vbr_machine.specs.Nodes.{behind, key_in_slot}
use Rattle.vbr_machine.specs.AgreedPlaces.{LiesInHand, IsReachedFrom, at_once, onward, FitsPlace, ArePlaced}
use Rattle.vbr_machine.specs.declared.event.Event.{Event}
use Rattle.vbr_machine.specs.declared.knowledge.Holding.{Holding}
use Rattle.vbr_machine.specs.declared.knowledge.Holding.TheVariants as holding
use Rattle.vbr_machine.specs.declared.knowledge.SlotPlace.{SlotPlace}
use Rattle.vbr_machine.specs.declared.knowledge.SlotPlace.TheVariants.{Shared, Own, Hand, Listed}
use Rattle.vbr_machine.proofs.chronicles.Slots.{listed_last}
use Rattle.vbr_machine.proofs.chronicles.Lists.{next_listed}
use Rattle.vbr_machine.proofs.progress.ListedNodes.{next_of_followed, one_fewer, stands_key, stands_there}
use Rattle.vbr_machine.proofs.runs.EveryRun.{run_agrees}
use Rattle.vbr_machine.proofs.runs.RunsGoOn.{others_leave_know}

-- ---- reached from a head

slot_of : (a : Incarnations) (n : Option ℕ) (s : ℕ) → slot_shown a n ≡ Some s → (c : ℕ) × (n ≡ Some c) × (a.slot c ≡ s)
slot_of a None s e = absurd (cc)
slot_of a (Some c) s e = (c, refl, cc)

-- the link of a listed incarnation names the slot of its successor
names_next : (a : Incarnations) (c : ℕ) (st : State) → IsListed st →
    (link_in_state a c st).slot ≡ slot_shown a (a.next c)
names_next a c Linked l = refl
names_next a c Marked l = refl
names_next a c _ l = absurd l

-- the place of a slot whose last incarnation is linked or marked
place_of_listed : (start : Start) (place : SlotPlace) (st : State) (key : ℕ) → IsListed st →
    PlaceFits start place st key → place ≡ Listed (bucket_of start.shape key)
place_of_listed start place st key l f = grind arith

module _ (start : Start) (w : World) (a : Incarnations) (snd : Sound start a) (fits : Fits start a)
    (i : IsImage w a) where
  -- the link of a slot whose last incarnation is listed names the slot of its successor
  link_names : (c : ℕ) → IsListed (a.state c) → (w.link (a.slot c)).slot ≡ slot_shown a (a.next c)
  link_names c l = ap (λ (k : Link). k.slot) (i.link (a.slot c) ∙ ap (link_shown a) (listed_last snd.slots c l))
      ∙ names_next a c (a.state c) l

  -- the slot of a listed incarnation is listed in the bucket of its key
  listed_place : (c : ℕ) → IsListed (a.state c) → w.place (a.slot c) ≡ Listed (bucket_of start.shape (a.key c))
  listed_place c l = i.place (a.slot c)
      ∙ place_of_listed start (a.place (a.slot c)) (a.state c) (a.key c) l
      (snd.slots.placed c (a.slot c) (listed_last snd.slots c l))

  -- what is reached from a head is the slot of a listed incarnation of the bucket
  reached_listed : (b s : ℕ) → IsReachedFrom w b s →
      (c : ℕ) × (a.slot c ≡ s) × IsListed (a.state c) × (bucket_of start.shape (a.key c) ≡ b)
  reached_listed b s (at_once t e) =
      let x = slot_of a (a.first b) s (ap (λ (k : Link). k.slot) (sym (i.head b)) ∙ e) in
      let y = snd.lists.first_in b x.0 x.1 in
      (x.0, x.2, y.0, y.1)
  reached_listed b s (onward r t before e) =
      let x = reached_listed b r before in
      let named : (w.link (a.slot x.0)).slot ≡ Some s = rw x.1 e in
      let y = slot_of a (a.next x.0) s (sym (link_names x.0 x.2) ∙ named) in
      (y.0, y.2, next_listed snd x.0 y.0 y.1 x.2, sym (snd.lists.ordered x.0 y.0 y.1).0 ∙ x.3)

  -- and from a listed incarnation on, each one of its bucket that doesn't stand ahead of it is reached: behind its
  -- successor there is one node fewer
  reached_on : (turns b c d : ℕ) → IsListed (a.state c) → IsListed (a.state d) → bucket_of start.shape (a.key c) ≡ b →
      bucket_of start.shape (a.key d) ≡ b → IsFrom a.key a.rank (Some c) d →
      behind start a b (Slot (a.slot c)) < turns → IsReachedFrom w b (a.slot c) → IsReachedFrom w b (a.slot d)
  reached_on zero b c d lc ld bc bd le lt r = absurd (omega arith)
  reached_on (suc turns) b c d lc ld bc bd le lt r =
      go (snd.lists.apart c d lc ld (bc ∙ sym bd)) (λ n ln bn. reached_on turns b n d ln ld bn bd)
    where
      go : IsApart a.key a.rank c (a.next c) d →
          ((n : ℕ) → IsListed (a.state n) → bucket_of start.shape (a.key n) ≡ b → IsFrom a.key a.rank (Some n) d →
          behind start a b (Slot (a.slot n)) < turns → IsReachedFrom w b (a.slot n) → IsReachedFrom w b (a.slot d)) →
          IsReachedFrom w b (a.slot d)
      go (inl e) on = let P : ℕ → Type 0 = λ n. IsReachedFrom w b (a.slot n) in subst P (sym e) r
      go (inr (inl ahead)) on = absurd (not_both le.0 (let q = le.1 in cc) le.2 ahead)
        where
          not_both : (m : ℕ) → m ≡ c → (a.key m < a.key d) ⊎ ((a.key m ≡ a.key d) × (a.rank m ≤ a.rank d)) →
              IsOrderedBefore a.key a.rank d c → ⊥
          not_both m is u v = grind arith
      go (inr (inr (n, e, from))) on =
          let o = snd.lists.ordered c n e in
          let there = stands_there snd fits c lc in
          let place : bucket_of start.shape (key_in_slot a (a.slot c)) ≡ b =
          ap (bucket_of start.shape) (stands_key there.1) ∙ bc in
          let next = next_of_followed snd b (Slot (a.slot c)) (Some c) n (c, refl, there.1.last, lc, e) place in
          let fewer = one_fewer snd fits b (Slot (a.slot c)) n next in
          on n (next_listed snd c n e lc) (sym o.0 ∙ bc) (n, refl, from) (omega (arith, fewer, lt))
          (onward (a.slot c) (a.slot n) r (link_names c lc ∙ ap (slot_shown a) e))

  -- each listed incarnation is reached from the head of its bucket
  listed_reached : (d : ℕ) → IsListed (a.state d) → IsReachedFrom w (bucket_of start.shape (a.key d)) (a.slot d)
  listed_reached d ld =
      let b = bucket_of start.shape (a.key d) in
      let f = snd.lists.behind_head d ld in
      let x = snd.lists.first_in b f.0 f.1 in
      reached_on (behind start a b (Slot (a.slot f.0)) + 1) b f.0 d x.0 ld x.1 refl (f.0, refl, f.2) (omega arith)
      (at_once (a.slot f.0) (ap (λ (k : Link). k.slot) (i.head b) ∙ ap (slot_shown a) f.1))

-- ---- one of so many passes

none_of : (start : Start) (passes : ℕ) (w : World) (run : List Event) (p : ℕ) → passes ≤ p →
    AreAccepted start passes w run → NoneOf p run
none_of start passes w [] p high ok = tt
none_of start passes w (event ∷ events) p high ok = (
  λ e. (let low = ok.0.0 in omega (arith, low, e)),
  none_of start passes (after start w event.pass event.step) events p high ok.1,
)

-- a pass above the number of passes knows of no slot
knows_none : (start : Start) (passes : ℕ) (run : List Event) (p s : ℕ) → passes ≤ p → IsRun start passes run →
    (know_after start run p).own s ≡ None
knows_none start passes run p s high ok =
    ap (λ k. k.own s) (others_leave_know start [] run p (none_of start passes _ run p high ok))

-- ---- where a slot is

-- a last incarnation that fits a slot in the shared pool is dead
shared_dead : (start : Start) (st : State) (key : ℕ) → PlaceFits start Shared st key → IsDead st
shared_dead start (Stamped u r) key f = tt
shared_dead start Unborn key f = absurd f
shared_dead start (InHand q) key f = absurd f
shared_dead start GivenUp key f = tt
shared_dead start Linked key f = absurd f
shared_dead start Marked key f = absurd f
shared_dead start (Unlinked q u) key f = absurd f

-- one that fits a pass's own slot is dead, or was unlinked by the pass
own_state : (start : Start) (p : ℕ) (st : State) (key : ℕ) → PlaceFits start (Own p) st key →
    IsDead st ⊎ ((unlinked : ℕ) × (st ≡ Unlinked p unlinked))
own_state start p (Stamped u r) key f = inl tt
own_state start p (Unlinked q u) key f = inr (u, ap (λ i. Unlinked i u) f)
own_state start p Unborn key f = absurd f
own_state start p (InHand q) key f = absurd f
own_state start p GivenUp key f = inl tt
own_state start p Linked key f = absurd f
own_state start p Marked key f = absurd f

-- one that fits a listed slot is linked or marked, with a key of the bucket
list_state : (start : Start) (b : ℕ) (st : State) (key : ℕ) → PlaceFits start (Listed b) st key →
    IsListed st × (bucket_of start.shape key ≡ b)
list_state start b Linked key f = (tt, f)
list_state start b Marked key f = (tt, f)
list_state start b Unborn key f = absurd f
list_state start b (InHand q) key f = absurd f
list_state start b GivenUp key f = absurd f
list_state start b (Unlinked q u) key f = absurd f
list_state start b (Stamped u r) key f = absurd f

-- what a pass knows of a slot that is in its hand
hand_state : (a : Incarnations) (p e : ℕ) (known : Option Holding) (last : Option ℕ) (stamp : ℕ) →
    OwnFits a p e known (Hand p) last stamp → LiesInHand a p last
hand_state a p e None last stamp o = absurd (o refl)
hand_state a p e (Some (holding.Free known)) last stamp o = absurd (let u = o.0 in cc)
hand_state a p e (Some (holding.Unlinked reread)) last stamp o = absurd (let u = o.0 in cc)
hand_state a p e (Some (holding.InHand known)) last stamp o = let x = o.1 in rw x.last_is x.state

-- a slot of a pass is of one that knows of it
owner_low : (start : Start) (passes : ℕ) (run : List Event) (p s : ℕ) (place : SlotPlace) → IsRun start passes run →
    OwnFits (incarnations_after start run) p (know_after start run p).epoch ((know_after start run p).own s) place
    ((incarnations_after start run).last s) ((incarnations_after start run).stamp s) → (IsNotOf p place → ⊥) →
    p < passes
owner_low start passes run p s place ok o is_of = go (cases_lt p passes)
  where
    go : (p < passes) ⊎ (passes ≤ p) → p < passes
    go (inl low) = low
    go (inr high) = absurd (is_of (rw (knows_none start passes run p s high ok) at o))

module _ (start : Start) (passes : ℕ) (run : List Event) (is : IsStart start) (ok : IsRun start passes run) where
  abbrev w : World
  w = world_after start run

  abbrev a : Incarnations
  a = incarnations_after start run

  g : Agrees start w a (notes_after start run)
  g = run_agrees start passes run is ok

  -- a slot is where the incarnations have it
  is_in : (s : ℕ) (place : SlotPlace) (last : Option ℕ) → a.place s ≡ place → a.last s ≡ last →
      FitsPlace start passes w a s place
  is_in s Shared None e l = rw l tt
  is_in s Shared (Some c) e l = rw l (shared_dead start (a.state c) (a.key c) (rw e at (g.sound.slots.placed c s l)))
  is_in s (Own p) None e l =
      (owner_low start passes run p s (Own p) ok (rw e at (g.owns p s)) (λ n. n refl), inl (rw l tt))
  is_in s (Own p) (Some c) e l = (
    owner_low start passes run p s (Own p) ok (rw e at (g.owns p s)) (λ n. n refl),
    rw l (own_state start p (a.state c) (a.key c) (rw e at (g.sound.slots.placed c s l))),
  )
  is_in s (Hand p) last e l =
      let o : OwnFits a p (w.know p).epoch ((w.know p).own s) (Hand p) (a.last s) (a.stamp s) =
      rw e at (g.owns p s) in (
        owner_low start passes run p s (Hand p) ok o (λ n. n refl),
        hand_state a p (w.know p).epoch ((w.know p).own s) (a.last s) (a.stamp s) o,
      )
  is_in s (Listed b) None e l = absurd (let u : IsUnused (Listed b) = rw e at (g.sound.slots.unused s l) in u)
  is_in s (Listed b) (Some c) e l =
      let f = list_state start b (a.state c) (a.key c) (rw e at (g.sound.slots.placed c s l)) in
      let slot = (g.sound.slots.last_born s c l).1 in
      let r = listed_reached start w a g.sound g.fits g.image c f.0 in
      (rw (← f.1) (bucket_of-lt start.shape (a.key c) is.shape.some_bucket), rw l f, rw (← f.1, ← slot) r)

  -- each slot is in exactly one place
  pub are_placed : ArePlaced start passes w a
  are_placed = record {
    each = λ s. (let P : SlotPlace → Type 0 = FitsPlace start passes w a s in
        subst P (sym (g.image.place s)) (is_in s (a.place s) (a.last s) refl refl));
    reached = λ b s r.
        let x = reached_listed start w a g.sound g.fits g.image b s r in
        sym (ap w.place x.1) ∙ listed_place start w a g.sound g.fits g.image x.0 x.2 ∙ ap Listed x.3;
  }
