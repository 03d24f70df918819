-- While its birth, or the epoch, stands, an inserted incarnation is the last of its slot, and in no hand.
use Rattle.std.proofs.Common.{◌≡◌, ℕ, ◌<◌, ◌≤◌, List, Option, Some, None, arith}
use Rattle.std.proofs.Common.{sym, subst, ap, ◌∙◌, inl, inr}
use Rattle.std.specs.Prelude.{◌⊎◌, ◌↔◌}
use Rattle.std.proofs.lemmas.Bool.{cases_order}
use Rattle.vbr_words.specs.declared.link.Link.{Link}
use Rattle.vbr_words.specs.declared.place.At.TheVariants.{Slot}
use Rattle.vbr_machine.specs.Start.{Start, IsStart}
use Rattle.vbr_machine.specs.Acceptance.{IsInHand}
use Rattle.vbr_machine.specs.Knowledge.{Know}
use Rattle.vbr_machine.specs.Membership.{Knows}
use Rattle.vbr_machine.specs.Moments.{WasShown}
use Rattle.vbr_machine.specs.Records.{IsLastInserted, IsEntry, IsInNoHand}
use Rattle.vbr_machine.specs.Runs.{Begins, IsRun, know_after, world_after}
use Rattle.vbr_machine.specs.Incarnations.{State, Linked, Incarnations, IsLate}
use Rattle.vbr_machine.specs.Images.{birth_shown}
use Rattle.vbr_machine.specs.Sound.{Grows, IsInserted, IsPassed, Sound, TimesFit}
use Rattle.vbr_machine.specs.Accounts.{incarnations_after, notes_after}
use Rattle.vbr_machine.specs.Agreement.{Agrees, IsHeldAt, IsHeldNext, IsPair, OwnFits}
use Rattle.vbr_machine.specs.declared.event.Event.{Event}
use Rattle.vbr_machine.specs.declared.knowledge.Holding.{Holding}
use Rattle.vbr_machine.specs.declared.knowledge.Holding.TheVariants.{Free, Unlinked, InHand}
use Rattle.vbr_machine.specs.declared.knowledge.Read.TheVariants.{BirthOf, KeyOf}
use Rattle.vbr_machine.specs.declared.knowledge.SlotPlace.{SlotPlace}
use Rattle.vbr_machine.proofs.chronicles.Growth.{inserted_stays}
use Rattle.vbr_machine.proofs.chronicles.Slots.{late_born, late_inserted, late_last, listed_last}
use Rattle.vbr_machine.proofs.reads.HeldReads.{stays_held}
use Rattle.vbr_machine.proofs.reads.KnownReads.{good_link, known_birth, known_key}
use Rattle.vbr_machine.proofs.moments.AtLoads.{held_open, pair_open, place_held}
use Rattle.vbr_machine.proofs.chronicles.Shown.{stands}
use Rattle.vbr_machine.proofs.runs.EveryRun.{begun_grows, run_agrees}
use Rattle.vbr_machine.proofs.runs.RunsGoOn.{begins_run, begins_trans}

-- ---- incarnations alone

-- what was inserted isn't passed by one born at its birth
inserted_not_passed : (st : State) (birth epoch : ℕ) → IsInserted st → TimesFit st birth epoch → IsPassed st birth → ⊥
inserted_not_passed st birth epoch i t p = grind arith

-- so where the last incarnation of its slot has its birth, it is that one
same_birth : {start : Start} {a : Incarnations} → Sound start a → (s c l : ℕ) → a.slot c ≡ s → IsInserted (a.state c) →
    c ≤ l → l < a.count → a.slot l ≡ s → a.birth l ≡ a.birth c → l ≡ c
same_birth {start} {a} sound s c l here i le low there q = go (cases_order c l)
  where
    go : (c ≡ l) ⊎ ((c < l) ⊎ (l < c)) → l ≡ c
    go (inl e) = sym e
    go (inr (inl lt)) =
        let P : ℕ → Type 0 = IsPassed (a.state c) in
        absurd (inserted_not_passed (a.state c) (a.birth c) a.epoch i (sound.slots.times c)
        (subst P q (sound.slots.passed c l lt low (here ∙ sym there))))
    go (inr (inr lt)) = absurd (omega arith)

-- incarnations b come after a: an inserted one is still the last of its slot where its birth is shown there
last_still : {start : Start} {a b : Incarnations} → Sound start a → Sound start b → Grows a b → (s c : ℕ) →
    a.last s ≡ Some c → IsInserted (a.state c) → birth_shown b (b.last s) ≡ a.birth c → b.last s ≡ Some c
last_still {start} {a} {b} then now grown s c last i shown = go (now.slots.has_last c low)
  where
    born : (c < a.count) × (a.slot c ≡ s)
    born = then.slots.last_born s c last

    low : c < b.count
    low = let u = grown.count in let v = born.0 in omega (arith, u, v)

    here : b.slot c ≡ s
    here = grown.slot c born.0 ∙ born.1

    go : ((l : ℕ) × (b.last (b.slot c) ≡ Some l) × (c ≤ l)) → b.last s ≡ Some c
    go (l, e, le) =
        let there : b.last s ≡ Some l = (let P : ℕ → Type 0 = λ t. b.last t ≡ Some l in subst P here e) in
        let own = now.slots.last_born s l there in
        let same : b.birth l ≡ b.birth c =
        ap (birth_shown b) (sym there) ∙ shown ∙ sym (grown.birth c born.0) in
        there ∙ ap Some (same_birth now s c l here (inserted_stays grown c i) le own.0 own.1 same)

-- and so it was between
last_between : {start : Start} {a m b : Incarnations} → Sound start a → Sound start m → Sound start b → Grows a m →
    Grows m b → (s c : ℕ) → a.last s ≡ Some c → b.last s ≡ Some c → m.last s ≡ Some c
last_between {start} {a} {m} {b} first mid now up on s c last stays = go (mid.slots.has_last c low)
  where
    born : (c < a.count) × (a.slot c ≡ s)
    born = first.slots.last_born s c last

    low : c < m.count
    low = let u = up.count in let v = born.0 in omega (arith, u, v)

    here : m.slot c ≡ s
    here = up.slot c born.0 ∙ born.1

    go : ((l : ℕ) × (m.last (m.slot c) ≡ Some l) × (c ≤ l)) → m.last s ≡ Some c
    go (l, e, le) = go2 (now.slots.has_last l (let u = on.count in let v = own.0 in omega (arith, u, v)))
      where
        there : m.last s ≡ Some l
        there = let P : ℕ → Type 0 = λ t. m.last t ≡ Some l in subst P here e

        own : (l < m.count) × (m.slot l ≡ s)
        own = mid.slots.last_born s l there

        go2 : ((k : ℕ) × (b.last (b.slot l) ≡ Some k) × (l ≤ k)) → m.last s ≡ Some c
        go2 (k, f, up_to) =
            let at_s : b.last s ≡ Some k =
            (let P : ℕ → Type 0 = λ t. b.last t ≡ Some k in subst P (on.slot l own.0 ∙ own.1) f) in
            let is : k ≡ c = (let z : Some k ≡ Some c = sym at_s ∙ stays in cc) in
            let same : l ≡ c = omega (arith, is, le, up_to) in
            there ∙ ap Some same

-- a slot whose last incarnation was inserted is in no hand
no_hand : (a : Incarnations) (pass epoch c : ℕ) (holding : Option Holding) (place : SlotPlace) (last : Option ℕ)
    (stamp : ℕ) → OwnFits a pass epoch holding place last stamp → last ≡ Some c → IsInserted (a.state c) →
    IsInHand holding → ⊥
no_hand a pass epoch c None place last stamp fits is i h = h
no_hand a pass epoch c (Some (Free known)) place last stamp fits is i h = h
no_hand a pass epoch c (Some (Unlinked reread)) place last stamp fits is i h = h
no_hand a pass epoch c (Some (InHand known)) place last stamp fits is i h =
    let x = fits.1 in
    let same : x.node ≡ c = (let z : Some x.node ≡ Some c = sym x.last_is ∙ is in cc) in
    let P : State → Type 0 = IsInserted in
    subst P (ap a.state (sym same) ∙ x.state) i

-- ---- along a run

module _ (start : Start) (passes : ℕ) (moment run : List Event) (is : IsStart start) (ok : IsRun start passes run)
    (begins : Begins moment run) where
  was : IsRun start passes moment
  was = begins_run start passes moment run begins ok

  grown : Grows (incarnations_after start moment) (incarnations_after start run)
  grown = begun_grows start passes is moment run begins ok

  -- an inserted incarnation is the last of its slot where its birth stands there
  pub stays_last : (s node : ℕ) → IsLastInserted start moment s node →
      (world_after start run).birth s ≡ (incarnations_after start moment).birth node →
      IsLastInserted start run s node
  stays_last s node there shown =
      let g = run_agrees start passes run is ok in
      record {
        last = last_still (run_agrees start passes moment is was).sound g.sound grown s node there.last there.inserted
            (sym (g.image.birth s) ∙ shown);
        inserted = inserted_stays grown node there.inserted;
      }

  -- and where it is, its birth stands there
  pub shows_birth : (s node : ℕ) → IsLastInserted start moment s node →
      (incarnations_after start run).last s ≡ Some node →
      (world_after start run).birth s ≡ (incarnations_after start moment).birth node
  shows_birth s node there last =
      let g = run_agrees start passes run is ok in
      let born = (run_agrees start passes moment is was).sound.slots.last_born s node there.last in
      g.image.birth s ∙ ap (birth_shown (incarnations_after start run)) last ∙ grown.birth node born.0

  -- a linked one is where the epoch hasn't moved
  pub unmoved_last : (s node e : ℕ) → (incarnations_after start moment).last s ≡ Some node →
      (incarnations_after start moment).state node ≡ Linked → e ≤ (world_after start moment).epoch →
      (world_after start run).epoch ≡ e → (incarnations_after start run).last s ≡ Some node
  unmoved_last s node e last linked low same =
      let a = incarnations_after start moment in
      let b = incarnations_after start run in
      let g = run_agrees start passes run is ok in
      let then = run_agrees start passes moment is was in
      let born = then.sound.slots.last_born s node last in
      let le : e ≤ a.epoch = rw (← then.image.epoch) low in
      let late : IsLate (a.state node) e = rw linked tt in
      let on : IsLate (b.state node) e = grown.late node e le late in
      let P : ℕ → Type 0 = IsLate (b.state node) in
      let Q : ℕ → Type 0 = λ t. b.last t ≡ Some node in
      subst Q (grown.slot node born.0 ∙ born.1)
      (late_last g.sound.slots node (subst P (sym same ∙ g.image.epoch) on))

-- at each moment between the two as well, and then no pass has the slot in hand
pub same_birth_same_entry : (start : Start) (passes : ℕ) (moment between run : List Event) (s node : ℕ) →
    IsStart start → IsRun start passes run → Begins moment between → Begins between run →
    IsLastInserted start moment s node →
    (world_after start run).birth s ≡ (incarnations_after start moment).birth node →
    IsLastInserted start between s node × IsInNoHand start between s
same_birth_same_entry start passes moment between run s node is ok up on there shown =
    let mid = begins_run start passes between run on ok in
    let all = begins_trans moment between run up on in
    let end = stays_last start passes moment run is ok all s node there shown in
    let m = run_agrees start passes between is mid in
    let last = last_between (run_agrees start passes moment is (begins_run start passes moment between up mid)).sound
    m.sound (run_agrees start passes run is ok).sound (begun_grows start passes is moment between up mid)
    (begun_grows start passes is between run on ok) s node there.last end.last in
    let inserted = inserted_stays (begun_grows start passes is moment between up mid) node there.inserted in (
      record { last = last; inserted = inserted },
      λ pass h.
          no_hand (incarnations_after start between) pass (know_after start between pass).epoch node
          ((know_after start between pass).own s) ((incarnations_after start between).place s)
          ((incarnations_after start between).last s) ((incarnations_after start between).stamp s) (m.owns pass s) last
          inserted h,
    )

-- a linked incarnation keeps its slot, and its birth stands there, where the epoch hasn't moved
pub same_epoch_same_entry : (start : Start) (passes : ℕ) (moment run : List Event) (s node e : ℕ) → IsStart start →
    IsRun start passes run → Begins moment run → (incarnations_after start moment).last s ≡ Some node →
    (incarnations_after start moment).state node ≡ Linked → e ≤ (world_after start moment).epoch →
    (world_after start run).epoch ≡ e →
    (world_after start run).birth s ≡ (incarnations_after start moment).birth node
same_epoch_same_entry start passes moment run s node e is ok begins last linked low same =
    shows_birth start passes moment run is ok begins s node
    (record { last = last; inserted = (let P : State → Type 0 = IsInserted in subst P (sym linked) tt) })
    (unmoved_last start passes moment run is ok begins s node e last linked low same)

-- ---- an entry is found

-- where an unmarked link that a pass knows was shown at a slot, with a birth and a key that it knows, there was an
-- entry
pub entry_shown : (start : Start) (passes : ℕ) (moment run : List Event) (pass s : ℕ) (link : Link) (birth key : ℕ) →
    IsStart start → IsRun start passes run → WasShown start moment run pass (Slot s) link →
    Knows (know_after start run pass) (BirthOf s birth) → Knows (know_after start run pass) (KeyOf s key) →
    (node : ℕ) × IsEntry start moment s birth key node
entry_shown start passes moment run pass s link birth key is ok shown knows_birth knows_key =
    go held.0 held.1 opened.1
  where
    a : Incarnations
    a = incarnations_after start moment

    b : Incarnations
    b = incarnations_after start run

    know : Know
    know = know_after start run pass

    then : Agrees start (world_after start moment) (incarnations_after start moment) (notes_after start moment)
    then = run_agrees start passes moment is (begins_run start passes moment run shown.begins ok)

    now : Agrees start (world_after start run) (incarnations_after start run) (notes_after start run)
    now = run_agrees start passes run is ok

    on : Grows (incarnations_after start moment) (incarnations_after start run)
    on = begun_grows start passes is moment run shown.begins ok

    held : (of : Option ℕ) × IsHeldAt a know.epoch (Slot s) of
    held =
        let P : ℕ → Type 0 = λ e. (of : Option ℕ) × IsHeldAt a e (Slot s) of in
        subst P shown.epoch (place_held (then.knows pass) (Slot s) shown.held)

    low : know.epoch ≤ a.epoch
    low = let P : ℕ → Type 0 = λ e. e ≤ a.epoch in subst P shown.epoch (then.knows pass).epoch

    opened : (n : Option ℕ) × IsPair a (Slot s) held.0 n × IsHeldNext a know.epoch link.slot n
    opened =
        held_open then.sound know.epoch (Slot s) held.0 link held.1
        (sym (stands (world_after start moment) a (Slot s) then.image) ∙ shown.shown) shown.unmarked
        (good_link (now.knows pass) (Slot s) link shown.known).2.version

    go : (of : Option ℕ) → IsHeldAt a know.epoch (Slot s) of → IsPair a (Slot s) of opened.0 →
        (node : ℕ) × IsEntry start moment s birth key node
    go None h p = absurd h
    go (Some c) h p =
        let linked = (pair_open a (Slot s) (Some c) opened.0 p).0 in
        let born = late_born then.sound.slots c know.epoch h.late in
        let still = stays_held then.sound on know.epoch s c low h in
        let Q : ℕ → Type 0 = λ t. a.last t ≡ Some c in (
          c,
          record {
            last = subst Q h.slot (listed_last then.sound.slots c (rw linked tt));
            linked = linked;
            birth_is = sym (on.birth c born) ∙ known_birth now.sound (now.knows pass) s c birth still knows_birth;
            key_is = sym (on.key c (late_inserted (a.state c) know.epoch h.late))
                ∙ known_key now.sound (now.knows pass) s c key still knows_key;
          },
        )

-- ---- exactly so

-- the birth of an inserted incarnation stands in its slot exactly while it is the last one there
pub still_exact : (start : Start) (passes : ℕ) (moment run : List Event) (s node : ℕ) → IsStart start →
    IsRun start passes run → Begins moment run → IsLastInserted start moment s node →
    ((world_after start run).birth s ≡ (incarnations_after start moment).birth node)
    ↔ ((incarnations_after start run).last s ≡ Some node)
still_exact start passes moment run s node is ok begins there = (
  λ shown. (stays_last start passes moment run is ok begins s node there shown).last,
  λ last. shows_birth start passes moment run is ok begins s node there last,
)
