-- Known marked links lead where a walk along the checked ones does, in no more turns than slots.
-- For the nodes that they pass ascend by key and rank.
use Rattle.std.proofs.Common.{◌≡◌, ◌≢◌, ℕ, zero, suc, ◌<◌, ◌≤◌, true, false, List, [], ◌∷◌, length, Option, Some, None}
use Rattle.std.proofs.Common.{refl, arith, sym, subst, ap, ◌∙◌, inl, inr}
use Rattle.std.specs.Prelude.{◌⊎◌, nat_eq, IsSome}
use Rattle.std.specs.List.{AllByRecursion, IsDistinct, list_any}
use Rattle.std.proofs.lemmas.Bool.{cases_Bool, ne_eqb, eqb-true}
use Rattle.std.proofs.lemmas.Map.Steps.{length-le_from_distinct_below}
use Rattle.vbr_machine.specs.Start.{Start}
use Rattle.vbr_words.specs.declared.link.Link.{Link}
use Rattle.vbr_words.specs.declared.place.At.TheVariants.{Slot}
use Rattle.vbr_machine.specs.Knowledge.{Know, marked_in}
use Rattle.vbr_machine.specs.Acceptance.{past_slot, past_marked, after_turns}
use Rattle.vbr_machine.specs.Membership.{Knows, LeadsTo, itself, onward}
use Rattle.vbr_machine.specs.Incarnations.{Incarnations}
use Rattle.vbr_machine.specs.Sound.{IsOrderedBefore, Sound}
use Rattle.vbr_machine.specs.Notes.{Notes}
use Rattle.vbr_machine.specs.Agreement.{IsHeldIncarnation, IsHeldNext, IsGoodLink, FitsNotes, Fits}
use Rattle.vbr_machine.specs.declared.knowledge.Read.TheVariants.{LinkAt}
use Rattle.vbr_machine.proofs.chronicles.Slots.{late_born}
use Rattle.vbr_machine.proofs.reads.FoundReads.{marked_among, marked_there}
use Rattle.vbr_machine.proofs.reads.KnownReads.{good_link, one_held, one_mark}

-- ---- a walk is led

-- a known marked link leads from a link to one that names this
pub record LedTo (know : Know) (link : Link) (next : Option ℕ) : Type 0 where
  pub last : Link
  pub leads : LeadsTo know link last
  pub names : last.slot ≡ next

led_on : (know : Know) (link : Link) (next : Option ℕ) → LedTo know link next →
    LedTo know link (past_marked know.checked next)
led_on know link None led = led
led_on know link (Some s) led = go (marked_in know.checked s) refl
  where
    go : (o : Option Link) → marked_in know.checked s ≡ o → LedTo know link (past_slot s o)
    go None q = led
    go (Some next) q =
        let m = marked_among know.checked s next q in
        record {
          last = next;
          leads = onward led.last s next led.leads led.names (record { among = m.0 }) m.1;
          names = refl;
        }

-- where the checked marked links lead in some turns, known marked links lead
pub walk_led : (know : Know) (link : Link) (turns : ℕ) → LedTo know link (after_turns know.checked turns link.slot)
walk_led know link zero = record { last = link; leads = itself; names = refl }
walk_led know link (suc turns) = led_on know link (after_turns know.checked turns link.slot) (walk_led know link turns)

-- ---- what is led to is walked to

-- an incarnation is held at a slot, and stands ahead of what is held at what follows
pub record IsBelow (a : Incarnations) (epoch : ℕ) (next : Option ℕ) (s : ℕ) : Type 0 where
  pub node : ℕ
  pub held : IsHeldIncarnation a epoch s node
  pub ahead : (t d : ℕ) → next ≡ Some t → IsHeldIncarnation a epoch t d → IsOrderedBefore a.key a.rank node d

-- the slots that were passed on the way to a link: as many as turns were made, of the shape, and no two the same,
-- since they ascend
pub record Passed (start : Start) (a : Incarnations) (know : Know) (link last : Link) : Type 0 where
  pub slots : List ℕ
  pub comes : after_turns know.checked (length slots) link.slot ≡ last.slot
  pub distinct : IsDistinct nat_eq slots
  pub low : AllByRecursion (λ s. s < start.shape.slots) slots
  pub below : AllByRecursion (IsBelow a know.epoch last.slot) slots

-- what stands ahead of one that stands ahead of another stands ahead of that
ahead_on : (key rank : ℕ → ℕ) (b c d : ℕ) → IsOrderedBefore key rank b c → IsOrderedBefore key rank c d →
    IsOrderedBefore key rank b d
ahead_on key rank b c d (inl x) (inl y) = inl (omega arith)
ahead_on key rank b c d (inl x) (inr y) = inl (let e = y.0 in omega arith)
ahead_on key rank b c d (inr x) (inl y) = inl (let e = x.0 in omega arith)
ahead_on key rank b c d (inr x) (inr y) = inr (x.0 ∙ y.0, (let u = x.1 in let v = y.1 in omega arith))

all_low : (n : ℕ) (slots : List ℕ) → AllByRecursion (λ s. s < n) slots → (q : ℕ) → list_any (nat_eq q) slots ≡ true →
    q < n
all_low n [] h q e = absurd (cc)
all_low n (s ∷ slots) h q e = go (cases_Bool (nat_eq q s)) (all_low n slots h.1 q)
  where
    go : (nat_eq q s ≡ true) ⊎ (nat_eq q s ≡ false) → (list_any (nat_eq q) slots ≡ true → q < n) → q < n
    go (inl t) later = let x = eqb-true q s t in let y = h.0 in omega arith
    go (inr f) later = later (rw f at e)

module _ {start : Start} {a : Incarnations} {know : Know} {notes : Notes} (sound : Sound start a) (fits : Fits start a)
    (noted : FitsNotes a know notes) where
  -- a walk passes a slot to what any of its known marked links names
  past_known : (s : ℕ) (next : Link) → Knows know (LinkAt (Slot s) next) → next.mark ≡ true →
      past_marked know.checked (Some s) ≡ next.slot
  past_known s next k m = go (marked_in know.checked s) refl (marked_there know.checked s next k.among m)
    where
      go : (o : Option Link) → marked_in know.checked s ≡ o → IsSome o → past_slot s o ≡ next.slot
      go None q h = absurd (cc)
      go (Some x) q h =
          let y = marked_among know.checked s x q in one_mark sound noted s x next (record { among = y.0 }) k y.1 m

  -- what is below a slot is below what follows it
  below_on : (s c : ℕ) (v w : Option ℕ) → v ≡ Some s → IsHeldIncarnation a know.epoch s c →
      ((t d : ℕ) → w ≡ Some t → IsHeldIncarnation a know.epoch t d → IsOrderedBefore a.key a.rank c d) →
      (slots : List ℕ) → AllByRecursion (IsBelow a know.epoch v) slots → AllByRecursion (IsBelow a know.epoch w) slots
  below_on s c v w q h up [] b = tt
  below_on s c v w q h up (_ ∷ slots) b = (
    record {
      node = b.0.node;
      held = b.0.held;
      ahead = λ t d r i. ahead_on a.key a.rank b.0.node c d (b.0.ahead s c q h) (up t d r i);
    },
    below_on s c v w q h up slots b.1,
  )

  -- what is below a slot is in another slot
  apart : (s c : ℕ) (v : Option ℕ) → v ≡ Some s → IsHeldIncarnation a know.epoch s c → (slots : List ℕ) →
      AllByRecursion (IsBelow a know.epoch v) slots → AllByRecursion (λ t. nat_eq s t ≡ false) slots
  apart s c v q h [] b = tt
  apart s c v q h (t ∷ slots) b = (ne_eqb s t differs, apart s c v q h slots b.1)
    where
      differs : s ≢ t
      differs e =
          let P : ℕ → Type 0 = λ i. IsHeldIncarnation a know.epoch i b.0.node in
          let x = b.0.ahead s b.0.node q (subst P (sym e) b.0.held) in
          grind arith

  one_more : (link last : Link) (s : ℕ) (next : Link) → Passed start a know link last → last.slot ≡ Some s →
      Knows know (LinkAt (Slot s) next) → next.mark ≡ true → Passed start a know link next
  unfolding IsDistinct
  one_more link last s next p q k m = let g = good_link noted (Slot s) next k in go g.0 g.1 g.2
    where
      go : (of names : Option ℕ) → IsGoodLink a know.epoch (Slot s) next of names → Passed start a know link next
      go None names g = absurd g.place
      go (Some c) names g = record {
        slots = s ∷ p.slots;
        comes = ap (past_marked know.checked) (p.comes ∙ q) ∙ past_known s next k m;
        distinct = (apart s c last.slot q g.place p.slots p.below, p.distinct);
        low = (rw (← g.place.slot) (fits.slot c (late_born sound.slots c know.epoch g.place.late)), p.low);
        below = (
          record { node = c; held = g.place; ahead = above },
          below_on s c last.slot next.slot q g.place above p.slots p.below,
        );
      }
        where
          follows : (t d : ℕ) (v n : Option ℕ) → IsHeldNext a know.epoch v n → v ≡ Some t →
              IsHeldIncarnation a know.epoch t d → n ≡ Some d
          follows t d None n h r i = absurd (cc)
          follows t d (Some v) None h r i = absurd h
          follows t d (Some v) (Some n) h r i =
              let e : v ≡ t = cc in
              let P : ℕ → Type 0 = λ j. IsHeldIncarnation a know.epoch j n in
              ap Some (one_held sound know.epoch t n d (subst P e h) i)

          above : (t d : ℕ) → next.slot ≡ Some t → IsHeldIncarnation a know.epoch t d → IsOrderedBefore a.key a.rank c d
          above t d r i = (sound.lists.ordered c d ((g.frozen m).1 ∙ follows t d next.slot names g.next r i)).1

  passed : (link last : Link) → LeadsTo know link last → Passed start a know link last
  unfolding IsDistinct
  passed link _ itself = record { slots = []; comes = refl; distinct = tt; low = tt; below = tt }
  passed link _ (onward last s next leads q k m) = one_more link last s next (passed link last leads) q k m

  -- where known marked links lead, the checked ones lead in no more turns than there are slots
  pub led_walk : (link last : Link) → LeadsTo know link last →
      (turns : ℕ) × (turns ≤ start.shape.slots) × (after_turns know.checked turns link.slot ≡ last.slot)
  led_walk link last leads =
      let p = passed link last leads in (
        length p.slots,
        length-le_from_distinct_below p.slots start.shape.slots p.distinct (all_low start.shape.slots p.slots p.low),
        p.comes,
      )
