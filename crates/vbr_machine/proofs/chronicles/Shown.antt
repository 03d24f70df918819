-- What the incarnations show stays where they are untouched, and words have room for it.
use Rattle.std.proofs.Common.{◌≡◌, ℕ, ◌<◌, ◌≤◌, Option, Some, None, refl, arith, sym, ap, ◌∙◌}
use Rattle.vbr_machine.specs.Start.{Start}
use Rattle.vbr_words.specs.Links.{IsLinkOf}
use Rattle.vbr_words.specs.declared.link.Link.{Link}
use Rattle.vbr_words.specs.declared.place.At.{At}
use Rattle.vbr_words.specs.declared.place.At.TheVariants.{Head, Slot}
use Rattle.vbr_machine.specs.Links.{marked}
use Rattle.vbr_machine.specs.Machine.{World}
use Rattle.vbr_machine.specs.Machine as machine
use Rattle.vbr_machine.specs.Incarnations.{State, Unborn, InHand, GivenUp, Linked, Marked, Unlinked, Stamped}
use Rattle.vbr_machine.specs.Incarnations.{Incarnations, IsLate}
use Rattle.vbr_machine.specs.Images.{birth_shown, key_shown, value_shown, link_to_next, link_in_state, link_shown}
use Rattle.vbr_machine.specs.Images.{link_shown_at, IsImage}
use Rattle.vbr_machine.specs.Sound.{Sound}
use Rattle.vbr_machine.specs.Agreement.{Fits}
use Rattle.vbr_machine.proofs.chronicles.Slots.{late_born, listed_late}

-- ---- what is untouched shows the same

pub to_next_same : (a b : Incarnations) → b.slot ≡ a.slot → b.birth ≡ a.birth → (holder : ℕ) (next : Option ℕ) →
    link_to_next b holder next ≡ link_to_next a holder next
to_next_same a b es eb holder None = refl
to_next_same a b es eb holder (Some m) = rw (es, eb) refl

pub linked_same : (a b : Incarnations) → b.slot ≡ a.slot → b.birth ≡ a.birth → (c : ℕ) → b.next c ≡ a.next c →
    link_to_next b (b.birth c) (b.next c) ≡ link_to_next a (a.birth c) (a.next c)
linked_same a b es eb c en = ap (λ o. link_to_next b (b.birth c) o) en ∙ to_next_same a b es eb (b.birth c) (a.next c)
    ∙ ap (λ f. link_to_next a (f c) (a.next c)) eb

pub in_state_same : (a b : Incarnations) → b.slot ≡ a.slot → b.birth ≡ a.birth → (c : ℕ) (st : State) →
    b.link c ≡ a.link c → b.next c ≡ a.next c → link_in_state b c st ≡ link_in_state a c st
in_state_same a b es eb c Linked ew en = linked_same a b es eb c en
in_state_same a b es eb c Marked ew en = ap marked (linked_same a b es eb c en)
in_state_same a b es eb c (Unlinked q u) ew en = ap marked (linked_same a b es eb c en)
in_state_same a b es eb c (Stamped u r) ew en = ap marked (linked_same a b es eb c en)
in_state_same a b es eb c Unborn ew en = ew
in_state_same a b es eb c (InHand q) ew en = ew
in_state_same a b es eb c GivenUp ew en = ew

pub link_kept : (a b : Incarnations) → b.slot ≡ a.slot → b.birth ≡ a.birth → (l : Option ℕ) →
    ((c : ℕ) → l ≡ Some c → (b.state c ≡ a.state c) × (b.link c ≡ a.link c) × (b.next c ≡ a.next c)) →
    link_shown b l ≡ link_shown a l
link_kept a b es eb None k = refl
link_kept a b es eb (Some c) k =
    let x = k c refl in ap (link_in_state b c) x.0 ∙ in_state_same a b es eb c (a.state c) x.1 x.2

pub key_kept : (a b : Incarnations) (l : Option ℕ) → ((c : ℕ) → l ≡ Some c → b.key c ≡ a.key c) →
    key_shown b l ≡ key_shown a l
key_kept a b None k = refl
key_kept a b (Some c) k = k c refl

pub value_kept : (a b : Incarnations) (l : Option ℕ) → ((c : ℕ) → l ≡ Some c → b.value c ≡ a.value c) →
    value_shown b l ≡ value_shown a l
value_kept a b None k = refl
value_kept a b (Some c) k = k c refl

pub birth_kept : (a b : Incarnations) (l : Option ℕ) → ((c : ℕ) → l ≡ Some c → b.birth c ≡ a.birth c) →
    birth_shown b l ≡ birth_shown a l
birth_kept a b None k = refl
birth_kept a b (Some c) k = k c refl

-- the image where no word changes but perhaps the epoch and places
pub image_kept : (v w : World) (a b : Incarnations) → v.epoch ≡ b.epoch → v.head ≡ w.head → v.link ≡ w.link →
    v.birth ≡ w.birth → v.key ≡ w.key → v.value ≡ w.value → v.stamp ≡ w.stamp → ((s : ℕ) → v.place s ≡ b.place s) →
    b.slot ≡ a.slot → b.birth ≡ a.birth → b.key ≡ a.key → b.value ≡ a.value → b.link ≡ a.link → b.next ≡ a.next →
    b.state ≡ a.state → b.first ≡ a.first → b.last ≡ a.last → b.stamp ≡ a.stamp → IsImage w a → IsImage v b
image_kept v w a b e eh el eb ek ev et place asl abi ak av ali an ast af ala ats i = record {
  epoch = e;
  head = λ k. ap (λ f. f k) eh ∙ i.head k
      ∙ sym (ap (λ f. link_to_next b 0 (f k)) af ∙ to_next_same a b asl abi 0 (a.first k));
  link = λ s. ap (λ f. f s) el ∙ i.link s
      ∙ sym (ap (λ f. link_shown b (f s)) ala
      ∙ link_kept a b asl abi (a.last s) (λ c q. (ap (λ f. f c) ast, ap (λ f. f c) ali, ap (λ f. f c) an)));
  birth = λ s.
      ap (λ f. f s) eb ∙ i.birth s
      ∙ sym (ap (λ f. birth_shown b (f s)) ala ∙ birth_kept a b (a.last s) (λ c q. ap (λ f. f c) abi));
  key = λ s. ap (λ f. f s) ek ∙ i.key s
      ∙ sym (ap (λ f. key_shown b (f s)) ala ∙ key_kept a b (a.last s) (λ c q. ap (λ f. f c) ak));
  value = λ s.
      ap (λ f. f s) ev ∙ i.value s
      ∙ sym (ap (λ f. value_shown b (f s)) ala ∙ value_kept a b (a.last s) (λ c q. ap (λ f. f c) av));
  stamp = λ s. ap (λ f. f s) et ∙ i.stamp s ∙ sym (ap (λ f. f s) ats);
  place = place;
}

-- the image where the epoch, the heads, the births and the places are as they were, and the other words each fit
pub image_words : (w v : World) (a b : Incarnations) → IsImage w a → v.epoch ≡ w.epoch → v.head ≡ w.head →
    v.birth ≡ w.birth → v.place ≡ w.place → b.epoch ≡ a.epoch → b.slot ≡ a.slot → b.birth ≡ a.birth →
    b.first ≡ a.first → b.last ≡ a.last → b.place ≡ a.place →
    ((s : ℕ) → v.link s ≡ link_shown b (b.last s)) → ((s : ℕ) → v.key s ≡ key_shown b (b.last s)) →
    ((s : ℕ) → v.value s ≡ value_shown b (b.last s)) → ((s : ℕ) → v.stamp s ≡ b.stamp s) → IsImage v b
image_words w v a b i e eh eb ep ae asl abi af ala apl link key value stamp = record {
  epoch = e ∙ i.epoch ∙ sym ae;
  head = λ k. ap (λ f. f k) eh ∙ i.head k
      ∙ sym (ap (λ f. link_to_next b 0 (f k)) af ∙ to_next_same a b asl abi 0 (a.first k));
  link = link;
  birth = λ s.
      ap (λ f. f s) eb ∙ i.birth s
      ∙ sym (ap (λ f. birth_shown b (f s)) ala ∙ birth_kept a b (a.last s) (λ c q. ap (λ f. f c) abi));
  key = key;
  value = value;
  stamp = stamp;
  place = λ s. ap (λ f. f s) ep ∙ i.place s ∙ sym (ap (λ f. f s) apl);
}

-- the link that stands at a place is that of the image
pub stands : (w : World) (a : Incarnations) (place : At) → IsImage w a → machine.link_at w place ≡ link_shown_at a place
stands w a (Head b) i = i.head b
stands w a (Slot s) i = i.link s

-- ---- words have room

birth_fits : {start : Start} {a : Incarnations} → Sound start a → Fits start a → (c : ℕ) → c < a.count →
    a.birth c ≤ start.shape.last_epoch
birth_fits s f c lt = let u = s.slots.born c lt in let v = f.epoch in omega arith

next_fits : {start : Start} {a : Incarnations} → Sound start a → Fits start a → (holder : ℕ) (next : Option ℕ) →
    holder ≤ start.shape.last_epoch → ((m : ℕ) → next ≡ Some m → m < a.count) →
    IsLinkOf start.shape (link_to_next a holder next)
next_fits s f holder None le k = record { slot = tt; version = omega arith }
next_fits s f holder (Some m) le k =
    let lt = k m refl in
    record {
      slot = f.slot m lt;
      version = (let u = birth_fits s f m lt in omega arith);
    }

linked_fits : {start : Start} {a : Incarnations} → Sound start a → Fits start a → (c : ℕ) → IsLate (a.state c) 0 →
    IsLinkOf start.shape (link_to_next a (a.birth c) (a.next c))
linked_fits {start} {a} s f c l =
    next_fits s f (a.birth c) (a.next c) (birth_fits s f c (late_born s.slots c 0 l))
    (λ m q. late_born s.slots m 0 (s.lists.handed c m 0 q l))

pub shown_fits : {start : Start} {a : Incarnations} → Sound start a → Fits start a → (l : Option ℕ) →
    IsLinkOf start.shape (link_shown a l)
shown_fits s f None = record { slot = tt; version = omega arith }
shown_fits {start} {a} s f (Some c) = go (a.state c) refl
  where
    marked_fits : (link : Link) → IsLinkOf start.shape link → IsLinkOf start.shape (marked link)
    marked_fits link i = record { slot = i.slot; version = i.version }

    go : (st : State) → a.state c ≡ st → IsLinkOf start.shape (link_in_state a c (a.state c))
    go Linked e = rw e (linked_fits s f c (rw e tt))
    go Marked e = rw e (marked_fits (link_to_next a (a.birth c) (a.next c)) (linked_fits s f c (rw e tt)))
    go (Unlinked q u) e =
        rw e (marked_fits (link_to_next a (a.birth c) (a.next c)) (linked_fits s f c (rw e (omega arith))))
    go (Stamped u r) e =
        rw e (marked_fits (link_to_next a (a.birth c) (a.next c)) (linked_fits s f c (rw e (omega arith))))
    go Unborn e = rw e (f.link c)
    go (InHand q) e = rw e (f.link c)
    go GivenUp e = rw e (f.link c)

-- each link of the image is one of the shape
pub image_fits : {start : Start} {a : Incarnations} → Sound start a → Fits start a → (place : At) →
    IsLinkOf start.shape (link_shown_at a place)
image_fits {start} {a} s f (Head b) =
    next_fits s f 0 (a.first b) (omega arith)
    (λ m q. late_born s.slots m 0 (listed_late (a.state m) 0 (s.lists.first_in b m q).0))
image_fits {start} {a} s f (Slot v) = shown_fits s f (a.last v)

-- what fits stays so where only states, keys, successors and places change
pub fits_kept : {start : Start} (a b : Incarnations) → b.epoch ≡ a.epoch → b.count ≡ a.count → b.slot ≡ a.slot →
    b.link ≡ a.link → Fits start a → Fits start b
fits_kept a b e n s l f = record {
  is_start = f.is_start;
  epoch = rw e f.epoch;
  slot = λ c lt. rw s (f.slot c (omega (arith, n)));
  link = λ c. rw l (f.link c);
}
