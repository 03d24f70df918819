-- Events that don't change a bucket's list leave the epoch, and each linked place of it as it was.
use Rattle.std.proofs.Common.{◌≡◌, ◌≢◌, ℕ, ◌+◌, ◌<◌, Bool, true, false, not, List, [], ◌∷◌, Option, Some, None, refl}
use Rattle.std.proofs.Common.{sym, ap, ◌∙◌, subst, inl, inr, eq-eqb, arith}
use Rattle.std.specs.Prelude.{◌==◌, ◌&&◌, ◌⊎◌}
use Rattle.std.specs.List.{AllByRecursion}
use Rattle.std.proofs.lemmas.Bool.{cases_eq, ne_eqb}
use Rattle.vbr_words.specs.declared.place.At.{At}
use Rattle.vbr_words.specs.declared.place.At.TheVariants.{Head, Slot}
use Rattle.vbr_words.specs.Buckets.{bucket_of}
use Rattle.vbr_machine.specs.Start.{Start}
use Rattle.vbr_machine.specs.Put.{put}
use Rattle.vbr_machine.specs.Keys.{Keys}
use Rattle.vbr_machine.specs.Links.{link_to}
use Rattle.vbr_machine.specs.Images.{key_shown, link_in_state, link_shown, link_shown_at, link_to_next}
use Rattle.vbr_machine.specs.Incarnations.{State, InHand, GivenUp, Linked, Marked, Unlinked, Stamped, Incarnations}
use Rattle.vbr_machine.specs.Chronicles.{Happening, Advances, Gains, Probes, Raises, GivesUp, Bears, Keyed, Valued}
use Rattle.vbr_machine.specs.Chronicles.{Aims, Inserts, Removes, Replaces, Unlinks, Stamps, Confirms, AtHead, AtNode}
use Rattle.vbr_machine.specs.Chronicles.{Entry, Allowed, IsLastDead, IsGivenUp, IsDead, MayBeBornIn, MayStamp, becomes}
use Rattle.vbr_machine.specs.Chronicles.{incarnations_from, IsLawful, entries_by, unlinked_at}
use Rattle.vbr_machine.specs.Disturbances.{changes, one_if, disturbances_in, own_changes_in, IsLinkedIn, IsOpenIn}
use Rattle.vbr_machine.specs.Sound.{Sound, Grows}
use Rattle.vbr_machine.specs.declared.knowledge.SlotPlace.{SlotPlace}
use Rattle.vbr_machine.specs.declared.knowledge.SlotPlace.TheVariants.{Shared, Own, Hand, Listed}
use Rattle.vbr_machine.proofs.chronicles.Growth.{grows_after}
use Rattle.vbr_machine.proofs.chronicles.Lists.{next_listed}
use Rattle.vbr_machine.proofs.words.Puts.{put_other}
use Rattle.vbr_machine.proofs.chronicles.Slots.{late_born, listed_late}
use Rattle.vbr_machine.proofs.chronicles.SoundAfter.{sound_kept}

-- ---- calm events

-- none of these events changes the list of a bucket, or moves the epoch
abbrev pub IsCalm : Start → ℕ → Incarnations → List Entry → Type 0
IsCalm start bucket a [] = Unit {0}
IsCalm start bucket a (entry ∷ entries) =
    (changes start a bucket entry.what ≡ false) × IsCalm start bucket (becomes start a entry.pass entry.what) entries

-- no event is of a pass
abbrev pub NoneBy : ℕ → List Entry → Type 0
NoneBy who entries = AllByRecursion (λ (entry : Entry). entry.pass ≢ who) entries

pub none_by : (who : ℕ) (entries : List Entry) → entries_by who entries ≡ [] → NoneBy who entries
none_by who [] e = tt
none_by who (entry ∷ entries) e = go (cases_eq entry.pass who) (λ rest. none_by who entries rest)
  where
    go : (entry.pass ≡ who) ⊎ (entry.pass ≢ who) → (entries_by who entries ≡ [] → NoneBy who entries) →
        NoneBy who (entry ∷ entries)
    go (inl mine) on = absurd (let z : entry ∷ entries_by who entries ≡ [] = rw (eq-eqb entry.pass who mine) at e in cc)
    go (inr other) on = (other, on (rw (ne_eqb entry.pass who other) at e))

one_of_two : (p q : Bool) (m n : ℕ) → one_if (not p && q) + m ≡ 0 → one_if (p && q) + n ≡ 0 →
    (q ≡ false) × (m ≡ 0) × (n ≡ 0)
one_of_two true true m n x y = absurd (omega (arith, y))
one_of_two false true m n x y = absurd (omega (arith, x))
one_of_two true false m n x y = (refl, omega (arith, x), omega (arith, y))
one_of_two false false m n x y = (refl, omega (arith, x), omega (arith, y))

-- what neither disturbs a pass nor is a change of its own is calm
pub calm_from : (start : Start) (who bucket : ℕ) (a : Incarnations) (entries : List Entry) →
    own_changes_in start who bucket a entries ≡ 0 → disturbances_in start who bucket a entries ≡ 0 →
    IsCalm start bucket a entries
calm_from start who bucket a [] own z = tt
calm_from start who bucket a (entry ∷ entries) own z =
    let b = becomes start a entry.pass entry.what in
    let one = one_of_two (entry.pass == who) (changes start a bucket entry.what)
    (disturbances_in start who bucket b entries) (own_changes_in start who bucket b entries) z own in
    (one.0, calm_from start who bucket b entries one.2 one.1)

counts_no_own : (p q : Bool) → p ≡ false → one_if (p && q) ≡ 0
counts_no_own true q e = absurd (cc)
counts_no_own false q e = refl

-- where no event is of the pass, it changes nothing itself
pub none_changes : (start : Start) (who bucket : ℕ) (a : Incarnations) (entries : List Entry) → NoneBy who entries →
    own_changes_in start who bucket a entries ≡ 0
none_changes start who bucket a [] none = refl
none_changes start who bucket a (entry ∷ entries) none =
    let one = counts_no_own (entry.pass == who) (changes start a bucket entry.what) (ne_eqb entry.pass who none.0) in
    let rest = none_changes start who bucket (becomes start a entry.pass entry.what) entries none.1 in
    omega (arith, one, rest)

-- ---- the epoch

epoch_kept : (start : Start) (a : Incarnations) (bucket pass : ℕ) (what : Happening) →
    changes start a bucket what ≡ false → (becomes start a pass what).epoch ≡ a.epoch
epoch_kept start a bucket pass Advances e = absurd (cc)
epoch_kept start a bucket pass (Gains v) e = refl
epoch_kept start a bucket pass (Probes v) e = refl
epoch_kept start a bucket pass (Raises v) e = refl
epoch_kept start a bucket pass (GivesUp c) e = refl
epoch_kept start a bucket pass (Bears v birth) e = refl
epoch_kept start a bucket pass (Keyed c key) e = refl
epoch_kept start a bucket pass (Valued c value) e = refl
epoch_kept start a bucket pass (Aims c link) e = refl
epoch_kept start a bucket pass (Inserts c behind) e = refl
epoch_kept start a bucket pass (Removes c) e = refl
epoch_kept start a bucket pass (Replaces old c) e = refl
epoch_kept start a bucket pass (Unlinks c behind) e = refl
epoch_kept start a bucket pass (Stamps c stamp) e = refl
epoch_kept start a bucket pass (Confirms call) e = refl

pub calm_epoch : (start : Start) (bucket : ℕ) (a : Incarnations) (entries : List Entry) →
    IsCalm start bucket a entries → (incarnations_from start a entries).epoch ≡ a.epoch
calm_epoch start bucket a [] calm = refl
calm_epoch start bucket a (entry ∷ entries) calm =
    calm_epoch start bucket (becomes start a entry.pass entry.what) entries calm.1
    ∙ epoch_kept start a bucket entry.pass entry.what calm.0

-- ---- the head

no_eq : (x y : ℕ) → (x == y) ≡ false → x ≢ y
no_eq x y f e = let t : (x == y) ≡ true = eq-eqb x y e in absurd (cc)

-- the first of a bucket stays
first_kept : (start : Start) (keys : Keys) (a : Incarnations) (bucket pass : ℕ) (what : Happening) → Sound start a →
    Allowed start keys a pass what → changes start a bucket what ≡ false →
    (becomes start a pass what).first bucket ≡ a.first bucket
first_kept start keys a bucket pass Advances s h e = refl
first_kept start keys a bucket pass (Gains v) s h e = refl
first_kept start keys a bucket pass (Probes v) s h e = refl
first_kept start keys a bucket pass (Raises v) s h e = refl
first_kept start keys a bucket pass (GivesUp c) s h e = refl
first_kept start keys a bucket pass (Bears v birth) s h e = refl
first_kept start keys a bucket pass (Keyed c key) s h e = refl
first_kept start keys a bucket pass (Valued c value) s h e = refl
first_kept start keys a bucket pass (Aims c link) s h e = refl
first_kept start keys a bucket pass (Inserts c (AtHead b)) s h e =
    put_other a.first b (Some c) bucket (λ is. no_eq (bucket_of start.shape (a.key c)) bucket e (h.above ∙ sym is))
first_kept start keys a bucket pass (Inserts c (AtNode p)) s h e = refl
first_kept start keys a bucket pass (Removes c) s h e = refl
first_kept start keys a bucket pass (Replaces old c) s h e = refl
first_kept start keys a bucket pass (Unlinks c (AtHead b)) s h e =
    put_other a.first b (a.next c) bucket
    (λ is. no_eq (bucket_of start.shape (a.key c)) bucket e ((s.lists.first_in b c h.2).1 ∙ sym is))
first_kept start keys a bucket pass (Unlinks c (AtNode p)) s h e = refl
first_kept start keys a bucket pass (Stamps c stamp) s h e = refl
first_kept start keys a bucket pass (Confirms call) s h e = refl

-- ---- a linked node

not_reborn : (a : Incarnations) (pass v c : ℕ) (place : SlotPlace) → MayBeBornIn a pass v place → a.last v ≡ Some c →
    a.state c ≡ Linked → ⊥
not_reborn a pass v c (Own p) m last linked =
    let P : Option ℕ → Type 0 = IsLastDead a in
    let z : IsDead (a.state c) = subst P last m.1 in
    let w : IsDead Linked = subst IsDead linked z in w
not_reborn a pass v c (Hand p) m last linked =
    let P : Option ℕ → Type 0 = IsGivenUp a in
    let z : a.state c ≡ GivenUp = subst P last m.1 in
    let w : Linked ≡ GivenUp = sym linked ∙ z in absurd (cc)
not_reborn a pass v c Shared m last linked = m
not_reborn a pass v c (Listed b) m last linked = m

-- a linked node stays, and so does its successor
abbrev LinkedKept : Start → Incarnations → Incarnations → ℕ → ℕ → ℕ → Type 0
LinkedKept start a b bucket s c = IsLinkedIn start b bucket s c × (b.next c ≡ a.next c)

linked_kept : (start : Start) (keys : Keys) (a : Incarnations) (bucket pass s c : ℕ) (what : Happening) →
    Sound start a → Allowed start keys a pass what → changes start a bucket what ≡ false →
    IsLinkedIn start a bucket s c → LinkedKept start a (becomes start a pass what) bucket s c
linked_kept start keys a bucket pass s c Advances sound h e l = absurd (cc)
linked_kept start keys a bucket pass s c (Gains v) sound h e l =
    (record { last = l.last; linked = l.linked; of_bucket = l.of_bucket }, refl)
linked_kept start keys a bucket pass s c (Probes v) sound h e l = (l, refl)
linked_kept start keys a bucket pass s c (Raises v) sound h e l =
    (record { last = l.last; linked = l.linked; of_bucket = l.of_bucket }, refl)
linked_kept start keys a bucket pass s c (Valued d value) sound h e l =
    (record { last = l.last; linked = l.linked; of_bucket = l.of_bucket }, refl)
linked_kept start keys a bucket pass s c (Aims d link) sound h e l =
    (record { last = l.last; linked = l.linked; of_bucket = l.of_bucket }, refl)
linked_kept start keys a bucket pass s c (Confirms call) sound h e l =
    (record { last = l.last; linked = l.linked; of_bucket = l.of_bucket }, refl)
linked_kept start keys a bucket pass s c (GivesUp d) sound h e l =
    let ne : c ≢ d = λ q. (let x : Linked ≡ InHand pass = sym l.linked ∙ ap a.state q ∙ h in absurd (cc)) in
    (record { last = l.last; linked = put_other a.state d GivenUp c ne ∙ l.linked; of_bucket = l.of_bucket }, refl)
linked_kept start keys a bucket pass s c (Keyed d key) sound h e l =
    let ne : c ≢ d = λ q. (let x : Linked ≡ InHand pass = sym l.linked ∙ ap a.state q ∙ h in absurd (cc)) in (
      record {
        last = l.last;
        linked = l.linked;
        of_bucket = ap (bucket_of start.shape) (put_other a.key d key c ne) ∙ l.of_bucket;
      },
      refl,
    )
linked_kept start keys a bucket pass s c (Stamps d stamp) sound h e l =
    let P : State → Type 0 = λ st. MayStamp st pass stamp a.epoch in
    let ne : c ≢ d =
    λ q. (let x : MayStamp Linked pass stamp a.epoch = subst P (ap a.state (sym q) ∙ l.linked) h in x) in (
      record {
        last = l.last;
        linked = put_other a.state d (Stamped (unlinked_at (a.state d)) stamp) c ne ∙ l.linked;
        of_bucket = l.of_bucket;
      },
      refl,
    )
linked_kept start keys a bucket pass s c (Bears v birth) sound h e l =
    let low = (sound.slots.last_born s c l.last).0 in
    let ne : c ≢ a.count = (λ q. omega arith) in
    let apart : s ≢ v = λ q. not_reborn a pass v c (a.place v) h.0 (ap a.last (sym q) ∙ l.last) l.linked in (
      record {
        last = put_other a.last v (Some a.count) s apart ∙ l.last;
        linked = put_other a.state a.count (InHand pass) c ne ∙ l.linked;
        of_bucket = ap (bucket_of start.shape) (put_other a.key a.count (key_shown a (a.last v)) c ne) ∙ l.of_bucket;
      },
      put_other a.next a.count None c ne,
    )
linked_kept start keys a bucket pass s c (Inserts d (AtHead b)) sound h e l =
    let ne : c ≢ d = λ q. (let x : Linked ≡ InHand pass = sym l.linked ∙ ap a.state q ∙ h.in_hand in absurd (cc)) in (
      record { last = l.last; linked = put_other a.state d Linked c ne ∙ l.linked; of_bucket = l.of_bucket },
      put_other a.next d (a.first b) c ne,
    )
linked_kept start keys a bucket pass s c (Inserts d (AtNode p)) sound h e l =
    let ne : c ≢ d = λ q. (let x : Linked ≡ InHand pass = sym l.linked ∙ ap a.state q ∙ h.in_hand in absurd (cc)) in
    let apart : c ≢ p =
    λ q. no_eq (bucket_of start.shape (a.key d)) bucket e
    (h.above.0 ∙ ap (λ i. bucket_of start.shape (a.key i)) (sym q) ∙ l.of_bucket) in (
      record { last = l.last; linked = put_other a.state d Linked c ne ∙ l.linked; of_bucket = l.of_bucket },
      put_other (put a.next d (a.next p)) p (Some d) c apart ∙ put_other a.next d (a.next p) c ne,
    )
linked_kept start keys a bucket pass s c (Removes d) sound h e l =
    let ne : c ≢ d =
    λ q. no_eq (bucket_of start.shape (a.key d)) bucket e
    (ap (λ i. bucket_of start.shape (a.key i)) (sym q) ∙ l.of_bucket) in
    (record { last = l.last; linked = put_other a.state d Marked c ne ∙ l.linked; of_bucket = l.of_bucket }, refl)
linked_kept start keys a bucket pass s c (Replaces old d) sound h e l =
    let ne : c ≢ d = λ q. (let x : Linked ≡ InHand pass = sym l.linked ∙ ap a.state q ∙ h.in_hand in absurd (cc)) in
    let apart : c ≢ old =
    λ q. no_eq (bucket_of start.shape (a.key d)) bucket e
    (ap (bucket_of start.shape) h.same ∙ ap (λ i. bucket_of start.shape (a.key i)) (sym q) ∙ l.of_bucket) in (
      record {
        last = l.last;
        linked = put_other (put a.state old Marked) d Linked c ne ∙ put_other a.state old Marked c apart ∙ l.linked;
        of_bucket = l.of_bucket;
      },
      put_other (put a.next d (a.next old)) old (Some d) c apart ∙ put_other a.next d (a.next old) c ne,
    )
linked_kept start keys a bucket pass s c (Unlinks d (AtHead b)) sound h e l =
    let ne : c ≢ d = λ q. (let x : Linked ≡ Marked = sym l.linked ∙ ap a.state q ∙ h.0 in absurd (cc)) in (
      record {
        last = l.last;
        linked = put_other a.state d (Unlinked pass a.epoch) c ne ∙ l.linked;
        of_bucket = l.of_bucket;
      },
      refl,
    )
linked_kept start keys a bucket pass s c (Unlinks d (AtNode p)) sound h e l =
    let ne : c ≢ d = λ q. (let x : Linked ≡ Marked = sym l.linked ∙ ap a.state q ∙ h.0 in absurd (cc)) in
    let apart : c ≢ p =
    λ q. no_eq (bucket_of start.shape (a.key d)) bucket e
    (sym (sound.lists.ordered c d (ap a.next q ∙ h.2)).0 ∙ l.of_bucket) in (
      record {
        last = l.last;
        linked = put_other a.state d (Unlinked pass a.epoch) c ne ∙ l.linked;
        of_bucket = l.of_bucket;
      },
      put_other a.next p (a.next d) c apart,
    )

calm_first : (start : Start) (keys : Keys) (bucket : ℕ) (a : Incarnations) (entries : List Entry) → Sound start a →
    IsLawful start keys a entries → IsCalm start bucket a entries →
    (incarnations_from start a entries).first bucket ≡ a.first bucket
calm_first start keys bucket a [] s l calm = refl
calm_first start keys bucket a (entry ∷ entries) s l calm =
    calm_first start keys bucket (becomes start a entry.pass entry.what) entries
    (sound_kept start keys a entry.pass entry.what s l.0) l.1 calm.1
    ∙ first_kept start keys a bucket entry.pass entry.what s l.0 calm.0

calm_linked : (start : Start) (keys : Keys) (bucket : ℕ) (a : Incarnations) (entries : List Entry) → Sound start a →
    IsLawful start keys a entries → IsCalm start bucket a entries → (s c : ℕ) → IsLinkedIn start a bucket s c →
    LinkedKept start a (incarnations_from start a entries) bucket s c
calm_linked start keys bucket a [] sound l calm s c x = (x, refl)
calm_linked start keys bucket a (entry ∷ entries) sound l calm s c x =
    let one = linked_kept start keys a bucket entry.pass s c entry.what sound l.0 calm.0 x in
    let rest = calm_linked start keys bucket (becomes start a entry.pass entry.what) entries
    (sound_kept start keys a entry.pass entry.what sound l.0) l.1 calm.1 s c one.0 in
    (rest.0, rest.1 ∙ one.1)

-- ---- what is shown

-- a link to what was born shows the same
link_same : {start : Start} {a b : Incarnations} → Sound start a → Grows a b → (holder : ℕ) (next : Option ℕ) →
    ((d : ℕ) → next ≡ Some d → d < a.count) → link_to_next b holder next ≡ link_to_next a holder next
link_same s g holder None low = refl
link_same {start} {a} {b} s g holder (Some d) low =
    let l = low d refl in
    (λ i. link_to (Some (g.slot d l i)) holder (g.birth d l i))

-- a law of chronicles: where nothing changes the list of a bucket, an open place shows the link that it showed
pub calm_shown : (start : Start) (keys : Keys) (bucket : ℕ) (a : Incarnations) (entries : List Entry) → Sound start a →
    IsLawful start keys a entries → IsCalm start bucket a entries → (place : At) → IsOpenIn start a bucket place →
    link_shown_at (incarnations_from start a entries) place ≡ link_shown_at a place
calm_shown start keys bucket a entries s l calm (Head h) is =
    let b = incarnations_from start a entries in
    let g = grows_after start keys a entries s l in
    let same : b.first h ≡ a.first h =
    ap b.first is ∙ calm_first start keys bucket a entries s l calm ∙ ap a.first (sym is) in
    ap (link_to_next b 0) same
    ∙ link_same s g 0 (a.first h) (λ d q. late_born s.slots d 0 (listed_late (a.state d) 0 (s.lists.first_in h d q).0))
calm_shown start keys bucket a entries s l calm (Slot t) (c, x) =
    let b = incarnations_from start a entries in
    let g = grows_after start keys a entries s l in
    let kept = calm_linked start keys bucket a entries s l calm t c x in
    let low : c < a.count = (s.slots.last_born t c x.last).0 in
    let after : link_shown_at b (Slot t) ≡ link_to_next b (b.birth c) (b.next c) =
    ap (link_shown b) kept.0.last ∙ ap (link_in_state b c) kept.0.linked in
    let then : link_shown_at a (Slot t) ≡ link_to_next a (a.birth c) (a.next c) =
    ap (link_shown a) x.last ∙ ap (link_in_state a c) x.linked in
    after
    ∙ (λ i. link_to_next b (g.birth c low i) (kept.1 i))
    ∙ link_same s g (a.birth c) (a.next c)
    (λ d q. late_born s.slots d 0 (listed_late (a.state d) 0 (next_listed s c d q (rw x.linked tt))))
    ∙ sym then
