-- The checked reads of a pass at a slot are all of the one incarnation that it holds there.
use Rattle.std.proofs.Common.{◌≡◌, ℕ, true, List, [], ◌∷◌, Option, Some, None, refl, arith, sym, subst, ap, ◌∙◌, inl}
use Rattle.std.proofs.Common.{inr}
use Rattle.std.specs.List.{AllByRecursion}
use Rattle.std.proofs.lemmas.Bool.Decides.{nat_tests}
use Rattle.std.proofs.lemmas.Bool.{cases_Bool}
use Rattle.vbr_machine.specs.Start.{Start}
use Rattle.vbr_words.specs.declared.place.At.TheVariants.{Head, Slot}
use Rattle.vbr_machine.specs.Knowledge.{Know, names, holds}
use Rattle.vbr_machine.specs.Incarnations.{Incarnations}
use Rattle.vbr_machine.specs.Sound.{Sound}
use Rattle.vbr_machine.specs.Notes.{Note, Notes, IsAmong, LinkNames, IsHeldBy, HoldsJust, IsOfHeld, ReadsHeld}
use Rattle.vbr_machine.specs.Notes.{AreRightReads}
use Rattle.vbr_machine.specs.Agreement.{IsHeldIncarnation, IsHeldNext, IsGoodRead, IsGood, IsAsShown, reads_of}
use Rattle.vbr_machine.specs.Agreement.{FitsNotes}
use Rattle.vbr_machine.specs.declared.knowledge.Read.{Read}
use Rattle.vbr_machine.specs.declared.knowledge.Read.TheVariants.{LinkAt, BirthOf, KeyOf, ValueOf}
use Rattle.vbr_machine.proofs.chronicles.Slots.{one_late}
use Rattle.vbr_machine.proofs.reads.HeldSlots.{IsOfHeldPlace, ReadsHeldPlaces}

-- what is so of all notes is so of each
pub among_all : (P : Note → Type 0) (note : Note) (notes : List Note) → AllByRecursion P notes → IsAmong note notes →
    P note
among_all P note [] h m = absurd m
among_all P note (first ∷ notes) h (inl e) = subst P (sym e) h.0
among_all P note (first ∷ notes) h (inr m) = among_all P note notes h.1 m

moved : (a : Incarnations) (e s t c d : ℕ) → t ≡ s → d ≡ c → IsHeldIncarnation a e t d → IsHeldIncarnation a e s c
moved a e s t c d p q h =
    let P : ℕ → Type 0 = λ i. IsHeldIncarnation a e i d in
    let Q : ℕ → Type 0 = λ i. IsHeldIncarnation a e s i in
    subst Q q (subst P p h)

-- an incarnation that a good link names is held
gives_held : (a : Incarnations) (e s c : ℕ) (read : Read) (of named : Option ℕ) → IsGoodRead a e read of named →
    LinkNames read s → named ≡ Some c → IsHeldIncarnation a e s c
gives_held a e s c (BirthOf v b) of named g n q = absurd n
gives_held a e s c (KeyOf v b) of named g n q = absurd n
gives_held a e s c (ValueOf v b) of named g n q = absurd n
gives_held a e s c (LinkAt place link) of named g n q = go link.slot named g.next n q
  where
    go : (o m : Option ℕ) → IsHeldNext a e o m → o ≡ Some s → m ≡ Some c → IsHeldIncarnation a e s c
    go None m h p q = absurd (cc)
    go (Some t) None h p q = absurd (cc)
    go (Some t) (Some d) h p q = moved a e s t c d (cc) (cc) h

-- what a pass holds is late for its epoch
pub holds_held : (a : Incarnations) (e : ℕ) (notes : List Note) → AllByRecursion (IsGood a e) notes → (s c : ℕ) →
    IsHeldBy notes s c → IsHeldIncarnation a e s c
holds_held a e notes al s c (note, m, g) =
    gives_held a e s c note.read note.of note.names (among_all (IsGood a e) note notes al m) g.0 g.1

-- at a slot it holds one
pub holds_one : {start : Start} {a : Incarnations} → Sound start a → (e : ℕ) (notes : List Note) →
    AllByRecursion (IsGood a e) notes → (s c d : ℕ) → IsHeldBy notes s c → IsHeldBy notes s d → c ≡ d
holds_one {start} {a} snd e notes al s c d hc hd =
    let x = holds_held a e notes al s c hc in
    let y = holds_held a e notes al s d hd in
    one_late snd.slots c d e (x.slot ∙ sym y.slot) x.late y.late x.birth y.birth

holds_later : (note : Note) (notes : List Note) (s c : ℕ) → IsHeldBy notes s c → IsHeldBy (note ∷ notes) s c
holds_later note notes s c (n, m, g) = (n, inr m, g)

named_some : (a : Incarnations) (e s : ℕ) (o m : Option ℕ) → names o s ≡ true → IsHeldNext a e o m →
    (c : ℕ) × (o ≡ Some s) × (m ≡ Some c)
named_some a e s None m q h = absurd (cc)
named_some a e s (Some t) None q h = absurd h
named_some a e s (Some t) (Some c) q h = let k : t ≡ s = grind (arith, nat_tests) in (c, ap Some k, refl)

-- a slot that is held has an incarnation that is
pub holds_some : (a : Incarnations) (e : ℕ) (notes : List Note) (s : ℕ) → holds (reads_of notes) s ≡ true →
    AllByRecursion (IsGood a e) notes → (c : ℕ) × IsHeldBy notes s c
holds_some a e [] s q al = absurd (cc)
holds_some a e (note ∷ notes) s q al =
    go note.read refl (λ r. let x = holds_some a e notes s r al.1 in (x.0, holds_later note notes s x.0 x.1))
  where
    go : (read : Read) → note.read ≡ read → (holds (reads_of notes) s ≡ true → (c : ℕ) × IsHeldBy (note ∷ notes) s c) →
        (c : ℕ) × IsHeldBy (note ∷ notes) s c
    go (BirthOf v b) r rest = rest (rw r at q)
    go (KeyOf v b) r rest = rest (rw r at q)
    go (ValueOf v b) r rest = rest (rw r at q)
    go (LinkAt place link) r rest = elim (cases_Bool (names link.slot s)) [
      | inl k ↦
          let g : IsGoodRead a e (LinkAt place link) note.of note.names = rw r at al.0 in
          let x = named_some a e s link.slot note.names k g.next in
          (x.0, (note, inl refl, (rw r x.1, x.2)))
      | inr k ↦ rest (let z : holds (LinkAt place link ∷ reads_of notes) s ≡ true = rw r at q in rw k at z)
    ]

-- the incarnation that a pass holds at a slot that is held
pub holds_just : {start : Start} {a : Incarnations} → Sound start a → (e : ℕ) (notes : List Note) →
    AllByRecursion (IsGood a e) notes → (s c : ℕ) → holds (reads_of notes) s ≡ true → IsHeldIncarnation a e s c →
    HoldsJust notes s c
holds_just {start} {a} snd e notes al s c q h =
    let x = holds_some a e notes s q al in
    let y = holds_held a e notes al s x.0 x.1 in
    let same : x.0 ≡ c = one_late snd.slots x.0 c e (y.slot ∙ sym h.slot) y.late h.late y.birth h.birth in
    record {
      held = (let P : ℕ → Type 0 = λ i. IsHeldBy notes s i in subst P same x.1);
      only = λ d hd. holds_one snd e notes al s d x.0 hd x.1 ∙ same;
    }

-- a slot that is held has one incarnation that the pass holds there
pub holds_only : {start : Start} {a : Incarnations} → Sound start a → (e : ℕ) (notes : List Note) →
    AllByRecursion (IsGood a e) notes → (s : ℕ) → holds (reads_of notes) s ≡ true → (c : ℕ) × HoldsJust notes s c
holds_only {start} {a} snd e notes al s q =
    let x = holds_some a e notes s q al in
    (x.0, record { held = x.1; only = λ d hd. holds_one snd e notes al s d x.0 hd x.1 })

of_held : {start : Start} {a : Incarnations} → Sound start a → (e : ℕ) (notes : List Note) →
    AllByRecursion (IsGood a e) notes → (s c : ℕ) → holds (reads_of notes) s ≡ true → IsHeldIncarnation a e s c →
    IsOfHeld notes s (Some c)
of_held snd e notes al s c q h = (c, holds_just snd e notes al s c q h, refl)

reads_held : {start : Start} {a : Incarnations} → Sound start a → (e : ℕ) (notes : List Note) →
    AllByRecursion (IsGood a e) notes → (read : Read) (of named : Option ℕ) → IsOfHeldPlace (reads_of notes) read →
    IsGoodRead a e read of named → ReadsHeld notes read of
reads_held snd e notes al (LinkAt (Head b) link) of named q g = tt
reads_held snd e notes al (LinkAt (Slot s) link) None named q g = absurd g.place
reads_held snd e notes al (LinkAt (Slot s) link) (Some c) named q g = of_held snd e notes al s c q g.place
reads_held snd e notes al (BirthOf s b) None named q g = absurd g
reads_held snd e notes al (BirthOf s b) (Some c) named q g = of_held snd e notes al s c q g.0
reads_held snd e notes al (KeyOf s b) None named q g = absurd g
reads_held snd e notes al (ValueOf s b) None named q g = absurd g
reads_held snd e notes al (KeyOf s b) (Some c) named q g = of_held snd e notes al s c q g.0
reads_held snd e notes al (ValueOf s b) (Some c) named q g = of_held snd e notes al s c q g.0

of_held_among : (checked : List Read) (note : Note) (notes : List Note) →
    AllByRecursion (IsOfHeldPlace checked) (reads_of notes) → IsAmong note notes → IsOfHeldPlace checked note.read
of_held_among checked note [] h m = absurd m
of_held_among checked note (first ∷ notes) h (inl e) =
    let P : Note → Type 0 = λ n. IsOfHeldPlace checked n.read in subst P (sym e) h.0
of_held_among checked note (first ∷ notes) h (inr m) = of_held_among checked note notes h.1 m

-- the checked reads of a pass whose reads are of held places are right
pub right_reads : {start : Start} {a : Incarnations} → Sound start a → (know : Know) (notes : Notes) →
    FitsNotes a know notes → ReadsHeldPlaces know → AreRightReads notes.checked
right_reads {start} {a} snd know notes k r note m =
    let all : AllByRecursion (IsOfHeldPlace (reads_of notes.checked)) (reads_of notes.checked) =
    rw k.checked_reads at r.checked in
    record {
      held = reads_held snd know.epoch notes.checked k.checked note.read note.of note.names
          (of_held_among (reads_of notes.checked) note notes.checked all m)
          (among_all (IsGood a know.epoch) note notes.checked k.checked m);
      value = among_all IsAsShown note notes.checked k.checked_shown m;
    }
