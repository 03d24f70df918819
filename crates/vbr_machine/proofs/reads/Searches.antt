-- What is looked up among good reads is good.
use Rattle.std.proofs.Common.{◌≡◌, ℕ, ◌≤◌, true, List, [], ◌∷◌, Option, Some, None, refl, arith, sym, subst, ap, ◌∙◌}
use Rattle.std.proofs.Common.{⊎_elim}
use Rattle.std.specs.Prelude.{IsSome, unwrap_or}
use Rattle.std.specs.List.{AllByRecursion, Contains}
use Rattle.vbr_machine.specs.Start.{Start}
use Rattle.vbr_words.specs.declared.link.Link.{Link}
use Rattle.vbr_words.specs.declared.place.At.{At}
use Rattle.vbr_words.specs.declared.place.At.TheVariants.{Slot}
use Rattle.vbr_machine.specs.Knowledge.{knows_link, birth_in, key_in, marked_in, holds, birth_of, value_in}
use Rattle.vbr_machine.specs.Incarnations.{Incarnations}
use Rattle.vbr_machine.specs.Images.{birth_shown}
use Rattle.vbr_machine.specs.Sound.{SlotsSound}
use Rattle.vbr_machine.specs.Notes.{Note}
use Rattle.vbr_machine.specs.Agreement.{IsHeldIncarnation, IsHeldNext, IsOfHeldOne, IsGoodLink, IsGoodRead, IsGood}
use Rattle.vbr_machine.specs.Agreement.{reads_of}
use Rattle.vbr_machine.specs.declared.knowledge.Read.{Read}
use Rattle.vbr_machine.specs.declared.knowledge.Read.TheVariants.{LinkAt}
use Rattle.vbr_machine.proofs.chronicles.Slots.{one_late}
use Rattle.vbr_machine.proofs.reads.FoundReads.{NodeWord, Birth, Key, Value, read_of, word_in, word_among, link_among}
use Rattle.vbr_machine.proofs.reads.FoundReads.{marked_among, holds_among, none_in, first_or_later}

-- ---- what is found

-- a read of noted reads has a note, of which holds what holds of all notes
pub note_of_known : (P : Note → Type 0) (notes : List Note) (read : Read) → Contains (reads_of notes) read →
    AllByRecursion P notes → (note : Note) × (note.read ≡ read) × P note
note_of_known P [] read m h = absurd (none_in read m)
note_of_known P (note ∷ notes) read m h =
    ⊎_elim (λ q. (note, q, h.0)) (λ n. note_of_known P notes read n h.1)
    (first_or_later note.read read (reads_of notes) m)

-- and what is good of all notes, of the read
pub good_among : (a : Incarnations) (e : ℕ) (notes : List Note) (read : Read) → Contains (reads_of notes) read →
    AllByRecursion (IsGood a e) notes → (of named : Option ℕ) × IsGoodRead a e read of named
good_among a e notes read m g =
    let x = note_of_known (IsGood a e) notes read m g in
    let P : Read → Type 0 = λ r. IsGoodRead a e r x.0.of x.0.names in
    (x.0.of, x.0.names, subst P x.1 x.2)

-- the word of an incarnation
abbrev pub word_of_node : NodeWord → Incarnations → ℕ → ℕ
word_of_node Birth a = a.birth
word_of_node Key a = a.key
word_of_node Value a = a.value

-- a good read of a word is that of an incarnation held there
pub word_held : (a : Incarnations) (e : ℕ) (word : NodeWord) (s b : ℕ) →
    ((of named : Option ℕ) × IsGoodRead a e (read_of word s b) of named) →
    (c : ℕ) × IsHeldIncarnation a e s c × (word_of_node word a c ≡ b)
word_held a e word s b (of, named, h) = one word of h
  where
    some : (values : ℕ → ℕ) (of : Option ℕ) → IsOfHeldOne a e s values b of →
        (c : ℕ) × IsHeldIncarnation a e s c × (values c ≡ b)
    some values None h = absurd h
    some values (Some c) h = (c, h.0, h.1)

    one : (word : NodeWord) (of : Option ℕ) → IsGoodRead a e (read_of word s b) of named →
        (c : ℕ) × IsHeldIncarnation a e s c × (word_of_node word a c ≡ b)
    one Birth of h = some a.birth of h
    one Key of h = some a.key of h
    one Value of h = some a.value of h

-- and so is one that is found
word_found : (a : Incarnations) (e : ℕ) (word : NodeWord) (notes : List Note) (s b : ℕ) →
    word_in word (reads_of notes) s ≡ Some b → AllByRecursion (IsGood a e) notes →
    (c : ℕ) × IsHeldIncarnation a e s c × (word_of_node word a c ≡ b)
word_found a e word notes s b q g =
    word_held a e word s b (good_among a e notes (read_of word s b) (word_among word (reads_of notes) s b q) g)

-- an incarnation of a slot that a link names is held
pub named_held : (a : Incarnations) (e s : ℕ) (v n : Option ℕ) → v ≡ Some s → IsHeldNext a e v n →
    (c : ℕ) × IsHeldIncarnation a e s c
named_held a e s None n q h = absurd (cc)
named_held a e s (Some i) None q h = absurd h
named_held a e s (Some i) (Some c) q h =
    let P : ℕ → Type 0 = λ j. IsHeldIncarnation a e j c in let k : i ≡ s = cc in (c, subst P k h)

-- where a slot is held, so is an incarnation of it
pub held_found : (a : Incarnations) (e : ℕ) (notes : List Note) (s : ℕ) → holds (reads_of notes) s ≡ true →
    AllByRecursion (IsGood a e) notes → (c : ℕ) × IsHeldIncarnation a e s c
held_found a e notes s q g =
    let m = holds_among (reads_of notes) s q in
    let x = good_among a e notes (LinkAt m.0 m.1) m.2 g in
    named_held a e s m.1.slot x.1 m.3 x.2.next

-- a link that is found is good
pub link_found : (a : Incarnations) (e : ℕ) (notes : List Note) (place : At) (link : Link) →
    knows_link (reads_of notes) place link ≡ true → AllByRecursion (IsGood a e) notes →
    (of : Option ℕ) × (named : Option ℕ) × IsGoodLink a e place link of named
link_found a e notes place link q g = good_among a e notes (LinkAt place link)
    (link_among (reads_of notes) place link q) g

-- a marked link that is found is good and marked
pub marked_found : (a : Incarnations) (e : ℕ) (notes : List Note) (s : ℕ) (link : Link) →
    marked_in (reads_of notes) s ≡ Some link → AllByRecursion (IsGood a e) notes →
    (of : Option ℕ) × (named : Option ℕ) × IsGoodLink a e (Slot s) link of named × (link.mark ≡ true)
marked_found a e notes s link q g =
    let m = marked_among (reads_of notes) s link q in
    let x = good_among a e notes (LinkAt (Slot s) link) m.0 g in
    (x.0, x.1, x.2, m.1)

-- ---- what was checked is that of the incarnation that the pass holds

-- what holds of a value that there may be, and there is one, holds of it
pub some_holds : (P : ℕ → Type 0) (o : Option ℕ) → IsSome o → ((x : ℕ) → o ≡ Some x → P x) → P (unwrap_or o 0)
some_holds P None h each = absurd (cc)
some_holds P (Some x) h each = each x refl

-- what is found of a word of a node that is held is its own
abbrev IsTold : Incarnations → (List Read → ℕ → Option ℕ) → (ℕ → ℕ) → Type 0
IsTold a found_in own = (e : ℕ) (notes : List Note) (reads : List Read) (s c : ℕ) → reads ≡ reads_of notes →
    AllByRecursion (IsGood a e) notes → IsHeldIncarnation a e s c → IsSome (found_in reads s) →
    unwrap_or (found_in reads s) 0 ≡ own c

word_is : {start : Start} {a : Incarnations} → SlotsSound start a →
    (word : NodeWord) (e : ℕ) (notes : List Note) (reads : List Read) (s c : ℕ) → reads ≡ reads_of notes →
    AllByRecursion (IsGood a e) notes → IsHeldIncarnation a e s c → IsSome (word_in word reads s) →
    unwrap_or (word_in word reads s) 0 ≡ word_of_node word a c
word_is {start} {a} snd word e notes reads s c q al h k =
    some_holds (λ b. b ≡ word_of_node word a c) (word_in word reads s) k (λ b r.
    let x = word_found a e word notes s b (rw q at r) al in
    sym x.2 ∙ ap (word_of_node word a) (one_late snd x.0 c e (x.1.slot ∙ sym h.slot) x.1.late h.late x.1.birth h.birth))

pub birth_is : {start : Start} {a : Incarnations} → SlotsSound start a → IsTold a birth_in a.birth
birth_is snd = word_is snd Birth

pub key_is : {start : Start} {a : Incarnations} → SlotsSound start a → IsTold a key_in a.key
key_is snd = word_is snd Key

pub value_is : {start : Start} {a : Incarnations} → SlotsSound start a → IsTold a value_in a.value
value_is snd = word_is snd Value

pub birth_of_is : {start : Start} {a : Incarnations} → SlotsSound start a →
    (e : ℕ) (notes : List Note) (reads : List Read) (v n : Option ℕ) → reads ≡ reads_of notes →
    AllByRecursion (IsGood a e) notes → IsHeldNext a e v n → IsSome (birth_of reads v) →
    unwrap_or (birth_of reads v) 0 ≡ birth_shown a n
birth_of_is snd e notes reads None None q al h k = refl
birth_of_is snd e notes reads None (Some c) q al h k = absurd h
birth_of_is snd e notes reads (Some s) None q al h k = absurd h
birth_of_is snd e notes reads (Some s) (Some c) q al h k = birth_is snd e notes reads s c q al h k

-- a birth that was checked is no greater than the epoch of its pass
pub birth_low : (a : Incarnations) (e : ℕ) (notes : List Note) (reads : List Read) (s : ℕ) → reads ≡ reads_of notes →
    AllByRecursion (IsGood a e) notes → unwrap_or (birth_in reads s) 0 ≤ e
birth_low a e notes reads s q al = go (birth_in reads s) refl
  where
    go : (o : Option ℕ) → birth_in reads s ≡ o → unwrap_or o 0 ≤ e
    go None r = omega arith
    go (Some b) r =
        let x = word_found a e Birth notes s b (rw q at r) al in let y = x.1.birth in let z = x.2 in omega arith
