-- What a search finds is among the reads, and where a read is among them, a search finds one.
use Rattle.std.proofs.Common.{◌≡◌, ℕ, Bool, true, false, List, [], ◌∷◌, Option, Some, None, refl, arith, sym, subst, ap}
use Rattle.std.proofs.Common.{◌∙◌, inl, inr, ⊎_elim}
use Rattle.std.specs.Prelude.{◌⊎◌, ◌==◌, ◌&&◌, if◌then◌else◌, IsSome}
use Rattle.std.specs.List.{Contains}
use Rattle.std.proofs.lemmas.Bool.Decides.{nat_tests}
use Rattle.std.proofs.lemmas.Bool.{cases_Bool, cases_eq, eq-eqb, ne_eqb, eqb-true, and_parts}
use Rattle.std.proofs.lemmas.List.Elements.{Contains-append_cases, Contains-append_right, Contains-push_cases}
use Rattle.vbr_words.specs.declared.link.Link.{Link}
use Rattle.vbr_words.specs.declared.place.At.{At}
use Rattle.vbr_words.specs.declared.place.At.TheVariants.{Head, Slot}
use Rattle.vbr_machine.specs.Links.{same_slot, same_mark, same_link}
use Rattle.vbr_machine.specs.Knowledge.{same_at, knows_link, birth_in, key_in, marked_in, names, holds, value_in}
use Rattle.vbr_machine.specs.declared.knowledge.Read.{Read}
use Rattle.vbr_machine.specs.declared.knowledge.Read.TheVariants.{LinkAt, BirthOf, KeyOf, ValueOf}

-- ---- members of a list

pub none_in : {X : Type 0} (x : X) → Contains [] x → ⊥
none_in x m = omega (arith, m.1)

pub here : {X : Type 0} (x y : X) (xs : List X) → x ≡ y → Contains (x ∷ xs) y
here x y xs q = (0, omega arith, q)

pub there : {X : Type 0} (x y : X) (xs : List X) → Contains xs y → Contains (x ∷ xs) y
there x y xs m = Contains-append_right (x ∷ []) xs y m

pub first_or_later : {X : Type 0} (x y : X) (xs : List X) → Contains (x ∷ xs) y → (x ≡ y) ⊎ Contains xs y
first_or_later x y xs m = ⊎_elim
    (λ n. ⊎_elim (λ e. absurd (none_in y e)) (λ q. inl q) (Contains-push_cases [] x y n))
    (λ n. inr n)
    (Contains-append_cases (x ∷ []) xs y m)

-- ---- tests

same_slot_true : (i j : Option ℕ) → same_slot i j ≡ true → i ≡ j
same_slot_true i j e = grind (arith, nat_tests)

same_mark_true : (b c : Bool) → same_mark b c ≡ true → b ≡ c
same_mark_true b c e = grind arith

pub same_link_true : (v w : Link) → same_link v w ≡ true → v ≡ w
same_link_true v w e =
    let x = and_parts (same_slot v.slot w.slot) (same_mark v.mark w.mark && v.version == w.version) e in
    let y = and_parts (same_mark v.mark w.mark) (v.version == w.version) x.1 in
    let p = same_slot_true v.slot w.slot x.0 in
    let q = same_mark_true v.mark w.mark y.0 in
    let r : v.version ≡ w.version = let z = y.1 in grind (arith, nat_tests) in
    λ i. record { slot = p i; mark = q i; version = r i }

pub same_at_true : (x y : At) → same_at x y ≡ true → x ≡ y
same_at_true (Head b) (Head c) e = ap Head (grind (arith, nat_tests))
same_at_true (Slot b) (Slot c) e = ap Slot (grind (arith, nat_tests))
same_at_true (Head b) (Slot c) e = cc
same_at_true (Slot b) (Head c) e = cc

same_slot_refl : (i : Option ℕ) → same_slot i i ≡ true
same_slot_refl None = refl
same_slot_refl (Some s) = eq-eqb s s refl

same_mark_refl : (b : Bool) → same_mark b b ≡ true
same_mark_refl true = refl
same_mark_refl false = refl

same_link_refl : (link : Link) → same_link link link ≡ true
same_link_refl link =
    rw (same_slot_refl link.slot, same_mark_refl link.mark, eq-eqb link.version link.version refl) refl

same_at_refl : (place : At) → same_at place place ≡ true
same_at_refl (Head b) = eq-eqb b b refl
same_at_refl (Slot s) = eq-eqb s s refl

-- ---- what is found is among the reads

pub link_among : (reads : List Read) (place : At) (link : Link) → knows_link reads place link ≡ true →
    Contains reads (LinkAt place link)
link_among [] place link q = absurd (cc)
link_among (LinkAt at2 seen ∷ reads) place link q = elim (cases_Bool (same_at at2 place && same_link seen link)) [
  | inl k ↦ let u = and_parts (same_at at2 place) (same_link seen link) k in
      let e = same_at_true at2 place u.0 in
      let f = same_link_true seen link u.1 in
      here (LinkAt at2 seen) (LinkAt place link) reads (λ i. LinkAt (e i) (f i))
  | inr k ↦ there (LinkAt at2 seen) (LinkAt place link) reads (link_among reads place link (rw k at q))
]
link_among (read ∷ reads) place link q = there read (LinkAt place link) reads (link_among reads place link q)

-- a word of a node that a read may be of: its birth, its key or its value
pub data NodeWord : Type 0 where
  Birth : NodeWord
  Key : NodeWord
  Value : NodeWord

-- the read of a slot that found this in the word
abbrev pub read_of : NodeWord → ℕ → ℕ → Read
read_of Birth = BirthOf
read_of Key = KeyOf
read_of Value = ValueOf

-- what a search for the word finds
abbrev pub word_in : NodeWord → List Read → ℕ → Option ℕ
word_in Birth = birth_in
word_in Key = key_in
word_in Value = value_in

-- a search finds the first read of its slot, or what it finds behind
word_here : (of : ℕ → ℕ → Read) (reads : List Read) (v d s b : ℕ) (rest : Option ℕ) →
    (if v == s then Some d else rest) ≡ Some b → (rest ≡ Some b → Contains reads (of s b)) →
    Contains (of v d ∷ reads) (of s b)
word_here of reads v d s b rest q later = elim (cases_eq v s) [
  | inl k ↦ let r : Some d ≡ Some b = rw (eq-eqb v s k) at q in
      let e : d ≡ b = cc in
      here (of v d) (of s b) reads (λ i. of (k i) (e i))
  | inr k ↦ there (of v d) (of s b) reads (later (rw (ne_eqb v s k) at q))
]

pub word_among : (word : NodeWord) (reads : List Read) (s b : ℕ) → word_in word reads s ≡ Some b →
    Contains reads (read_of word s b)
word_among Birth (BirthOf v d ∷ reads) s b q =
    word_here BirthOf reads v d s b (birth_in reads s) q (word_among Birth reads s b)
word_among Key (KeyOf v d ∷ reads) s b q = word_here KeyOf reads v d s b (key_in reads s) q (word_among Key reads s b)
word_among Value (ValueOf v d ∷ reads) s b q =
    word_here ValueOf reads v d s b (value_in reads s) q (word_among Value reads s b)
word_among word (read ∷ reads) s b q = there read (read_of word s b) reads (word_among word reads s b q)
word_among Birth [] s b q = absurd (cc)
word_among Key [] s b q = absurd (cc)
word_among Value [] s b q = absurd (cc)

pub marked_among : (reads : List Read) (s : ℕ) (link : Link) → marked_in reads s ≡ Some link →
    Contains reads (LinkAt (Slot s) link) × (link.mark ≡ true)
marked_among [] s link q = absurd (cc)
marked_among (LinkAt place seen ∷ reads) s link q = elim (cases_Bool (same_at place (Slot s) && seen.mark)) [
  | inl k ↦
      let u = and_parts (same_at place (Slot s)) seen.mark k in
      let r : Some seen ≡ Some link = rw k at q in
      let e : place ≡ Slot s = same_at_true place (Slot s) u.0 in
      let f : seen ≡ link = cc in (
        here (LinkAt place seen) (LinkAt (Slot s) link) reads (λ i. LinkAt (e i) (f i)),
        sym (ap (λ (l : Link). l.mark) f) ∙ u.1,
      )
  | inr k ↦ let x = marked_among reads s link (rw k at q) in
      (there (LinkAt place seen) (LinkAt (Slot s) link) reads x.0, x.1)
]
marked_among (read ∷ reads) s link q =
    let x = marked_among reads s link q in (there read (LinkAt (Slot s) link) reads x.0, x.1)

named : (v : Option ℕ) (s : ℕ) → names v s ≡ true → v ≡ Some s
named None s q = absurd (cc)
named (Some t) s q = ap Some (eqb-true t s q)

pub holds_among : (reads : List Read) (s : ℕ) → holds reads s ≡ true →
    (place : At) × (link : Link) × Contains reads (LinkAt place link) × (link.slot ≡ Some s)
holds_among [] s q = absurd (cc)
holds_among (LinkAt place link ∷ reads) s q = elim (cases_Bool (names link.slot s)) [
  | inl k ↦ (place, link, here (LinkAt place link) (LinkAt place link) reads refl, named link.slot s k)
  | inr k ↦ let x = holds_among reads s (rw k at q) in
      (x.0, x.1, there (LinkAt place link) (LinkAt x.0 x.1) reads x.2, x.3)
]
holds_among (read ∷ reads) s q = let x = holds_among reads s q in (x.0, x.1, there read (LinkAt x.0 x.1) reads x.2, x.3)

-- ---- what is among the reads is found

-- a search that passes one more read finds what it found before, or that read
found_more : (test : Bool) (b : Bool) → b ≡ true → (if test then true else b) ≡ true
found_more true b q = refl
found_more false b q = q

some_more : {X : Type 0} (test : Bool) (x : X) (o : Option X) → IsSome o → IsSome (if test then Some x else o)
some_more true x o h = refl
some_more false x o h = h

some_now : {X : Type 0} (test : Bool) (x : X) (o : Option X) → test ≡ true → IsSome (if test then Some x else o)
some_now test x o q = rw q refl

-- what holds at a read, and goes on as one more read is passed, holds wherever the read is among them
found_past : (P : List Read → Type 0) (read : Read) → ((reads : List Read) → P (read ∷ reads)) →
    ((other : Read) (reads : List Read) → P reads → P (other ∷ reads)) → (reads : List Read) → Contains reads read →
    P reads
found_past P read now later [] m = absurd (none_in read m)
found_past P read now later (other ∷ reads) m =
    let Q : Read → Type 0 = λ r. P (r ∷ reads) in
    ⊎_elim (λ q. subst Q (sym q) (now reads)) (λ n. later other reads (found_past P read now later reads n))
    (first_or_later other read reads m)

pub link_there : (reads : List Read) (place : At) (link : Link) → Contains reads (LinkAt place link) →
    knows_link reads place link ≡ true
link_there reads place link m =
    found_past (λ l. knows_link l place link ≡ true) (LinkAt place link)
    (λ l. rw (same_at_refl place, same_link_refl link) refl)
    later reads m
  where
    later : (other : Read) (l : List Read) → knows_link l place link ≡ true → knows_link (other ∷ l) place link ≡ true
    later (LinkAt at2 seen) l h = found_more (same_at at2 place && same_link seen link) (knows_link l place link) h
    later _ l h = h

pub word_there : (word : NodeWord) (reads : List Read) (s b : ℕ) → Contains reads (read_of word s b) →
    IsSome (word_in word reads s)
word_there word reads s b m =
    found_past (λ l. IsSome (word_in word l s)) (read_of word s b) (now word) (later word) reads m
  where
    now : (word : NodeWord) (l : List Read) → IsSome (word_in word (read_of word s b ∷ l) s)
    now Birth l = some_now (s == s) b (birth_in l s) (eq-eqb s s refl)
    now Key l = some_now (s == s) b (key_in l s) (eq-eqb s s refl)
    now Value l = some_now (s == s) b (value_in l s) (eq-eqb s s refl)

    later : (word : NodeWord) (other : Read) (l : List Read) → IsSome (word_in word l s) →
        IsSome (word_in word (other ∷ l) s)
    later Birth (BirthOf v d) l h = some_more (v == s) d (birth_in l s) h
    later Key (KeyOf v d) l h = some_more (v == s) d (key_in l s) h
    later Value (ValueOf v d) l h = some_more (v == s) d (value_in l s) h
    later _ _ l h = h

pub marked_there : (reads : List Read) (s : ℕ) (link : Link) → Contains reads (LinkAt (Slot s) link) →
    link.mark ≡ true → IsSome (marked_in reads s)
marked_there reads s link m t =
    found_past (λ l. IsSome (marked_in l s)) (LinkAt (Slot s) link)
    (λ l. some_now (same_at (Slot s) (Slot s) && link.mark) link (marked_in l s) (rw (same_at_refl (Slot s), t) refl))
    later reads m
  where
    later : (other : Read) (l : List Read) → IsSome (marked_in l s) → IsSome (marked_in (other ∷ l) s)
    later (LinkAt place seen) l h = some_more (same_at place (Slot s) && seen.mark) seen (marked_in l s) h
    later _ l h = h

pub holds_there : (reads : List Read) (s : ℕ) (place : At) (link : Link) → Contains reads (LinkAt place link) →
    link.slot ≡ Some s → holds reads s ≡ true
holds_there reads s place link m t =
    found_past (λ l. holds l s ≡ true) (LinkAt place link) (λ l. rw (ap (λ v. names v s) t ∙ eq-eqb s s refl) refl)
    later
    reads m
  where
    later : (other : Read) (l : List Read) → holds l s ≡ true → holds (other ∷ l) s ≡ true
    later (LinkAt at2 seen) l h = found_more (names seen.slot s) (holds l s) h
    later _ l h = h
