-- What the lists stand for while the keys that a world opens with are linked, from the last on.
use Rattle.std.proofs.Common.{◌≡◌, ◌≢◌, ℕ, suc, ◌-◌, ◌^◌, ◌<◌, ◌≤◌, max, nat_lt, [], Some, None, ◌⊎◌, inl, inr, refl}
use Rattle.std.proofs.Common.{sym, ap, ◌∙◌, arith}
use Rattle.std.proofs.lemmas.Bool.{cases_eq, cases_lt, cond-true, cond-false, lt-ltb, le-ltb, eq-eqb, ne_eqb}
use Rattle.std.specs.Prelude.{slice_index_or}
use Rattle.std.proofs.lemmas.List.{get_or_past}
use Rattle.vbr_machine.specs.Start.{Start}
use Rattle.vbr_words.specs.declared.link.Link.{Link}
use Rattle.vbr_words.specs.declared.place.At.TheVariants.{Head, Slot}
use Rattle.vbr_machine.specs.Put.{put}
use Rattle.vbr_words.specs.Buckets.{bucket_of}
use Rattle.vbr_machine.specs.Links.{opening_link, link_to}
use Rattle.vbr_machine.specs.Opened.{key_count, has_opening_key, key_number, value_number, opening_birth, first_number}
use Rattle.vbr_machine.specs.Opened.{is_key_of, first_from, key_behind, birth_named, link_to_key, link_at_opening}
use Rattle.vbr_machine.specs.Opened.{opening_place}
use Rattle.vbr_machine.specs.Machine.{World, knows_nothing, opening, counted, with_link_at}
use Rattle.vbr_machine.specs.Making.{linked_from, opening_from, with_key_ahead}
use Rattle.vbr_machine.specs.declared.knowledge.SlotPlace.TheVariants.{Shared, Listed}
use Rattle.vbr_machine.proofs.words.Puts.{put_here, put_other}

-- ---- slots

-- where nothing is linked from the number on, each slot has nothing
from_last : {A : Type 0} (nothing : A) (later : ℕ → A) (n : ℕ) → ((s : ℕ) → n ≤ s → later s ≡ nothing) →
    ◌≡◌ {A = ℕ → A} (linked_from n nothing later) (λ s. nothing)
from_last {A} nothing later n past = λ k s. by_case s (cases_lt s n) k
  where
    by_case : (s : ℕ) → (s < n) ⊎ (n ≤ s) → linked_from n nothing later s ≡ nothing
    by_case s (inl lt) = cond-true (nat_lt s n) nothing (later s) (lt-ltb s n lt)
    by_case s (inr ge) = cond-false (nat_lt s n) nothing (later s) (le-ltb s n ge) ∙ past s ge

-- from the first on, each has what it has
from_first : {A : Type 0} (nothing : A) (later : ℕ → A) → ◌≡◌ {A = ℕ → A} (linked_from 0 nothing later) later
from_first {A} nothing later = λ k s. cond-false (nat_lt s 0) nothing (later s) (le-ltb s 0 (omega arith)) k

-- from one number earlier, that slot has it too
from_next : {A : Type 0} (nothing : A) (later : ℕ → A) (n : ℕ) (x : A) → x ≡ later n →
    ◌≡◌ {A = ℕ → A} (linked_from n nothing later) (put (linked_from (suc n) nothing later) n x)
from_next {A} nothing later n x e = λ k s. by_case s (cases_eq s n) k
  where
    others : (s : ℕ) → s ≢ n → (s < n) ⊎ (n ≤ s) → linked_from n nothing later s ≡ linked_from (suc n) nothing later s
    others s ne (inl lt) = cond-true (nat_lt s n) nothing (later s) (lt-ltb s n lt)
        ∙ sym (cond-true (nat_lt s (suc n)) nothing (later s) (lt-ltb s (suc n) (omega arith)))
    others s ne (inr ge) = cond-false (nat_lt s n) nothing (later s) (le-ltb s n ge)
        ∙ sym (cond-false (nat_lt s (suc n)) nothing (later s) (le-ltb s (suc n) (omega arith)))

    by_case : (s : ℕ) → (s ≡ n) ⊎ (s ≢ n) →
        linked_from n nothing later s ≡ put (linked_from (suc n) nothing later) n x s
    by_case s (inl same) =
        cond-false (nat_lt s n) nothing (later s) (le-ltb s n (omega arith))
        ∙ ap later same ∙ sym e ∙ sym (put_here (linked_from (suc n) nothing later) n x)
        ∙ ap (put (linked_from (suc n) nothing later) n x) (sym same)
    by_case s (inr ne) = others s ne (cases_lt s n) ∙ sym (put_other (linked_from (suc n) nothing later) n x s ne)

-- ---- links

max_of_zero : (n : ℕ) → max 0 n ≡ n
max_of_zero n = omega arith

born_first : (start : Start) (n : ℕ) → n < key_count start → opening_birth start n ≡ 1
born_first start n low = cond-true (has_opening_key start n) 1 0 (lt-ltb n (key_count start) low)

-- the link of a key, from that at the head before it is linked
link_next : (start : Start) (n : ℕ) → n < key_count start →
    link_to (key_behind start n) 1 (max 0 (birth_named start (key_behind start n))) ≡ link_at_opening start n
link_next start n low =
    ap (link_to (key_behind start n) 1) (max_of_zero (birth_named start (key_behind start n)))
    ∙ ap (λ birth. link_to_key start birth (key_behind start n)) (sym (born_first start n low))
    ∙ sym (cond-true (has_opening_key start n) _ opening_link (lt-ltb n (key_count start) low))

-- the heads once one more key is linked
head_next : (start : Start) (n : ℕ) → n < key_count start →
    ◌≡◌ {A = ℕ → Link} (λ b. link_to_key start 0 (first_from start b n))
    (put (λ b. link_to_key start 0 (first_from start b (suc n))) (bucket_of start.shape (key_number start n))
    (link_to (Some n) 0 1))
head_next start n low = λ k b. by_case b (cases_eq b (bucket_of start.shape (key_number start n))) k
  where
    later : ℕ → Link
    later b = link_to_key start 0 (first_from start b (suc n))

    bucket : ℕ
    bucket = bucket_of start.shape (key_number start n)

    opened : (b : ℕ) → first_from start b n ≡ first_number (is_key_of start b) n (suc (key_count start - suc n))
    opened b =
        let e : key_count start - n ≡ suc (key_count start - suc n) = omega arith in
        ap (first_number (is_key_of start b) n) e

    by_case : (b : ℕ) → (b ≡ bucket_of start.shape (key_number start n))
        ⊎ (b ≢ bucket_of start.shape (key_number start n)) →
        link_to_key start 0 (first_from start b n)
        ≡ put (λ b. link_to_key start 0 (first_from start b (suc n))) (bucket_of start.shape (key_number start n))
        (link_to (Some n) 0 1) b
    by_case b (inl e) =
        ap (link_to_key start 0)
        (opened b ∙ cond-true (is_key_of start b n) (Some n) (first_from start b (suc n)) (eq-eqb _ _ (sym e)))
        ∙ ap (link_to (Some n) 0) (born_first start n low)
        ∙ sym (put_here later bucket (link_to (Some n) 0 1))
        ∙ ap (put later bucket (link_to (Some n) 0 1)) (sym e)
    by_case b (inr ne) =
        ap (link_to_key start 0)
        (opened b ∙ cond-false (is_key_of start b n) (Some n) (first_from start b (suc n))
        (ne_eqb _ _ (λ e. ne (sym e))))
        ∙ sym (put_other later bucket (link_to (Some n) 0 1) b ne)

-- ---- worlds

-- a world that opens with no key
abbrev pub bare : World
bare = record {
  epoch = 1;
  head = λ b. link_to None 0 0;
  link = λ s. opening_link;
  birth = λ s. 0;
  stamp = λ s. 0;
  key = λ s. 0;
  value = λ s. 0;
  place = λ s. Shared;
  know = λ p. knows_nothing;
  births = 0;
  calls = [];
}

-- one more key is linked
pub opening_next : (start : Start) (n : ℕ) → n < key_count start → key_count start < 2 ^ 64 →
    with_key_ahead start n (key_number start n) (value_number start n) (opening_from start (suc n))
    ≡ opening_from start n
opening_next start n low few = sym (λ i. record (opening start) {
  head = head_next start n low i;
  link = from_next opening_link (link_at_opening start) n _ (link_next start n low) i;
  birth = from_next 0 (opening_birth start) n 1 (sym (born_first start n low)) i;
  key = from_next 0 (key_number start) n (key_number start n) refl i;
  value = from_next 0 (value_number start) n (value_number start n) refl i;
  place = from_next Shared (opening_place start) n (Listed (bucket_of start.shape (key_number start n)))
      (sym (cond-true (has_opening_key start n) _ Shared (lt-ltb n (key_count start) low))) i;
  births = count i;
})
  where
    count : key_count start - n ≡ counted (key_count start - suc n)
    count = omega arith

-- all of them are
pub opening_all : (start : Start) → opening_from start 0 ≡ opening start
opening_all start = λ i. record (opening start) {
  link = from_first opening_link (link_at_opening start) i;
  birth = from_first 0 (opening_birth start) i;
  key = from_first 0 (key_number start) i;
  value = from_first 0 (value_number start) i;
  place = from_first Shared (opening_place start) i;
  births = count i;
}
  where
    count : key_count start - 0 ≡ key_count start
    count = omega arith

-- a step of the loop, which links the key before those that are linked
pub opening_step : (start here : Start) (number n slot key value : ℕ) (w v : World) → here ≡ start →
    w ≡ opening_from start number → number ≡ suc n → slot ≡ n → key ≡ key_number start n →
    value ≡ slice_index_or start.payloads n 0 → n < key_count start → key_count start < 2 ^ 64 →
    v ≡ with_key_ahead here slot key value w → v ≡ opening_from start n
opening_step start here number n slot key value w v same is last slot_is read valued low few made =
    made
    ∙ (λ i. with_key_ahead (same i) (slot_is i) (read i)
    ((valued ∙ sym
    (cond-true (has_opening_key start n) (slice_index_or start.payloads n 0) 0 (lt-ltb n (key_count start) low))) i)
    ((is ∙ ap (opening_from start) last) i))
    ∙ opening_next start n low few

-- the writes that link a key
pub key_linked : (start : Start) (number key value bucket : ℕ) (w a b c d f e : World) (head link first : Link) →
    bucket ≡ bucket_of start.shape key → head ≡ w.head bucket → link ≡ link_to head.slot 1 head.version →
    first ≡ link_to (Some number) 0 1 →
    a ≡ with_link_at w (Slot number) link → b ≡ with_link_at a (Head bucket) first →
    c ≡ record b { birth = put b.birth number 1; births = counted b.births } →
    d ≡ record c { key = put c.key number key } → f ≡ record d { value = put d.value number value } →
    e ≡ record f { place = put f.place number (Listed bucket) } → e ≡ with_key_ahead start number key value w
key_linked start number key value bucket w a b c d f e head link first in_bucket is_head is_link is_first slot front
    birth keyed valued placed =
    placed
    ∙ ap (λ (v : World). record v { place = put v.place number (Listed bucket) }) (
    valued
    ∙ ap (λ (v : World). record v { value = put v.value number value }) (
    keyed
    ∙ ap (λ (v : World). record v { key = put v.key number key }) (
    birth
    ∙ ap (λ (v : World). record v { birth = put v.birth number 1; births = counted v.births })
    (front ∙ ap (λ (v : World). with_link_at v (Head bucket) first) slot))))
    ∙ (λ i. record w {
      head = put w.head (in_bucket i) (is_first i);
      link = put w.link number (new_link i);
      birth = put w.birth number 1;
      key = put w.key number key;
      value = put w.value number value;
      place = put w.place number (Listed (in_bucket i));
      births = counted w.births;
    })
  where
    named : head ≡ w.head (bucket_of start.shape key)
    named = is_head ∙ ap w.head in_bucket

    new_link : link ≡ link_to (w.head (bucket_of start.shape key)).slot 1 (w.head (bucket_of start.shape key)).version
    new_link = is_link ∙ ap (λ (k : Link). link_to k.slot 1 k.version) named

-- none of them is
pub opening_none : (start : Start) → opening_from start (key_count start) ≡ bare
opening_none start = λ i. record (opening start) {
  head = λ b. link_to_key start 0 (first_number (is_key_of start b) (key_count start) (none i));
  link = from_last opening_link (link_at_opening start) (key_count start)
      (λ s past. cond-false (has_opening_key start s) _ opening_link (le-ltb s (key_count start) past)) i;
  birth = from_last 0 (opening_birth start) (key_count start)
      (λ s past. cond-false (has_opening_key start s) 1 0 (le-ltb s (key_count start) past)) i;
  key = from_last 0 (key_number start) (key_count start) (λ s past. get_or_past start.keys s 0 past) i;
  value = from_last 0 (value_number start) (key_count start)
      (λ s past. cond-false (has_opening_key start s) _ 0 (le-ltb s (key_count start) past)) i;
  place = from_last Shared (opening_place start) (key_count start)
      (λ s past. cond-false (has_opening_key start s) _ Shared (le-ltb s (key_count start) past)) i;
  births = none i;
}
  where
    none : key_count start - key_count start ≡ 0
    none = omega arith
