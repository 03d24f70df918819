-- The words at the opening are laid place by place: those of the bare world, then key after key.
use Rattle.std.proofs.Common.{◌≡◌, ◌≢◌, ◌⊎◌, inl, inr, ℕ, ◌+◌, ◌-◌, ◌<◌, nat_lt, ◌≤◌, ◌^◌, Bool, true, false}
use Rattle.std.proofs.Common.{List, Option, Some, None, ◌++◌, length, take, set, get_or, if◌then◌else◌, refl}
use Rattle.std.proofs.Common.{sym, subst, ap, ◌∙◌, length-set, get_or-set_other, get_or-set_same, arith}
use Rattle.std.specs.Prelude.{◌&&◌, bit_and}
use Rattle.std.proofs.Math.Seq.{take-append_seam}
use Rattle.std.proofs.lemmas.Bool.Decides.{nat_tests}
use mathlib.Core.Logic.{dite}
use native.Mathlib.Decide.{ℕ_discrete}
use Rattle.vbr_words.specs.Dimensions.{Dimensions}
use Rattle.vbr_machine.specs.Start.{Start, empty_start, start_with}
use Rattle.vbr_words.specs.Words.{word_of}
use Rattle.vbr_words.specs.Flags.{word_of_flag, all_but, flag_words, flag_word}
use Rattle.vbr_words.specs.Places.{IsIn, index_of, place_of, words_in}
use Rattle.vbr_words.specs.declared.link.TheConstants.{MARK}
use Rattle.vbr_words.specs.Links.{IsLinkOf}
use Rattle.vbr_words.specs.Packing.{packed, slot_bits}
use Rattle.vbr_words.specs.declared.link.Link.{Link}
use Rattle.vbr_words.specs.declared.place.At.{At}
use Rattle.vbr_words.specs.declared.place.At.TheVariants as holder
use Rattle.vbr_words.specs.declared.place.Place.{Place}
use Rattle.vbr_words.specs.declared.place.Place.TheVariants.{Epoch, ShapeWord, Head, LinkOf, Birth, Key, Value, Flags}
use Rattle.vbr_words.proofs.Lemmas.{flag_word_same, index_of-lt, packed-none, packed-opening, same_place}
use Rattle.vbr_machine.specs.Put.{put}
use Rattle.vbr_words.specs.Buckets.{bucket_of}
use Rattle.vbr_machine.specs.Links.{opening_link, link_to}
use Rattle.vbr_machine.specs.Opened.{key_count, is_key_of, first_from, link_to_key}
use Rattle.vbr_machine.specs.Machine.{World, with_link_at, counted}
use Rattle.vbr_machine.specs.Machine as machine
use Rattle.vbr_machine.specs.Making.{opening_from, with_key_ahead}
use Rattle.vbr_machine.specs.declared.knowledge.SlotPlace.TheVariants.{Listed}
use Rattle.vbr_machine.proofs.Lemmas.{FirstOrNone, bare, first_or_none, flag_in, opening_none, put_here, put_other}
use Rattle.vbr_machine.proofs.Lemmas.{same_word, taken_word}
use Rattle.vbr_slots.specs.words.Words.{AreWordsOf, HeadsFit, kept_at}

-- the words once the epoch, the shape, so many links and so many flag words are laid
abbrev pub laid : Dimensions → ℕ → ℕ → Place → ℕ
laid shape links flags Epoch = 1
laid shape links flags ShapeWord = machine.shape_word (empty_start shape)
laid shape links flags (LinkOf s) = if nat_lt s links then 2 ^ slot_bits shape.slots else 0
laid shape links flags (Flags number) = if nat_lt number flags then flag_word (λ s. nat_lt s shape.slots) number else 0
laid shape links flags _ = 0

-- a list has these words at the places of a shape
pub record AreLaid (shape : Dimensions) (word_at : Place → ℕ) (words : List ℕ) : Type 0 where
  pub count : length words ≡ words_in shape
  pub each : (place : Place) → IsIn shape place → get_or words (index_of shape place) 0 ≡ word_at place

below : {A : Type 0} (s n : ℕ) (x y : A) → s < n → (if nat_lt s n then x else y) ≡ x
below s n x y low = grind (arith, nat_tests)

-- a list that was written back in front of nothing else
pub whole : {A : Type 0} (n : ℕ) (xs rest : List A) → n ≡ length xs → take n (xs ++ rest) ≡ xs
whole n xs rest is = ap (λ (m : ℕ). take m (xs ++ rest)) is ∙ take-append_seam xs rest

-- one more word, at a place
laid_at : (shape : Dimensions) (before after : Place → ℕ) (words : List ℕ) (place : Place) (value : ℕ) →
    IsIn shape place → after place ≡ value → ((q : Place) → q ≢ place → after q ≡ before q) →
    AreLaid shape before words → AreLaid shape after (set words (index_of shape place) value)
laid_at shape before after words place value here is others are =
    let i : ℕ = index_of shape place in
    let low : i < length words = let c = are.count in let l = index_of-lt shape place here in omega arith in
    record {
      count = length-set words i value ∙ are.count;
      each = λ q q_in.
          dite (ℕ_discrete (index_of shape q) i)
          (λ same. ap (λ (j : ℕ). get_or (set words i value) j 0) same ∙ get_or-set_same words i value 0 low ∙ sym is
          ∙ ap after (sym (same_place shape q place q_in here same)))
          (λ other. get_or-set_other words i (index_of shape q) value 0 other ∙ are.each q q_in
          ∙ sym (others q (λ same. other (ap (index_of shape) same))));
    }

blank_link : word_of opening_link ≡ MARK
unfolding word_of
blank_link = refl

blank_head : word_of (link_to None 0 0) ≡ 0
unfolding word_of
blank_head = refl

-- as a table keeps them
kept_link : (bits : ℕ) → 2 ^ bits ≡ packed bits (word_of opening_link)
kept_link bits = packed-opening bits ∙ ap (packed bits) (sym blank_link)

kept_head : (bits : ℕ) → 0 ≡ packed bits (word_of (link_to None 0 0))
kept_head bits = packed-none bits ∙ ap (packed bits) (sym blank_head)

and_true : (b : Bool) → b ≡ (b && true)
and_true true = refl
and_true false = refl

-- all links and all flag words: no key is linked yet
pub laid_all : (shape : Dimensions) (words : List ℕ) →
    AreLaid shape (laid shape shape.slots (flag_words shape.slots)) words → (keys payloads : List ℕ)
    → AreWordsOf (start_with shape keys payloads) (opening_from (start_with shape keys payloads) (length keys)) words
laid_all shape words are keys payloads =
    subst (λ (w : World). AreWordsOf (start_with shape keys payloads) w words)
    (sym (opening_none (start_with shape keys payloads))) (record { count = are.count; each = each })
  where
    each : (place : Place) → IsIn shape place →
        get_or words (index_of shape place) 0
        ≡ kept_at shape place (machine.word_at (start_with shape keys payloads) bare place)
    each (Head b) here = are.each (Head b) here ∙ kept_head (slot_bits shape.slots)
    each (LinkOf s) here =
        are.each (LinkOf s) here ∙ below s shape.slots (2 ^ slot_bits shape.slots) 0 here
        ∙ kept_link (slot_bits shape.slots)
    each (Flags number) here =
        are.each (Flags number) here
        ∙ below number (flag_words shape.slots) (flag_word (λ s. nat_lt s shape.slots) number) 0 here
        ∙ flag_word_same (λ s. nat_lt s shape.slots) (machine.is_flagged (start_with shape keys payloads) bare) number
        (λ s _. and_true (nat_lt s shape.slots))
    each q here = are.each q here

-- ---- one more key

-- one more word of a world
written_at : (start : Start) (w v : World) (words : List ℕ) (place : Place) (i value : ℕ) →
    i ≡ index_of start.shape place → IsIn start.shape place →
    kept_at start.shape place (machine.word_at start v place) ≡ value →
    ((q : Place) → q ≢ place → machine.word_at start v q ≡ machine.word_at start w q)
    → AreWordsOf start w words → AreWordsOf start v (set words i value)
written_at start w v words place i value index_is here is others are =
    let laid_on =
    laid_at start.shape (λ q. kept_at start.shape q (machine.word_at start w q))
    (λ q. kept_at start.shape q (machine.word_at start v q)) words place value here is
    (λ q ne. ap (kept_at start.shape q) (others q ne))
    (record { count = are.count; each = are.each }) in
    subst (λ (j : ℕ). AreWordsOf start v (set words j value)) (sym index_is)
    (record { count = laid_on.count; each = laid_on.each })

module _ (start : Start) (w : World) (words : List ℕ) (are : AreWordsOf start w words) where
  link_laid : (place : At) (i value : ℕ) (link : Link) → i ≡ index_of start.shape (place_of place) →
      IsIn start.shape (place_of place) → value ≡ packed (slot_bits start.shape.slots) (word_of link) →
      AreWordsOf start (with_link_at w place link) (set words i value)
  link_laid place i value link at low is =
      written_at start w (with_link_at w place link) words (place_of place) i value at low (here place ∙ sym is)
      (others place) are
    where
      bits : ℕ
      bits = slot_bits start.shape.slots

      here : (place : At) →
          kept_at start.shape (place_of place) (machine.word_at start (with_link_at w place link) (place_of place))
          ≡ packed bits (word_of link)
      here (holder.Head b) = ap (λ (l : Link). packed bits (word_of l)) (put_here w.head b link)
      here (holder.Slot s) = ap (λ (l : Link). packed bits (word_of l)) (put_here w.link s link)

      others : (place : At) (q : Place) → q ≢ place_of place →
          machine.word_at start (with_link_at w place link) q ≡ machine.word_at start w q
      others (holder.Head b) (Head c) ne = ap word_of (put_other w.head b link c (λ e. ne (ap Head e)))
      others (holder.Head b) _ ne = refl
      others (holder.Slot s) (LinkOf t) ne = ap word_of (put_other w.link s link t (λ e. ne (ap LinkOf e)))
      others (holder.Slot s) _ ne = refl

  birth_laid : (s i : ℕ) → i ≡ index_of start.shape (Birth s) → s < start.shape.slots →
      AreWordsOf start (record w { birth = put w.birth s 1; births = counted w.births }) (set words i 1)
  birth_laid s i place low =
      written_at start w (record w { birth = put w.birth s 1; births = counted w.births }) words (Birth s) i 1 place low
      (put_here w.birth s 1) others are
    where
      others : (q : Place) → q ≢ Birth s →
          machine.word_at start (record w { birth = put w.birth s 1; births = counted w.births }) q
          ≡ machine.word_at start w q
      others (Birth t) ne = put_other w.birth s 1 t (λ e. ne (ap Birth e))
      others _ ne = refl

  key_laid : (s i key : ℕ) → i ≡ index_of start.shape (Key s) → s < start.shape.slots →
      AreWordsOf start (record w { key = put w.key s key }) (set words i key)
  key_laid s i key place low =
      written_at start w (record w { key = put w.key s key }) words (Key s) i key place low (put_here w.key s key)
      others are
    where
      others : (q : Place) → q ≢ Key s →
          machine.word_at start (record w { key = put w.key s key }) q ≡ machine.word_at start w q
      others (Key t) ne = put_other w.key s key t (λ e. ne (ap Key e))
      others _ ne = refl

  -- a slot comes into a list, and its flag is cleared
  flag_laid : (s b i f bits : ℕ) → i ≡ index_of start.shape (Flags f) → f ≡ word_of_flag s → bits ≡ all_but s →
      s < start.shape.slots →
      AreWordsOf start (record w { place = put w.place s (Listed b) }) (set words i (bit_and (get_or words i 0) bits))
  flag_laid s b i f bits place number clear low =
      written_at start w (record w { place = put w.place s (Listed b) }) words (Flags (word_of_flag s)) i _ here
      (flag_in start s low)
      (taken_word start w (record w { place = put w.place s (Listed b) }) s (Listed b) refl refl
      ∙ (λ k. bit_and (sym found k) (sym clear k))) others are
    where
      here : i ≡ index_of start.shape (Flags (word_of_flag s))
      here = place ∙ ap (λ (n : ℕ). index_of start.shape (Flags n)) number

      found : get_or words i 0 ≡ machine.word_at start w (Flags (word_of_flag s))
      found = ap (λ (j : ℕ). get_or words j 0) here ∙ are.each (Flags (word_of_flag s)) (flag_in start s low)

      others : (q : Place) → q ≢ Flags (word_of_flag s) →
          machine.word_at start (record w { place = put w.place s (Listed b) }) q ≡ machine.word_at start w q
      others (Flags number) ne =
          same_word start (record w { place = put w.place s (Listed b) }) w number
          (λ t is. ap machine.is_shared
          (put_other w.place s (Listed b) t (λ e. ne (ap Flags (sym is ∙ ap word_of_flag e)))))
      others _ ne = refl

-- where the words of the link of a slot, of the head, of the birth, of the key and of the flags stand
pub record KeyIndices (start : Start) (number bucket link head birth key flags : ℕ) : Type 0 where
  pub link_at : link ≡ index_of start.shape (LinkOf number)
  pub head_at : head ≡ index_of start.shape (Head bucket)
  pub birth_at : birth ≡ index_of start.shape (Birth number)
  pub key_at : key ≡ index_of start.shape (Key number)
  pub flags_at : flags ≡ index_of start.shape (Flags (word_of_flag number))

-- the words once the value of a slot is written: where nodes have none, no word changes
abbrev pub IsValueWritten : Start → ℕ → ℕ → List ℕ → List ℕ → Type 0
IsValueWritten start s value words written =
    ((start.shape.values ≡ false) × (written ≡ words))
    ⊎ ((start.shape.values ≡ true) × (i : ℕ) × (i ≡ index_of start.shape (Value s)) × (written ≡ set words i value))

module _ (start : Start) (w : World) (words : List ℕ) (s value : ℕ) (are : AreWordsOf start w words) where
  -- without values no word tells one
  value_bare : start.shape.values ≡ false → AreWordsOf start (record w { value = put w.value s value }) words
  value_bare bare = record { count = are.count; each = each }
    where
      each : (place : Place) → IsIn start.shape place →
          get_or words (index_of start.shape place) 0
          ≡ kept_at start.shape place (machine.word_at start (record w { value = put w.value s value }) place)
      each (Value t) here = absurd (let has = here.1 in cc)
      each q here = are.each q here

  value_laid : (i : ℕ) → i ≡ index_of start.shape (Value s) → s < start.shape.slots → start.shape.values ≡ true →
      AreWordsOf start (record w { value = put w.value s value }) (set words i value)
  value_laid i place low has =
      written_at start w (record w { value = put w.value s value }) words (Value s) i value place (low, has)
      (put_here w.value s value) others are
    where
      others : (q : Place) → q ≢ Value s →
          machine.word_at start (record w { value = put w.value s value }) q ≡ machine.word_at start w q
      others (Value t) ne = put_other w.value s value t (λ e. ne (ap Value e))
      others _ ne = refl

  value_written : (written : List ℕ) → s < start.shape.slots → IsValueWritten start s value words written →
      AreWordsOf start (record w { value = put w.value s value }) written
  value_written written low (inl none) =
      subst (AreWordsOf start (record w { value = put w.value s value })) (sym none.1) (value_bare none.0)
  value_written written low (inr some) =
      subst (AreWordsOf start (record w { value = put w.value s value })) (sym some.3)
      (value_laid some.1 some.2 low some.0)

-- a key is linked with its value ahead of the others of its bucket
pub key_ahead : (start : Start) (w : World) (words valued : List ℕ) (number key value link first bits i j k m n : ℕ) →
    AreWordsOf start w words → KeyIndices start number (bucket_of start.shape key) i j k m n →
    number < start.shape.slots → bucket_of start.shape key < start.shape.buckets
    → link ≡ packed (slot_bits start.shape.slots)
    (word_of (link_to (w.head (bucket_of start.shape key)).slot 1 (w.head (bucket_of start.shape key)).version)) →
    first ≡ packed (slot_bits start.shape.slots) (word_of (link_to (Some number) 0 1)) → bits ≡ all_but number
    → IsValueWritten start number value (set (set (set (set words i link) j first) k 1) m key) valued
    → AreWordsOf start (with_key_ahead start number key value w) (set valued n (bit_and (get_or valued n 0) bits))
key_ahead start w words valued number key value link first bits i j k m n are indices low in_shape link_is first_is
    clear
    value_is =
    let b = bucket_of start.shape key in
    let one = link_laid start w words are (holder.Slot number) i link _ indices.link_at low link_is in
    let two = link_laid start _ _ one (holder.Head b) j first _ indices.head_at in_shape first_is in
    let three = birth_laid start _ _ two number k indices.birth_at low in
    let four = key_laid start _ _ three number m key indices.key_at low in
    let five = value_written start _ _ number value four valued low value_is in
    flag_laid start _ _ five number b n (word_of_flag number) bits indices.flags_at refl clear low

-- ---- heads

-- each head names a slot of the shape or none
pub heads_fit : (start : Start) (from : ℕ) → from ≤ key_count start → key_count start ≤ start.shape.slots →
    0 < start.shape.last_epoch → HeadsFit start.shape (opening_from start from)
heads_fit start from low few some b =
    by_case (first_from start b from) (first_or_none (is_key_of start b) from (key_count start - from))
  where
    by_case : (first : Option ℕ) → FirstOrNone (is_key_of start b) from (from + (key_count start - from)) first →
        IsLinkOf start.shape (link_to_key start 0 first)
    by_case None none = record { slot = tt; version = omega arith }
    by_case (Some m) is = record { slot = (let high = is.high in omega (arith, high)); version = version }
      where
        version : (link_to_key start 0 (Some m)).version ≤ start.shape.last_epoch
        version = grind (arith, nat_tests)
