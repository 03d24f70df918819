-- The slots noted along a bucket's list are those whose nodes stand before the one that is reached.
use Rattle.std.proofs.Common.{◌≡◌, ◌≢◌, ℕ, zero, suc, ◌<◌, ◌≤◌, Bool, true, false, List, length, set, Option, Some}
use Rattle.std.proofs.Common.{None, refl, sym, ap, ◌∙◌, subst, inl, inr, arith, get_or-set_other, get_or-set_same}
use Rattle.std.specs.Prelude.{nat_lt, ◌&&◌, ◌||◌, ◌⊎◌}
use Rattle.std.proofs.lemmas.Bool.{and_from, and_left, cases_Bool, cases_eq, lt-ltb}
use Rattle.std.proofs.Math.Bool.{and-true}
use Rattle.vbr_words.specs.Dimensions.{Dimensions}
use Rattle.vbr_machine.specs.Start.{Start}
use Rattle.vbr_words.specs.declared.link.Link.{Link}
use Rattle.vbr_words.specs.declared.place.At.TheVariants.{Head, Slot}
use Rattle.vbr_words.specs.declared.place.Place.TheVariants as place
use Rattle.vbr_words.specs.Buckets.{bucket_of}
use Rattle.vbr_words.proofs.Lemmas.{bucket_of-lt}
use Rattle.vbr_machine.specs.Accounts.{incarnations_after}
use Rattle.vbr_machine.specs.Agreement.{Fits}
use Rattle.vbr_machine.specs.Images.{slot_shown}
use Rattle.vbr_machine.specs.Incarnations.{Incarnations}
use Rattle.vbr_machine.specs.Sound.{IsOrderedBefore, IsApart, IsFrom, IsListed, Sound}
use Rattle.vbr_machine.specs.declared.event.Event.{Event}
use Rattle.vbr_machine.proofs.Lemmas.{in_list_from, in_list_is, lower_is, lower_not, next_listed, next_of_followed}
use Rattle.vbr_machine.proofs.Lemmas.{InList, Stands, one_fewer, slot_is_one, stands_key, stands_rank, stands_there}
use Rattle.vbr_machine.specs.Nodes.{state_in, behind, is_behind, is_in_list, is_listed, is_lower}
use Rattle.vbr_machine.specs.Nodes.{key_in_slot, rank_in_slot}
use Rattle.vbr_set.specs.reports.Walking.{AreAfter, NotesList, NotesLists, is_noted, link_in}
use Rattle.vbr_set.proofs.reports.ShownNodes.{agrees, link_read, next_of_node}
use Rattle.vbr_set.proofs.progress.EnoughByShape.{counted_low}

-- whether the node of a slot stands before the node that is reached, or there is none any more
abbrev pub is_before : Incarnations → ℕ → Option ℕ → Bool
is_before a s None = true
is_before a s (Some t) = is_lower (key_in_slot a s) (rank_in_slot a s) (key_in_slot a t) (rank_in_slot a t)

-- the slot that is reached has a node of the list
abbrev pub IsNextNode : Start → Incarnations → ℕ → Option ℕ → Type 0
IsNextNode start a bucket None = Unit {0}
IsNextNode start a bucket (Some t) = (t < start.shape.slots) × (is_in_list start a bucket t ≡ true)

-- the walk has come to this slot, or to the end of the list
pub record Walked (start : Start) (a : Incarnations) (bucket : ℕ) (before now : List Bool) (next : Option ℕ) :
    Type 0 where
  pub reached : IsNextNode start a bucket next
  pub notes : (s : ℕ) → s < start.shape.slots →
      is_noted now s ≡ (is_noted before s || (is_in_list start a bucket s && is_before a s next))

-- the slot is named otherwise
pub walked_as : {start : Start} {a : Incarnations} {bucket : ℕ} {before now : List Bool} {m n : Option ℕ} → m ≡ n →
    Walked start a bucket before now m → Walked start a bucket before now n
walked_as {start} {a} {bucket} {before} {now} is walked =
    subst (λ (next : Option ℕ). Walked start a bucket before now next) is walked

-- how many turns a walk makes from a slot, of a number at most
abbrev pub turns : Dimensions → List ℕ → ℕ → Option ℕ → ℕ
turns shape words zero next = 0
turns shape words (suc n) None = 0
turns shape words (suc n) (Some t) =
    suc (turns shape words n (link_in shape words (place.LinkOf t)).slot)

-- how far the walk still goes: it meets each slot once at most
abbrev pub left : Dimensions → List ℕ → Option ℕ → ℕ
left shape words next = turns shape words (suc shape.slots) next

-- ---- nodes of one list

-- a node in a list is there, in its slot
in_list_there : {start : Start} {a : Incarnations} → Sound start a → Fits start a → (bucket n : ℕ) →
    IsListed (a.state n) → bucket_of start.shape (a.key n) ≡ bucket → IsNextNode start a bucket (Some (a.slot n))
in_list_there {start} sound fits bucket n l is =
    let there = stands_there sound fits n l in
    (there.0, in_list_is {start = start} (record { stands = there.1; of_bucket = is }))

-- ---- the order along a list

-- whether a node stands ahead of a successor, or there is none
abbrev below_next : Incarnations → ℕ → Option ℕ → Bool
below_next a d None = true
below_next a d (Some n) = is_lower (a.key d) (a.rank d) (a.key n) (a.rank n)

-- the same of the slot of the successor
before_next : {start : Start} {a : Incarnations} → Sound start a → Fits start a → (s d : ℕ) (next : Option ℕ) →
    Stands a s d → ((n : ℕ) → next ≡ Some n → IsListed (a.state n)) →
    is_before a s (slot_shown a next) ≡ below_next a d next
before_next sound fits s d None stands l = refl
before_next {start} {a} sound fits s d (Some n) stands l =
    let there = stands_there sound fits n (l n refl) in
    (λ i. is_lower (stands_key stands i) (stands_rank stands i) (stands_key there.1 i) (stands_rank there.1 i))

-- the order is one of all of a list
through : (a : Incarnations) (d c n : ℕ) → IsOrderedBefore a.key a.rank d c → IsOrderedBefore a.key a.rank c n →
    IsOrderedBefore a.key a.rank d n
through a d c n (inl l) (inl m) = inl (omega (arith, l, m))
through a d c n (inl l) (inr m) = inl (let e = m.0 in omega (arith, l, e))
through a d c n (inr l) (inl m) = inl (let e = l.0 in omega (arith, e, m))
through a d c n (inr l) (inr m) = inr (l.0 ∙ m.0, (let x = l.1 in let y = m.1 in omega (arith, x, y)))

not_ahead : (a : Incarnations) (c n d : ℕ) → IsOrderedBefore a.key a.rank c n →
    (a.key n < a.key d) ⊎ ((a.key n ≡ a.key d) × (a.rank n ≤ a.rank d)) →
    (a.key c < a.key d) ⊎ ((a.key c ≡ a.key d) × (a.rank c ≤ a.rank d))
not_ahead a c n d (inl l) (inl m) = inl (omega (arith, l, m))
not_ahead a c n d (inl l) (inr m) = inl (let e = m.0 in omega (arith, l, e))
not_ahead a c n d (inr l) (inl m) = inl (let e = l.0 in omega (arith, e, m))
not_ahead a c n d (inr l) (inr m) = inr (l.0 ∙ m.0, (let x = l.1 in let y = m.1 in omega (arith, x, y)))

-- no other node of the list stands between a node and its successor
apart_nodes : (a : Incarnations) (c d : ℕ) (next : Option ℕ) → d ≢ c → IsApart a.key a.rank c next d →
    ((n : ℕ) → next ≡ Some n → IsOrderedBefore a.key a.rank c n) →
    is_lower (a.key d) (a.rank d) (a.key c) (a.rank c) ≡ below_next a d next
apart_nodes a c d next ne (inl e) up = absurd (ne e)
apart_nodes a c d None ne (inr (inl l)) up = lower_is a.key a.rank d c l
apart_nodes a c d (Some n) ne (inr (inl l)) up =
    lower_is a.key a.rank d c l ∙ sym (lower_is a.key a.rank d n (through a d c n l (up n refl)))
apart_nodes a c d None ne (inr (inr (m, e, from))) up = absurd (cc)
apart_nodes a c d (Some n) ne (inr (inr (m, e, from))) up =
    let is : m ≡ n = (let z = e in cc) in
    let P : ℕ → Type 0 = λ v. (a.key v < a.key d) ⊎ ((a.key v ≡ a.key d) × (a.rank v ≤ a.rank d)) in
    lower_not a.key a.rank d c (not_ahead a c n d (up n refl) (subst P is from))
    ∙ sym (lower_not a.key a.rank d n (subst P is from))

below_own : (a : Incarnations) (c : ℕ) (next : Option ℕ) →
    ((n : ℕ) → next ≡ Some n → IsOrderedBefore a.key a.rank c n) → below_next a c next ≡ true
below_own a c None up = refl
below_own a c (Some n) up = lower_is a.key a.rank c n (up n refl)

-- no node of a list stands ahead of its first
none_before_first : (a : Incarnations) (d : ℕ) (first : Option ℕ) → IsFrom a.key a.rank first d →
    below_next a d first ≡ false
none_before_first a d None (m, e, from) = absurd (cc)
none_before_first a d (Some n) (m, e, from) =
    let is : m ≡ n = (let z = e in cc) in
    let P : ℕ → Type 0 = λ v. (a.key v < a.key d) ⊎ ((a.key v ≡ a.key d) × (a.rank v ≤ a.rank d)) in
    lower_not a.key a.rank d n (subst P is from)

-- ---- tests

or_none : (b c : Bool) → c ≡ false → b ≡ (b || c)
or_none true c e = refl
or_none false c e = sym e

or_some : (b c : Bool) → c ≡ true → true ≡ (b || c)
or_some true c e = refl
or_some false c e = sym e

-- ---- the walk

-- the slots whose nodes stand before the first: none
first_notes : {start : Start} {a : Incarnations} → Sound start a → Fits start a → (bucket s : ℕ) (first : Option ℕ) →
    a.first bucket ≡ first → (is_in_list start a bucket s && is_before a s (slot_shown a first)) ≡ false
first_notes {start} {a} sound fits bucket s first is = elim (cases_Bool (is_in_list start a bucket s)) [
  | inr outside ↦ and_left _ _ outside
  | inl inside ↦ let node = in_list_from start a bucket s inside in
      let from = subst (λ (f : Option ℕ). IsFrom a.key a.rank f node.0) (ap a.first node.1.of_bucket ∙ is)
      (sound.lists.behind_head node.0 node.1.stands.listed) in
      ap (λ b. b && is_before a s (slot_shown a first)) inside
      ∙ before_next sound fits s node.0 first node.1.stands (λ n q. (sound.lists.first_in bucket n (is ∙ q)).0)
      ∙ none_before_first a node.0 first from
]

first_reached : {start : Start} {a : Incarnations} → Sound start a → Fits start a → (bucket : ℕ) (first : Option ℕ) →
    a.first bucket ≡ first → IsNextNode start a bucket (slot_shown a first)
first_reached sound fits bucket None is = tt
first_reached sound fits bucket (Some n) is =
    let f = sound.lists.first_in bucket n is in in_list_there sound fits bucket n f.0 f.1

pub walk_first : {start : Start} {words : List ℕ} {run : List Event} → AreAfter start words run →
    (bucket : ℕ) (notes : List Bool) → bucket < start.shape.buckets
    → Walked start (incarnations_after start run) bucket notes notes
    (link_in start.shape words (place.Head bucket)).slot
walk_first {start} {words} {run} x bucket notes low =
    let a = incarnations_after start run in
    let g = agrees x in
    let first : Walked start a bucket notes notes (slot_shown a (a.first bucket)) = record {
      reached = first_reached g.sound g.fits bucket (a.first bucket) refl;
      notes = λ s is_in. or_none (is_noted notes s) _ (first_notes g.sound g.fits bucket s (a.first bucket) refl);
    } in
    subst (λ (l : Link). Walked start a bucket notes notes l.slot) (sym (link_read x (Head bucket) low)) first

-- what follows a node of a list
module _ {start : Start} {a : Incarnations} (sound : Sound start a) (fits : Fits start a) (bucket t c : ℕ)
    (here : InList start a bucket t c) where
  up : (n : ℕ) → a.next c ≡ Some n → IsOrderedBefore a.key a.rank c n
  up n q = (sound.lists.ordered c n q).1

  follows : (n : ℕ) → a.next c ≡ Some n → IsListed (a.state n)
  follows n q = next_listed sound c n q here.stands.listed

  next_reached : (next : Option ℕ) → a.next c ≡ next → IsNextNode start a bucket (slot_shown a next)
  next_reached None q = tt
  next_reached (Some n) q =
      in_list_there sound fits bucket n (follows n q) (sym ((sound.lists.ordered c n q).0) ∙ here.of_bucket)

  own_before : is_before a t (slot_shown a (a.next c)) ≡ true
  own_before = before_next sound fits t c (a.next c) here.stands follows ∙ below_own a c (a.next c) up

  others_before : (s : ℕ) → s ≢ t →
      (is_in_list start a bucket s && is_before a s (Some t))
      ≡ (is_in_list start a bucket s && is_before a s (slot_shown a (a.next c)))
  others_before s ne = elim (cases_Bool (is_in_list start a bucket s)) [
    | inr outside ↦ and_left _ _ outside ∙ sym (and_left _ _ outside)
    | inl inside ↦ let node = in_list_from start a bucket s inside in
        let other : node.0 ≢ c =
        λ e. ne (slot_is_one sound s t c (subst (λ (d : ℕ). Stands a s d) e node.1.stands) here.stands) in
        ap (λ b. is_in_list start a bucket s && b)
        ((λ i. is_lower (stands_key node.1.stands i) (stands_rank node.1.stands i) (stands_key here.stands i)
        (stands_rank here.stands i))
        ∙ apart_nodes a c node.0 (a.next c) other
        (sound.lists.apart c node.0 here.stands.listed node.1.stands.listed (here.of_bucket ∙ sym node.1.of_bucket))
        up
        ∙ sym (before_next sound fits s node.0 (a.next c) node.1.stands follows))
  ]

  next_walked : (before now : List Bool) → length now ≡ start.shape.slots → Walked start a bucket before now (Some t) →
      Walked start a bucket before (set now t true) (slot_shown a (a.next c))
  next_walked before now room walked = record {
    reached = next_reached (a.next c) refl;
    notes = λ s low. elim (cases_eq s t) [
      | inl e ↦
          let low_t : t < length now = (let r = walked.reached.0 in omega arith) in
          let both : (is_in_list start a bucket s && is_before a s (slot_shown a (a.next c))) ≡ true =
          and_from _ _ (ap (is_in_list start a bucket) e ∙ walked.reached.1)
          (ap (λ (i : ℕ). is_before a i (slot_shown a (a.next c))) e ∙ own_before) in
          ap (is_noted (set now t true)) e ∙ get_or-set_same now t true false low_t ∙ or_some (is_noted before s) _ both
      | inr ne ↦ get_or-set_other now t s true false ne ∙ walked.notes s low
          ∙ ap (λ b. is_noted before s || b) (others_before s ne)
    ];
  }

pub walk_next : {start : Start} {words : List ℕ} {run : List Event} → AreAfter start words run →
    (bucket : ℕ) (before now : List Bool) (t : ℕ) → length now ≡ start.shape.slots →
    Walked start (incarnations_after start run) bucket before now (Some t)
    → Walked start (incarnations_after start run) bucket before (set now t true)
    (link_in start.shape words (place.LinkOf t)).slot
walk_next {start} {words} {run} x bucket before now t room walked =
    let a = incarnations_after start run in
    let g = agrees x in
    let node = in_list_from start a bucket t walked.reached.1 in
    subst (λ (next : Option ℕ). Walked start a bucket before (set now t true) next)
    (sym (ap (λ (l : Link). l.slot) (link_read x (Slot t) walked.reached.0) ∙ next_of_node node.1.stands))
    (next_walked g.sound g.fits bucket t node.0 node.1 before now room walked)

pub walk_ends : (start : Start) (a : Incarnations) (bucket : ℕ) (before now : List Bool) →
    Walked start a bucket before now None → NotesList start a bucket before now
walk_ends start a bucket before now walked s low =
    walked.notes s low ∙ ap (λ b. is_noted before s || b) (and-true (is_in_list start a bucket s))

-- ---- the walk ends

no_turns : (shape : Dimensions) (words : List ℕ) (n : ℕ) → turns shape words n None ≡ 0
no_turns shape words zero = refl
no_turns shape words (suc n) = refl

module _ {start : Start} {words : List ℕ} {run : List Event} (x : AreAfter start words run) (bucket : ℕ) where
  abbrev after : Incarnations
  after = incarnations_after start run

  named : (t c : ℕ) → t < start.shape.slots → InList start after bucket t c →
      (link_in start.shape words (place.LinkOf t)).slot ≡ slot_shown after (after.next c)
  named t c low here = ap (λ (l : Link). l.slot) (link_read x (Slot t) low) ∙ next_of_node here.stands

  -- the successor is in the list, and has one node fewer behind it
  next_there : (t c m : ℕ) → InList start after bucket t c → after.next c ≡ Some m →
      (after.slot m < start.shape.slots) × InList start after bucket (after.slot m) m
  next_there t c m here q =
      let g = agrees x in
      let there = stands_there g.sound g.fits m (next_listed g.sound c m q here.stands.listed) in
      (there.0, record { stands = there.1; of_bucket = sym ((g.sound.lists.ordered c m q).0) ∙ here.of_bucket })

  next_fewer : (t c m : ℕ) → InList start after bucket t c → after.next c ≡ Some m →
      behind start after bucket (Slot t) ≡ suc (behind start after bucket (Slot (after.slot m)))
  next_fewer t c m here q =
      let g = agrees x in
      one_fewer g.sound g.fits bucket (Slot t) m
      (next_of_followed g.sound bucket (Slot t) (Some c) m (c, refl, here.stands.last, here.stands.listed, q)
      (ap (bucket_of start.shape) (stands_key here.stands) ∙ here.of_bucket))

  -- once the number is above that of the nodes behind, a greater one makes no more turns
  enough : (n t c : ℕ) → t < start.shape.slots → InList start after bucket t c →
      behind start after bucket (Slot t) < n →
      turns start.shape words (suc n) (Some t) ≡ turns start.shape words n (Some t)
  enough zero t c low here few = absurd (omega (arith, few))
  enough (suc n) t c low here few =
      ap suc (subst P (sym (named t c low here))
      (go (λ m low here few. enough n (after.slot m) m low here few) (after.next c) refl))
    where
      P : Option ℕ → Type 0
      P next = turns start.shape words (suc n) next ≡ turns start.shape words n next

      go : ((m : ℕ) → after.slot m < start.shape.slots → InList start after bucket (after.slot m) m →
          behind start after bucket (Slot (after.slot m)) < n → P (Some (after.slot m))) → (next : Option ℕ) →
          after.next c ≡ next → P (slot_shown after next)
      go earlier None q = sym (no_turns start.shape words n)
      go earlier (Some m) q =
          let there = next_there t c m here q in
          let fewer = next_fewer t c m here q in
          earlier m there.0 there.1 (omega (arith, few, fewer))

  nearer : (t c : ℕ) → t < start.shape.slots → InList start after bucket t c →
      left start.shape words (link_in start.shape words (place.LinkOf t)).slot
      < left start.shape words (Some t)
  nearer t c low here = subst Q (sym (named t c low here)) (go (after.next c) refl)
    where
      Q : Option ℕ → Type 0
      Q next = turns start.shape words (suc start.shape.slots) next
          < suc (turns start.shape words start.shape.slots next)

      go : (next : Option ℕ) → after.next c ≡ next → Q (slot_shown after next)
      go None q = omega arith
      go (Some m) q =
          let there = next_there t c m here q in
          let fewer = next_fewer t c m here q in
          let most = counted_low (is_behind start after bucket (Slot t)) start.shape.slots in
          let same = enough start.shape.slots (after.slot m) m there.0 there.1 (omega (arith, fewer, most)) in
          omega (arith, same)

pub walk_nearer : {start : Start} {words : List ℕ} {run : List Event} → AreAfter start words run →
    (bucket : ℕ) (before now : List Bool) (t : ℕ) →
    Walked start (incarnations_after start run) bucket before now (Some t)
    → left start.shape words (link_in start.shape words (place.LinkOf t)).slot
    < left start.shape words (Some t)
walk_nearer {start} {words} {run} x bucket before now t walked =
    let node = in_list_from start (incarnations_after start run) bucket t walked.reached.1 in
    nearer x bucket t node.0 walked.reached.0 node.1

-- ---- all lists

-- whether the node of a slot is in a list of a bucket below this one
abbrev pub is_below : Start → Incarnations → ℕ → ℕ → Bool
is_below start a bucket s = is_listed (state_in a s) && nat_lt (bucket_of start.shape (key_in_slot a s)) bucket

-- the slots whose nodes are in the lists of the buckets below this one are noted
pub record NotedBelow (start : Start) (a : Incarnations) (bucket : ℕ) (notes : List Bool) : Type 0 where
  pub notes_are : (s : ℕ) → s < start.shape.slots → is_noted notes s ≡ is_below start a bucket s

pub lists_end : (start : Start) (a : Incarnations) (notes : List Bool) → NotedBelow start a start.shape.buckets notes →
    0 < start.shape.buckets → NotesLists start a notes
lists_end start a notes below some s low =
    below.notes_are s low ∙ all (is_listed (state_in a s)) (bucket_of-lt start.shape (key_in_slot a s) some)
  where
    all : (b : Bool) → bucket_of start.shape (key_in_slot a s) < start.shape.buckets →
        (b && nat_lt (bucket_of start.shape (key_in_slot a s)) start.shape.buckets) ≡ b
    all true lt = lt-ltb _ _ lt
    all false lt = refl
