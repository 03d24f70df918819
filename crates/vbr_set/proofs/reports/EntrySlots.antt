-- The slots of the linked nodes, sorted by their keys, have the entries of the keys that the calls leave.
use Rattle.std.proofs.Common.{◌≡◌, ℕ, zero, suc, ◌+◌, ◌<◌, Bool, true, false, List, [], ◌∷◌, refl, sym, ap}
use Rattle.std.proofs.Common.{◌∙◌, subst, length, inl, inr, arith}
use Rattle.std.specs.Prelude.{◌⊎◌, ◌||◌, All, map, nat_eq, slice_index, slice_index_or}
use Rattle.std.specs.List.{AllZip, list_any}
use Rattle.std.specs.List.Sorted.{IsNonDecreasingBy, IsPermutation, IsStrictlyIncreasing}
use Rattle.std.proofs.lemmas.Bool.{eqb-true, eq-eqb, false≢true, lt-ltb, or_left, or_cases}
use Rattle.std.proofs.lemmas.List.Elements.{All-head, All-map, All-tail, All-weaker}
use Rattle.std.proofs.lemmas.List.Kept.{AllPairs-from_increasing}
use Rattle.std.proofs.lemmas.List.Sorted.{All-permutation, IsPermutation-map}
use Rattle.vbr_words.specs.Dimensions.{Dimensions}
use Rattle.vbr_machine.specs.Start.{Start}
use Rattle.vbr_machine.specs.Accounts.{incarnations_after}
use Rattle.vbr_machine.specs.History.{set_after}
use Rattle.vbr_machine.specs.Incarnations.{Incarnations}
use Rattle.vbr_machine.specs.Keys.{AreKeysOf}
use Rattle.vbr_machine.specs.Maps.{keys_listed}
use Rattle.vbr_machine.specs.Nodes.{count_below, is_linked, is_marked, key_in_slot, state_in}
use Rattle.vbr_machine.specs.Opened.{has_opening_key, key_number, opening_birth, opening_keys}
use Rattle.vbr_machine.specs.Records.{IsEntry}
use Rattle.vbr_machine.specs.declared.event.Event.{Event}
use Rattle.vbr_machine.proofs.Lemmas.{stands_key}
use Rattle.vbr_set.specs.reports.EntrySlots.{HasEntry, HaveEntries, ListsSlots, key_with_slot, slots_listed}
use Rattle.vbr_set.specs.histories.Histories.{calls_of}
use Rattle.vbr_set.specs.reports.Kinds.{KindOf}
use Rattle.vbr_set.specs.renewals.RenewingWithSlots.{CarriesOver}
use Rattle.vbr_set.specs.reports.Walking.{AreAfter, linked_of}
use Rattle.vbr_set.proofs.reports.Gathering.{Gathered}
use Rattle.vbr_set.proofs.reports.LinkedEntries.{rises}
use Rattle.vbr_set.proofs.reports.LinkedKeys.{all_linked, keys_linked, linked_in, lists_keys}

-- ---- what was gathered

-- the slot of a pair is that of a linked node, whose key stands beside it
abbrev IsKeyed : Incarnations → ℕ × ℕ → Type 0
IsKeyed a pair = (pair.0 ≡ key_in_slot a pair.1) × (is_linked (state_in a pair.1) ≡ true)

-- a list of what is told of the linked nodes, with the counts of the nodes
pub as_gathered : {T : Type 0} (tell : ℕ → T) (a : Incarnations) (s : ℕ) {listed : List T} →
    listed ≡ linked_of tell a s → Gathered tell a s listed (count_below (λ s. is_linked (state_in a s)) s)
    (count_below (λ s. is_marked (state_in a s)) s)
as_gathered tell a s e = record { listed_is = e; live_is = refl; marked_is = refl }

-- ---- the slots alone

keys_in_slots : (a : Incarnations) (pairs : List (ℕ × ℕ)) → All (IsKeyed a) pairs →
    keys_listed pairs ≡ map (key_in_slot a) (slots_listed pairs)
keys_in_slots a [] all = refl
keys_in_slots a (p ∷ ps) all =
    let head = (All-head (IsKeyed a) p ps all).0 in
    let tail = keys_in_slots a ps (All-tail (IsKeyed a) p ps all) in
    λ i. head i ∷ tail i

-- sorted by key, they are the list of the slots of the set
pub lists_slots : {start : Start} {words : List ℕ} {run : List Event} → AreAfter start words run →
    (pairs sorted : List (ℕ × ℕ)) (slots : List ℕ) →
    pairs ≡ linked_of (key_with_slot (incarnations_after start run)) (incarnations_after start run)
    start.shape.slots → IsPermutation pairs sorted → IsNonDecreasingBy (λ (pair : ℕ × ℕ). pair.0) sorted →
    slots ≡ slots_listed sorted → ListsSlots start run slots
lists_slots {start} {words} {run} x pairs sorted slots are moved up is =
    let a = incarnations_after start run in
    let keyed =
    All-permutation (IsKeyed a) pairs sorted moved
    (subst (λ (l : List (ℕ × ℕ)). All (IsKeyed a) l) (sym are)
    (all_linked (IsKeyed a) (key_with_slot a) a (λ s is. (refl, is)) start.shape.slots)) in
    let keys =
    lists_keys x (keys_listed pairs) (keys_listed sorted)
    (ap keys_listed are ∙ keys_linked (key_with_slot a) a (λ s. refl) start.shape.slots)
    (IsPermutation-map (λ (pair : ℕ × ℕ). pair.0) pairs sorted moved) (rises sorted up) in
    subst (λ (l : List ℕ). ListsSlots start run l) (sym is)
    (record {
      linked = All-map (λ (s : ℕ). is_linked (state_in a s) ≡ true) (λ (pair : ℕ × ℕ). pair.1) sorted
          (All-weaker (IsKeyed a) (λ (pair : ℕ × ℕ). is_linked (state_in a pair.1) ≡ true) (λ p k. k.1) sorted keyed);
      keys = subst
          (λ (l : List ℕ). AreKeysOf l (set_after (opening_keys start) (calls_of start run)))
          (keys_in_slots a sorted keyed) keys;
    })

-- ---- one list of a set alone ascends

-- each key of a list is above this one
abbrev AreAbove : ℕ → List ℕ → Type 0
AreAbove x xs = (key : ℕ) → list_any (nat_eq key) xs ≡ true → x < key

above : (x : ℕ) (xs : List ℕ) → All (λ (y : ℕ). x < y) xs → AreAbove x xs
above x [] all key e = absurd (false≢true e)
above x (y ∷ ys) all key e = elim (or_cases _ _ e) [
  | inl here ↦ subst (λ (k : ℕ). x < k) (sym (eqb-true key y here)) (All-head (λ (y : ℕ). x < y) y ys all)
  | inr there ↦ (above x ys (All-tail (λ (y : ℕ). x < y) y ys all) key) there
]

ascends_above : (x : ℕ) (xs : List ℕ) → IsStrictlyIncreasing (x ∷ xs) → AreAbove x xs
ascends_above x xs up =
    above x xs (λ k d low. AllPairs-from_increasing (x ∷ xs) up 0 (suc k) d (omega arith) (omega (arith, low)))

ascends_on : (x : ℕ) (xs : List ℕ) → IsStrictlyIncreasing (x ∷ xs) → IsStrictlyIncreasing xs
ascends_on x xs up k low =
    let is : suc k + 1 ≡ suc (k + 1) = omega arith in
    subst (λ (n : ℕ). slice_index xs k < slice_index (x ∷ xs) n) is (up (suc k) (omega (arith, low)))

abbrev HaveSame : List ℕ → List ℕ → Type 0
HaveSame xs ys = (key : ℕ) → list_any (nat_eq key) xs ≡ list_any (nat_eq key) ys

own_key : (x : ℕ) (xs : List ℕ) → list_any (nat_eq x) (x ∷ xs) ≡ true
own_key x xs = or_left _ _ (eq-eqb x x refl)

-- the first of both is the same
same_first : (x : ℕ) (xs : List ℕ) (y : ℕ) (ys : List ℕ) → AreAbove x xs → AreAbove y ys → HaveSame (x ∷ xs) (y ∷ ys)
    → x ≡ y
same_first x xs y ys over_x over_y same =
    go (or_cases _ _ (sym (same x) ∙ own_key x xs)) (or_cases _ _ (same y ∙ own_key y ys))
  where
    go : (nat_eq x y ≡ true) ⊎ (list_any (nat_eq x) ys ≡ true) →
        (nat_eq y x ≡ true) ⊎ (list_any (nat_eq y) xs ≡ true) → x ≡ y
    go (inl e) other = eqb-true x y e
    go (inr l) (inl e) = sym (eqb-true y x e)
    go (inr l) (inr m) =
        let less = over_y x l in
        let more = over_x y m in
        absurd (omega arith)

-- so are the others
same_others : (x : ℕ) (xs ys : List ℕ) → AreAbove x xs → AreAbove x ys → HaveSame (x ∷ xs) (x ∷ ys) → HaveSame xs ys
same_others x xs ys over_xs over_ys same key = go (nat_eq key x) refl (same key)
  where
    none : (zs : List ℕ) → AreAbove x zs → key ≡ x → list_any (nat_eq key) zs ≡ false
    none zs over is = false_from (list_any (nat_eq key) zs) refl
      where
        false_from : (b : Bool) → list_any (nat_eq key) zs ≡ b → b ≡ false
        false_from false e = refl
        false_from true e = absurd (let less = over key e in omega (arith, less, is))

    go : (b : Bool) → nat_eq key x ≡ b → (b || list_any (nat_eq key) xs) ≡ (b || list_any (nat_eq key) ys) →
        list_any (nat_eq key) xs ≡ list_any (nat_eq key) ys
    go true is e = none xs over_xs (eqb-true key x is) ∙ sym (none ys over_ys (eqb-true key x is))
    go false is e = e

one_list : (xs ys : List ℕ) → IsStrictlyIncreasing xs → IsStrictlyIncreasing ys → HaveSame xs ys → xs ≡ ys
one_list [] [] up other same = refl
one_list [] (y ∷ ys) up other same = absurd (false≢true (same y ∙ own_key y ys))
one_list (x ∷ xs) [] up other same = absurd (false≢true (sym (same x) ∙ own_key x xs))
one_list (x ∷ xs) (y ∷ ys) up other same =
    let over_x = ascends_above x xs up in
    let over_y = ascends_above y ys other in
    let first = same_first x xs y ys over_x over_y same in
    let over = subst (λ (k : ℕ). AreAbove k ys) (sym first) over_y in
    let others =
    same_others x xs ys over_x over
    (subst (λ (k : ℕ). HaveSame (x ∷ xs) (k ∷ ys)) (sym first) same) in
    let rest = one_list xs ys (ascends_on x xs up) (ascends_on y ys other) others in
    λ i. first i ∷ rest i

-- ---- the entries in the slots

has_entry : (start : Start) (run : List Event) (s : ℕ) →
    is_linked (state_in (incarnations_after start run) s) ≡ true →
    HasEntry start run s (key_in_slot (incarnations_after start run) s)
has_entry start run s e =
    let a = incarnations_after start run in
    let c = linked_in a s e in
    record {
      birth = a.birth c.0;
      node = c.0;
      is = record {
        last = c.1.stands.last;
        linked = c.1.linked;
        birth_is = refl;
        key_is = sym (stands_key c.1.stands);
      };
    }

have_entries : (start : Start) (run : List Event) (slots : List ℕ) →
    All (λ (s : ℕ). is_linked (state_in (incarnations_after start run) s) ≡ true) slots →
    HaveEntries start run slots (map (key_in_slot (incarnations_after start run)) slots)
have_entries start run [] all = tt
have_entries start run (s ∷ slots) all = (
  has_entry start run s
      (All-head (λ (s : ℕ). is_linked (state_in (incarnations_after start run) s) ≡ true) s slots all),
  have_entries start run slots
      (All-tail (λ (s : ℕ). is_linked (state_in (incarnations_after start run) s) ≡ true) s slots all),
)

-- the slots in the order of the keys have the entries of the keys that ascend
pub entries_of_keys : (start : Start) (run : List Event) (slots keys : List ℕ) → ListsSlots start run slots →
    AreKeysOf keys (set_after (opening_keys start) (calls_of start run)) → HaveEntries start run slots keys
entries_of_keys start run slots keys lists are =
    let a = incarnations_after start run in
    subst (λ (l : List ℕ). HaveEntries start run slots l)
    (one_list (map (key_in_slot a) slots) keys lists.keys.ascending are.ascending
    (λ key. lists.keys.same key ∙ sym (are.same key)))
    (have_entries start run slots lists.linked)

-- ---- over a renewal

-- of lists that go together, what stands at a number goes together
at_number : (R : ℕ → ℕ → Type 0) (xs ys : List ℕ) → AllZip R xs ys → (i : ℕ) → i < length xs →
    R (slice_index_or xs i 0) (slice_index_or ys i 0) × (i < length ys)
at_number R [] ys all i low = absurd (omega (arith, low))
at_number R (x ∷ xs) [] all i low = absurd all
at_number R (x ∷ xs) (y ∷ ys) all zero low = (all.0, omega arith)
at_number R (x ∷ xs) (y ∷ ys) all (suc i) low =
    let rest = at_number R xs ys all.1 i (omega (arith, low)) in
    (rest.0, (let less = rest.1 in omega (arith, less)))

-- an entry goes from its slot into the slot of its number, where a start has the keys that were listed
pub carries_over : {Item R : Type 0} (kind : KindOf Item R) →
    ((shape : Dimensions) (items : List Item) → (kind.start shape items).keys ≡ kind.keys items) →
    ((start : Start) (i : ℕ) → has_opening_key start i ≡ true →
    IsEntry start [] i (opening_birth start i) (key_number start i) i)
    → CarriesOver kind
carries_over kind starts opens members fresh shape slots r i low =
    let items = (kind.contents r.told.report).listed.items in
    let keys = kind.keys items in
    let start = r.new.set.start in
    let run = r.reports.closes.closes.run in
    let here =
    at_number (HasEntry r.reports.set.start run) r.told.slots.items keys r.reports.closes.slots i
    (subst (λ (l : List ℕ). i < length l) r.same low) in
    let are : keys ≡ start.keys = sym (ap (λ (s : Start). s.keys) r.new.shaped ∙ starts shape items) in (
      slice_index_or keys i 0,
      subst (λ (l : List ℕ). HasEntry r.reports.set.start run (slice_index_or l i 0) (slice_index_or keys i 0))
          (sym r.same) here.0,
      record {
        birth = opening_birth start i;
        node = i;
        is = subst (λ (l : List ℕ). IsEntry start [] i (opening_birth start i) (slice_index_or l i 0) i) (sym are)
            (opens start i
            (lt-ltb i (length start.keys) (subst (λ (l : List ℕ). i < length l) are here.1)));
      },
    )
