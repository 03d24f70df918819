-- The keys of the linked nodes, sorted, are those of the set that the calls leave.
use Rattle.std.proofs.Common.{◌≡◌, ℕ, zero, suc, ◌<◌, ◌≤◌, Bool, true, false, cond, List, [], ◌∷◌, ◌++◌, refl, sym, ap}
use Rattle.std.proofs.Common.{◌∙◌, subst, ⊎_elim, inl, inr, arith}
use Rattle.std.specs.Prelude.{◌⊎◌, ◌||◌, All, nat_eq}
use Rattle.std.specs.List.{IsDistinct, list_any}
use Rattle.std.specs.List.Sorted.{IsNonDecreasing, IsPermutation}
use Rattle.std.proofs.lemmas.Bool.{cases_Bool, cases_lt, eq-eqb, eqb-true, false_from_ne_true, false≢true, or_cases}
use Rattle.std.proofs.lemmas.Bool.{or_left, or_right, true≢false}
use Rattle.std.proofs.lemmas.Cmp.{nat_eq_equiv}
use Rattle.std.proofs.lemmas.List.{map-append}
use Rattle.std.proofs.lemmas.List.Elements.{All-nil, All-push}
use Rattle.std.proofs.lemmas.List.Folds.{list_any-append}
use Rattle.std.proofs.lemmas.List.Sorted.{list_any-IsPermutation}
use Rattle.std.proofs.lemmas.Map.Keys.{IsDistinct-IsPermutation, IsDistinct-push, IsStrictlyIncreasing-from_distinct}
use Rattle.std.proofs.Math.Bool.{or-false}
use Rattle.std.specs.Cmp.{both_ways}
use Rattle.vbr_machine.specs.Start.{Start}
use Rattle.vbr_machine.specs.Accounts.{incarnations_after}
use Rattle.vbr_machine.specs.Agreement.{Fits}
use Rattle.vbr_machine.specs.History.{set_after}
use Rattle.vbr_machine.specs.Incarnations.{State, Linked}
use Rattle.vbr_machine.specs.Incarnations.{Incarnations}
use Rattle.vbr_machine.specs.Keys.{AreKeysOf}
use Rattle.vbr_machine.specs.Maps.{keys_listed}
use Rattle.vbr_machine.specs.Opened.{opening_keys}
use Rattle.vbr_machine.specs.Sound.{IsListed, Sound, Tells}
use Rattle.vbr_machine.specs.declared.event.Event.{Event}
use Rattle.vbr_machine.specs.declared.history.Call.{Call}
use Rattle.vbr_machine.proofs.Lemmas.{Stands, keys_differ, stands_in, stands_key, stands_there}
use Rattle.vbr_set.specs.histories.Histories.{calls_of}
use Rattle.vbr_machine.specs.Nodes.{is_linked, state_in, key_in_slot, is_listed}
use Rattle.vbr_set.specs.reports.Walking.{AreAfter, linked_of}
use Rattle.vbr_set.proofs.reports.ShownNodes.{agrees, stands_state}

-- the keys of the linked nodes in the slots below a number
abbrev pub linked_keys : Incarnations → ℕ → List ℕ
linked_keys a n = linked_of (key_in_slot a) a n

-- what is told of each linked node is so of all
pub all_linked : {T : Type 0} (P : T → Type 0) (tell : ℕ → T) (a : Incarnations) →
    ((s : ℕ) → is_linked (state_in a s) ≡ true → P (tell s)) → (n : ℕ) → All P (linked_of tell a n)
all_linked P tell a holds zero = All-nil P
all_linked P tell a holds (suc n) = go (all_linked P tell a holds n) (is_linked (state_in a n)) refl
  where
    go : All P (linked_of tell a n) → (b : Bool) → is_linked (state_in a n) ≡ b →
        All P (cond b (linked_of tell a n ++ tell n ∷ []) (linked_of tell a n))
    go earlier false is = earlier
    go earlier true is = All-push P (linked_of tell a n) (tell n) earlier (holds n is)

-- what is told with their keys has these keys
pub keys_linked : (tell : ℕ → ℕ × ℕ) (a : Incarnations) → ((s : ℕ) → (tell s).0 ≡ key_in_slot a s) → (n : ℕ) →
    keys_listed (linked_of tell a n) ≡ linked_keys a n
keys_linked tell a keyed zero = refl
keys_linked tell a keyed (suc n) = go (is_linked (state_in a n)) (keys_linked tell a keyed n)
  where
    go : (b : Bool) → keys_listed (linked_of tell a n) ≡ linked_keys a n →
        keys_listed (cond b (linked_of tell a n ++ tell n ∷ []) (linked_of tell a n))
        ≡ cond b (linked_keys a n ++ key_in_slot a n ∷ []) (linked_keys a n)
    go true e = map-append (λ (pair : ℕ × ℕ). pair.0) (linked_of tell a n) (tell n ∷ [])
        ∙ (λ i. e i ++ keyed n i ∷ [])
    go false e = e

-- ---- linked nodes

linked_from : (st : State) → is_linked st ≡ true → st ≡ Linked
linked_from Linked e = refl
linked_from _ e = absurd (false≢true e)

-- the last incarnation of the slot is this one, and it is linked
pub record IsLinkedIn (a : Incarnations) (s c : ℕ) : Type 0 where
  pub stands : Stands a s c
  pub linked : a.state c ≡ Linked

pub linked_in : (a : Incarnations) (s : ℕ) → is_linked (state_in a s) ≡ true → (c : ℕ) × IsLinkedIn a s c
linked_in a s e =
    let is = linked_from (state_in a s) e in
    let node = stands_in a s (ap is_listed is) in
    (node.0, record { stands = node.1; linked = sym (stands_state node.1) ∙ is })

-- ---- the keys of the list

-- a slot below a number has a linked node with this key
record HasKeyBelow (a : Incarnations) (n key : ℕ) : Type 0 where
  slot : ℕ
  low : slot < n
  linked : is_linked (state_in a slot) ≡ true
  is : key_in_slot a slot ≡ key

any_last : (a : Incarnations) (n key : ℕ) →
    list_any (nat_eq key) (linked_keys a n ++ key_in_slot a n ∷ [])
    ≡ (list_any (nat_eq key) (linked_keys a n) || (nat_eq key (key_in_slot a n) || false))
any_last a n key = list_any-append (nat_eq key) (linked_keys a n) (key_in_slot a n ∷ [])

has_from : (a : Incarnations) (n key : ℕ) → list_any (nat_eq key) (linked_keys a n) ≡ true → HasKeyBelow a n key
has_from a zero key e = absurd (false≢true e)
has_from a (suc n) key e = elim (cases_Bool (is_linked (state_in a n))) [
  | inr not_linked ↦ more (has_from a n key (told not_linked))
  | inl linked ↦ ⊎_elim
      (λ before. more (has_from a n key before))
      (λ here. record {
        slot = n;
        low = omega arith;
        linked = linked;
        is = sym (eqb-true key (key_in_slot a n) (sym (or-false _) ∙ here));
      })
      (or_cases _ _ (sym (any_last a n key) ∙ told linked))
]
  where
    told : {b : Bool} → is_linked (state_in a n) ≡ b →
        list_any (nat_eq key) (cond b (linked_keys a n ++ key_in_slot a n ∷ []) (linked_keys a n)) ≡ true
    told is = sym (ap (λ b. list_any (nat_eq key) (cond b (linked_keys a n ++ key_in_slot a n ∷ []) (linked_keys a n)))
        is) ∙ e

    more : HasKeyBelow a n key → HasKeyBelow a (suc n) key
    more h = record { slot = h.slot; low = (let l = h.low in omega arith); linked = h.linked; is = h.is }

has_is : (a : Incarnations) (n key : ℕ) → HasKeyBelow a n key → list_any (nat_eq key) (linked_keys a n) ≡ true
has_is a zero key h = absurd (let l = h.low in omega arith)
has_is a (suc n) key h =
    go (λ low. has_is a n key (record { slot = h.slot; low = low; linked = h.linked; is = h.is })) (cases_lt h.slot n)
    (cases_Bool (is_linked (state_in a n)))
  where
    last : n ≤ h.slot → n ≡ h.slot
    last le = let l = h.low in omega arith

    as_linked : (b : Bool) → is_linked (state_in a n) ≡ b →
        list_any (nat_eq key) (cond b (linked_keys a n ++ key_in_slot a n ∷ []) (linked_keys a n)) ≡ true →
        list_any (nat_eq key) (linked_keys a (suc n)) ≡ true
    as_linked b is e =
        ap (λ b. list_any (nat_eq key) (cond b (linked_keys a n ++ key_in_slot a n ∷ []) (linked_keys a n))) is ∙ e

    go : (h.slot < n → list_any (nat_eq key) (linked_keys a n) ≡ true) → (h.slot < n) ⊎ (n ≤ h.slot) →
        (is_linked (state_in a n) ≡ true) ⊎ (is_linked (state_in a n) ≡ false) →
        list_any (nat_eq key) (linked_keys a (suc n)) ≡ true
    go below (inl low) (inl linked) = as_linked true linked (any_last a n key ∙ or_left _ _ (below low))
    go below (inl low) (inr not_linked) = as_linked false not_linked (below low)
    go below (inr le) (inl linked) =
        as_linked true linked
        (any_last a n key
        ∙ or_right _ _ (or_left _ _ (eq-eqb key (key_in_slot a n) (sym h.is ∙ ap (key_in_slot a) (sym (last le))))))
    go below (inr le) (inr not_linked) =
        absurd (true≢false (sym h.linked ∙ ap (λ (s : ℕ). is_linked (state_in a s)) (sym (last le)) ∙ not_linked))

-- ---- distinct

-- linked nodes in two slots have different keys
apart : {start : Start} {a : Incarnations} → Sound start a → (s t : ℕ) → is_linked (state_in a s) ≡ true →
    is_linked (state_in a t) ≡ true → key_in_slot a s ≡ key_in_slot a t → s ≡ t
apart {start} {a} sound s t ls lt e =
    let c = linked_in a s ls in
    let d = linked_in a t lt in
    let same = keys_differ sound c.0 d.0 c.1.linked d.1.linked
    (sym (stands_key c.1.stands) ∙ e ∙ stands_key d.1.stands) in
    sym ((sound.slots.last_born s c.0 c.1.stands.last).1) ∙ ap a.slot same
    ∙ (sound.slots.last_born t d.0 d.1.stands.last).1

pub distinct : {start : Start} {a : Incarnations} → Sound start a → (n : ℕ) → IsDistinct nat_eq (linked_keys a n)
unfolding IsDistinct
distinct sound zero = tt
distinct {start} {a} sound (suc n) = go (distinct sound n) (is_linked (state_in a n)) refl
  where
    go : IsDistinct nat_eq (linked_keys a n) → (b : Bool) → is_linked (state_in a n) ≡ b →
        IsDistinct nat_eq (cond b (linked_keys a n ++ key_in_slot a n ∷ []) (linked_keys a n))
    go earlier false is = earlier
    go earlier true is =
        IsDistinct-push nat_eq_equiv (linked_keys a n) (key_in_slot a n) earlier
        (false_from_ne_true _
        (λ e. let h = has_from a n (key_in_slot a n) e in
        let same = apart sound h.slot n h.linked is h.is in
        let low = h.low in
        absurd (omega arith)))

-- ---- the set

-- the linked nodes of the slots of the shape have just the keys of the set
pub set_is : {start : Start} {a : Incarnations} → Sound start a → Fits start a → Tells start a → (key : ℕ) →
    list_any (nat_eq key) (linked_keys a start.shape.slots) ≡ set_after (opening_keys start) a.calls key
set_is {start} {a} sound fits tells key = both_ways _ _ there only
  where
    there : list_any (nat_eq key) (linked_keys a start.shape.slots) ≡ true →
        set_after (opening_keys start) a.calls key ≡ true
    there e =
        let h = has_from a start.shape.slots key e in
        let c = linked_in a h.slot h.linked in
        ap (set_after (opening_keys start) a.calls) (sym h.is ∙ stands_key c.1.stands) ∙ tells.there c.0 c.1.linked

    only : set_after (opening_keys start) a.calls key ≡ true →
        list_any (nat_eq key) (linked_keys a start.shape.slots) ≡ true
    only e =
        let c = tells.only key e in
        let there = stands_there sound fits c.0 (subst IsListed (sym c.1) tt) in
        has_is a start.shape.slots key
        (record {
          slot = a.slot c.0;
          low = there.0;
          linked = ap is_linked (stands_state there.1 ∙ c.1);
          is = stands_key there.1 ∙ c.2;
        })

-- sorted, they are the list of the set
pub lists_keys : {start : Start} {words : List ℕ} {run : List Event} → AreAfter start words run →
    (keys sorted : List ℕ) → keys ≡ linked_keys (incarnations_after start run) start.shape.slots →
    IsPermutation keys sorted → IsNonDecreasing sorted →
    AreKeysOf sorted (set_after (opening_keys start) (calls_of start run))
lists_keys {start} {words} {run} x keys sorted are moved up =
    let a = incarnations_after start run in
    let g = agrees x in
    let apart_keys = subst (λ (l : List ℕ). IsDistinct nat_eq l) (sym are) (distinct g.sound start.shape.slots) in
    record {
      ascending = IsStrictlyIncreasing-from_distinct sorted up
          (IsDistinct-IsPermutation nat_eq (λ m n. nat_eq_equiv.symm m n) keys sorted moved apart_keys);
      same = λ key.
          sym (list_any-IsPermutation (nat_eq key) keys sorted moved)
          ∙ ap (list_any (nat_eq key)) are
          ∙ set_is g.sound g.fits g.tells key
          ∙ ap (λ (calls : List Call). set_after (opening_keys start) calls key) (sym g.calls);
    }
