-- The entries of the linked nodes, sorted by key, are those of the map that the calls leave.
use Rattle.std.proofs.Common.{◌≡◌, ℕ, ◌<◌, ◌≤◌, Bool, true, false, List, [], ◌∷◌, Option, Some}
use Rattle.std.proofs.Common.{None, refl, sym, ap, ◌∙◌, subst, length, arith}
use Rattle.std.specs.Prelude.{◌||◌, All, nat_eq, if◌then◌else◌}
use Rattle.std.specs.List.{list_any}
use Rattle.std.specs.List.Sorted.{IsNonDecreasing, IsNonDecreasingBy, IsPermutation}
use Rattle.std.proofs.lemmas.Bool.{eqb-true}
use Rattle.std.proofs.lemmas.List.{get_or-map, length-map}
use Rattle.std.proofs.lemmas.List.Elements.{All-head, All-tail}
use Rattle.std.proofs.lemmas.List.Sorted.{All-permutation, IsPermutation-map}
use Rattle.vbr_machine.specs.Start.{Start}
use Rattle.vbr_machine.specs.Accounts.{incarnations_after}
use Rattle.vbr_machine.specs.History.{Payloads, keys_after, payloads_after, set_after, values_after}
use Rattle.vbr_machine.specs.Images.{value_shown}
use Rattle.vbr_machine.specs.Incarnations.{Incarnations}
use Rattle.vbr_machine.specs.Keys.{Keys}
use Rattle.vbr_machine.specs.Maps.{Entries, entries_after, entries_in, keys_listed, map_after, opening_entries}
use Rattle.vbr_machine.specs.Nodes.{is_linked, state_in}
use Rattle.vbr_machine.specs.Opened.{opening_keys, opening_payloads}
use Rattle.vbr_machine.specs.Sound.{Tells}
use Rattle.vbr_machine.specs.declared.event.Event.{Event}
use Rattle.vbr_machine.specs.declared.history.Call.{Call}
use Rattle.vbr_machine.specs.declared.history.Op.{Op}
use Rattle.vbr_machine.specs.declared.history.Op.TheVariants.{Insert, Remove}
use Rattle.vbr_machine.proofs.Lemmas.{stands_key}
use Rattle.vbr_set.specs.reports.Contents.{entry_in_slot}
use Rattle.vbr_set.specs.histories.Histories.{calls_of}
use Rattle.vbr_set.specs.reports.Kinds.{AreEntriesOf}
use Rattle.vbr_set.specs.reports.Walking.{AreAfter, linked_of}
use Rattle.vbr_set.proofs.reports.LinkedKeys.{all_linked, keys_linked, linked_in, lists_keys}
use Rattle.vbr_set.proofs.reports.ShownNodes.{agrees}

-- ---- the map after a history, by the keys and the values after it

-- what a key has, where it is there
abbrev entry_of : Bool → Option ℕ → Option (Option ℕ)
entry_of there value = if there then Some value else None

put_in : (here there : Bool) (entry : Option (Option ℕ)) (value new : Option ℕ) → entry ≡ entry_of there value →
    (if here then Some new else entry) ≡ entry_of (if here then true else there) (if here then new else value)
put_in true there entry value new e = refl
put_in false there entry value new e = e

taken_out : (here there : Bool) (entry : Option (Option ℕ)) (value : Option ℕ) → entry ≡ entry_of there value →
    (if here then None else entry) ≡ entry_of (if here then false else there) value
taken_out true there entry value e = refl
taken_out false there entry value e = e

call_at : (entries : Entries) (keys : Keys) (payloads : Payloads) (op : Op) (key : ℕ) (reply : Bool) (value : Option ℕ)
    (q : ℕ) → entries q ≡ entry_of (keys q) (payloads q) →
    entries_after entries op key reply value q
    ≡ entry_of (keys_after keys op key reply q) (payloads_after payloads op key reply value q)
call_at entries keys payloads Insert key true value q e =
    put_in (nat_eq q key) (keys q) (entries q) (payloads q) value e
call_at entries keys payloads Insert key false value q e = e
call_at entries keys payloads Remove key true value q e = taken_out (nat_eq q key) (keys q) (entries q) (payloads q) e
call_at entries keys payloads _ key _ value q e = e

map_at : (entries : Entries) (keys : Keys) (payloads : Payloads) (calls : List Call) (q : ℕ) →
    entries q ≡ entry_of (keys q) (payloads q) →
    map_after entries calls q ≡ entry_of (set_after keys calls q) (values_after payloads calls q)
map_at entries keys payloads [] q e = e
map_at entries keys payloads (c ∷ cs) q e =
    map_at (entries_after entries c.op c.key c.reply c.value) (keys_after keys c.op c.key c.reply)
    (payloads_after payloads c.op c.key c.reply c.value) cs q
    (call_at entries keys payloads c.op c.key c.reply c.value q e)

module _ (start : Start) (calls : List Call) where
  abbrev map_left : Entries
  map_left = map_after (opening_entries start) calls

  pub map_is : (q : ℕ) →
      map_left q ≡ entry_of (set_after (opening_keys start) calls q) (values_after (opening_payloads start) calls q)
  map_is q = map_at (opening_entries start) (opening_keys start) (opening_payloads start) calls q refl

-- ---- the entries of linked nodes

-- the map has this entry
abbrev IsStored : Entries → ℕ × ℕ → Type 0
IsStored entries entry = entries entry.0 ≡ Some (Some entry.1)

stored_is : {start : Start} {a : Incarnations} → Tells start a → start.shape.values ≡ true → (s : ℕ) →
    is_linked (state_in a s) ≡ true → IsStored (map_left start a.calls) (entry_in_slot a s)
stored_is {start} {a} tells valued s is =
    let c = linked_in a s is in
    ap (map_left start a.calls) (stands_key c.1.stands)
    ∙ map_is start a.calls (a.key c.0)
    ∙ (λ i. entry_of (tells.there c.0 c.1.linked i) (tells.stored c.0 c.1.linked i))
    ∙ ap (λ (values : Bool). Some (if values then Some (a.value c.0) else None)) valued
    ∙ ap (λ (last : Option ℕ). Some (Some (value_shown a last))) (sym c.1.stands.last)

-- ---- a list of entries

entries_are : (entries : Entries) (listed : List (ℕ × ℕ)) → All (IsStored entries) listed → (key : ℕ) →
    entries_in listed key ≡ (if list_any (nat_eq key) (keys_listed listed) then entries key else None)
entries_are entries [] all key = refl
entries_are entries (e ∷ es) all key =
    go (nat_eq key e.0) refl (entries_are entries es (All-tail (IsStored entries) e es all) key)
  where
    go : (b : Bool) → nat_eq key e.0 ≡ b →
        entries_in es key ≡ (if list_any (nat_eq key) (keys_listed es) then entries key else None) →
        (if b then Some (Some e.1) else entries_in es key)
        ≡ (if (b || list_any (nat_eq key) (keys_listed es)) then entries key else None)
    go true is rest = sym (ap entries (eqb-true key e.0 is) ∙ All-head (IsStored entries) e es all)
    go false is rest = rest

-- a key that isn't there has nothing
nothing_else : (there : Bool) (entry : Option (Option ℕ)) (value : Option ℕ) → entry ≡ entry_of there value →
    (if there then entry else None) ≡ entry
nothing_else true entry value e = refl
nothing_else false entry value e = sym e

-- sorted by key, their keys ascend
pub rises : (sorted : List (ℕ × ℕ)) → IsNonDecreasingBy (λ (entry : ℕ × ℕ). entry.0) sorted →
    IsNonDecreasing (keys_listed sorted)
rises sorted up i j d le low =
    let same = length-map sorted (λ (entry : ℕ × ℕ). entry.0) in
    let last : j < length sorted = omega arith in
    let first : i < length sorted = omega arith in
    subst (λ (x : ℕ × ℕ). x.0 ≤ x.1)
    (λ k. (
      sym (get_or-map (λ (entry : ℕ × ℕ). entry.0) sorted i (0, 0) d first) k,
      sym (get_or-map (λ (entry : ℕ × ℕ). entry.0) sorted j (0, 0) d last) k,
    )) (up i j (0, 0) le last)

-- sorted by key, they are the list of the map
pub lists_entries : {start : Start} {words : List ℕ} {run : List Event} → AreAfter start words run →
    start.shape.values ≡ true → (entries sorted : List (ℕ × ℕ)) →
    entries ≡ linked_of (entry_in_slot (incarnations_after start run)) (incarnations_after start run)
    start.shape.slots → IsPermutation entries sorted → IsNonDecreasingBy (λ (entry : ℕ × ℕ). entry.0) sorted
    → AreEntriesOf sorted (map_after (opening_entries start) (calls_of start run))
lists_entries {start} {words} {run} x valued entries sorted are moved up =
    let a = incarnations_after start run in
    let g = agrees x in
    let keys = lists_keys x (keys_listed entries) (keys_listed sorted)
    (ap keys_listed are ∙ keys_linked (entry_in_slot a) a (λ s. refl) start.shape.slots)
    (IsPermutation-map (λ (entry : ℕ × ℕ). entry.0) entries sorted moved) (rises sorted up) in
    let stored =
    All-permutation (IsStored (map_left start a.calls)) entries sorted moved
    (subst (λ (l : List (ℕ × ℕ)). All (IsStored (map_left start a.calls)) l) (sym are)
    (all_linked (IsStored (map_left start a.calls)) (entry_in_slot a) a (stored_is g.tells valued)
    start.shape.slots)) in
    record {
      ascending = keys.ascending;
      same = λ key.
          entries_are (map_left start a.calls) sorted stored key
          ∙ ap (λ (calls : List Call).
          if list_any (nat_eq key) (keys_listed sorted) then map_left start calls key else None) (sym g.calls)
          ∙ ap (λ (there : Bool). if there then map_left start (calls_of start run) key else None) (keys.same key)
          ∙ nothing_else (set_after (opening_keys start) (calls_of start run) key)
          (map_left start (calls_of start run) key) (values_after (opening_payloads start) (calls_of start run) key)
          (map_is start (calls_of start run) key);
    }
