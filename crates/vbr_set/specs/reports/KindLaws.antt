-- What is true of each kind: it opens with a key for each item, the items of a report ascend, and what opens with items starts as it was with them; and the keys of what the calls of a history leave are the keys that they leave in a set. A set keeps no values, so none stand beside its keys.
use Rattle.std.proofs.Common.{◌≡◌, ℕ, Bool, true, false, List, [], ◌∷◌, length, Option, Some, None, refl, sym, ap, ◌∙◌}
use Rattle.std.proofs.lemmas.List.{length-map}
use Rattle.std.specs.Prelude.{◌||◌, if◌then◌else◌, is_some, nat_eq}
use Rattle.std.specs.List.Sorted.{IsStrictlyIncreasing}
use Rattle.vbr_words.specs.Dimensions.{Dimensions}
use Rattle.vbr_machine.specs.Start.{Start, IsStart, start_with}
use Rattle.vbr_machine.specs.History.{keys_after, set_after}
use Rattle.vbr_machine.specs.Keys.{AreKeysOf, Keys, keys_of}
use Rattle.vbr_machine.specs.Maps.{Entries, entries_after, entries_in, keys_listed, map_after, opening_entries, values_listed}
use Rattle.vbr_machine.specs.Opened.{opening_keys, opening_payloads}
use Rattle.vbr_machine.specs.declared.history.Call.{Call}
use Rattle.vbr_machine.specs.declared.history.Op.{Op}
use Rattle.vbr_machine.specs.declared.history.Op.TheVariants.{Insert, Remove, Has, Get}
use Rattle.vbr_set.specs.reports.Kinds.{as_map, as_set}

pub keys_ascend : (start : Start) (calls : List Call) (keys : List ℕ) → as_set.lists start calls keys → IsStrictlyIncreasing (as_set.keys keys)
keys_ascend start calls keys are = are.ascending

pub entries_ascend : (start : Start) (calls : List Call) (entries : List (ℕ × ℕ)) → as_map.lists start calls entries → IsStrictlyIncreasing (as_map.keys entries)
entries_ascend start calls entries are = are.ascending

pub counts_keys : (shape : Dimensions) (keys : List ℕ) → length (as_set.start shape keys).keys ≡ length keys
counts_keys shape keys = refl

pub counts_entries : (shape : Dimensions) (entries : List (ℕ × ℕ)) → length (as_map.start shape entries).keys ≡ length entries
counts_entries shape entries = length-map entries (λ (entry : ℕ × ℕ). entry.0)

none_of_none : (values : List ℕ) → length values ≡ 0 → values ≡ []
none_of_none [] e = refl
none_of_none (value ∷ values) e = absurd (cc)

no_payloads : (start : Start) → IsStart start → start.shape.values ≡ false → start.payloads ≡ []
no_payloads start is bare = none_of_none start.payloads (is.paired ∙ ap (λ (t : Bool). if t then length start.keys else 0) bare)

pub set_reopens : (start : Start) (keys : List ℕ) → IsStart start → start.shape.values ≡ false → as_set.start start.shape keys ≡ as_set.with_items start keys
set_reopens start keys is bare = λ i. start_with (record start.shape { values = sym bare i }) keys (sym (no_payloads start is bare) i)

pub map_reopens : (start : Start) (entries : List (ℕ × ℕ)) → IsStart start → start.shape.values ≡ true → as_map.start start.shape entries ≡ as_map.with_items start entries
map_reopens start entries is valued = λ i. start_with (record start.shape { values = sym valued i }) (keys_listed entries) (values_listed entries)

pub keys_of_keys : (start : Start) (calls : List Call) (keys : List ℕ) → as_set.lists start calls keys → AreKeysOf (as_set.keys keys) (set_after (opening_keys start) calls)
keys_of_keys start calls keys are = are

some_where : (here : Bool) (entry : Option (Option ℕ)) (value : Option ℕ) (there : Bool) → is_some entry ≡ there → is_some (if here then Some value else entry) ≡ (if here then true else there)
some_where true entry value there e = refl
some_where false entry value there e = e

none_where : (here : Bool) (entry : Option (Option ℕ)) (there : Bool) → is_some entry ≡ there → is_some (if here then None else entry) ≡ (if here then false else there)
none_where true entry there e = refl
none_where false entry there e = e

keys_stay : (entries : Entries) (keys : Keys) (op : Op) (key : ℕ) (reply : Bool) (value : Option ℕ) (q : ℕ) → is_some (entries q) ≡ keys q → is_some (entries_after entries op key reply value q) ≡ keys_after keys op key reply q
keys_stay entries keys Insert key true value q e = some_where (nat_eq q key) (entries q) value (keys q) e
keys_stay entries keys Insert key false value q e = e
keys_stay entries keys Remove key true value q e = none_where (nat_eq q key) (entries q) (keys q) e
keys_stay entries keys Remove key false value q e = e
keys_stay entries keys Has key reply value q e = e
keys_stay entries keys Get key reply value q e = e

keys_left : (entries : Entries) (keys : Keys) (calls : List Call) (q : ℕ) → is_some (entries q) ≡ keys q → is_some (map_after entries calls q) ≡ set_after keys calls q
keys_left entries keys [] q e = e
keys_left entries keys (c ∷ cs) q e = keys_left (entries_after entries c.op c.key c.reply c.value) (keys_after keys c.op c.key c.reply) cs q (keys_stay entries keys c.op c.key c.reply c.value q e)

keys_opened : (there : Bool) (value : Option ℕ) → is_some (if there then Some value else None) ≡ there
keys_opened true value = refl
keys_opened false value = refl

keys_of_listed : (listed : List (ℕ × ℕ)) (key : ℕ) → keys_of (keys_listed listed) key ≡ is_some (entries_in listed key)
keys_of_listed [] key = refl
keys_of_listed (entry ∷ entries) key = go (nat_eq key entry.0) (keys_of_listed entries key)
  where
    go : (here : Bool) → keys_of (keys_listed entries) key ≡ is_some (entries_in entries key) → (here || keys_of (keys_listed entries) key) ≡ is_some (if here then Some (Some entry.1) else entries_in entries key)
    go true e = refl
    go false e = e

pub keys_of_entries : (start : Start) (calls : List Call) (entries : List (ℕ × ℕ)) → as_map.lists start calls entries → AreKeysOf (as_map.keys entries) (set_after (opening_keys start) calls)
keys_of_entries start calls entries are = record {
  ascending = are.ascending;
  same = λ key. keys_of_listed entries key ∙ ap (λ (entry : Option (Option ℕ)). is_some entry) (are.same key)
      ∙ keys_left (opening_entries start) (opening_keys start) calls key (keys_opened (opening_keys start key) (opening_payloads start key));
}
