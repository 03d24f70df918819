-- What is true of either kind of items: the keys that are listed are the keys of the items, one by one; the keys that a report lists are the keys of what it reports; and what a report lists opens a set or a map of what was reported.
use Rattle.std.proofs.Common.{◌≡◌, ℕ, List, [], ◌∷◌, length, map, refl, sym, ap}
use Rattle.std.proofs.lemmas.List.{length-map}
use Rattle.vbr_words.specs.Dimensions.{Dimensions}
use Rattle.vbr_machine.specs.Maps.{keys_listed, values_listed}
use Rattle.vbr_machine.specs.Start.{start_with}
use Rattle.vbr_set.specs.reports.Kinds.{as_map, as_set}
use Rattle.vbr_set.specs.declared.report.MapReport.{MapReport}
use Rattle.vbr_set.specs.declared.report.Report.{Report}
use Rattle.vbr_handles.specs.Listings.{as_entries, as_entry, as_keys, as_pair}
use Rattle.vbr_handles.specs.declared.entry.Entry.{Entry}

pub each_key : (keys : List ℕ) → as_keys.keys keys ≡ map (λ (key : ℕ). key) keys
each_key [] = refl
each_key (key ∷ keys) = ap (λ (keys : List ℕ). key ∷ keys) (each_key keys)

pub each_key_of_entries : (entries : List Entry) → as_entries.keys entries ≡ map (λ (entry : Entry). entry.key) entries
each_key_of_entries [] = refl
each_key_of_entries (entry ∷ entries) = ap (λ (keys : List ℕ). entry.key ∷ keys) (each_key_of_entries entries)

pub as_many_listed : (report : Report) → length (as_keys.items report) ≡ length (as_set.contents report).listed.items
as_many_listed report = refl

pub as_many_entries : (report : MapReport) → length (as_entries.items report) ≡ length (as_map.contents report).listed.items
as_many_entries report = length-map report.entries.items as_entry

pub keys_restart : (shape : Dimensions) (report : Report) → as_set.start shape (as_set.contents report).listed.items ≡ start_with (record shape { values = as_keys.values }) (as_keys.keys (as_keys.items report)) (as_keys.payloads (as_keys.items report))
keys_restart shape report = refl

pairs_again : (pairs : List (ℕ × ℕ)) → map as_pair (map as_entry pairs) ≡ pairs
pairs_again [] = refl
pairs_again (pair ∷ pairs) = ap (λ (ps : List (ℕ × ℕ)). pair ∷ ps) (pairs_again pairs)

pub entries_restart : (shape : Dimensions) (report : MapReport) → as_map.start shape (as_map.contents report).listed.items ≡ start_with (record shape { values = as_entries.values }) (as_entries.keys (as_entries.items report)) (as_entries.payloads (as_entries.items report))
entries_restart shape report = λ i. start_with (record shape { values = as_entries.values }) (keys_listed (sym (pairs_again report.entries.items) i)) (values_listed (sym (pairs_again report.entries.items) i))

pub same_keys_listed : (report : Report) → as_keys.keys (as_keys.items report) ≡ as_set.keys (as_set.contents report).listed.items
same_keys_listed report = refl

pub same_keys_of_entries : (report : MapReport) → as_entries.keys (as_entries.items report) ≡ as_map.keys (as_map.contents report).listed.items
same_keys_of_entries report = ap keys_listed (pairs_again report.entries.items)
