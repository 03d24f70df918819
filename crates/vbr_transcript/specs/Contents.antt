-- What a set or a map has, what its calls leave in it, and which histories of it are legal.
use Rattle.std.specs.Prelude.{◌≡◌, ℕ, List}
use Rattle.std.specs.List.Sorted.{IsStrictlyIncreasing}
use Rattle.vbr_machine.specs.Start.{Start}
use Rattle.vbr_machine.specs.History.{IsLegal, set_after}
use Rattle.vbr_machine.specs.Keys.{Keys, AreKeysOf}
use Rattle.vbr_machine.specs.Maps.{Entries, IsMapLegal, entries_in, keys_listed, map_after, opening_entries, values_listed}
use Rattle.vbr_machine.specs.Opened.{opening_keys}
use Rattle.vbr_machine.specs.declared.history.Call.{Call}
use Rattle.vbr_script.specs.declared.script.Kind.{Kind}
use Rattle.vbr_script.specs.declared.script.Kind.TheVariants.{Set, Map}

-- the keys of a set, or the entries of a map
abbrev pub Contents : Kind → Type 0
Contents Set = Keys
Contents Map = Entries

-- a key, or a key with its value
abbrev pub Item : Kind → Type 0
Item Set = ℕ
Item Map = ℕ × ℕ

-- what a start opens with
abbrev pub opening_contents : (kind : Kind) → Start → Contents kind
opening_contents Set start = opening_keys start
opening_contents Map start = opening_entries start

-- what is left after a history
abbrev pub contents_after : (kind : Kind) → Contents kind → List Call → Contents kind
contents_after Set keys calls = set_after keys calls
contents_after Map entries calls = map_after entries calls

-- a history is legal if each call is answered by what the calls before it left, and each value given is the one stored
abbrev pub IsLegalFrom : (kind : Kind) → Contents kind → List Call → Type 0
IsLegalFrom Set keys calls = IsLegal keys calls
IsLegalFrom Map entries calls = IsMapLegal entries calls

-- a list has just what a set or a map has, ascending by key
abbrev pub AreContents : (kind : Kind) → List (Item kind) → Contents kind → Type 0
AreContents Set listed keys = AreKeysOf listed keys
AreContents Map listed entries = IsStrictlyIncreasing (keys_listed listed) × ((key : ℕ) → entries_in listed key ≡ entries key)

-- the start that opens with what is listed, and is else the same
abbrev pub opened_with : (kind : Kind) → Start → List (Item kind) → Start
opened_with Set start listed = record start { keys = listed }
opened_with Map start listed = record start { keys = keys_listed listed; payloads = values_listed listed }
