-- A history of a map, whose state has for each key nothing or what is stored for it; and what it is for a set, which stores no value.
use Rattle.std.specs.Prelude.{◌≡◌, ℕ, Bool, true, false, List, [], ◌∷◌, Option, Some, None, is_some, nat_eq, map, if◌then◌else◌}
use Rattle.std.specs.Option.{unwrap_or}
use Rattle.vbr_words.specs.Dimensions.{Dimensions}
use Rattle.vbr_machine.specs.Start.{Start, start_with}
use Rattle.vbr_machine.specs.Put.{put}
use Rattle.vbr_machine.specs.Keys.{Keys}
use Rattle.vbr_machine.specs.History.{reply_of}
use Rattle.vbr_machine.specs.Opened.{opening_keys, opening_payloads}
use Rattle.vbr_machine.specs.declared.history.Call.{Call}
use Rattle.vbr_machine.specs.declared.history.Op.{Op}
use Rattle.vbr_machine.specs.declared.history.Op.TheVariants.{Insert, Remove, Get}

-- a map: for each key nothing, or what is stored for it, which is a value, or none in a set
abbrev pub Entries : Type 0
Entries = ℕ → Option (Option ℕ)

-- the keys of a list of entries, in its order
abbrev pub keys_listed : List (ℕ × ℕ) → List ℕ
keys_listed entries = map (λ entry. entry.0) entries

-- the values of a list of entries, in its order
abbrev pub values_listed : List (ℕ × ℕ) → List ℕ
values_listed entries = map (λ entry. entry.1) entries

-- the map of a list of entries: if a key is listed more than once, the first counts
abbrev pub entries_in : List (ℕ × ℕ) → Entries
entries_in [] key = None
entries_in (entry ∷ entries) key = if nat_eq key entry.0 then Some (Some entry.1) else entries_in entries key

-- what a map of this shape starts with that opens with these entries
abbrev pub map_start : Dimensions → List (ℕ × ℕ) → Start
map_start shape entries = start_with (record shape { values = true }) (keys_listed entries) (values_listed entries)

-- the keys that a map has
abbrev pub keys_in : Entries → Keys
keys_in entries key = is_some (entries key)

-- the map after a call: an insert answered yes stores its value, a remove answered yes takes the key out, and nothing else changes the map
abbrev pub entries_after : Entries → Op → ℕ → Bool → Option ℕ → Entries
entries_after entries Insert key true value = put entries key (Some value)
entries_after entries Remove key true value = put entries key None
entries_after entries _ key _ value = entries

-- the value of a call: an insert answered yes may store any, a remove or a get answered yes gives the one that the map has, and others have none
abbrev pub GivesEntry : Entries → Op → ℕ → Bool → Option ℕ → Type 0
GivesEntry entries Insert key true value = Unit {0}
GivesEntry entries Remove key true value = entries key ≡ Some value
GivesEntry entries Get key true value = entries key ≡ Some value
GivesEntry entries _ key _ value = value ≡ None

-- a history of a map is legal if each call is answered by the map as the calls before it left it
abbrev pub IsMapLegal : Entries → List Call → Type 0
IsMapLegal entries [] = Unit {0}
IsMapLegal entries (call ∷ calls) =
    (call.reply ≡ reply_of (keys_in entries) call.op call.key) × GivesEntry entries call.op call.key call.reply call.value
    × IsMapLegal (entries_after entries call.op call.key call.reply call.value) calls

-- the map after a history, from an opening map
abbrev pub map_after : Entries → List Call → Entries
map_after entries [] = entries
map_after entries (call ∷ calls) = map_after (entries_after entries call.op call.key call.reply call.value) calls

-- a history that is legal for a map leads from an opening map to the map after it
pub record MapLeads (opening : Entries) (calls : List Call) (closing : Entries) : Type 0 where
  pub legal : IsMapLegal opening calls
  pub entries : (key : ℕ) → closing key ≡ map_after opening calls key

-- the value that a call asks to store: 0 if it names none
abbrev pub value_asked : Call → ℕ
value_asked call = unwrap_or call.value 0

-- a call as it was asked, and the same call answered: an insert answered yes stores the value that was asked for
abbrev pub StoresAsked : Call → Call → Type 0
StoresAsked asked answered = answered.op ≡ Insert → answered.reply ≡ true → answered.value ≡ Some (value_asked asked)

-- calls as they were asked, and the same calls answered, one for one: each insert answered yes stores the value that was asked for
abbrev pub StoreAsked : List Call → List Call → Type 0
StoreAsked [] [] = Unit {0}
StoreAsked (asked ∷ calls) (answered ∷ answers) = StoresAsked asked answered × StoreAsked calls answers
StoreAsked _ _ = ⊥

-- the map that a start opens with
abbrev pub opening_entries : Start → Entries
opening_entries start key = if opening_keys start key then Some (opening_payloads start key) else None

-- no call of a list has a value
abbrev pub TellsNoValue : List Call → Type 0
TellsNoValue [] = Unit {0}
TellsNoValue (call ∷ calls) = (call.value ≡ None) × TellsNoValue calls

-- a map has no value for any key, as a set
abbrev pub StoresNoValue : Entries → Type 0
StoresNoValue entries = (key : ℕ) (value : ℕ) → (entries key ≡ Some (Some value)) → ⊥

-- a call that stores or gives a value has one if nodes have values; and if they have none, no call has
abbrev pub HasValueOf : Bool → Op → Bool → Option ℕ → Type 0
HasValueOf false op reply value = value ≡ None
HasValueOf true Insert true value = (v : ℕ) × (value ≡ Some v)
HasValueOf true Remove true value = (v : ℕ) × (value ≡ Some v)
HasValueOf true Get true value = (v : ℕ) × (value ≡ Some v)
HasValueOf true _ _ value = value ≡ None

-- each call of a list has a value just if it stores or gives one and nodes have values
abbrev pub HaveValues : Bool → List Call → Type 0
HaveValues values [] = Unit {0}
HaveValues values (call ∷ calls) = HasValueOf values call.op call.reply call.value × HaveValues values calls
