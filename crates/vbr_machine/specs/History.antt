-- A history is a list of answered calls on a set, or on a map, whose keys have values.
use Rattle.std.specs.Prelude.{◌≡◌, ℕ, Bool, true, false, List, [], ◌∷◌, Option, None, not, ◌==◌, filter}
use Rattle.vbr_machine.specs.Put.{put}
use Rattle.vbr_machine.specs.Keys.{Keys}
use Rattle.vbr_machine.specs.declared.history.Call.{Call}
use Rattle.vbr_machine.specs.declared.history.Op.{Op}
use Rattle.vbr_machine.specs.declared.history.Op.TheVariants.{Insert, Remove, Get}

-- a call on a set, which has no value
abbrev pub set_call : ℕ → Op → ℕ → Bool → Call
set_call who op key reply = record { who = who; op = op; key = key; reply = reply; value = None }

-- the reply of a set that has these keys: an insert is answered yes if its key is absent, a remove and a look-up if it is present
abbrev pub reply_of : Keys → Op → ℕ → Bool
reply_of keys Insert key = not (keys key)
reply_of keys _ key = keys key

-- the keys after a call: an insert answered yes adds its key, a remove answered yes takes it out, and nothing else changes the set
abbrev pub keys_after : Keys → Op → ℕ → Bool → Keys
keys_after keys Insert key true = put keys key true
keys_after keys Remove key true = put keys key false
keys_after keys _ key _ = keys

-- the keys after a history, from an opening set
abbrev pub set_after : Keys → List Call → Keys
set_after keys [] = keys
set_after keys (call ∷ calls) = set_after (keys_after keys call.op call.key call.reply) calls

-- a history is legal from an opening set if each reply is that of the set as the calls before it left it
abbrev pub IsLegal : Keys → List Call → Type 0
IsLegal keys [] = Unit {0}
IsLegal keys (call ∷ calls) = (call.reply ≡ reply_of keys call.op call.key) × IsLegal (keys_after keys call.op call.key call.reply) calls

-- a legal history leads from an opening set to the set after it
pub record Leads (opening : Keys) (calls : List Call) (closing : Keys) : Type 0 where
  pub legal : IsLegal opening calls
  pub keys : (key : ℕ) → closing key ≡ set_after opening calls key

-- ---- values

-- the value of each key, none in a set; of a key that isn't there it says nothing
abbrev pub Payloads : Type 0
Payloads = ℕ → Option ℕ

-- the values after a call: an insert answered yes stores its own
abbrev pub payloads_after : Payloads → Op → ℕ → Bool → Option ℕ → Payloads
payloads_after payloads Insert key true value = put payloads key value
payloads_after payloads _ key _ value = payloads

-- the values after a history, from opening ones
abbrev pub values_after : Payloads → List Call → Payloads
values_after payloads [] = payloads
values_after payloads (call ∷ calls) = values_after (payloads_after payloads call.op call.key call.reply call.value) calls

-- the value of a call: an insert answered yes may store any, a remove or a get answered yes gives the one that is stored, and others have none
abbrev pub GivesValue : Payloads → Op → ℕ → Bool → Option ℕ → Type 0
GivesValue payloads Insert key true value = Unit {0}
GivesValue payloads Remove key true value = value ≡ payloads key
GivesValue payloads Get key true value = value ≡ payloads key
GivesValue payloads _ key _ value = value ≡ None

-- each remove and each get of a history that is answered yes gives the value that was stored last for its key, and no other call but an insert answered yes has one
abbrev pub GiveStored : Payloads → List Call → Type 0
GiveStored payloads [] = Unit {0}
GiveStored payloads (call ∷ calls) = GivesValue payloads call.op call.key call.reply call.value × GiveStored (payloads_after payloads call.op call.key call.reply call.value) calls

-- ---- requests

-- what a call asks, without its reply and its value: the caller, the operation and the key
abbrev pub request_of : Call → ℕ × Op × ℕ
request_of call = (call.who, call.op, call.key)

-- the calls of one caller, in their order
abbrev pub calls_by : ℕ → List Call → List Call
calls_by who calls = filter (λ call. call.who == who) calls
