-- What is known of an entry: that it was in the map when it was found, and that its slot is still its own.
use Rattle.std.specs.Prelude.{◌≡◌, ◌≢◌, ℕ, ◌<◌, nat_lt, Bool, true, false, List, Option, Some, None, Result, Ok, Err, IfOk, if◌then◌else◌, is_some}
use Rattle.vbr_words.specs.declared.nodes.Nodes.{Ghosts}
use Rattle.vbr_words.specs.declared.place.At.{At}
use Rattle.vbr_words.specs.declared.place.At.TheVariants.{Head, Slot}
use Rattle.vbr_machine.specs.History.{set_after, values_after, set_call}
use Rattle.vbr_machine.specs.Opened.{opening_keys, opening_payloads}
use Rattle.vbr_machine.specs.Records.{IsEntry}
use Rattle.vbr_machine.specs.Runs.{world_after}
use Rattle.vbr_machine.specs.declared.event.Event.{Event}
use Rattle.vbr_machine.specs.declared.history.Call.{Call}
use Rattle.vbr_machine.specs.declared.history.Op.TheVariants.{Get, Has}
use Rattle.vbr_slots.specs.steps.Calls.{Moment}
use Rattle.vbr_slots.specs.views.Views.{PassView, Trace}
use Rattle.vbr_at_table.specs.declared.held.Held.{Held}
use Rattle.vbr_at_table.specs.declared.refusal.Refusal.{Refusal}
use Rattle.vbr_list.specs.calls.Budgets.{steps_where}
use Rattle.vbr_list.specs.calls.CallBounds.{BoundsOfLookUp, CallsAs, CallsEntry}
use Rattle.vbr_list.specs.look_ups.LookUpPieces.{LookUpAnswers}
use Rattle.vbr_list.specs.calls.Pieces.{trace_in}
use Rattle.vbr_list.specs.calls.Told.{given_call, given_in, look_up_op}
use Rattle.vbr_list.specs.declared.call.PendingCall.{PendingCall}
use Rattle.vbr_list.specs.declared.entries.Entry.{Entry}

-- ---- an entry

-- the entry of a node that is held, if it is a node with a value
abbrev pub entry_at : At → ℕ → ℕ → Option Entry
entry_at (Head b) birth value = None
entry_at (Slot s) birth value = Some (record { slot = s; birth = birth; value = value })

abbrev pub entry_of : Held → Option ℕ → Option Entry
entry_of node None = None
entry_of node (Some value) = entry_at node.at node.birth value

-- its value
abbrev pub value_of_entry : Option Entry → Option ℕ
value_of_entry None = None
value_of_entry (Some entry) = Some entry.value

-- an answer that gives an entry, as one that gives its value
abbrev pub value_given : {E : Type 0} → Result (Option Entry) E → Result (Option ℕ) E
value_given (Ok entry) = Ok (value_of_entry entry)
value_given (Err error) = Err error

-- the entry with none, which is 0
abbrev pub without_value : Entry → Entry
without_value entry = record { slot = entry.slot; birth = entry.birth; value = 0 }

-- it has none
abbrev pub HasNoValue : Option Entry → Type 0
HasNoValue None = Unit {0}
HasNoValue (Some entry) = entry.value ≡ 0

-- an entry names a node that had a key after a run: the node of its slot, with its birth
pub record IsNamed (p : Trace) (run : List Event) (key : ℕ) (entry : Entry) : Type 0 where
  pub node : ℕ
  pub is : IsEntry p.start run entry.slot entry.birth key node

-- at a moment of what the pass did, it was in the map so
pub record WasThere (p q : Trace) (key : ℕ) (entry : Entry) : Type 0 where
  pub moment : List Event
  pub within : Moment p q moment
  pub named : IsNamed p moment key entry

-- at a moment of what the pass did, the key was in the map with the value of the entry, which names its node
pub record WasFullEntry (p q : Trace) (key : ℕ) (entry : Entry) : Type 0 where
  pub moment : List Event
  pub within : Moment p q moment
  pub was : set_after (opening_keys p.start) (world_after p.start moment).calls key ≡ true
  pub stored : values_after (opening_payloads p.start) (world_after p.start moment).calls key ≡ Some entry.value
  pub named : IsNamed p moment key entry

-- the entry, if there is one, was there: with its value, if the call gives it
abbrev pub WasThereIf : Bool → Trace → Trace → ℕ → Option Entry → Type 0
WasThereIf gives p q key None = Unit {0}
WasThereIf true p q key (Some entry) = WasFullEntry p q key entry
WasThereIf false p q key (Some entry) = WasThere p q key entry

-- ---- what calls promise

-- the look-up, or the get, is answered with the value of the entry, which was there
pub record EntryAnswers {N : Type 0} {kind : Ghosts N} (gives : Bool) (c d : PendingCall N kind) (answer : Option Entry) : Type 0 where
  pub answers : LookUpAnswers gives c d (value_of_entry answer)
  pub there : WasThereIf gives (trace_in c) (trace_in d) c.key answer
  pub zero : gives ≡ false → HasNoValue answer

-- the call that it is, as the table of a pass keeps it
abbrev pub entry_in : Trace → Bool → ℕ → Option Entry → Call
entry_in p gives key entry = given_in p (look_up_op gives) key (value_of_entry entry)

-- the same for a whole call. Only contracts of private functions cite this
pub record FindsNamedEntry (gives : Bool) (p q : PassView) (key budget : ℕ) (answer : Result (Option Entry) Refusal) : Type 0 where
  pub calls : CallsAs (entry_in p.trace gives key) (BoundsOfLookUp (entry_in p.trace gives key) (steps_where gives) p q key budget) p q budget answer
  pub there : IfOk answer (WasThereIf gives p.trace q.trace key)
  pub zero : gives ≡ false → IfOk answer HasNoValue

-- a get that gives the entry: it is the get of its value, and the entry was in the map with this value at a moment of the call
pub record GetsNamedEntry (p q : PassView) (key budget : ℕ) (answer : Result (Option Entry) Refusal) : Type 0 where
  pub calls : CallsEntry (λ entry. given_call p.trace.who Get key (value_of_entry entry)) (BoundsOfLookUp (λ entry. given_call p.trace.who Get key (value_of_entry entry)) 2 p q key budget) p q budget answer
  pub there : IfOk answer (WasThereIf true p.trace q.trace key)

-- a look-up that gives the entry, with no value: it is the look-up of the key in a set, and the entry was there at a moment of the call
pub record HasNamedEntry (p q : PassView) (key budget : ℕ) (answer : Result (Option Entry) Refusal) : Type 0 where
  pub calls : CallsAs (λ entry. set_call p.trace.who Has key (is_some entry)) (BoundsOfLookUp (λ entry. set_call p.trace.who Has key (is_some entry)) 0 p q key budget) p q budget answer
  pub there : IfOk answer (WasThereIf false p.trace q.trace key)
  pub zero : IfOk answer HasNoValue

-- at a moment of what the pass did, the slot of an entry showed its birth, and is one of the shape
pub record IsStill (p q : PassView) (entry : Entry) : Type 0 where
  pub moment : List Event
  pub within : Moment p.trace q.trace moment
  pub shown : (world_after p.trace.start moment).birth entry.slot ≡ entry.birth
  pub low : entry.slot < p.trace.start.shape.slots

-- at such a moment it showed another one
pub record IsGone (p q : PassView) (entry : Entry) : Type 0 where
  pub moment : List Event
  pub within : Moment p.trace q.trace moment
  pub shown : (world_after p.trace.start moment).birth entry.slot ≢ entry.birth

-- one of the two holds, as the answer says; if the slot isn't one of the shape, the answer is no
abbrev pub TellsStill : PassView → PassView → Entry → Bool → Type 0
TellsStill p q entry true = IsStill p q entry
TellsStill p q entry false = entry.slot < p.trace.start.shape.slots → IsGone p q entry

-- the steps of the question: one, or none if the slot isn't one of the shape
abbrev pub steps_to_ask : Trace → Entry → ℕ
steps_to_ask p entry = if nat_lt entry.slot p.start.shape.slots then 1 else 0
