-- An entry by which a get is answered, and what the birth that its slot shows says of it.
use Rattle.vbr_list.proofs.Names.{◌≡◌, ℕ, ◌≤◌, ◌<◌, ◌==◌, Bool, true, false, eq-eqb, eqb-true, Option, Some, None}
use Rattle.vbr_list.proofs.Names.{refl, sym, subst, ap, ◌∙◌, is_some, Result, Ok, Err, At, BoundsOfLookUp, CallsAs}
use Rattle.vbr_list.proofs.Names.{Entry, entry_at, entry_in, entry_of, EntryAnswers, FindsNamedEntry, Ghosts}
use Rattle.vbr_list.proofs.Names.{given_in, GivesValueOf, HasNoValue, Head, Held, IsEntry, KeyAt, Know, look_up_op}
use Rattle.vbr_list.proofs.Names.{LookUpAnswers, moment_after, opening_keys, opening_payloads, PassView, PendingCall}
use Rattle.vbr_list.proofs.Names.{Quiet, Refusal, set_after, ShowsBirth, Slot, Start, steps_where, TellsStill, Trace}
use Rattle.vbr_list.proofs.Names.{trace_in, value_given, value_of_entry, values_after, WasHeldEntry, WasHeldValue}
use Rattle.vbr_list.proofs.Names.{WasThereIf, world_after}
use Rattle.vbr_list.proofs.named_entries.SeenEntries.{full_since, named_same}
use Rattle.vbr_list.proofs.pieces.Told.{calls_read, calls_refused, look_up_read, look_up_refused}

-- an entry in a part of what the pass did was one in the whole
pub held_entry_since : {p q r : Trace} {held : Held} {s key : ℕ} → Quiet p q → WasHeldEntry q r held s key →
    WasHeldEntry p r held s key
held_entry_since {p} {q} {r} {held} {s} {key} quiet x = record {
  moment = x.moment;
  within = moment_after quiet.seen x.within;
  node = x.node;
  entry =
      let P : Start → Type 0 = λ d. IsEntry d x.moment s held.birth key x.node in subst P quiet.same.start x.entry;
  epoch =
      let P : Start → Type 0 = λ d. held.epoch ≤ (world_after d x.moment).epoch in subst P quiet.same.start x.epoch;
}

-- and so was one with its value
pub held_value_since : {p q r : Trace} {held : Held} {s key value : ℕ} → Quiet p q →
    WasHeldValue q r held s key value → WasHeldValue p r held s key value
unfolding held_entry_since
held_value_since {p} {q} {r} {held} {s} {key} quiet x = record {
  was = held_entry_since quiet x.was;
  present = ap (λ (d : Start). set_after (opening_keys d) (world_after d x.was.moment).calls key) (sym quiet.same.start)
      ∙ x.present;
  stored = ap (λ (d : Start). values_after (opening_payloads d) (world_after d x.was.moment).calls key)
      (sym quiet.same.start)
      ∙ x.stored;
}

pub there_since : {p q : Trace} (gives : Bool) (r : Trace) (key : ℕ) → Quiet p q → (entry : Option Entry) →
    WasThereIf gives q r key entry → WasThereIf gives p r key entry
there_since gives r key quiet None x = tt
there_since true r key quiet (Some entry) x = full_since quiet x
there_since {p} {q} false r key quiet (Some entry) x = record {
  moment = x.moment;
  within = moment_after quiet.seen x.within;
  named = named_same quiet.same.start x.named;
}

-- the entry of a node was there if the node was one, and with its value if the call gives it
pub entry_there : (gives : Bool) (p q : Trace) (key value : ℕ) (node : Held) →
    ((s : ℕ) → node.at ≡ Slot s → WasHeldEntry p q node s key) →
    (gives ≡ true → (s : ℕ) → node.at ≡ Slot s → WasHeldValue p q node s key value) →
    WasThereIf gives p q key (entry_of node (Some value))
entry_there gives p q key value node shows stores = go gives refl node.at refl
  where
    go : (full : Bool) → gives ≡ full → (place : At) → node.at ≡ place →
        WasThereIf full p q key (entry_at place node.birth value)
    go full same (Head b) is = tt
    go true same (Slot s) is =
        let x = stores same s is in
        record {
          moment = x.was.moment;
          within = x.was.within;
          was = x.present;
          stored = x.stored;
          named = record { node = x.was.node; is = x.was.entry };
        }
    go false same (Slot s) is =
        let x = shows s is in
        record { moment = x.moment; within = x.within; named = record { node = x.node; is = x.entry } }

-- it is one where the node is at a slot
pub entry_value : (node : Held) (s value : ℕ) → node.at ≡ Slot s →
    value_of_entry (entry_of node (Some value)) ≡ Some value
entry_value node s value is =
    ap (λ (place : At). value_of_entry (entry_at place node.birth value)) is

-- a key is known of slots alone
keyed_at : (know : Know) (place : At) (key : ℕ) → KeyAt know place key → (s : ℕ) × (place ≡ Slot s)
keyed_at know (Head b) key k = absurd k
keyed_at know (Slot s) key k = (s, refl)

-- an entry of no value
zero_value : (place : At) (birth value : ℕ) → value ≡ 0 → HasNoValue (entry_at place birth value)
zero_value (Head b) birth value is = tt
zero_value (Slot s) birth value is = is

-- a call that a node answers is one of its entry
pub entry_answers : {N : Type 0} {kind : Ghosts N} {c d : PendingCall N kind} (node : Held) (answer : Option ℕ)
    (gives : Bool) (know : Know) (key : ℕ) → KeyAt know node.at key → GivesValueOf gives c d node answer →
    EntryAnswers gives c d (entry_of node answer)
entry_answers {N} {kind} {c} {d} node answer gives know key keyed given =
    let at_slot = keyed_at know node.at key keyed in
    let L : Option ℕ → Type 0 = LookUpAnswers gives c d in
    let E : Option ℕ → Type 0 = λ a. EntryAnswers gives c d (entry_of node a) in
    let with_value : EntryAnswers gives c d (entry_of node (Some given.value)) = record {
      answers = subst L (given.is ∙ sym (entry_value node at_slot.0 given.value at_slot.1)) given.answers;
      there = entry_there gives (trace_in c) (trace_in d) c.key given.value node given.shows given.stores;
      zero = λ bare. zero_value node.at node.birth given.value (given.zero bare);
    } in
    subst E (sym given.is) with_value

-- the birth that a slot showed tells whether it is the entry's still
pub birth_tells : (p q : PassView) (entry : Entry) (birth : ℕ) → entry.slot < p.trace.start.shape.slots →
    ShowsBirth p.trace q.trace entry.slot birth →
    (answer : Bool) → (birth == entry.birth) ≡ answer → TellsStill p q entry answer
birth_tells p q entry birth low x true same =
    record { moment = x.moment; within = x.within; shown = x.was ∙ eqb-true birth entry.birth same; low = low }
birth_tells p q entry birth low x false other = λ inside.
    record {
      moment = x.moment;
      within = x.within;
      shown = λ is. let same : (birth == entry.birth) ≡ true = eq-eqb birth entry.birth (sym x.was ∙ is) in absurd (cc);
    }

-- a refusal tells of no entry
pub tires_entry : {gives : Bool} {p q : PassView} {key budget : ℕ} {refusal : Refusal} →
    CallsAs (entry_in p.trace gives key)
    (BoundsOfLookUp (entry_in p.trace gives key) (steps_where gives) p q key budget) p q budget (Err refusal) →
    FindsNamedEntry gives p q key budget (Err refusal)
tires_entry x = record { calls = x; there = tt; zero = λ bare. tt }

-- a call that gives an entry, as one that gives its value
pub value_calls : {gives : Bool} {p q : PassView} {key budget : ℕ} (answer : Result (Option Entry) Refusal) →
    FindsNamedEntry gives p q key budget answer →
    CallsAs (given_in p.trace (look_up_op gives) key)
    (BoundsOfLookUp (given_in p.trace (look_up_op gives) key) (steps_where gives) p q key budget) p q budget
    (value_given answer)
value_calls (Ok entry) x =
    calls_read entry (value_of_entry entry) refl (look_up_read entry (value_of_entry entry) refl) x.calls
value_calls (Err refusal) x = calls_refused look_up_refused x.calls

-- whether there is an entry is whether there is a value
pub some_entry : (entry : Option Entry) → is_some (value_of_entry entry) ≡ is_some entry
some_entry None = refl
some_entry (Some entry) = refl
