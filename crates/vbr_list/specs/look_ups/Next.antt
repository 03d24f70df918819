-- The next key of a bucket, from a number on: what is returned.
use Rattle.std.specs.Prelude.{◌≡◌, ℕ, ◌+◌, ◌*◌, ◌<◌, ◌≤◌, true, false, Option, Some, None, Result, IfOk, IfErr}
use Rattle.vbr_words.specs.Buckets.{bucket_of}
use Rattle.vbr_slots.specs.steps.Alone.{IsAlone}
use Rattle.vbr_slots.specs.steps.Calls.{AddsNone, OnlyLoads, Quiet}
use Rattle.vbr_slots.specs.views.Views.{PassView, Trace}
use Rattle.vbr_at_table.specs.hands.KeptSlots.{TakesNoSlot}
use Rattle.vbr_at_table.specs.reads.Moments.{WasEntry, WasSo}
use Rattle.vbr_at_table.specs.costs.WithinBudget.{TookWithin}
use Rattle.vbr_list.specs.calls.Budgets.{nodes_listed_in, steps_to_value_of}
use Rattle.vbr_list.specs.traversals.Disturbed.{disturbed_in, enough_among, seek_costs_among}
use Rattle.vbr_list.specs.named_entries.Entries.{WasFullEntry, WasThere}
use Rattle.vbr_list.specs.calls.Refusals.{IsTired}
use Rattle.vbr_list.specs.declared.entries.Entry.{Entry}
use Rattle.vbr_at_table.specs.declared.refusal.Refusal.{Refusal}

-- ---- what is returned

-- a key of the bucket that is no less than the number, which was there at a moment of what the pass did; and each key of the bucket between the two was absent at a moment of it
pub record IsNextKey (p q : Trace) (bucket from key : ℕ) : Type 0 where
  pub high : from ≤ key
  pub of_bucket : bucket_of p.start.shape key ≡ bucket
  pub was : WasSo p q key true
  pub between : (other : ℕ) → bucket_of p.start.shape other ≡ bucket → from ≤ other → other < key → WasSo p q other false

-- each key of the bucket from the number on was absent at a moment of what the pass did
pub record HasNoNext (p q : Trace) (bucket from : ℕ) : Type 0 where
  pub behind : (other : ℕ) → bucket_of p.start.shape other ≡ bucket → from ≤ other → WasSo p q other false

-- the next key, if there is one
abbrev pub IsNextKeyIfAny : Trace → Trace → ℕ → ℕ → Option ℕ → Type 0
IsNextKeyIfAny p q bucket from None = HasNoNext p q bucket from
IsNextKeyIfAny p q bucket from (Some key) = IsNextKey p q bucket from key

-- the next key with a value that it had at a moment when it was there
pub record IsNextEntry (p q : Trace) (bucket from : ℕ) (entry : ℕ × ℕ) : Type 0 where
  pub next : IsNextKey p q bucket from entry.0
  pub was : WasEntry p q entry.0 entry.1

-- the next entry, if there is one
abbrev pub IsNextEntryIfAny : Trace → Trace → ℕ → ℕ → Option (ℕ × ℕ) → Type 0
IsNextEntryIfAny p q bucket from None = HasNoNext p q bucket from
IsNextEntryIfAny p q bucket from (Some entry) = IsNextEntry p q bucket from entry

-- the next key with the entry that was there at a moment
pub record IsNextNamedEntry (p q : Trace) (bucket from : ℕ) (told : ℕ × Entry) : Type 0 where
  pub next : IsNextKey p q bucket from told.0
  pub was : WasFullEntry p q told.0 told.1

-- the same, if there is one
abbrev pub IsNextNamedEntryIfAny : Trace → Trace → ℕ → ℕ → Option (ℕ × Entry) → Type 0
IsNextNamedEntryIfAny p q bucket from None = HasNoNext p q bucket from
IsNextNamedEntryIfAny p q bucket from (Some told) = IsNextNamedEntry p q bucket from told

-- the same for a set: the entry has no value
pub record IsNextNamedKey (p q : Trace) (bucket from : ℕ) (told : ℕ × Entry) : Type 0 where
  pub next : IsNextKey p q bucket from told.0
  pub there : WasThere p q told.0 told.1
  pub zero : told.1.value ≡ 0

abbrev pub IsNextNamedKeyIfAny : Trace → Trace → ℕ → ℕ → Option (ℕ × Entry) → Type 0
IsNextNamedKeyIfAny p q bucket from None = HasNoNext p q bucket from
IsNextNamedKeyIfAny p q bucket from (Some told) = IsNextNamedKey p q bucket from told

-- ---- what it takes

-- what is enough to find the next key: five steps for each node in the bucket's list, and eleven
abbrev pub enough_to_seek : Trace → ℕ → ℕ
enough_to_seek p bucket = 5 * nodes_listed_in p bucket + 11

-- the most that it costs a pass that is alone: five for each, and three, and the steps of reading the value
abbrev pub seek_costs : Trace → ℕ → ℕ
seek_costs p bucket = 5 * nodes_listed_in p bucket + 3 + steps_to_value_of p.start

-- the pass returned what it was to return, or was refused for want of steps alone
-- It made no call and only loads, added nothing to the chronicle, and has the slots that it had. It made no more steps than its budget.
-- Alone it has steps enough with a budget that is known before, and what it returns costs no more than is known before.
-- The same holds for a pass that was disturbed so often.
pub record Seeks {A : Type 0} (Tells : A → Type 0) (p q : PassView) (bucket budget : ℕ) (answer : Result A Refusal) : Type 0 where
  pub told : IfOk answer Tells
  pub quiet : Quiet p.trace q.trace
  pub only_loads : OnlyLoads p.trace q.trace
  pub adds_none : AddsNone p.trace q.trace
  pub takes_no_slot : TakesNoSlot p q
  pub hand : q.hand ≡ p.hand
  pub steps : TookWithin p.trace q.trace budget
  pub refused : IfErr answer (IsTired p q budget)
  pub within : IfErr answer (λ refusal. IsAlone p.trace q.trace → budget < enough_to_seek p.trace bucket)
  pub disturbed_within : IfErr answer (λ refusal. budget < enough_among (nodes_listed_in p.trace bucket) (disturbed_in p.trace q.trace bucket))
  pub costs : IfOk answer (λ told. IsAlone p.trace q.trace → TookWithin p.trace q.trace (seek_costs p.trace bucket))
  pub disturbed_costs : IfOk answer (λ told. TookWithin p.trace q.trace (seek_costs_among (nodes_listed_in p.trace bucket) (disturbed_in p.trace q.trace bucket) (steps_to_value_of p.trace.start)))

-- the same for a key, for an entry, and for named ones
abbrev pub SeeksKey : PassView → PassView → ℕ → ℕ → ℕ → Result (Option ℕ) Refusal → Type 0
SeeksKey p q bucket from budget answer = Seeks (IsNextKeyIfAny p.trace q.trace bucket from) p q bucket budget answer

abbrev pub SeeksEntry : PassView → PassView → ℕ → ℕ → ℕ → Result (Option (ℕ × ℕ)) Refusal → Type 0
SeeksEntry p q bucket from budget answer = Seeks (IsNextEntryIfAny p.trace q.trace bucket from) p q bucket budget answer

abbrev pub SeeksNamedKey : PassView → PassView → ℕ → ℕ → ℕ → Result (Option (ℕ × Entry)) Refusal → Type 0
SeeksNamedKey p q bucket from budget answer = Seeks (IsNextNamedKeyIfAny p.trace q.trace bucket from) p q bucket budget answer

abbrev pub SeeksNamedEntry : PassView → PassView → ℕ → ℕ → ℕ → Result (Option (ℕ × Entry)) Refusal → Type 0
SeeksNamedEntry p q bucket from budget answer = Seeks (IsNextNamedEntryIfAny p.trace q.trace bucket from) p q bucket budget answer
