-- Going over all keys from cursor to cursor: what one call returns, and what an iteration has given.
use Rattle.std.specs.Prelude.{◌≡◌, ℕ, zero, suc, ◌+◌, ◌-◌, ◌*◌, ◌^◌, ◌<◌, ◌≤◌, max, ◌⊎◌, true, false, List, [], ◌∷◌, Option, Some, None, Result, IfOk, IfErr, IfSome, Contains}
use Rattle.std.specs.List.{AllByRecursion}
use Rattle.vbr_machine.specs.Start.{Start}
use Rattle.vbr_machine.specs.Runs.{Begins, IsRun}
use Rattle.vbr_words.specs.Buckets.{bucket_of}
use Rattle.vbr_slots.specs.steps.Alone.{IsAlone}
use Rattle.vbr_slots.specs.steps.Calls.{AddsNone, IsSame, OnlyLoads, Quiet}
use Rattle.vbr_slots.specs.views.Views.{PassView, Trace}
use Rattle.vbr_at_table.specs.hands.KeptSlots.{TakesNoSlot}
use Rattle.vbr_at_table.specs.reads.Moments.{WasEntry, WasSo}
use Rattle.vbr_at_table.specs.costs.WithinBudget.{TookWithin}
use Rattle.vbr_at_table.specs.declared.budget.TheConstants.{PIECE}
use Rattle.vbr_list.specs.calls.Budgets.{nodes_listed_in, steps_to_value_of}
use Rattle.vbr_list.specs.traversals.Disturbed.{advances_since, changes_since, disturbed_in, enough_among, seek_costs_among}
use Rattle.vbr_list.specs.named_entries.Entries.{WasFullEntry, WasThere}
use Rattle.vbr_list.specs.look_ups.Next.{enough_to_seek, seek_costs}
use Rattle.vbr_list.specs.calls.Refusals.{IsTired}
use Rattle.vbr_list.specs.declared.cursor.Cursor.{Cursor}
use Rattle.vbr_list.specs.declared.entries.Entry.{Entry}
use Rattle.vbr_at_table.specs.declared.refusal.Refusal.{Refusal}

-- ---- cursors

-- before the first key
abbrev pub first_cursor : Cursor
first_cursor = record { bucket = 0; from = 0 }

-- before the first key of the next bucket
abbrev pub next_bucket : Cursor → Cursor
next_bucket c = record { bucket = c.bucket + 1; from = 0 }

-- right behind a key of a bucket: in this bucket and from the next number on, or, if no number is greater, before the next bucket
abbrev pub IsBehindKey : ℕ → ℕ → Cursor → Type 0
IsBehindKey bucket key c = ((c.bucket ≡ bucket) × (c.from ≡ key + 1)) ⊎ ((c.bucket ≡ bucket + 1) × (c.from ≡ 0) × (2 ^ 64 ≤ key + 1))

-- past a key of a bucket: in this bucket and from the next number on, or before the next bucket
abbrev pub IsPastKey : ℕ → ℕ → Cursor → Type 0
IsPastKey bucket key c = ((c.bucket ≡ bucket) × (c.from ≡ key + 1)) ⊎ ((c.bucket ≡ bucket + 1) × (c.from ≡ 0))

-- a key stands before a cursor: it is of an earlier bucket, or of its bucket and below its number
abbrev pub IsBeforeCursor : Start → Cursor → ℕ → Type 0
IsBeforeCursor start c key = (bucket_of start.shape key < c.bucket) ⊎ ((bucket_of start.shape key ≡ c.bucket) × (key < c.from))

-- a key is to come at a cursor: it is of a later bucket, or of its bucket and no less than its number
abbrev pub IsToCome : Start → Cursor → ℕ → Type 0
IsToCome start c key = (c.bucket < bucket_of start.shape key) ⊎ ((bucket_of start.shape key ≡ c.bucket) × (c.from ≤ key))

-- one key comes before another: its bucket is earlier, or they are of one bucket and it is less
abbrev pub ComesFirst : Start → ℕ → ℕ → Type 0
ComesFirst start key other = (bucket_of start.shape key < bucket_of start.shape other) ⊎ ((bucket_of start.shape key ≡ bucket_of start.shape other) × (key < other))

-- ---- one call

-- from one cursor on to another: the key that was given stands between them and was there at a moment of what the pass did, and each other key between them was absent at a moment of it
pub record PassesBy (p q : Trace) (c d : Cursor) (given : Option ℕ) : Type 0 where
  pub onward : (key : ℕ) → IsBeforeCursor p.start c key → IsBeforeCursor p.start d key
  pub was : IfSome given (λ key. IsToCome p.start c key × IsBeforeCursor p.start d key × WasSo p q key true)
  pub others : (key : ℕ) → key < 2 ^ 64 → IsToCome p.start c key → IsBeforeCursor p.start d key → (given ≡ Some key) ⊎ WasSo p q key false

-- a cursor stands behind the last bucket, so all keys stand before it
abbrev pub IsAtEnd : Start → Cursor → Type 0
IsAtEnd start c = start.shape.buckets ≤ c.bucket

-- what a call gives: a key, and then the cursor is right behind it or before the next bucket, or none, and then it has come to the end
abbrev pub GivesNext : Trace → Trace → Cursor → Cursor → Option ℕ → Type 0
GivesNext p q c d None = PassesBy p q c d None × IsAtEnd p.start d
GivesNext p q c d (Some key) = PassesBy p q c d (Some key) × IsPastKey (bucket_of p.start.shape key) key d

-- if nodes have values, an entry: a key with a value that it had at a moment when it was there
abbrev pub GivesNextEntry : Trace → Trace → Cursor → Cursor → Option (ℕ × ℕ) → Type 0
GivesNextEntry p q c d None = GivesNext p q c d None
GivesNextEntry p q c d (Some entry) = GivesNext p q c d (Some entry.0) × WasEntry p q entry.0 entry.1

-- the same with the entry named: it was there at a moment
abbrev pub GivesNextNamedEntry : Trace → Trace → Cursor → Cursor → Option (ℕ × Entry) → Type 0
GivesNextNamedEntry p q c d None = GivesNext p q c d None
GivesNextNamedEntry p q c d (Some told) = GivesNext p q c d (Some told.0) × WasFullEntry p q told.0 told.1

-- and for a set: the entry has no value
abbrev pub GivesNextNamedKey : Trace → Trace → Cursor → Cursor → Option (ℕ × Entry) → Type 0
GivesNextNamedKey p q c d None = GivesNext p q c d None
GivesNextNamedKey p q c d (Some told) = GivesNext p q c d (Some told.0) × WasThere p q told.0 told.1 × (told.1.value ≡ 0)

-- an entry whose key is right, and whose value is right if nodes have values
abbrev pub GivesNextWhere : Trace → Trace → Cursor → Cursor → Option (ℕ × ℕ) → Type 0
GivesNextWhere p q c d None = GivesNext p q c d None
GivesNextWhere p q c d (Some entry) = GivesNext p q c d (Some entry.0) × (p.start.shape.values ≡ true → WasEntry p q entry.0 entry.1)

-- a cursor stands where it stood, or before the first key of a later bucket
abbrev pub HasStayedOrMoved : Cursor → Cursor → Type 0
HasStayedOrMoved c d = (d ≡ c) ⊎ ((c.bucket < d.bucket) × (d.from ≡ 0))

-- the most that it costs a pass that is alone to seek in so many buckets, from one on
abbrev pub costs_over : Trace → ℕ → ℕ → ℕ
costs_over p bucket zero = 0
costs_over p bucket (suc more) = costs_over p bucket more + seek_costs p (bucket + more)

-- the most that it costs one that is disturbed in each of them as often as a function says
abbrev pub costs_over_among : Trace → (ℕ → ℕ) → ℕ → ℕ → ℕ
costs_over_among p times bucket zero = 0
costs_over_among p times bucket (suc more) = costs_over_among p times bucket more + seek_costs_among (nodes_listed_in p (bucket + more)) (times (bucket + more)) (steps_to_value_of p.start)

-- what is enough for it to come from one bucket on to another, and to seek in that one
abbrev pub enough_to_come_among : Trace → (ℕ → ℕ) → ℕ → ℕ → ℕ
enough_to_come_among p times bucket to = costs_over_among p times bucket (to - bucket) + enough_among (nodes_listed_in p to) (times to)

-- the most that one walk costs in a bucket, to its next key, for a pass that was disturbed there so often since
abbrev pub walk_costs : Trace → Trace → ℕ → ℕ
walk_costs p q bucket = 5 * (nodes_listed_in p bucket + disturbed_in p q bucket) + (3 + steps_to_value_of p.start)

-- and in any of so many buckets, from one on
abbrev pub greatest_walk_costs : Trace → Trace → ℕ → ℕ → ℕ
greatest_walk_costs p q bucket zero = 0
greatest_walk_costs p q bucket (suc more) = max (greatest_walk_costs p q bucket more) (walk_costs p q (bucket + more))

-- one walk in each of them, and one more there for each change of its list
abbrev pub walks_cost : Trace → Trace → ℕ → ℕ → ℕ
walks_cost p q bucket zero = 0
walks_cost p q bucket (suc more) = walks_cost p q bucket more + (changes_since p q (bucket + more) + 1) * walk_costs p q (bucket + more)

-- the most that it costs to go over them, if an advance of the epoch counts once: for each one walk more, in whichever of them
abbrev pub going_costs : Trace → Trace → ℕ → ℕ → ℕ
going_costs p q bucket count = walks_cost p q bucket count + advances_since p q * greatest_walk_costs p q bucket count

-- how many buckets have been entered when a cursor stands so: those before its own, and its own unless it stands before the first key
abbrev pub entered_by : ℕ → ℕ → ℕ
entered_by bucket zero = bucket
entered_by bucket (suc from) = bucket + 1

-- a call was refused, for want of steps alone, in a bucket of the table, where the cursor then stands; it gave no key on the way
-- The cursor keeps how far it has come: the budget was below what the buckets cost that the cursor has gone over, and what is enough in the one where it stands, for a pass that is disturbed in each as often as this one was; alone, for one that is never disturbed.
-- The same holds if an advance of the epoch counts once: beyond what it costs to go over all of them the budget had no room for one more piece.
pub record StopsShort (p q : PassView) (c d : Cursor) (budget : ℕ) (refusal : Refusal) : Type 0 where
  pub tired : IsTired p q budget refusal
  pub passed : PassesBy p.trace q.trace c d None
  pub moved : HasStayedOrMoved c d
  pub bucket : d.bucket < p.trace.start.shape.buckets
  pub short : IsAlone p.trace q.trace → budget < costs_over p.trace c.bucket (d.bucket - c.bucket) + enough_to_seek p.trace d.bucket
  pub disturbed_short : budget < enough_to_come_among p.trace (disturbed_in p.trace q.trace) c.bucket d.bucket
  pub going_short : budget < going_costs p.trace q.trace c.bucket (d.bucket + 1 - c.bucket) + PIECE

-- the pass gave what it was to give, or was refused; it made no call and only loads, added nothing to the chronicle, and has the slots that it had; it made no more steps than its budget
-- What it gave cost no more than seeking in each bucket from the first to the last one that it entered, for a pass that is disturbed in each as often as this one was; alone, for one that is never disturbed. The same holds if an advance of the epoch counts once: it cost no more than going over all of them.
pub record Iterates {A : Type 0} (Gives : A → Type 0) (p q : PassView) (c d : Cursor) (budget : ℕ) (answer : Result A Refusal) : Type 0 where
  pub gives : IfOk answer Gives
  pub refused : IfErr answer (StopsShort p q c d budget)
  pub quiet : Quiet p.trace q.trace
  pub only_loads : OnlyLoads p.trace q.trace
  pub adds_none : AddsNone p.trace q.trace
  pub takes_no_slot : TakesNoSlot p q
  pub hand : q.hand ≡ p.hand
  pub steps : TookWithin p.trace q.trace budget
  pub costs : IfOk answer (λ given. IsAlone p.trace q.trace → TookWithin p.trace q.trace (costs_over p.trace c.bucket (entered_by d.bucket d.from - c.bucket)))
  pub disturbed_costs : IfOk answer (λ given. TookWithin p.trace q.trace (costs_over_among p.trace (disturbed_in p.trace q.trace) c.bucket (entered_by d.bucket d.from - c.bucket)))
  pub going : IfOk answer (λ given. TookWithin p.trace q.trace (going_costs p.trace q.trace c.bucket (entered_by d.bucket d.from - c.bucket)))

-- the same for keys, for entries, for named ones, and for entries if nodes have values
abbrev pub IteratesKeys : PassView → PassView → Cursor → Cursor → ℕ → Result (Option ℕ) Refusal → Type 0
IteratesKeys p q c d budget answer = Iterates (GivesNext p.trace q.trace c d) p q c d budget answer

abbrev pub IteratesEntries : PassView → PassView → Cursor → Cursor → ℕ → Result (Option (ℕ × ℕ)) Refusal → Type 0
IteratesEntries p q c d budget answer = Iterates (GivesNextEntry p.trace q.trace c d) p q c d budget answer

abbrev pub IteratesNamedKeys : PassView → PassView → Cursor → Cursor → ℕ → Result (Option (ℕ × Entry)) Refusal → Type 0
IteratesNamedKeys p q c d budget answer = Iterates (GivesNextNamedKey p.trace q.trace c d) p q c d budget answer

abbrev pub IteratesNamedEntries : PassView → PassView → Cursor → Cursor → ℕ → Result (Option (ℕ × Entry)) Refusal → Type 0
IteratesNamedEntries p q c d budget answer = Iterates (GivesNextNamedEntry p.trace q.trace c d) p q c d budget answer

abbrev pub IteratesWhere : PassView → PassView → Cursor → Cursor → ℕ → Result (Option (ℕ × ℕ)) Refusal → Type 0
IteratesWhere p q c d budget answer = Iterates (GivesNextWhere p.trace q.trace c d) p q c d budget answer

-- ---- many calls

-- the pass has seen more, in a run that goes on
pub record SeesMore (p q : Trace) : Type 0 where
  pub same : IsSame p q
  pub begins : Begins p.seen q.seen
  pub is_run : IsRun q.start q.passes q.seen

-- each of these keys comes before those after it, so none is given twice, and the keys of a bucket ascend
abbrev pub AreInOrder : Start → List ℕ → Type 0
AreInOrder start [] = Unit {0}
AreInOrder start (key ∷ keys) = AllByRecursion (ComesFirst start key) keys × AreInOrder start keys

-- what an iteration has given by the time that it has come to a cursor: keys in order that stand before it, each of which was there at a moment since it began; and each other key before the cursor was absent at a moment since
pub record HasGiven (p q : Trace) (c : Cursor) (keys : List ℕ) : Type 0 where
  pub in_order : AreInOrder p.start keys
  pub were : (key : ℕ) → Contains keys key → IsBeforeCursor p.start c key × WasSo p q key true
  pub others : (key : ℕ) → key < 2 ^ 64 → IsBeforeCursor p.start c key → Contains keys key ⊎ WasSo p q key false

-- what a whole iteration has given: keys in order, each of which was there at a moment of it; and each other key was absent at a moment of it. So a key that was there all the while was given, once
pub record HasGivenAll (p q : Trace) (keys : List ℕ) : Type 0 where
  pub in_order : AreInOrder p.start keys
  pub were : (key : ℕ) → Contains keys key → WasSo p q key true
  pub others : (key : ℕ) → key < 2 ^ 64 → Contains keys key ⊎ WasSo p q key false
