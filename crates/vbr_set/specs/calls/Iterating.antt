-- What calls of an iteration promise at a set or a map, and what going over all keys at once returns.
use Rattle.std.specs.Prelude.{◌≡◌, ℕ, ◌+◌, ◌-◌, ◌*◌, ◌^◌, ◌<◌, min, List, None, Option, Result, IfErr, IfOk, length, map, true}
use Rattle.std.specs.List.{AllByRecursion}
use Rattle.vbr_slots.specs.steps.Alone.{IsAlone}
use Rattle.vbr_slots.specs.steps.Calls.{AddsNone, OnlyLoads, Quiet}
use Rattle.vbr_at_table.specs.hands.KeptSlots.{TakesNoSlot}
use Rattle.vbr_at_table.specs.reads.Moments.{WasEntry}
use Rattle.vbr_at_table.specs.Soundness.{HasSafeRun}
use Rattle.vbr_at_table.specs.costs.WithinBudget.{TookWithin}
use Rattle.vbr_list.specs.look_ups.Cursors.{HasGiven, HasGivenAll, IteratesEntries, IteratesKeys, IteratesNamedEntries, IteratesNamedKeys, IteratesWhere, SeesMore, StopsShort}
use Rattle.vbr_list.specs.calls.Budgets.{nodes_listed_in}
use Rattle.vbr_list.specs.traversals.Disturbed.{disturbed_in, enough_among}
use Rattle.vbr_list.specs.look_ups.Next.{enough_to_seek}
use Rattle.vbr_list.specs.declared.cursor.Cursor.{Cursor}
use Rattle.vbr_list.specs.declared.entries.Entry.{Entry}
use Rattle.vbr_at_table.specs.declared.refusal.Refusal.{Refusal}
use Rattle.vbr_set.specs.calls.Members.{CallerView, MemberView, caller}
use Rattle.vbr_set.specs.declared.list_error.ListError.{ListError}
use Rattle.vbr_set.specs.declared.list_error.ListError.TheVariants.{Refused, Memory}

-- ---- one call

-- the member is the same pass of the same set, and has no slot in hand; what its pass has then seen is a safe run, which goes on from what it had seen
pub record GoesOnSafe (m n : CallerView) : Type 0 where
  pub set : n.set ≡ m.set
  pub hand : n.pass.hand ≡ None
  pub safe : HasSafeRun n.pass.trace
  pub sees : SeesMore m.pass.trace n.pass.trace

-- a call of an iteration: the next key, where the cursor is then, and what a refusal means
pub record CallsNextBy (m n : CallerView) (c d : Cursor) (budget : ℕ) (answer : Result (Option ℕ) Refusal) : Type 0 where
  pub goes : GoesOnSafe m n
  pub iterates : IteratesKeys m.pass n.pass c d budget answer

-- for a map, the next key with its value
pub record CallsNextEntryBy (m n : CallerView) (c d : Cursor) (budget : ℕ) (answer : Result (Option (ℕ × ℕ)) Refusal) : Type 0 where
  pub goes : GoesOnSafe m n
  pub iterates : IteratesEntries m.pass n.pass c d budget answer

-- for a set, the next key with its entry, which has no value
pub record CallsNextNamedKeyBy (m n : CallerView) (c d : Cursor) (budget : ℕ) (answer : Result (Option (ℕ × Entry)) Refusal) : Type 0 where
  pub goes : GoesOnSafe m n
  pub iterates : IteratesNamedKeys m.pass n.pass c d budget answer

-- and for a map, the next key with its entry
pub record CallsNextNamedEntryBy (m n : CallerView) (c d : Cursor) (budget : ℕ) (answer : Result (Option (ℕ × Entry)) Refusal) : Type 0 where
  pub goes : GoesOnSafe m n
  pub iterates : IteratesNamedEntries m.pass n.pass c d budget answer

-- the same for a call of a member
abbrev pub CallsNext : MemberView → MemberView → Cursor → Cursor → ℕ → Result (Option ℕ) Refusal → Type 0
CallsNext m n c d budget answer = CallsNextBy (caller m) (caller n) c d budget answer

abbrev pub CallsNextEntry : MemberView → MemberView → Cursor → Cursor → ℕ → Result (Option (ℕ × ℕ)) Refusal → Type 0
CallsNextEntry m n c d budget answer = CallsNextEntryBy (caller m) (caller n) c d budget answer

abbrev pub CallsNextNamedKey : MemberView → MemberView → Cursor → Cursor → ℕ → Result (Option (ℕ × Entry)) Refusal → Type 0
CallsNextNamedKey m n c d budget answer = CallsNextNamedKeyBy (caller m) (caller n) c d budget answer

abbrev pub CallsNextNamedEntry : MemberView → MemberView → Cursor → Cursor → ℕ → Result (Option (ℕ × Entry)) Refusal → Type 0
CallsNextNamedEntry m n c d budget answer = CallsNextNamedEntryBy (caller m) (caller n) c d budget answer

-- for either, the next key with its value if nodes have values
pub record CallsNextWhere (m n : CallerView) (c d : Cursor) (budget : ℕ) (answer : Result (Option (ℕ × ℕ)) Refusal) : Type 0 where
  pub goes : GoesOnSafe m n
  pub iterates : IteratesWhere m.pass n.pass c d budget answer

-- ---- all keys at once

-- these are all keys: each that was there all the while, once, and none that wasn't there at some moment; with at most so many steps for each of them, for each bucket, and for the end
pub record HasGoneOver (m n : CallerView) (budget : ℕ) (keys : List ℕ) : Type 0 where
  pub all : HasGivenAll m.pass.trace n.pass.trace keys
  pub steps : TookWithin m.pass.trace n.pass.trace (budget * (length keys + m.pass.trace.start.shape.buckets + 1))

-- these are all keys, each with a value that it had at a moment when it was there
pub record HasGoneOverEntries (m n : CallerView) (budget : ℕ) (entries : List (ℕ × ℕ)) : Type 0 where
  pub keys : HasGoneOver m n budget (map (λ (entry : ℕ × ℕ). entry.0) entries)
  pub values : AllByRecursion (λ (entry : ℕ × ℕ). WasEntry m.pass.trace n.pass.trace entry.0 entry.1) entries

-- it is the length of a list of all keys, as far as a count goes
pub record HasCounted (m n : CallerView) (budget count : ℕ) : Type 0 where
  pub keys : List ℕ
  pub over : HasGoneOver m n budget keys
  pub is : count ≡ min (length keys) (2 ^ 64 - 1)

-- going over all keys stopped: the keys up to a cursor had been given, with at most so many steps for each of them and for each bucket before it, when a whole call with the budget was refused that brought it no further. So the budget was below what is enough in its bucket for a pass that is disturbed there as often as this one was since it began; alone, for one that is never disturbed
pub record StandsShort (m n : CallerView) (budget : ℕ) (refusal : Refusal) : Type 0 where
  pub before : CallerView
  pub cursor : Cursor
  pub keys : List ℕ
  pub goes : GoesOnSafe m before
  pub given : HasGiven m.pass.trace before.pass.trace cursor keys
  pub steps : TookWithin m.pass.trace before.pass.trace (budget * (length keys + cursor.bucket))
  pub stops : StopsShort before.pass n.pass cursor cursor budget refusal
  pub short : IsAlone m.pass.trace n.pass.trace → budget < enough_to_seek m.pass.trace cursor.bucket
  pub disturbed_short : budget < enough_among (nodes_listed_in m.pass.trace cursor.bucket) (disturbed_in m.pass.trace n.pass.trace cursor.bucket)

-- why nothing was collected of all keys: it stopped in this way, or, if that may happen, there was no memory
abbrev pub GathersNone : Type 0 → CallerView → CallerView → ℕ → ListError → Type 0
GathersNone MayLack m n budget (Refused refusal) = StandsShort m n budget refusal
GathersNone MayLack m n budget Memory = MayLack

-- why there is no list
abbrev pub ListsNone : CallerView → CallerView → ℕ → ListError → Type 0
ListsNone = GathersNone (Unit {0})

-- going over all keys, to the end or until it stops: it made no call and only loads, added nothing to the chronicle, and the pass has the slots that it had
pub record GoesOver {A E : Type 0} (Tells : A → Type 0) (Stops : E → Type 0) (m n : CallerView) (answer : Result A E) : Type 0 where
  pub goes : GoesOnSafe m n
  pub tells : IfOk answer Tells
  pub stops : IfErr answer Stops
  pub quiet : Quiet m.pass.trace n.pass.trace
  pub only_loads : OnlyLoads m.pass.trace n.pass.trace
  pub adds_none : AddsNone m.pass.trace n.pass.trace
  pub takes_no_slot : TakesNoSlot m.pass n.pass

-- the same for a list of keys, a list of entries, and a count
abbrev pub ListsKeys : {A : Type 0} → (A → List ℕ) → MemberView → MemberView → ℕ → Result A ListError → Type 0
ListsKeys items m n budget answer = GoesOver (λ told. HasGoneOver (caller m) (caller n) budget (items told)) (ListsNone (caller m) (caller n) budget) (caller m) (caller n) answer

abbrev pub ListsEntries : {A : Type 0} → (A → List (ℕ × ℕ)) → MemberView → MemberView → ℕ → Result A ListError → Type 0
ListsEntries items m n budget answer = GoesOver (λ told. HasGoneOverEntries (caller m) (caller n) budget (items told)) (ListsNone (caller m) (caller n) budget) (caller m) (caller n) answer

abbrev pub CountsKeys : MemberView → MemberView → ℕ → Result ℕ Refusal → Type 0
CountsKeys m n budget answer = GoesOver (HasCounted (caller m) (caller n) budget) (StandsShort (caller m) (caller n) budget) (caller m) (caller n) answer

-- ---- what is listed of a node

-- all entries, whose values are right if nodes have values
pub record HasGoneOverWhere (m n : CallerView) (budget : ℕ) (entries : List (ℕ × ℕ)) : Type 0 where
  pub keys : HasGoneOver m n budget (map (λ (entry : ℕ × ℕ). entry.0) entries)
  pub values : m.pass.trace.start.shape.values ≡ true → AllByRecursion (λ (entry : ℕ × ℕ). WasEntry m.pass.trace n.pass.trace entry.0 entry.1) entries

-- what is collected of all entries, which says of them what it does of each list
pub record HasGathered (Of : List (ℕ × ℕ) → Type 0) (m n : CallerView) (budget : ℕ) : Type 0 where
  pub entries : List (ℕ × ℕ)
  pub over : HasGoneOverWhere m n budget entries
  pub are : Of entries

abbrev pub Gathers : {A : Type 0} → (List (ℕ × ℕ) → A → Type 0) → Type 0 → CallerView → CallerView → ℕ → Result A ListError → Type 0
Gathers of MayLack m n budget answer = GoesOver (λ told. HasGathered (λ entries. of entries told) m n budget) (GathersNone MayLack m n budget) m n answer

-- a list has an item for each entry
abbrev pub AreItemsOf : {I : Type 0} → (ℕ → ℕ → I) → List (ℕ × ℕ) → List I → Type 0
AreItemsOf item entries items = items ≡ map (λ (entry : ℕ × ℕ). item entry.0 entry.1) entries

-- a count is the number of entries, as far as a count goes
abbrev pub IsCountOf : List (ℕ × ℕ) → ℕ → Type 0
IsCountOf entries count = count ≡ min (length entries) (2 ^ 64 - 1)
