-- The two pieces of each traversal along the list of a bucket: it starts at the head, and visits the node after a place. Only contracts of private functions cite this.
use Rattle.std.specs.Prelude.{◌≡◌, ℕ, ◌+◌, ◌<◌, ◌≤◌, false}
use Rattle.vbr_words.specs.Words.{link_of}
use Rattle.vbr_words.specs.Buckets.{bucket_of}
use Rattle.vbr_words.specs.declared.place.At.TheVariants.{Head}
use Rattle.vbr_machine.specs.Membership.{HeldIn, KeyAt}
use Rattle.vbr_slots.specs.steps.Alone.{IsFresh}
use Rattle.vbr_slots.specs.views.Views.{Trace, knows}
use Rattle.vbr_at_table.specs.reads.Held.{HoldsMarked, IsHeld, Names, held_of}
use Rattle.vbr_at_table.specs.reads.KeptKnowledge.{Keeps}
use Rattle.vbr_at_table.specs.declared.held.Held.{Held}
use Rattle.vbr_at_table.specs.declared.rollback.Rollback.{Rollback}
use Rattle.vbr_list.specs.traversals.Searching.{MovesEpoch, MovesSince, ReadsFresh, ReadsNext}
use Rattle.vbr_list.specs.declared.visiting.Visited.{Visited}
use Rattle.vbr_list.specs.declared.visiting.Visited.TheVariants.{Beyond, Marked, Smaller}

-- ---- the start

-- it has come to the head of the bucket, which is unmarked, and which it read in the epoch that stood
pub record StartsAt (p q : Trace) (bucket : ℕ) (head : Held) : Type 0 where
  pub known : IsHeld (knows q) head
  pub unmarked : (link_of head.word).mark ≡ false
  pub place : head.at ≡ Head bucket
  pub reads : ReadsFresh p q head

-- it didn't start, as the epoch moved since it was read
abbrev pub StartsNone : Trace → Trace → Rollback → Type 0
StartsNone p q rollback = MovesSince p q

-- ---- a visit

-- the steps of a visit
abbrev pub steps_met : Visited → ℕ
steps_met (Marked marked) = 3
steps_met (Smaller node) = 5
steps_met (Beyond node key) = 5

-- one step, or up to five
abbrev pub IsVisit : ℕ → ℕ → Type 0
IsVisit before since = (before < since) × (since ≤ before + 5)

-- what a visit met, as a place
abbrev pub met_place : Visited → Held
met_place (Marked marked) = held_of marked
met_place (Smaller node) = node
met_place (Beyond node key) = node

-- an unmarked node behind a place is held, and this is its key, which is one of each bucket in which the place was held
pub record HasKey (p q : Trace) (here node : Held) (key : ℕ) : Type 0 where
  pub held : IsHeld (knows q) node
  pub unmarked : (link_of node.word).mark ≡ false
  pub keyed : KeyAt (knows q) node.at key
  pub of_bucket : (bucket : ℕ) → HeldIn (knows p) here.at bucket → bucket_of q.start.shape key ≡ bucket

-- the same, and its key is below a number
pub record HasKeyBelow (p q : Trace) (here node : Held) (number : ℕ) : Type 0 where
  pub key : ℕ
  pub has : HasKey p q here node key
  pub low : key < number

-- what a visit met behind a place
abbrev pub Visits : Trace → Trace → Held → ℕ → Visited → Type 0
Visits p q here number (Marked marked) = HoldsMarked (knows q) marked × Names here marked.slot
Visits p q here number (Smaller node) = HasKeyBelow p q here node number
Visits p q here number (Beyond node key) = HasKey p q here node key × (number ≤ key)

-- it met this behind a place, in so many steps, in the epoch that stood, and knows what it knew
pub record MeetsBehind (p q : Trace) (before since : ℕ) (here : Held) (number : ℕ) (met : Visited) : Type 0 where
  pub keeps : Keeps (knows p) (knows q)
  pub visits : Visits p q here number met
  pub reads : ReadsNext p q here (met_place met)
  pub fresh : IsFresh q
  pub count : since ≡ before + steps_met met

-- it rolled back, as the epoch has moved
abbrev pub RollsBackFrom : Trace → Trace → Rollback → Type 0
RollsBackFrom p q rollback = MovesEpoch p q
