-- What a pass leaves that takes slots into its own pool ahead of its calls.
use Rattle.std.specs.Prelude.{◌≡◌, ℕ, ◌+◌, ◌-◌, ◌*◌, ◌<◌, ◌≤◌, min, Bool, true, false, Option, Some, None, List, [], ◌∷◌, ◌++◌, length, Contains, ◌⊎◌}
use Rattle.vbr_words.specs.Flags.{flag_words, has_flag, word_of_flag}
use Rattle.vbr_words.specs.declared.flags.TheConstants.{FLAGS}
use Rattle.vbr_machine.specs.Runs.{Begins, world_after}
use Rattle.vbr_machine.specs.declared.event.Event.{Event}
use Rattle.vbr_machine.specs.declared.event.Step.TheVariants.{TakeFlag}
use Rattle.vbr_machine.specs.declared.knowledge.SlotPlace.TheVariants.{Shared}
use Rattle.vbr_slots.specs.declared.pass.TheConstants.{POOL}
use Rattle.vbr_slots.specs.steps.Calls.{Moment, Quiet, Took}
use Rattle.vbr_slots.specs.pools.Tried.{last_tried}
use Rattle.vbr_slots.specs.views.Views.{PassView, Trace, event_of}
use Rattle.vbr_at_table.specs.costs.FlagsInNeed.{flags_won, times_beyond}
use Rattle.vbr_at_table.specs.costs.Gained.{gained}
use Rattle.vbr_at_table.specs.costs.StepKinds.{advances, flags_raised, flags_tried}
use Rattle.vbr_at_table.specs.hands.KeptSlots.{KeepsSlots, PoolGrows}
use Rattle.vbr_at_table.specs.pools.SharedPool.{WasOutside}

-- during the call the slot was in the shared pool, and the pass took it
pub record WasTaken (p q : Trace) (slot : ℕ) : Type 0 where
  pub moment : List Event
  pub is : Moment p q moment
  pub shared : (world_after p.start moment).place slot ≡ Shared
  pub taken : Begins (moment ++ event_of p.who (TakeFlag slot) ∷ []) q.seen

-- in so many steps, each of which tried to take a slot, the own pool grew by slots that were taken out of the shared pool, each by its flag; no call was made, no slot was lost or shared, and no epoch advanced
-- Only what it won can have been beyond its need.
pub record TakesFlags (p q : PassView) (steps : ℕ) : Type 0 where
  pub took : Took p.trace q.trace steps
  pub tries : flags_tried q.trace ≡ flags_tried p.trace + steps
  pub grows : PoolGrows p q
  pub each : (slot : ℕ) → Contains q.pool slot → Contains p.pool slot ⊎ WasTaken p.trace q.trace slot
  pub hand : q.hand ≡ p.hand
  pub quiet : Quiet p.trace q.trace
  pub kept : KeepsSlots p q
  pub raised : flags_raised q.trace ≡ flags_raised p.trace
  pub won : flags_won q.trace + length p.pool ≡ flags_won p.trace + length q.pool
  pub beyond : times_beyond q.trace + flags_won p.trace ≤ times_beyond p.trace + flags_won q.trace
  pub advances : advances q.trace ≡ advances p.trace

-- the slot is in the own pool, or was outside the shared pool at a moment of the call
abbrev pub IsMissed : PassView → PassView → ℕ → Type 0
IsMissed p q slot = Contains q.pool slot ⊎ WasOutside p.trace q.trace slot

-- how many slots an own pool is filled up to: as many as are wanted, but for the place that is for a hand
abbrev pub most_kept : ℕ → ℕ
most_kept wanted = min wanted (POOL - 1)

-- so many slots were taken: none beyond what is wanted, and fewer only if each slot was taken, or was outside the shared pool at a moment
-- No more steps were made than one for each of them, one for each flag word, and one for each slot that others took out of the shared pool meanwhile; and none if the own pool had what is wanted.
pub record Reserves (p q : PassView) (wanted taken steps : ℕ) : Type 0 where
  pub takes : TakesFlags p q steps
  pub count : length q.pool ≡ length p.pool + taken
  pub most : (q.pool ≡ p.pool) ⊎ (length q.pool ≤ most_kept wanted)
  pub few : steps ≤ taken + flag_words p.trace.start.shape.slots + gained p.trace q.trace
  pub idle : most_kept wanted ≤ length p.pool → steps ≡ 0
  pub enough : (most_kept wanted ≤ length q.pool) ⊎ ((slot : ℕ) → slot < p.trace.start.shape.slots → IsMissed p q slot)

-- on a way once round the slots, which begins after the one that the pass tried last, the slot is among the first so many
abbrev pub IsAmongNext : Trace → ℕ → ℕ → Type 0
IsAmongNext p count slot = ((last_tried p < slot) × (slot ≤ last_tried p + count)) ⊎ (slot + p.start.shape.slots ≤ last_tried p + count)

-- so many slots were taken in so many tries: no slot beyond what is wanted, no try beyond those that were allowed, and none if the own pool had what is wanted
-- The tries go on: each was of another slot, and each slot on the way up to there was taken, or was outside the shared pool at a moment.
-- They end when the own pool has what is wanted, when all tries were made, or once round.
pub record TopsUp (p q : PassView) (wanted probes taken steps : ℕ) : Type 0 where
  pub takes : TakesFlags p q steps
  pub count : length q.pool ≡ length p.pool + taken
  pub most : (q.pool ≡ p.pool) ⊎ (length q.pool ≤ most_kept wanted)
  pub tries : steps ≤ probes
  pub idle : most_kept wanted ≤ length p.pool → steps ≡ 0
  pub passed : ℕ
  pub few : steps ≤ passed
  pub each : (slot : ℕ) → slot < p.trace.start.shape.slots → IsAmongNext p.trace passed slot → IsMissed p q slot
  pub enough : (most_kept wanted ≤ length q.pool) ⊎ (steps ≡ probes) ⊎ (p.trace.start.shape.slots ≤ passed)

-- ---- pieces of these calls; only contracts of private functions cite them

-- the slots from one up to another were tried, until the own pool had so many, or so many tries were made
pub record ReservesFrom (p q : PassView) (from to full probes steps : ℕ) : Type 0 where
  pub takes : TakesFlags p q steps
  pub most : (q.pool ≡ p.pool) ⊎ (length q.pool ≤ full)
  pub tries : steps ≤ probes
  pub idle : full ≤ length p.pool → steps ≡ 0
  pub next : ℕ
  pub few : steps + from ≤ next
  pub within : steps ≤ to - from
  pub words : steps ≤ (length q.pool - length p.pool) + (flag_words to - word_of_flag from) + gained p.trace q.trace
  pub each : (slot : ℕ) → slot < p.trace.start.shape.slots → from ≤ slot → slot < next → IsMissed p q slot
  pub ends : (full ≤ length q.pool) ⊎ (probes ≤ steps) ⊎ (to ≤ next)

-- whether the flag of a slot is set in a flag word that was shown, if one was
abbrev pub may_be_set : Option ℕ → ℕ → Bool
may_be_set None slot = true
may_be_set (Some word) slot = has_flag word slot

-- the next slot to try after one: the next of its flag word whose flag may be set, by what was shown of the word; and if there is none, the first of the next word, of which nothing was shown
pub record IsNextToTry (slot : ℕ) (shown : Option ℕ) (next : ℕ × Option ℕ) : Type 0 where
  pub above : slot < next.0
  pub none : (s : ℕ) → slot < s → s < next.0 → may_be_set shown s ≡ false
  pub place : ((word_of_flag next.0 ≡ word_of_flag slot) × (may_be_set shown next.0 ≡ true) × (next.1 ≡ shown))
      ⊎ ((next.0 ≡ FLAGS * (word_of_flag slot + 1)) × (next.1 ≡ None))
