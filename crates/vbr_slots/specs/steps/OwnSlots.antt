-- What the steps show that take a slot out of the shared pool, and that bear in a slot of the pass.
use Rattle.std.specs.Prelude.{◌≡◌, ℕ, true, false, Contains, Option, Some}
use Rattle.vbr_words.specs.Flags.{has_flag}
use Rattle.vbr_machine.specs.Acceptance.{MayBear, stamp_in}
use Rattle.vbr_machine.specs.declared.event.Step.TheVariants.{StoreBirth, TakeFlag}
use Rattle.vbr_machine.specs.declared.knowledge.Holding.{Holding}
use Rattle.vbr_slots.specs.pools.Pools.{without}
use Rattle.vbr_slots.specs.views.Views.{PassView, Did, KeepsPool, knows}

-- what the pass knows of a slot
abbrev pub holding_of : PassView → ℕ → Option Holding
holding_of p slot = (knows p.trace).own slot

-- the epoch that the pass read last
abbrev pub epoch_of : PassView → ℕ
epoch_of p = (knows p.trace).epoch

-- a stamp is the one that is known of a slot that may be born in
abbrev pub IsKnownStamp : Option Holding → ℕ → Type 0
IsKnownStamp holding stamp = MayBear holding → stamp ≡ stamp_in holding

-- a new incarnation was born in a slot at the epoch that the pass read last, and is in hand; the pool stays
pub record BearsOutside (slot : ℕ) (p q : PassView) : Type 0 where
  pub did : Did (StoreBirth slot (epoch_of p)) p.trace q.trace (epoch_of p)
  pub pool : q.pool ≡ p.pool
  pub hand : q.hand ≡ Some slot

-- a new incarnation was born in the slot at the epoch that the pass read last; the slot left the pool, and is in hand
pub record BearsIn (slot : ℕ) (p q : PassView) : Type 0 where
  pub did : Did (StoreBirth slot (epoch_of p)) p.trace q.trace (epoch_of p)
  pub pool : q.pool ≡ without slot p.pool
  pub hand : q.hand ≡ Some slot

-- the slot was in the shared pool, by the flag word that was found, and is the pass's now, outside its own pool; the pool and the hand stay
pub record TakesFlag (slot : ℕ) (p q : PassView) : Type 0 where
  pub found : ℕ
  pub did : Did (TakeFlag slot) p.trace q.trace found
  pub there : has_flag found slot ≡ true
  pub outside : ¬ (Contains q.pool slot)
  pub keeps : KeepsPool p q

-- the slot wasn't in the shared pool, by the flag word that was found; the pool and the hand stay
pub record MissesFlag (slot : ℕ) (p q : PassView) (found : ℕ) : Type 0 where
  pub did : Did (TakeFlag slot) p.trace q.trace found
  pub missing : has_flag found slot ≡ false
  pub keeps : KeepsPool p q
