-- A walk along the checked marked links, which is to come to a checked key, or to what a key stands before.
use Rattle.std.specs.Prelude.{ℕ, ◌≤◌, List, Option, Some, None}
use Rattle.vbr_machine.specs.Acceptance.{KnowsKeyOf, IsBefore, after_turns}
use Rattle.vbr_machine.specs.declared.knowledge.Read.{Read}

-- a walk ends at none, or at a slot before which this key stands, or if no key is given, at one whose key is checked
abbrev pub EndsAt : List Read → Option ℕ → Option ℕ → Type 0
EndsAt reads None next = KnowsKeyOf reads next
EndsAt reads (Some key) next = IsBefore reads key next

-- in at most so many turns marked links lead from what a link names to where a walk ends
pub record LeadsOn (most : ℕ) (reads : List Read) (above next : Option ℕ) : Type 0 where
  pub turns : ℕ
  pub within : turns ≤ most
  pub ends : EndsAt reads above (after_turns reads turns next)
