-- What answers a look-up.
use Rattle.std.specs.Prelude.{ℕ, Bool, true, false}
use Rattle.vbr_machine.specs.Start.{Start}
use Rattle.vbr_words.specs.Words.{link_of}
use Rattle.vbr_machine.specs.Knowledge.{Know}
use Rattle.vbr_machine.specs.Membership.{KeyAt, StandsBehind, StandsBeforeOn}
use Rattle.vbr_slots.specs.views.Views.{Trace, knows}
use Rattle.vbr_at_table.specs.reads.Held.{IsSlot}
use Rattle.vbr_at_table.specs.declared.held.Held.{Held}

-- what is held shows whether the key is present: it is a node with that key; or a place which the key would stand behind, and before what its link names or leads to
abbrev pub DecidesKey : Start → Know → ℕ → Held → Bool → Type 0
DecidesKey start know key held true = IsSlot held.at × KeyAt know held.at key
DecidesKey start know key held false = StandsBehind start know held.at key × StandsBeforeOn know key (link_of held.word)

-- the same, by what a pass knows
abbrev pub TellsKey : Trace → ℕ → Held → Bool → Type 0
TellsKey p key held present = DecidesKey p.start (knows p) key held present
