-- What the contracts of several tests name of the crates below.
pub use Rattle.vbr_words.specs.Words.{link_of}
pub use Rattle.vbr_machine.specs.Acceptance.{IsUnlinked}
pub use Rattle.vbr_slots.specs.steps.AtTables.{IsSameTable, pass_of, trace_of}
pub use Rattle.vbr_slots.specs.steps.Calls.{Took}
pub use Rattle.vbr_slots.specs.views.Views.{IsOf, knows}
pub use Rattle.vbr_at_table.specs.answers.Answering.{IsPresent}
pub use Rattle.vbr_at_table.specs.answers.Exchanges.{GivesBack, IsUnmarked}
pub use Rattle.vbr_at_table.specs.hands.Hands.{IsHandOf}
pub use Rattle.vbr_at_table.specs.reads.Held.{IsHeld, Names, said, said_marked, said_rollback}
pub use Rattle.vbr_at_table.specs.reads.KeptKnowledge.{Keeps, KeepsOwn}
pub use Rattle.vbr_at_table.specs.answers.Replacing.{IsReplaceable, ReplacesHeld}
pub use Rattle.vbr_at_table.specs.answers.Values.{IsValued}
