-- The lemmas of `vbr_slots` that proofs of other crates cite, which import from here alone.

-- What a step teaches, from how it reaches its word.
pub use Rattle.vbr_slots.proofs.steps.Learning.{epoch_learned}
-- Steps one after another: what they add to what the pass has seen, to its calls, and to its steps.
pub use Rattle.vbr_slots.proofs.steps.Calls.{adds_on, adds_refl, answer_on, did_adds_none, did_calls, did_entries}
pub use Rattle.vbr_slots.proofs.steps.Calls.{did_loads}
pub use Rattle.vbr_slots.proofs.steps.Calls.{did_moment, did_quiet}
pub use Rattle.vbr_slots.proofs.steps.Calls.{did_run, did_same, did_seen, did_took, loads_on, loads_refl, made_on}
pub use Rattle.vbr_slots.proofs.steps.Calls.{made_then}
pub use Rattle.vbr_slots.proofs.steps.Calls.{moment_after, moment_before}
pub use Rattle.vbr_slots.proofs.steps.Calls.{quiet_on, quiet_refl, same_on, same_refl, table_on, took_none, took_on}
-- The steps of a pass that was alone: nothing was done before each but what the pass had seen.
pub use Rattle.vbr_slots.proofs.steps.Alone.{accepted_now, alone_first, alone_then, alone_three, alone_two, before_it}
pub use Rattle.vbr_slots.proofs.steps.Alone.{epoch_now, found_now, fresh_read}
pub use Rattle.vbr_slots.proofs.steps.Alone.{leaves_on, looks, nodes_next}
pub use Rattle.vbr_slots.proofs.steps.Alone.{quiet_adds_none}
pub use Rattle.vbr_slots.proofs.steps.Alone.{raise_leaves_lists, run_was, same_leaves, seen_next, stamp_leaves_lists}
-- The slot in the hand of a pass, by what its own pool says of it, and where another is let go.
pub use Rattle.vbr_slots.proofs.pools.Pools.{hand_alone, hand_stays}
-- A list that was written back through a slice of it.
pub use Rattle.vbr_slots.proofs.runs.Openings.{whole}
-- A slot that a pass takes out of the shared pool, or unlinks, wasn't its own.
pub use Rattle.vbr_slots.proofs.pools.Passes.{taken_new, unlinked_new}
