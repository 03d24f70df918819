-- The lemmas of `vbr_transcript` that proofs of other crates cite, which import from here alone.

-- The epoch of a run of the machine, how it grows.
pub use Rattle.vbr_transcript.proofs.MachineCalls.{epoch_begins}
-- Filters of lists: two in a row, one after a map, one that keeps all, and what two lists in step keep.
pub use Rattle.vbr_transcript.proofs.Filters.{filter_all, filter_none, zip-append, zip_longer}
-- What the workers have played on a set, put together in script order, are its outcomes.
pub use Rattle.vbr_transcript.proofs.Explaining.{EndsWithin, HavePlayed, all_lines, none_beyond, set_run_of_workers}
-- What the outcomes of a script say of the calls of each worker, and of the phases.
pub use Rattle.vbr_transcript.proofs.Outcomes.{all_outcomes, ascend_lower, outcomes_by-own}
-- Sets that follow one another: what one was asked, and behind it what the next ones were, are the outcomes of all.
pub use Rattle.vbr_transcript.proofs.Renewing.{last_set, one_more_set}
