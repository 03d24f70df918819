-- The lemmas of `vbr_at_table` that proofs of other crates cite, which import from here alone.

-- What the steps of a pass show: the epoch that it reads, and the flags that it takes.
pub use Rattle.vbr_at_table.proofs.reads.Shown.{epoch_stood, epoch_told, missed_after}
pub use Rattle.vbr_at_table.proofs.epochs.EpochReads.{own_read}
-- The steps of a call, one piece after another.
pub use Rattle.vbr_at_table.proofs.steps.Counting.{counts_none, counts_on, no_room, took_all}
-- The steps of a pass that would advance the epoch, through its other steps.
pub use Rattle.vbr_at_table.proofs.epochs.Advancing.{did_none, did_stamps, free_on, free_pool, grows_on, grows_same}
pub use Rattle.vbr_at_table.proofs.epochs.Advancing.{slots_kept_on, longer, needed_after}
pub use Rattle.vbr_at_table.proofs.epochs.Advancing.{needed_before, none_back, none_known, none_on, none_refl}
pub use Rattle.vbr_at_table.proofs.epochs.Advancing.{same_advances}
pub use Rattle.vbr_at_table.proofs.epochs.Advancing.{same_flags, shared_on}
pub use Rattle.vbr_at_table.proofs.epochs.Advancing.{shared_taken, shares_more, some_grown}
-- A pass wins one flag at most, where it has no slot, from piece to piece of a call; and counts along a run.
pub use Rattle.vbr_at_table.proofs.flags.FlagsInNeed.{along-append, in_need_after, in_need_before, none_along}
pub use Rattle.vbr_at_table.proofs.flags.FlagsInNeed.{none_in_need}
-- A pass advances the epoch in need, from view to view.
pub use Rattle.vbr_at_table.proofs.epochs.Needing.{stays_in_need}
-- A pass unlinks in turn, from step to step.
pub use Rattle.vbr_at_table.proofs.returns.InTurn.{did_stay_turn, did_turn, turn_others}
-- The slots that a pass has, from piece to piece of a call.
pub use Rattle.vbr_at_table.proofs.own_slots.HadSlots.{had_back, had_grown, had_on, had_spent, had_taken, had_then}
-- The places and the slots that a pass knows of are those of the shape: loads and exchanges ask for that.
pub use Rattle.vbr_at_table.proofs.reads.PlacesInShape.{link_in}
-- What was known stays known.
pub use Rattle.vbr_at_table.proofs.reads.KeptKnowledge.{behind_kept, held_in_kept, held_in_next, held_kept, keeps_on}
-- What was so at the moment of a step.
pub use Rattle.vbr_at_table.proofs.reads.Moments.{stood_after, stood_before, was_absent, was_absent_on, was_entry}
pub use Rattle.vbr_at_table.proofs.reads.Moments.{was_present}
-- An unlinking: won, it gives the pass the slot to stamp; lost, it leaves all as it was.
pub use Rattle.vbr_at_table.proofs.returns.NoneUnlinked.{unlinks_none}
-- What calls that read tell, one after another.
pub use Rattle.vbr_at_table.proofs.reads.ReadCalls.{reads_none, reads_on}
-- The slots that other passes took out of the shared pool, from piece to piece of a call.
pub use Rattle.vbr_at_table.proofs.flags.Gained.{alone_gained, gained_on, gained_since, more_lost, none_lost}
-- What adds nothing to the chronicle changes no list.
pub use Rattle.vbr_at_table.proofs.steps.Unchanged.{unchanged_by_none}
-- A replacement, after what made no call; and what was known of a node stays known.
pub use Rattle.vbr_at_table.proofs.exchanges.Replacements.{key_on, replaced_since, two_before, two_on, value_on}
-- What a call tells at a table whose nodes have no values.
pub use Rattle.vbr_at_table.proofs.answers.OfKeys.{key_asked, key_inserted, key_present, key_removed, key_stored}
pub use Rattle.vbr_at_table.proofs.answers.OfKeys.{key_valued}
-- A slot that a pass puts aside, and that stays so.
pub use Rattle.vbr_at_table.proofs.own_slots.PuttingAside.{kept_aside, puts_aside}
pub use Rattle.vbr_at_table.proofs.own_slots.SlotsAside.{aside_seen, hand_was, pool_aside}
