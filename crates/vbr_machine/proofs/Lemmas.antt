-- The lemmas of `vbr_machine` that proofs of other crates cite, which import from here alone.

-- Functions with one value changed.
pub use Rattle.vbr_machine.proofs.words.Puts.{put_here, put_other}
-- What both outcomes of a test leave is left.
pub use Rattle.vbr_machine.proofs.words.Branches.{by_both}
-- The lists of the buckets: what follows a listed incarnation is listed, no two stand before the same one, linked
-- ones have different keys, and no key lies between neighbours.
pub use Rattle.vbr_machine.proofs.chronicles.Lists.{keys_differ, next_listed}
-- Nodes of one list, by their slots, and how many of them stand behind a place: from a place to its successor they
-- are one fewer.
pub use Rattle.vbr_machine.proofs.progress.ListedNodes.{in_list_from, in_list_is, lower_is, lower_not, next_of_followed}
pub use Rattle.vbr_machine.proofs.progress.ListedNodes.{one_fewer, slot_is_one, stands_in, stands_key, stands_rank}
pub use Rattle.vbr_machine.proofs.progress.ListedNodes.{InList, Stands, stands_there}
-- The confirming loads.
pub use Rattle.vbr_machine.proofs.steps.ConfirmSteps.{found_at}
-- Along every run the world, the incarnations and the notes agree, and the chronicle is lawful.
pub use Rattle.vbr_machine.proofs.runs.EveryRun.{run_agrees, step_agrees}
-- What a flag word tells of a slot of the shape, and what a step on a flag leaves there.
pub use Rattle.vbr_machine.proofs.words.SlotFlags.{flag_in, flag_shared, flag_won, same_word, taken_word, unflagged}
pub use Rattle.vbr_machine.proofs.words.SlotFlags.{word_told}
pub use Rattle.vbr_machine.proofs.words.SlotFlags.{flag_clear, flag_set, flags_fit, flags_of_first, flags_whole}
pub use Rattle.vbr_machine.proofs.words.SlotFlags.{no_flags}
-- Runs go on: what more events do to the world, and that the events of others leave what a pass knows, may do and
-- has called.
pub use Rattle.vbr_machine.proofs.runs.RunsGoOn.{added_own, begins_for-snoc, begins_for_begins, begins_for_know}
pub use Rattle.vbr_machine.proofs.runs.RunsGoOn.{begins_for_refl, begins_refl, begins_run, calls_added, is_run_snoc}
pub use Rattle.vbr_machine.proofs.runs.RunsGoOn.{begins_trans, calls-snoc, calls_after, calls_by-append, calls_since}
pub use Rattle.vbr_machine.proofs.runs.RunsGoOn.{is_run_after, is_run_after_others, is_run_before, is_run_first}
pub use Rattle.vbr_machine.proofs.runs.RunsGoOn.{is_run_last, know_after-snoc, know_other, know_own, others_leave_calls}
pub use Rattle.vbr_machine.proofs.runs.RunsGoOn.{others_leave_it_accepted}
pub use Rattle.vbr_machine.proofs.runs.RunsGoOn.{others_leave_know, own_calls-snoc, world_after-append}
pub use Rattle.vbr_machine.proofs.runs.RunsGoOn.{world_after-snoc}
-- The words after a step: the word at its place is that of its operation, and no other word changes.
pub use Rattle.vbr_machine.proofs.words.WordsAfter.{place_in, word_elsewhere, word_here}
-- What a pass knows of its slots, against the words: a slot that it takes or unlinks was not its own, and a stamp
-- that it knows is the stamp that stands there.
pub use Rattle.vbr_machine.proofs.reads.OwnedSlots.{stamp_known, taken_unowned, unlinked_unowned}
-- Every run is safe.
pub use Rattle.vbr_machine.proofs.runs.SafeRuns.{every_run}
-- The events of one pass in the chronicle of a run: what others do adds none, and its own step adds what happens by it.
pub use Rattle.vbr_machine.proofs.runs.OwnEntries.{others_leave_entries, own_entries-snoc}
-- What is known by membership: each known read is of an incarnation that the pass holds, and what a search finds is
-- any known one.
pub use Rattle.vbr_machine.proofs.reads.KnownReads.{birth_held, slot_held}
-- What runs say to the layers above: of what a pass knows by membership, of the keys that were in the set when a
-- link was loaded, and of chains of marked links.
pub use Rattle.vbr_machine.proofs.moments.RunForms.{absent_at_load, confirmed_call_is, head_unmarked, held_in_bucket}
pub use Rattle.vbr_machine.proofs.moments.RunForms.{known_accepts, link_held, link_loaded}
pub use Rattle.vbr_machine.proofs.moments.RunForms.{marked_call_is, none_marked_between, none_marked_here}
pub use Rattle.vbr_machine.proofs.moments.RunForms.{none_marked_skipped, one_key, present_at_load, skipped_unlisted}
pub use Rattle.vbr_machine.proofs.moments.RunForms.{value_at_load, written_is}
-- A key that was passed by behind an unmarked link, along marked ones, was absent at a moment since.
pub use Rattle.vbr_machine.proofs.moments.MarkedMoments.{absent_at_moments}
-- Removed incarnations: the one that a remove marked has left its list, once no marked one of its key is in a list
-- but one that was replaced.
pub use Rattle.vbr_machine.proofs.moments.Removals.{left_since, marked_left, out_on}
-- A node that is replaced: what the step adds to the chronicle, and what shows that the node has left its list.
pub use Rattle.vbr_machine.proofs.moments.ReplacedNodes.{found_left, has_key, held_key, held_on, left_on, passed_left}
pub use Rattle.vbr_machine.proofs.moments.ReplacedNodes.{removed_on, replaced_earlier, replaced_entry, replaced_later}
pub use Rattle.vbr_machine.proofs.moments.ReplacedNodes.{replaced_out, skipped_left}
-- What runs say of how many nodes stand behind a place that a pass holds, whose link is still the one that it has
-- checked.
pub use Rattle.vbr_machine.proofs.progress.ListedRuns.{mark_out, raise_epoch}
pub use Rattle.vbr_machine.proofs.progress.ListedRuns.{raise_leaves, raise_links, read_leaves, stamp_epoch}
pub use Rattle.vbr_machine.proofs.progress.ListedRuns.{stamp_leaves, stamp_links, unlink_makes, unlink_takes_listed}
pub use Rattle.vbr_machine.proofs.progress.ListedRuns.{unlink_takes_one}
-- A node comes into a list by a publication alone: a step by which its pass makes no call adds none, and neither
-- does a mark.
pub use Rattle.vbr_machine.proofs.progress.ListedGrowth.{calls_or_adds_none, mark_leaves}
-- The link of a place that a pass holds unmarked, while the pass fills a slot in its hand.
-- What the lists stand for while the keys that a world opens with are linked, from the last on: the bare world
-- before the first, and all of them after the last. A world that opens with none is the bare one.
pub use Rattle.vbr_machine.proofs.words.OpenedWorlds.{bare, key_linked, opening_all, opening_none, opening_step}
-- The first key of a bucket, from a number on.
pub use Rattle.vbr_machine.proofs.chronicles.OpeningKeys.{FirstOrNone, IsFirst, first_or_none}
-- Where each slot is after a safe run, and that the numbers of slots that are somewhere add up; sums over passes.
pub use Rattle.vbr_machine.proofs.whereabouts.Whereabouts.{somewhere}
pub use Rattle.vbr_machine.proofs.whereabouts.SlotsAddUp.{add_up, sum_none}
-- Where a pass unlinks in turn, one slot at most is unstamped with it at any moment.
pub use Rattle.vbr_machine.proofs.whereabouts.UnlinkedInTurn.{in_turn_before}
-- A slot that is outside the shared pool stays outside while no flag is raised.
pub use Rattle.vbr_machine.proofs.whereabouts.OutsidePool.{IsRaise, NoneRaises, count_none, none_shared, stays_outside}
-- What disturbs a pass at a bucket: a moved epoch and a changed link show it; and the nodes that a walk meets were
-- in the list since it began, so there are no more than were there then, and than it was disturbed.
pub use Rattle.vbr_machine.proofs.progress.Since.{Since, changed_disturbed, disturbances_grow, moved_disturbed}
pub use Rattle.vbr_machine.proofs.progress.Since.{own_between, own_unchanged, since, step_changes_none}
pub use Rattle.vbr_machine.proofs.progress.Since.{undisturbed_by_itself, undisturbed_shown}
pub use Rattle.vbr_machine.proofs.progress.MovedEpochs.{AdvancesNone, IsAdvance, moved_by_others, moved_by_steps}
pub use Rattle.vbr_machine.proofs.progress.Visits.{HasVisited, ahead_few, head_visited, known_open, met_later, met_on}
pub use Rattle.vbr_machine.proofs.progress.Visits.{next_visited, shown_there, unmarked_open, visited_few, visited_on}
pub use Rattle.vbr_machine.proofs.progress.Visits.{IsAhead}
pub use Rattle.vbr_machine.proofs.progress.OwnInserts.{inserts_in, inserts_in-remove, inserts_in-two, met_bound_made}
pub use Rattle.vbr_machine.proofs.progress.OwnInserts.{met_bound_quiet, met_bound_uninserted}
-- Where a pass has marked a node that has left since, fewer nodes are in its list than could be met.
pub use Rattle.vbr_machine.proofs.progress.LeftNodes.{marked_fewer}
-- A slot that was in the shared pool, and isn't there after events of other passes, was gained by one of these.
pub use Rattle.vbr_machine.proofs.progress.GainedSlots.{gains_grow, own_gains_uncounted, slot_gained}
-- What disturbances are: updates that were answered, and advances.
pub use Rattle.vbr_machine.proofs.progress.Progress.{disturbances_paid}
-- Where each pass advances the epoch only in need, a disturbance is paid by an update that was answered, and by what
-- was removed before.
pub use Rattle.vbr_machine.proofs.progress.Needs.{IsIn, in_either, need_between, need_still}
pub use Rattle.vbr_machine.proofs.progress.NeededAdvances.{AllAdvanceInNeed, disturbances_answered, epoch_paid}
pub use Rattle.vbr_machine.proofs.whereabouts.UnretiredSlots.{unretired_few}
-- Marked nodes by the pass that marked them: they grow with its removes, and less where one has left its list.
pub use Rattle.vbr_machine.proofs.progress.MarkedBy.{marks_added, marks_fall, marks_follow}
pub use Rattle.vbr_machine.proofs.progress.Retirements.{removes-append}
-- Records beside the slots: an entry that was shown, that it keeps its slot while its birth or the epoch stands, and
-- that a slot in hand is in one hand alone, throughout.
pub use Rattle.vbr_machine.proofs.records.Entries.{entry_shown, same_birth_same_entry, same_epoch_same_entry}
pub use Rattle.vbr_machine.proofs.records.Hands.{in_hand_alone, in_hand_new, in_hand_throughout}
pub use Rattle.vbr_machine.proofs.records.KeptHands.{in_hand_since_its_birth}
pub use Rattle.vbr_machine.proofs.records.Published.{published_entry, replacing_entry}
-- The words of links that stand anywhere, and those that exchanges and stores of links expect and write, have room.
pub use Rattle.vbr_machine.proofs.steps.FittingLinks.{standing_room}
