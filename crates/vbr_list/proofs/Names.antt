-- What proofs of this crate name of its specs, of std and of the crates below it, from one place.
pub use Rattle.std.specs.Borrow.{Bor}
pub use Rattle.std.specs.List.{AllByRecursion}
pub use Rattle.std.specs.Option.{is_none, is_some, option_copied}
pub use Rattle.std.specs.Prelude.{Contains, count_by, IfErr, IfNone, IfOk, IfSome, if◌then◌else◌, IsSome, OnOk, ◌&&◌}
pub use Rattle.std.specs.Prelude.{◌==◌, ◌⊎◌, max}
pub use Rattle.std.specs.Result.{is_err, is_ok}
pub use Rattle.std.proofs.Common.{[], ap, append-nil, append_assoc, arith, Bool, cond, eq-eqb, Err, false, inl, inr}
pub use Rattle.std.proofs.Common.{length, List, None, not, Ok, Option, option_to_list, refl, Result, rules, Some}
pub use Rattle.std.proofs.Common.{subst, zero, suc, sym, true, ℕ, ⊎_elim, ◌*◌, ◌++◌, ◌+◌, ◌-◌, ◌<◌, ◌^◌, ◌∙◌, ◌∷◌}
pub use Rattle.std.proofs.Common.{◌≡◌, ◌≢◌, ◌≤◌, eqb-true}
pub use Rattle.std.proofs.lemmas.Bool.{cases_Bool, cases_lt, and_from, and_parts, cases_eq, ne_eqb, cases_order}
pub use Rattle.std.proofs.lemmas.Bool.Decides.{nat_tests}
pub use Rattle.std.proofs.lemmas.List.Elements.{Contains-append_left, Contains-append_right, Contains-push}
pub use Rattle.std.proofs.lemmas.List.Elements.{Contains-push_cases, Contains-append_cases, filter-append}
pub use Rattle.std.proofs.lemmas.List.Sums.{sum_by-append}
pub use Rattle.std.proofs.lemmas.Nat.{mul-le}
pub use Rattle.std.proofs.lemmas.Result.{err_from_is_err_and}
pub use Rattle.std.proofs.Math.Nat.{le-max_left, le-max_right, max-le}
pub use Rattle.std.proofs.lemmas.List.{append_cancel_left}
pub use Rattle.vbr_words.specs.Buckets.{bucket_of}
pub use Rattle.vbr_words.specs.Dimensions.{Dimensions}
pub use Rattle.vbr_words.specs.Words.{link_of, word_of}
pub use Rattle.vbr_words.specs.declared.link.Link.{Link}
pub use Rattle.vbr_words.specs.declared.nodes.Nodes.{Ghosts}
pub use Rattle.vbr_words.specs.declared.place.At.{At}
pub use Rattle.vbr_words.specs.declared.place.At.TheVariants.{Head, Slot}
pub use Rattle.vbr_words.specs.Flags.{has_flag}
pub use Rattle.vbr_words.specs.Packing.{slot_bits}
pub use Rattle.vbr_words.proofs.Lemmas.{bucket_of-lt, word_of-link_of}
pub use Rattle.vbr_machine.specs.Acceptance.{IsInHand, IsUnlinked}
pub use Rattle.vbr_machine.specs.Accounts.{after_giving_up, chronicle, entry_of_call, happens, incarnations_after}
pub use Rattle.vbr_machine.specs.Accounts.{notes_after, own_entries}
pub use Rattle.vbr_machine.specs.Agreement.{FitsNotes, IsGood, IsHeldIncarnation, IsOfHeldOne, reads_of}
pub use Rattle.vbr_machine.specs.Calls.{own_calls}
pub use Rattle.vbr_machine.specs.Disturbances.{disturbances, has_left, is_inserted, is_met, IsOpenIn, met}
pub use Rattle.vbr_machine.specs.Disturbances.{own_changes}
pub use Rattle.vbr_machine.specs.History.{calls_by, GiveStored, GivesValue, IsLegal, keys_after, Payloads}
pub use Rattle.vbr_machine.specs.History.{payloads_after, reply_of, set_after, set_call, values_after}
pub use Rattle.vbr_machine.specs.Images.{link_shown_at}
pub use Rattle.vbr_machine.specs.Keys.{Keys}
pub use Rattle.vbr_machine.specs.Knowledge.{Know}
pub use Rattle.vbr_machine.specs.Learning.{birth_in_hand, call_of, read_epoch, reread}
pub use Rattle.vbr_machine.specs.Machine.{after, found, link_at, opening, World}
pub use Rattle.vbr_machine.specs.Membership.{at_head, BirthAt, HeldIn, IsHeldPlace, itself, KeyAt, Knows, LeadsTo}
pub use Rattle.vbr_machine.specs.Membership.{onward, StandsBefore, StandsBeforeOn, StandsBehind}
pub use Rattle.vbr_machine.specs.Moments.{WasShown}
pub use Rattle.vbr_machine.specs.Opened.{opening_keys, opening_payloads, payload_kept}
pub use Rattle.vbr_machine.specs.Removals.{HasLeft, HasReplaced, IsTakenOut, MarkedLeft, NoneMarked, ReplacedAt}
pub use Rattle.vbr_machine.specs.Removals.{ReplacedLeft}
pub use Rattle.vbr_machine.specs.Runs.{AreAccepted, Begins, BeginsFor, IsRun, know_after, world_after, world_from}
pub use Rattle.vbr_machine.specs.Sound.{IsInserted, IsListed, IsPassed, IsRemoved, SlotsSound, Sound, TimesFit}
pub use Rattle.vbr_machine.specs.Start.{IsStart, Start}
pub use Rattle.vbr_machine.specs.declared.event.Event.{Event}
pub use Rattle.vbr_machine.specs.declared.event.Step.{Step}
pub use Rattle.vbr_machine.specs.declared.event.Step.TheVariants.{Advance, ConfirmAbsent, ConfirmPresent, LoadBirth}
pub use Rattle.vbr_machine.specs.declared.event.Step.TheVariants.{LoadKey, LoadLink, LoadStamp, LoadValue, Mark}
pub use Rattle.vbr_machine.specs.declared.event.Step.TheVariants.{PeekBirth, Publish, Raise, ReadEpoch, Replace}
pub use Rattle.vbr_machine.specs.declared.event.Step.TheVariants.{StoreBirth, StoreKey, StoreLink, StoreStamp}
pub use Rattle.vbr_machine.specs.declared.event.Step.TheVariants.{StoreValue, TakeFlag, Unlink}
pub use Rattle.vbr_machine.specs.declared.history.Call.{Call}
pub use Rattle.vbr_machine.specs.declared.history.Op.{Op}
pub use Rattle.vbr_machine.specs.declared.history.Op.TheVariants.{Get, Has, Insert, Remove}
pub use Rattle.vbr_machine.specs.declared.knowledge.Holding.{Holding}
pub use Rattle.vbr_machine.specs.declared.knowledge.Holding.TheVariants.{Free, InHand, Unlinked}
pub use Rattle.vbr_machine.specs.declared.knowledge.Read.TheVariants.{BirthOf, KeyOf, LinkAt, ValueOf}
pub use Rattle.vbr_machine.specs.Records.{IsEntry, IsInHandAlone, IsTry, NoneTries}
pub use Rattle.vbr_machine.specs.declared.knowledge.Unpublished.{Unpublished}
pub use Rattle.vbr_machine.specs.Incarnations.{Incarnations, IsLate, last_in, Linked, State}
pub use Rattle.vbr_machine.specs.Nodes.{behind, count_below, is_behind}
pub use Rattle.vbr_machine.specs.Chronicles.{Bears, entries_by, Happening, IsLawful, Raises, Replaces}
pub use Rattle.vbr_machine.specs.Notes.{Note, Notes}
pub use Rattle.vbr_machine.specs.declared.knowledge.Read.{Read}
pub use Rattle.vbr_machine.proofs.Lemmas.{added_own, AdvancesNone, ahead_few, begins_for_know, begins_refl}
pub use Rattle.vbr_machine.proofs.Lemmas.{begins_run, begins_trans, birth_held, calls_added, calls_after}
pub use Rattle.vbr_machine.proofs.Lemmas.{calls_by-append, changed_disturbed, disturbances_grow, disturbances_paid}
pub use Rattle.vbr_machine.proofs.Lemmas.{entry_shown, every_run, found_left, has_key, HasVisited, head_visited}
pub use Rattle.vbr_machine.proofs.Lemmas.{held_key, held_on, in_hand_alone, in_hand_throughout, in_list_from, InList}
pub use Rattle.vbr_machine.proofs.Lemmas.{inserts_in, inserts_in-remove, inserts_in-two, is_run_last, IsAdvance}
pub use Rattle.vbr_machine.proofs.Lemmas.{IsAhead, keys_differ, known_open, left_on, left_since, link_loaded}
pub use Rattle.vbr_machine.proofs.Lemmas.{marked_fewer, marked_left, met_bound_made, met_bound_quiet}
pub use Rattle.vbr_machine.proofs.Lemmas.{met_bound_uninserted, met_later, met_on, moved_by_others, moved_disturbed}
pub use Rattle.vbr_machine.proofs.Lemmas.{next_visited, none_marked_between, none_marked_here, none_marked_skipped}
pub use Rattle.vbr_machine.proofs.Lemmas.{one_key, others_leave_entries, out_on, own_between, own_entries-snoc}
pub use Rattle.vbr_machine.proofs.Lemmas.{own_unchanged, passed_left, present_at_load, put_here, put_other}
pub use Rattle.vbr_machine.proofs.Lemmas.{removed_on, replaced_earlier, replaced_later, run_agrees, shown_there}
pub use Rattle.vbr_machine.proofs.Lemmas.{Since, since, skipped_left, slot_is_one, step_agrees, undisturbed_by_itself}
pub use Rattle.vbr_machine.proofs.Lemmas.{undisturbed_shown, unmarked_open, value_at_load, visited_few, visited_on}
pub use Rattle.vbr_slots.specs.steps.Alone.{ahead, IsAlone, IsFresh, nodes, OnlyEventsOf}
pub use Rattle.vbr_slots.specs.steps.AtTables.{IsSameTable}
pub use Rattle.vbr_slots.specs.steps.Calls.{AddsAnswer, AddsNone, IsSame, Made, made_by, Moment, OnlyLoads, Quiet}
pub use Rattle.vbr_slots.specs.steps.Calls.{Took}
pub use Rattle.vbr_slots.specs.steps.PassLaw.{PassLaw}
pub use Rattle.vbr_slots.specs.pools.Pools.{HandFits, OwnPool}
pub use Rattle.vbr_slots.specs.views.Views.{IsOf, knows, PassView, TableView, Trace}
pub use Rattle.vbr_slots.specs.declared.at_table.AtTable.{AtTable}
pub use Rattle.vbr_slots.specs.declared.pass.TheConstants.{POOL}
pub use Rattle.vbr_slots.proofs.Lemmas.{adds_on, adds_refl, alone_first, alone_then, answer_on, loads_on, loads_refl}
pub use Rattle.vbr_slots.proofs.Lemmas.{made_on, made_then, moment_after, moment_before, quiet_adds_none, quiet_on}
pub use Rattle.vbr_slots.proofs.Lemmas.{quiet_refl, same_on, same_refl}
pub use Rattle.vbr_at_table.specs.costs.Advances.{AdvancesWhereNeeded}
pub use Rattle.vbr_at_table.specs.answers.WonAlone.{StandsNow}
pub use Rattle.vbr_at_table.specs.answers.Answering.{FindsAnother, IsAnswered, KeepsIn}
pub use Rattle.vbr_at_table.specs.costs.Budgets.{most_to_take, most_to_take_among, steps_to_take_among}
pub use Rattle.vbr_at_table.specs.costs.StepCosts.{birth_steps, next_steps, steps_to_birth}
pub use Rattle.vbr_at_table.specs.costs.StepKinds.{advances, ChangesNone, flags_tried, is_advance, is_try, made_of}
pub use Rattle.vbr_at_table.specs.answers.Exchanges.{IsGap, IsUnmarked, LosesExchange, StoresIn}
pub use Rattle.vbr_at_table.specs.costs.Gained.{gained}
pub use Rattle.vbr_at_table.specs.pools.GivingBack.{PutsBack}
pub use Rattle.vbr_at_table.specs.hands.Hands.{HandView, IsHandOf}
pub use Rattle.vbr_at_table.specs.reads.Held.{held_of, HoldsMarked, IsHeld, IsSlot, IsSucc, Names, said, said_if}
pub use Rattle.vbr_at_table.specs.reads.Held.{said_marked, said_rollback, said_succ}
pub use Rattle.vbr_at_table.specs.reads.KeptKnowledge.{Keeps, KeepsOwn, KeepsUnlinked}
pub use Rattle.vbr_at_table.specs.hands.KeptSlots.{HasAllButOne, HasStill, HasUnpublished, KeepsSlots}
pub use Rattle.vbr_at_table.specs.hands.KeptSlots.{SharesWhereFull, StaysInTurn, TakesNoSlot, TriesNoFlag}
pub use Rattle.vbr_at_table.specs.hands.KeptSlots.{TriesOnlyWhere, TriesWhereEmpty, WinsInNeed}
pub use Rattle.vbr_at_table.specs.answers.Marks.{LeavesOthers}
pub use Rattle.vbr_at_table.specs.reads.Moments.{IsNext, IsRead, ShowsBirth, Stood, WasEntry, WasSo}
pub use Rattle.vbr_at_table.specs.reads.Reading.{IsHeadRead, IsKeyRead, IsNextRead, ReadsIn, RollsBack}
pub use Rattle.vbr_at_table.specs.pools.Refusals.{IsSpent, LeavesRoom, RefusesTake}
pub use Rattle.vbr_at_table.specs.answers.Replacing.{MadeTwo}
pub use Rattle.vbr_at_table.specs.pools.Retiring.{is_kept, know_retired, pool_retired, StampsFreshly}
pub use Rattle.vbr_at_table.specs.reads.Rollbacks.{FreshIfMoved, IsLost, IsMovedOrLost}
pub use Rattle.vbr_at_table.specs.costs.WithinBudget.{CountsSteps, TookWithin}
pub use Rattle.vbr_at_table.specs.answers.Values.{entry_call, IsOtherIn, MarksEntry, steps_to_update, steps_to_value}
pub use Rattle.vbr_at_table.specs.answers.Values.{ValueAt}
pub use Rattle.vbr_at_table.specs.declared.budget.TheConstants.{PIECE}
pub use Rattle.vbr_at_table.specs.declared.held.Held.{Held}
pub use Rattle.vbr_at_table.specs.declared.held.Marked.{Marked}
pub use Rattle.vbr_at_table.specs.declared.refusal.Refusal.{Refusal}
pub use Rattle.vbr_at_table.specs.declared.refusal.Refusal.TheVariants.{EpochSpent, NoSlot, OutOfSteps}
pub use Rattle.vbr_at_table.specs.declared.rollback.Rollback.{Rollback}
pub use Rattle.vbr_at_table.specs.declared.rollback.Rollback.TheVariants.{EpochMoved, LostExchange}
pub use Rattle.vbr_at_table.specs.answers.Records.{MarksHeld, MarksSlot, PublishesSlot, WasHeldEntry, WasHeldValue}
pub use Rattle.vbr_at_table.proofs.Lemmas.{alone_gained, behind_kept, counts_none, counts_on, gained_on, gained_since}
pub use Rattle.vbr_at_table.proofs.Lemmas.{grows_same, had_back, had_grown, had_on, had_spent, had_taken, had_then}
pub use Rattle.vbr_at_table.proofs.Lemmas.{held_in_kept, held_in_next, held_kept, in_need_after, in_need_before}
pub use Rattle.vbr_at_table.proofs.Lemmas.{keeps_on, key_on, longer, missed_after, more_lost, needed_after}
pub use Rattle.vbr_at_table.proofs.Lemmas.{needed_before, no_room, none_back, none_in_need, none_lost, none_on}
pub use Rattle.vbr_at_table.proofs.Lemmas.{none_refl, own_read, reads_none, reads_on, replaced_since, shared_on}
pub use Rattle.vbr_at_table.proofs.Lemmas.{shared_taken, shares_more, slots_kept_on, some_grown, stood_after}
pub use Rattle.vbr_at_table.proofs.Lemmas.{stood_before, took_all, two_before, two_on, unchanged_by_none}
pub use Rattle.vbr_at_table.proofs.Lemmas.{unlinks_none, value_on, was_absent, was_absent_on, was_entry, was_present}
pub use Rattle.vbr_list.specs.updates.Inserting.{AnswersNone, CountsWithin, denied, HasHandAndRoom, InsertShowsSpent}
pub use Rattle.vbr_list.specs.updates.Inserting.{Prepares, RunsShort, SearchedFor, Searches, SearchesFor}
pub use Rattle.vbr_list.specs.updates.Inserting.{SearchesInVain, TakesNone, TriesFor}
pub use Rattle.vbr_list.specs.calls.Words.{wide_found, wide_held, wide_marked, wide_sight}
pub use Rattle.vbr_list.specs.calls.Budgets.{enough_past, enough_to_insert, enough_to_look_up, enough_to_search}
pub use Rattle.vbr_list.specs.calls.Budgets.{enough_to_store, enough_to_unlist, insert_costs, IsAnsweredOrSpent}
pub use Rattle.vbr_list.specs.calls.Budgets.{LacksSteps, listed_for, nodes_listed_in, steps_to_value_of, steps_where}
pub use Rattle.vbr_list.specs.calls.Budgets.{store_costs}
pub use Rattle.vbr_list.specs.updates.Preparing.{AskLoses, Asks, has_wanted, HasAnswered, HasPrepared, Meeting}
pub use Rattle.vbr_list.specs.updates.Preparing.{MeetsOther, MeetsWanted, MeetTires, ReadsWanted, TellsOther}
pub use Rattle.vbr_list.specs.updates.Preparing.{told_otherwise}
pub use Rattle.vbr_list.specs.updates.Wanted.{steps_to_compare, wants, WasWanted, WasWantedFor}
pub use Rattle.vbr_list.specs.declared.wanted.Wanted.{Wanted}
pub use Rattle.vbr_list.specs.calls.Told.{given_by, given_call, given_in, is_yes, kept_call, look_up_op, stored_call}
pub use Rattle.vbr_list.specs.calls.Told.{stored_in}
pub use Rattle.vbr_list.specs.traversals.Searching.{Checks, IsDisturbed, KnowsEpoch, LooksTo, LosesFound, LosesHeld}
pub use Rattle.vbr_list.specs.traversals.Searching.{LosesNext, LosesPlace, met_in, met_since, MovesEpoch, MovesOn}
pub use Rattle.vbr_list.specs.traversals.Searching.{MovesSince, NextStandsStill, nodes_after, ReadsNext, Repeats}
pub use Rattle.vbr_list.specs.traversals.Searching.{RepeatsIn, SearchesIn, StandsStill, StoodOpen, TraversesAgain}
pub use Rattle.vbr_list.specs.traversals.Searching.{TraversesAgainIn, TraversesOnce}
pub use Rattle.vbr_list.specs.traversals.Places.{IsCur, IsEnd, IsPred, IsSight, Locates, sighted}
pub use Rattle.vbr_list.specs.calls.Pieces.{Goes, GoesOn, HasRoomForPiece, IsSameCall, KeepsHand, LooksOn, Observes}
pub use Rattle.vbr_list.specs.calls.Pieces.{pass_in, Peeks, Settles, trace_in, Tries}
pub use Rattle.vbr_list.specs.updates.Removing.{MarksAndSearches, MarksBehind, MarksFound, RemoveAnswers}
pub use Rattle.vbr_list.specs.updates.Removing.{RemoveRollsBack, RemovesLate, RemovesSoon, SearchesOn}
pub use Rattle.vbr_list.specs.declared.call.PendingCall.{PendingCall}
pub use Rattle.vbr_list.specs.traversals.Disturbed.{advances_since, changed_after, changed_at, changes_since}
pub use Rattle.vbr_list.specs.traversals.Disturbed.{costs_among, costs_in_hand_among, disturbed, disturbed_after}
pub use Rattle.vbr_list.specs.traversals.Disturbed.{disturbed_at, disturbed_in, enough_among, enough_in_hand_among}
pub use Rattle.vbr_list.specs.traversals.Disturbed.{enough_to_insert_among, enough_to_search_among}
pub use Rattle.vbr_list.specs.traversals.Disturbed.{enough_to_store_among, find_costs_among, insert_costs_among}
pub use Rattle.vbr_list.specs.traversals.Disturbed.{most_disturbed, remove_costs_among, searches_more}
pub use Rattle.vbr_list.specs.traversals.Disturbed.{seek_costs_among, steps_for_slot, steps_to_prepare}
pub use Rattle.vbr_list.specs.traversals.Disturbed.{store_costs_among}
pub use Rattle.vbr_list.specs.updates.Replacing.{KnowsFoundValue, MayStoreNode, ReplacesFound, UnlinksAtOnce}
pub use Rattle.vbr_list.specs.updates.Replacing.{UnlinksReplaced}
pub use Rattle.vbr_list.specs.updates.Settling.{AnswersLate, had_node, LeavesInHand, LinksNode, MaySettle}
pub use Rattle.vbr_list.specs.updates.Settling.{PublishedSlot, SearchesWith, SettlesIn, SettlesSoon, StoredIn}
pub use Rattle.vbr_list.specs.updates.Settling.{StoredSoon, StoresByHand}
pub use Rattle.vbr_list.specs.declared.found.Found.{Found}
pub use Rattle.vbr_list.specs.look_ups.Telling.{IsFoundValue, IsThere, KnowsThere, TellsThere}
pub use Rattle.vbr_list.specs.named_entries.OtherEntries.{IsNodeOf, ReplacedEntry, WasOther}
pub use Rattle.vbr_list.specs.named_entries.Entries.{entry_at, entry_in, entry_of, EntryAnswers, FindsNamedEntry}
pub use Rattle.vbr_list.specs.named_entries.Entries.{HasNoValue, IsNamed, TellsStill, value_given, value_of_entry}
pub use Rattle.vbr_list.specs.named_entries.Entries.{WasFullEntry, WasThere, WasThereIf}
pub use Rattle.vbr_list.specs.look_ups.LookUpPieces.{GivesValueOf, IsSightFor, LookUpAnswers, LookUpRollsBack}
pub use Rattle.vbr_list.specs.look_ups.LookUpPieces.{steps_to_answer}
pub use Rattle.vbr_list.specs.declared.entries.Entry.{Entry}
pub use Rattle.vbr_list.specs.declared.looking.Sight.{Sight}
pub use Rattle.vbr_list.specs.updates.HeldStores.{answer_unstored, AnswersOther, KeepsUnstored, SaysUnstored}
pub use Rattle.vbr_list.specs.updates.HeldStores.{still_in_hand, StoresOrInserts, StoresWanted}
pub use Rattle.vbr_list.specs.updates.NewValues.{value_after, value_by}
pub use Rattle.vbr_list.specs.traversals.Helping.{GoesIn, OpensPlace}
pub use Rattle.vbr_list.specs.calls.CallBounds.{BoundsOfInsert, BoundsOfLookUp, Calls, CallsAs, CallsEntry, CallsGet}
pub use Rattle.vbr_list.specs.calls.CallBounds.{GivesAlone}
pub use Rattle.vbr_list.specs.updates.Outcomes.{changed_in, ChangedAsWanted, there_in, there_of}
pub use Rattle.vbr_list.specs.updates.Holding.{AnswersHeld, CostsInHand, FindsOtherEntry, HoldsOn, LacksInHand}
pub use Rattle.vbr_list.specs.updates.Holding.{PublishesHeld, StoresHeld}
pub use Rattle.vbr_list.specs.traversals.Leaving.{BoundsOfRemove, Leaves, LeavesAt, LeavesReplaced, Sweeps, WasClear}
pub use Rattle.vbr_list.specs.traversals.Traversing.{HasComeTo, LastTraversal, LocatesFor, SearchFinds, SearchTires}
pub use Rattle.vbr_list.specs.declared.storing.Unstored.{Unstored}
pub use Rattle.vbr_list.specs.declared.storing.Unstored.TheVariants.{Otherwise}
pub use Rattle.vbr_list.specs.look_ups.Seeking.{GivesNextNode, IteratesNodes, Sought, steps_besides, TellsNode}
pub use Rattle.vbr_list.specs.declared.cursor.Cursor.{Cursor}
pub use Rattle.vbr_list.specs.declared.seeking.NextNode.{NextNode}
pub use Rattle.vbr_list.specs.look_ups.Cursors.{AreInOrder, ComesFirst, costs_over, costs_over_among}
pub use Rattle.vbr_list.specs.look_ups.Cursors.{enough_to_come_among, entered_by, first_cursor, going_costs}
pub use Rattle.vbr_list.specs.look_ups.Cursors.{greatest_walk_costs, HasGiven, HasGivenAll, HasStayedOrMoved, IsAtEnd}
pub use Rattle.vbr_list.specs.look_ups.Cursors.{IsBeforeCursor, IsBehindKey, IsPastKey, IsToCome, next_bucket}
pub use Rattle.vbr_list.specs.look_ups.Cursors.{PassesBy, SeesMore, StopsShort, walk_costs, walks_cost}
pub use Rattle.vbr_list.specs.look_ups.Next.{enough_to_seek, HasNoNext, IsNextKey, seek_costs, Seeks}
pub use Rattle.vbr_list.specs.look_ups.Valuing.{LosesValue, ReadsValue}
pub use Rattle.vbr_list.specs.traversals.Visiting.{HasKey, IsVisit, MeetsBehind, met_place, StartsAt, StartsNone}
pub use Rattle.vbr_list.specs.traversals.Visiting.{steps_met, Visits}
pub use Rattle.vbr_list.specs.declared.visiting.Visited.{Visited}
pub use Rattle.vbr_list.specs.declared.visiting.Visited.TheVariants.{Beyond, Smaller}
pub use Rattle.vbr_list.specs.declared.wanted.Wanted.TheVariants.{Absent, Anything, Present, Value}
pub use Rattle.vbr_list.specs.traversals.Found.{CurStood, IsFound}
pub use Rattle.vbr_list.specs.updates.Expecting.{op_to_remove, removal_in, takes_out}
pub use Rattle.vbr_list.specs.named_entries.RemovingExactly.{MarkedSlot, RemovesExactly, RemovesKeyExactly}
pub use Rattle.vbr_list.specs.named_entries.RemovingExactly.{RemovesNodeExactly, TakesOut, TellsKeyTaken}
pub use Rattle.vbr_list.specs.named_entries.RemovingExactly.{TellsNodeTaken, TellsTaken}
pub use Rattle.vbr_list.specs.calls.Refusals.{IsRefusedInsert, IsTired}
pub use Rattle.vbr_list.specs.calls.LoneReplies.{AnswersAlone, AreAnsweredAlone}
pub use Rattle.vbr_list.specs.declared.outcome.Outcome.{Outcome}
pub use Rattle.vbr_list.specs.updates.Storing.{CallsStore, HasUnlessStored, IsRefusedStore, Makes, replaced}
pub use Rattle.vbr_list.specs.updates.Storing.{stored_calls, storing_calls}
pub use Rattle.vbr_list.specs.updates.Updating.{CallsUpdate, MayUpdate}
pub use Rattle.vbr_list.specs.declared.new_value.NewValue.{NewValue}
pub use Rattle.vbr_list.specs.declared.new_value.NewValue.TheVariants.{Exactly, Sum}
pub use Rattle.vbr_list.specs.declared.outcome.Outcome.TheVariants.{Changed, Unchanged}
