-- What several proofs name of std, of the crates below and of the definitions here, from one place.
pub use lib.Seq.{paste, paste-suc}
pub use Rattle.std.proofs.Common.{◌≡◌, Bool, true, false, ℕ, ◌+◌, ◌<◌, ◌∷◌, [], ◌++◌, List, map, length, take}
pub use Rattle.std.proofs.Common.{append_assoc, sym, ap, ◌∙◌, subst, arith, zero, suc, ◌≤◌, ◌≢◌, drop, refl, ◌⊎◌, inl}
pub use Rattle.std.proofs.Common.{inr, ◌/◌, ◌%◌, cond, slice_index, ◌-◌, ◌^◌, Fits, drop-cons, to_z, of_z, ◌&&◌, get_or}
pub use Rattle.std.proofs.Common.{min, rules, w32, FitsSigned}
pub use Rattle.std.proofs.Math.Seq.{map-set_same}
pub use Rattle.std.proofs.lemmas.Bool.{false≢true, eqb-true, ltb-false, ltb-true, cases_Bool, eq-eqb, eqb-false}
pub use Rattle.std.proofs.lemmas.Bool.{not-false, not-true}
pub use Rattle.std.proofs.lemmas.Int.{to_z-of_z, ints}
pub use Rattle.std.proofs.lemmas.List.{length-map, map-set, take_more_set, drop_more, drop-set-lt, set-get_or}
pub use Rattle.std.proofs.lemmas.List.{map-append, length-set, length-append, take_all, get_or-replicate}
pub use Rattle.std.proofs.lemmas.List.{get_or_default}
pub use Rattle.std.proofs.lemmas.List.Elements.{All-head, All-rest, All-same, All-tail, length_all_zip}
pub use Rattle.std.proofs.lemmas.List.Elements.{AllWithin-more_set}
pub use Rattle.std.specs.Int.{w64}
pub use Rattle.std.specs.List.{AllZip, AllWithin}
pub use Rattle.std.specs.List.Sorted.{IsStrictlyIncreasing}
pub use Rattle.std.specs.Prelude.{IsSome, Option, None, Some, slice_set, Result, Ok, Err, IfOk, IfSome, slice_index_or}
pub use Rattle.std.specs.Prelude.{pos, ◌<ℤ◌, ◌==◌, count_by, ℤ, nat_lt, if◌then◌else◌, is_some}
pub use Rattle.std.specs.Vec.Iter.{into_iter_items}
pub use Rattle.vbr_slots.specs.steps.PassLaw.{PassLaw}
pub use Rattle.vbr_slots.specs.views.Views.{PassView, TableView, new_passes, Trace, counted_steps, steps_of}
pub use Rattle.vbr_at_table.specs.costs.WithinBudget.{TookWithin}
pub use Rattle.vbr_at_table.specs.declared.refusal.Refusal.{Refusal}
pub use Rattle.vbr_list.specs.calls.Told.{is_yes}
pub use Rattle.vbr_set.specs.calls.Members.{MemberView as Member, as_member, new_members, AreNew, Called}
pub use Rattle.vbr_set.specs.members.BalanceSums.{added_balances}
pub use Rattle.vbr_handles.specs.AllHandles.{joined, members_by, AreFull, AreEnoughOnce, ReportsAllOf, StaySo}
pub use Rattle.vbr_handles.specs.AmpleBudgets.{budget_of}
pub use Rattle.vbr_handles.specs.AskingAll.{Lack, AnswersQuestion, AsksAllOf, RenewsWithReserves}
pub use Rattle.vbr_handles.specs.EachOnce.{HasTwice, number_shown, borne}
pub use Rattle.vbr_handles.specs.Handles.{map_owner, owner_of_map, set_owner, owner_of_set}
pub use Rattle.vbr_handles.specs.Lent.{with_member}
pub use Rattle.vbr_handles.specs.Listings.{Listing, with_slots, as_entry}
pub use Rattle.vbr_handles.specs.OpeningReserves.{StartWithReserves, StartsWithReserve}
pub use Rattle.vbr_handles.specs.Passes.{IsPassCount}
pub use Rattle.vbr_handles.specs.Shown.{balance_shown}
pub use Rattle.vbr_handles.specs.ToppingUp.{TopsUpWhere, lacks_slots, left_of, CallsAndTopsUp, CallsBySteps}
pub use Rattle.vbr_handles.specs.ToppingUp.{TopsUpReserve, reserve_of, has_stored_new, has_added}
pub use Rattle.vbr_handles.specs.ValueCalls.{WritesGiven, GivesUnlessHeld}
pub use Rattle.vbr_handles.specs.declared.owner.Owner.{Owner}
