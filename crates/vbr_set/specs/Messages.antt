-- What errors print.
use Rattle.std.specs.Prelude.{ℕ, List, ◌++◌, codes, decimal}
use Rattle.vbr_at_table.specs.Messages.{refusal_text}
use Rattle.vbr_set.specs.declared.close_all_error.CloseAllError.{CloseAllError}
use Rattle.vbr_set.specs.declared.close_all_error.CloseAllError.TheVariants as closing_all
use Rattle.vbr_set.specs.declared.end_error.EndError.{EndError}
use Rattle.vbr_set.specs.declared.end_error.EndError.TheVariants as ending
use Rattle.vbr_set.specs.declared.list_error.ListError.{ListError}
use Rattle.vbr_set.specs.declared.list_error.ListError.TheVariants as listing
use Rattle.vbr_set.specs.declared.record_refusals.HeldRefusal.{HeldRefusal}
use Rattle.vbr_set.specs.declared.record_refusals.HeldRefusal.TheVariants as held
use Rattle.vbr_set.specs.declared.record_refusals.HoldRefusal.{HoldRefusal}
use Rattle.vbr_set.specs.declared.record_refusals.HoldRefusal.TheVariants as holding
use Rattle.vbr_set.specs.declared.renew_all_error.RenewAllError.{RenewAllError}
use Rattle.vbr_set.specs.declared.renew_all_error.RenewAllError.TheVariants as renewing_all
use Rattle.vbr_set.specs.declared.renew_error.RenewError.{RenewError}
use Rattle.vbr_set.specs.declared.renew_error.RenewError.TheVariants.{Missing, Memory, Closed}

-- what is printed if a renewal is refused
abbrev pub renew_error_text : {S R : Type 0} → RenewError S R → List ℕ
renew_error_text (Missing set passes) = codes "there are fewer passes than were opened"
renew_error_text (Memory set passes) = codes "there is no memory to close it"
renew_error_text (Closed report) = codes "it is closed, and there is no memory to open it anew"

-- what is printed if no list of all keys came: what is printed of the refusal
abbrev pub list_error_text : ListError → List ℕ
list_error_text (listing.Refused refusal) = refusal_text refusal
list_error_text listing.Memory = codes "there is no memory for the list"

-- what is printed if the last member got no report
abbrev pub end_error_text : {M : Type 0} → EndError M → List ℕ
end_error_text ending.Lost = codes "a pass never came back"
end_error_text (ending.Memory member) = codes "there is no memory for the report"

-- what is printed if all members got no report
abbrev pub close_all_error_text : {M : Type 0} → CloseAllError M → List ℕ
close_all_error_text (closing_all.Missing members) = codes "there are fewer members than were opened"
close_all_error_text (closing_all.Memory members) = codes "there is no memory for the report"

-- what is printed if the members were not renewed
abbrev pub renew_all_error_text : {M : Type 0} → RenewAllError M → List ℕ
renew_all_error_text (renewing_all.Missing members) = codes "there are not as many members as were opened"
renew_all_error_text (renewing_all.Room members) = codes "there are more keys than slots"
renew_all_error_text (renewing_all.Memory members) = codes "there is no memory for the fresh set"

-- what is printed if a member holds no slot
abbrev pub hold_refusal_text : HoldRefusal → List ℕ
hold_refusal_text holding.Held = codes "the member holds a slot already"
hold_refusal_text (holding.Refused refusal) = refusal_text refusal

-- what is printed if a member gave no answer by the slot that it holds
abbrev pub held_refusal_text : HeldRefusal → List ℕ
held_refusal_text held.NotHeld = codes "the member holds no slot"
held_refusal_text held.Full = codes "the pool of the member is full"
held_refusal_text (held.OutOfSteps used) = codes "the budget has no room after " ++ decimal used ++ codes " steps"
