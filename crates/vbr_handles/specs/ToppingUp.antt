-- What handles keep in reserve by themselves: a call that adds a key takes slots up to that, if some are lacking and its budget has room.
use Rattle.std.specs.Prelude.{◌≡◌, ℕ, ◌+◌, ◌-◌, ◌/◌, ◌%◌, ◌^◌, ◌<◌, ◌&&◌, length, nat_lt, min, Bool, true, false, Option, None, Some, Result, Ok, Err}
use Rattle.vbr_slots.specs.steps.PassLaw.{PassLaw}
use Rattle.vbr_slots.specs.views.Views.{TableView, Trace, counted_steps, steps_of}
use Rattle.vbr_at_table.specs.pools.Reserving.{TopsUp}
use Rattle.vbr_at_table.specs.costs.WithinBudget.{TookWithin}
use Rattle.vbr_at_table.specs.declared.refusal.Refusal.{Refusal}
use Rattle.vbr_set.specs.calls.Members.{MemberView as Member}
use Rattle.vbr_handles.specs.AmpleBudgets.{budget_of}
use Rattle.vbr_handles.specs.declared.coded_calls.topping_up.TheConstants.{MOST, PARTS}

-- how many slots a handle of a set or a map keeps in reserve: 32, or an eighth of its share of the slots if that is less
abbrev pub reserve_of : TableView → ℕ
reserve_of set = min (set.start.shape.slots / set.passes / PARTS) MOST

-- whether a member lacks more slots of that than an eighth of it
abbrev pub lacks_slots : Member → Bool
lacks_slots m = nat_lt (length m.pass.pool + reserve_of m.set / PARTS) (reserve_of m.set)

-- how often it then tries to take one: as often as slots are then lacking at the least
abbrev pub tries_of : TableView → ℕ
tries_of set = reserve_of set / PARTS + 1

-- how many steps are left of a budget, if a pass counted so many before and so many since; a count begins anew after 2 ^ 64
abbrev pub left_of : ℕ → ℕ → ℕ → ℕ
left_of budget before since = budget - (since + (2 ^ 64 - before)) % 2 ^ 64

-- the same for a call of a pass
abbrev pub steps_left : ℕ → Trace → Trace → ℕ
steps_left budget p q = left_of budget (counted_steps (steps_of p)) (counted_steps (steps_of q))

-- since a call that began at p, with a budget of 32 bits, the member topped its own pool up to its reserve: in so many tries, or as many as the call left steps for, if these are fewer
pub record TopsUpReserve (budget : ℕ) (p : Trace) (m n : Member) : Type 0 where
  pub set : n.set ≡ m.set
  pub aside : n.aside ≡ m.aside
  pub taken : ℕ
  pub steps : ℕ
  pub small : budget < 2 ^ 32
  pub tops_up : TopsUp m.pass n.pass (reserve_of m.set) (min (steps_left budget p m.pass.trace) (tries_of m.set)) taken steps
  pub law : PassLaw n.pass

-- it did so if it had to, otherwise the member is as it was
abbrev pub TopsUpWhere : Bool → ℕ → Trace → Member → Member → Type 0
TopsUpWhere true budget p m n = TopsUpReserve budget p m n
TopsUpWhere false budget p m n = n ≡ m

-- whether the answer of an insert says that a key was added
abbrev pub has_added : Result Bool Refusal → Bool
has_added (Ok added) = added
has_added (Err refusal) = false

-- and whether the answer of a store does, which says what was there
abbrev pub has_stored_new : Result (Option ℕ) Refusal → Bool
has_stored_new (Ok None) = true
has_stored_new (Ok (Some old)) = false
has_stored_new (Err refusal) = false

module _ {A : Type 0} (Calls : Member → Member → Result A Refusal → Type 0) (adds : Result A Refusal → Bool) (budget : ℕ) where
  -- the member made the call; if it added a key and then lacked slots of its reserve, it topped its own pool up; both together took no more steps than the budget
  pub record CallsAndTopsUp (m n : Member) (answer : Result A Refusal) : Type 0 where
    pub between : Member
    pub called : Calls m between answer
    pub tops_up : TopsUpWhere (adds answer && lacks_slots between) budget m.pass.trace between n
    pub steps : TookWithin m.pass.trace n.pass.trace budget

-- the same with the budget that so many steps stand for in a call that may take a slot
abbrev pub CallsBySteps : {A : Type 0} → (ℕ → Member → Member → Result A Refusal → Type 0) → (Result A Refusal → Bool) → ℕ → Member → Member → Result A Refusal → Type 0
CallsBySteps Calls adds steps m n answer = CallsAndTopsUp (Calls (budget_of m steps)) adds (budget_of m steps) m n answer
