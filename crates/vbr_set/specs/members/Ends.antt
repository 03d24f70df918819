-- How a set ends by its members, and what the last one gets.
use Rattle.std.specs.Prelude.{◌≡◌, ℕ, ◌<◌, List, length, slice_index_or, Option, None, Some, Result, Ok, Err, IfOk, IfErr, IfSome}
use Rattle.vbr_slots.specs.views.Views.{PassView, TableView}
use Rattle.vbr_at_table.specs.pools.GivingSlotsBack.{GivesSlotsBack}
use Rattle.vbr_set.specs.members.LettingGo.{LetsGo}
use Rattle.vbr_set.specs.calls.Members.{MemberView, as_member}
use Rattle.vbr_set.specs.members.Sharing.{ArePassesOf}
use Rattle.vbr_set.specs.declared.end_error.EndError.{EndError}
use Rattle.vbr_set.specs.declared.end_error.EndError.TheVariants.{Lost, Memory}

-- each pass stands at its number
abbrev pub AreNumbered : List PassView → Type 0
AreNumbered passes = (k : ℕ) (d : PassView) → k < length passes → (slice_index_or passes k d).trace.who ≡ k

-- all passes that were opened with the set, in the order of their numbers
pub record AreAll (set : TableView) (passes : List PassView) : Type 0 where
  pub of_set : ArePassesOf set passes
  pub count : length passes ≡ set.passes
  pub numbered : AreNumbered passes

module _ {R : Type 0} (tells : TableView → List PassView → R → Type 0) where
  -- the report describes the end of the set with all passes that were opened with it, each with exactly the calls that it has made; this pass is among them
  pub record EndsBy (set : TableView) (pass : PassView) (report : R) : Type 0 where
    pub passes : List PassView
    pub all : AreAll set passes
    pub own : (d : PassView) → slice_index_or passes pass.trace.who d ≡ pass
    pub closes : tells set passes report

-- if there is no memory, the member comes back as it was
abbrev pub IsBack : MemberView → EndError MemberView → Type 0
IsBack m Lost = Unit {0}
IsBack m (Memory member) = member ≡ m

module _ {R : Type 0} (tells : TableView → List PassView → R → Type 0) where
  -- the member let go of the slot that it had put aside, if any; its pass gave its slots back, and then the member was closed
  -- A report describes the end of its set with the pass as it was in between. If there is no memory, the member comes back with that pass.
  pub record ClosesMember (m : MemberView) (answer : Result (Option R) (EndError MemberView)) : Type 0 where
    pub first : PassView
    pub lets_go : LetsGo m.aside m.pass first
    pub between : PassView
    pub count : ℕ
    pub gives : GivesSlotsBack first between count
    pub report : IfOk answer (λ told. IfSome told (EndsBy tells m.set between))
    pub stays : IfErr answer (IsBack (as_member m.set between))

-- there is no memory, and no pass is lost
abbrev pub EndLacksMemory : {M : Type 0} → EndError M → Type 0
EndLacksMemory Lost = ⊥
EndLacksMemory (Memory member) = Unit {0}

module _ {A M : Type 0} where
  -- the answer to the last member: a report, or that there is no memory for it
  abbrev pub IsLast : Result (Option A) (EndError M) → Type 0
  IsLast (Ok None) = ⊥
  IsLast (Ok (Some report)) = Unit {0}
  IsLast (Err error) = EndLacksMemory error
