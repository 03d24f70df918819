-- What it means that a page is claimed once.
use Rattle.std.specs.Prelude.{◌≡◌, ◌≢◌, ◌≤◌, ◌+◌, ◌==◌, ℕ, Bool, true, List, [], ◌∷◌, ◌++◌, if◌then◌else◌}
use Rattle.vbr_machine.specs.History.{set_call}
use Rattle.vbr_machine.specs.declared.history.Call.{Call}
use Rattle.vbr_machine.specs.declared.history.Op.{Op}
use Rattle.vbr_machine.specs.declared.history.Op.TheVariants.{Insert, Remove}
use Rattle.vbr_slots.specs.steps.Calls.{made_by}
use Rattle.vbr_set.specs.histories.Histories.{calls_of}
use Rattle.vbr_set.specs.calls.Members.{MemberView}

-- how often a call claims a page: once, if it is an insert of it that was answered yes
abbrev pub claims_of : ℕ → Op → ℕ → Bool → ℕ
claims_of page Insert key true = if page == key then 1 else 0
claims_of page _ key _ = 0

-- how often calls claim a page
abbrev pub claims_in : ℕ → List Call → ℕ
claims_in page [] = 0
claims_in page (call ∷ calls) = claims_of page call.op call.key call.reply + claims_in page calls

-- no call is a remove
abbrev pub RemoveNone : List Call → Type 0
RemoveNone [] = Unit {0}
RemoveNone (call ∷ calls) = (call.op ≢ Remove) × RemoveNone calls

-- the member's insert of the page is its last call, and was answered this; in the history of all that it has then seen, of all members, the page is claimed at most once, if nobody removes
pub record IsClaimedOnce (m n : MemberView) (page : ℕ) (claimed : Bool) : Type 0 where
  pub own : made_by n.pass.trace ≡ made_by m.pass.trace ++ (set_call m.pass.trace.who Insert page claimed) ∷ []
  pub once : RemoveNone (calls_of n.pass.trace.start n.pass.trace.seen) → claims_in page (calls_of n.pass.trace.start n.pass.trace.seen) ≤ 1
