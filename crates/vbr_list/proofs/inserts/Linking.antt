-- With a slot in hand, search follows search until the call is answered or its budget has no room.
use Rattle.vbr_list.proofs.Names.{◌≡◌, ℕ, ◌+◌, ◌≤◌, Bool, Option, None, Some, sym, subst, arith, Bor, option_copied}
use Rattle.vbr_list.proofs.Names.{◌<◌, CountsSteps, CountsWithin, Found, Ghosts, GoesOn, had_grown, had_on, HandView}
use Rattle.vbr_list.proofs.Names.{HasHandAndRoom, HasStill, Held, IsCur, IsEnd, IsSameCall, IsSucc, Know, knows}
use Rattle.vbr_list.proofs.Names.{Locates, LocatesFor, LosesFound, MaySettle, none_on, pass_in, PassLaw, PendingCall}
use Rattle.vbr_list.proofs.Names.{Quiet, quiet_on, SearchFinds, TakesNoSlot, Took, trace_in}
use Rattle.vbr_list.proofs.pieces.Going.{call_on, counts_step, within_call}
use Rattle.vbr_list.proofs.traversals.LostTraversals.{search_lost}
use Rattle.vbr_list.proofs.inserts.Preparing.{within_on}
use Rattle.vbr_list.proofs.stores.Stores.{hand_kept}
use Rattle.vbr_list.proofs.traversals.Searching.{HasRepeated}

-- the call has made so many searches, with a slot in hand; so many steps for each that was lost
abbrev pub IsLinking : {N : Type 0} {kind : Ghosts N} → ℕ → PendingCall N kind → PendingCall N kind → HandView → Type 0
IsLinking each b c hand = IsSameCall b c × Quiet (trace_in b) (trace_in c) ×
    CountsWithin (trace_in b) (trace_in c) b.used c.used b.budget × TakesNoSlot (pass_in b) (pass_in c) ×
    HasHandAndRoom (pass_in c) hand × HasStill (pass_in b) (pass_in c) ×
    HasRepeated 9 (trace_in b) (trace_in c) b.key each b.used c.used

-- a piece after a search: its steps are counted, and it takes no slot
pub record TakesOn {N : Type 0} {kind : Ghosts N} (c d : PendingCall N kind) : Type 0 where
  pub call : IsSameCall c d
  pub counts : CountsSteps (trace_in c) (trace_in d) c.used d.used
  pub more : c.used ≤ d.used
  pub takes_no_slot : TakesNoSlot (pass_in c) (pass_in d)

-- one of so many steps
pub settles_in : {N : Type 0} {kind : Ghosts N} → {c d : PendingCall N kind} (steps : ℕ) → IsSameCall c d →
    d.used ≡ c.used + steps → 0 < steps → Took (trace_in c) (trace_in d) steps → TakesNoSlot (pass_in c) (pass_in d) →
    MaySettle c d
settles_in {c = c} {d = d} steps same used some took none = record {
  call = same;
  counts = subst (CountsSteps (trace_in c) (trace_in d) c.used) (sym used) (counts_step c.used steps took);
  more = omega (arith, used, some);
  takes_no_slot = none;
}

-- one more search
module _ {N : Type 0} {kind : Ghosts N} {each : ℕ} {b c d : PendingCall N kind} {hand : HandView}
    (so : IsLinking each b c hand) (went : GoesOn c d) where
  pub begun : IsSameCall b d
  begun = call_on so.0 went.call

  pub quiet_until : Quiet (trace_in b) (trace_in d)
  quiet_until = quiet_on so.1 went.goes.quiet

  pub counts_until : CountsWithin (trace_in b) (trace_in d) b.used d.used b.budget
  counts_until = within_on so.2 went.goes.counts went.more (within_call begun)

  pub none_until : TakesNoSlot (pass_in b) (pass_in d)
  none_until = none_on so.3 went.goes.hand.takes_no_slot

  pub had_until : HasStill (pass_in b) (pass_in d)
  had_until = had_on (pass_in b) (pass_in c) (pass_in d) so.5
      (had_grown (pass_in c) (pass_in d) went.goes.hand.takes_no_slot.grows went.goes.hand.hand)

  pub has_until : HasHandAndRoom (pass_in d) hand
  has_until = hand_kept hand went.goes.hand so.4

-- a search whose place was lost: the slot is in hand again
pub lost_then : {N : Type 0} {kind : Ghosts N} → (each : ℕ) → {b c d e : PendingCall N kind} {hand back : HandView} →
    PassLaw (pass_in b) → IsLinking (3 + each) b c hand → GoesOn c d → TakesOn d e → e.used ≤ d.used + each →
    Quiet (trace_in d) (trace_in e) → HasHandAndRoom (pass_in e) back → HasStill (pass_in d) (pass_in e) →
    (found : Found) → SearchFinds c d found → LosesFound (trace_in d) (trace_in e) found → IsLinking (3 + each) b e back
lost_then each {b} {c} {d} {e} law so went x few quiet has had found finds loses =
    let same = call_on (begun so went) x.call in
    let whole = quiet_on (quiet_until so went) quiet in (
      same,
      whole,
      within_on (counts_until so went) x.counts x.more (within_call same),
      none_on (none_until so went) x.takes_no_slot,
      has,
      had_on (pass_in b) (pass_in d) (pass_in e) (had_until so went) had,
      search_lost law so.0 so.1 went each e so.6 found finds quiet x.takes_no_slot.count few loses,
    )

-- ---- what was found

-- it tells where the key stands, after the search too
pub located : {N : Type 0} {kind : Ghosts N} {c d : PendingCall N kind} → GoesOn c d → (found : Found) →
    SearchFinds c d found → LocatesFor d found
located {d = d} went found finds =
    let P : ℕ → Type 0 = λ key. Locates (trace_in d).start (knows (trace_in d)) key found in
    subst P (sym went.call.key) finds.found.locates

-- what was lent of the node behind, if there is one, is the place's successor
pub succ_found : (know : Know) (key : ℕ) (pred : Held) (lent : Option (Bor Held)) (cur : Option Held) (present : Bool) →
    option_copied lent ≡ cur → IsEnd know key pred cur present → IsSucc know pred lent
succ_found know key pred None cur present same x =
    let P : Option Held → Type 0 = λ cur. IsEnd know key pred cur present in (subst P (sym same) x).0
succ_found know key pred (Some node) cur present same x =
    let P : Option Held → Type 0 = λ cur. IsEnd know key pred cur present in
    let y : IsCur know key pred node.now present = subst P (sym same) x in
    (y.held, (y.slot, y.named, y.place))
