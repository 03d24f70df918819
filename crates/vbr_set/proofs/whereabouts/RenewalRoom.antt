-- All reports of members, each once, list as many, and their balances add up to that.
use Rattle.std.proofs.Common.{◌≡◌, ℕ, ◌<◌, ◌≤◌, List, [], ◌∷◌, length, sym, ap, ◌∙◌, subst, arith, inl, inr}
use Rattle.std.specs.Prelude.{pos}
use Rattle.std.proofs.lemmas.Int.{ints}
use Rattle.vbr_slots.specs.steps.PassLaw.{PassLaw}
use Rattle.vbr_slots.specs.views.Views.{IsOf, PassView, TableView}
use Rattle.vbr_set.specs.members.AllMembers.{AreOfSet, ReportsAllBy}
use Rattle.vbr_set.specs.members.BalanceSums.{HasEachOnce, added_balances}
use Rattle.vbr_set.specs.reports.Closing.{ClosesBy}
use Rattle.vbr_set.specs.reports.Kinds.{KindOf, as_map, as_set}
use Rattle.vbr_set.specs.calls.Members.{MemberView}
use Rattle.vbr_set.specs.renewals.RenewalRoom.{RoomIsTold, RoomToldBy}
use Rattle.vbr_set.specs.renewals.RenewingAll.{HasNoRoom, HasRoom}
use Rattle.vbr_set.proofs.sums.BalanceSums.{add_up_by}

-- members among which a pass stands are of one set
one_set : (members : List MemberView) (set other : TableView) (who : ℕ) → who < set.passes → HasEachOnce set members →
    AreOfSet set members → AreOfSet other members → other ≡ set
one_set [] set other who low once of_set of_other = absurd (let one = once who low in omega (arith, one))
one_set (m ∷ ms) set other who low once of_set of_other = sym of_other.0 ∙ of_set.0

module _ {Item R : Type 0} (kind : KindOf Item R) (members : List MemberView) (report : R)
    (told : ReportsAllBy (ClosesBy kind) members report) (pass : PassView) (law : PassLaw pass)
    (own : IsOf pass.trace told.set) (once : HasEachOnce told.set members) where
  -- as many as the balances tell
  listed : added_balances members ≡ pos (length (kind.contents report).listed.items)
  listed = add_up_by kind members report told pass law own once ∙ ap pos (sym told.closes.reports.one_each)

  -- another report lists as many
  listed_too : (other : R) → ReportsAllBy (ClosesBy kind) members other →
      added_balances members ≡ pos (length (kind.contents other).listed.items)
  listed_too other told_too =
      let low : pass.trace.who < told.set.passes = subst (λ (n : ℕ). pass.trace.who < n) own.2 law.low in
      let same : told.set ≡ told_too.set =
      sym (one_set members told.set told_too.set pass.trace.who low once told.of_set told_too.of_set) in
      add_up_by kind members other told_too pass law (subst (IsOf pass.trace) same own)
      (subst (λ (set : TableView). HasEachOnce set members) same once)
      ∙ ap pos (sym told_too.closes.reports.one_each)

  no_room : (slots : ℕ) → HasNoRoom kind members slots → slots < length (kind.contents report).listed.items
  no_room slots (inl tells) =
      let this = listed in
      let that = listed_too tells.report tells.reports in
      let more = tells.more in
      omega (arith, ints, this, that, more)
  no_room slots (inr above) = let this = listed in omega (arith, ints, this, above)

  room : (slots : ℕ) → HasRoom kind members slots → length (kind.contents report).listed.items ≤ slots
  room slots (inl tells) =
      let this = listed in
      let that = listed_too tells.report tells.reports in
      let few = tells.few in
      omega (arith, ints, this, that, few)
  room slots (inr within) = let this = listed in omega (arith, ints, this, within)

room_told_by : {Item R : Type 0} (kind : KindOf Item R) → RoomToldBy kind
room_told_by kind members report told pass law own once slots = (
  no_room kind members report told pass law own once slots,
  room kind members report told pass law own once slots,
)

pub room_told : RoomIsTold
room_told = record { of_sets = room_told_by as_set; of_maps = room_told_by as_map }
