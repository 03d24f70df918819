-- How a set or a map is renewed by all its members.
use Rattle.std.specs.Prelude.{◌≡◌, ◌≢◌, ◌<◌, ◌≤◌, ◌⊎◌, ℕ, pos, ◌<ℤ◌, ◌≤ℤ◌, List, [], ◌∷◌, length}
use Rattle.vbr_words.specs.Dimensions.{Dimensions}
use Rattle.vbr_set.specs.members.AllMembers.{ReportsAllBy}
use Rattle.vbr_set.specs.members.BalanceSums.{added_balances}
use Rattle.vbr_set.specs.reports.Closing.{ClosesBy}
use Rattle.vbr_set.specs.reports.Kinds.{KindOf}
use Rattle.vbr_set.specs.calls.Members.{AreNew, MemberView}
use Rattle.vbr_set.specs.declared.renew_all_error.RenewAllError.{RenewAllError}
use Rattle.vbr_set.specs.declared.renew_all_error.RenewAllError.TheVariants.{Missing, Room, Memory}

-- they are not as many as were opened with their set
abbrev pub AreNotAll : List MemberView → Type 0
AreNotAll [] = Unit {0}
AreNotAll (m ∷ ms) = length (m ∷ ms) ≢ m.set.passes

module _ {Item R : Type 0} (kind : KindOf Item R) where
  -- a fresh set of this shape opens with what a report of all members lists, and these are its members, as many as there were
  pub record RenewsAllBy (members : List MemberView) (shape : Dimensions) (fresh : List MemberView) : Type 0 where
    pub report : R
    pub reports : ReportsAllBy (ClosesBy kind) members report
    pub new : AreNew (kind.start shape (kind.contents report).listed.items) (length members) fresh

  -- a report of all members lists more than there would be slots
  pub record TellsMore (members : List MemberView) (slots : ℕ) : Type 0 where
    pub report : R
    pub reports : ReportsAllBy (ClosesBy kind) members report
    pub more : slots < length (kind.contents report).listed.items

  -- a report of all members lists no more than there would be slots
  pub record TellsFew (members : List MemberView) (slots : ℕ) : Type 0 where
    pub report : R
    pub reports : ReportsAllBy (ClosesBy kind) members report
    pub few : length (kind.contents report).listed.items ≤ slots

  -- there is no room in so many slots: a report of all members lists more, or their balances add up to more
  abbrev pub HasNoRoom : List MemberView → ℕ → Type 0
  HasNoRoom members slots = TellsMore members slots ⊎ (pos slots <ℤ added_balances members)

  -- there is room: a report lists no more, or the balances add up to no more
  abbrev pub HasRoom : List MemberView → ℕ → Type 0
  HasRoom members slots = TellsFew members slots ⊎ (added_balances members ≤ℤ pos slots)

  -- why members are not renewed, which come back as they were, by the first test that failed: they are not all of the set, or the fresh one has too few slots, or there is no memory
  abbrev pub IsWhyUnrenewed : List MemberView → Dimensions → RenewAllError MemberView → Type 0
  IsWhyUnrenewed members shape (Missing back) = (back.items ≡ members) × AreNotAll members
  IsWhyUnrenewed members shape (Room back) = (back.items ≡ members) × ¬ (AreNotAll members) × HasNoRoom members shape.slots
  IsWhyUnrenewed members shape (Memory back) = (back.items ≡ members) × ¬ (AreNotAll members) × HasRoom members shape.slots
