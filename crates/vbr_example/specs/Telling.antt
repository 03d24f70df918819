-- What a worker tells another of a page, and what the other then finds.
use Rattle.std.specs.Prelude.{◌≡◌, ℕ, Bool, true, List}
use Rattle.vbr_set.specs.Names.{Start}
use Rattle.vbr_machine.specs.History.{set_after}
use Rattle.vbr_machine.specs.Opened.{opening_keys}
use Rattle.vbr_machine.specs.declared.event.Event.{Event}
use Rattle.vbr_slots.specs.views.Views.{TableView, Trace}
use Rattle.vbr_set.specs.histories.Histories.{calls_of}
use Rattle.vbr_example.specs.Claims.{RemoveNone}
use Rattle.vbr_example.specs.declared.telling.Message.{Message}

-- after these events the page is in the set, if nobody removes
abbrev pub IsClaimed : Start → List Event → ℕ → Type 0
IsClaimed start seen page = RemoveNone (calls_of start seen) → set_after (opening_keys start) (calls_of start seen) page ≡ true

-- the message's token is of the set, and after all that it tells the message's page is claimed
pub record IsTold (set : TableView) (message : Message) : Type 0 where
  pub table : message.token.table ≡ set.table
  pub claimed : IsClaimed set.start message.token.seen message.page

-- the page was found, if nobody removes in all that the pass has then seen
abbrev pub IsFoundUnlessRemoved : Trace → Bool → Type 0
IsFoundUnlessRemoved p found = RemoveNone (calls_of p.start p.seen) → found ≡ true
