-- When a pass needs the epoch to advance: it has a slot in which it can't give birth before.
use Rattle.std.specs.Prelude.{◌≡◌, ℕ, ◌≤◌, List, ◌∷◌, ◌++◌}
use Rattle.vbr_machine.specs.Start.{Start}
use Rattle.vbr_machine.specs.Acceptance.{MayBear, stamp_in}
use Rattle.vbr_machine.specs.Knowledge.{Know}
use Rattle.vbr_machine.specs.Runs.{know_after}
use Rattle.vbr_machine.specs.declared.event.Event.{Event}
use Rattle.vbr_machine.specs.declared.event.Step.TheVariants.{Advance}

-- by what a pass knows, a slot that it may give birth in is stamped with an epoch, or a later one: so it may give birth there only once the epoch has advanced
pub record NeedsAdvance (know : Know) (epoch : ℕ) : Type 0 where
  pub slot : ℕ
  pub may : MayBear (know.own slot)
  pub stamped : epoch ≤ stamp_in (know.own slot)

-- since a beginning of a run a pass has made a step that would advance the epoch only when it needed that
abbrev pub AdvancesInNeed : Start → List Event → List Event → ℕ → Type 0
AdvancesInNeed start first run pass =
    (before after : List Event) (from : ℕ) → run ≡ (first ++ before) ++ record { pass = pass; step = Advance from } ∷ after
    → NeedsAdvance (know_after start (first ++ before) pass) from
