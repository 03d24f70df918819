-- What is left after a held slot is let go.
use Rattle.std.specs.Prelude.{◌≡◌, ◌⊎◌, ◌≤◌, ℕ, [], ◌∷◌, ◌++◌, length, Option, Some, None}
use Rattle.vbr_machine.specs.declared.event.Step.TheVariants.{Raise}
use Rattle.vbr_slots.specs.declared.pass.TheConstants.{POOL}
use Rattle.vbr_slots.specs.views.Views.{Did, PassView}
use Rattle.vbr_at_table.specs.declared.aside.Aside.{Aside}

-- the slot is at the end of the own pool, and no step was made; or the own pool is full and stays, and the slot is in the shared one, by one step
abbrev pub ComesBack : ℕ → PassView → PassView → Type 0
ComesBack slot p q = ((q.trace ≡ p.trace) × (q.pool ≡ p.pool ++ slot ∷ []))
    ⊎ ((POOL ≤ length p.pool) × ((found : ℕ) × Did (Raise slot) p.trace q.trace found) × (q.pool ≡ p.pool))

-- the same for the slot that was put aside, and nothing is in hand; if none was, nothing was done
abbrev pub LetsGo : Option Aside → PassView → PassView → Type 0
LetsGo None p q = q ≡ p
LetsGo (Some aside) p q = ComesBack aside.slot p q × (q.hand ≡ None)
