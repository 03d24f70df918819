use Rattle.std.proofs.Common.{◌≡◌, ℕ, ◌<◌}
use Rattle.vbr_machine.specs.Acceptance.{after_turns}
use Rattle.vbr_world.specs.MarkedWalks.{EndsAt}
use Rattle.vbr_world.proofs.world.reads.leads.Given as goal

-- the walk has come here in so many turns, and ended nowhere before
abbrev pub invariant-loop : goal.invariant-loop
invariant-loop l = record {
  here : l.here ≡ after_turns l.reads l.counter l.fn.next;
  none : (turns : ℕ) → turns < l.counter → ¬ (EndsAt l.reads l.above (after_turns l.reads turns l.fn.next));
}
