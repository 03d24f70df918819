use Rattle.std.proofs.Common.{◌≡◌, ℕ, ◌<◌, slice_index_or}
use Rattle.vbr_slots.specs.views.Views.{PassView}
use Rattle.vbr_set.proofs.member.closing.are_numbered.Given as goal

-- each pass so far stands at its number
abbrev pub invariant-loop-number : goal.invariant-loop-number
invariant-loop-number l = (k : ℕ) (d : PassView) → k < l.number → (slice_index_or l.passes k d).trace.who ≡ k
