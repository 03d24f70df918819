use Rattle.std.proofs.Common.{◌≡◌, drop}
use Rattle.vbr_set.specs.members.BalanceSums.{added_balances}
use Rattle.vbr_set.proofs.member.renewing_all.added_balances.Given as goal

-- the balances of the members from here on are added up
abbrev pub invariant-loop-i : goal.invariant-loop-i
invariant-loop-i g l = l.sum ≡ added_balances (drop l.i l.members)
