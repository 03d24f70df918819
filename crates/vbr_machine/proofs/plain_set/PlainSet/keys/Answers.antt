-- An ordered set iterates in ascending order.
use Rattle.std.proofs.Common.{◌≡◌, rules, IfOk, subst, sym}
use Rattle.std.specs.List.Sorted.{IsStrictlyIncreasing}
use Rattle.std.proofs.lemmas.Result.{IfOk-weaker}
use Rattle.std.proofs.lemmas.Map.Keys.{IsStrictlyIncreasing-from_sorted}
use Rattle.vbr_machine.proofs.plain_set.PlainSet.keys.Goals as goal

pub returns-clause-ascending : goal.returns-clause-ascending
returns-clause-ascending c =
    let listed : IfOk c.collect.result (λ keys. keys.items ≡ c.self.inside.keys.keys) = search rules in
    IfOk-weaker c.collect.result _ _
    (λ keys e. subst IsStrictlyIncreasing (sym e)
    (IsStrictlyIncreasing-from_sorted c.self.inside.keys.keys c.iter.ensures.ordered)) listed
