-- An ordered map iterates in ascending order of its keys.
use Rattle.std.proofs.Common.{◌≡◌, rules, IfOk, subst, sym}
use Rattle.std.specs.List.Sorted.{IsStrictlyIncreasing}
use Rattle.std.proofs.lemmas.Result.{IfOk-weaker}
use Rattle.std.proofs.lemmas.Map.Keys.{IsStrictlyIncreasing-from_sorted}
use Rattle.vbr_machine.specs.Maps.{keys_listed}
use Rattle.vbr_machine.proofs.plain_map.PlainMap.entries.Goals as goal

pub returns-clause-ascending : goal.returns-clause-ascending
returns-clause-ascending c =
    let listed : IfOk c.collect.result (λ entries. entries.items ≡ c.self.inside.entries.entries) = search rules in
    IfOk-weaker c.collect.result _ _
    (λ entries e.
    subst (λ es. IsStrictlyIncreasing (keys_listed es)) (sym e)
    (IsStrictlyIncreasing-from_sorted (keys_listed c.self.inside.entries.entries) c.iter.ensures.ordered)) listed
