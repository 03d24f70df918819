use Rattle.std.proofs.Common.{ap, ◌∙◌}
use Rattle.vbr_machine.specs.Start.{Start}
use Rattle.vbr_at_table.proofs.Lemmas.{key_inserted, key_stored}
use Rattle.vbr_access.proofs.updating.update.Goals as goal

pub returns-clause-stores : goal.returns-clause-stores
returns-clause-stores c =
    key_stored c.args.pass.now c.update_entry.new.pass
    (ap (λ (d : Start). d.shape.values) c.requires.own.1 ∙ c.kind.ensures) c.update_entry.ensures.stores

pub returns-clause-inserted : goal.returns-clause-inserted
returns-clause-inserted c =
    key_inserted c.args.pass.now c.update_entry.new.pass c.args.key 0 c.update_entry.result
    (ap (λ (d : Start). d.shape.values) c.requires.own.1 ∙ c.kind.ensures) c.update_entry.ensures.inserted
