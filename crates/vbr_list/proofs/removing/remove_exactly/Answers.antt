use Rattle.vbr_list.proofs.Names.{ap, rules, ◌∙◌, RemovesNodeExactly, Start}
use Rattle.vbr_list.proofs.named_entries.RemovedEntries.{exactly_kept}
use Rattle.vbr_list.proofs.removing.remove_exactly.Goals as goal

pub returns : goal.returns
returns c =
    let p = c.args.pass.now in
    let q = c.during.new.self in
    let told : RemovesNodeExactly p q c.args.key c.args.entry.now c.args.budget c.during.result = search rules in
    exactly_kept c.during.result c.law.ensures
    (ap (λ (d : Start). d.shape.values) c.requires.own.1 ∙ c.kind.ensures) told
