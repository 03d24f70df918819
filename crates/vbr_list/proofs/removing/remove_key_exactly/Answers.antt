use Rattle.vbr_list.proofs.Names.{ap, rules, sym, ◌∙◌, Bool, Result, subst, Refusal, RemovesKeyExactly}
use Rattle.vbr_list.proofs.Names.{RemovesNodeExactly, Start}
use Rattle.vbr_list.proofs.named_entries.RemovedEntries.{exactly_bare}
use Rattle.vbr_list.proofs.removing.remove_key_exactly.Goals as goal

pub returns : goal.returns
returns c =
    let p = c.args.pass.now in
    let q = c.during-answer.new.self in
    let answer = c.during-answer.result in
    let told : RemovesNodeExactly p q c.args.key c.args.entry.now c.args.budget answer = search rules in
    let P : Result Bool Refusal → Type 0 = RemovesKeyExactly p q c.args.key c.args.entry.now c.args.budget in
    subst P (sym c.is_yes.ensures)
    (exactly_bare answer (ap (λ (d : Start). d.shape.values) c.requires.own.1 ∙ c.kind.ensures) told)
