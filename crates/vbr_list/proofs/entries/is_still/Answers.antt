use Rattle.vbr_list.proofs.Names.{rules, refl, ShowsBirth}
use Rattle.vbr_list.proofs.named_entries.EntryAnswers.{birth_tells}
use Rattle.vbr_list.proofs.entries.is_still.Goals as goal

pub returns-clause-tells : goal.returns-clause-tells
returns-clause-tells g c =
    let p = c.args.pass.now in
    let q = c.during-shown.new.self in
    let birth = c.during-shown.result in
    let shown : ShowsBirth p.trace q.trace c.args.entry.now.slot birth = search rules in
    birth_tells p q c.args.entry.now birth (search rules) shown _ refl
