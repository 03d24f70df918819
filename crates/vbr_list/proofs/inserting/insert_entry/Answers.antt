use Rattle.vbr_list.proofs.Names.{ap, rules, ◌∙◌, BoundsOfInsert, CallsAs, changed_in, Start, stored_in}
use Rattle.vbr_list.proofs.pieces.Told.{calls_as, calls_entry, stored_kept}
use Rattle.vbr_list.proofs.inserting.insert_entry.Goals as goal

pub returns : goal.returns
returns c =
    let p = c.args.pass.now in
    let q = c.during-answer.new.self in
    let told : CallsAs (stored_in p.trace c.args.key c.args.value) (BoundsOfInsert p q c.args.key c.args.budget) p q
    c.args.budget (changed_in c.during-answer.result) = search rules in
    rw c.changed_in.ensures (calls_entry (changed_in c.during-answer.result) c.law.ensures
    (calls_as (changed_in c.during-answer.result) told
    (stored_kept p.trace c.args.key c.args.value (ap (λ (d : Start). d.shape.values) c.requires.own.1 ∙ c.kind.ensures))
    (λ bounds. bounds)))
