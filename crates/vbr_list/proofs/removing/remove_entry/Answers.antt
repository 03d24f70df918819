use Rattle.vbr_list.proofs.Names.{ap, rules, ◌∙◌, is_some, BoundsOfRemove, CallsAs, given_in, Remove, Start, there_in}
use Rattle.vbr_list.proofs.pieces.Told.{calls_as, calls_entry, given_kept}
use Rattle.vbr_list.proofs.removing.remove_entry.Goals as goal

pub returns : goal.returns
returns c =
    let p = c.args.pass.now in
    let q = c.during-answer.new.self in
    let answer = there_in c.during-answer.result in
    let told : CallsAs (given_in p.trace Remove c.args.key) (BoundsOfRemove is_some p q c.args.key c.args.budget) p q
    c.args.budget answer = search rules in
    rw c.there_in.ensures (calls_entry answer c.law.ensures
    (calls_as answer told
    (given_kept p.trace Remove c.args.key (ap (λ (d : Start). d.shape.values) c.requires.own.1 ∙ c.kind.ensures))
    (λ bounds. bounds)))
