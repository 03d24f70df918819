use Rattle.vbr_list.proofs.Names.{ap, rules, ◌∙◌, Some, BoundsOfRemove, CallsAs, op_to_remove, removal_in, Start}
use Rattle.vbr_list.proofs.Names.{takes_out, there_in}
use Rattle.vbr_list.proofs.pieces.Told.{calls_as, calls_entry, given_kept}
use Rattle.vbr_list.proofs.removing.remove_if.Goals as goal

pub returns-clause-calls : goal.returns-clause-calls
returns-clause-calls c =
    let p = c.args.pass.now in
    let q = c.during.new.self in
    let expected = Some c.args.expected in
    let has = ap (λ (d : Start). d.shape.values) c.requires.own.1 ∙ c.kind.ensures in
    let told : CallsAs (removal_in p.trace c.args.key expected)
    (BoundsOfRemove (takes_out expected) p q c.args.key c.args.budget) p q c.args.budget (there_in c.during.result) =
    search rules in
    calls_entry (there_in c.during.result) c.law.ensures
    (calls_as (there_in c.during.result) told
    (λ there. given_kept p.trace (op_to_remove expected there) c.args.key has there)
    (λ bounds. bounds))
