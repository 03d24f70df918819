use Rattle.vbr_list.proofs.Names.{ap, rules, true, ◌∙◌, FindsNamedEntry, Get, Start, value_of_entry}
use Rattle.vbr_list.proofs.pieces.Told.{calls_as, calls_entry, given_kept, look_up_as}
use Rattle.vbr_list.proofs.entries.get_entry.Goals as goal

pub returns : goal.returns
returns c =
    let p = c.args.pass.now in
    let q = c.during.new.self in
    let answer = c.during.result in
    let found : FindsNamedEntry true p q c.args.key c.args.budget answer = search rules in
    let same = given_kept p.trace Get c.args.key
    (ap (λ (d : Start). d.shape.values) c.requires.own.1 ∙ c.kind.ensures) in
    record {
      calls = calls_entry answer c.law.ensures
          (calls_as answer found.calls (λ entry. same (value_of_entry entry))
          (λ bounds. look_up_as answer bounds (λ entry. same (value_of_entry entry))));
      there = found.there;
    }
