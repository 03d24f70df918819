use Rattle.vbr_list.proofs.Names.{ap, rules, sym, true, ◌∙◌, Option, ℕ, Result, subst, CallsGet, FindsNamedEntry, Get}
use Rattle.vbr_list.proofs.Names.{Refusal, Start, value_given}
use Rattle.vbr_list.proofs.named_entries.EntryAnswers.{value_calls}
use Rattle.vbr_list.proofs.pieces.Told.{calls_as, calls_entry, given_kept, look_up_as}
use Rattle.vbr_list.proofs.looking_up.get.Goals as goal

pub returns : goal.returns
returns c =
    let p = c.args.pass.now in
    let q = c.during-answer.new.self in
    let found : FindsNamedEntry true p q c.args.key c.args.budget c.during-answer.result = search rules in
    let answer = value_given c.during-answer.result in
    let same = given_kept p.trace Get c.args.key
    (ap (λ (d : Start). d.shape.values) c.requires.own.1 ∙ c.kind.ensures) in
    let P : Result (Option ℕ) Refusal → Type 0 = CallsGet p q c.args.key c.args.budget in
    subst P (sym c.value_given.ensures)
    (calls_entry answer c.law.ensures
    (calls_as answer (value_calls c.during-answer.result found) same (λ bounds. look_up_as answer bounds same)))
