use Rattle.vbr_list.proofs.Names.{◌≡◌, ap, rules, false, sym, ◌∙◌, Bool, Option, ℕ, Result, subst, is_some, Calls}
use Rattle.vbr_list.proofs.Names.{FindsNamedEntry, given_in, Has, is_yes, Refusal, set_call, value_given}
use Rattle.vbr_list.proofs.named_entries.EntryAnswers.{value_calls}
use Rattle.vbr_list.proofs.pieces.Told.{calls_yes, look_up_yes, told_bare}
use Rattle.vbr_list.proofs.looking_up.has.Goals as goal

pub returns : goal.returns
returns g c =
    let p = c.args.pass.now in
    let q = c.during-answer.new.self in
    let found : FindsNamedEntry false p q c.args.key c.args.budget c.during-answer.result = search rules in
    let answer = value_given c.during-answer.result in
    let P : Result Bool Refusal → Type 0 = Calls Has p q c.args.key c.args.budget in
    let same : (given : Option ℕ) →
    given_in p.trace Has c.args.key given ≡ set_call p.trace.who Has c.args.key (is_some given) =
    λ given. sym (told_bare p.trace.start p.trace.who Has c.args.key (is_some given)) in
    subst P (sym (c.is_yes.ensures ∙ ap is_yes c.value_given.ensures))
    (calls_yes answer (value_calls c.during-answer.result found) same (λ bounds. look_up_yes answer bounds same))
