use Rattle.vbr_list.proofs.Names.{◌≡◌, rules, false, refl, sym, ◌∙◌, ap, Option, is_some, Entry, entry_in}
use Rattle.vbr_list.proofs.Names.{FindsNamedEntry, Has, set_call, value_of_entry}
use Rattle.vbr_list.proofs.named_entries.EntryAnswers.{some_entry}
use Rattle.vbr_list.proofs.pieces.Told.{calls_as, look_up_as, told_bare}
use Rattle.vbr_list.proofs.entries.has_entry.Goals as goal

pub returns : goal.returns
returns c =
    let p = c.args.pass.now in
    let q = c.during.new.self in
    let key = c.args.key in
    let answer = c.during.result in
    let found : FindsNamedEntry false p q key c.args.budget answer = search rules in
    let same : (entry : Option Entry) →
    entry_in p.trace false key entry ≡ set_call p.trace.who Has key (is_some entry) =
    λ entry. sym (told_bare p.trace.start p.trace.who Has key (is_some (value_of_entry entry)))
    ∙ ap (set_call p.trace.who Has key) (some_entry entry) in
    record {
      calls = calls_as answer found.calls same (λ bounds. look_up_as answer bounds same);
      there = found.there;
      zero = found.zero refl;
    }
