-- Calls that name an entry, as calls of a set or a map.
use Rattle.std.proofs.Common.{◌≡◌, ℕ, [], ◌++◌, Bool, true, false, Option, Some, None, Result, Ok, refl, sym, ap}
use Rattle.std.proofs.Common.{◌∙◌, append-nil}
use Rattle.vbr_machine.specs.Start.{Start, IsStart}
use Rattle.vbr_machine.specs.Runs.{IsRun}
use Rattle.vbr_machine.proofs.Lemmas.{calls_since}
use Rattle.vbr_slots.specs.steps.Calls.{Quiet, made_by}
use Rattle.vbr_slots.specs.steps.PassLaw.{PassLaw}
use Rattle.vbr_slots.specs.views.Views.{PassView, TableView, Trace}
use Rattle.vbr_at_table.specs.declared.refusal.Refusal.{Refusal}
use Rattle.vbr_list.specs.named_entries.RemovingExactly.{RemovesExactly, RemovesKeyExactly, TellsKeyTaken, TellsTaken}
use Rattle.vbr_list.specs.declared.entries.Entry.{Entry}
use Rattle.vbr_set.specs.histories.Answers.{AnswersAll, Follows}
use Rattle.vbr_set.specs.members.Balances.{one_where}
use Rattle.vbr_set.specs.histories.Histories.{calls_of}
use Rattle.vbr_set.specs.calls.MapCalls.{MapAnswersAll}
use Rattle.vbr_set.specs.calls.Members.{as_member}
use Rattle.vbr_set.specs.calls.RemovingExactly.{TakesExactly, TakesKeyExactly, key_taken_calls, taken_calls}
use Rattle.vbr_list.specs.updates.Wanted.{wants}
use Rattle.vbr_list.specs.declared.wanted.Wanted.TheVariants.{Present}
use Rattle.std.specs.Prelude.{pos, ◌+ℤ◌}
use Rattle.vbr_set.proofs.members.Balances.{changed}
use Rattle.vbr_set.proofs.histories.Histories.{answers, answers_all, called_by, each_answer}
use Rattle.vbr_set.proofs.histories.MapHistories.{RunsAreMaps, map_answers}

-- no call stands behind those that a pass had seen
follows_none : {p q : Trace} → Quiet p q → Follows (calls_of p.start p.seen) [] (calls_of q.start q.seen)
follows_none {p} {q} quiet =
    let seen = calls_of p.start p.seen in
    let more = calls_since p.start p.seen q.seen quiet.seen in
    record {
      between = more.0;
      more = [];
      stands = ap (λ (d : Start). calls_of d q.seen) quiet.same.start ∙ more.1 ∙ sym (append-nil (seen ++ more.0));
    }

-- what a pass has seen that made no call is one legal history
pub quiet_answers : {p q : Trace} → IsStart p.start → IsRun p.start p.passes p.seen → Quiet p q → AnswersAll [] p q
quiet_answers {p} {q} is run quiet =
    answers_all is quiet.same quiet.seen (quiet.is_run run) (quiet.calls ∙ sym (append-nil (made_by p)))
    (follows_none quiet)

-- a remove of one entry by a pass of a map is one by that member
pub called_taken : RunsAreMaps → (set : TableView) (p q : PassView) (key : ℕ) (entry : Entry) (budget : ℕ)
    (answer : Result (Option ℕ) Refusal) → PassLaw p → PassLaw q → RemovesExactly p q key entry budget answer →
    TakesExactly (as_member set p) (as_member set q) key entry budget answer
called_taken maps set p q key entry budget answer before after x = record {
  removes = called_by MapAnswersAll set p q budget answer before after (λ calls a. a.answers) x.same x.quiet x.hand
      x.steps x.bounds (each_answer answer leaves x.told);
  told = x.told;
}
  where
    leaves : (taken : Option ℕ) → TellsTaken p.trace q.trace key entry taken →
        MapAnswersAll (taken_calls p.trace.who key taken) p.trace q.trace
    leaves None t = map_answers maps [] p q before (quiet_answers before.start before.is_run t.quiet)
    leaves (Some value) t =
        map_answers maps (taken_calls p.trace.who key (Some value)) p q before (answers before.start t.takes.made)

-- and so it is of a set
pub called_key_taken : (set : TableView) (p q : PassView) (key : ℕ) (entry : Entry) (budget : ℕ)
    (answer : Result Bool Refusal) → PassLaw p → PassLaw q → RemovesKeyExactly p q key entry budget answer →
    TakesKeyExactly (as_member set p) (as_member set q) key entry budget answer
called_key_taken set p q key entry budget answer before after x = record {
  removes = called_by AnswersAll set p q budget answer before after (λ calls a. a) x.same x.quiet x.hand x.steps
      x.bounds (each_answer answer leaves x.told);
  told = x.told;
}
  where
    leaves : (taken : Bool) → TellsKeyTaken p.trace q.trace key entry taken →
        AnswersAll (key_taken_calls p.trace.who key taken) p.trace q.trace
    leaves false t = quiet_answers before.start before.is_run t.quiet
    leaves true t = answers before.start t.made

-- one is taken out where a value is given, and where a set answers yes
pub taken_takes : (who key : ℕ) (answer : Result (Option ℕ) Refusal) →
    changed (taken_calls who key) answer +ℤ one_where (wants Present) answer ≡ pos 0
taken_takes who key (Ok (Some value)) = refl
taken_takes who key _ = refl

pub key_taken_takes : (who key : ℕ) (answer : Result Bool Refusal) →
    changed (key_taken_calls who key) answer +ℤ one_where (λ reply. reply) answer ≡ pos 0
key_taken_takes who key (Ok true) = refl
key_taken_takes who key _ = refl
