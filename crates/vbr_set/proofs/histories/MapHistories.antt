-- What a pass of a map has seen is a safe run, so its calls are a map's legal history.
use Rattle.std.proofs.Common.{ℕ, List, [], ◌∷◌, Option, Result}
use Rattle.vbr_machine.specs.Start.{Start, IsStart}
use Rattle.vbr_machine.specs.Maps.{IsMapLegal, opening_entries}
use Rattle.vbr_machine.specs.Runs.{IsRun, world_after}
use Rattle.vbr_machine.specs.declared.event.Event.{Event}
use Rattle.vbr_machine.specs.declared.history.Call.{Call}
use Rattle.vbr_slots.specs.steps.PassLaw.{PassLaw}
use Rattle.vbr_slots.specs.views.Views.{PassView, TableView, Trace}
use Rattle.vbr_at_table.specs.declared.refusal.Refusal.{Refusal}
use Rattle.vbr_list.specs.calls.CallBounds.{CallsEntry}
use Rattle.vbr_list.specs.updates.Storing.{CallsStore, Makes, stored_calls}
use Rattle.vbr_list.specs.declared.wanted.Wanted.{Wanted}
use Rattle.vbr_list.proofs.Lemmas.{alone_all}
use Rattle.vbr_set.specs.histories.Answers.{AnswersAll}
use Rattle.vbr_set.specs.calls.MapCalls.{MapAnswersAll, StoresEntry}
use Rattle.vbr_set.specs.calls.Members.{CalledBy, as_member, one}
use Rattle.vbr_set.proofs.histories.Histories.{answers, answers_two, called_by, each_answer, start_of}

-- the calls of each run are a legal history of a map
abbrev pub RunsAreMaps : Type 0
RunsAreMaps = (start : Start) (passes : ℕ) (run : List Event) → IsStart start → IsRun start passes run →
    IsMapLegal (opening_entries start) (world_after start run).calls

-- what answers leave at a map
pub map_answers : RunsAreMaps → (calls : List Call) (p q : PassView) → PassLaw p → AnswersAll calls p.trace q.trace →
    MapAnswersAll calls p.trace q.trace
map_answers maps calls p q law a = record {
  answers = a;
  legal = maps q.trace.start q.trace.passes q.trace.seen (start_of p.trace.start q.trace.start a.same.start law.start)
      a.is_run;
  gives = λ lone. (alone_all calls law.start law.low a.same a.is_run a.once lone).1;
}

-- a call by a pass of a map is one by that member
pub called_entry : RunsAreMaps →
    {A : Type 0} {told : A → Call} {BoundsSo : Result A Refusal → Type 0} (set : TableView) (p q : PassView)
    (budget : ℕ) (answer : Result A Refusal) → PassLaw p → PassLaw q → CallsEntry told BoundsSo p q budget answer →
    CalledBy MapAnswersAll (one told) BoundsSo (as_member set p) (as_member set q) budget answer
called_entry maps {told = told} set p q budget answer before after e =
    let c = e.calls in
    called_by MapAnswersAll set p q budget answer before after (λ calls a. a.answers) c.same c.quiet c.hand c.steps
    c.bounds (each_answer answer
    (λ reply made. map_answers maps (one told reply) p q before (answers before.start made)) c.made)

-- one call, or two next to each other
pub all_answers : (calls : List Call) {p q : Trace} → IsStart p.start → Makes calls p q → AnswersAll calls p q
all_answers (first ∷ []) is made = answers is made
all_answers (first ∷ second ∷ []) is made = answers_two is made
all_answers _ is made = absurd made

-- so it is of a store
pub called_store : RunsAreMaps →
    (set : TableView) (p q : PassView) (key value : ℕ) (wanted : Wanted) (budget : ℕ)
    (answer : Result (Option ℕ) Refusal) → PassLaw p → PassLaw q → CallsStore p q key value wanted budget answer →
    StoresEntry (as_member set p) (as_member set q) key value wanted budget answer
called_store maps set p q key value wanted budget answer before after e =
    called_by MapAnswersAll set p q budget answer before after (λ calls a. a.answers) e.same e.quiet e.hand e.steps
    (e.kept, e.bounds)
    (each_answer answer
    (λ there made.
    (let calls = stored_calls p.trace.who key value wanted there in
    map_answers maps calls p q before (all_answers calls before.start made))) e.made)
