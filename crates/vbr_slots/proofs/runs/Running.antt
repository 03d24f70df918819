-- A table that meets the rule is the state of a safe run.
use Rattle.std.proofs.Common.{List, [], ◌∷◌, sym, arith}
use Rattle.atomic_table.specs.Table.{State as Standing}
use Rattle.vbr_machine.specs.Start.{Start, IsStart}
use Rattle.vbr_machine.specs.declared.event.Event.{Event}
use Rattle.vbr_machine.proofs.Lemmas.{begins_for_know, every_run}
use Rattle.vbr_slots.specs.declared.rule.Witness.{Witness}
use Rattle.vbr_slots.specs.runs.TableStart.{TableStart}
use Rattle.vbr_slots.specs.runs.Rule.{EachBegins, Kept, opened_of}
use Rattle.vbr_slots.specs.runs.Running.{EachKnows, IsRunning}
use Rattle.vbr_slots.proofs.seats.Members.{times-members}

each_knows : (start : Start) (run : List Event) (ms : List Witness) → EachBegins run ms → EachKnows start run ms
each_knows start run [] b = tt
each_knows start run (m ∷ ms) b = (sym (begins_for_know start m.who m.seen run b.0), each_knows start run ms b.1)

pub runs : (opening : TableStart) (s : Standing (Unit {0}) (List Witness)) → IsStart opening.start → Kept opening s →
    IsRunning opening s
runs opening s is h = record {
  run = h.run;
  is_run = h.is_run;
  safe = every_run opening.start opening.passes h.run is h.is_run;
  words = h.words;
  begins = h.begins;
  knows = λ j v at_index. each_knows opening.start h.run v (h.begins j v at_index);
  seen = h.seen;
  once = λ who other.
      let all = h.counted who other in
      let most = times-members (opened_of opening.start) who 0 opening.passes in
      omega arith;
}
