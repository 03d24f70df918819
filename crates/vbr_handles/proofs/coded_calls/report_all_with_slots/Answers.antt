use Rattle.vbr_handles.proofs.Names.{rules}
use Rattle.vbr_handles.proofs.AskingAll.{slots_fit}
use Rattle.vbr_handles.proofs.coded_calls.report_all_with_slots.Goals as goal

pub write_with_slots-requires-clause-slots : goal.write_with_slots-requires-clause-slots
write_with_slots-requires-clause-slots g c =
    slots_fit g.N.Kind.kind g.I.Listed.listing g.H.HandleOf.member _ _ _ _ c.report_all_with_slots-answer.result
    g.I.Listed.key g.met.I.Listed.same_keys g.met.I.Listed.keys c.requires.room
    c.report_all_with_slots-answer.ensures.reports

pub returns-clause-reports : goal.returns-clause-reports
returns-clause-reports g c = record {
  told = record {
    answer = c.report_all_with_slots-answer.result;
    is = search rules;
    reports = c.report_all_with_slots-answer.ensures.reports;
    writes = c.write_with_slots.ensures.report;
  };
  slots = c.write_with_slots.ensures.slots;
}
