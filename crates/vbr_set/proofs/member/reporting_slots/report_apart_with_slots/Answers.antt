use Rattle.std.proofs.Common.{rules}
use Rattle.vbr_set.specs.reports.EntrySlots.{ClosesWithSlots}
use Rattle.vbr_set.proofs.members.Apart.{all_told, may_report}
use Rattle.vbr_set.proofs.member.reporting_slots.report_apart_with_slots.Goals as goal

pub report_with_slots-requires-clause-of_set : goal.report_with_slots-requires-clause-of_set
report_with_slots-requires-clause-of_set g c =
    (may_report c.in-Some.first.now c.args.stakes.now c.args.passes.now.items c.set.ensures c.requires.parts
    c.requires.one_set c.requires.enough (search rules)).0

pub report_with_slots-requires-clause-all : goal.report_with_slots-requires-clause-all
report_with_slots-requires-clause-all g c =
    (may_report c.in-Some.first.now c.args.stakes.now c.args.passes.now.items c.set.ensures c.requires.parts
    c.requires.one_set c.requires.enough (search rules)).1

pub returns-clause-report : goal.returns-clause-report
returns-clause-report g c =
    all_told c.in-Some.first.now c.args.stakes.now c.args.passes.now.items c.set.ensures c.requires.parts
    c.requires.one_set c.requires.enough (search rules) (ClosesWithSlots g.N.Kind.kind) c.report_with_slots.result
    c.report_with_slots.ensures.report
