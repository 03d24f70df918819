use Rattle.std.proofs.Common.{rules}
use Rattle.vbr_set.specs.reports.Closing.{ClosesBy}
use Rattle.vbr_set.proofs.members.Apart.{all_told, may_report}
use Rattle.vbr_set.proofs.member.closing_all.report_apart.Goals as goal

pub report-requires-clause-of_set : goal.report-requires-clause-of_set
report-requires-clause-of_set g c =
    (may_report c.in-Some.first.now c.args.stakes.now c.args.passes.now.items c.set.ensures c.requires.parts
    c.requires.one_set c.requires.enough (search rules)).0

pub report-requires-clause-all : goal.report-requires-clause-all
report-requires-clause-all g c =
    (may_report c.in-Some.first.now c.args.stakes.now c.args.passes.now.items c.set.ensures c.requires.parts
    c.requires.one_set c.requires.enough (search rules)).1

pub returns-clause-report : goal.returns-clause-report
returns-clause-report g c =
    all_told c.in-Some.first.now c.args.stakes.now c.args.passes.now.items c.set.ensures c.requires.parts
    c.requires.one_set c.requires.enough (search rules) (ClosesBy g.N.Kind.kind) c.report.result c.report.ensures.report
