use Rattle.vbr_handles.proofs.Names.{arith}
use Rattle.vbr_handles.proofs.AskingAll.{told_by_all}
use Rattle.vbr_handles.proofs.closing_all.report_all.Goals as goal

pub returns-in-Ok-Memory-clause-reports : goal.returns-in-Ok-Memory-clause-reports
returns-in-Ok-Memory-clause-reports g c =
    let told = rw c.in-Ok-Memory.field-0-is at c.in-Ok-Memory.ensures.asks in
    told_by_all g.H.HandleOf.member _ _ told.1.came told.0 told.1.enough told.1.once told.1.tells told.1.full

pub returns-then-count-room-clause-reports : goal.returns-then-count-room-clause-reports
returns-then-count-room-clause-reports g c =
    let told = rw c.in-Ok-Report.field-0-is at c.in-Ok-Report.ensures.asks in
    let all = told_by_all g.H.HandleOf.member _ _ told.1.came told.0 told.1.enough told.1.once told.1.tells.0
    told.1.full in
    (all.0, (all.1, told.1.tells.1, omega arith))

pub returns-clause-reports : goal.returns-clause-reports
returns-clause-reports g c =
    let told = rw c.in-Ok-Report.field-0-is at c.in-Ok-Report.ensures.asks in
    let all = told_by_all g.H.HandleOf.member _ _ told.1.came told.0 told.1.enough told.1.once told.1.tells.0
    told.1.full in
    (all.0, all.1, told.1.tells.1, omega arith)
