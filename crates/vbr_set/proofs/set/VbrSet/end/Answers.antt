use Rattle.vbr_set.proofs.reports.Closings.{some_run, tells_end}
use Rattle.vbr_set.proofs.set.VbrSet.end.Goals as goal

pub contents_of-requires-clause-run : goal.contents_of-requires-clause-run
contents_of-requires-clause-run g c =
    some_run c.self.view_is c.shape-shape.ensures.is_start c.shape-shape.ensures.shape c.in-Ok-close.ensures.ok
    c.deref.ensures.value

pub returns-in-Ok-close-clause-ok : goal.returns-in-Ok-close-clause-ok
returns-in-Ok-close-clause-ok g c =
    tells_end c.self.view_is c.shape-shape.ensures.is_start c.shape-shape.ensures.shape c.in-Ok-close.ensures.ok
    c.deref.ensures.value c.contents_of.ensures
