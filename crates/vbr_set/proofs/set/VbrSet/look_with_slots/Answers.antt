use Rattle.vbr_set.proofs.reports.Closings.{some_run, tells_slots}
use Rattle.vbr_set.proofs.set.VbrSet.look_with_slots.Goals as goal

pub contents_with_slots-requires-clause-run : goal.contents_with_slots-requires-clause-run
contents_with_slots-requires-clause-run g c =
    some_run c.self.view_is c.shape-shape.ensures.is_start c.shape-shape.ensures.shape c.in_ok-words.ensures.words
    c.deref.ensures.value

pub returns-clause-told : goal.returns-clause-told
returns-clause-told g c =
    tells_slots c.self.view_is c.shape-shape.ensures.is_start c.shape-shape.ensures.shape c.in_ok-words.ensures.words
    c.deref.ensures.value c.contents_with_slots.ensures
