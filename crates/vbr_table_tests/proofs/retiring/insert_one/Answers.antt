-- The head stays held, and 7 stands behind it.
use Rattle.std.proofs.Common.{◌≡◌, ap, rules}
use Rattle.vbr_words.specs.declared.link.Link.{Link}
use Rattle.vbr_slots.specs.views.Views.{knows}
use Rattle.vbr_at_table.specs.reads.Held.{said}
use Rattle.vbr_table_tests.proofs.retiring.HeldThrough.{held_through, behind_head}
use Rattle.vbr_table_tests.proofs.retiring.insert_one.Goals as goal

pub update_entry-requires-clause-gap : goal.update_entry-requires-clause-gap
update_entry-requires-clause-gap g c =
    let one : c.next.new.pass.trace.start.shape.buckets ≡ 1 = search rules in
    record {
      held = held_through (said c.args.slots.now c.head_of-head.result) c.next.result _ c.expect.ensures
          c.next.ensures.next
          (λ node read. read.keeps) c.head_of-head.ensures.held;
      unmarked = ap (λ (l : Link). l.mark) c.head_of-head.ensures.link;
      behind = behind_head c.next.new.pass.trace.start (knows c.next.new.pass.trace) c.head_of-head.result.at 7
          c.head_of-head.ensures.place one;
      before = search rules;
    }
