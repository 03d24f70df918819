-- The head and the node stay held, and the node's key is known.
use Rattle.std.proofs.Common.{ap, rules, ◌∙◌}
use Rattle.vbr_words.specs.declared.link.Link.{Link}
use Rattle.vbr_at_table.specs.reads.Held.{said}
use Rattle.vbr_table_tests.proofs.retiring.HeldThrough.{held_through}
use Rattle.vbr_table_tests.proofs.retiring.read_one.Goals as goal

pub returns-clause-head : goal.returns-clause-head
returns-clause-head g c =
    record {
      held = held_through (said c.args.slots.now c.head_of-head.result) c.key_of.result _ c.expect-key.ensures
          c.key_of.ensures.key
          (λ key read. read.keeps) c.last_node-node.ensures.head;
      unmarked = ap (λ (l : Link). l.mark) (c.head_of-head.ensures.link ∙ c.to_slot.ensures);
    }

pub returns-clause-node : goal.returns-clause-node
returns-clause-node g c =
    record {
      held = held_through (said c.args.slots.now c.last_node-node.result) c.key_of.result _ c.expect-key.ensures
          c.key_of.ensures.key
          (λ key read. read.keeps) c.last_node-node.ensures.node;
      key = search rules;
      unmarked = ap (λ (l : Link). l.mark) c.last_node-node.ensures.link;
    }
