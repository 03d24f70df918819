-- First the link of the slot and then the head of the bucket is written, and then what else the slot has.
use Rattle.std.proofs.Common.{rules, ap, ◌∙◌}
use Rattle.vbr_words.specs.Words.{link_of}
use Rattle.vbr_words.proofs.Lemmas.{link_of-word_of}
use Rattle.vbr_world.specs.WorldInLists.{world_of}
use Rattle.vbr_machine.proofs.Lemmas.{key_linked}
use Rattle.vbr_world.proofs.world.lists.Lists.link_key.Goals as goal

pub returns : goal.returns
returns c = record {
  written =
      key_linked c.args.self.now.start c.args.number c.args.key c.args.value c.bucket_of-bucket.result
      (world_of c.args.self.now) (world_of c.put_link.new.self) (world_of c.put_link-2.new.self)
      (world_of c.store_birth.new.self) (world_of c.store_key.new.self) (world_of c.store_value.new.self)
      (world_of c.put_slot.new.self) c.head-head.result (link_of c.of.result) (link_of c.of-2.result)
      c.bucket_of-bucket.ensures.bucket c.head-head.ensures.head
      (ap link_of c.of.ensures ∙ link_of-word_of _ c.link_to-link.ensures.fits ∙ c.link_to-link.ensures.link)
      (ap link_of c.of-2.ensures ∙ link_of-word_of _ c.link_to-first.ensures.fits ∙ c.link_to-first.ensures.link)
      c.put_link.ensures.written c.put_link-2.ensures.written c.store_birth.ensures.written c.store_key.ensures.written
      c.store_value.ensures.written c.put_slot.ensures.written;
  start = search rules;
  passes = search rules;
}
