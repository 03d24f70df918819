-- First the link is written, and then the slot is put into the bucket's list.
use Rattle.std.proofs.Common.{ℕ, ap, ◌∙◌}
use Rattle.vbr_words.specs.Words.{link_of}
use Rattle.vbr_machine.specs.declared.knowledge.SlotPlace.TheVariants.{Listed}
use Rattle.vbr_world.specs.WorldInLists.{world_of}
use Rattle.vbr_world.specs.KeptWrites.{with_link_and_place}
use Rattle.vbr_world.proofs.KeptWorlds.{put_after_link}
use Rattle.vbr_world.proofs.world.lists.Lists.publish.Goals as goal

pub returns : goal.returns
returns c = record {
  written =
      c.put_slot.ensures.written
      ∙ put_after_link _ (world_of c.args.self.now) c.args.pred (link_of c.args.link) c.args.slot
      (Listed c.bucket_of-bucket.result) c.put_link.ensures.written
      ∙ ap (λ (bucket : ℕ).
      with_link_and_place c.args.pred (link_of c.args.link) c.args.slot (Listed bucket) (world_of c.args.self.now))
      c.bucket_of-bucket.ensures.bucket;
  start = c.put_slot.ensures.start ∙ c.put_link.ensures.start;
  passes = c.put_slot.ensures.passes ∙ c.put_link.ensures.passes;
}
