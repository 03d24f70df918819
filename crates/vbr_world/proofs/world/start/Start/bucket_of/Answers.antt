-- The keys of an opening tell nothing of buckets.
use Rattle.std.proofs.Common.{ap, ◌∙◌}
use Rattle.vbr_words.specs.Buckets.{bucket_of}
use Rattle.vbr_machine.specs.Start.{Start}
use Rattle.vbr_world.proofs.world.start.Start.bucket_of.Goals as goal

pub returns-clause-bucket : goal.returns-clause-bucket
unfolding bucket_of
returns-clause-bucket c =
    c.bucket_of.ensures.bucket ∙ ap (λ (start : Start). bucket_of start.shape c.args.key) c.self.view_is
