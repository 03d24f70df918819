-- The shape tells the bucket of a key.
use Rattle.std.proofs.Common.{rules}
use Rattle.vbr_words.specs.Buckets.{bucket_of}
use Rattle.vbr_world.proofs.world.lists.Lists.bucket_of.Goals as goal

pub returns : goal.returns
unfolding bucket_of
returns c = search rules
