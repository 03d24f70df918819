use Rattle.std.proofs.Common.{ap, ◌∙◌}
use Rattle.std.specs.Prelude.{slice_index}
use Rattle.vbr_set.proofs.reports.ShownNodes.{key_read, value_read}
use Rattle.vbr_set.proofs.kind.entries.EntriesKind.read.Goals as goal

pub returns : goal.returns
returns c = λ opened run x i. (
  (ap (slice_index c.args.words.now) c.place_index.ensures.index ∙ key_read x c.args.slot c.requires.slot) i,
  (ap (slice_index c.args.words.now) c.place_index-2.ensures.index
      ∙ value_read x c.args.slot (c.requires.slot, c.requires.values)) i,
)
