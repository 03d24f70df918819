use Rattle.std.proofs.Common.{◌∷◌, [], ◌++◌, ap, ◌∙◌, sym, arith}
use Rattle.vbr_slots.proofs.runs.Closings.{take_at}
use Rattle.vbr_slots.proofs.closing.words_of.Goals as goal

pub loop-i-preserved : goal.loop-i-preserved
loop-i-preserved c = (
  c.in-Ok.ensures.items ∙ ap (λ ws. ws ++ c.word.result ∷ []) c.loop-i.invariant.0
      ∙ sym (take_at _ c.loop-i.i c.word.result c.word.ensures),
  (let more = c.in-Ok.ensures.capacity in let room = c.loop-i.invariant.1 in omega arith),
)
