-- What one more write took is written behind what was written before.
use Rattle.std.proofs.Common.{◌≡◌, ℕ, ◌-◌, List, length, take, drop, arith, length-drop}
use Rattle.std.proofs.lemmas.Grind.{common_steps}
use Rattle.vbr_transcript.proofs.KnownBytes.{Appends-take}
use Rattle.vbr_transcript.proofs.writing.write_text.Goals as goal

rest_of : (text : List ℕ) (from : ℕ) → take (length text - from) (drop from text) ≡ drop from text
rest_of text from = grind (arith, common_steps)

pub loop-from-preserved : goal.loop-from-preserved
loop-from-preserved g c =
    let bound = rw (rest_of c.args.text.now c.loop-from.from) at c.in-Ok.ensures.bound in
    let taken = rw (rest_of c.args.text.now c.loop-from.from) at c.in-Ok.ensures.bytes in
    record {
      in_range = omega (arith, bound, length-drop c.loop-from.from c.args.text.now);
      written = Appends-take _ _ _ c.args.text.now c.loop-from.from c.in-Ok.n c.loop-from.invariant.written taken;
    }
