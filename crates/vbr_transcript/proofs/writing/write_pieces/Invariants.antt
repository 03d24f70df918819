use Rattle.std.proofs.Common.{ℕ, List, Option, drop}
use Rattle.std.specs.List.{flat_map}
use Rattle.vbr_transcript.specs.Writing.{AppendsSome}
use Rattle.vbr_transcript.proofs.writing.write_pieces.Given as goal

-- a beginning of the pieces that are left, written next, makes a beginning of all
abbrev pub invariant-loop-piece : goal.invariant-loop-piece
invariant-loop-piece g l = (held : Option (List ℕ)) →
    AppendsSome (g.W.Write.contents l.writer) held (flat_map (λ piece. piece.now) (drop l.piece-index l.pieces)) →
    AppendsSome (g.W.Write.contents l.fn.writer) held (flat_map (λ piece. piece.now) l.pieces)
