-- One more piece, all of it or a beginning, in front of those that are left.
use Rattle.std.proofs.Common.{◌<◌, length, [], add-one, arith}
use Rattle.std.proofs.Math.Seq.{drop-cons}
use Rattle.vbr_transcript.proofs.KnownBytes.{AppendsSome-after, AppendsSome-front}
use Rattle.vbr_transcript.proofs.writing.write_pieces.Goals as goal

pub returns-in-Err : goal.returns-in-Err
returns-in-Err g c =
    let here : c.loop-piece.piece-index < length c.args.pieces.now = omega arith in
    c.loop-piece.invariant _
    (rw (drop-cons c.args.pieces.now c.loop-piece.piece-index (record { ref_ptr = (0, 0); now = [] }) here)
    (AppendsSome-front _ _ _ _ c.in-Err.ensures.fault))

pub loop-piece-preserved : goal.loop-piece-preserved
loop-piece-preserved g c held rest =
    let here : c.loop-piece.piece-index < length c.args.pieces.now = omega arith in
    c.loop-piece.invariant held
    (rw (drop-cons c.args.pieces.now c.loop-piece.piece-index (record { ref_ptr = (0, 0); now = [] }) here)
    (AppendsSome-after _ _ held _ _ c.in-Ok.ensures.ok (rw add-one at rest)))
