-- Where only the flush failed, all of the text is written.
use Rattle.vbr_transcript.proofs.KnownBytes.{AppendsSome-all, Appends-Keeps}
use Rattle.vbr_transcript.proofs.writing.write_whole.Goals as goal

pub returns-in-Err-clause-fault : goal.returns-in-Err-clause-fault
returns-in-Err-clause-fault g c =
    AppendsSome-all _ _ _ (Appends-Keeps _ _ _ _ c.in_ok-write_text.ensures.ok c.in-Err.ensures.bytes)
