use Rattle.std.proofs.Common.{◌≤◌, ◌-◌, vec_len}
use Rattle.std.specs.Io.KnownBytes.{Consumes}
use Rattle.vbr_transcript.specs.declared.reading.TheConstants.{MAX_SCRIPT_LEN}
use Rattle.vbr_transcript.proofs.reading.read_text.Given as goal

-- what was read so far is the beginning of what the reader had left
abbrev pub invariant-loop-n : goal.invariant-loop-n
invariant-loop-n g l = record {
  short : vec_len l.text ≤ MAX_SCRIPT_LEN;
  read : Consumes (g.R.Read.remaining l.fn.reader) (g.R.Read.remaining l.reader) l.text.items;
}

abbrev pub decreases-loop-n : goal.decreases-loop-n
decreases-loop-n g l = MAX_SCRIPT_LEN - vec_len l.text
