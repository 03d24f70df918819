-- Why a script wasn't played, by why it wasn't read.
use Rattle.vbr_script.specs.declared.script.ScriptError.{ScriptError}
use Rattle.vbr_script.specs.declared.script.ScriptError.TheVariants as parse
use Rattle.vbr_transcript.specs.declared.error.RunError.{RunError}
use Rattle.vbr_transcript.specs.declared.error.RunError.TheVariants as error

-- a parser's error as the player's
abbrev pub run_error_of : ScriptError → RunError
run_error_of (parse.Fault line kind) = error.Script line kind
run_error_of parse.Memory = error.Memory
