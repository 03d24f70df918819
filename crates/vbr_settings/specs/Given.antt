-- What is read off a command line.
use Rattle.std.specs.Prelude.{◌≡◌, List, []}
use Rattle.clap.specs.Words.{Row, Text, HasKind, rows_of, found_of, kind_of}
use Rattle.clap.specs.declared.error.Error.{Error}
use Rattle.clap.specs.declared.error.kind.ErrorKind.TheVariants.{OutOfMemory}
use Rattle.vbr_settings.specs.Options.{AreOptions, faults, settings_among, settings_of, asks_map_among, asks_map, file_among, file_of, explained_among, explained_of, AreComplete}
use Rattle.vbr_settings.specs.declared.options.Options.{Options}

-- the matches that options are read from
abbrev pub rows_in : Options → List Row
rows_in options = rows_of (found_of options.matches)

-- options are those of a command line without a fault: its settings, whether it asks for a map, its file, and what it asks to be explained
pub record IsReadOff (arguments : List Text) (options : Options) : Type 0 where
  pub faultless : faults arguments ≡ []
  pub complete : AreComplete (rows_in options)
  pub settings : settings_among (rows_in options) ≡ settings_of arguments
  pub map : asks_map_among (rows_in options) ≡ asks_map arguments
  pub file : file_among (rows_in options) ≡ file_of arguments
  pub explained : explained_among (rows_in options) ≡ explained_of arguments

-- why a command line gives no options: an error of a kind that `clap` has for it, or want of memory
abbrev pub IsOptionsErrorOf : List Text → Error → Type 0
IsOptionsErrorOf arguments error = HasKind (faults arguments) error × (AreOptions arguments → kind_of error ≡ OutOfMemory)
