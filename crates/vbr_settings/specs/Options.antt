-- The command line of the program, as `clap` has it.
use Rattle.std.specs.Prelude.{◌≡◌, ◌≤◌, ℕ, Bool, true, false, ◌||◌, List, [], ◌∷◌, ◌++◌, fold, Option, Some, None, IfSome, option_and_then, if◌then◌else◌, codes}
use Rattle.std.specs.Option.{option_map_or}
use Rattle.std.specs.Str.{bytes_eq}
use Rattle.std.specs.Str.Parse.{digits_value, without_leading_plus}
use Rattle.clap.specs.Words.{App, Rule, Row, Text, new_app, new_rule, with_rule, takes, matches_of, one_of, first_of, IsUnsignedIn}
use Rattle.clap.specs.Words.{Kinds, fault_of}
use Rattle.clap.specs.declared.builder.action.ArgAction.TheVariants.{Set, SetTrue}
use Rattle.clap.specs.declared.builder.value_parser.ValueParser.TheVariants as value
use Rattle.clap.specs.declared.error.kind.ErrorKind.{ErrorKind}
use Rattle.vbr_settings.specs.declared.config.TheConstants.{MAX_WORKERS}
use Rattle.vbr_words.specs.Shapes.{last_epoch_for, shape_error}
use Rattle.vbr_words.specs.declared.shape.ShapeError.{ShapeError}
use Rattle.vbr_words.specs.declared.shape.TheConstants.{MAX_EPOCH}
use Rattle.vbr_settings.specs.Settings.{Settings}

-- an option that takes a number between two limits, and is this number if it isn't given
abbrev pub number_option : Text → ℕ → ℕ → Text → Rule
number_option name least most default = record (new_rule name) {
  long = Some name;
  action = Some Set;
  value_names = 1;
  parser = Some (value.Unsigned least most);
  defaults = default ∷ [];
}

-- an option that is given or not
abbrev pub switch : Text → Rule
switch name = record (new_rule name) { long = Some name; action = Some SetTrue; parser = Some value.Bool }

-- an argument that is a text, has no option's name before it, and needn't be given
abbrev pub lone_argument : Text → Rule
lone_argument name = record (new_rule name) { action = Some Set; value_names = 1; parser = Some value.String }

-- an option that takes a text, and needn't be given
abbrev pub text_option : Text → Rule
text_option name = record (lone_argument name) { long = Some name }

-- the options that give the set's shape
abbrev pub shape_options : List Rule
shape_options =
    number_option (codes "slots") 0 4294967295 (codes "1024")
    ∷ number_option (codes "buckets") 0 4294967295 (codes "16")
    ∷ number_option (codes "last-epoch") 0 18446744073709551615 (codes "549755813887")
    ∷ []

-- what else may be asked: that something is explained, or that a file is played
abbrev pub asked_options : List Rule
asked_options = text_option (codes "explain") ∷ lone_argument (codes "file") ∷ []

-- the options of the program, and the file
abbrev pub options : List Rule
options =
    number_option (codes "workers") 1 MAX_WORKERS (codes "1")
    ∷ shape_options
    ++ number_option (codes "budget") 0 4294967295 (codes "100000")
    ∷ switch (codes "epoch")
    ∷ switch (codes "map")
    ∷ asked_options

-- a command that can be asked for its version
abbrev pub with_version : App → App
with_version app = record app { top = record app.top { has_version = true } }

-- the command, with its version and its options
unfoldable pub command_line : App
command_line = fold with_rule (with_version (new_app (codes "vbr_run"))) options

-- the arguments, of which the first is the program's name, are options that the command takes
unfoldable pub AreOptions : List Text → Type 0
AreOptions arguments = takes command_line arguments ≡ true

-- the kinds of error that the command answers a command line with: none if it takes it
unfoldable pub faults : List Text → Kinds
faults arguments = fault_of command_line arguments

-- these arguments after the program's name have this fault, and no other
abbrev pub HasFault : List Text → ErrorKind → Type 0
HasFault arguments fault = (name : Text) → faults (name ∷ arguments) ≡ fault ∷ []

-- ---- what a command line gives

-- the number that an option has among the matches of a command line
unfoldable pub number_among : Text → List Row → ℕ
number_among name rows = option_map_or (λ text. digits_value 10 (without_leading_plus text)) (one_of name rows) 0

-- whether a switch is given among the matches of a command line
unfoldable pub has_switch : Text → List Row → Bool
has_switch name rows = option_map_or (λ text. bytes_eq text (codes "true")) (one_of name rows) false

-- the settings that the matches of a command line give
abbrev pub settings_among : List Row → Settings
settings_among rows = record {
  shape = record {
    slots = number_among (codes "slots") rows;
    buckets = number_among (codes "buckets") rows;
    spread = None;
    last_epoch = last_epoch_for (number_among (codes "slots") rows) (number_among (codes "last-epoch") rows);
    values = false;
  };
  workers = number_among (codes "workers") rows;
  budget = number_among (codes "budget") rows;
  epoch = has_switch (codes "epoch") rows;
}

-- the settings that a command line gives, each option with what is given for it, or else with its own value
unfoldable pub settings_of : List Text → Settings
settings_of arguments = settings_among (matches_of command_line arguments)

-- whether the matches of a command line ask for a map
abbrev pub asks_map_among : List Row → Bool
asks_map_among rows = has_switch (codes "map") rows

-- whether a command line asks that its script is played on a map
unfoldable pub asks_map : List Text → Bool
asks_map arguments = asks_map_among (matches_of command_line arguments)

-- the file that the matches of a command line name: none if it is the name of standard input
unfoldable pub file_among : List Row → Option Text
file_among rows = option_and_then (λ name. if bytes_eq name (codes "-") then None else Some name) (first_of (codes "file") rows)

-- the name of what is to be explained, among the matches of a command line
unfoldable pub explained_among : List Row → Option Text
explained_among rows = first_of (codes "explain") rows

-- the file that a command line names for the script, if it isn't standard input
unfoldable pub file_of : List Text → Option Text
file_of arguments = file_among (matches_of command_line arguments)

-- the name of what a command line asks to be explained
unfoldable pub explained_of : List Text → Option Text
explained_of arguments = explained_among (matches_of command_line arguments)

-- the settings that the program's name alone gives: each option's own value
abbrev pub own_settings : Settings
own_settings = record {
  shape = record {
    slots = 1024;
    buckets = 16;
    spread = None;
    last_epoch = MAX_EPOCH;
    values = false;
  };
  workers = 1;
  budget = 100000;
  epoch = false;
}

-- arguments that give each option once, with a value of which none is its own
abbrev pub each_option : List Text
each_option =
    codes "--workers" ∷ codes "4"
    ∷ codes "--slots" ∷ codes "512"
    ∷ codes "--buckets=8"
    ∷ codes "--last-epoch" ∷ codes "7"
    ∷ codes "--budget" ∷ codes "1000000"
    ∷ codes "--epoch"
    ∷ codes "--map"
    ∷ codes "--explain" ∷ codes "script-1"
    ∷ codes "a.script"
    ∷ []

-- the settings that those arguments give
abbrev pub settings_of_each : Settings
settings_of_each = record {
  shape = record {
    slots = 512;
    buckets = 8;
    spread = None;
    last_epoch = 7;
    values = false;
  };
  workers = 4;
  budget = 1000000;
  epoch = true;
}

-- what is wrong with the shape of settings
abbrev pub shape_fault : Settings → Option ShapeError
shape_fault settings = shape_error settings.shape.slots settings.shape.buckets settings.shape.last_epoch

-- ---- what the program reads of the matches

-- an option has a number
abbrev pub HasNumber : Text → List Row → Type 0
HasNumber name rows = (text : Text) × (one_of name rows ≡ Some text) × IsUnsignedIn 0 18446744073709551615 text

-- a switch has no text but yes or no
abbrev pub IsSwitch : Text → List Row → Type 0
IsSwitch name rows = IfSome (one_of name rows) (λ text. (bytes_eq text (codes "true") || bytes_eq text (codes "false")) ≡ true)

-- matches have a number for each option, within its limits, and the switches
pub record AreComplete (rows : List Row) : Type 0 where
  pub workers : HasNumber (codes "workers") rows
  pub slots : HasNumber (codes "slots") rows
  pub buckets : HasNumber (codes "buckets") rows
  pub last_epoch : HasNumber (codes "last-epoch") rows
  pub budget : HasNumber (codes "budget") rows
  pub epoch : IsSwitch (codes "epoch") rows
  pub map : IsSwitch (codes "map") rows
  pub some_worker : 1 ≤ number_among (codes "workers") rows
  pub few_workers : number_among (codes "workers") rows ≤ MAX_WORKERS
  pub small_slots : number_among (codes "slots") rows ≤ 4294967295
  pub small_buckets : number_among (codes "buckets") rows ≤ 4294967295
  pub small_budget : number_among (codes "budget") rows ≤ 4294967295
