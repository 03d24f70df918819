-- The matches of the program's command are complete, and are those that the options are read from.
use Rattle.std.proofs.Common.{◌≡◌, ◌∙◌, List, ap, sym, subst, true, refl}
use Rattle.std.specs.Prelude.{Result, Ok, Err}
use Rattle.std.specs.Result.{IsErrAnd, IfErr}
use Rattle.clap.specs.Words.{App, Row, Text, HasMatchesOf, is_simple, matches_of, rows_of, found_of, takes, kind_of}
use Rattle.clap.specs.Words.{app_of}
use Rattle.clap.specs.Words.{FailsBy, fault_of, is_simple_and_free}
use Rattle.clap.specs.declared.error.Error.{Error}
use Rattle.clap.specs.declared.error.kind.ErrorKind.TheVariants.{OutOfMemory}
use Rattle.clap.specs.declared.parser.matches.ArgMatches.{ArgMatches}
use Rattle.vbr_settings.specs.Options.{command_line, faults, AreOptions, settings_among, settings_of, asks_map_among}
use Rattle.vbr_settings.specs.Options.{asks_map, file_among, file_of, explained_among, explained_of}
use Rattle.vbr_settings.specs.Given.{IsOptionsErrorOf}
use Rattle.vbr_settings.proofs.CompleteOptions.{complete}
use Rattle.vbr_settings.proofs.command.read_options.Goals as goal

simple : is_simple command_line ≡ true
unfolding command_line
simple = refl

-- the matches of a command line are those of the definition
rows : (matches : ArgMatches) (app : App) (arguments : List Text) → app ≡ command_line →
    HasMatchesOf app arguments matches → rows_of (found_of matches) ≡ matches_of command_line arguments
rows matches app arguments is has = ((subst (λ (a : App). HasMatchesOf a arguments matches) is has) simple).0

-- so what is read of them is what the command line gives
given : (found : List Row) (arguments : List Text) → found ≡ matches_of command_line arguments →
    (settings_among found ≡ settings_of arguments) × (asks_map_among found ≡ asks_map arguments) ×
    (file_among found ≡ file_of arguments) × (explained_among found ≡ explained_of arguments)
unfolding settings_of asks_map file_of explained_of
given found arguments is = (ap settings_among is, ap asks_map_among is, ap file_among is, ap explained_among is)

free : is_simple_and_free command_line ≡ true
unfolding command_line
free = refl

-- what the command fails by are the faults of the command line
kinds : {T : Type 0} (app : App) (arguments : List Text) (r : Result T Error) → app ≡ command_line →
    (is_simple_and_free app ≡ true → FailsBy (fault_of app arguments) r) → FailsBy (faults arguments) r
unfolding faults
kinds app arguments r is fails =
    subst (λ (a : App). is_simple_and_free a ≡ true → FailsBy (fault_of a arguments) r) is fails free

passing : (app : App) (arguments : List Text) (error : Error) → app ≡ command_line →
    (takes app arguments ≡ true → kind_of error ≡ OutOfMemory) → AreOptions arguments → kind_of error ≡ OutOfMemory
unfolding AreOptions
passing app arguments error is passes taken = passes (ap (λ (a : App). takes a arguments) is ∙ taken)

of_error : {T E : Type 0} (r : Result T E) (P Q : E → Type 0) → IsErrAnd r P → ((e : E) → P e → Q e) → IfErr r Q
of_error (Ok x) P Q has weaker = tt
of_error (Err e) P Q has weaker = weaker e has

pub returns-in_err-matches-clause-error : goal.returns-in_err-matches-clause-error
returns-in_err-matches-clause-error c =
    let has = kinds {T = ArgMatches} (app_of c.in_ok-command.field-0) _ (Err c.in_err-matches.field-0.0)
    c.in_ok-command.ensures.options c.in_err-matches.ensures.kinds in
    let passes =
    passing (app_of c.in_ok-command.field-0) _ c.in_err-matches.field-0.0 c.in_ok-command.ensures.options
    c.in_err-matches.ensures.passes in
    of_error c.from_residual-in_err-matches.result _ _ c.from_residual-in_err-matches.ensures.1
    (λ given told. subst (IsOptionsErrorOf _) (sym told) (has, passes))

pub returns-clause-ok : goal.returns-clause-ok
returns-clause-ok c =
    let found = rows c.in_ok-matches.matches (app_of c.in_ok-command.field-0) _ c.in_ok-command.ensures.options
    c.in_ok-matches.ensures.matches in
    record {
      faultless = kinds (app_of c.in_ok-command.field-0) _ (Ok c.in_ok-matches.matches) c.in_ok-command.ensures.options
          c.in_ok-matches.ensures.kinds;
      complete = complete c.in_ok-command.field-0 c.in_ok-matches.matches c.in_ok-command.ensures.options
          c.in_ok-matches.ensures.parsed;
      settings = (given _ _ found).0;
      map = (given _ _ found).1;
      file = (given _ _ found).2;
      explained = (given _ _ found).3;
    }
