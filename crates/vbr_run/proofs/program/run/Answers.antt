-- Each way through the program's body is one of the answers to its command line.
use Rattle.std.proofs.Common.{◌≡◌, ◌⊎◌, ℕ, Bool, List, Option, Some, inl, inr, subst, ap, ◌∙◌}
use Rattle.clap.specs.Words.{IsAmong, Text, kind_of}
use Rattle.clap.specs.declared.error.kind.ErrorKind.{ErrorKind}
use Rattle.clap.specs.declared.error.kind.ErrorKind.TheVariants as asked
use Rattle.vbr_words.specs.declared.shape.ShapeError.{ShapeError}
use Rattle.vbr_settings.specs.Options.{AreOptions, faults, settings_among, asks_map, asks_map_among, file_of}
use Rattle.vbr_settings.specs.Options.{file_among, explained_of, explained_among, shape_fault}
use Rattle.vbr_settings.specs.Settings.{Settings}
use Rattle.vbr_settings.specs.Given.{IsReadOff, rows_in}
use Rattle.vbr_settings.specs.declared.options.Options.{Options}
use Rattle.vbr_run.specs.Program.{AnswersCommand, DoesAsked, IsDone, TellsFault, LacksMemory, Opening, ProgramRun}
use Rattle.vbr_run.specs.Program.{ShowsError, TellsOptions, ReadsNoInput, kind_asked}
use Rattle.vbr_run.proofs.program.run.Goals as goal

-- ---- what was asked for

-- what options ask for is done
abbrev IsDoneBy : Options → Option (List ℕ) → Opening → ProgramRun → Type 0
IsDoneBy options input opens run =
    IsDone (explained_among (rows_in options)) (shape_fault (settings_among (rows_in options)))
    (file_among (rows_in options)) (kind_asked (asks_map_among (rows_in options))) (settings_among (rows_in options))
    input opens run

does : (arguments : List Text) (options : Options) (input : Option (List ℕ)) (opens : Opening) (run : ProgramRun) →
    IsReadOff arguments options → IsDoneBy options input opens run → DoesAsked arguments input opens run
does arguments options input opens run given done =
    let named = subst
    (λ (name : Option Text).
    IsDone name (shape_fault (settings_among (rows_in options))) (file_among (rows_in options))
    (kind_asked (asks_map_among (rows_in options))) (settings_among (rows_in options)) input opens run) given.explained
    done in
    let filed = subst
    (λ (file : Option Text).
    IsDone (explained_of arguments) (shape_fault (settings_among (rows_in options))) file
    (kind_asked (asks_map_among (rows_in options))) (settings_among (rows_in options)) input opens run) given.file
    named in
    let kinds = subst
    (λ (is_map : Bool).
    IsDone (explained_of arguments) (shape_fault (settings_among (rows_in options))) (file_of arguments)
    (kind_asked is_map) (settings_among (rows_in options)) input opens run) given.map filed in
    subst (λ (settings : Settings).
    IsDone (explained_of arguments) (shape_fault settings) (file_of arguments) (kind_asked (asks_map arguments))
    settings input opens run) given.settings kinds

answers : (arguments : List Text) (options : Options) (input : Option (List ℕ)) (opens : Opening) (run : ProgramRun) →
    IsReadOff arguments options → IsDoneBy options input opens run → AnswersCommand arguments input opens run
answers arguments options input opens run given done =
    let does_so = does arguments options input opens run given done in
    record { taken = λ taken. inl does_so; answered = inl (given.faultless, does_so) }

-- ---- an answer of the option parser

lacks : (arguments : List Text) (input : Option (List ℕ)) (opens : Opening) (run : ProgramRun) → LacksMemory run →
    AnswersCommand arguments input opens run
lacks arguments input opens run no_memory = record { taken = λ taken. inr no_memory; answered = inr (inr no_memory) }

is_refused : (arguments : List Text) (input : Option (List ℕ)) (opens : Opening) (kind : ErrorKind) (run : ProgramRun) →
    (kind ≡ asked.OutOfMemory) ⊎ IsAmong kind (faults arguments) → (AreOptions arguments → kind ≡ asked.OutOfMemory) →
    ShowsError kind run → AnswersCommand arguments input opens run
is_refused arguments input opens kind run (inl memory) passes shown =
    lacks arguments input opens run (shown.memory memory)
is_refused arguments input opens kind run (inr among) passes shown = record {
  taken = λ taken. inr (shown.memory (passes taken));
  answered = inr (told shown.told);
} where
  told : TellsOptions kind run ⊎ LacksMemory run → TellsFault arguments run ⊎ LacksMemory run
  told (inl tells) = inl (kind, among, tells)
  told (inr no_memory) = inr no_memory

-- ---- what isn't read

apart : {S : Type 0} (arguments : List Text) (options : Options) (old new : S) → IsReadOff arguments options →
    ((name : Text) → explained_among (rows_in options) ≡ Some name → new ≡ old) →
    ((error : ShapeError) → shape_fault (settings_among (rows_in options)) ≡ Some error → new ≡ old) →
    ((name : Text) → file_among (rows_in options) ≡ Some name → new ≡ old) → ReadsNoInput arguments → new ≡ old
apart arguments options old new given explained unshaped filed (inl faulty) = absurd (faulty given.faultless)
apart arguments options old new given explained unshaped filed (inr (inl shape)) =
    unshaped shape.0 (ap shape_fault given.settings ∙ shape.1)
apart arguments options old new given explained unshaped filed (inr (inr (inl name))) =
    explained name.0 (given.explained ∙ name.1)
apart arguments options old new given explained unshaped filed (inr (inr (inr name))) =
    filed name.0 (given.file ∙ name.1)

-- ---- the ways

pub returns-in-Ok-clause-answers : goal.returns-in-Ok-clause-answers
returns-in-Ok-clause-answers g c = answers _ c.in-Ok.options _ _ _ c.in-Ok.ensures.ok c.do_asked.ensures.done

pub returns-in-Ok-clause-apart : goal.returns-in-Ok-clause-apart
returns-in-Ok-clause-apart g c =
    apart _ c.in-Ok.options _ _ c.in-Ok.ensures.ok c.do_asked.ensures.explained c.do_asked.ensures.unshaped
    c.do_asked.ensures.filed

pub returns-in-Err-clause-answers : goal.returns-in-Err-clause-answers
returns-in-Err-clause-answers g c =
    is_refused _ _ _ (kind_of c.in-Err.refusal) _ c.in-Err.ensures.error.0 c.in-Err.ensures.error.1 c.show.ensures
