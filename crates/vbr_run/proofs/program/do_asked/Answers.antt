-- A script on standard input is played, and a file that is named is opened, and what was opened is played.
use Rattle.std.proofs.Common.{◌≡◌, ℕ, List, Option, Some, None, refl, subst, sym, rules}
use Rattle.std.specs.Prelude.{Result, Ok, Err}
use Rattle.std.specs.Fn.{FnReturnsAt}
use Rattle.std.specs.IoError.{error_kind}
use Rattle.std.specs.declared.io.Error.{Error}
use Rattle.std.specs.declared.io.ErrorKind.{ErrorKind as IoErrorKind}
use Rattle.std.specs.Io.KnownBytes.{Keeps}
use Rattle.clap.specs.Words.{Text}
use Rattle.vbr_words.specs.declared.shape.ShapeError.{ShapeError}
use Rattle.vbr_script.specs.declared.script.Kind.{Kind}
use Rattle.vbr_settings.specs.Options.{settings_among, asks_map_among, shape_fault, file_among, explained_among}
use Rattle.vbr_settings.specs.Settings.{Settings}
use Rattle.vbr_settings.specs.Given.{rows_in}
use Rattle.vbr_run.specs.Program.{MayOpenAs, IsDone, IsFilePlayed, IsPlayed, IsUnopened, Opening, ProgramRun}
use Rattle.vbr_run.specs.Program.{kind_asked, opened_as}
use Rattle.vbr_run.proofs.program.do_asked.Goals as goal

module _ {F : Type 0} (remaining : F → Option (List ℕ)) (opens : Text → Result F Error → Type 0) where
  filed : (explained : Option Text) (shape : Option ShapeError) (file : Option Text) (kind asked : Kind)
      (settings own : Settings) (input : Option (List ℕ)) (run : ProgramRun) (name : Text) (opened : Result F Error) →
      explained ≡ None → shape ≡ None → file ≡ Some name → asked ≡ kind → own ≡ settings → opens name opened →
      IsFilePlayed asked own name (opened_as remaining opened) run →
      IsDone explained shape file kind settings input (MayOpenAs remaining opens) run
  filed explained shape file kind asked settings own input run name opened none shaped named alike same gives played =
      rw (none, shaped, named) (
        opened_as remaining opened,
        (opened, gives, refl),
        subst (λ (s : Settings). IsFilePlayed kind s name (opened_as remaining opened) run) same
            (subst (λ (k : Kind). IsFilePlayed k own name (opened_as remaining opened) run) alike played),
      )

  filed_ok : (explained : Option Text) (shape : Option ShapeError) (file : Option Text) (kind asked : Kind)
      (settings own : Settings) (input : Option (List ℕ)) (run : ProgramRun) (name : Text) (opened : Result F Error)
      (found : F) → explained ≡ None → shape ≡ None → file ≡ Some name → asked ≡ kind → own ≡ settings →
      opens name opened → opened ≡ Ok found → IsPlayed asked own (Some name) (remaining found) run →
      IsDone explained shape file kind settings input (MayOpenAs remaining opens) run
  filed_ok explained shape file kind asked settings own input run name opened found none shaped named alike same gives
      is played = filed explained shape file kind asked settings own input run name opened none shaped named alike same
      gives (subst (λ (o : Result F Error). IsFilePlayed asked own name (opened_as remaining o) run) (sym is) played)

  filed_err : (explained : Option Text) (shape : Option ShapeError) (file : Option Text) (kind asked : Kind)
      (settings own : Settings) (input : Option (List ℕ)) (run : ProgramRun) (name : Text) (opened : Result F Error)
      (error : Error) (why : IoErrorKind) → explained ≡ None → shape ≡ None → file ≡ Some name → asked ≡ kind →
      own ≡ settings → opens name opened → opened ≡ Err error → why ≡ error_kind error → IsUnopened why name run →
      IsDone explained shape file kind settings input (MayOpenAs remaining opens) run
  filed_err explained shape file kind asked settings own input run name opened error why none shaped named alike same
      gives is kinds told =
      filed explained shape file kind asked settings own input run name opened none shaped named alike same gives
      (subst (λ (o : Result F Error). IsFilePlayed asked own name (opened_as remaining o) run) (sym is)
      (subst (λ (k : IoErrorKind). IsUnopened k name run) kinds told))

standard : (explained : Option Text) (shape : Option ShapeError) (file : Option Text) (kind asked : Kind)
    (settings own : Settings) (input : Option (List ℕ)) (opens : Opening) (run : ProgramRun) → explained ≡ None →
    shape ≡ None → file ≡ None → asked ≡ kind → own ≡ settings → IsPlayed asked own None input run →
    IsDone explained shape file kind settings input opens run
standard explained shape file kind asked settings own input opens run none shaped unnamed alike same played =
    rw (none, shaped, unnamed)
    (subst (λ (s : Settings). IsPlayed kind s None input run) same
    (subst (λ (k : Kind). IsPlayed k own None input run) alike played))

pub returns-in-Ok-None-clause-done : goal.returns-in-Ok-None-clause-done
returns-in-Ok-None-clause-done g c =
    let none : explained_among (rows_in c.args.options.now) ≡ None = search rules in
    let shaped : shape_fault (settings_among (rows_in c.args.options.now)) ≡ None = search rules in
    let unnamed : file_among (rows_in c.args.options.now) ≡ None = search rules in
    let alike : c.kind_asked-kind.result ≡ kind_asked (asks_map_among (rows_in c.args.options.now)) = search rules in
    let same : c.in-Ok-None.config ≡ settings_among (rows_in c.args.options.now) = search rules in
    standard _ _ _ _ c.kind_asked-kind.result _ c.in-Ok-None.config _ _ _ none shaped unnamed alike same
    c.play_script.ensures.played

pub returns-in-Ok-clause-done : goal.returns-in-Ok-clause-done
returns-in-Ok-clause-done g c =
    let rows = rows_in c.args.options.now in
    filed_ok g.F.Read.remaining (FnReturnsAt g.O.Fn c.args.files.now) (explained_among rows)
    (shape_fault (settings_among rows)) (file_among rows) (kind_asked (asks_map_among rows)) c.kind_asked-kind.result
    (settings_among rows) c.in-Ok-Some.config _ _ c.in-Ok-Some.name.now c.files.result c.in-Ok.file (search rules)
    (search rules) (search rules) (search rules) (search rules) (search rules) (search rules)
    c.play_script-in-Ok.ensures.played

pub returns-in-Err-clause-done : goal.returns-in-Err-clause-done
returns-in-Err-clause-done g c =
    let rows = rows_in c.args.options.now in
    let keeps : Keeps (g.W.Write.contents c.args.writer.now) (g.W.Write.contents c.args.writer.now) = search rules in
    filed_err g.F.Read.remaining (FnReturnsAt g.O.Fn c.args.files.now) (explained_among rows)
    (shape_fault (settings_among rows)) (file_among rows) (kind_asked (asks_map_among rows)) c.kind_asked-kind.result
    (settings_among rows) c.in-Ok-Some.config _ _ c.in-Ok-Some.name.now c.files.result c.in-Err.error c.kind.result
    (search rules) (search rules) (search rules) (search rules) (search rules) (search rules) (search rules)
    (search rules) (c.report_unopened.ensures.status, keeps, c.report_unopened.ensures.told)
