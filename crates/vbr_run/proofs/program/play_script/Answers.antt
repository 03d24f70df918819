-- What was played is of the kind that was asked for.
use Rattle.std.proofs.Common.{◌≡◌, ℕ, List, Option, subst, sym}
use Rattle.std.specs.Prelude.{Result}
use Rattle.clap.specs.Words.{Text}
use Rattle.vbr_script.specs.declared.script.Kind.{Kind}
use Rattle.vbr_script.specs.declared.script.Kind.TheVariants.{Set, Map}
use Rattle.vbr_settings.specs.Settings.{Settings}
use Rattle.vbr_transcript.specs.Totals.{TotalsOf}
use Rattle.vbr_transcript.specs.declared.error.RunError.{RunError}
use Rattle.vbr_player.specs.Playing.{Plays}
use Rattle.vbr_run.specs.Program.{IsPlayed, TellsOutcome}
use Rattle.vbr_run.proofs.program.play_script.Goals as goal

played : (kind own : Kind) (settings : Settings) (file : Option Text) (input before after old new : Option (List ℕ))
    (status : ℕ) (answer : Result (TotalsOf own) RunError) → kind ≡ own → Plays own settings input before after answer →
    TellsOutcome file answer old new status →
    IsPlayed kind settings file input
    (record { output_before = before; output = after; errors_before = old; errors = new; status = status })
played kind own settings file input before after old new status answer is plays tells =
    subst (λ (k : Kind).
    IsPlayed k settings file input
    (record { output_before = before; output = after; errors_before = old; errors = new; status = status })) (sym is)
    (answer, plays, tells)

pub returns-in-Set-clause-played : goal.returns-in-Set-clause-played
returns-in-Set-clause-played g c =
    played _ Set _ _ _ _ _ _ _ _ c.play.result c.in-Set.is c.play.ensures c.tell.ensures.told

pub returns-in-Map-clause-played : goal.returns-in-Map-clause-played
returns-in-Map-clause-played g c =
    played _ Map _ _ _ _ _ _ _ _ c.play_map.result c.in-Map.is c.play_map.ensures c.tell-in-Map.ensures.told
