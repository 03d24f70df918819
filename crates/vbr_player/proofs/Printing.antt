-- What a run was answered, counted and listed is printed as its layout.
use Rattle.std.proofs.Common.{◌≡◌, ℕ, List, length, sym, subst, ◌∙◌}
use Rattle.std.specs.Prelude.{zip}
use Rattle.vbr_settings.specs.Settings.{Settings}
use Rattle.vbr_script.specs.Scripts.{IsScriptOf}
use Rattle.vbr_script.specs.declared.script.Kind.{Kind}
use Rattle.vbr_script.specs.declared.script.Line.{Line}
use Rattle.vbr_script.specs.declared.script.Script.{Script}
use Rattle.vbr_transcript.specs.Contents.{Item}
use Rattle.vbr_transcript.specs.Layout.{listed_text, text_of}
use Rattle.vbr_transcript.specs.Runs.{AreExplained, Counts, IsScriptRun}
use Rattle.vbr_transcript.specs.Totals.{TotalsOf, epoch_in, listed_in, tally_in}
use Rattle.vbr_transcript.specs.declared.reply.Reply.{Reply}
use Rattle.vbr_transcript.specs.declared.totals.Tally.{Tally}
use Rattle.vbr_player.specs.Calling.{ArePlayed}
use Rattle.vbr_player.specs.Playing.{Prints, start_for}

-- these are the totals' counts, what they list, and their epoch
pub record AreTotals (kind : Kind) (totals : TotalsOf kind) (tally : Tally) (listed : List (Item kind)) (epoch : ℕ) :
    Type 0 where
  pub tally_is : tally_in kind totals ≡ tally
  pub listed_is : listed_in kind totals ≡ listed
  pub epoch_is : epoch_in kind totals ≡ epoch

-- such replies and totals are those of a run of the script, and are printed so
pub prints : {kind : Kind} (settings : Settings) (text : List ℕ) (script : Script) (replies : List Reply)
    (totals : TotalsOf kind) (tally : Tally) (listed : List (Item kind)) (epoch : ℕ) (output : List ℕ) →
    IsScriptOf kind settings.workers text script → AreTotals kind totals tally listed epoch →
    length replies ≡ length script.lines.items →
    AreExplained kind (ArePlayed kind settings.workers settings.budget) (start_for kind settings.shape) settings.workers
    0 script.phases script.renewals.items (zip script.lines.items replies) listed epoch →
    Counts tally (zip script.lines.items replies) →
    output ≡ text_of settings.epoch replies tally (listed_text kind listed) epoch →
    Prints kind settings text totals output
prints {kind} settings text script replies totals tally listed epoch output is are one_each explained counts printed =
    let Of : List Line × ℕ × List ℕ → Type 0 =
    λ k. IsScriptRun kind (ArePlayed kind settings.workers settings.budget) (start_for kind settings.shape)
    settings.workers k.1 k.2 k.0 replies totals in
    let run : Of (script.lines.items, script.phases, script.renewals.items) = record {
      one_each = one_each;
      explained = subst
          (λ (k : List (Item kind) × ℕ).
          AreExplained kind (ArePlayed kind settings.workers settings.budget) (start_for kind settings.shape)
          settings.workers 0 script.phases script.renewals.items (zip script.lines.items replies) k.0 k.1)
          (λ i. (sym are.listed_is i, sym are.epoch_is i)) explained;
      counts = subst (λ (some : Tally). Counts some (zip script.lines.items replies)) (sym are.tally_is) counts;
    } in (
      replies,
      is.faultless,
      subst Of (λ i. (is.lines i, is.phases i, is.renewals i)) run,
      printed ∙ (λ i.
          text_of settings.epoch replies (sym are.tally_is i) (listed_text kind (sym are.listed_is i))
          (sym are.epoch_is i)),
    )
