-- The pieces make the line.
use Rattle.std.proofs.Common.{◌≡◌, ℕ, List, [], ◌∷◌, ◌++◌, codes, decimal, refl, ap, subst, ◌∙◌, append_assoc}
use Rattle.std.proofs.lemmas.List.{append-nil}
use Rattle.vbr_transcript.specs.Writing.{AppendsSome}
use Rattle.vbr_script.specs.Grammar.{fault_number}
use Rattle.vbr_run.specs.Program.{error_line}
use Rattle.vbr_script.specs.declared.script.ScriptFault.{ScriptFault}
use Rattle.vbr_transcript.specs.declared.error.RunError.TheVariants.{Script}
use Rattle.vbr_run.proofs.report.report_script.Goals as goal

joined : (a b c d e : List ℕ) → a ++ (b ++ (c ++ (d ++ (e ++ [])))) ≡ (((a ++ b) ++ c) ++ d) ++ e
joined a b c d e = simp (append_assoc, append-nil)

line_is : (a b c d e : List ℕ) (number : ℕ) (kind : ScriptFault) → a ≡ codes "vbr_run: script fault " →
    b ≡ decimal (fault_number kind) → c ≡ codes " at line " → d ≡ decimal number → e ≡ 10 ∷ [] →
    a ++ (b ++ (c ++ (d ++ (e ++ [])))) ≡ error_line (Script number kind)
line_is a b c d e number kind ea eb ec ed ee = joined a b c d e ∙ rw (ea, eb, ec, ed, ee) refl

pub returns : goal.returns
returns g c =
    subst (AppendsSome (g.E.Write.contents c.args.errors.now) (g.E.Write.contents c.write_pieces.new.writer))
    (line_is _ _ _ _ _ c.args.line c.args.kind c.as_slice.ensures
    (c.as_bytes.ensures.value ∙ c.format.ensures.text ∙ ap decimal c.number.ensures) c.as_slice-2.ensures
    (c.as_bytes-2.ensures.value ∙ c.format-2.ensures.text) c.as_slice-3.ensures) c.write_pieces.ensures
