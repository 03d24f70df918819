-- The pieces make the line.
use Rattle.std.proofs.Common.{◌≡◌, ℕ, List, [], ◌∷◌, ◌++◌, codes, refl, subst, ◌∙◌, append_assoc}
use Rattle.std.proofs.lemmas.List.{append-nil}
use Rattle.vbr_transcript.specs.Writing.{AppendsSome}
use Rattle.vbr_run.specs.Program.{file_line}
use Rattle.vbr_run.proofs.report.report_file.Goals as goal

joined : (a b c d e : List ℕ) → a ++ (b ++ (c ++ (d ++ (e ++ [])))) ≡ (((a ++ b) ++ c) ++ d) ++ e
joined a b c d e = simp (append_assoc, append-nil)

line_is : (a b c d e why name : List ℕ) → a ≡ codes "vbr_run: file fault: " → b ≡ why → c ≡ codes ": " → d ≡ name →
    e ≡ 10 ∷ [] → a ++ (b ++ (c ++ (d ++ (e ++ [])))) ≡ file_line why name
line_is a b c d e why name ea eb ec ed ee = joined a b c d e ∙ rw (ea, eb, ec, ed, ee) refl

pub returns : goal.returns
returns g c =
    subst (AppendsSome (g.E.Write.contents c.args.errors.now) (g.E.Write.contents c.write_pieces.new.writer))
    (line_is _ _ _ _ _ c.args.why.now c.args.name.now c.as_slice.ensures c.as_bytes.ensures.value c.as_slice-2.ensures
    c.as_bytes-2.ensures.value c.as_slice-3.ensures) c.write_pieces.ensures
