-- The pieces make the line.
use Rattle.std.proofs.Common.{◌≡◌, ℕ, List, [], ◌∷◌, ◌++◌, codes, decimal, refl, ap, subst, ◌∙◌, append_assoc}
use Rattle.std.proofs.lemmas.List.{append-nil}
use Rattle.vbr_words.specs.declared.shape.ShapeError.{ShapeError}
use Rattle.vbr_transcript.specs.Writing.{AppendsSome}
use Rattle.vbr_run.specs.Program.{shape_line, shape_fault_number}
use Rattle.vbr_run.proofs.report.report_shape.Goals as goal

joined : (a b c : List ℕ) → a ++ (b ++ (c ++ [])) ≡ (a ++ b) ++ c
joined a b c = simp (append_assoc, append-nil)

line_is : (a b c : List ℕ) (error : ShapeError) → a ≡ codes "vbr_run: shape fault " →
    b ≡ decimal (shape_fault_number error) → c ≡ 10 ∷ [] → a ++ (b ++ (c ++ [])) ≡ shape_line error
line_is a b c error ea eb ec = joined a b c ∙ rw (ea, eb, ec) refl

pub returns-clause-told : goal.returns-clause-told
returns-clause-told g c =
    subst (AppendsSome (g.E.Write.contents c.args.errors.now) (g.E.Write.contents c.write_pieces.new.writer))
    (line_is _ _ _ c.args.error c.as_slice.ensures
    (c.as_bytes.ensures.value ∙ c.format.ensures.text ∙ ap decimal c.shape_fault_number.ensures) c.as_slice-2.ensures)
    c.write_pieces.ensures
