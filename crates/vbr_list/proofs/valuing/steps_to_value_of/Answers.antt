use Rattle.vbr_list.proofs.Names.{◌≡◌, Bool, refl, sym, ◌∙◌, subst, steps_where}
use Rattle.vbr_list.proofs.valuing.steps_to_value_of.Goals as goal

pub returns-then-VALUES : goal.returns-then-VALUES
returns-then-VALUES g c =
    let P : Bool → Type 0 = λ values. 2 ≡ steps_where values in
    subst P (sym (c.kind.ensures ∙ sym c.VALUES.ensures ∙ c.if-VALUES.true)) refl

pub returns-else-VALUES : goal.returns-else-VALUES
returns-else-VALUES g c =
    let P : Bool → Type 0 = λ values. 0 ≡ steps_where values in
    subst P (sym (c.kind.ensures ∙ sym c.VALUES.ensures ∙ c.if-VALUES.false)) refl
