use Rattle.vbr_list.proofs.Names.{◌≡◌, ◌+◌, Bool, refl, sym, ◌∙◌, subst, steps_to_value}
use Rattle.vbr_list.proofs.valuing.steps_to_update.Goals as goal

pub returns-then-VALUES : goal.returns-then-VALUES
returns-then-VALUES g c =
    let P : Bool → Type 0 = λ values. 4 ≡ 1 + steps_to_value values + 1 + 1 in
    subst P (sym (c.kind.ensures ∙ sym c.VALUES.ensures ∙ c.if-VALUES.true)) refl

pub returns-else-VALUES : goal.returns-else-VALUES
returns-else-VALUES g c =
    let P : Bool → Type 0 = λ values. 3 ≡ 1 + steps_to_value values + 1 + 1 in
    subst P (sym (c.kind.ensures ∙ sym c.VALUES.ensures ∙ c.if-VALUES.false)) refl
