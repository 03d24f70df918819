-- Steps of a table whose nodes have no values, and operations that ask for none.
use Rattle.std.proofs.Common.{◌≡◌, ◌≢◌, ℕ, Bool, true, false, Option, None, cond, refl, sym, ap, subst, Some}
use Rattle.vbr_machine.specs.Start.{Start}
use Rattle.vbr_machine.specs.Acceptance.{HasValue, IsOpIn}
use Rattle.vbr_machine.specs.Knowledge.{Know}
use Rattle.vbr_machine.specs.Learning.{present_value}
use Rattle.vbr_machine.specs.Membership.{Knows, KnowsValue, KnowsValueFor}
use Rattle.vbr_machine.specs.Opened.{payload_kept}
use Rattle.vbr_machine.specs.declared.knowledge.Read.TheVariants.{ValueOf}
use Rattle.vbr_machine.specs.declared.history.Op.{Op}
use Rattle.vbr_machine.specs.declared.history.Op.TheVariants.{Insert, Remove, Has, Get}

-- ---- where nodes have no values

pub none_kept : (start : Start) → start.shape.values ≡ false → (value : Option ℕ) → payload_kept start value ≡ None
none_kept start bare value = ap (λ (t : Bool). cond t value None) bare

-- ---- an operation that asks for no value

pub none_told : (op : Op) → op ≢ Get → (value : Option ℕ) → present_value op value ≡ None
none_told Insert other value = refl
none_told Remove other value = refl
none_told Has other value = refl
none_told Get other value = absurd (other refl)

-- ---- where nodes may have values

-- what is asked where nodes have values holds where they have none
pub not_valued : {values : Bool} {A : Type 0} → values ≡ false → values ≡ true → A
not_valued bare has = absurd (cc)

pub value_known : (values : Bool) (know : Know) (s : ℕ) → (values ≡ true → (value : ℕ) × Knows know (ValueOf s value)) →
    KnowsValue values know s
value_known true know s valued = valued refl
value_known false know s valued = tt

pub value_known_for : (op : Op) (know : Know) (s : ℕ) → (op ≡ Get → (value : ℕ) × Knows know (ValueOf s value)) →
    KnowsValueFor op know s
value_known_for Insert know s asked = tt
value_known_for Remove know s asked = tt
value_known_for Has know s asked = tt
value_known_for Get know s asked = asked refl

pub op_asked : (start : Start) (op : Op) → (op ≡ Get → start.shape.values ≡ true) → IsOpIn start op
op_asked start Insert asked = tt
op_asked start Remove asked = tt
op_asked start Has asked = tt
op_asked start Get asked = asked refl

-- a value that is known in hand, where nodes have values
pub value_asked : (values : Bool) (known : Option ℕ) (value : ℕ) → (values ≡ true → known ≡ Some value) →
    HasValue values known
value_asked true known value valued = let P : Option ℕ → Type 0 = HasValue true in subst P (sym (valued refl)) refl
value_asked false known value valued = tt

pub kept_same : (values : Bool) (known : Option ℕ) (value : ℕ) → (values ≡ true → known ≡ Some value) →
    cond values known None ≡ cond values (Some value) None
kept_same true known value valued = valued refl
kept_same false known value valued = refl
