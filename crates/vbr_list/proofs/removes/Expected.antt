-- What a remove takes out, and the call that it tells.
use Rattle.vbr_list.proofs.Names.{◌≡◌, ℕ, Bool, true, false, Option, Some, None, refl, ap, is_some, if◌then◌else◌}
use Rattle.vbr_list.proofs.Names.{Get, given_in, Op, op_to_remove, Remove, takes_out, Trace}

-- what is taken out tells a remove
pub taken_removes : (expected there : Option ℕ) → takes_out expected there ≡ true → op_to_remove expected there ≡ Remove
taken_removes None there taken = refl
taken_removes (Some value) there taken = ap {B = Op} (λ (b : Bool). if b then Remove else Get) taken

-- what stays, where a value is expected, tells a get
pub kept_gets : (expected there : Option ℕ) → is_some expected ≡ true → takes_out expected there ≡ false →
    op_to_remove expected there ≡ Get
kept_gets None there some kept = absurd (cc)
kept_gets (Some value) there some kept = ap {B = Op} (λ (b : Bool). if b then Remove else Get) kept

-- a value stays only where another is expected
pub kept_expected : (expected : Option ℕ) (value : ℕ) → takes_out expected (Some value) ≡ false →
    is_some expected ≡ true
kept_expected None value kept = absurd (cc)
kept_expected (Some other) value kept = refl

-- the same call, by its operation
pub told_op : (p : Trace) (key : ℕ) (there : Option ℕ) {one other : Op} → one ≡ other →
    given_in p one key there ≡ given_in p other key there
told_op p key there same = λ i. given_in p (same i) key there
