-- What a pass knows of work to which it lends its stepper: alone, or with a value.
use Rattle.std.specs.Prelude.{◌≡◌, ℕ}
use Rattle.std.specs.Fn.{Once, FnOnceReturnsAtMut}
use denote.Ref.{MutBor}
use Rattle.vbr_slots.specs.steps.Calls.{Took}
use Rattle.vbr_slots.specs.views.Views.{PassView}

-- ---- alone

-- the work says how many steps the pass took
abbrev pub TellsSteps : {F R : Type 0} → Once F (MutBor PassView × Unit {0}) ((R × ℕ) × (MutBor PassView × Unit {0})) → F → PassView → Type 0
TellsSteps {F} {R} g f p = (told : R × ℕ) (q : PassView) → FnOnceReturnsAtMut g f p told q → Took p.trace q.trace told.1

-- the result is what the work gave, which left the pass as it is, after as many steps as it returned
pub record Lends {F R : Type 0} (g : Once F (MutBor PassView × Unit {0}) ((R × ℕ) × (MutBor PassView × Unit {0}))) (f : F) (p q : PassView) (result : R) : Type 0 where
  pub used : ℕ
  pub took : Took p.trace q.trace used
  pub gave : FnOnceReturnsAtMut g f p (result, used) q

-- ---- with a value

-- the work f may be called once at a `&mut` to x and at the value a
abbrev pub TakesWith : {F T A R : Type 0} → Once F (MutBor T × (A × Unit {0})) R → F → T → A → Type 0
TakesWith {F} {T} g f x a = (p : MutBor T) → p.now ≡ x → g.pre f (p, (a, tt))

-- so called, it may give r and leave x'
pub record ReturnsWith {F T A R : Type 0} (g : Once F (MutBor T × (A × Unit {0})) (R × (MutBor T × Unit {0}))) (f : F) (x : T) (a : A) (r : R) (x' : T) : Type 0 where
  pub shown : MutBor T
  pub shows : shown.now ≡ x
  pub left : MutBor T
  pub met : g.post f (shown, (a, tt)) (r, (left, tt))
  pub leaves : left.now ≡ x'

-- the work says how many steps the pass took
abbrev pub TellsStepsWith : {F A R : Type 0} → Once F (MutBor PassView × (A × Unit {0})) ((R × ℕ) × (MutBor PassView × Unit {0})) → F → PassView → A → Type 0
TellsStepsWith {F} {A} {R} g f p a =
    (told : R × ℕ) (q : PassView) → ReturnsWith g f p a told q → Took p.trace q.trace told.1

-- the result is what the work gave, which left the pass as it is, after as many steps as it returned
pub record LendsWith {F A R : Type 0} (g : Once F (MutBor PassView × (A × Unit {0})) ((R × ℕ) × (MutBor PassView × Unit {0}))) (f : F) (p q : PassView) (a : A) (result : R) : Type 0 where
  pub used : ℕ
  pub took : Took p.trace q.trace used
  pub gave : ReturnsWith g f p a (result, used) q
