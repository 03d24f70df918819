-- The fields of the number are those of its link.
use Rattle.std.proofs.Common.{◌≡◌, ◌≤◌, ◌-◌, ◌/◌, ◌%◌, ◌==◌, ℕ, zero, suc, Option, Some, None, refl, ap, arith}
use Rattle.std.specs.Option.{SomeIff}
use Rattle.vbr_words.specs.declared.link.TheConstants.{MARK, VERSION_UNIT}
use Rattle.vbr_words.specs.Words.{link_of, slot_in}
use Rattle.vbr_world.proofs.world.numbers.link_of.Goals as goal

-- what a checked subtraction of 1 gives is the slot of the field
slot_is : (slot : Option ℕ) (field : ℕ) → SomeIff slot (1 ≤ field) (field - 1) → slot ≡ slot_in field
slot_is None zero h = refl
slot_is None (suc s) h = absurd (h (omega arith))
slot_is (Some r) zero h = absurd (omega (arith, h.0))
slot_is (Some r) (suc s) h = ap Some (omega (arith, h.1))

-- the fields, with a slot that a checked subtraction gave
fields_are : (number : ℕ) (slot : Option ℕ) → SomeIff slot (1 ≤ number % MARK) (number % MARK - 1) →
    record { slot = slot; mark = number / MARK % 2 == 1; version = number / VERSION_UNIT } ≡ link_of number
unfolding link_of
fields_are number slot is =
    ap (λ (s : Option ℕ). record { slot = s; mark = number / MARK % 2 == 1; version = number / VERSION_UNIT })
    (slot_is slot (number % MARK) is)

pub returns-clause-link : goal.returns-clause-link
returns-clause-link c = fields_are c.args.number _ c.checked_sub.ensures
