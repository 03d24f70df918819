-- What a handle shows without a call: numbers of its set and of its pass, each 0 if it is empty.
use Rattle.std.specs.Prelude.{◌≡◌, ℕ, ◌<◌, ◌^◌, ℤ, pos, Option, None, Some}
use Rattle.vbr_words.specs.Buckets.{multiplier_of}
use Rattle.vbr_slots.specs.views.Views.{knows}
use Rattle.vbr_set.specs.members.Balances.{balance_of}
use Rattle.vbr_set.specs.calls.Members.{MemberView as Member}

-- the last epoch that the pass read, which is 1 if it read none
abbrev pub epoch_of_handle : Option Member → ℕ
epoch_of_handle None = 0
epoch_of_handle (Some m) = (knows m.pass.trace).epoch

-- the last epoch of the set
abbrev pub last_epoch_of : Option Member → ℕ
last_epoch_of None = 0
last_epoch_of (Some m) = m.set.start.shape.last_epoch

-- how many slots the set has
abbrev pub slots_of : Option Member → ℕ
slots_of None = 0
slots_of (Some m) = m.set.start.shape.slots

-- how many buckets the set has
abbrev pub buckets_of : Option Member → ℕ
buckets_of None = 0
buckets_of (Some m) = m.set.start.shape.buckets

-- keys are multiplied by what this seed stands for, the lesser of the two that stand for it; 0 if they aren't spread
abbrev pub SpreadsBy : Option ℕ → ℕ → Type 0
SpreadsBy None seed = seed ≡ 0
SpreadsBy (Some multiplier) seed = (multiplier ≡ multiplier_of seed) × (seed < 2 ^ 63)

-- the same for the set
abbrev pub IsSeedOf : Option Member → ℕ → Type 0
IsSeedOf None seed = seed ≡ 0
IsSeedOf (Some m) seed = SpreadsBy m.set.start.shape.spread seed

-- the number of keys that the calls of the member have added, less the number that they took out
abbrev pub balance_shown : Option Member → ℤ
balance_shown None = pos 0
balance_shown (Some m) = balance_of m
