-- What a worker has swept that goes over all pages and frees those that it comes upon.
use Rattle.std.specs.Prelude.{◌≡◌, ℕ, ◌-◌, ◌^◌, min, List, length}
use Rattle.vbr_slots.specs.views.Views.{Trace}
use Rattle.vbr_list.specs.look_ups.Cursors.{HasGivenAll}

-- it came upon so many pages, as far as a count goes: each that was claimed all the while, once, and none that wasn't at a moment
pub record HasSwept (p q : Trace) (count : ℕ) : Type 0 where
  pub pages : List ℕ
  pub all : HasGivenAll p q pages
  pub is : count ≡ min (length pages) (2 ^ 64 - 1)
