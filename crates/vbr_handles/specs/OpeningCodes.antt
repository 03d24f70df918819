-- What an opening of handles answers as a number.
use Rattle.std.specs.Prelude.{◌≡◌, ℕ, ℤ, List, Option, Result}
use Rattle.vbr_machine.specs.Start.{Start}
use Rattle.vbr_slots.specs.declared.opening.TheConstants.{MAX_MANY_PASSES, MAX_PASSES}
use Rattle.vbr_set.specs.calls.Members.{MemberView as Member}
use Rattle.vbr_handles.specs.Opening.{Opens}
use Rattle.vbr_handles.specs.Openings.{BeginAnew}
use Rattle.vbr_handles.specs.declared.handle.Handle.{Handle}
use Rattle.vbr_handles.specs.declared.handle.MapHandle.{MapHandle}
use Rattle.vbr_handles.specs.declared.opening.OpenRefusal.{OpenRefusal}
use Rattle.vbr_handles.specs.Codes.{open_code}

-- the code is the code of an answer to an opening, for so many handles at most, with the numbers and the keys of this start; if it is done, the handles have the number of a fresh opening
pub record TellsOpeningBy {H : Type 0} (member : H → Option Member) (opening : H → ℕ) (most : ℕ) (before after : List H) (start : Start) (code : ℤ) : Type 0 where
  pub answer : Result (Unit {0}) OpenRefusal
  pub is : code ≡ open_code answer
  pub opens : Opens member most before after start answer
  pub begins : BeginAnew opening before after answer

-- the same for the handles of a set
abbrev pub TellsOpeningWith : List Handle → List Handle → Start → ℤ → Type 0
TellsOpeningWith = TellsOpeningBy (λ (handle : Handle). handle.owned.member) (λ (handle : Handle). handle.opening) MAX_PASSES

-- and for many handles
abbrev pub TellsOpeningMany : List Handle → List Handle → Start → ℤ → Type 0
TellsOpeningMany = TellsOpeningBy (λ (handle : Handle). handle.owned.member) (λ (handle : Handle). handle.opening) MAX_MANY_PASSES

-- and for the handles of a map
abbrev pub TellsMapOpeningWith : List MapHandle → List MapHandle → Start → ℤ → Type 0
TellsMapOpeningWith = TellsOpeningBy (λ (handle : MapHandle). handle.owned.member) (λ (handle : MapHandle). handle.opening) MAX_PASSES

abbrev pub TellsMapOpeningMany : List MapHandle → List MapHandle → Start → ℤ → Type 0
TellsMapOpeningMany = TellsOpeningBy (λ (handle : MapHandle). handle.owned.member) (λ (handle : MapHandle). handle.opening) MAX_MANY_PASSES
