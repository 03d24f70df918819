-- What look-ups in a batch answer through a handle: the number of each answer is the number of the call of its key.
use Rattle.std.specs.Prelude.{ℕ, ℤ, List, Option}
use Rattle.vbr_machine.specs.declared.history.Op.TheVariants.{Has}
use Rattle.vbr_set.specs.calls.Batches.{InTurn}
use Rattle.vbr_set.specs.calls.Members.{MemberView as Member}
use Rattle.vbr_handles.specs.Calls.{TellsCall}
use Rattle.vbr_handles.specs.ValueCalls.{TellsGetEntry}
use Rattle.vbr_handles.specs.declared.found.Found.{Found}

-- a get answers this, and if it gives no value that is 0
abbrev pub TellsFound : Option Member → Option Member → ℕ → ℕ → Found → Type 0
TellsFound m n key budget found = TellsGetEntry m n key budget 0 found.value found.answer

-- the same for look-ups, each with this budget
abbrev pub TellsHasAll : Option Member → Option Member → List ℕ → ℕ → List ℤ → Type 0
TellsHasAll m n keys budget codes = InTurn (λ m n key code. TellsCall Has m n key budget code) m n keys codes

-- and for gets
abbrev pub TellsGetAll : Option Member → Option Member → List ℕ → ℕ → List Found → Type 0
TellsGetAll m n keys budget found = InTurn (λ m n key one. TellsFound m n key budget one) m n keys found
