-- What a call of an iteration answers through a handle.
use Rattle.std.specs.Prelude.{◌≡◌, ◌==◌, ◌&&◌, not, ℕ, ℤ, Bool, true, false, Option, Result}
use Rattle.vbr_list.specs.calls.Told.{is_yes}
use Rattle.vbr_list.specs.declared.cursor.Cursor.{Cursor}
use Rattle.vbr_list.specs.declared.entries.Entry.{Entry}
use Rattle.vbr_at_table.specs.declared.refusal.Refusal.{Refusal}
use Rattle.vbr_set.specs.calls.Iterating.{CallsNext, CallsNextEntry, CallsNextNamedEntry, CallsNextNamedKey}
use Rattle.vbr_set.specs.calls.Members.{MemberView as Member}
use Rattle.vbr_handles.specs.EmptyOrFull.{EmptyOrFull}
use Rattle.vbr_handles.specs.Codes.{call_code, empty_code, reshaped_code}
use Rattle.vbr_handles.specs.ValueCalls.{GivesAnswer}
use Rattle.vbr_handles.specs.declared.cursor.HandleCursor.{HandleCursor}

-- where a cursor stands in its set
abbrev pub place_in_set : HandleCursor → Cursor
place_in_set c = record { bucket = c.bucket; from = c.from }

-- whether the walk of a cursor began, and on another opening than this
abbrev pub began_elsewhere : ℕ → HandleCursor → Bool
began_elsewhere opening c = not (c.opening == 0) && not (c.opening == opening)

-- for a walk that began on another opening the one, otherwise the other
abbrev pub IfElsewhere : Bool → Type 0 → Type 0 → Type 0
IfElsewhere true refused goes_on = refused
IfElsewhere false refused goes_on = goes_on

module _ {A : Type 0} (Calls : Member → Member → Cursor → Cursor → Result (Option A) Refusal → Type 0) (opening : ℕ) where
  -- nothing is done, nothing is written, and the code says that the walk began on another opening
  pub record RefusesReshaped (m n : Member) (c d : HandleCursor) (old new : A) (code : ℤ) : Type 0 where
    pub member : n ≡ m
    pub cursor : d ≡ c
    pub writes : new ≡ old
    pub is : code ≡ reshaped_code

  -- the member made the call from where the cursor stood to where it stands, what is next is written if there is such, and the cursor has the number of this opening
  pub record GoesOnHere (m n : Member) (c d : HandleCursor) (old new : A) (code : ℤ) : Type 0 where
    pub gives : GivesAnswer (λ m n answer. Calls m n (place_in_set c) (place_in_set d) answer) (λ answer. call_code (is_yes answer)) m n old new code
    pub begun : d.opening ≡ opening

  -- an empty handle stays so, has a code of its own, and leaves the cursor where it was; a full one refuses a walk that began on another opening, and else its member made the call
  abbrev pub TellsNextBy : Option Member → Option Member → HandleCursor → HandleCursor → A → A → ℤ → Type 0
  TellsNextBy m n c d old new code = EmptyOrFull ((code ≡ empty_code) × (new ≡ old) × (d ≡ c)) (λ m n. IfElsewhere (began_elsewhere opening c) (RefusesReshaped m n c d old new code) (GoesOnHere m n c d old new code)) m n

-- the same for keys
abbrev pub TellsNext : Option Member → Option Member → ℕ → HandleCursor → HandleCursor → ℕ → ℕ → ℕ → ℤ → Type 0
TellsNext m n opening c d budget old new code = TellsNextBy (λ m n c d answer. CallsNext m n c d budget answer) opening m n c d old new code

-- and for entries, whose key and value are written
abbrev pub TellsNextEntry : Option Member → Option Member → ℕ → HandleCursor → HandleCursor → ℕ → ℕ × ℕ → ℕ × ℕ → ℤ → Type 0
TellsNextEntry m n opening c d budget old new code = TellsNextBy (λ m n c d answer. CallsNextEntry m n c d budget answer) opening m n c d old new code

-- and for keys with their entries, of a map and of a set
abbrev pub TellsNextNamed : Option Member → Option Member → ℕ → HandleCursor → HandleCursor → ℕ → ℕ × Entry → ℕ × Entry → ℤ → Type 0
TellsNextNamed m n opening c d budget old new code = TellsNextBy (λ m n c d answer. CallsNextNamedEntry m n c d budget answer) opening m n c d old new code

abbrev pub TellsNextNamedKey : Option Member → Option Member → ℕ → HandleCursor → HandleCursor → ℕ → ℕ × Entry → ℕ × Entry → ℤ → Type 0
TellsNextNamedKey m n opening c d budget old new code = TellsNextBy (λ m n c d answer. CallsNextNamedKey m n c d budget answer) opening m n c d old new code
