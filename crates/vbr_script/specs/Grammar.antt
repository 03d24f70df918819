-- What a line of tokens means.
use Rattle.std.specs.Prelude.{ℕ, Bool, true, false, ◌&&◌, ◌^◌, List, [], ◌∷◌, Option, Some, None, codes, if◌then◌else◌}
use Rattle.std.specs.Str.{bytes_eq}
use Rattle.vbr_machine.specs.declared.history.Op.{Op}
use Rattle.vbr_machine.specs.declared.history.Op.TheVariants.{Insert, Remove, Has, Get}
use Rattle.vbr_script.specs.declared.script.Kind.{Kind}
use Rattle.vbr_script.specs.declared.script.Kind.TheVariants as kind
use Rattle.vbr_script.specs.declared.script.ScriptFault.{ScriptFault}
use Rattle.vbr_script.specs.declared.script.ScriptFault.TheVariants as fault
use Rattle.vbr_script.specs.declared.script.Meaning.{Meaning}
use Rattle.vbr_script.specs.declared.script.Meaning.TheVariants.{Blank, Sync, Renew, Asks, Faulty}
use Rattle.vbr_script.specs.Number.{number_below}

-- whether a script is of a map
abbrev pub is_map : Kind → Bool
is_map kind.Set = false
is_map kind.Map = true

-- the operation that a token names; a get is one of maps alone
unfoldable pub operation_of : Kind → List ℕ → Option Op
operation_of kind token =
    if bytes_eq token (codes "insert") then Some Insert
    else (if bytes_eq token (codes "remove") then Some Remove
    else (if bytes_eq token (codes "has") then Some Has
    else (if is_map kind && bytes_eq token (codes "get") then Some Get
    else None)))

-- the operation of a line that has a value: an insert, or none
abbrev pub op_with_value : Option Op → Option Op
op_with_value (Some Insert) = Some Insert
op_with_value _ = None

-- what a worker, an operation, a key and a value mean, in the order of the tests
abbrev pub meaning_of_tokens : Option ℕ → Option Op → Option ℕ → Option ℕ → Meaning
meaning_of_tokens None operation key value = Faulty fault.Worker
meaning_of_tokens (Some worker) None key value = Faulty fault.Operation
meaning_of_tokens (Some worker) (Some operation) None value = Faulty fault.Key
meaning_of_tokens (Some worker) (Some operation) (Some key) None = Faulty fault.Value
meaning_of_tokens (Some worker) (Some operation) (Some key) (Some value) = Asks worker operation key value

-- what a token alone on its line means
unfoldable pub lone_token : List ℕ → Meaning
lone_token token =
    if bytes_eq token (codes "sync") then Sync
    else (if bytes_eq token (codes "renew") then Renew
    else Faulty fault.Words)

-- what the tokens of a line mean to a script of this kind for so many workers: the value is 0 if none is written, and sets have none
abbrev pub meaning_of : Kind → ℕ → List (List ℕ) → Meaning
meaning_of kind workers [] = Blank
meaning_of kind workers (token ∷ []) = lone_token token
meaning_of kind workers (worker ∷ operation ∷ key ∷ []) = meaning_of_tokens (number_below workers worker) (operation_of kind operation) (number_below (2 ^ 64) key) (Some 0)
meaning_of kind.Map workers (worker ∷ operation ∷ key ∷ value ∷ []) = meaning_of_tokens (number_below workers worker) (op_with_value (operation_of kind.Map operation)) (number_below (2 ^ 64) key) (number_below (2 ^ 64) value)
meaning_of kind workers _ = Faulty fault.Words

-- a script fault's number, in the order of the tests but for the test of a value
abbrev pub fault_number : ScriptFault → ℕ
fault_number fault.Words = 1
fault_number fault.Worker = 2
fault_number fault.Operation = 3
fault_number fault.Key = 4
fault_number fault.TooMany = 5
fault_number fault.Value = 6
