-- The operations of a text are for its workers, in its phases, one after the other.
use Rattle.std.proofs.Common.{◌≡◌, ◌≢◌, ℕ, ◌+◌, ◌<◌, ◌≤◌, ◌^◌, Bool, true, false, nat_lt, List, [], ◌∷◌, map, Option}
use Rattle.std.proofs.Common.{Some, None, if◌then◌else◌, codes, refl, arith}
use Rattle.std.specs.Prelude.{count_by}
use Rattle.std.specs.List.{All, AllByRecursion}
use Rattle.std.specs.Str.{bytes_eq}
use Rattle.std.proofs.lemmas.Bool.Decides.{nat_tests}
use Rattle.std.proofs.lemmas.List.Elements.{All-nil, All-cons, All-weaker}
use Rattle.vbr_machine.specs.declared.history.Op.{Op}
use Rattle.vbr_machine.specs.declared.history.Op.TheVariants.{Insert, Remove, Has, Get}
use Rattle.vbr_script.specs.declared.script.Kind.{Kind}
use Rattle.vbr_script.specs.declared.script.Kind.TheVariants.{Set, Map}
use Rattle.vbr_script.specs.declared.script.Line.{Line}
use Rattle.vbr_script.specs.declared.script.ScriptFault.TheVariants.{Words, TooMany}
use Rattle.vbr_script.specs.declared.script.Meaning.{Meaning}
use Rattle.vbr_script.specs.declared.script.Meaning.TheVariants.{Blank, Sync, Renew, Asks, Faulty}
use Rattle.vbr_script.specs.declared.script.TheConstants.{MAX_OPERATIONS, MAX_SYNCS}
use Rattle.vbr_script.specs.Text.{lines_of, tokens_of}
use Rattle.vbr_script.specs.Number.{number_below}
use Rattle.vbr_script.specs.Grammar.{operation_of, op_with_value, meaning_of_tokens, meaning_of, lone_token}
use Rattle.vbr_script.specs.Scripts.{all_limited, operations_from, ends_phase, meanings_of, script_of, phases_of}
use Rattle.vbr_script.specs.Scripts.{renewals_from, renewals_of, AscendFrom, MayAsk, ArePhased, AreRenewalsFrom}
use Rattle.vbr_script.proofs.LinesRead.{one_more}

-- ---- workers

-- a line is of one of so many workers, and is one that a script of this kind may ask
abbrev IsRequest : Kind → ℕ → Line → Type 0
IsRequest kind workers line = (line.worker < workers) × MayAsk kind line.op line.value

-- so is an operation that is asked for
abbrev IsOfWorker : Kind → ℕ → Meaning → Type 0
IsOfWorker kind workers (Asks worker op key value) = (worker < workers) × MayAsk kind op value
IsOfWorker kind workers _ = Unit {0}

-- no token names a get of a set
never_get : (token : List ℕ) (op : Op) → operation_of Set token ≡ Some op → op ≢ Get
unfolding operation_of
never_get token op =
    by_case (bytes_eq token (codes "insert")) (bytes_eq token (codes "remove")) (bytes_eq token (codes "has"))
  where
    by_case : (insert remove has : Bool) →
        (if insert then Some Insert else (if remove then Some Remove else (if has then Some Has else None))) ≡ Some op →
        op ≢ Get
    by_case true remove has is get = absurd (cc)
    by_case false true has is get = absurd (cc)
    by_case false false true is get = absurd (cc)
    by_case false false false is get = absurd (cc)

-- where no value is written it is 0
unwritten : (kind : Kind) (token : List ℕ) (op : Op) (value : ℕ) → operation_of kind token ≡ Some op →
    Some 0 ≡ Some value → MayAsk kind op value
unwritten Set token op value is none = (never_get token op is, cc)
unwritten Map token op value is none = λ other. cc

-- where one is written the operation is an insert
written : (named : Option Op) (op : Op) (value : ℕ) → op_with_value named ≡ Some op → MayAsk Map op value
written None op value is other = absurd (cc)
written (Some Insert) op value is other = absurd (other (cc))
written (Some Remove) op value is other = absurd (cc)
written (Some Has) op value is other = absurd (cc)
written (Some Get) op value is other = absurd (cc)

number_is_below : (limit : ℕ) (token : List ℕ) (n : ℕ) → number_below limit token ≡ Some n → n < limit
number_is_below limit token n is = grind (arith, nat_tests)

-- what tokens mean is of a worker below the limit
request : (kind : Kind) (workers : ℕ) (worker : Option ℕ) (op : Option Op) (key value : Option ℕ) →
    ((n : ℕ) → worker ≡ Some n → n < workers) → ((o : Op) (v : ℕ) → op ≡ Some o → value ≡ Some v → MayAsk kind o v) →
    IsOfWorker kind workers (meaning_of_tokens worker op key value)
request kind workers None op key value below may = tt
request kind workers (Some n) None key value below may = tt
request kind workers (Some n) (Some op) None value below may = tt
request kind workers (Some n) (Some op) (Some key) None below may = tt
request kind workers (Some n) (Some op) (Some key) (Some value) below may = (below n refl, may op value refl refl)

lone : (kind : Kind) (workers : ℕ) (token : List ℕ) → IsOfWorker kind workers (lone_token token)
unfolding lone_token
lone kind workers token = by_case (bytes_eq token (codes "sync")) (bytes_eq token (codes "renew"))
  where
    by_case : (sync renew : Bool) →
        IsOfWorker kind workers (if sync then Sync else (if renew then Renew else Faulty Words))
    by_case true renew = tt
    by_case false true = tt
    by_case false false = tt

-- so are the tokens of each line
tokens : (kind : Kind) (workers : ℕ) (line : List (List ℕ)) → IsOfWorker kind workers (meaning_of kind workers line)
tokens kind workers [] = tt
tokens kind workers (token ∷ []) = lone kind workers token
tokens kind workers (worker ∷ op ∷ []) = tt
tokens kind workers (worker ∷ op ∷ key ∷ []) =
    request kind workers (number_below workers worker) (operation_of kind op) (number_below (2 ^ 64) key) (Some 0)
    (number_is_below workers worker) (unwritten kind op)
tokens Set workers (worker ∷ op ∷ key ∷ value ∷ rest) = tt
tokens Map workers (worker ∷ op ∷ key ∷ value ∷ []) =
    request Map workers (number_below workers worker) (op_with_value (operation_of Map op)) (number_below (2 ^ 64) key)
    (number_below (2 ^ 64) value) (number_is_below workers worker) (λ o v is _. written (operation_of Map op) o v is)
tokens Map workers (worker ∷ op ∷ key ∷ value ∷ more ∷ rest) = tt

-- and those of all lines
all_tokens : (kind : Kind) (workers : ℕ) (lines : List (List ℕ)) →
    AllByRecursion (IsOfWorker kind workers) (map (λ line. meaning_of kind workers (tokens_of line)) lines)
all_tokens kind workers [] = tt
all_tokens kind workers (line ∷ lines) = (tokens kind workers (tokens_of line), all_tokens kind workers lines)

-- a line that is one too many asks for nothing, nor do those behind it
if_fits : (kind : Kind) (workers phase : ℕ) (line : Meaning) (rest : List Meaning) (fits : Bool) →
    All (IsRequest kind workers) (operations_from phase (line ∷ rest)) →
    All (IsRequest kind workers) (operations_from phase ((if fits then line else Faulty TooMany) ∷ rest))
if_fits kind workers phase line rest true all = all
if_fits kind workers phase line rest false all = All-nil (IsRequest kind workers)

of_workers : (kind : Kind) (workers : ℕ) (lines : List Meaning) (operations syncs phase : ℕ) →
    AllByRecursion (IsOfWorker kind workers) lines →
    All (IsRequest kind workers) (operations_from phase (all_limited operations syncs lines))
of_workers kind workers [] operations syncs phase all = All-nil (IsRequest kind workers)
of_workers kind workers (Blank ∷ lines) operations syncs phase all =
    of_workers kind workers lines operations syncs phase all.1
of_workers kind workers (Faulty fault ∷ lines) operations syncs phase all = All-nil (IsRequest kind workers)
of_workers kind workers (Sync ∷ lines) operations syncs phase all =
    if_fits kind workers phase Sync (all_limited operations (syncs + 1) lines) (nat_lt syncs MAX_SYNCS)
    (of_workers kind workers lines operations (syncs + 1) (phase + 1) all.1)
of_workers kind workers (Renew ∷ lines) operations syncs phase all =
    if_fits kind workers phase Renew (all_limited operations (syncs + 1) lines) (nat_lt syncs MAX_SYNCS)
    (of_workers kind workers lines operations (syncs + 1) (phase + 1) all.1)
of_workers kind workers (Asks worker op key value ∷ lines) operations syncs phase all =
    if_fits kind workers phase (Asks worker op key value) (all_limited (operations + 1) syncs lines)
    (nat_lt operations MAX_OPERATIONS)
    (All-cons (IsRequest kind workers) (record { phase = phase; worker = worker; op = op; key = key; value = value }) _
    all.0 (of_workers kind workers lines (operations + 1) syncs phase all.1))

-- ---- phases

-- operations lie in the phases from one on, of which there are so many more after it, and in order
record LieFrom (phase more : ℕ) (lines : List Line) : Type 0 where
  below : All (λ line. line.phase ≤ phase + more) lines
  ascend : AscendFrom phase lines

none_lie : (phase more : ℕ) → LieFrom phase more []
none_lie phase more = record { below = All-nil _; ascend = tt }

one_lies : (phase more : ℕ) (line : Line) (lines : List Line) → line.phase ≡ phase → LieFrom phase more lines →
    LieFrom phase more (line ∷ lines)
one_lies phase more line lines here rest = record {
  below = All-cons (λ line. line.phase ≤ phase + more) line lines (omega arith) rest.below;
  ascend = (omega arith, rw here rest.ascend);
}

as_many : (phase more less : ℕ) (lines : List Line) → less ≡ more → LieFrom phase more lines → LieFrom phase less lines
as_many phase more less lines same rest = rw same rest

ascend_lower : (low high : ℕ) (lines : List Line) → low ≤ high → AscendFrom high lines → AscendFrom low lines
ascend_lower low high [] lower rest = tt
ascend_lower low high (line ∷ lines) lower rest = (omega (arith, rest.0), rest.1)

later_lie : (phase more less : ℕ) (lines : List Line) → less + 1 ≡ more → LieFrom (phase + 1) less lines →
    LieFrom phase more lines
later_lie phase more less lines one rest = record {
  below = All-weaker (λ line. line.phase ≤ phase + 1 + less) (λ line. line.phase ≤ phase + more)
      (λ line high. omega arith) lines rest.below;
  ascend = ascend_lower phase (phase + 1) lines (omega arith) rest.ascend;
}

lie_from : (lines : List Meaning) (phase : ℕ) → LieFrom phase (count_by ends_phase lines) (operations_from phase lines)
lie_from [] phase = none_lie phase 0
lie_from (Blank ∷ lines) phase = rw (one_more Blank lines) (as_many phase _ _ _ (omega arith) (lie_from lines phase))
lie_from (Sync ∷ lines) phase =
    rw (one_more Sync lines) (later_lie phase _ _ _ (omega arith) (lie_from lines (phase + 1)))
lie_from (Renew ∷ lines) phase =
    rw (one_more Renew lines) (later_lie phase _ _ _ (omega arith) (lie_from lines (phase + 1)))
lie_from (Asks worker op key value ∷ lines) phase =
    rw (one_more (Asks worker op key value) lines)
    (one_lies phase _ (record { phase = phase; worker = worker; op = op; key = key; value = value })
    (operations_from phase lines) refl (as_many phase _ _ _ (omega arith) (lie_from lines phase)))
lie_from (Faulty kind ∷ lines) phase = none_lie phase (count_by ends_phase (Faulty kind ∷ lines))

-- ---- renewals

-- renewals from a later phase on are such from an earlier one
renewals_lower : (low high phases : ℕ) (renewals : List ℕ) → low ≤ high → AreRenewalsFrom high phases renewals →
    AreRenewalsFrom low phases renewals
renewals_lower low high phases [] lower rest = tt
renewals_lower low high phases (renewal ∷ renewals) lower rest = (omega (arith, rest.0), rest.1, rest.2)

-- the lines from a phase on renew the set after phases that aren't the last
renew_from : (lines : List Meaning) (phase phases : ℕ) → phase + count_by ends_phase lines < phases →
    AreRenewalsFrom phase phases (renewals_from phase lines)
renew_from [] phase phases inside = tt
renew_from (Blank ∷ lines) phase phases inside = renew_from lines phase phases (omega (arith, one_more Blank lines))
renew_from (Sync ∷ lines) phase phases inside =
    renewals_lower phase (phase + 1) phases (renewals_from (phase + 1) lines) (omega arith)
    (renew_from lines (phase + 1) phases (omega (arith, one_more Sync lines)))
renew_from (Renew ∷ lines) phase phases inside = (
  omega arith,
  omega (arith, one_more Renew lines),
  renew_from lines (phase + 1) phases (omega (arith, one_more Renew lines)),
)
renew_from (Asks worker op key value ∷ lines) phase phases inside =
    renew_from lines phase phases (omega (arith, one_more (Asks worker op key value) lines))
renew_from (Faulty kind ∷ lines) phase phases inside = tt

pub renewed : (kind : Kind) (workers : ℕ) (text : List ℕ) →
    AreRenewalsFrom 0 (phases_of kind workers text) (renewals_of kind workers text)
renewed kind workers text = renew_from (meanings_of kind workers text) 0 (phases_of kind workers text) (omega arith)

-- ---- both

pub phased : (kind : Kind) (workers : ℕ) (text : List ℕ) →
    ArePhased kind workers (phases_of kind workers text) (script_of kind workers text)
phased kind workers text =
    let lie = lie_from (meanings_of kind workers text) 0 in
    let requests =
    of_workers kind workers (map (λ line. meaning_of kind workers (tokens_of line)) (lines_of text)) 0 0 0
    (all_tokens kind workers (lines_of text)) in
    record {
      workers_below =
          All-weaker (IsRequest kind workers) (λ line. line.worker < workers) (λ line is. is.0)
          (script_of kind workers text) requests;
      may_ask = All-weaker (IsRequest kind workers) (λ line. MayAsk kind line.op line.value) (λ line is. is.1)
          (script_of kind workers text) requests;
      phases_below =
          All-weaker (λ line. line.phase ≤ 0 + count_by ends_phase (meanings_of kind workers text))
          (λ line. line.phase < phases_of kind workers text) (λ line high. omega arith) (script_of kind workers text)
          lie.below;
      ascend = lie.ascend;
    }
