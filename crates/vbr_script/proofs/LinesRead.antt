-- A text that is read line by line means what was read so far, and then what is left.
use Rattle.std.proofs.Common.{◌≡◌, ℕ, ◌+◌, ◌<◌, ◌≤◌, cond, List, [], ◌∷◌, ◌++◌, length, map, append_assoc}
use Rattle.std.proofs.Common.{length-append, arith}
use Rattle.std.specs.Prelude.{count_by}
use Rattle.std.proofs.lemmas.Bool.Decides.{nat_tests}
use Rattle.std.proofs.lemmas.List.Sums.{sum_by-cons}
use Rattle.vbr_machine.specs.declared.history.Op.{Op}
use Rattle.vbr_script.specs.declared.script.Kind.{Kind}
use Rattle.vbr_script.specs.declared.script.Line.{Line}
use Rattle.vbr_script.specs.declared.script.Meaning.{Meaning}
use Rattle.vbr_script.specs.declared.script.Meaning.TheVariants.{Blank, Sync, Renew, Asks}
use Rattle.vbr_script.specs.declared.script.TheConstants.{MAX_OPERATIONS, MAX_SYNCS}
use Rattle.vbr_script.specs.Text.{lines_of, tokens_of}
use Rattle.vbr_script.specs.Grammar.{meaning_of}
use Rattle.vbr_script.specs.Scripts.{limited, all_limited, operations_from, renewals_from, first_fault_from, ends_phase}
use Rattle.vbr_script.specs.Scripts.{script_of, phases_of, renewals_of, first_fault}

-- one more line counts where it ends a phase
pub one_more : (line : Meaning) (lines : List Meaning) →
    count_by ends_phase (line ∷ lines) ≡ cond (ends_phase line) 1 0 + count_by ends_phase lines
one_more line lines = sum_by-cons (λ line. cond (ends_phase line) 1 0) line lines

-- what lines of tokens mean
abbrev pub all_meanings : Kind → ℕ → List (List ℕ) → List Meaning
all_meanings kind workers lines = map (λ line. meaning_of kind workers (tokens_of line)) lines

-- ---- one line in front of others

blank : (operations syncs : ℕ) (line : Meaning) (lines : List Meaning) → limited operations syncs line ≡ Blank →
    all_limited operations syncs (line ∷ lines) ≡ Blank ∷ all_limited operations syncs lines
blank operations syncs line lines is = grind (arith, nat_tests)

sync : (operations syncs : ℕ) (line : Meaning) (lines : List Meaning) → limited operations syncs line ≡ Sync →
    (syncs < MAX_SYNCS) ×
    (all_limited operations syncs (line ∷ lines) ≡ Sync ∷ all_limited operations (syncs + 1) lines)
sync operations syncs line lines is = grind (arith, nat_tests)

renew : (operations syncs : ℕ) (line : Meaning) (lines : List Meaning) → limited operations syncs line ≡ Renew →
    (syncs < MAX_SYNCS) ×
    (all_limited operations syncs (line ∷ lines) ≡ Renew ∷ all_limited operations (syncs + 1) lines)
renew operations syncs line lines is = grind (arith, nat_tests)

asks : (operations syncs : ℕ) (line : Meaning) (lines : List Meaning) (worker : ℕ) (op : Op) (key value : ℕ) →
    limited operations syncs line ≡ Asks worker op key value →
    (operations < MAX_OPERATIONS) ×
    (all_limited operations syncs (line ∷ lines) ≡ Asks worker op key value ∷ all_limited (operations + 1) syncs lines)
asks operations syncs line lines worker op key value is = grind (arith, nat_tests)

-- ---- what was read

-- of the lines of a text these operations and renewals, this phase and this number of a line were read, and these
-- lines are left
pub record HasRead (kind : Kind) (workers : ℕ) (text : List ℕ) (lines : List Line) (renewals : List ℕ)
    (phase number : ℕ) (left : List Meaning) : Type 0 where
  pub operations : lines ++ operations_from phase (all_limited (length lines) phase left) ≡ script_of kind workers text
  pub renewed : renewals ++ renewals_from phase (all_limited (length lines) phase left) ≡ renewals_of kind workers text
  pub phases : phase + count_by ends_phase (all_limited (length lines) phase left) + 1 ≡ phases_of kind workers text
  pub fault : first_fault_from number (all_limited (length lines) phase left) ≡ first_fault kind workers text
  pub few_operations : length lines ≤ MAX_OPERATIONS
  pub few_syncs : phase ≤ MAX_SYNCS

-- the first of the lines of a text that are left
pub first_left : (kind : Kind) (workers : ℕ) (text : List ℕ) (lines : List Line) (renewals : List ℕ) (phase number : ℕ)
    (rest line after : List ℕ) → lines_of rest ≡ line ∷ lines_of after →
    HasRead kind workers text lines renewals phase number (all_meanings kind workers (lines_of rest)) →
    HasRead kind workers text lines renewals phase number
    (meaning_of kind workers (tokens_of line) ∷ all_meanings kind workers (lines_of after))
first_left kind workers text lines renewals phase number rest line after is read = rw is at read

pub read_blank : (kind : Kind) (workers : ℕ) (text : List ℕ) (lines : List Line) (renewals : List ℕ) (phase number : ℕ)
    (line : Meaning) (left : List Meaning) → HasRead kind workers text lines renewals phase number (line ∷ left) →
    limited (length lines) phase line ≡ Blank → HasRead kind workers text lines renewals phase (number + 1) left
read_blank kind workers text lines renewals phase number line left read is =
    let here = blank (length lines) phase line left is in
    record {
      operations = rw here at read.operations;
      renewed = rw here at read.renewed;
      phases = omega (arith, rw (here, one_more Blank (all_limited (length lines) phase left)) at read.phases);
      fault = rw here at read.fault;
      few_operations = read.few_operations;
      few_syncs = read.few_syncs;
    }

pub read_sync : (kind : Kind) (workers : ℕ) (text : List ℕ) (lines : List Line) (renewals : List ℕ) (phase number : ℕ)
    (line : Meaning) (left : List Meaning) → HasRead kind workers text lines renewals phase number (line ∷ left) →
    limited (length lines) phase line ≡ Sync → HasRead kind workers text lines renewals (phase + 1) (number + 1) left
read_sync kind workers text lines renewals phase number line left read is =
    let here = sync (length lines) phase line left is in
    record {
      operations = rw here.1 at read.operations;
      renewed = rw here.1 at read.renewed;
      phases = omega (arith, rw (here.1, one_more Sync (all_limited (length lines) (phase + 1) left)) at read.phases);
      fault = rw here.1 at read.fault;
      few_operations = read.few_operations;
      few_syncs = omega (arith, here.0);
    }

pub read_renew : (kind : Kind) (workers : ℕ) (text : List ℕ) (lines : List Line) (renewals : List ℕ) (phase number : ℕ)
    (line : Meaning) (left : List Meaning) → HasRead kind workers text lines renewals phase number (line ∷ left) →
    limited (length lines) phase line ≡ Renew →
    HasRead kind workers text lines (renewals ++ phase ∷ []) (phase + 1) (number + 1) left
read_renew kind workers text lines renewals phase number line left read is =
    let here = renew (length lines) phase line left is in
    record {
      operations = rw here.1 at read.operations;
      renewed = rw append_assoc (rw here.1 at read.renewed);
      phases = omega (arith, rw (here.1, one_more Renew (all_limited (length lines) (phase + 1) left)) at read.phases);
      fault = rw here.1 at read.fault;
      few_operations = read.few_operations;
      few_syncs = omega (arith, here.0);
    }

pub read_asks : (kind : Kind) (workers : ℕ) (text : List ℕ) (lines : List Line) (renewals : List ℕ) (phase number : ℕ)
    (line : Meaning) (left : List Meaning) (worker : ℕ) (op : Op) (key value : ℕ) →
    HasRead kind workers text lines renewals phase number (line ∷ left) →
    limited (length lines) phase line ≡ Asks worker op key value →
    HasRead kind workers text
    (lines ++ record { phase = phase; worker = worker; op = op; key = key; value = value } ∷ []) renewals phase
    (number + 1) left
read_asks kind workers text lines renewals phase number line left worker op key value read is =
    let here = asks (length lines) phase line left worker op key value is in
    let one : Line = record { phase = phase; worker = worker; op = op; key = key; value = value } in
    let longer : length (lines ++ one ∷ []) ≡ length lines + 1 = length-append lines (one ∷ []) in
    record {
      operations = rw (longer, append_assoc) (rw here.1 at read.operations);
      renewed = rw longer (rw here.1 at read.renewed);
      phases = rw longer
          (omega (
            arith,
            rw (here.1, one_more (Asks worker op key value) (all_limited (length lines + 1) phase left)) at read.phases,
          ));
      fault = rw longer (rw here.1 at read.fault);
      few_operations = rw longer (omega (arith, here.0));
      few_syncs = read.few_syncs;
    }
