-- Members of seats: what they have seen of a longer run, and how often a number stands among them.
use Rattle.std.proofs.Common.{◌≡◌, ◌≢◌, ℕ, zero, suc, ◌+◌, ◌<◌, ◌≤◌, ◌==◌, eq-eqb, ne_eqb, List, [], ◌∷◌, ◌++◌, set}
use Rattle.std.proofs.Common.{refl, sym, ap, subst, arith}
use mathlib.Core.Logic.{dite}
use native.Mathlib.Decide.{ℕ_discrete}
use mathlib.Core.Option.{some, some-ne-none, some-injective}
use lib.ListN.{get_elem?}
use Rattle.std.specs.Prelude.{Bool}
use Rattle.vbr_machine.specs.Start.{Start}
use Rattle.vbr_machine.specs.Machine.{World, after}
use Rattle.vbr_machine.specs.Runs.{AreAccepted, Begins, BeginsFor, IsRun, NoneOf}
use Rattle.vbr_machine.specs.declared.event.Event.{Event}
use Rattle.vbr_machine.proofs.Lemmas.{begins_for-snoc}
use Rattle.vbr_slots.specs.declared.rule.Opened.{Opened}
use Rattle.vbr_slots.specs.declared.rule.Witness.{Witness}
use Rattle.vbr_slots.specs.runs.Rule.{EachBegins, witness, witnesses, nobody, times, times_in}
use Rattle.vbr_machine.specs.Disturbances.{one_if}

pub each_begins_more : (run : List Event) (e : Event) (v : List Witness) → times e.pass v ≡ 0 → EachBegins run v →
    EachBegins (run ++ e ∷ []) v
each_begins_more run e [] away b = tt
each_begins_more run e (m ∷ ms) away b = (
  begins_for-snoc m.who m.seen run e b.0
      (λ is. let one : one_if (m.who == e.pass) ≡ 1 = ap one_if (eq-eqb m.who e.pass (sym is)) in absurd (omega arith)),
  each_begins_more run e ms (omega arith) b.1,
)

pub one_in : (who : ℕ) (vs : List (List Witness)) (j : ℕ) (b : List Witness) → get_elem? vs j ≡ some b →
    times who b ≤ times_in who vs
one_in who [] j b at_index = absurd (some-ne-none b (sym at_index))
one_in who (v ∷ vs) zero b at_index =
    let same : times who v ≡ times who b = ap (times who) (some-injective v b at_index) in omega arith
one_in who (v ∷ vs) (suc j) b at_index = let more = one_in who vs j b at_index in omega arith

pub two_in : (who : ℕ) (vs : List (List Witness)) (i j : ℕ) (a b : List Witness) → j ≢ i → get_elem? vs i ≡ some a →
    get_elem? vs j ≡ some b → times who a + times who b ≤ times_in who vs
two_in who [] i j a b apart ai bj = absurd (some-ne-none b (sym bj))
two_in who (v ∷ vs) zero zero a b apart ai bj = absurd (apart refl)
two_in who (v ∷ vs) zero (suc j) a b apart ai bj =
    let same : times who v ≡ times who a = ap (times who) (some-injective v a ai) in
    let more = one_in who vs j b bj in
    omega arith
two_in who (v ∷ vs) (suc i) zero a b apart ai bj =
    let same : times who v ≡ times who b = ap (times who) (some-injective v b bj) in
    let more = one_in who vs i a ai in
    omega arith
two_in who (v ∷ vs) (suc i) (suc j) a b apart ai bj =
    let more = two_in who vs i j a b (λ is. apart (ap suc is)) ai bj in omega arith

pub times-set : (who : ℕ) (vs : List (List Witness)) (i : ℕ) (a b : List Witness) → get_elem? vs i ≡ some b →
    times_in who (set vs i a) + times who b ≡ times_in who vs + times who a
times-set who [] i a b at_index = absurd (some-ne-none b (sym at_index))
times-set who (v ∷ vs) zero a b at_index =
    let same : times who v ≡ times who b = ap (times who) (some-injective v b at_index) in omega arith
times-set who (v ∷ vs) (suc i) a b at_index = let more = times-set who vs i a b at_index in omega arith

-- the number of the first witness
pub times-first : (m : Witness) (ms : List Witness) → times m.who (m ∷ ms) ≡ 1 + times m.who ms
times-first m ms = ap (λ (t : Bool). one_if t + times m.who ms) (eq-eqb m.who m.who refl)

times-below : (opened : Opened) (who k n : ℕ) → who < k → times who (witnesses opened k n) ≡ 0
times-below opened who k zero low = refl
times-below opened who k (suc n) low =
    let here : one_if (k == who) ≡ 0 = ap one_if (ne_eqb k who (λ is. omega arith)) in
    let more = times-below opened who (suc k) n (omega arith) in
    omega arith

-- no number stands twice at the opening
pub times-members : (opened : Opened) (who k n : ℕ) → times who (witnesses opened k n) ≤ 1
times-members opened who k zero = omega arith
times-members opened who k (suc n) = dite (ℕ_discrete k who)
    (λ is. let here : one_if (k == who) ≡ 1 = ap one_if (eq-eqb k who is) in
    let rest = times-below opened who (suc k) n (omega arith) in
    omega arith)
    (λ not. let here : one_if (k == who) ≡ 0 = ap one_if (ne_eqb k who not) in
    let rest = times-members opened who (suc k) n in
    omega arith)

-- ---- tokens

-- a token has the number of no pass
pub token_not_counted : (who : ℕ) (opened : Opened) (seen : List Event) → who ≢ nobody →
    times who (witness opened nobody seen ∷ []) ≡ 0
token_not_counted who opened seen other =
    let none : one_if (nobody == who) ≡ 0 = ap one_if (ne_eqb nobody who (λ is. other (sym is))) in omega arith

-- a number that no pass has has no event
none_of : (start : Start) (passes who : ℕ) (w : World) (run : List Event) → passes ≤ who →
    AreAccepted start passes w run → NoneOf who run
none_of start passes who w [] high ok = tt
none_of start passes who w (e ∷ es) high ok = (
  (λ is. let low : e.pass < passes = ok.0.0 in absurd (omega (arith, low, is, high))),
  none_of start passes who (after start w e.pass e.step) es high ok.1,
)

none_behind : (who : ℕ) (xs ys : List Event) → NoneOf who (xs ++ ys) → NoneOf who ys
none_behind who [] ys none = none
none_behind who (x ∷ xs) ys none = none_behind who xs ys none.1

-- so a beginning of a run has all of its events
pub token_begins : (start : Start) (passes who : ℕ) (seen run : List Event) → passes ≤ who → IsRun start passes run →
    Begins seen run → BeginsFor who seen run
token_begins start passes who seen run high is begins = (
  begins.0,
  begins.1,
  none_behind who seen begins.0 (subst (NoneOf who) begins.1 (none_of start passes who _ run high is)),
)
