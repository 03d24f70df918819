-- Words that are read while a seat has the witnesses of all passes are those of one run.
-- For nobody can make a step meanwhile.
use Rattle.std.proofs.Common.{◌≡◌, ◌≢◌, ℕ, zero, suc, ◌+◌, ◌<◌, ◌≤◌, ◌==◌, eq-eqb, ne_eqb, List, [], ◌∷◌, ◌++◌, set}
use Rattle.std.proofs.Common.{get_or, length, refl, sym, ap, ◌∙◌, subst, ⊎_elim, inl, inr, append-nil}
use Rattle.std.proofs.Common.{Bool, arith}
use Rattle.std.proofs.lemmas.Bool.{cases_lt}
use mathlib.Core.Logic.{dite}
use native.Mathlib.Decide.{ℕ_discrete}
use mathlib.Core.Option.{some, some-injective}
use lib.ListN.{get_elem?}
use Rattle.std.proofs.lemmas.List.{length-append, set-get_or}
use Rattle.atomic_table.specs.Table.{State as Standing, Me, keeps, Allows}
use Rattle.atomic_table.proofs.Lists.{set_again}
use Rattle.atomic_table.specs.Seated.{TableId}
use Rattle.vbr_machine.specs.Start.{IsStart}
use Rattle.vbr_words.specs.Places.{index_of, words_in}
use Rattle.vbr_words.proofs.Lemmas.{index_of-lt}
use Rattle.vbr_machine.specs.Machine.{word_at}
use Rattle.vbr_slots.specs.words.Words.{kept_at}
use Rattle.vbr_machine.proofs.Lemmas.{every_run}
use Rattle.vbr_machine.specs.Runs.{Begins, world_after}
use Rattle.vbr_machine.specs.declared.event.Event.{Event}
use Rattle.vbr_slots.specs.declared.rule.Opened.{Opened}
use Rattle.vbr_slots.specs.declared.rule.Witness.{Witness}
use Rattle.vbr_slots.specs.runs.TableStart.{TableStart}
use Rattle.vbr_slots.specs.declared.slots.Slots.TheInside.{Inside as SlotsInside}
use Rattle.vbr_slots.specs.runs.Rule.{Kept, witnesses, nobody, times, EachBegins, HasSeen, IsSeen}
use Rattle.vbr_slots.specs.runs.Rule.{opened_of}
use Rattle.vbr_slots.specs.runs.Closing.{Ends}
use Rattle.vbr_slots.specs.views.SlotsView.{table_of, IsBuilt}
use Rattle.vbr_slots.specs.runs.Snapshots.{AreReadBy, EachLow, IsLatest, IsWordAt, ReadsWord, witnesses_of}
use Rattle.vbr_slots.specs.views.Views.{PassView, TableView}
use Rattle.vbr_slots.proofs.seats.Members.{one_in, two_in, times-members}
use Rattle.vbr_slots.proofs.runs.Closings.{each_seen}
use Rattle.vbr_slots.specs.steps.Stepping.{opening_of}
use Rattle.vbr_slots.proofs.steps.Steps.{Sat}
use Rattle.vbr_machine.specs.Disturbances.{one_if}

abbrev V : Type 0
V = List Witness

-- ---- all numbers stand among so many witnesses

abbrev total : ℕ → V → ℕ
total zero ms = 0
total (suc n) ms = times n ms + total n ms

total-none : (n : ℕ) → total n [] ≡ 0
total-none zero = refl
total-none (suc n) = let more = total-none n in omega arith

total-high : (n : ℕ) (m : Witness) (ms : V) → n ≤ m.who → total n (m ∷ ms) ≡ total n ms
total-high zero m ms high = refl
total-high (suc n) m ms high =
    let here : one_if (m.who == n) ≡ 0 = ap one_if (ne_eqb m.who n (λ is. omega arith)) in
    let more = total-high n m ms (omega arith) in
    omega arith

total-low : (n : ℕ) (m : Witness) (ms : V) → m.who < n → total n (m ∷ ms) ≡ 1 + total n ms
total-low zero m ms low = absurd (omega arith)
total-low (suc n) m ms low = dite (ℕ_discrete m.who n)
    (λ is. let here : one_if (m.who == n) ≡ 1 = ap one_if (eq-eqb m.who n is) in
    let more = total-high n m ms (omega arith) in
    omega arith)
    (λ not. let here : one_if (m.who == n) ≡ 0 = ap one_if (ne_eqb m.who n not) in
    let more = total-low n m ms (omega arith) in
    omega arith)

total-each : (n : ℕ) (ms : V) → EachLow n ms → total n ms ≡ length ms
total-each n [] low = total-none n
total-each n (m ∷ ms) low = let here = total-low n m ms low.0 in let more = total-each n ms low.1 in omega arith

abbrev AtMostOnce : ℕ → V → Type 0
AtMostOnce n ms = (k : ℕ) → k < n → times k ms ≤ 1

total-most : (n : ℕ) (ms : V) → AtMostOnce n ms → total n ms ≤ n
total-most zero ms once = omega arith
total-most (suc n) ms once =
    let here = once n (omega arith) in let more = total-most n ms (λ k low. once k (omega arith)) in omega arith

each_once : (n : ℕ) (ms : V) → AtMostOnce n ms → n ≤ total n ms → (k : ℕ) → k < n → times k ms ≡ 1
each_once zero ms once all k low = absurd (omega arith)
each_once (suc n) ms once all k low =
    let fewer = λ (j : ℕ) (lower : j < n). once j (omega arith) in
    let here = once n (omega arith) in
    let most = total-most n ms fewer in
    dite (ℕ_discrete k n)
    (λ is. let same : times k ms ≡ times n ms = ap (λ (j : ℕ). times j ms) is in omega arith)
    (λ not. each_once n ms fewer (omega arith) k (omega arith))

-- ---- so no other seat has seen all of the run

times-above : (opened : Opened) (who k n : ℕ) → k + n ≤ who → times who (witnesses opened k n) ≡ 0
times-above opened who k zero high = refl
times-above opened who k (suc n) high =
    let here : one_if (k == who) ≡ 0 = ap one_if (ne_eqb k who (λ is. omega arith)) in
    let more = times-above opened who (suc k) n (omega arith) in
    omega arith

-- who has seen all of it stands there
has_stood : (run : List Event) (ms : V) → HasSeen run ms → (who : ℕ) × (who ≢ nobody) × (1 ≤ times who ms)
has_stood run [] seen = absurd seen
has_stood run (m ∷ ms) (inl seen) =
    (m.who, seen.0, let here : one_if (m.who == m.who) ≡ 1 = ap one_if (eq-eqb m.who m.who refl) in omega arith)
has_stood run (m ∷ ms) (inr seen) =
    let more = has_stood run ms seen in let there = more.2 in (more.0, more.1, omega arith)

module _ (opening : TableStart) (s : Standing (Unit {0}) V) (h : Kept opening s) (id : ℕ) (ms : V)
    (at_index : get_elem? s.views id ≡ some ms) (few : opening.passes ≤ nobody) (low : EachLow opening.passes ms)
    (all : opening.passes ≤ length ms) where
  once : AtMostOnce opening.passes ms
  once k lower =
      let one = one_in k s.views id ms at_index in
      let most = times-members (opened_of opening.start) k 0 opening.passes in
      let counted = h.counted k (λ is. omega (arith, few, lower, is)) in
      omega arith

  each : (k : ℕ) → k < opening.passes → times k ms ≡ 1
  each = each_once opening.passes ms once (let total_is = total-each opening.passes ms low in omega arith)

  no_other : (j : ℕ) (v : V) → j ≢ id → get_elem? s.views j ≡ some v → HasSeen h.run v → ⊥
  no_other j v apart there seen =
      let stands = has_stood h.run v seen in
      let who : ℕ = stands.0 in
      let there_once = stands.2 in
      let two = two_in who s.views id j ms v apart at_index there in
      let counted = h.counted who stands.1 in
      let most = times-members (opened_of opening.start) who 0 opening.passes in
      ⊎_elim
      (λ (lower : who < opening.passes). let here = each who lower in omega arith)
      (λ (high : opening.passes ≤ who).
      let none = times-above (opened_of opening.start) who 0 opening.passes (omega arith) in omega arith)
      (cases_lt who opening.passes)

  latest : IsLatest h.run ms
  latest = (h.begins id ms at_index, ⊎_elim inl (λ (x : IsSeen h.run s.views). inr (own x)) h.seen)
    where
      own : IsSeen h.run s.views → HasSeen h.run ms
      own x = dite (ℕ_discrete x.0 id)
          (λ is. subst (HasSeen h.run) (some-injective x.1 ms (sym x.2 ∙ ap (get_elem? s.views) is ∙ at_index)) x.3)
          (λ not. absurd (no_other x.0 x.1 not x.2 x.3))

-- a load of any word keeps the rule, and tells the word after what the seat's witnesses have seen
pub surveys : (opening : TableStart) (slots id index : ℕ) (me : Me (Unit {0}) V) → opening.passes ≤ nobody →
    EachLow opening.passes me.0 → opening.passes ≤ length me.0 →
    Allows (Kept opening) slots id me index (λ n. n) (ReadsWord opening index me)
surveys opening slots id index me few low all s h _ at_index _ =
    let again : record {
      words = set s.words index (get_or s.words index 0);
      homes = s.homes;
      views = set s.views id me.0;
    } ≡ s =
    λ i. record {
      words = set-get_or s.words index 0 i;
      homes = s.homes;
      views = set_again s.views id me.0 at_index
          i;
    } in (
      me.0,
      keeps,
      tt,
      subst (Kept opening) (sym again) h,
      record {
        same = refl;
        word = record {
          run = h.run;
          is_run = h.is_run;
          latest = latest opening s h id me.0 at_index few low all;
          found = λ place inside is. ap (λ (i : ℕ). get_or s.words i 0) (sym is) ∙ h.words.each place inside;
        };
      },
    )

-- ---- one run for all loads

begins_of : (run other : List Event) (ms : V) → HasSeen run ms → EachBegins other ms → Begins run other
begins_of run other [] seen begins = absurd seen
begins_of run other (m ∷ ms) (inl seen) begins =
    subst (λ (es : List Event). Begins es other) seen.1 (begins.0.0, begins.0.1)
begins_of run other (m ∷ ms) (inr seen) begins = begins_of run other ms seen begins.1

begins_each : (run other : List Event) (ms : V) → IsLatest run ms → IsLatest other ms → Begins run other
begins_each run other ms (begins, inl none) last = (other, ap (λ (es : List Event). es ++ other) (sym none))
begins_each run other ms (begins, inr seen) last = begins_of run other ms seen last.0

begins_both : (run other : List Event) → Begins run other → Begins other run → run ≡ other
begins_both run other (rest, is) (more, was) =
    let none : length rest ≡ 0 = let a = ap (λ (es : List Event). length es) is in
    let b = ap (λ (es : List Event). length es) was in
    let c = length-append run rest in
    let d = length-append other more in
    omega arith in
    sym (is ∙ ap (λ (es : List Event). run ++ es) (nothing_left rest none) ∙ append-nil run)
  where
    nothing_left : (es : List Event) → length es ≡ 0 → es ≡ []
    nothing_left [] none = refl
    nothing_left (e ∷ es) none = absurd (omega arith)

-- two words that were read so are of one run
pub one_run : (run other : List Event) (ms : V) → IsLatest run ms → IsLatest other ms → run ≡ other
one_run run other ms a b = begins_both run other (begins_each run other ms a b) (begins_each other run ms b a)

-- as many words as there are, each read so, are those of the run
pub are_read : (t : TableView) (ms : V) (words : List ℕ) → length words ≡ words_in t.start.shape →
    ((k : ℕ) → k < length words → IsWordAt (opening_of t) ms k (get_or words k 0)) → AreReadBy t ms words
are_read t ms words count each =
    let some_word : 0 < length words = omega (arith, count) in
    let first = each 0 some_word in record {
      run = first.run;
      is_run = first.is_run;
      begins = first.latest.0;
      are = record {
        count = count;
        each = λ place inside.
            let index : ℕ = index_of t.start.shape place in
            let low : index < length words =
            subst (λ (n : ℕ). index < n) (sym count) (index_of-lt t.start.shape place inside) in
            let it = each index low in
            it.found place inside refl
            ∙ ap (λ (run : List Event). kept_at t.start.shape place (word_at t.start (world_after t.start run) place))
            (one_run it.run first.run ms it.latest first.latest);
      };
    }

-- ---- at a table

module _ {N : Type 0} {values : Bool} (t : SlotsInside N) (table : TableView) (built : IsBuilt values t)
    (t_is : table_of t ≡ table) where
  -- how many words it has
  pub words_are : t.table.shared.table_id.words ≡ words_in table.start.shape
  words_are = built.words ∙ ap (λ (q : TableView). words_in q.start.shape) t_is

  -- what a load asks of the seat
  pub asks_to_read : (z : TableId) → z ≡ table.table → (id : ℕ) (me : Sat) → EachLow table.passes me.0 →
      table.passes ≤ length me.0 → (index : ℕ) → index < t.table.shared.table_id.words → (opening : TableStart) →
      opening ≡ opening_of table
      → (z ≡ t.table.shared.table_id) × (index < t.table.shared.table_id.words) ×
      Allows (Kept t.table.shared.key) t.table.shared.table_id.slots id me index (λ n. n) (ReadsWord opening index me)
  asks_to_read z z_is id me low all index inside opening named =
      let key : opening_of table ≡ t.table.shared.key = sym (ap opening_of t_is) ∙ sym built.key in
      let few : table.passes ≤ nobody =
      subst (λ (n : ℕ). n ≤ nobody) (ap (λ (q : TableView). q.passes) t_is) built.few in (
        z_is ∙ sym (ap (λ (q : TableView). q.table) t_is),
        inside,
        subst (λ (x : TableStart × TableStart).
            Allows (Kept x.0) t.table.shared.table_id.slots id me index (λ n. n) (ReadsWord x.1 index me))
            (λ i. (key i, sym named i))
            (surveys (opening_of table) t.table.shared.table_id.slots id index me few low all),
      )

-- the end of a table as its snapshot shows it
pub ends_so : (t : TableView) (ps : List PassView) (words : List ℕ) → IsStart t.start →
    AreReadBy t (witnesses_of ps) words → Ends t ps words
ends_so t ps words is_start read = record {
  run = read.run;
  is_run = read.is_run;
  safe = every_run t.start t.passes read.run is_start read.is_run;
  are = read.are;
  begins = each_seen read.run ps read.begins;
}
