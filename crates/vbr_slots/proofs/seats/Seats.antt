-- Seats that are opened, split and joined keep the rule.
use Rattle.std.proofs.Common.{◌≡◌, ◌≢◌, ◌⊎◌, ℕ, zero, suc, ◌+◌, ◌-◌, ◌<◌, ◌≤◌, List, [], ◌∷◌, ◌++◌, set, refl, sym, ap}
use Rattle.std.proofs.Common.{◌∙◌, subst, ⊎_elim, inl, inr, arith}
use mathlib.Core.Option.{some, some-ne-none, some-injective}
use lib.ListN.{get_elem?}
use Rattle.atomic_table.specs.Table.{opening as table_opening, Splits, Joins, Enters, Me}
use Rattle.atomic_table.proofs.Lists.{at_set, at_snoc}
use Rattle.vbr_machine.specs.Machine as machine
use Rattle.vbr_machine.specs.Runs.{IsRun}
use Rattle.vbr_machine.specs.declared.event.Event.{Event}
use Rattle.vbr_machine.proofs.Lemmas.{is_run_first}
use Rattle.vbr_slots.specs.declared.rule.Opened.{Opened}
use Rattle.vbr_slots.specs.declared.rule.Witness.{Witness}
use Rattle.vbr_slots.specs.runs.TableStart.{TableStart}
use Rattle.vbr_slots.specs.runs.Rule.{witness, witnesses, nobody, noted, first_witnesses, head_of, tail_of}
use Rattle.vbr_slots.specs.runs.Rule.{first_opened}
use Rattle.vbr_slots.specs.runs.Rule.{first_seen, EachBegins, HasSeen, IsSeen, times, times_in, Kept, opened_of}
use Rattle.vbr_slots.specs.views.Views.{TableView, new_pass, new_passes}
use Rattle.vbr_slots.specs.words.Words.{AreWordsOf}
use Rattle.vbr_slots.proofs.seats.Members.{times-set, token_begins, token_not_counted}
use Rattle.vbr_slots.proofs.seats.Sightings.{seen_longer, seen_split, seen_join}

abbrev V : Type 0
V = List Witness

begin_all : (opened : Opened) (k n : ℕ) → EachBegins [] (witnesses opened k n)
begin_all opened k zero = tt
begin_all opened k (suc n) = (([], refl, tt), begin_all opened (suc k) n)

pub opens : (opening : TableStart) (words : List ℕ) → AreWordsOf opening.start (machine.opening opening.start) words →
    Kept opening (table_opening words [] (first_witnesses opening))
opens opening words are = record {
  run = [];
  is_run = is_run_first opening.start opening.passes;
  words = are;
  begins = each;
  seen = inl refl;
  counted = λ who other. omega arith;
}
  where
    each : (j : ℕ) (v : V) → get_elem? (first_witnesses opening ∷ []) j ≡ some v → EachBegins [] v
    each zero v at_index =
        subst (EachBegins []) (some-injective _ _ at_index) (begin_all (opened_of opening.start) 0 opening.passes)
    each (suc j) v at_index = absurd (some-ne-none v (sym at_index))

times_in-snoc : (who : ℕ) (vs : List V) (v : V) → times_in who (vs ++ v ∷ []) ≡ times_in who vs + times who v
times_in-snoc who [] v = omega arith
times_in-snoc who (u ∷ vs) v = let more = times_in-snoc who vs v in omega arith

times-append : (who : ℕ) (v w : V) → times who (v ++ w) ≡ times who v + times who w
times-append who [] w = omega arith
times-append who (m ∷ ms) w = let more = times-append who ms w in omega arith

begins-append : (run : List Event) (v w : V) → EachBegins run v → EachBegins run w → EachBegins run (v ++ w)
begins-append run [] w a b = b
begins-append run (m ∷ ms) w a b = (a.0, begins-append run ms w a.1 b)

pub splits : (opening : TableStart) (id : ℕ) (v left right : V) →
    ((who : ℕ) → who ≢ nobody → times who left + times who right ≡ times who v) →
    ((run : List Event) → IsRun opening.start opening.passes run → EachBegins run v →
    EachBegins run left × EachBegins run right)
    → ((run : List Event) → HasSeen run v → HasSeen run left ⊎ HasSeen run right) →
    Splits (Kept opening) id v left right
splits opening id v left right count part sight s h at_index = record {
  run = h.run;
  is_run = h.is_run;
  words = h.words;
  begins = λ j u bt.
      ⊎_elim
      (λ was. ⊎_elim
      (λ (x : (j ≡ id) × (left ≡ u)). subst (EachBegins h.run) x.1 (part h.run h.is_run (h.begins id v at_index)).0)
      (λ (x : (j ≢ id) × (get_elem? s.views j ≡ some u)). h.begins j u x.1) (at_set s.views id j left u was))
      (λ (is : right ≡ u). subst (EachBegins h.run) is (part h.run h.is_run (h.begins id v at_index)).1)
      (at_snoc (set s.views id left) right u j bt);
  seen = ⊎_elim inl (λ (x : IsSeen h.run s.views). inr
      (seen_split h.run s.views id v left right (sight h.run) at_index x))
      h.seen;
  counted = λ who other.
      let a = times_in-snoc who (set s.views id left) right in
      let b = times-set who s.views id left v at_index in
      let c = count who other in
      let most = h.counted who other in
      omega arith;
}

pub joins : (opening : TableStart) (id : ℕ) (v : V) (other : ℕ) (w : V) → Joins (Kept opening) id v other w (v ++ w) []
joins opening id v other w s h at_index two there =
    let was = ⊎_elim (λ (x : (other ≡ id) × ((v ++ w) ≡ w)). absurd (two x.0))
    (λ (x : (other ≢ id) × (get_elem? s.views other ≡ some w)). x.1)
    (at_set s.views id other (v ++ w) w there) in record {
      run = h.run;
      is_run = h.is_run;
      words = h.words;
      begins = λ j u bt.
          ⊎_elim
          (λ (x : (j ≡ other) × ([] ≡ u)). subst (EachBegins h.run) x.1 tt)
          (λ (x : (j ≢ other) × (get_elem? (set s.views id (v ++ w)) j ≡ some u)).
          ⊎_elim
          (λ (y : (j ≡ id) × ((v ++ w) ≡ u)).
          subst (EachBegins h.run) y.1 (begins-append h.run v w (h.begins id v at_index) (h.begins other w was)))
          (λ (y : (j ≢ id) × (get_elem? s.views j ≡ some u)). h.begins j u y.1)
          (at_set s.views id j (v ++ w) u x.1))
          (at_set (set s.views id (v ++ w)) other j [] u bt);
      seen = ⊎_elim inl (λ (x : IsSeen h.run s.views). inr (seen_join h.run s.views id v other w at_index two there x))
          h.seen;
      counted = λ who else.
          let a = times-set who s.views id (v ++ w) v at_index in
          let b = times-set who (set s.views id (v ++ w)) other [] w there in
          let c = times-append who v w in
          let most = h.counted who else in
          omega arith;
    }

pub enters : (opening : TableStart) (slots i : ℕ) → Enters (Kept opening) slots i (λ r w. w ≡ [])
enters opening slots i s h _ _ = (
  [],
  record {
    run = h.run;
    is_run = h.is_run;
    words = h.words;
    begins = λ j u bt.
        ⊎_elim (h.begins j u) (λ (is : [] ≡ u). subst (EachBegins h.run) is tt) (at_snoc s.views [] u j bt);
    seen = ⊎_elim inl (λ (x : IsSeen h.run s.views). inr (seen_longer h.run s.views [] x)) h.seen;
    counted = λ who other. let a = times_in-snoc who s.views [] in let most = h.counted who other in omega arith;
  },
  refl,
)

pub splits_first : (opening : TableStart) (id : ℕ) (v : V) → Splits (Kept opening) id v (head_of v) (tail_of v)
splits_first opening id v =
    splits opening id v (head_of v) (tail_of v) (λ who _. count who v) (λ run _. part run v) (λ run. sight run v)
  where
    count : (who : ℕ) (u : V) → times who (head_of u) + times who (tail_of u) ≡ times who u
    count who [] = refl
    count who (m ∷ ms) = omega arith

    part : (run : List Event) (u : V) → EachBegins run u → EachBegins run (head_of u) × EachBegins run (tail_of u)
    part run [] b = (tt, tt)
    part run (m ∷ ms) b = ((b.0, tt), b.1)

    sight : (run : List Event) (u : V) → HasSeen run u → HasSeen run (head_of u) ⊎ HasSeen run (tail_of u)
    sight run [] h = absurd h
    sight run (m ∷ ms) (inl e) = inl (inl e)
    sight run (m ∷ ms) (inr h) = inr h

pub splits_whole : (opening : TableStart) (id : ℕ) (v : V) → Splits (Kept opening) id v [] v
splits_whole opening id v = splits opening id v [] v (λ who _. omega arith) (λ run _ b. (tt, b)) (λ run h. inr h)

-- a token beside a seat that stays: it tells what the first witness has seen
pub splits_noted : (opening : TableStart) (id : ℕ) (v : V) → opening.passes ≤ nobody →
    Splits (Kept opening) id v v (noted v)
splits_noted opening id v few =
    splits opening id v v (noted v) count (λ run is b. (b, part run is v b)) (λ run h. inl h)
  where
    count : (who : ℕ) → who ≢ nobody → times who v + times who (noted v) ≡ times who v
    count who other = let none = token_not_counted who (first_opened v) (first_seen v) other in omega arith

    part : (run : List Event) → IsRun opening.start opening.passes run → (u : V) → EachBegins run u →
        EachBegins run (noted u)
    part run is [] b = (token_begins opening.start opening.passes nobody [] run few is (run, refl), tt)
    part run is (m ∷ ms) b = (token_begins opening.start opening.passes nobody m.seen run few is (b.0.0, b.0.1), tt)

-- the loop at the opening: the next seat goes to the pass of the number k
module _ (opened : Opened) (k n : ℕ) (old new next : Me (Unit {0}) V) (low : k < n)
    (is : old ≡ (witnesses opened k (n - k), [])) (left : new ≡ (head_of old.0, old.1))
    (right : next ≡ (tail_of old.0, [])) where
  known : old ≡ (witness opened k [] ∷ witnesses opened (k + 1) (n - (k + 1)), [])
  known =
      let e : n - k ≡ suc (n - suc k) = omega arith in
      let one : suc k ≡ k + 1 = omega arith in
      is ∙ ap (λ (i : ℕ). (witnesses opened k i, [])) e
      ∙ ap (λ (i : ℕ). (witness opened k [] ∷ witnesses opened i (n - i), [])) one

  pub first_alone : new ≡ (witness opened k [] ∷ [], [])
  first_alone = left ∙ ap (λ (m : Me (Unit {0}) V). (head_of m.0, m.1)) known

  pub first_has : first_opened new.0 ≡ opened
  first_has = ap (λ (m : Me (Unit {0}) V). first_opened m.0) first_alone

  pub first_is : new ≡ (witness (first_opened new.0) k (first_seen new.0) ∷ [], [])
  first_is = first_alone
      ∙ sym (λ i. (witness (first_has i) k (ap (λ (m : Me (Unit {0}) V). first_seen m.0) first_alone i) ∷ [], []))

  pub first_empty : first_seen new.0 ≡ []
  first_empty = ap (λ (m : Me (Unit {0}) V). first_seen m.0) first_alone

  pub others_next : next ≡ (witnesses opened (k + 1) (n - (k + 1)), [])
  others_next = right ∙ ap (λ (m : Me (Unit {0}) V). (tail_of m.0, [])) known

new_passes-snoc : (t : TableView) (j k : ℕ) → new_passes t j (suc k) ≡ new_passes t j k ++ new_pass t (j + k) ∷ []
new_passes-snoc t j zero = ap (λ (i : ℕ). new_pass t i ∷ []) (let e : j ≡ j + 0 = omega arith in e)
new_passes-snoc t j (suc k) =
    let e : suc j + k ≡ j + suc k = omega arith in
    ap (λ ws. new_pass t j ∷ ws)
    (new_passes-snoc t (suc j) k ∙ ap (λ (i : ℕ). new_passes t (suc j) k ++ new_pass t i ∷ []) e)

pub new_passes-next : (t : TableView) (k : ℕ) → new_passes t 0 (k + 1) ≡ new_passes t 0 k ++ new_pass t k ∷ []
new_passes-next t k =
    let e : k + 1 ≡ suc k = omega arith in
    let f : 0 + k ≡ k = omega arith in
    ap (new_passes t 0) e ∙ new_passes-snoc t 0 k ∙ ap (λ (i : ℕ). new_passes t 0 k ++ new_pass t i ∷ []) f
