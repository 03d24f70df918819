-- Going over all keys, call by call.
use Rattle.std.proofs.Common.{◌≡◌, ℕ, suc, ◌+◌, ◌-◌, ◌*◌, ◌^◌, ◌<◌, ◌≤◌, true, false, List, [], ◌∷◌, ◌++◌, Option, Some}
use Rattle.std.proofs.Common.{None, Result, Ok, Err, length, map, refl, sym, ap, ◌∙◌, subst, arith, inl, inr}
use Rattle.std.proofs.Common.{append-nil, length-append, mul-le-mul_left, mul-suc}
use Rattle.std.specs.Prelude.{◌==◌, ◌&&◌, IfErr, IfOk}
use Rattle.std.specs.List.{AllByRecursion}
use Rattle.std.proofs.lemmas.List.{length-map, map-append, map-id}
use Rattle.vbr_words.specs.Buckets.{bucket_of}
use Rattle.vbr_words.proofs.Lemmas.{bucket_of-lt}
use Rattle.vbr_machine.specs.Start.{Start, IsStart}
use Rattle.vbr_machine.proofs.Lemmas.{begins_refl}
use Rattle.vbr_slots.specs.steps.Alone.{IsAlone}
use Rattle.vbr_slots.specs.steps.Calls.{AddsNone, OnlyLoads, Quiet}
use Rattle.vbr_slots.specs.steps.PassLaw.{PassLaw}
use Rattle.vbr_slots.specs.views.Views.{PassView, TableView, Trace}
use Rattle.vbr_slots.proofs.Lemmas.{adds_on, adds_refl, loads_on, loads_refl, quiet_on, quiet_refl, same_refl}
use Rattle.vbr_at_table.specs.hands.KeptSlots.{TakesNoSlot}
use Rattle.vbr_at_table.specs.reads.Moments.{WasEntry}
use Rattle.vbr_at_table.specs.costs.WithinBudget.{TookWithin}
use Rattle.vbr_at_table.proofs.Lemmas.{none_on, none_refl}
use Rattle.vbr_list.specs.look_ups.Cursors.{HasGiven, HasGivenAll, HasStayedOrMoved, IsAtEnd, IsPastKey, IsToCome}
use Rattle.vbr_list.specs.look_ups.Cursors.{SeesMore, StopsShort, costs_over_among, first_cursor}
use Rattle.vbr_list.specs.traversals.Disturbed.{disturbed_in, enough_among}
use Rattle.vbr_list.specs.calls.Budgets.{nodes_listed_in}
use Rattle.vbr_list.specs.look_ups.Next.{enough_to_seek}
use Rattle.vbr_list.specs.declared.cursor.Cursor.{Cursor}
use Rattle.vbr_at_table.specs.declared.refusal.Refusal.{Refusal}
use Rattle.vbr_list.proofs.Lemmas.{enough_later, entry_more, entry_since, given_all, given_none, given_on, sees_on}
use Rattle.vbr_list.proofs.Lemmas.{undisturbed_in}
use Rattle.vbr_set.specs.calls.Iterating.{AreItemsOf, CallsNextWhere, GoesOnSafe, GoesOver, HasGathered}
use Rattle.vbr_set.specs.calls.Iterating.{HasGoneOverEntries, HasGoneOverWhere, StandsShort}
use Rattle.vbr_set.specs.calls.Members.{CallerView, as_caller}

-- ---- entries and steps

abbrev pub keys_of : List (ℕ × ℕ) → List ℕ
keys_of entries = map (λ (entry : ℕ × ℕ). entry.0) entries

-- each entry was in the map at a moment of what the pass did
abbrev pub WereEntries : Trace → Trace → List (ℕ × ℕ) → Type 0
WereEntries p q entries = AllByRecursion (λ (entry : ℕ × ℕ). WasEntry p q entry.0 entry.1) entries

were_more : (p : Trace) {q r : Trace} (entries : List (ℕ × ℕ)) → WereEntries p q entries → SeesMore q r →
    WereEntries p r entries
were_more p [] x more = tt
were_more p (entry ∷ entries) x more = (entry_more x.0 more, were_more p entries x.1 more)

were_and : (p q : Trace) (entries : List (ℕ × ℕ)) (entry : ℕ × ℕ) → WereEntries p q entries →
    WasEntry p q entry.0 entry.1 → WereEntries p q (entries ++ entry ∷ [])
were_and p q [] entry x one = (one, tt)
were_and p q (e ∷ entries) entry x one = (x.0, were_and p q entries entry x.1 one)

-- steps one after another
took_on : {p q r : Trace} {a b : ℕ} (c : ℕ) → TookWithin p q a → TookWithin q r b → a + b ≤ c → TookWithin p r c
took_on c x y le =
    let u = x.took.made in let v = y.took.made in let m = x.within in let n = y.within in
    record { steps = x.steps + y.steps; within = omega (arith, m, n, le); took = record { made = omega (arith, u, v) } }

took_none : (p : Trace) (c : ℕ) → TookWithin p p c
took_none p c = record { steps = 0; within = omega arith; took = record { made = omega arith } }

few_steps : {p q : Trace} {calls most : ℕ} (budget : ℕ) → TookWithin p q (budget * calls) → calls ≤ most →
    TookWithin p q (budget * most)
few_steps budget x le =
    let few = mul-le-mul_left budget le in
    let m = x.within in
    record { steps = x.steps; within = omega (arith, m, few); took = x.took }

-- one call more
call_more : (budget calls : ℕ) → budget * calls + budget ≤ budget * (calls + 1)
call_more budget calls = let e : budget * suc calls ≡ budget * calls + budget = mul-suc budget calls in omega (arith, e)

-- ---- what calls so far have given

-- the entries that the calls so far have given, what these calls did, and how many they were: one for each entry,
-- and those that were refused, each of which came to a later bucket of the table
pub record Lists (m n : CallerView) (c : Cursor) (budget : ℕ) (entries : List (ℕ × ℕ)) : Type 0 where
  pub goes : GoesOnSafe m n
  pub quiet : Quiet m.pass.trace n.pass.trace
  pub only_loads : OnlyLoads m.pass.trace n.pass.trace
  pub adds_none : AddsNone m.pass.trace n.pass.trace
  pub takes_no_slot : TakesNoSlot m.pass n.pass
  pub given : HasGiven m.pass.trace n.pass.trace c (keys_of entries)
  pub values : m.pass.trace.start.shape.values ≡ true → WereEntries m.pass.trace n.pass.trace entries
  pub refused : ℕ
  pub took : TookWithin m.pass.trace n.pass.trace (budget * (length entries + refused))
  pub later : refused ≤ c.bucket
  pub in_table : refused ≤ m.pass.trace.start.shape.buckets

pub lists_none : (set : TableView) (p : PassView) (budget : ℕ) → PassLaw p → p.hand ≡ None →
    Lists (as_caller set p) (as_caller set p) first_cursor budget []
lists_none set p budget law hand = record {
  goes = record {
    set = refl;
    hand = hand;
    safe = record { is_run = law.is_run; safe = law.safe };
    sees = record { same = same_refl p.trace; begins = begins_refl p.trace.seen; is_run = law.is_run };
  };
  quiet = quiet_refl p.trace;
  only_loads = loads_refl p.trace;
  adds_none = adds_refl p.trace;
  takes_no_slot = none_refl p;
  given = given_none p.trace;
  values = λ values. tt;
  refused = 0;
  took = took_none p.trace _;
  later = omega arith;
  in_table = omega arith;
}

goes_on_safe : {m n o : CallerView} → GoesOnSafe m n → GoesOnSafe n o → GoesOnSafe m o
goes_on_safe x y = record { set = y.set ∙ x.set; hand = y.hand; safe = y.safe; sees = sees_on x.sees y.sees }

-- a call tells the same by another name of its answer
pub answered_as : {m n : CallerView} {c d : Cursor} {budget : ℕ} {answer again : Result (Option (ℕ × ℕ)) Refusal} →
    answer ≡ again → CallsNextWhere m n c d budget answer → CallsNextWhere m n c d budget again
answered_as {m} {n} {c} {d} {budget} is called =
    subst (λ (answer : Result (Option (ℕ × ℕ)) Refusal). CallsNextWhere m n c d budget answer) is called

-- and by another name of its set
pub at_set : {s u : TableView} {p q : PassView} {c d : Cursor} {budget : ℕ}
    {answer : Result (Option (ℕ × ℕ)) Refusal} → s ≡ u →
    CallsNextWhere (as_caller s p) (as_caller s q) c d budget answer →
    CallsNextWhere (as_caller u p) (as_caller u q) c d budget answer
at_set {s} {u} {p} {q} {c} {d} {budget} {answer} is called =
    subst (λ (t : TableView). CallsNextWhere (as_caller t p) (as_caller t q) c d budget answer) is called

module _ {m n : CallerView} (o : CallerView) {c d : Cursor} {entries : List (ℕ × ℕ)} (budget : ℕ)
    (x : Lists m n c budget entries) where
  -- with one more call
  lists_further : {more : List (ℕ × ℕ)} {refused : ℕ} {answer : Result (Option (ℕ × ℕ)) Refusal} →
      CallsNextWhere n o c d budget answer → HasGiven m.pass.trace o.pass.trace d (keys_of more) →
      (m.pass.trace.start.shape.values ≡ true → WereEntries m.pass.trace o.pass.trace more) →
      TookWithin m.pass.trace o.pass.trace (budget * (length more + refused)) → refused ≤ d.bucket →
      refused ≤ m.pass.trace.start.shape.buckets → Lists m o d budget more
  lists_further {more} {refused} y given values took later in_table = record {
    goes = goes_on_safe x.goes y.goes;
    quiet = quiet_on x.quiet y.iterates.quiet;
    takes_no_slot = none_on x.takes_no_slot y.iterates.takes_no_slot;
    only_loads = loads_on x.only_loads y.iterates.only_loads;
    adds_none = adds_on x.adds_none y.iterates.adds_none;
    given = given;
    values = values;
    refused = refused;
    took = took;
    later = later;
    in_table = in_table;
  }

  -- with one more entry
  pub lists_on : (key value : ℕ) → CallsNextWhere n o c d budget (Ok (Some (key, value))) →
      Lists m o d budget (entries ++ (key, value) ∷ [])
  lists_on key value y =
      let sees = y.goes.sees in
      let gives = y.iterates.gives in
      let keys : keys_of (entries ++ (key, value) ∷ []) ≡ keys_of entries ++ key ∷ [] =
      map-append (λ (entry : ℕ × ℕ). entry.0) entries ((key, value) ∷ []) in
      let count : length (entries ++ (key, value) ∷ []) ≡ length entries + 1 =
      length-append entries ((key, value) ∷ []) in
      let P : List ℕ → Type 0 = HasGiven m.pass.trace o.pass.trace d in
      lists_further {refused = x.refused} y
      (subst P (sym keys) (given_on x.goes.sees sees x.given gives.0.0))
      (λ values. were_and m.pass.trace o.pass.trace entries (key, value)
      (were_more m.pass.trace entries (x.values values) sees)
      (entry_since x.goes.sees (gives.1 (ap (λ (s : Start). s.shape.values) x.goes.sees.same.start ∙ values))))
      (took_on _ x.took y.iterates.steps (
      let e = call_more budget (length entries + x.refused) in
      let f : budget * (length (entries ++ (key, value) ∷ []) + x.refused) ≡ budget * (length entries + x.refused + 1) =
      let more : length (entries ++ (key, value) ∷ []) + x.refused ≡ length entries + x.refused + 1 =
      omega (arith, count) in ap (λ k. budget * k) more in
      omega (arith, e, f)))
      (behind gives.0.0.was.0 gives.0.1) x.in_table
    where
      behind : IsToCome n.pass.trace.start c key → IsPastKey (bucket_of n.pass.trace.start.shape key) key d →
          x.refused ≤ d.bucket
      behind (inl a) (inl b) = let l = x.later in let e = b.0 in omega (arith, l, a, e)
      behind (inl a) (inr b) = let l = x.later in let e = b.0 in omega (arith, l, a, e)
      behind (inr a) (inl b) = let l = x.later in let e = b.0 in let f = a.0 in omega (arith, l, e, f)
      behind (inr a) (inr b) = let l = x.later in let e = b.0 in let f = a.0 in omega (arith, l, e, f)

  -- with none, in a later bucket
  pub lists_later : (refusal : Refusal) → CallsNextWhere n o c d budget (Err refusal) → c.bucket < d.bucket →
      Lists m o d budget entries
  lists_later refusal y later =
      let sees = y.goes.sees in
      let stops = y.iterates.refused in
      let P : List ℕ → Type 0 = HasGiven m.pass.trace o.pass.trace d in
      lists_further {refused = x.refused + 1} y
      (subst P (append-nil (keys_of entries)) (given_on x.goes.sees sees x.given stops.passed))
      (λ values. were_more m.pass.trace entries (x.values values) sees)
      (took_on _ x.took y.iterates.steps (
      let e = call_more budget (length entries + x.refused) in
      let f : budget * (length entries + (x.refused + 1)) ≡ budget * (length entries + x.refused + 1) =
      let more : length entries + (x.refused + 1) ≡ length entries + x.refused + 1 = omega arith in
      ap (λ k. budget * k) more in
      omega (arith, e, f)))
      (let l = x.later in omega (arith, l, later))
      (let l = x.later in
      let b = stops.bucket in
      let e = ap (λ (s : Start). s.shape.buckets) x.goes.sees.same.start in
      omega (arith, l, later, b, e))

  -- no further
  pub stands_short : (refusal : Refusal) → PassLaw m.pass → CallsNextWhere n o c d budget (Err refusal) → d ≡ c →
      StandsShort m o budget refusal
  stands_short refusal law y same =
      let P : Cursor → Type 0 = λ e. StopsShort n.pass o.pass c e budget refusal in
      let stops = subst P same y.iterates.refused in
      record {
        before = n;
        cursor = c;
        keys = keys_of entries;
        goes = x.goes;
        given = x.given;
        steps = few_steps budget x.took few;
        stops = stops;
        short = λ alone. short_alone alone;
        disturbed_short = short stops;
      }
    where
      few : length entries + x.refused ≤ length (keys_of entries) + c.bucket
      few = let l = x.later in let e = length-map entries (λ (entry : ℕ × ℕ). entry.0) in omega (arith, l, e)

      short : StopsShort n.pass o.pass c c budget refusal →
          budget < enough_among (nodes_listed_in m.pass.trace c.bucket)
          (disturbed_in m.pass.trace o.pass.trace c.bucket)
      short stops =
          let still : c.bucket - c.bucket ≡ 0 = omega arith in
          let none : costs_over_among n.pass.trace (disturbed_in n.pass.trace o.pass.trace) c.bucket
          (c.bucket - c.bucket) ≡ 0 =
          ap (costs_over_among n.pass.trace (disturbed_in n.pass.trace o.pass.trace) c.bucket) still in
          let lacks = stops.disturbed_short in
          let few = enough_later law x.quiet y.iterates.quiet c.bucket in
          omega (arith, lacks, none, few)

      short_alone : IsAlone m.pass.trace o.pass.trace → budget < enough_to_seek m.pass.trace c.bucket
      short_alone alone =
          let P : Cursor → Type 0 = λ e. StopsShort n.pass o.pass c e budget refusal in
          let lacks = short (subst P same y.iterates.refused) in
          let enough = ap (enough_among (nodes_listed_in m.pass.trace c.bucket))
          (undisturbed_in m.pass.trace o.pass.trace c.bucket alone) in
          omega (arith, lacks, enough)

  -- to the end
  pub gone_over : IsStart m.pass.trace.start → CallsNextWhere n o c d budget (Ok None) →
      HasGoneOverWhere m o budget entries
  gone_over start y =
      let sees = y.goes.sees in
      let gives = y.iterates.gives in
      let P : Start → Type 0 = λ s. IsAtEnd s d in
      let given = given_on x.goes.sees sees x.given gives.0 in
      let all = given_all (λ key. bucket_of-lt m.pass.trace.start.shape key start.shape.some_bucket) given
      (subst P x.goes.sees.same.start gives.1) in
      let Q : List ℕ → Type 0 = HasGivenAll m.pass.trace o.pass.trace in
      record {
        keys = record {
          all = subst Q (append-nil (keys_of entries)) all;
          steps = took_on _ x.took y.iterates.steps (
              let e = call_more budget (length entries + x.refused) in
              let few = mul-le-mul_left budget at_most in
              omega (arith, e, few));
        };
        values = λ values. were_more m.pass.trace entries (x.values values) sees;
      }
    where
      at_most : length entries + x.refused + 1 ≤ length (keys_of entries) + m.pass.trace.start.shape.buckets + 1
      at_most = let l = x.in_table in let e = length-map entries (λ (entry : ℕ × ℕ). entry.0) in omega (arith, l, e)

  -- what is returned then
  pub goes_over : {A E : Type 0} {Tells : A → Type 0} {Stops : E → Type 0} {next : Result (Option (ℕ × ℕ)) Refusal} →
      (answer : Result A E) → CallsNextWhere n o c d budget next → IfOk answer Tells → IfErr answer Stops →
      GoesOver Tells Stops m o answer
  goes_over answer y tells stops = record {
    goes = goes_on_safe x.goes y.goes;
    tells = tells;
    stops = stops;
    quiet = quiet_on x.quiet y.iterates.quiet;
    only_loads = loads_on x.only_loads y.iterates.only_loads;
    adds_none = adds_on x.adds_none y.iterates.adds_none;
    takes_no_slot = none_on x.takes_no_slot y.iterates.takes_no_slot;
  }

-- ---- what is made of them

-- what is gathered of the entries so far
pub record GathersAs {A : Type 0} (of : List (ℕ × ℕ) → A → Type 0) (m n : CallerView) (c : Cursor) (budget : ℕ)
    (gathered : A) : Type 0 where
  pub entries : List (ℕ × ℕ)
  pub lists : Lists m n c budget entries
  pub are : of entries gathered

module _ {A : Type 0} {of : List (ℕ × ℕ) → A → Type 0} {m n : CallerView} (o : CallerView) {c d : Cursor} (budget : ℕ)
    {gathered : A} (x : GathersAs of m n c budget gathered) where
  pub gathered_on : (key value : ℕ) {more : A} → CallsNextWhere n o c d budget (Ok (Some (key, value))) →
      of (x.entries ++ (key, value) ∷ []) more → GathersAs of m o d budget more
  gathered_on key value y are =
      record { entries = x.entries ++ (key, value) ∷ []; lists = lists_on o budget x.lists key value y; are = are }

  pub gathered_later : (refusal : Refusal) → CallsNextWhere n o c d budget (Err refusal) → c.bucket < d.bucket →
      GathersAs of m o d budget gathered
  gathered_later refusal y later =
      record { entries = x.entries; lists = lists_later o budget x.lists refusal y later; are = x.are }

-- whether a cursor stands where it stood
pub stood : (c d : Cursor) → ((d.bucket == c.bucket) && (d.from == c.from)) ≡ true → d ≡ c
stood c d e =
    let f : (d.bucket ≡ c.bucket) × (d.from ≡ c.from) = grind arith in (λ i. record { bucket = f.0 i; from = f.1 i })

pub stood_not : (c d : Cursor) → ((d.bucket == c.bucket) && (d.from == c.from)) ≡ false → d ≡ c → ⊥
stood_not c d e same =
    let P : Cursor → Type 0 = λ u. ((u.bucket == c.bucket) && (u.from == c.from)) ≡ false in
    let no = subst P same e in
    grind (arith, no)

-- a call that was refused, and after which the cursor stands elsewhere, came to a later bucket
pub later_bucket : {c d : Cursor} → HasStayedOrMoved c d → (d ≡ c → ⊥) → c.bucket < d.bucket
later_bucket (inl same) other = absurd (other same)
later_bucket (inr later) other = later.0

-- ---- lists of entries

ok_as : {A E : Type 0} {P Q : A → Type 0} (answer : Result A E) → ((told : A) → P told → Q told) → IfOk answer P →
    IfOk answer Q
ok_as (Ok told) f x = f told x
ok_as (Err error) f x = tt

-- what is listed is entries, where nodes have values
entries_listed : {m n : CallerView} {budget : ℕ} {items : List (ℕ × ℕ)} → m.pass.trace.start.shape.values ≡ true →
    HasGathered (λ entries. AreItemsOf (λ key value. (key, value)) entries items) m n budget →
    HasGoneOverEntries m n budget items
entries_listed {m} {n} {budget} {items} values x =
    let P : List (ℕ × ℕ) → Type 0 = HasGoneOverEntries m n budget in
    subst P (sym (x.are ∙ map-id x.entries)) (record { keys = x.over.keys; values = x.over.values values })

pub lists_entries : {A E : Type 0} {Stops : E → Type 0} (items : A → List (ℕ × ℕ)) (m n : CallerView) (budget : ℕ)
    (answer : Result A E) → m.pass.trace.start.shape.values ≡ true →
    GoesOver (λ told. HasGathered (λ entries. AreItemsOf (λ key value. (key, value)) entries (items told)) m n budget)
    Stops m n answer → GoesOver (λ told. HasGoneOverEntries m n budget (items told)) Stops m n answer
lists_entries items m n budget answer values x = record {
  goes = x.goes;
  tells = ok_as answer (λ told listed. entries_listed values listed) x.tells;
  stops = x.stops;
  quiet = x.quiet;
  only_loads = x.only_loads;
  adds_none = x.adds_none;
  takes_no_slot = x.takes_no_slot;
}

-- ---- it ends

-- how far a cursor is from behind the last bucket that there can be
abbrev pub left_of : Cursor → ℕ
left_of c = 2 ^ 96 - (c.bucket * 2 ^ 64 + c.from)

-- it comes nearer with each key
pub nearer : (start : Start) (c d : Cursor) (key : ℕ) → c.from < 2 ^ 64 → d.bucket < 2 ^ 32 → d.from < 2 ^ 64 →
    IsToCome start c key → IsPastKey (bucket_of start.shape key) key d → left_of d < left_of c
nearer start c d key a b e (inl x) (inl y) = let u = y.0 in omega (arith, a, b, e, x, u)
nearer start c d key a b e (inl x) (inr y) = let u = y.0 in omega (arith, a, b, e, x, u)
nearer start c d key a b e (inr x) (inl y) =
    let u = x.0 in let v = x.1 in let w = y.0 in let z = y.1 in omega (arith, a, b, e, u, v, w, z)
nearer start c d key a b e (inr x) (inr y) = let u = x.0 in let v = y.0 in omega (arith, a, b, e, u, v)

-- and in a later bucket
pub nearer_later : (c d : Cursor) → c.from < 2 ^ 64 → d.bucket < 2 ^ 32 → d.from < 2 ^ 64 → c.bucket < d.bucket →
    left_of d < left_of c
nearer_later c d a b e later = omega (arith, a, b, e, later)
