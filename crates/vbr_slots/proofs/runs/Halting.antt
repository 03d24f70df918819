-- Passes are halted one after another, from the last one on, and then made again: each is what it was.
use Rattle.std.proofs.Common.{◌≡◌, ℕ, ◌<◌, List, [], ◌∷◌, ◌++◌, length, refl, sym, ap, ◌∙◌, subst, append-nil}
use Rattle.std.proofs.Common.{append_assoc, arith}
use Rattle.std.proofs.lemmas.List.{length-append, nil_from_length}
use Rattle.atomic_table.specs.declared.shared.Seat.{Seat}
use Rattle.vbr_slots.specs.declared.rule.Witness.{Witness}
use Rattle.vbr_slots.specs.declared.runner.Runner.TheInside.{Inside as RunnerInside}
use Rattle.vbr_slots.specs.declared.snapshot.Halted.{Halted}
use Rattle.vbr_slots.specs.runs.Closing.{AllOf}
use Rattle.vbr_slots.specs.runs.Rule.{head_of, opened_of, tail_of, witness}
use Rattle.vbr_slots.specs.views.RunnerView.{IsSoundRunner, trace_of_runner}
use Rattle.vbr_slots.specs.runs.Snapshots.{AreHalted, EachLow, IsJoined, IsKeptOf, stepper_with, witnesses_of}
use Rattle.vbr_slots.specs.views.StepperView.{IsWell}
use Rattle.vbr_slots.specs.views.Views.{IsOf, PassView, TableView, Trace, counted_steps, steps_of}
use Rattle.vbr_slots.proofs.runs.Closings.{one_of}
use Rattle.vbr_slots.proofs.steps.Steps.{Sat, left_alone, low_of, right_rest, same_again}

-- of all passes some are left, and the others are halted: their witnesses are in this seat of the table, and this is
-- kept of them
pub record IsHalting (t : TableView) (all left : List PassView) (seat : Seat (Unit {0}) (List Witness))
    (halted : List Halted) : Type 0 where
  pub taken : List PassView
  pub parts : left ++ taken ≡ all
  pub table : seat.table_id ≡ t.table
  pub me : seat.me ≡ (witnesses_of taken, [])
  pub kept : AreHalted taken halted

-- ---- lists that are cut before their last element

first_or : {A : Type 0} → A → List A → A
first_or d [] = d
first_or d (x ∷ xs) = x

rest_of : {A : Type 0} → List A → List A
rest_of [] = []
rest_of (x ∷ xs) = xs

same_cut : {A : Type 0} (xs ys : List A) (x y : A) → xs ++ x ∷ [] ≡ ys ++ y ∷ [] → (xs ≡ ys) × (x ≡ y)
unfolding first_or rest_of
same_cut [] [] x y is = (refl, ap (first_or x) is)
same_cut [] (b ∷ ys) x y is =
    absurd (let lengths = ap (λ l. length l) is in let more = length-append ys (y ∷ []) in omega arith)
same_cut (a ∷ xs) [] x y is =
    absurd (let lengths = ap (λ l. length l) is in let more = length-append xs (x ∷ []) in omega arith)
same_cut (a ∷ xs) (b ∷ ys) x y is =
    let more = same_cut xs ys x y (ap rest_of is) in ((λ i. first_or a (is i) ∷ more.0 i), more.1)

-- the last of those that are left goes to those that were taken
pub parts_after : (left rest taken all : List PassView) (p : PassView) → left ≡ rest ++ p ∷ [] → left ++ taken ≡ all →
    rest ++ p ∷ taken ≡ all
parts_after left rest taken all p popped parts =
    sym (append_assoc rest (p ∷ []) taken) ∙ ap (λ (ps : List PassView). ps ++ taken) (sym popped) ∙ parts

-- ---- one more pass is halted

pub one_more : {t : TableView} {all left rest : List PassView} {p : PassView}
    {seat both : Seat (Unit {0}) (List Witness)} {halted more : List Halted} {kept : Halted} →
    (h : IsHalting t all left seat halted) → left ≡ rest ++ p ∷ [] → both.table_id ≡ t.table
    → both.me ≡ (witness (opened_of p.trace.start) p.trace.who p.trace.seen ∷ seat.me.0, []) →
    more ≡ halted ++ kept ∷ [] → IsKeptOf p kept → IsHalting t all rest both more
one_more {t} {all} {left} {rest} {p} {seat} {both} {halted} {more} {kept} h popped table me pushed keeps = record {
  taken = p ∷ h.taken;
  parts = parts_after left rest h.taken all p popped h.parts;
  table = table;
  me = me ∙ ap (λ (m : Sat). (witness (opened_of p.trace.start) p.trace.who p.trace.seen ∷ m.0, [])) h.me;
  kept = (halted, kept, pushed, keeps, h.kept);
}

-- none is left, so all were taken
pub all_taken : {t : TableView} {all left : List PassView} {seat : Seat (Unit {0}) (List Witness)}
    {halted : List Halted} → (h : IsHalting t all left seat halted) → length left ≡ 0 → h.taken ≡ all
all_taken h none = ap (λ (ps : List PassView). ps ++ h.taken) (sym (nil_from_length _ none)) ∙ h.parts

each_low : (t : TableView) (ps : List PassView) (halted : List Halted) → AllOf t ps → AreHalted ps halted →
    EachLow t.passes (witnesses_of ps)
each_low t [] halted all kept = tt
each_low t (p ∷ ps) halted all (others, kept, is, keeps, more) = (
  subst (λ (n : ℕ). p.trace.who < n) all.0.2 (low_of keeps.runner p.trace keeps.sound keeps.trace),
  each_low t ps others all.1 more,
)

pub all_joined : {t : TableView} {all left : List PassView} {seat : Seat (Unit {0}) (List Witness)}
    {halted : List Halted} → (h : IsHalting t all left seat halted) → h.taken ≡ all → AllOf t all → IsJoined t seat
all_joined {t} {all} h taken_is of_table = record {
  table = h.table;
  free = ap (λ (m : Sat). m.1) h.me;
  low = subst (λ (m : Sat). EachLow t.passes m.0) (sym h.me)
      (each_low t h.taken _ (subst (AllOf t) (sym taken_is) of_table) h.kept);
}

pub as_many : (ps : List PassView) → length (witnesses_of ps) ≡ length ps
as_many [] = refl
as_many (p ∷ ps) = let more = as_many ps in omega arith

-- ---- one more is made again

-- the pass of which this was kept last, and the others
pub record IsNext (taken : List PassView) (rest : List Halted) (kept : Halted) : Type 0 where
  pub pass : PassView
  pub others : List PassView
  pub taken_is : taken ≡ pass ∷ others
  pub keeps : IsKeptOf pass kept
  pub more : AreHalted others rest

pub next_kept : (taken : List PassView) (halted rest : List Halted) (kept : Halted) → AreHalted taken halted →
    halted ≡ rest ++ kept ∷ [] → IsNext taken rest kept
next_kept [] halted rest kept none popped =
    absurd (let lengths = ap (λ l. length l) (sym none ∙ popped) in
    let more = length-append rest (kept ∷ []) in
    omega arith)
next_kept (p ∷ ps) halted rest kept (others, last, is, keeps, more) popped =
    let cut = same_cut others rest last kept (sym is ∙ popped) in record {
      pass = p;
      others = ps;
      taken_is = refl;
      keeps = subst (IsKeptOf p) cut.1 keeps;
      more = subst (AreHalted ps) cut.0 more;
    }

-- nothing is kept any more, so none is taken
pub none_taken : (taken : List PassView) (halted : List Halted) → AreHalted taken halted → length halted ≡ 0 →
    taken ≡ []
none_taken [] halted kept none = refl
none_taken (p ∷ ps) halted (others, last, is, keeps, more) none =
    absurd (let lengths = ap (λ l. length l) is in let one = length-append others (last ∷ []) in omega (arith, none))

-- a runner of the seat with the first witness of the joined one, and of what was kept last
module _ {t : TableView} {all left : List PassView} {joined : Seat (Unit {0}) (List Witness)} {halted : List Halted}
    (rest : List Halted) (kept : Halted) (of_table : AllOf t all) (h : IsHalting t all left joined halted)
    (popped : halted ≡ rest ++ kept ∷ []) (seat : Seat (Unit {0}) (List Witness))
    (table : seat.table_id ≡ joined.table_id) (me : seat.me ≡ (head_of joined.me.0, joined.me.1)) where
  abbrev runner : RunnerInside
  runner = record { seat = seat; opening = kept.opening; who = kept.who; epoch = kept.epoch }

  next : IsNext h.taken rest kept
  next = next_kept h.taken halted rest kept h.kept popped

  parts_now : left ++ next.pass ∷ next.others ≡ all
  parts_now = ap (λ (ps : List PassView). left ++ ps) (sym next.taken_is) ∙ h.parts

  of : IsOf next.pass.trace t
  of = one_of t left next.pass next.others (subst (AllOf t) (sym parts_now) of_table)

  joined_is : joined.me
      ≡ (
        witness (opened_of next.pass.trace.start) next.pass.trace.who next.pass.trace.seen ∷ witnesses_of next.others,
        [],
      )
  joined_is = h.me ∙ ap (λ (ps : List PassView). (witnesses_of ps, [])) next.taken_is

  again : IsSoundRunner runner × (trace_of_runner runner ≡ next.pass.trace)
  again =
      let keeps = next.keeps in
      same_again keeps.runner next.pass.trace keeps.sound keeps.trace runner
      (left_alone joined.me seat.me _ (witnesses_of next.others) joined_is me)
      keeps.same (table ∙ h.table ∙ sym of.0)

  pub sound_again : IsSoundRunner runner
  sound_again = again.0

  pub well_again : IsWell (stepper_with (trace_of_runner runner) kept)
  well_again = subst (λ (w : Trace). IsWell (stepper_with w kept)) (sym again.1) next.keeps.well

  pub exact_again : kept.steps ≡ counted_steps (steps_of (trace_of_runner runner))
  exact_again = next.keeps.steps ∙ ap (λ (w : Trace). counted_steps (steps_of w)) (sym again.1)

  -- and then it is one of those that are as they were
  pub one_again : {left' : List PassView} {others : Seat (Unit {0}) (List Witness)} →
      left' ≡ left ++ record { trace = trace_of_runner runner; pool = kept.pool.items; hand = kept.hand } ∷ [] →
      others.table_id ≡ joined.table_id → others.me ≡ (tail_of joined.me.0, []) → IsHalting t all left' others rest
  one_again {left'} {others} pushed others_table others_me = record {
    taken = next.others;
    parts =
        ap (λ (ps : List PassView). ps ++ next.others)
        (pushed ∙ (λ i. left ++ record { trace = again.1 i; pool = next.keeps.pool i; hand = next.keeps.hand i } ∷ []))
        ∙ append_assoc left (next.pass ∷ []) next.others
        ∙ parts_now;
    table = others_table ∙ h.table;
    me = right_rest joined.me others.me _ (witnesses_of next.others) joined_is others_me;
    kept = next.more;
  }

-- all are as they were
pub all_again : {t : TableView} {all left : List PassView} {seat : Seat (Unit {0}) (List Witness)}
    {halted : List Halted} → (h : IsHalting t all left seat halted) → length halted ≡ 0 → left ≡ all
all_again {t} {all} {left} h none =
    sym (append-nil left) ∙ ap (λ (ps : List PassView). left ++ ps) (sym (none_taken h.taken _ h.kept none)) ∙ h.parts
