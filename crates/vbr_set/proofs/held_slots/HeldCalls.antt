-- Inserts by a slot in hand, as calls of a set or a map; and what is let go.
use Rattle.std.proofs.Common.{◌≡◌, ℕ, Bool, true, false, cond, not, List, [], ◌∷◌, Some}
use Rattle.std.proofs.Common.{Result, Ok, Err, suc, refl, sym, ap, ◌∙◌, subst, arith}
use Rattle.std.specs.Prelude.{Contains}
use Rattle.std.proofs.lemmas.Bool.{ne_eqb}
use Rattle.vbr_machine.specs.declared.history.Call.{Call}
use Rattle.vbr_slots.specs.steps.Calls.{Made}
use Rattle.vbr_slots.specs.steps.PassLaw.{PassLaw}
use Rattle.vbr_slots.specs.pools.Pools.{HandFits, without}
use Rattle.vbr_slots.specs.views.Views.{PassView, TableView, Trace, knows}
use Rattle.vbr_at_table.specs.hands.Aside.{EmptiesHand, KeepsAllButHand}
use Rattle.vbr_at_table.specs.hands.Hands.{HandView}
use Rattle.vbr_at_table.specs.costs.WithinBudget.{TookWithin}
use Rattle.vbr_list.specs.updates.Holding.{InsertsHeld}
use Rattle.vbr_list.specs.calls.Told.{stored_in}
use Rattle.vbr_list.specs.declared.holding.StillInHand.{StillInHand}
use Rattle.vbr_list.specs.declared.holding.StillInHand.TheVariants.{Present, OutOfSteps}
use Rattle.vbr_list.proofs.Lemmas.{alone_all, stored_bare, stored_kept}
use Rattle.vbr_set.specs.histories.Answers.{AnswersAll}
use Rattle.vbr_set.specs.calls.MapCalls.{MapAnswersAll}
use Rattle.vbr_set.specs.calls.Members.{CallsBy, as_caller}
use Rattle.vbr_set.specs.calls.RecordCalls.{AnswersByHeld, InsertsByHeld, as_answer, insert_told, store_told}
use Rattle.vbr_set.proofs.histories.Histories.{answers}
use Rattle.vbr_set.proofs.histories.MapHistories.{RunsAreMaps, map_answers}

-- ---- what an insert by a slot in hand leaves

module _ {T : Type 0} (Leave : List Call → Trace → Trace → Type 0) (told : Trace → Bool → List Call) (p q : PassView)
    (key value budget : ℕ) (hand : HandView) (before : PassLaw p) (after : PassLaw q)
    (leaves : (reply : Bool) → Made (stored_in p.trace key value reply) p.trace q.trace →
    Leave (told p.trace reply) p.trace q.trace)
    (all : (calls : List Call) → Leave calls p.trace q.trace → AnswersAll calls p.trace q.trace) where
  -- it was answered
  answered : (came : Result T (HandView × StillInHand)) (reply : Bool) → as_answer came ≡ Ok reply →
      Made (stored_in p.trace key value reply) p.trace q.trace → AnswersByHeld Leave told p.trace q.trace came
  answered came reply is made =
      let left = leaves reply made in
      let a = all (told p.trace reply) left in
      record {
        same = made.same;
        answers = rw is left;
        alone = rw is (λ lone. (alone_all (told p.trace reply) before.start before.low a.same a.is_run a.once lone).0);
        quiet = rw is tt;
        safe = record { is_run = after.is_run; safe = after.safe };
      }

  answers_by : (came : Result T (HandView × StillInHand)) → InsertsHeld p q key value budget hand came →
      AnswersByHeld Leave told p.trace q.trace came
  answers_by (Ok done) x = answered (Ok done) true refl x.published.answers.made
  answers_by (Err (back, Present)) x = answered (Err (back, Present)) false refl x.kept.says.made
  answers_by (Err (back, OutOfSteps used)) x = record {
    same = x.kept.says.quiet.same;
    answers = tt;
    alone = tt;
    quiet = x.kept.says.quiet;
    safe = record { is_run = after.is_run; safe = after.safe };
  }

  inserts_by : (came : Result T (HandView × StillInHand)) → InsertsHeld p q key value budget hand came →
      InsertsByHeld Leave told p q key value budget hand came
  inserts_by came x = record { inserts = x; answers = answers_by came x }

-- at a set
pub set_held : {T : Type 0} (p q : PassView) (key budget : ℕ) (hand : HandView)
    (came : Result T (HandView × StillInHand)) → p.trace.start.shape.values ≡ false → PassLaw p → PassLaw q →
    InsertsHeld p q key 0 budget hand came →
    InsertsByHeld AnswersAll (insert_told key) p q key 0 budget hand came
set_held p q key budget hand came bare before after x =
    inserts_by AnswersAll (insert_told key) p q key 0 budget hand before after
    (λ reply made.
    answers before.start
    (subst (λ (call : Call). Made call p.trace q.trace) (stored_bare p.trace key 0 bare reply) made)) (λ calls a. a)
    came x

-- and at a map
pub map_held : {T : Type 0} → RunsAreMaps → (p q : PassView) (key value budget : ℕ) (hand : HandView)
    (came : Result T (HandView × StillInHand)) → p.trace.start.shape.values ≡ true → PassLaw p → PassLaw q →
    InsertsHeld p q key value budget hand came →
    InsertsByHeld MapAnswersAll (store_told key value) p q key value budget hand came
map_held maps p q key value budget hand came has before after x =
    inserts_by MapAnswersAll (store_told key value) p q key value budget hand before after
    (λ reply made.
    map_answers maps (store_told key value p.trace reply) p q before
    (answers before.start
    (subst (λ (call : Call). Made call p.trace q.trace) (stored_kept p.trace key value has reply) made)))
    (λ calls a. a.answers) came x

-- ---- of a member, whose pass took the slot up before, and put it aside after

pub called_aside : {T : Type 0} (Leave : List Call → Trace → Trace → Type 0) (told : Trace → Bool → List Call)
    (set : TableView) (p first back q : PassView) (key value budget : ℕ) (hand : HandView)
    (came : Result T (HandView × StillInHand)) → KeepsAllButHand p first →
    InsertsByHeld Leave told first back key value budget hand came → EmptiesHand back q →
    CallsBy Leave (told p.trace) (λ so. Unit {0}) (as_caller set p) (as_caller set q) budget (as_answer came)
called_aside Leave told set p first back q key value budget hand came up inserts ends =
    let x = subst (λ (t : Trace × Trace). AnswersByHeld Leave told t.0 t.1 came)
    (λ i. (up.trace i, sym ends.keeps.trace i)) inserts.answers in
    record {
      set = refl;
      same = x.same;
      answers = x.answers;
      alone = x.alone;
      quiet = x.quiet;
      safe = x.safe;
      hand = ends.hand;
      steps = subst (λ (t : Trace × Trace). TookWithin t.0 t.1 budget) (λ i. (up.trace i, sym ends.keeps.trace i))
          inserts.inserts.steps;
      bounds = tt;
    }

-- ---- a slot in hand that is let go

hand_fits : (p : PassView) (slot : ℕ) → PassLaw p → p.hand ≡ Some slot →
    HandFits p.trace.start (knows p.trace) p.pool (Some slot)
hand_fits p slot law is = subst (HandFits p.trace.start (knows p.trace) p.pool) is law.own.in_hand

-- a pool that hasn't a slot stays without it
pub pool_without : (p : PassView) (slot : ℕ) → PassLaw p → p.hand ≡ Some slot → without slot p.pool ≡ p.pool
pool_without p slot law is = stays p.pool (hand_fits p slot law is).2
  where
    stays : (pool : List ℕ) → ¬ (Contains pool slot) → without slot pool ≡ pool
    stays [] out = refl
    stays (x ∷ xs) out =
        ap (λ (b : Bool). cond (not b) (x ∷ without slot xs) (without slot xs))
        (ne_eqb x slot (λ e. out (0, omega arith, e)))
        ∙ ap (λ (l : List ℕ). x ∷ l) (stays xs (λ c. out (suc c.0, (let l = c.1 in omega arith), c.2)))
