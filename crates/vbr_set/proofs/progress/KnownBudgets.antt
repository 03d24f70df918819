-- A budget that is known to be enough, whatever is in the own pool, shows that another was answered.
use Rattle.std.proofs.Common.{◌≡◌, ◌≢◌, ℕ, zero, suc, ◌≤◌, ◌==◌, ◌&&◌, not, true, List}
use Rattle.std.proofs.Common.{[], ◌∷◌, refl, sym, ap, ◌∙◌, eq-eqb, inl, inr, ⊎_elim, arith}
use Rattle.std.specs.Prelude.{◌⊎◌}
use Rattle.std.proofs.lemmas.Bool.{and_parts, cases_Bool, false≢true}
use Rattle.vbr_machine.specs.Disturbances.{is_update, one_if}
use Rattle.vbr_machine.specs.declared.history.Call.{Call}
use Rattle.vbr_machine.specs.declared.history.Op.{Op}
use Rattle.vbr_machine.specs.declared.history.Op.TheVariants.{Insert, Remove}
use Rattle.vbr_machine.proofs.Lemmas.{calls_since}
use Rattle.vbr_slots.specs.views.Views.{PassView, Trace}
use Rattle.vbr_at_table.specs.costs.Gained.{gained}
use Rattle.vbr_at_table.proofs.Lemmas.{more_lost}
use Rattle.vbr_list.specs.calls.Budgets.{listed_for}
use Rattle.vbr_list.specs.look_ups.Cursors.{SeesMore}
use Rattle.vbr_list.specs.traversals.Disturbed.{enough_to_insert_among, enough_to_store_among, steps_for_slot}
use Rattle.vbr_list.specs.traversals.Disturbed.{steps_to_prepare}
use Rattle.vbr_list.specs.declared.wanted.Wanted.{Wanted}
use Rattle.vbr_set.specs.histories.Histories.{calls_of}
use Rattle.vbr_set.specs.progress.Progressing.{AnotherIsAnswered, SeesRun, most_unanswered}
use Rattle.vbr_set.specs.progress.Winning.{KnownBudgetsShowAnswers, OthersComeInNeed, inserts_of_others, is_insertion}
use Rattle.vbr_set.specs.progress.Winning.{known_steps_for_slot, known_steps_to_prepare, most_gained, others_inserted}
use Rattle.vbr_set.proofs.progress.AnsweredCalls.{map_refusals_show, refusals_show}
use Rattle.vbr_set.proofs.progress.AnsweredMeanwhile.{IsOfAnother, first_is, is_answered, later_is}
use Rattle.vbr_set.proofs.progress.PaidGains.{inserts-append}
use Rattle.vbr_set.proofs.progress.WonFlags.{inserts_pay}

-- ---- an insert of another pass

an_update : (op : Op) → is_insertion op ≡ true → is_update op ≡ true
an_update Insert e = refl
an_update Remove e = refl
an_update _ e = absurd (false≢true e)

another : (who caller : ℕ) → not (caller == who) ≡ true → caller ≢ who
another who caller away own = false≢true (sym (ap not (eq-eqb caller who own)) ∙ away)

has_insert : (who : ℕ) (calls : List Call) → 1 ≤ inserts_of_others who calls → IsOfAnother who calls
has_insert who [] some = absurd (omega (arith, some))
has_insert who (c ∷ cs) some =
    elim (cases_Bool (not (c.who == who) && (is_insertion c.op && c.reply))) [
      | inl here ↦
          let parts = and_parts (not (c.who == who)) (is_insertion c.op && c.reply) here in
          let rest = and_parts (is_insertion c.op) c.reply parts.1 in
          first_is who c cs (another who c.who parts.0) (an_update c.op rest.0) rest.1
      | inr away ↦
          let nothing : one_if (not (c.who == who) && (is_insertion c.op && c.reply)) ≡ 0 = ap one_if away in
          later_is who c cs (has_insert who cs (omega (arith, some, nothing)))
    ]

-- so where one was made since, another pass was answered
another_inserted : (p q : Trace) → SeesMore p q → 1 ≤ others_inserted p q → AnotherIsAnswered p q
another_inserted p q sees more =
    let since = calls_since p.start p.seen q.seen sees.begins in
    let sum = ap (inserts_of_others p.who) since.1 ∙ inserts-append p.who (calls_of p.start p.seen) since.0 in
    is_answered since sees.same.start (has_insert p.who since.0 (omega (arith, more, sum)))

-- ---- what is enough

module _ (p q : PassView) (beyond : ℕ) (law : SeesRun p.trace) (sees : SeesMore p.trace q.trace)
    (others : OthersComeInNeed p.trace q.trace beyond) where
  -- either no more slots were taken than is known before, or another pass was answered
  known_or_answered : (steps_for_slot p q.trace ≤ known_steps_for_slot p beyond) ⊎ AnotherIsAnswered p.trace q.trace
  known_or_answered = go (others_inserted p.trace q.trace) refl
    where
      go : (n : ℕ) → others_inserted p.trace q.trace ≡ n →
          (steps_for_slot p q.trace ≤ known_steps_for_slot p beyond) ⊎ AnotherIsAnswered p.trace q.trace
      go zero none =
          let few = inserts_pay p q beyond law sees others in
          let lost = more_lost p.pool (gained p.trace q.trace) (most_gained p.trace beyond)
          (omega (arith, few, none)) in
          inl (omega (arith, lost))
      go (suc n) some = inr (another_inserted p.trace q.trace sees (omega (arith, some)))

  enough_to_insert : (key budget : ℕ) → steps_for_slot p q.trace ≤ known_steps_for_slot p beyond →
      enough_to_insert_among (listed_for p.trace key) (most_unanswered p.trace) (known_steps_for_slot p beyond)
      ≤ budget →
      enough_to_insert_among (listed_for p.trace key) (most_unanswered p.trace) (steps_for_slot p q.trace) ≤ budget
  enough_to_insert key budget few enough = omega (arith, few, enough)

  enough_to_store : (key budget : ℕ) (wanted : Wanted) → steps_for_slot p q.trace ≤ known_steps_for_slot p beyond →
      enough_to_store_among (listed_for p.trace key) (most_unanswered p.trace)
      (known_steps_to_prepare wanted p beyond) ≤ budget →
      enough_to_store_among (listed_for p.trace key) (most_unanswered p.trace) (steps_to_prepare wanted p q.trace)
      ≤ budget
  enough_to_store key budget wanted few enough = omega (arith, few, enough)

-- ---- what a refusal shows

pub known_budgets_show : KnownBudgetsShowAnswers
known_budgets_show =
    record {
      insert = λ p q beyond key budget used law goes others c enough.
          ⊎_elim
          (λ few.
          refusals_show.insert p q key budget used law goes c
          (enough_to_insert p q beyond law goes.sees others key budget few enough))
          (λ answered. answered) (known_or_answered p q beyond law goes.sees others);
      insert_entry = λ p q beyond key value budget used law goes others c enough.
          ⊎_elim
          (λ few.
          map_refusals_show.insert_entry p q key value budget used law goes c
          (enough_to_insert p q beyond law goes.sees others key budget few enough))
          (λ answered. answered) (known_or_answered p q beyond law goes.sees others);
      store = λ p q beyond key value wanted budget used law goes others c enough.
          ⊎_elim
          (λ few.
          map_refusals_show.store p q key value wanted budget used law goes c
          (enough_to_store p q beyond law goes.sees others key budget wanted few enough))
          (λ answered. answered) (known_or_answered p q beyond law goes.sees others);
    }
