-- What runs out of steps was disturbed, and what disturbs is answered.
-- What is too few steps for so many disturbances is too few for more.
use Rattle.std.proofs.Common.{ℕ, ◌<◌, ◌≤◌, arith}
use Rattle.vbr_slots.specs.steps.Calls.{Quiet}
use Rattle.vbr_slots.specs.steps.PassLaw.{PassLaw}
use Rattle.vbr_slots.specs.views.Views.{PassView}
use Rattle.vbr_at_table.specs.declared.refusal.Refusal.{Refusal}
use Rattle.vbr_list.specs.calls.Budgets.{LacksSteps}
use Rattle.vbr_list.specs.traversals.Disturbed.{disturbed, enough_among, enough_to_insert_among, enough_to_search_among}
use Rattle.vbr_list.specs.traversals.Disturbed.{enough_to_store_among, most_disturbed}
use Rattle.vbr_list.proofs.Lemmas.{disturbed_most, enough_among_more, enough_to_insert_more, enough_to_search_more}
use Rattle.vbr_list.proofs.Lemmas.{enough_to_store_more, lacks_more}
use Rattle.vbr_set.specs.Laws.{InsertsMakeProgress, LookUpsMakeProgress, MapsMakeProgress, RemovesMakeProgress}

-- ---- of a look-up, a search, an insert and a store

module _ (nodes times most budget : ℕ) (le : times ≤ most) where
  pub fewer_to_look_up : budget < enough_among nodes times → budget < enough_among nodes most
  fewer_to_look_up less = let more = enough_among_more nodes times most le in omega (arith, less, more)

  pub fewer_to_search : budget < enough_to_search_among nodes times → budget < enough_to_search_among nodes most
  fewer_to_search less = let more = enough_to_search_more nodes times most le in omega (arith, less, more)

  pub lacks_to_insert : (taking : ℕ) (refusal : Refusal) →
      LacksSteps (enough_to_insert_among nodes times taking) budget refusal →
      LacksSteps (enough_to_insert_among nodes most taking) budget refusal
  lacks_to_insert taking refusal short =
      lacks_more _ _ budget refusal (enough_to_insert_more nodes times most taking le) short

  pub lacks_to_store : (taking : ℕ) (refusal : Refusal) →
      LacksSteps (enough_to_store_among nodes times taking) budget refusal →
      LacksSteps (enough_to_store_among nodes most taking) budget refusal
  lacks_to_store taking refusal short =
      lacks_more _ _ budget refusal (enough_to_store_more nodes times most taking le) short

-- ---- the laws

most : (p q : PassView) (key : ℕ) → PassLaw p → Quiet p.trace q.trace →
    disturbed p.trace q.trace key ≤ most_disturbed p.trace q.trace
most p q key law quiet = disturbed_most p.trace q.trace law.start law.is_run key quiet

pub look_ups_progress : LookUpsMakeProgress
look_ups_progress p q key budget refusal law c =
    fewer_to_look_up _ _ _ budget (most p q key law c.quiet) c.bounds.disturbed_within

pub removes_progress : RemovesMakeProgress
removes_progress p q key budget refusal law c =
    fewer_to_search _ _ _ budget (most p q key law c.quiet) c.bounds.disturbed_within

pub inserts_progress : InsertsMakeProgress
inserts_progress p q key budget refusal law c =
    lacks_to_insert _ _ _ budget (most p q key law c.quiet) _ refusal c.bounds.disturbed_within

pub maps_progress : MapsMakeProgress
maps_progress =
    record {
      get = λ p q key budget refusal law c.
          fewer_to_look_up _ _ _ budget (most p q key law c.calls.quiet) c.calls.bounds.disturbed_within;
      remove_entry = λ p q key budget refusal law c.
          fewer_to_search _ _ _ budget (most p q key law c.calls.quiet) c.calls.bounds.disturbed_within;
      remove_if = λ p q key expected budget refusal law c.
          fewer_to_search _ _ _ budget (most p q key law c.calls.quiet) c.calls.bounds.disturbed_within;
      insert_entry = λ p q key value budget refusal law c.
          lacks_to_insert _ _ _ budget (most p q key law c.calls.quiet) _ refusal c.calls.bounds.disturbed_within;
      store = λ p q key value wanted budget refusal law c.
          lacks_to_store _ _ _ budget (most p q key law c.quiet) _ refusal c.bounds.disturbed_within;
    }
