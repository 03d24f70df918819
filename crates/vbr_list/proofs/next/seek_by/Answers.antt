use Rattle.vbr_list.proofs.Names.{ℕ, ◌+◌, ◌*◌, ◌<◌, ◌≤◌, Result, Ok, Err, Option, Some, None, IfErr, IfOk, subst}
use Rattle.vbr_list.proofs.Names.{arith, mul-le, begins_refl, disturbed_in, enough_among, enough_to_seek, IsAlone}
use Rattle.vbr_list.proofs.Names.{IsTired, NextNode, nodes_listed_in, OutOfSteps, PassLaw, PassView, Refusal}
use Rattle.vbr_list.proofs.Names.{SearchesIn, seek_costs, seek_costs_among, Seeks, Sought, steps_besides}
use Rattle.vbr_list.proofs.Names.{steps_to_value_of, took_all, TookWithin}
use Rattle.vbr_list.proofs.traversals.Disturbing.{run_of, undisturbed_in}
use Rattle.vbr_list.proofs.pieces.Going.{within_of}
use Rattle.vbr_list.proofs.look_ups.ValueReads.{few_to_value}
use Rattle.vbr_list.proofs.traversals.Searching.{searched_in}
use Rattle.vbr_list.proofs.next.seek_by.Goals as goal

module _ {p q : PassView} (law : PassLaw p) {bucket from since budget : ℕ} where
  paid : {found : Option (Option NextNode)} (x : Sought p q bucket from 0 since budget found) {each now more : ℕ} →
      SearchesIn 5 each p.trace q.trace bucket 0 now more →
      now ≤ 5 * (nodes_listed_in p.trace bucket + disturbed_in p.trace q.trace bucket)
      + disturbed_in p.trace q.trace bucket
      * (5 * (nodes_listed_in p.trace bucket + disturbed_in p.trace q.trace bucket) + each) + more
  paid x y =
      let quiet = x.peeks.tries.goes.quiet in
      let most = searched_in p.trace q.trace q.trace law.start (run_of law quiet) bucket quiet
      (begins_refl q.trace.seen) y in
      omega (arith, most)

  -- what it returned, or how it was refused, is all that its ends have apart
  seeks : {A : Type 0} {Tells : A → Type 0} {found : Option (Option NextNode)} {answer : Result A Refusal}
      (x : Sought p q bucket from 0 since budget found) → IfOk answer Tells → IfErr answer (IsTired p q budget) →
      IfErr answer
      (λ refusal. budget < enough_among (nodes_listed_in p.trace bucket) (disturbed_in p.trace q.trace bucket)) →
      IfErr answer (λ refusal. IsAlone p.trace q.trace → budget < enough_to_seek p.trace bucket) →
      IfOk answer (λ told.
      TookWithin p.trace q.trace
      (seek_costs_among (nodes_listed_in p.trace bucket) (disturbed_in p.trace q.trace bucket)
      (steps_to_value_of p.trace.start))) →
      IfOk answer (λ told. IsAlone p.trace q.trace → TookWithin p.trace q.trace (seek_costs p.trace bucket)) →
      Seeks Tells p q bucket budget answer
  seeks x told refused disturbed_within within disturbed_costs costs = record {
    told = told;
    quiet = x.peeks.tries.goes.quiet;
    only_loads = x.peeks.observes.only_loads;
    adds_none = x.peeks.observes.adds_none;
    takes_no_slot = x.peeks.tries.goes.hand.takes_no_slot;
    hand = x.peeks.tries.goes.hand.hand;
    steps = within_of since budget x.peeks.tries.within.1 x.peeks.tries.goes.counts;
    refused = refused;
    within = within;
    disturbed_within = disturbed_within;
    costs = costs;
    disturbed_costs = disturbed_costs;
  }

  -- it returned what it was to return
  seeks_told : {A : Type 0} {Tells : A → Type 0} (next : Option NextNode) (answer : A)
      (x : Sought p q bucket from 0 since budget (Some next)) → Tells answer → Seeks Tells p q bucket budget (Ok answer)
  seeks_told next answer x tells =
      let most = paid x x.next.searches in
      let n = nodes_listed_in p.trace bucket in
      let reading = steps_to_value_of p.trace.start in
      let few : since ≤ seek_costs_among n (disturbed_in p.trace q.trace bucket) reading = omega (arith, most) in
      let counts = x.peeks.tries.goes.counts in
      seeks x tells tt tt tt
      (within_of since (seek_costs_among n (disturbed_in p.trace q.trace bucket) reading) few counts)
      (λ alone. let lone =
      subst (λ t. since ≤ seek_costs_among n t reading) (undisturbed_in p.trace q.trace bucket alone) few in
      within_of since (seek_costs p.trace bucket) (omega (arith, lone)) counts)

  -- it had too few steps
  seeks_short : {A : Type 0} {Tells : A → Type 0} → Sought p q bucket from 0 since budget None →
      Seeks Tells p q bucket budget (Err (OutOfSteps since))
  seeks_short x =
      let most = paid x x.tired.searches in
      let n = nodes_listed_in p.trace bucket in
      let t = disturbed_in p.trace q.trace bucket in
      let few = few_to_value p.trace.start in
      let each = mul-le t (5 * (n + t) + steps_besides p.trace) t (5 * (n + t) + 11) (omega arith)
      (omega (arith, few)) in
      let lacks : budget < enough_among n t = omega (arith, most, each) in
      let counts = x.peeks.tries.goes.counts in
      seeks x tt (record { took = took_all counts; within = x.peeks.tries.within.1; short = x.tired.tired }) lacks
      (λ alone. let lone = subst (λ t. budget < enough_among n t) (undisturbed_in p.trace q.trace bucket alone) lacks in
      omega (arith, lone)) tt tt

pub returns-in-Some-clause-seeks : goal.returns-in-Some-clause-seeks
returns-in-Some-clause-seeks g c =
    let x = rw c.in-Some.is at c.seek_in-found.ensures.sought in
    seeks_told c.law.ensures c.in-Some.next _ x x.next.tells

pub returns-in-None-clause-seeks : goal.returns-in-None-clause-seeks
returns-in-None-clause-seeks g c = seeks_short c.law.ensures (rw c.in-None.is at c.seek_in-found.ensures.sought)
