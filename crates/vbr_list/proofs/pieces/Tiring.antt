-- A remove or a look-up is refused for want of steps only with a budget below what is enough.
-- Enough is said for a pass that is alone, and for one that is disturbed.
use Rattle.vbr_list.proofs.Names.{◌≡◌, ℕ, ◌+◌, ◌<◌, ◌≤◌, Bool, None, Result, Err, arith, BoundsOfLookUp}
use Rattle.vbr_list.proofs.Names.{BoundsOfRemove, Call, CallsAs, Goes, IsRun, IsTired, Observes, OutOfSteps, PassLaw}
use Rattle.vbr_list.proofs.Names.{PassView, PIECE, Refusal, took_all, TraversesAgain, Tries}
use Rattle.vbr_list.proofs.traversals.Disturbing.{run_of}
use Rattle.vbr_list.proofs.pieces.Going.{goes_on, within_of}
use Rattle.vbr_list.proofs.pieces.Observing.{observes_on}
use Rattle.vbr_list.proofs.inserts.Sufficing.{look_up_lacks, search_lacks}
use Rattle.vbr_list.proofs.traversals.Searching.{HasRepeated, lacks_steps}

-- a call that has tried so far goes on, and then its budget has no room for one more piece
module _ {p q r : PassView} (law : PassLaw p) (key : ℕ) {a b budget : ℕ} (tries : Tries p q 0 a budget)
    (went : Goes q r a b) (within : b ≤ budget) (short : budget < b + PIECE) (hand : r.hand ≡ None) where
  whole : Goes p r 0 b
  whole = goes_on tries.goes went

  ok : IsRun p.trace.start p.trace.passes r.trace.seen
  ok = run_of law whole.quiet

  tired : IsTired p r budget (OutOfSteps b)
  tired = record { took = took_all whole.counts; within = within; short = short }

  refused : {A : Type 0} {told : A → Call} {S : Result A Refusal → Type 0} → S (Err (OutOfSteps b)) →
      CallsAs told S p r budget (Err (OutOfSteps b))
  refused bounds =
      record {
        same = whole.quiet.same;
        made = tt;
        alone = tt;
        quiet = whole.quiet;
        hand = hand;
        steps = within_of b budget within whole.counts;
        bounds = bounds;
      }

  pub remove_tires : {A : Type 0} {told : A → Call} {yes : A → Bool} → HasRepeated 9 p.trace q.trace key 6 0 a →
      TraversesAgain 9 q.trace r.trace key a b →
      CallsAs told (BoundsOfRemove yes p r key budget) p r budget (Err (OutOfSteps b))
  remove_tires {A} {told} {yes} lost traverses =
      let lacks = lacks_steps p.trace q.trace r.trace law.start ok key tries.goes.quiet went.quiet (omega arith) lost
      traverses budget short in
      refused {S = BoundsOfRemove yes p r key budget} (record {
        takes_no_slot = whole.hand.takes_no_slot;
        unlists = tt;
        refused = tired;
        within = search_lacks p.trace r.trace key budget lacks;
        disturbed_within = lacks;
        costs = tt;
        disturbed_costs = tt;
        fewer = tt;
      })

  pub look_up_tires : {A : Type 0} {told : A → Call} {reading each : ℕ} → each ≤ 3 → Observes p.trace q.trace →
      Observes q.trace r.trace → HasRepeated 5 p.trace q.trace key (3 + each) 0 a →
      TraversesAgain 5 q.trace r.trace key a b →
      CallsAs told (BoundsOfLookUp told reading p r key budget) p r budget (Err (OutOfSteps b))
  look_up_tires {A} {told} {reading} {each} few before now rounds looks =
      let seen = observes_on before now in
      let lacks = lacks_steps p.trace q.trace r.trace law.start ok key tries.goes.quiet went.quiet (omega (arith, few))
      rounds looks budget short in
      refused {S = BoundsOfLookUp told reading p r key budget} (record {
        only_loads = seen.only_loads;
        adds = tt;
        adds_none = seen.adds_none;
        takes_no_slot = whole.hand.takes_no_slot;
        refused = tired;
        within = look_up_lacks p.trace r.trace key budget lacks;
        disturbed_within = lacks;
        costs = tt;
        disturbed_costs = tt;
      })
