-- What a step says of the slots that its pass owns.
use Rattle.std.proofs.Common.{◌≡◌, ◌≢◌, ℕ, ◌<◌, ◌==◌, Bool, true, false, cond, List, [], ◌∷◌, ◌++◌, Option, Some, None}
use Rattle.std.proofs.Common.{refl, sym, ap, ◌∙◌, subst, inl, inr, eq-eqb}
use Rattle.std.specs.Prelude.{Contains, ◌⊎◌}
use Rattle.std.proofs.lemmas.Bool.{cases_Bool, eqb-true}
use Rattle.vbr_machine.specs.Start.{Start, IsStart}
use Rattle.vbr_words.specs.Flags.{has_flag}
use Rattle.vbr_words.specs.declared.place.At.{At}
use Rattle.vbr_machine.specs.Acceptance.{Accepts, MayBear, IsInHand, stamp_in}
use Rattle.vbr_machine.specs.Accounts.{incarnations_after, notes_after}
use Rattle.vbr_machine.specs.Agreement.{Agrees}
use Rattle.vbr_machine.specs.Knowledge.{Know}
use Rattle.vbr_machine.specs.Learning.{newborn, learn, with_own, with_checked, reads_won}
use Rattle.vbr_machine.specs.Machine.{World, stamp_shown, found}
use Rattle.vbr_machine.specs.Making.{exchanged}
use Rattle.vbr_machine.specs.Runs.{IsRun, world_after}
use Rattle.vbr_machine.specs.declared.event.Event.{Event}
use Rattle.vbr_machine.specs.declared.event.Effect.TheVariants.{Won, Lost}
use Rattle.vbr_machine.specs.declared.event.Step.{Step}
use Rattle.vbr_machine.specs.declared.event.Step.TheVariants.{LoadStamp, Raise, TakeFlag, StoreBirth, Unlink}
use Rattle.vbr_machine.specs.declared.knowledge.Holding.{Holding}
use Rattle.vbr_machine.specs.declared.knowledge.Holding.TheVariants.{Free, Unlinked, InHand}
use Rattle.vbr_machine.proofs.Lemmas.{flag_shared, flag_won, found_at, is_run_before, others_leave_know, put_here}
use Rattle.vbr_machine.proofs.Lemmas.{run_agrees, stamp_known, taken_unowned, unlinked_unowned}
use Rattle.vbr_slots.specs.pools.Pools.{OwnPool}
use Rattle.vbr_slots.specs.views.Views.{Trace, Did, knows, event_of}
use Rattle.vbr_slots.proofs.pools.Pools.{changes, takes_in_hand, pooled_may, held_in_hand}

-- an exchange that is won found what it expected
won : (expected r n : ℕ) → exchanged expected r ≡ exchanged expected n → r ≡ expected → n ≡ expected
won expected r n same is =
    go (cases_Bool (n == expected)) (sym (ap (λ (b : Bool). cond b Won (Lost r)) (eq-eqb r expected is)) ∙ same)
  where
    go : ((n == expected) ≡ true) ⊎ ((n == expected) ≡ false) → Won ≡ exchanged expected n → n ≡ expected
    go (inl t) e = eqb-true n expected t
    go (inr f) e = let lost : exchanged expected n ≡ Lost n = ap (λ (b : Bool). cond b Won (Lost n)) f in absurd (cc)

module _ (p q : Trace) (step : Step) (r : ℕ) (d : Did step p q r) where
  -- the run that the step came after
  abbrev before : List Event
  before = p.seen ++ d.rest

  abbrev world : World
  world = world_after p.start before

  is_run : IsRun p.start p.passes before
  is_run = is_run_before p.start p.passes before (event_of p.who step ∷ [])
      (subst (IsRun p.start p.passes) d.seen d.is_run)

  pub agreed : IsStart p.start → Agrees p.start world (incarnations_after p.start before) (notes_after p.start before)
  agreed is = run_agrees p.start p.passes before is is_run

  pub knew : world.know p.who ≡ knows p
  knew = others_leave_know p.start p.seen d.rest p.who d.none

  -- the pool and the hand, against what the pass then knows
  pub pool_after : (pool : List ℕ) (hand : Option ℕ) →
      OwnPool p.start (learn step r (stamp_shown world step) (knows p)) pool hand → OwnPool q.start (knows q) pool hand
  pool_after pool hand o =
      subst (λ (x : Start × Know). OwnPool x.0 x.1 pool hand) (λ i. (sym d.same.1 i, sym d.know i)) o

-- the stamp that is loaded is the one that the pass knows
pub stamp_loaded : (p q : Trace) (s r : ℕ) → IsStart p.start → (d : Did (LoadStamp s) p q r) →
    MayBear ((knows p).own s) → r ≡ stamp_in ((knows p).own s)
stamp_loaded p q s r is d may =
    let w = world_after p.start (p.seen ++ d.rest) in
    let own : (w.know p.who).own s ≡ (knows p).own s = ap (λ (k : Know). k.own s) (knew p q (LoadStamp s) r d) in
    let shown : r ≡ w.stamp s = cc d.shows.answers in
    shown ∙ stamp_known p.start w (incarnations_after p.start (p.seen ++ d.rest))
    (notes_after p.start (p.seen ++ d.rest)) p.who s (agreed p q (LoadStamp s) r d is) (subst MayBear (sym own) may)
    ∙ ap stamp_in own

-- a slot that is taken was not the pass's own
pub taken_new : (p q : Trace) (s r : ℕ) → IsStart p.start → (d : Did (TakeFlag s) p q r) → has_flag r s ≡ true →
    (knows p).own s ≡ None
taken_new p q s r is d one =
    let w = world_after p.start (p.seen ++ d.rest) in
    let own : (w.know p.who).own s ≡ (knows p).own s = ap (λ (k : Know). k.own s) (knew p q (TakeFlag s) r d) in
    sym own ∙ taken_unowned p.start w (incarnations_after p.start (p.seen ++ d.rest))
    (notes_after p.start (p.seen ++ d.rest)) p.who s (agreed p q (TakeFlag s) r d is)
    (flag_shared p.start w s (flag_won s r (found p.start w (TakeFlag s)) d.shows.answers one))

-- nor was one that it unlinked
pub unlinked_new : (p q : Trace) (pred : At) (expected s r : ℕ) → IsStart p.start →
    Accepts p.start (knows p) (Unlink pred expected s) → (d : Did (Unlink pred expected s) p q r) → r ≡ expected →
    (knows p).own s ≡ None
unlinked_new p q pred expected s r is ok d same =
    let w = world_after p.start (p.seen ++ d.rest) in
    let k = knew p q (Unlink pred expected s) r d in
    let own : (w.know p.who).own s ≡ (knows p).own s = ap (λ (k : Know). k.own s) k in
    sym own ∙ unlinked_unowned p.start w (incarnations_after p.start (p.seen ++ d.rest))
    (notes_after p.start (p.seen ++ d.rest)) p.who pred expected s (agreed p q (Unlink pred expected s) r d is)
    (subst (λ (x : Know). Accepts p.start x (Unlink pred expected s)) (sym k) ok)
    (sym (found_at p.start w pred) ∙ won expected r _ d.shows.answers same)

-- ---- the pool and the hand after a step

-- a slot that is raised, and stands neither in a pool nor in a hand, changes nothing there
pub pool_raised : (p q : Trace) (s r : ℕ) (pool : List ℕ) (hand : Option ℕ) → Did (Raise s) p q r →
    ¬ (Contains pool s) → hand ≢ Some s → OwnPool p.start (knows p) pool hand → OwnPool q.start (knows q) pool hand
pool_raised p q s r pool hand d out apart o =
    pool_after p q (Raise s) r d pool hand
    (changes p.start (knows p) _ s None pool hand refl (λ c. absurd (out c)) (λ is. absurd (apart is)) o)

pub pool_taken : (p q : Trace) (s r : ℕ) (pool : List ℕ) (hand : Option ℕ) → IsStart p.start → Did (TakeFlag s) p q r →
    OwnPool p.start (knows p) pool hand → OwnPool q.start (knows q) pool hand
pool_taken p q s r pool hand is d o = pool_after p q (TakeFlag s) r d pool hand (go (has_flag r s) refl)
  where
    go : (b : Bool) → has_flag r s ≡ b →
        OwnPool p.start
        (cond b (with_own (knows p) s (Some (Free (stamp_shown (world_after p.start (p.seen ++ d.rest)) (TakeFlag s)))))
        (knows p)) pool hand
    go true t =
        let new = taken_new p q s r is d t in
        changes p.start (knows p) _ s (Some (Free _)) pool hand refl (λ c. tt)
        (λ h. absurd (subst IsInHand new (held_in_hand p.start (knows p) s pool hand o h))) o
    go false t = o

pub pool_unlinked : (p q : Trace) (pred : At) (expected s r : ℕ) (pool : List ℕ) (hand : Option ℕ) → IsStart p.start →
    Accepts p.start (knows p) (Unlink pred expected s) → Did (Unlink pred expected s) p q r
    → OwnPool p.start (knows p) pool hand → OwnPool q.start (knows q) pool hand
pool_unlinked p q pred expected s r pool hand is ok d o =
    pool_after p q (Unlink pred expected s) r d pool hand (go (r == expected) refl)
  where
    go : (b : Bool) → (r == expected) ≡ b →
        OwnPool p.start
        (cond b (with_own (with_checked (knows p) (reads_won (knows p) (Unlink pred expected s))) s
        (Some (Unlinked false))) (knows p)) pool hand
    go true t =
        let new = unlinked_new p q pred expected s r is ok d (eqb-true r expected t) in
        changes p.start (knows p) _ s (Some (Unlinked false)) pool hand refl
        (λ c. absurd (subst MayBear new (pooled_may p.start (knows p) s pool hand o c)))
        (λ h. absurd (subst IsInHand new (held_in_hand p.start (knows p) s pool hand o h))) o
    go false t = o

-- a slot that was born in, and stands in no pool, is in hand
pub pool_born : (p q : Trace) (s birth r : ℕ) (pool : List ℕ) (hand : Option ℕ) → Did (StoreBirth s birth) p q r →
    s < p.start.shape.slots → ¬ (Contains pool s) → OwnPool p.start (knows p) pool hand →
    OwnPool q.start (knows q) pool (Some s)
pool_born p q s birth r pool hand d low out o =
    let holding : Option Holding = Some (InHand (newborn (stamp_in ((knows p).own s)) birth)) in
    let know : Know = with_own (knows p) s holding in
    pool_after p q (StoreBirth s birth) r d pool (Some s)
    (takes_in_hand p.start know s pool hand low (subst IsInHand (sym (put_here (knows p).own s holding)) tt) out
    (changes p.start (knows p) know s holding pool hand refl (λ c. tt) (λ h. tt) o))
