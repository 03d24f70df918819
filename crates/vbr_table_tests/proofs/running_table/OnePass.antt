-- What the pass of a table knows that has no other pass: nothing was done but its own steps.
use Rattle.std.proofs.Common.{◌≡◌, ℕ, ◌<◌, List, [], ◌∷◌, ◌++◌, Result, Ok, Err, cond, refl, ap, ◌∙◌, subst, arith}
use Rattle.std.specs.Prelude.{Bool, true, is_ok}
use Rattle.vbr_machine.specs.Start.{Start}
use Rattle.vbr_words.specs.Flags.{has_flag}
use Rattle.vbr_machine.specs.Acceptance.{stamp_in}
use Rattle.vbr_machine.specs.Knowledge.{Know}
use Rattle.vbr_machine.specs.Runs.{IsRun, NoneOf, world_after}
use Rattle.vbr_machine.specs.declared.event.Event.{Event}
use Rattle.vbr_machine.specs.declared.event.Step.{Step}
use Rattle.vbr_machine.specs.declared.event.Step.TheVariants.{ReadEpoch, TakeFlag}
use Rattle.vbr_machine.proofs.Lemmas.{is_run_after, is_run_before, put_here}
use Rattle.vbr_slots.specs.views.Views.{Trace, Did, event_of, knows}
use Rattle.vbr_table_tests.proofs.running_table.Taking.{Reached}

only_0 : (n : ℕ) → n < 1 → n ≡ 0
only_0 n low = omega arith

pub below : (m n : ℕ) → m ≡ 0 → n ≡ 1 → m < n
below m n zero one = omega arith

-- a run of one pass has no events of others
none_others : (start : Start) (seen rest last : List Event) → IsRun start 1 ((seen ++ rest) ++ last) → NoneOf 0 rest →
    rest ≡ []
none_others start seen [] last run none = refl
none_others start seen (e ∷ es) last run none =
    absurd (none.0
    (only_0 e.pass (is_run_after start 1 seen (e ∷ es) (is_run_before start 1 (seen ++ e ∷ es) last run)).0.0))

-- the pass 0 of a table that has no other
pub record IsOnlyPass (p : Trace) : Type 0 where
  pub passes : p.passes ≡ 1
  pub who : p.who ≡ 0

none_since : (step : Step) (p q : Trace) (r : ℕ) → IsOnlyPass p → (d : Did step p q r) → d.rest ≡ []
none_since step p q r a d =
    none_others p.start p.seen d.rest (event_of p.who step ∷ [])
    (subst (λ (x : ℕ × List Event). IsRun p.start x.0 x.1) (λ i. (a.passes i, d.seen i)) d.is_run)
    (subst (λ (who : ℕ). NoneOf who d.rest) a.who d.none)

still_only : (step : Step) (p q : Trace) (r : ℕ) → IsOnlyPass p → Did step p q r → IsOnlyPass q
still_only step p q r a d = record { passes = d.same.2 ∙ a.passes; who = d.same.3 ∙ a.who }

-- what it has seen after its first read of the epoch
read_first : (p q : Trace) (r : ℕ) → p.seen ≡ [] → IsOnlyPass p → Did ReadEpoch p q r →
    q.seen ≡ event_of 0 ReadEpoch ∷ []
read_first p q r new a d = d.seen
    ∙ ap (λ (x : List Event × List Event × ℕ). (x.0 ++ x.1) ++ event_of x.2 ReadEpoch ∷ [])
    (λ i. (new i, none_since ReadEpoch p q r a d i, a.who i))

-- the stamp of a slot that is taken once the epoch was read is that of the opening
taken_stamp : (p q t : Trace) (r n : ℕ) → p.seen ≡ [] → IsOnlyPass p → Did ReadEpoch p q r → Did (TakeFlag 0) q t n →
    has_flag n 0 ≡ true → stamp_in ((knows t).own 0) ≡ 0
taken_stamp p q t r n new a read took set =
    ap stamp_in (ap (λ (k : Know). k.own 0) (took.know ∙ won_flag _ (knows q)) ∙ put_here (knows q).own 0 _)
    ∙ ap (λ (x : List Event × List Event). (world_after q.start (x.0 ++ x.1)).stamp 0)
    (λ i. (read_first p q r new a read i, none_since (TakeFlag 0) q t n (still_only ReadEpoch p q r a read) took i))
  where
    won_flag : (a b : Know) → cond (has_flag n 0) a b ≡ a
    won_flag a b = ap (λ (t : Bool). cond t a b) set

-- and so where the taking answers that it was taken
pub stamp_0 : {T : Type 0} (p q t : Trace) (r : ℕ) (answer : Result T ℕ) → p.seen ≡ [] → IsOnlyPass p →
    Did ReadEpoch p q r → is_ok answer ≡ true → Reached 0 q t answer → stamp_in ((knows t).own 0) ≡ 0
stamp_0 p q t r (Ok x) new a read won took = taken_stamp p q t r took.0 new a read took.1 took.2
stamp_0 p q t r (Err n) new a read won took = absurd (cc)
