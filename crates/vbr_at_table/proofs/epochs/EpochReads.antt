-- The epoch that a pass reads, against the stamps that it knows, and after it tried to advance it.
use Rattle.std.proofs.Common.{◌≡◌, ℕ, ◌+◌, ◌<◌, ◌≤◌, ◌==◌, Bool, true, false, cond, List, [], ◌∷◌, ◌++◌, Option, Some}
use Rattle.std.proofs.Common.{None, refl, sym, ap, ◌∙◌, subst, arith}
use Rattle.std.specs.Bool.{MatchBool}
use Rattle.std.proofs.lemmas.Bool.Decides.{nat_tests}
use Rattle.vbr_machine.specs.Start.{IsStart}
use Rattle.vbr_machine.specs.Acceptance.{MayBear, stamp_in}
use Rattle.vbr_machine.specs.Knowledge.{Know}
use Rattle.vbr_machine.specs.Learning.{read_epoch, reread}
use Rattle.vbr_machine.specs.Machine.{World, after}
use Rattle.vbr_machine.specs.Runs.{IsRun, world_after}
use Rattle.vbr_machine.specs.declared.event.Event.{Event}
use Rattle.vbr_machine.specs.declared.event.Step.{Step}
use Rattle.vbr_machine.specs.declared.event.Step.TheVariants.{ReadEpoch, Advance}
use Rattle.vbr_machine.specs.declared.knowledge.Holding.{Holding}
use Rattle.vbr_machine.specs.declared.knowledge.Holding.TheVariants.{Free, Unlinked, InHand}
use Rattle.vbr_machine.proofs.Lemmas.{is_run_before, others_leave_know, world_after-snoc}
use Rattle.vbr_slots.specs.steps.Expected.{Finds, FindsOther}
use Rattle.vbr_slots.specs.views.Views.{PassView, Trace, Did, KeepsPool, knows, event_of}
use Rattle.vbr_slots.proofs.Lemmas.{did_run}
use Rattle.vbr_at_table.proofs.epochs.Epochs.{epoch_rises, read_before, stamp_before}
use Rattle.vbr_at_table.proofs.reads.Shown.{epoch_stood}

-- the run that a step came after
run_before : {step : Step} {p q : Trace} {r : ℕ} (d : Did step p q r) → IsRun p.start p.passes (p.seen ++ d.rest)
run_before {step} {p} d =
    is_run_before p.start p.passes (p.seen ++ d.rest) (event_of p.who step ∷ [])
    (subst (IsRun p.start p.passes) d.seen d.is_run)

-- the world after it
world_then : {step : Step} {p q : Trace} {r : ℕ} (d : Did step p q r) →
    world_after q.start q.seen ≡ after p.start (world_after p.start (p.seen ++ d.rest)) p.who step
world_then {step} {p} d =
    (λ i. world_after (d.same.1 i) (d.seen i)) ∙ world_after-snoc p.start (p.seen ++ d.rest) (event_of p.who step)

-- ---- what a reading of the epoch leaves

stamp_reread : (holding : Option Holding) → stamp_in (reread holding) ≡ stamp_in holding
stamp_reread None = refl
stamp_reread (Some (Free stamp)) = refl
stamp_reread (Some (Unlinked seen)) = refl
stamp_reread (Some (InHand known)) = refl

-- whether it moved or not
pub own_read : (know : Know) (epoch s : ℕ) → (read_epoch know epoch).own s ≡ reread (know.own s)
own_read know epoch s = either (epoch == know.epoch)
  where
    either : (b : Bool) →
        (cond {A = Know} b
        (record {
          epoch = know.epoch;
          pending = [];
          checked = know.checked ++ know.pending;
          own = λ v. reread (know.own v);
        }) (record { epoch = epoch; pending = []; checked = []; own = λ v. reread (know.own v) })).own s
        ≡ reread (know.own s)
    either true = refl
    either false = refl

pub stamps_reread : {p q : Trace} {r : ℕ} → Did ReadEpoch p q r → (s : ℕ) →
    stamp_in ((knows q).own s) ≡ stamp_in ((knows p).own s)
stamps_reread {p} {q} {r} d s =
    ap (λ (k : Know). stamp_in (k.own s)) d.know ∙ ap stamp_in (own_read (knows p) r s) ∙ stamp_reread ((knows p).own s)

epoch_stands : {p q : Trace} {r : ℕ} (d : Did ReadEpoch p q r) → (world_after q.start q.seen).epoch ≡ r
epoch_stands d = ap (λ (w : World). w.epoch) (world_then d) ∙ epoch_stood d

-- no stamp that the pass knows is above an epoch that it has just read
pub stamps_low : {p q : Trace} {r : ℕ} → Did ReadEpoch p q r → IsStart q.start → (s : ℕ) → MayBear ((knows q).own s) →
    stamp_in ((knows q).own s) ≤ r
stamps_low {p} {q} {r} d is s may =
    let low = stamp_before q.start q.passes q.seen q.who s is (did_run d) may in let e = epoch_stands d in omega arith

-- ---- what a try to advance it leaves

advanced_if : (b : Bool) (w : World) (from : ℕ) → (w.epoch == from) ≡ b → from ≤ w.epoch →
    from < (cond b (record w { epoch = w.epoch + 1 }) w).epoch
advanced_if true w from e low = omega arith
advanced_if false w from e low = grind (arith, nat_tests)

-- the epoch is above the one that was to be advanced
advanced : {p q : Trace} {from r : ℕ} → IsStart p.start → Did (Advance from) p q r → (knows p).epoch ≡ from →
    from < (world_after q.start q.seen).epoch
advanced {p} {q} {from} is d last =
    let run : List Event = p.seen ++ d.rest in
    let w : World = world_after p.start run in
    let know : (w.know p.who).epoch ≡ from =
    ap (λ (k : Know). k.epoch) (others_leave_know p.start p.seen d.rest p.who d.none) ∙ last in
    let low = read_before p.start p.passes run p.who is (run_before d) in
    subst (λ (v : World). from < v.epoch) (sym (world_then d)) (advanced_if (w.epoch == from) w from refl (omega arith))

-- and so is the epoch that is read then
pub read_above : {p q r : Trace} {from n e : ℕ} → IsStart p.start → Did (Advance from) p q n → Did ReadEpoch q r e →
    (knows p).epoch ≡ from → from < e
read_above {p} {q} {r} {from} {n} {e} is d1 d2 last =
    let up = advanced is d1 last in
    let on = epoch_rises q.start q.passes q.seen d2.rest (subst IsStart (sym d1.same.1) is) (run_before d2) in
    let e = epoch_stood d2 in
    omega arith

-- whether the epoch was advanced or had moved, the try was one step, and the pool and the hand stay
pub tried : {p q : PassView} {from : ℕ} (b : Bool) →
    MatchBool b (Finds (Advance from) p q from) ((found : ℕ) × FindsOther (Advance from) p q from found) →
    (found : ℕ) × Did (Advance from) p.trace q.trace found × KeepsPool p q
tried {p} {q} {from} true d = (from, d.did, d.keeps)
tried {p} {q} {from} false d = (d.0, d.1.did, d.1.keeps)
