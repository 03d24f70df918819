-- Along a run the epoch only rises, and no stamp is above it.
-- Each epoch that a pass has read is at least 1 and no greater than the last.
use Rattle.std.proofs.Common.{◌≡◌, ◌≢◌, ℕ, ◌≤◌, ◌==◌, Bool, true, false, List, [], ◌∷◌, ◌++◌, Option, Some, None}
use Rattle.std.proofs.Common.{refl, sym, ap, ◌∙◌, subst, ⊎_elim, arith}
use Rattle.std.proofs.lemmas.Bool.{cases_Bool, cases_eq}
use Rattle.vbr_machine.specs.Start.{Start, IsStart}
use Rattle.vbr_words.specs.declared.link.Link.{Link}
use Rattle.vbr_words.specs.declared.place.At.{At}
use Rattle.vbr_words.specs.declared.place.At.TheVariants.{Head, Slot}
use Rattle.vbr_machine.specs.Acceptance.{Accepts, MayBear, stamp_in}
use Rattle.vbr_machine.specs.Accounts.{incarnations_after, notes_after, incarnations_with}
use Rattle.vbr_machine.specs.Agreement.{Agrees}
use Rattle.vbr_machine.specs.Incarnations.{Incarnations, at_opening}
use Rattle.vbr_machine.specs.Knowledge.{Know}
use Rattle.vbr_machine.specs.Learning.{call_ahead, call_of, key_written, link_written, succeeds}
use Rattle.vbr_machine.specs.Machine.{World, opening, found, stamp_shown, after, learned, with_call, with_link_at}
use Rattle.vbr_machine.specs.Machine.{written}
use Rattle.vbr_machine.specs.Notes.{Notes, no_notes, notes_with}
use Rattle.vbr_machine.specs.Put.{put}
use Rattle.vbr_machine.specs.Runs.{world_from, AreAccepted, IsRun, world_after, know_after}
use Rattle.vbr_machine.specs.declared.event.Event.{Event}
use Rattle.vbr_machine.specs.declared.event.Step.{Step}
use Rattle.vbr_machine.specs.declared.event.Step.TheVariants.{ReadEpoch, Advance, StoreStamp, Publish, Unlink}
use Rattle.vbr_machine.specs.declared.history.Call.{Call}
use Rattle.vbr_machine.proofs.Lemmas.{by_both, is_run_after, is_run_before, is_run_first, know_other, know_own}
use Rattle.vbr_machine.proofs.Lemmas.{put_here, put_other, run_agrees, stamp_known, step_agrees, world_after-append}
use Rattle.vbr_slots.specs.views.Views.{epoch_after}
use Rattle.vbr_slots.proofs.Lemmas.{epoch_learned}

-- ---- worlds

-- no stamp is above the epoch, and no epoch that was read is 0
record IsTimely (w : World) : Type 0 where
  stamps : (s : ℕ) → w.stamp s ≤ w.epoch
  some : 1 ≤ w.epoch
  read : (p : ℕ) → 1 ≤ (w.know p).epoch

-- the epoch and the stamps
abbrev epoch_and_stamps : World → ℕ × (ℕ → ℕ)
epoch_and_stamps w = (w.epoch, w.stamp)

-- the epoch is no smaller, and no stamp is above it
abbrev Later : World → World → Type 0
Later w v = (w.epoch ≤ v.epoch) × ((s : ℕ) → v.stamp s ≤ v.epoch)

same_epoch_and_stamps : (w v : World) → epoch_and_stamps v ≡ epoch_and_stamps w → IsTimely w → Later w v
same_epoch_and_stamps w v e t =
    subst (λ (x : ℕ × (ℕ → ℕ)). (w.epoch ≤ x.0) × ((s : ℕ) → x.1 s ≤ x.0)) (sym e) (omega arith, t.stamps)

-- whether a step may move the epoch or a stamp
abbrev moves : Step → Bool
moves (Advance from) = true
moves (StoreStamp s stamp) = true
moves _ = false

-- a link that is written leaves the epoch and the stamps
linked_same : (w : World) (place : At) (link : Link) → epoch_and_stamps (with_link_at w place link) ≡ epoch_and_stamps w
linked_same w (Head b) link = refl
linked_same w (Slot s) link = refl

-- and so does what any other step writes
written_same : (start : Start) (p : ℕ) (step : Step) (link : Link) (key : ℕ) (w : World) → moves step ≡ false →
    epoch_and_stamps (written start p step link key w) ≡ epoch_and_stamps w
written_same start p (Advance from) link key w none = absurd (cc)
written_same start p (StoreStamp s stamp) link key w none = absurd (cc)
written_same start p (Publish pred expected s) link key w none = linked_same w pred link
written_same start p (Unlink pred expected s) link key w none = linked_same w pred link
written_same start p _ link key w none = refl

-- what a pass learns leaves them
learned_same : (start : Start) (w : World) (p : ℕ) (step : Step) →
    epoch_and_stamps (learned start w p step) ≡ epoch_and_stamps w
learned_same start w p (Advance from) = refl
learned_same start w p _ = refl

-- and so does a call that is made
called_same : (w : World) (call : Option Call) → epoch_and_stamps (with_call w call) ≡ epoch_and_stamps w
called_same w None = refl
called_same w (Some call) = refl

-- any other step leaves them
after_same : (start : Start) (w : World) (p : ℕ) (step : Step) → moves step ≡ false →
    epoch_and_stamps (after start w p step) ≡ epoch_and_stamps w
after_same start w p step none =
    let knows_more = learned start w p step in
    let wrote =
    written start p step (link_written (w.know p) step) (key_written (w.know p) step) knows_more in
    let ahead = with_call wrote (call_ahead start p (w.know p) step) in
    let made = call_of start p (w.know p) step in
    by_both (succeeds step (found start w step)) epoch_and_stamps (with_call ahead made) w (epoch_and_stamps w)
    (called_same ahead made ∙ called_same wrote (call_ahead start p (w.know p) step)
    ∙ written_same start p step (link_written (w.know p) step) (key_written (w.know p) step) knows_more none
    ∙ learned_same start w p step) refl

-- one step advances the epoch by 1 or leaves it, and stamps with no greater one
later : (start : Start) (w : World) (p : ℕ) (step : Step) → IsTimely w → (w.know p).epoch ≤ w.epoch →
    Accepts start (w.know p) step → Later w (after start w p step)
later start w p (Advance from) t low ok =
    ⊎_elim (λ (x : (w.epoch == from) ≡ true). rw x (omega arith, λ s. let y = t.stamps s in omega arith))
    (λ (x : (w.epoch == from) ≡ false). rw x (omega arith, t.stamps)) (cases_Bool (w.epoch == from))
later start w p (StoreStamp s stamp) t low ok = (
  omega arith,
  λ v. ⊎_elim (λ (x : v ≡ s).
      subst (λ (n : ℕ). n ≤ w.epoch) (sym (ap (put w.stamp s stamp) x ∙ put_here w.stamp s stamp))
      (let e = ok.in_range.1 in omega arith))
      (λ (x : v ≢ s). subst (λ (n : ℕ). n ≤ w.epoch) (sym (put_other w.stamp s stamp v x)) (t.stamps v)) (cases_eq v s),
)
later start w p step t low ok =
    same_epoch_and_stamps w (after start w p step) (after_same start w p step refl) t

-- the epoch that is read in a timely world is at least 1
some_read : (start : Start) (w : World) (step : Step) (e : ℕ) → IsTimely w → 1 ≤ e →
    1 ≤ epoch_after step (found start w step) e
some_read start w ReadEpoch e t some = t.some
some_read start w _ e t some = some

read_after : (start : Start) (w : World) (p : ℕ) (step : Step) → IsTimely w → (q : ℕ) →
    1 ≤ ((after start w p step).know q).epoch
read_after start w p step t q =
    ⊎_elim
    (λ (x : q ≡ p).
    subst (λ (e : ℕ). 1 ≤ e)
    (sym (ap (λ (i : ℕ). ((after start w p step).know i).epoch) x ∙ ap (λ (k : Know). k.epoch) (know_own start w p step)
    ∙ epoch_learned step (found start w step) (stamp_shown w step) (w.know p)))
    (some_read start w step (w.know p).epoch t (t.read p)))
    (λ (x : q ≢ p). subst (λ (k : Know). 1 ≤ k.epoch) (sym (know_other start w q p step x)) (t.read q)) (cases_eq q p)

timely_after : (start : Start) (w : World) (p : ℕ) (step : Step) → IsTimely w → (w.know p).epoch ≤ w.epoch →
    Accepts start (w.know p) step → IsTimely (after start w p step)
timely_after start w p step t low ok =
    let l = later start w p step t low ok in
    record { stamps = l.1; some = let s = t.some in let g = l.0 in omega arith; read = read_after start w p step t }

-- ---- runs

epoch_known : (start : Start) (w : World) (a : Incarnations) (notes : ℕ → Notes) → Agrees start w a notes → (p : ℕ) →
    (w.know p).epoch ≤ w.epoch
epoch_known start w a notes g p = let e = (g.knows p).epoch in let i = g.image.epoch in omega arith

-- events from a timely world leave it timely, and its epoch rises or stays
timely_from : (start : Start) (passes : ℕ) (w : World) (a : Incarnations) (notes : ℕ → Notes) (events : List Event) →
    Agrees start w a notes → AreAccepted start passes w events → IsTimely w →
    IsTimely (world_from start w events) × (w.epoch ≤ (world_from start w events).epoch)
timely_from start passes w a notes [] g ok t = (t, omega arith)
timely_from start passes w a notes (event ∷ events) g ok t =
    let p = event.pass in
    let v = after start w p event.step in
    let b = incarnations_with start w a event in
    let new = put notes p (notes_with start w b p event.step (notes p)) in
    let low = epoch_known start w a notes g p in
    let one = step_agrees start w a notes p event.step g ok.0.1 in
    let rest = timely_from start passes v b new events one.1 ok.1 (timely_after start w p event.step t low ok.0.1) in
    let here : w.epoch ≤ v.epoch = (later start w p event.step t low ok.0.1).0 in
    let there = rest.1 in
    (rest.0, omega arith)

timely_first : (start : Start) → IsTimely (opening start)
timely_first start = record { stamps = λ s. omega arith; some = omega arith; read = λ p. omega arith }

timely : (start : Start) (passes : ℕ) (run : List Event) → IsStart start → IsRun start passes run →
    IsTimely (world_after start run)
timely start passes run is ok =
    (timely_from start passes (opening start) (at_opening start) (λ p. no_notes) run
    (run_agrees start passes [] is (is_run_first start passes)) ok (timely_first start)).0

-- the epoch only rises
pub epoch_rises : (start : Start) (passes : ℕ) (xs ys : List Event) → IsStart start → IsRun start passes (xs ++ ys) →
    (world_after start xs).epoch ≤ (world_after start (xs ++ ys)).epoch
epoch_rises start passes xs ys is ok =
    let before = is_run_before start passes xs ys ok in
    let more = timely_from start passes (world_after start xs) (incarnations_after start xs) (notes_after start xs) ys
    (run_agrees start passes xs is before) (is_run_after start passes xs ys ok) (timely start passes xs is before) in
    subst (λ (w : World). (world_after start xs).epoch ≤ w.epoch) (sym (world_after-append start xs ys)) more.1

-- what a pass knows after a run, against the epoch: the one that it has read is at least 1, and not above the one
-- that stands
pub read_some : (start : Start) (passes : ℕ) (run : List Event) (who : ℕ) → IsStart start → IsRun start passes run →
    1 ≤ (know_after start run who).epoch
read_some start passes run who is ok = (timely start passes run is ok).read who

pub read_before : (start : Start) (passes : ℕ) (run : List Event) (who : ℕ) → IsStart start → IsRun start passes run →
    (know_after start run who).epoch ≤ (world_after start run).epoch
read_before start passes run who is ok =
    epoch_known start (world_after start run) (incarnations_after start run) (notes_after start run)
    (run_agrees start passes run is ok) who

pub read_in_shape : (start : Start) (passes : ℕ) (run : List Event) (who : ℕ) → IsStart start → IsRun start passes run →
    (know_after start run who).epoch ≤ start.shape.last_epoch
read_in_shape start passes run who is ok =
    let g = run_agrees start passes run is ok in let e = (g.knows who).epoch in let f = g.fits.epoch in omega arith

-- and no stamp that it knows is above that
pub stamp_before : (start : Start) (passes : ℕ) (run : List Event) (who s : ℕ) → IsStart start →
    IsRun start passes run → MayBear ((know_after start run who).own s) →
    stamp_in ((know_after start run who).own s) ≤ (world_after start run).epoch
stamp_before start passes run who s is ok may =
    let t = (timely start passes run is ok).stamps s in
    let e = stamp_known start (world_after start run) (incarnations_after start run) (notes_after start run) who s
    (run_agrees start passes run is ok) may in
    omega arith
