-- A pass beyond the number of passes has no calls in a run.
-- And how the epoch of a run grows.
use Rattle.std.proofs.Common.{◌≡◌, ℕ, ◌+◌, ◌≤◌, Bool, true, false, cond, ◌==◌, List, [], ◌∷◌, refl, ap, ◌∙◌, arith}
use Rattle.vbr_words.specs.Flags.{has_flag}
use Rattle.vbr_machine.specs.Start.{Start}
use Rattle.vbr_words.specs.Words.{word_of}
use Rattle.vbr_words.specs.declared.place.At.TheVariants.{Head, Slot}
use Rattle.vbr_machine.specs.Machine.{World, opening, found, after}
use Rattle.vbr_machine.specs.Runs.{IsRun, AreAccepted, world_from, world_after, NoneOf, Begins}
use Rattle.vbr_machine.specs.Calls.{own_calls}
use Rattle.vbr_machine.specs.declared.event.Event.{Event}
use Rattle.vbr_machine.specs.declared.event.Step.{Step}
use Rattle.vbr_machine.specs.declared.event.Step.TheVariants.{ReadEpoch, Advance, LoadStamp, PeekBirth, StoreStamp}
use Rattle.vbr_machine.specs.declared.event.Step.TheVariants.{Raise}
use Rattle.vbr_machine.specs.declared.event.Step.TheVariants.{TakeFlag, StoreBirth, StoreKey, StoreValue, StoreLink}
use Rattle.vbr_machine.specs.declared.event.Step.TheVariants.{LoadLink, LoadBirth, LoadKey, LoadValue, Publish, Mark}
use Rattle.vbr_machine.specs.declared.event.Step.TheVariants.{Replace, Unlink, ConfirmPresent, ConfirmAbsent}
use Rattle.vbr_machine.proofs.Lemmas.{others_leave_calls, world_after-append}

-- no pass beyond the number of passes has an event
none_beyond : (start : Start) (passes who : ℕ) (w : World) (events : List Event) → passes ≤ who →
    AreAccepted start passes w events → NoneOf who events
none_beyond start passes who w [] beyond accepted = tt
none_beyond start passes who w (event ∷ events) beyond accepted = (
  λ same. omega (arith, accepted.0.0),
  none_beyond start passes who (after start w event.pass event.step) events beyond accepted.1,
)

-- so it has no calls
pub no_calls_beyond : (start : Start) (passes who : ℕ) (run : List Event) → passes ≤ who → IsRun start passes run →
    own_calls start run who ≡ []
no_calls_beyond start passes who run beyond is_run =
    others_leave_calls start [] run who (none_beyond start passes who (opening start) run beyond is_run)

-- ---- the epoch

-- where an exchange finds its word the change is made, and else nothing
kept : (b : Bool) (x w : World) → x.epoch ≡ w.epoch → w.epoch ≤ (cond b x w).epoch
kept true x w same = omega (arith, same)
kept false x w same = omega arith

-- the epoch is advanced by one
raised : (b : Bool) (x w : World) → x.epoch ≡ w.epoch + 1 → w.epoch ≤ (cond b x w).epoch
raised true x w more = omega (arith, more)
raised false x w more = omega arith

-- no step lowers the epoch
epoch_after : (start : Start) (w : World) (p : ℕ) (step : Step) → w.epoch ≤ (after start w p step).epoch
epoch_after start w p ReadEpoch = omega arith
epoch_after start w p (Advance from) = raised (w.epoch == from) _ w refl
epoch_after start w p (LoadStamp s) = omega arith
epoch_after start w p (PeekBirth s) = omega arith
epoch_after start w p (StoreStamp s stamp) = omega arith
epoch_after start w p (Raise s) = omega arith
epoch_after start w p (TakeFlag s) = kept (has_flag (found start w (TakeFlag s)) s) _ w refl
epoch_after start w p (StoreBirth s birth) = omega arith
epoch_after start w p (StoreKey s key) = omega arith
epoch_after start w p (StoreValue s value) = omega arith
epoch_after start w p (StoreLink s next) = omega arith
epoch_after start w p (LoadLink place) = omega arith
epoch_after start w p (LoadBirth s) = omega arith
epoch_after start w p (LoadKey s) = omega arith
epoch_after start w p (LoadValue s) = omega arith
epoch_after start w p (Publish (Head b) expected s) = kept (word_of (w.head b) == expected) _ w refl
epoch_after start w p (Publish (Slot t) expected s) = kept (word_of (w.link t) == expected) _ w refl
epoch_after start w p (Mark s expected) = kept (word_of (w.link s) == expected) _ w refl
epoch_after start w p (Replace s expected t) = kept (word_of (w.link s) == expected) _ w refl
epoch_after start w p (Unlink (Head b) expected s) = kept (word_of (w.head b) == expected) _ w refl
epoch_after start w p (Unlink (Slot t) expected s) = kept (word_of (w.link t) == expected) _ w refl
epoch_after start w p (ConfirmPresent op s expected) = kept (word_of (w.link s) == expected) _ w refl
epoch_after start w p (ConfirmAbsent op key (Head b) expected) = kept (word_of (w.head b) == expected) _ w refl
epoch_after start w p (ConfirmAbsent op key (Slot t) expected) = kept (word_of (w.link t) == expected) _ w refl

epoch_from : (start : Start) (w : World) (events : List Event) → w.epoch ≤ (world_from start w events).epoch
epoch_from start w [] = omega arith
epoch_from start w (event ∷ events) =
    omega (
      arith,
      epoch_after start w event.pass event.step,
      epoch_from start (after start w event.pass event.step) events,
    )

-- what begins a run has an epoch no greater than the run's
pub epoch_begins : (start : Start) (seen run : List Event) → Begins seen run →
    (world_after start seen).epoch ≤ (world_after start run).epoch
epoch_begins start seen run begins =
    let same : (world_after start run).epoch ≡ (world_from start (world_after start seen) begins.0).epoch =
    ap (λ (events : List Event). (world_after start events).epoch) begins.1
    ∙ ap (λ (w : World). w.epoch) (world_after-append start seen begins.0) in
    omega (arith, epoch_from start (world_after start seen) begins.0)
