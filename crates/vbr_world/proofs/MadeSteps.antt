-- A step that is made in two parts, learning and writing, is the step of the machine.
use Rattle.std.proofs.Common.{◌≡◌, ℕ, ◌+◌, ◌≤◌, arith, length, get_or, ◌<◌, true, false, refl, sym, ap, ◌∙◌}
use Rattle.std.proofs.lemmas.Bool.{eqb-true}
use Rattle.std.proofs.lemmas.List.{get_or_read}
use Rattle.vbr_machine.specs.Start.{Start}
use Rattle.vbr_words.specs.declared.place.At.TheVariants.{Head, Slot}
use Rattle.vbr_words.specs.declared.link.Link.{Link}
use Rattle.vbr_words.specs.declared.link.TheConstants.{MAX_VERSION}
use Rattle.vbr_machine.specs.Acceptance.{Accepts}
use Rattle.vbr_machine.specs.Put.{put}
use Rattle.vbr_machine.specs.Knowledge.{Know}
use Rattle.vbr_machine.specs.Learning.{link_written, call_of, succeeds, key_written}
use Rattle.vbr_machine.specs.Machine.{World, found, with_call, after, written}
use Rattle.vbr_world.specs.Answering.{with_answer, WordsHaveRoom}
use Rattle.vbr_world.specs.WorldInLists.{KeptPass, KeptWorld, IsWhole, opening_pass, world_of}
use Rattle.vbr_machine.specs.declared.event.Step.{Step}
use Rattle.vbr_machine.specs.declared.event.Step.TheVariants.{ReadEpoch, Advance, LoadStamp, PeekBirth, StoreStamp}
use Rattle.vbr_machine.specs.declared.event.Step.TheVariants.{Raise}
use Rattle.vbr_machine.specs.declared.event.Step.TheVariants.{TakeFlag, StoreBirth, StoreKey, StoreLink, LoadLink}
use Rattle.vbr_machine.specs.declared.event.Step.TheVariants.{LoadBirth, LoadKey, Publish, Mark, Replace, Unlink}
use Rattle.vbr_machine.specs.declared.event.Step.TheVariants.{ConfirmPresent, ConfirmAbsent, StoreValue, LoadValue}
use Rattle.vbr_world.proofs.KeptLists.{put_here}

-- a pass that learns nothing leaves the world as it is
idle : (w : World) (p : ℕ) (know : Know) → know ≡ w.know p → record w { know = put w.know p know } ≡ w
idle w p know e = λ i. record w { know = put_here w.know p know e i }

-- what a step writes, where it succeeds, after its pass learned, makes the world after it
pub made : (start : Start) (w : World) (p : ℕ) (step : Step) → succeeds step (found start w step) ≡ true →
    written start p step (link_written (w.know p) step) (key_written (w.know p) step) (with_answer start w p step)
    ≡ after start w p step
made start w p ReadEpoch won = refl
made start w p (Advance from) won =
    rw won (ap (λ (v : World). record v { epoch = w.epoch + 1 }) (idle w p (w.know p) refl))
made start w p (LoadStamp s) won = idle w p (w.know p) refl
made start w p (PeekBirth s) won = idle w p (w.know p) refl
made start w p (StoreStamp s stamp) won = refl
made start w p (Raise s) won = refl
made start w p (TakeFlag s) won = rw won refl
made start w p (StoreBirth s birth) won = refl
made start w p (StoreKey s key) won = refl
made start w p (StoreValue s value) won = refl
made start w p (StoreLink s next) won = refl
made start w p (LoadLink place) won = refl
made start w p (LoadBirth s) won = refl
made start w p (LoadKey s) won = refl
made start w p (LoadValue s) won = refl
made start w p (Publish (Head b) expected s) won = rw won refl
made start w p (Publish (Slot t) expected s) won = rw won refl
made start w p (Mark s expected) won = rw won refl
made start w p (Replace s expected t) won = rw won refl
made start w p (Unlink (Head b) expected s) won = rw won refl
made start w p (Unlink (Slot t) expected s) won = rw won refl
made start w p (ConfirmPresent op s expected) won =
    rw won (ap (λ (v : World). with_call v (call_of start p (w.know p) (ConfirmPresent op s expected)))
    (idle w p (w.know p) refl))
made start w p (ConfirmAbsent op key (Head b) expected) won =
    rw won (ap (λ (v : World). with_call v (call_of start p (w.know p) (ConfirmAbsent op key (Head b) expected)))
    (idle w p (w.know p) refl))
made start w p (ConfirmAbsent op key (Slot t) expected) won =
    rw won (ap (λ (v : World). with_call v (call_of start p (w.know p) (ConfirmAbsent op key (Slot t) expected)))
    (idle w p (w.know p) refl))

-- a step that was lost leaves the world as it is
pub lost : (start : Start) (w : World) (p : ℕ) (step : Step) → succeeds step (found start w step) ≡ false →
    with_answer start w p step ≡ after start w p step
lost start w p (Advance from) gone = rw gone (idle w p (w.know p) refl)
lost start w p (TakeFlag s) gone = rw gone (idle w p (w.know p) refl)
lost start w p (Publish (Head b) expected s) gone = rw gone (idle w p (w.know p) refl)
lost start w p (Publish (Slot t) expected s) gone = rw gone (idle w p (w.know p) refl)
lost start w p (Mark s expected) gone = rw gone (idle w p (w.know p) refl)
lost start w p (Replace s expected t) gone = rw gone (idle w p (w.know p) refl)
lost start w p (Unlink (Head b) expected s) gone = rw gone (idle w p (w.know p) refl)
lost start w p (Unlink (Slot t) expected s) gone = rw gone (idle w p (w.know p) refl)
lost start w p (ConfirmPresent op s expected) gone = rw gone (idle w p (w.know p) refl)
lost start w p (ConfirmAbsent op key (Head b) expected) gone = rw gone (idle w p (w.know p) refl)
lost start w p (ConfirmAbsent op key (Slot t) expected) gone = rw gone (idle w p (w.know p) refl)
lost start w p _ gone = cc

module _ (start : Start) (w : World) (p : ℕ) (step : Step) (word : ℕ) (learned : World) (is : word ≡ found start w step)
    (learned_is : learned ≡ with_answer start w p step) where
  -- a step that succeeds: its pass has learned, and then the words are written
  pub step_made : (same : Start) (new : World) (link : Link) (key : ℕ) → same ≡ start → succeeds step word ≡ true →
      link ≡ link_written (w.know p) step → key ≡ key_written (w.know p) step →
      new ≡ written same p step link key learned → new ≡ after start w p step
  step_made same new link key same_is won link_is key_is new_is =
      new_is ∙ (λ i. written (same_is i) p step (link_is i) (key_is i) (learned_is i))
      ∙ made start w p step (ap (λ word. succeeds step word) (sym is) ∙ won)

  -- a step that is lost: its pass has learned nothing
  pub step_lost : succeeds step word ≡ false → learned ≡ after start w p step
  step_lost gone = learned_is ∙ lost start w p step (ap (λ word. succeeds step word) (sym is) ∙ gone)

-- an accepted step that succeeds writes what has room: the epoch is below the last, and a birth is the epoch that
-- the pass read
has_room : (start : Start) (w : World) (p : ℕ) (step : Step) → Accepts start (w.know p) step →
    (w.know p).epoch ≤ MAX_VERSION → succeeds step (found start w step) ≡ true → WordsHaveRoom start w.epoch step
has_room start w p (Advance from) accepts fits won = omega (arith, accepts.below_last, eqb-true w.epoch from won)
has_room start w p (StoreBirth s birth) accepts fits won = omega (arith, accepts.in_range.0)
has_room start w p _ accepts fits won = tt

-- the same of the lists that are kept, by the epoch that the pass tells
pub room_kept : (kept : KeptWorld) (p epoch : ℕ) (pass : KeptPass) (step : Step) → IsWhole kept →
    p < length kept.passes → pass ≡ get_or kept.passes p pass → epoch ≡ pass.epoch → epoch ≤ MAX_VERSION →
    Accepts kept.start ((world_of kept).know p) step → succeeds step (found kept.start (world_of kept) step) ≡ true →
    WordsHaveRoom kept.start kept.epoch step
room_kept kept p epoch pass step whole lt is told fits accepts won =
    has_room kept.start (world_of kept) p step accepts
    (omega (arith, ap (λ (pass : KeptPass). pass.epoch) (get_or_read kept.passes p pass lt is opening_pass))) won
