-- A load that answers an operation makes the call, or another link stood where one is held.
use Rattle.std.proofs.Common.{None}
use Rattle.std.proofs.Common.{◌≡◌, ◌≢◌, ℕ, false, ◌++◌, refl, sym, ap, subst}
use Rattle.vbr_machine.specs.Start.{IsStart}
use Rattle.vbr_words.specs.declared.place.At.{At}
use Rattle.vbr_words.specs.declared.place.At.TheVariants.{Slot}
use Rattle.vbr_machine.specs.History.{set_call}
use Rattle.vbr_machine.specs.Knowledge.{Know}
use Rattle.vbr_machine.specs.Learning.{present_reply}
use Rattle.vbr_machine.specs.Loads.{IsLoad}
use Rattle.vbr_machine.specs.Machine as machine
use Rattle.vbr_machine.specs.Membership.{Knows}
use Rattle.vbr_machine.specs.Runs.{IsRun, world_after}
use Rattle.vbr_machine.specs.declared.event.Step.{Step}
use Rattle.vbr_machine.specs.declared.event.Step.TheVariants.{ConfirmAbsent, ConfirmPresent, LoadLink}
use Rattle.vbr_machine.specs.declared.history.Op.{Op}
use Rattle.vbr_machine.specs.declared.history.Op.TheVariants.{Get}
use Rattle.vbr_machine.specs.declared.knowledge.Read.TheVariants.{KeyOf, ValueOf}
use Rattle.vbr_slots.specs.steps.Calls.{AddsNone, Quiet}
use Rattle.vbr_slots.specs.views.Views.{Did, KeepsPool, PassView, Trace, knows}
use Rattle.vbr_slots.proofs.Lemmas.{did_loads, did_moment, did_took}
use Rattle.vbr_at_table.specs.answers.Answering.{FindsAnother, IsAnswered, KeepsByLoad}
use Rattle.vbr_at_table.specs.reads.KeptKnowledge.{Keeps}
use Rattle.vbr_at_table.specs.reads.Moments.{WasFound}
use Rattle.vbr_at_table.specs.answers.Values.{found_call}
use Rattle.vbr_at_table.specs.declared.held.Held.{Held}
use Rattle.vbr_at_table.specs.declared.rollback.Rollback.TheVariants.{LostExchange}
use Rattle.vbr_at_table.proofs.epochs.Advancing.{advances_or_gives, did_none}
use Rattle.vbr_at_table.proofs.reads.KeptKnowledge.{keeps_refl}
use Rattle.vbr_at_table.proofs.steps.MadeCalls.{absent_adds, absent_adds_none, absent_failed, absent_made, present_adds}
use Rattle.vbr_at_table.proofs.steps.MadeCalls.{present_adds_none, present_failed, present_made}
use Rattle.vbr_at_table.proofs.reads.Moments.{unanswered}
use Rattle.vbr_at_table.proofs.own_slots.SlotsAside.{HasHandled, handled}

known_keeps : {know later : Know} → later ≡ know → Keeps know later
known_keeps {know} {later} is = rw is (keeps_refl know)

-- ---- what it leaves

keeps_by_load : {step : Step} {p q : PassView} {r : ℕ} → Did step p.trace q.trace r → IsLoad step →
    advances_or_gives step ≡ false → handled step ≡ None → KeepsPool p q → knows q.trace ≡ knows p.trace →
    KeepsByLoad p q
keeps_by_load {p = p} d load no_gift no_slot pool same = record {
  keeps = record {
    took = did_took d;
    own = record { pool = pool.0; hand = pool.1; in_hand = λ s is. ap (λ (k : Know). k.own s) same };
    takes_no_slot = did_none d no_gift (subst (HasHandled p) (sym no_slot) tt) pool;
    keeps = known_keeps same;
  };
  only_loads = did_loads d load;
}

pub present_keeps : {op : Op} {s expected r : ℕ} {p q : PassView} →
    Did (ConfirmPresent op s expected) p.trace q.trace r → KeepsPool p q → KeepsByLoad p q
present_keeps d pool = keeps_by_load d (λ know. refl) refl refl pool d.know

pub absent_keeps : {op : Op} {key expected r : ℕ} {place : At} {p q : PassView} →
    Did (ConfirmAbsent op key place expected) p.trace q.trace r → KeepsPool p q → KeepsByLoad p q
absent_keeps d pool = keeps_by_load d (λ know. refl) refl refl pool d.know

-- ---- the call

pub present_answered : {op : Op} {s expected : ℕ} {p q : Trace} → IsStart p.start → IsRun p.start p.passes p.seen →
    Did (ConfirmPresent op s expected) p q expected → (key value : ℕ) → Knows (knows p) (KeyOf s key) →
    (op ≡ Get → Knows (knows p) (ValueOf s value)) → IsAnswered p q (found_call p.who op key value)
present_answered start run d key value k v =
    record { made = present_made start run d key value k v; adds = present_adds start run d key value k v }

pub absent_answered : {op : Op} {key expected : ℕ} {place : At} {p q : Trace} →
    Did (ConfirmAbsent op key place expected) p q expected → IsAnswered p q (set_call p.who op key false)
absent_answered d = record { made = absent_made d; adds = absent_adds d }

-- ---- another link

module _ {p q : Trace} {found : ℕ} (held : Held) (other : found ≢ held.word) where
  -- a step that made no call, added nothing and taught nothing found it, if it stood there at its moment
  finds_another : {step : Step} (place : At) → held.at ≡ place → (d : Did step p q found) → Quiet p q → AddsNone p q →
      machine.found p.start (world_after p.start (p.seen ++ d.rest)) (LoadLink place) ≡ found → knows q ≡ knows p →
      FindsAnother p q held (LostExchange found)
  finds_another place is d quiet adds_none there same =
      let F : At → Type 0 = λ place. WasFound p q place found in
      record {
        quiet = quiet;
        adds_none = adds_none;
        lost = (
          other,
          subst F (sym is) (record { moment = p.seen ++ d.rest; within = did_moment d; found = there }),
          known_keeps same,
        );
      }

  pub present_finds : {op : Op} (s : ℕ) → held.at ≡ Slot s → Did (ConfirmPresent op s held.word) p q found →
      FindsAnother p q held (LostExchange found)
  present_finds {op} s is d =
      finds_another (Slot s) is d (present_failed d other) (present_adds_none d other)
      (unanswered (present_reply op) held.word found _ other d.shows.answers) d.know

  pub absent_finds : {op : Op} {key : ℕ} (place : At) → held.at ≡ place →
      Did (ConfirmAbsent op key place held.word) p q found →
      FindsAnother p q held (LostExchange found)
  absent_finds place is d =
      finds_another place is d (absent_failed d other) (absent_adds_none d other)
      (unanswered false held.word found _ other d.shows.answers) d.know
