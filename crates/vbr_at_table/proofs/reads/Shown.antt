-- What the steps of a pass show: the epoch that it reads, and the flags that it takes.
use Rattle.std.proofs.Common.{◌≡◌, ◌≢◌, ℕ, ◌<◌, true, false, [], ◌∷◌, ◌++◌, refl, sym, ap, ◌∙◌, subst, append-nil}
use Rattle.vbr_machine.specs.Start.{Start}
use Rattle.vbr_words.specs.Flags.{word_of_flag, has_flag}
use Rattle.vbr_machine.specs.Knowledge.{Know}
use Rattle.vbr_machine.specs.Machine.{is_shared, found, stamp_shown}
use Rattle.vbr_machine.specs.Making.{taken}
use Rattle.vbr_machine.specs.Runs.{world_after, Begins}
use Rattle.vbr_machine.specs.declared.event.Effect.TheVariants.{Value}
use Rattle.vbr_machine.specs.declared.event.Step.{Step}
use Rattle.vbr_machine.specs.declared.event.Step.TheVariants.{ReadEpoch, TakeFlag, PeekBirth}
use Rattle.vbr_machine.specs.declared.knowledge.SlotPlace.{SlotPlace}
use Rattle.vbr_machine.specs.declared.knowledge.SlotPlace.TheVariants.{Shared, Own, Hand, Listed}
use Rattle.vbr_machine.proofs.Lemmas.{begins_trans, flag_shared, flag_won, unflagged, word_told}
use Rattle.vbr_slots.specs.steps.Calls.{Quiet}
use Rattle.vbr_slots.specs.pools.Tried.{last_tried}
use Rattle.vbr_slots.specs.views.Views.{Trace, Did, knows, event_of, epoch_after}
use Rattle.vbr_slots.proofs.Lemmas.{did_moment, epoch_learned, moment_after, moment_before}
use Rattle.vbr_at_table.specs.pools.SharedPool.{WasOutside, ComesBefore, CameByFlag}

-- the epoch that a pass knows after a step
pub epoch_told : {step : Step} {p q : Trace} {r : ℕ} → Did step p q r →
    (knows q).epoch ≡ epoch_after step r (knows p).epoch
epoch_told {step} {p} {q} {r} d = ap (λ (k : Know). k.epoch) d.know
    ∙ epoch_learned step r (stamp_shown (world_after p.start (p.seen ++ d.rest)) step) (knows p)

-- the epoch that was read stood there
pub epoch_stood : {p q : Trace} {r : ℕ} (d : Did ReadEpoch p q r) → (world_after p.start (p.seen ++ d.rest)).epoch ≡ r
epoch_stood {p} {q} {r} d =
    let e : Value r ≡ Value (world_after p.start (p.seen ++ d.rest)).epoch = d.shows.answers in cc

-- the birth that was loaded stood in its slot
pub birth_stood : {p q : Trace} {s r : ℕ} (d : Did (PeekBirth s) p q r) →
    (world_after p.start (p.seen ++ d.rest)).birth s ≡ r
birth_stood {p} {q} {s} {r} d =
    let e : Value r ≡ Value ((world_after p.start (p.seen ++ d.rest)).birth s) = d.shows.answers in cc

-- ---- flags

pub in_pool : (place : SlotPlace) → is_shared place ≡ true → place ≡ Shared
in_pool Shared e = refl
in_pool (Own p) e = absurd (cc)
in_pool (Hand p) e = absurd (cc)
in_pool (Listed b) e = absurd (cc)

pub out_of_pool : (place : SlotPlace) → is_shared place ≡ false → place ≢ Shared
out_of_pool Shared e = absurd (cc)
out_of_pool (Own p) e = λ is. absurd (cc)
out_of_pool (Hand p) e = λ is. absurd (cc)
out_of_pool (Listed b) e = λ is. absurd (cc)

-- what a taking answers
pub flag_shown : {p q : Trace} {s r : ℕ} (d : Did (TakeFlag s) p q r) →
    taken s r ≡ taken s (found p.start (world_after p.start (p.seen ++ d.rest)) (TakeFlag s))
flag_shown d = d.shows.answers

-- a flag word that was found where a flag was lost tells of each of its slots
pub missed : {p q : Trace} {s r : ℕ} → Did (TakeFlag s) p q r → has_flag r s ≡ false → (t : ℕ) →
    t < p.start.shape.slots → word_of_flag t ≡ word_of_flag s → has_flag r t ≡ false → WasOutside p q t
missed {p} {q} {s} {r} d lost t low same clear =
    let w = world_after p.start (p.seen ++ d.rest) in
    record {
      moment = p.seen ++ d.rest;
      is = did_moment d;
      outside = out_of_pool (w.place t)
          (unflagged p.start w s t low same
          (subst (λ (n : ℕ). has_flag n t ≡ false) (word_told s r (found p.start w (TakeFlag s)) (flag_shown d) lost)
          clear));
    }

-- ---- parts of a call

pub missed_before : {p q r : Trace} {s : ℕ} → WasOutside p q s → Quiet q r → WasOutside p r s
missed_before a b = record { moment = a.moment; is = moment_before a.is b; outside = a.outside }

pub missed_after : {p q r : Trace} {s : ℕ} → Quiet p q → WasOutside q r s → WasOutside p r s
missed_after {p} {q} {r} {s} a b =
    record {
      moment = b.moment;
      is = moment_after a.seen b.is;
      outside = subst (λ (start : Start). (world_after start b.moment).place s ≢ Shared) a.same.start b.outside;
    }

pub came_before : {p q r : Trace} {s : ℕ} → CameByFlag p q s → Quiet q r → CameByFlag p r s
came_before {p} {q} {r} {s} a b =
    record {
      moment = a.moment;
      is = moment_before a.is b;
      shared = a.shared;
      taken = begins_trans _ q.seen r.seen a.taken b.seen;
      first = λ t low less. missed_before (a.first t low less) b;
    }

-- the flag of a slot was taken, once those of the slots before it were lost
pub came : {p q r : Trace} {s n : ℕ} → Quiet p q → Did (TakeFlag s) q r n → has_flag n s ≡ true →
    ((t : ℕ) → t < p.start.shape.slots → ComesBefore (word_of_flag (last_tried p)) t s → WasOutside p r t) →
    CameByFlag p r s
came {p} {q} {r} {s} {n} a d set before =
    let moment = q.seen ++ d.rest in
    let here : (world_after q.start moment).place s ≡ Shared =
    in_pool _ (flag_shared q.start (world_after q.start moment) s
    (flag_won s n (found q.start (world_after q.start moment) (TakeFlag s)) (flag_shown d) set)) in
    let taken : Begins (moment ++ event_of q.who (TakeFlag s) ∷ []) r.seen =
    ([], d.seen ∙ sym (append-nil (moment ++ event_of q.who (TakeFlag s) ∷ []))) in
    record {
      moment = moment;
      is = moment_after a.seen (did_moment d);
      shared = subst (λ (start : Start). (world_after start moment).place s ≡ Shared) a.same.start here;
      taken = subst (λ (who : ℕ). Begins (moment ++ event_of who (TakeFlag s) ∷ []) r.seen) a.same.who taken;
      first = before;
    }
