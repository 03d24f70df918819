-- What was so at the moment of a step.
use Rattle.std.proofs.Common.{◌≡◌, ◌≢◌, ℕ, Bool, true, false, List, [], ◌∷◌, ◌++◌, Some, refl, sym, ap, ◌∙◌, subst}
use Rattle.std.proofs.Common.{append-nil, inl, inr, cond, eqb-true}
use Rattle.std.specs.Prelude.{◌⊎◌, ◌==◌}
use Rattle.std.proofs.lemmas.Bool.{cases_Bool, ne_eqb, eq-eqb}
use Rattle.vbr_machine.specs.Start.{Start, IsStart}
use Rattle.vbr_words.specs.Words.{link_of}
use Rattle.vbr_words.specs.declared.link.Link.{Link}
use Rattle.vbr_words.specs.declared.place.At.{At}
use Rattle.vbr_words.specs.declared.place.At.TheVariants.{Slot}
use Rattle.vbr_machine.specs.Opened.{opening_keys, opening_payloads, payload_kept}
use Rattle.vbr_machine.specs.History.{set_after, values_after}
use Rattle.vbr_machine.specs.Knowledge.{Know}
use Rattle.vbr_machine.specs.Machine.{link_at, found}
use Rattle.vbr_machine.specs.Making.{exchanged, confirmed}
use Rattle.vbr_machine.specs.Membership.{IsHeldPlace, KeyAt, Knows, LeadsTo, StandsBehind, StandsBefore}
use Rattle.vbr_machine.specs.Moments.{WasShown}
use Rattle.vbr_machine.specs.Runs.{IsRun, Begins, world_after, know_after}
use Rattle.vbr_machine.specs.declared.event.Event.{Event}
use Rattle.vbr_machine.specs.declared.event.Effect.TheVariants.{Value, Won, Lost, Answered}
use Rattle.vbr_machine.specs.declared.event.Step.{Step}
use Rattle.vbr_machine.specs.declared.knowledge.Read.TheVariants.{KeyOf, ValueOf}
use Rattle.vbr_machine.specs.declared.event.Step.TheVariants.{ReadEpoch, LoadLink, Publish, Unlink, PeekBirth}
use Rattle.vbr_machine.proofs.Lemmas.{absent_at_load, absent_at_moments, begins_trans, is_run_before, link_loaded}
use Rattle.vbr_machine.proofs.Lemmas.{others_leave_know, present_at_load, value_at_load}
use Rattle.vbr_slots.specs.steps.Calls.{IsSame, Quiet}
use Rattle.vbr_slots.specs.views.Views.{Trace, Did, knows, event_of}
use Rattle.vbr_slots.proofs.Lemmas.{did_moment, moment_after, moment_before}
use Rattle.vbr_at_table.proofs.reads.Shown.{birth_stood, epoch_stood}
use Rattle.vbr_at_table.specs.reads.Moments.{ShowsBirth, IsEpochRead, Stood, IsRead, WasEntry, WasFound, WasSo}
use Rattle.vbr_at_table.specs.declared.held.Held.{Held}

-- ---- what a step found

value_is : (r n : ℕ) → Value r ≡ Value n → n ≡ r
value_is r n e = cc

-- an exchange that is won found what it expected
pub won : (expected n : ℕ) → exchanged expected expected ≡ exchanged expected n → n ≡ expected
won expected n e = go (cases_Bool (n == expected))
  where
    left : exchanged expected expected ≡ Won
    left = ap (λ (b : Bool). cond b Won (Lost expected)) (eq-eqb expected expected refl)

    go : ((n == expected) ≡ true) ⊎ ((n == expected) ≡ false) → n ≡ expected
    go (inl t) = eqb-true n expected t
    go (inr f) = let z : Won ≡ Lost n = sym left ∙ e ∙ ap (λ (b : Bool). cond b Won (Lost n)) f in absurd (cc)

-- one that is lost found what it answers
pub lost : (expected r n : ℕ) → r ≢ expected → exchanged expected r ≡ exchanged expected n → n ≡ r
lost expected r n other e = go (cases_Bool (n == expected))
  where
    left : exchanged expected r ≡ Lost r
    left = ap (λ (b : Bool). cond b Won (Lost r)) (ne_eqb r expected other)

    go : ((n == expected) ≡ true) ⊎ ((n == expected) ≡ false) → n ≡ r
    go (inl t) = let z : Lost r ≡ Won = sym left ∙ e ∙ ap (λ (b : Bool). cond b Won (Lost n)) t in absurd (cc)
    go (inr f) = let z : Lost r ≡ Lost n = sym left ∙ e ∙ ap (λ (b : Bool). cond b Won (Lost n)) f in cc

pub answers_same : (reply : Bool) (expected n : ℕ) → confirmed reply expected expected ≡ confirmed reply expected n →
    n ≡ expected
answers_same reply expected n e = go (cases_Bool (n == expected))
  where
    left : confirmed reply expected expected ≡ Answered reply
    left = ap (λ (b : Bool). cond b (Answered reply) (Lost expected)) (eq-eqb expected expected refl)

    go : ((n == expected) ≡ true) ⊎ ((n == expected) ≡ false) → n ≡ expected
    go (inl t) = eqb-true n expected t
    go (inr f) =
        let z : Answered reply ≡ Lost n = sym left ∙ e ∙ ap (λ (b : Bool). cond b (Answered reply) (Lost n)) f in
        absurd (cc)

pub unanswered : (reply : Bool) (expected r n : ℕ) → r ≢ expected →
    confirmed reply expected r ≡ confirmed reply expected n → n ≡ r
unanswered reply expected r n other e = go (cases_Bool (n == expected))
  where
    left : confirmed reply expected r ≡ Lost r
    left = ap (λ (b : Bool). cond b (Answered reply) (Lost r)) (ne_eqb r expected other)

    go : ((n == expected) ≡ true) ⊎ ((n == expected) ≡ false) → n ≡ r
    go (inl t) =
        let z : Lost r ≡ Answered reply = sym left ∙ e ∙ ap (λ (b : Bool). cond b (Answered reply) (Lost n)) t in
        absurd (cc)
    go (inr f) = let z : Lost r ≡ Lost n = sym left ∙ e ∙ ap (λ (b : Bool). cond b (Answered reply) (Lost n)) f in cc

-- ---- when the epoch was read

pub epoch_read : {p q : Trace} {epoch : ℕ} → Did ReadEpoch p q epoch → IsEpochRead p q epoch
epoch_read {p} {q} d = record {
  moment = p.seen ++ d.rest;
  within = did_moment d;
  was = epoch_stood d;
  read = ([], d.seen ∙ sym (append-nil ((p.seen ++ d.rest) ++ event_of p.who ReadEpoch ∷ [])));
}

-- ---- what a slot showed

pub birth_shown : {p q : Trace} {slot birth : ℕ} → Did (PeekBirth slot) p q birth → ShowsBirth p q slot birth
birth_shown {p} {q} d = record {
  moment = p.seen ++ d.rest;
  within = did_moment d;
  was = birth_stood d;
}

-- ---- where a link stood

-- the run just before a step
pub run_before : {step : Step} {p q : Trace} {r : ℕ} (d : Did step p q r) → IsRun p.start p.passes (p.seen ++ d.rest)
run_before {step} {p} {q} d =
    is_run_before p.start p.passes (p.seen ++ d.rest) (event_of p.who step ∷ [])
    (let P : List Event → Type 0 = IsRun p.start p.passes in subst P d.seen d.is_run)

-- the link that a load read stood there at the load
stood_here : {p q : Trace} (place : At) (birth word epoch : ℕ) → IsStart p.start → IsHeldPlace (knows p) place →
    (knows p).epoch ≡ epoch → Did (LoadLink place) p q word →
    Stood p q (record { at = place; birth = birth; word = word; epoch = epoch })
stood_here {p} {q} place birth word epoch start held same d =
    let know = others_leave_know p.start p.seen d.rest p.who d.none in
    record {
      moment = p.seen ++ d.rest;
      within = did_moment d;
      epoch = ap (λ (k : Know). k.epoch) know ∙ same;
      place = let P : Know → Type 0 = λ k. IsHeldPlace k place in subst P (sym know) held;
      shown = link_loaded p.start p.passes (p.seen ++ d.rest) start (run_before d) p.who place
          ∙ ap link_of (value_is word _ d.shows.answers);
    }

-- what stood in a part of what the pass did stood in the whole
pub stood_before : {p q r : Trace} {held : Held} → Stood p q held → Quiet q r → Stood p r held
stood_before x b =
    record { moment = x.moment; within = moment_before x.within b; epoch = x.epoch; place = x.place; shown = x.shown }

module _ {p q : Trace} (same : IsSame p q) where
  know_same : (moment : List Event) → know_after q.start moment q.who ≡ know_after p.start moment p.who
  know_same moment = λ i. know_after (same.start i) moment (same.who i)

  pub stood_after : {r : Trace} {held : Held} → Begins p.seen q.seen → Stood q r held → Stood p r held
  stood_after {r} {held} begins x = record {
    moment = x.moment;
    within = moment_after begins x.within;
    epoch = ap (λ (k : Know). k.epoch) (sym (know_same x.moment)) ∙ x.epoch;
    place = let P : Know → Type 0 = λ k. IsHeldPlace k held.at in subst P (know_same x.moment) x.place;
    shown = ap (λ (s : Start). link_at (world_after s x.moment) held.at) (sym same.start) ∙ x.shown;
  }

pub stood_at_load : {p q r s : Trace} (place : At) (birth word epoch : ℕ) → IsStart p.start → Quiet p q →
    IsHeldPlace (knows q) place → (knows q).epoch ≡ epoch → Did (LoadLink place) q r word → Quiet r s →
    Stood p s (record { at = place; birth = birth; word = word; epoch = epoch })
stood_at_load {p} {q} {r} {s} place birth word epoch start a held same d b =
    stood_before
    (stood_after a.same a.seen
    (stood_here place birth word epoch (let P : Start → Type 0 = IsStart in subst P (sym a.same.start) start) held
    same d))
    b

-- ---- where a word was found

-- a lost publication answers the word that stood there
pub publish_found : {pred : At} {expected s word : ℕ} {p q : Trace} → Did (Publish pred expected s) p q word →
    word ≢ expected → WasFound p q pred word
publish_found {pred} {expected} {s} {word} {p} d other =
    record { moment = p.seen ++ d.rest; within = did_moment d; found = lost expected word _ other d.shows.answers }

-- and so does a lost unlinking
pub unlink_found : {pred : At} {expected s word : ℕ} {p q : Trace} → Did (Unlink pred expected s) p q word →
    word ≢ expected → WasFound p q pred word
unlink_found {pred} {expected} {s} {word} {p} d other =
    record { moment = p.seen ++ d.rest; within = did_moment d; found = lost expected word _ other d.shows.answers }

-- what was found in a part of what the pass did was found in the whole
pub found_after : {p q r : Trace} {place : At} {word : ℕ} → Quiet p q → WasFound q r place word →
    WasFound p r place word
found_after {p} {q} {r} {place} {word} a x = record {
  moment = x.moment;
  within = moment_after a.seen x.within;
  found = ap (λ (s : Start). found s (world_after s x.moment) (LoadLink place)) (sym a.same.start) ∙ x.found;
}

-- ---- what was in the set

module _ {p q : Trace} (held : Held) (start : IsStart p.start) (same : IsSame p q) (read : IsRead p q held)
    (unmarked : (link_of held.word).mark ≡ false) where
  was_shown : WasShown q.start read.stood.moment q.seen q.who held.at (link_of held.word)
  was_shown = record {
    begins = read.stood.within.to;
    epoch = ap (λ (k : Know). k.epoch) (know_same same read.stood.moment) ∙ read.stood.epoch ∙ read.known.epoch;
    held =
        let P : Know → Type 0 = λ k. IsHeldPlace k held.at in
        subst P (sym (know_same same read.stood.moment)) read.stood.place;
    shown = ap (λ (s : Start). link_at (world_after s read.stood.moment) held.at) same.start ∙ read.stood.shown;
    known = read.known.link;
    unmarked = unmarked;
  }

  shape_now : IsStart q.start
  shape_now = let P : Start → Type 0 = IsStart in subst P (sym same.start) start

  -- the key of a node whose unmarked link was read was in the set
  pub was_present : (key : ℕ) → KeyAt (knows q) held.at key → WasSo p q key true
  was_present key k = record {
    moment = read.stood.moment;
    within = read.stood.within;
    was = ap (λ (s : Start). set_after (opening_keys s) (world_after s read.stood.moment).calls key) (sym same.start)
        ∙ present_at_load q.start q.passes read.stood.moment q.seen shape_now read.stood.within.is_run q.who held.at
        (link_of held.word) was_shown key k;
  }

  -- a key that stands behind a place whose unmarked link was read, and before what the link names, wasn't
  pub was_absent : (key : ℕ) → StandsBehind q.start (knows q) held.at key →
      StandsBefore (knows q) key (link_of held.word).slot → WasSo p q key false
  was_absent key i j = record {
    moment = read.stood.moment;
    within = read.stood.within;
    was = ap (λ (s : Start). set_after (opening_keys s) (world_after s read.stood.moment).calls key) (sym same.start)
        ∙ absent_at_load q.start q.passes read.stood.moment q.seen shape_now read.stood.within.is_run q.who held.at
        (link_of held.word) was_shown key i j;
  }

  -- and its value was the one that was read
  pub was_entry : (s key value : ℕ) → held.at ≡ Slot s → Knows (knows q) (KeyOf s key) →
      Knows (knows q) (ValueOf s value) → p.start.shape.values ≡ true → WasEntry p q key value
  unfolding was_present
  was_entry s key value place_is k m values =
      let P : At → Type 0 = λ place. KeyAt (knows q) place key in
      let there = was_present key (subst P (sym place_is) k) in
      record {
        moment = there.moment;
        within = there.within;
        was = there.was;
        stored =
            ap (λ (t : Start). values_after (opening_payloads t) (world_after t read.stood.moment).calls key)
            (sym same.start)
            ∙ value_at_load q.start q.passes read.stood.moment q.seen shape_now read.stood.within.is_run q.who held.at
            (link_of held.word) was_shown s key value place_is k m
            ∙ ap (λ (t : Start). payload_kept t (Some value)) same.start
            ∙ (rw values refl);
      }

  -- nor was one at some moment, where known marked links lead on from that link, and it stands before what the last
  -- of them names
  pub was_absent_on : (key : ℕ) (last : Link) → LeadsTo (knows q) (link_of held.word) last →
      StandsBehind q.start (knows q) held.at key → StandsBefore (knows q) key last.slot → WasSo p q key false
  was_absent_on key last leads i j =
      let x = absent_at_moments q.start q.passes read.stood.moment q.seen shape_now read.stood.within.is_run q.who
      held.at (link_of held.word) was_shown key i last leads j in
      record {
        moment = x.between;
        within = record {
          from = begins_trans p.seen read.stood.moment x.between read.stood.within.from x.from;
          to = x.to;
          is_run = read.stood.within.is_run;
        };
        was = ap (λ (s : Start). set_after (opening_keys s) (world_after s x.between).calls key) (sym same.start)
            ∙ x.absent;
      }
