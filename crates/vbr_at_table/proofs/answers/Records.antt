-- What a pass publishes is an entry then; so is what it answers by, or marks.
use Rattle.std.proofs.Common.{◌≡◌, ℕ, ◌≤◌, true, false, List, [], ◌∷◌, ◌++◌, Some, refl, arith, sym, ap, ◌∙◌, subst}
use Rattle.vbr_machine.specs.Start.{Start, IsStart}
use Rattle.vbr_words.specs.Words.{link_of}
use Rattle.vbr_words.specs.declared.link.Link.{Link}
use Rattle.vbr_words.specs.declared.place.At.{At}
use Rattle.vbr_words.specs.declared.place.At.TheVariants.{Slot}
use Rattle.vbr_machine.specs.History.{set_after, values_after}
use Rattle.vbr_machine.specs.Knowledge.{Know}
use Rattle.vbr_machine.specs.Learning.{present_reply}
use Rattle.vbr_machine.specs.Machine.{found, link_at}
use Rattle.vbr_machine.specs.Membership.{BirthAt, KeyAt}
use Rattle.vbr_machine.specs.Moments.{WasShown}
use Rattle.vbr_machine.specs.Opened.{opening_keys, opening_payloads}
use Rattle.vbr_machine.specs.Records.{IsEntry}
use Rattle.vbr_machine.specs.Runs.{IsRun, know_after, world_after}
use Rattle.vbr_machine.specs.declared.event.Event.{Event}
use Rattle.vbr_machine.specs.declared.event.Step.{Step}
use Rattle.vbr_machine.specs.declared.event.Step.TheVariants.{ConfirmPresent, LoadLink, Mark, Publish, Replace}
use Rattle.vbr_machine.specs.declared.history.Op.{Op}
use Rattle.vbr_machine.specs.declared.knowledge.Holding.TheVariants.{InHand}
use Rattle.vbr_machine.proofs.Lemmas.{begins_refl, begins_trans, entry_shown, link_held, link_loaded}
use Rattle.vbr_machine.proofs.Lemmas.{others_leave_know, present_at_load, published_entry, replacing_entry, run_agrees}
use Rattle.vbr_machine.proofs.Lemmas.{value_at_load}
use Rattle.vbr_slots.specs.steps.Calls.{Quiet}
use Rattle.vbr_slots.specs.views.Views.{Did, Trace, event_of, knows}
use Rattle.vbr_slots.proofs.Lemmas.{did_moment}
use Rattle.vbr_at_table.specs.reads.Held.{IsFilled, IsHeld}
use Rattle.vbr_at_table.specs.answers.Records.{MarksHeld, PublishesSlot, ShowsEntry, WasHeldEntry}
use Rattle.vbr_at_table.specs.answers.Values.{ValueAt}
use Rattle.vbr_at_table.specs.declared.held.Held.{Held}
use Rattle.vbr_at_table.proofs.reads.Moments.{answers_same, run_before, won}

-- ---- a publication

pub published_slot : {p q r : Trace} {pred : At} {expected slot key birth : ℕ} {link : Link} → IsStart q.start →
    Quiet p q → IsFilled ((knows q).own slot) birth key link → Did (Publish pred expected slot) q r expected →
    PublishesSlot p r slot birth key
published_slot {p} {q} {r} {pred} {expected} {slot} {key} {birth} is quiet filled d =
    record {
      moment = moment;
      event = event_of q.who (Publish pred expected slot);
      from = begins_trans p.seen q.seen moment quiet.seen (d.rest, refl);
      last = d.seen;
      known = filled.known;
      in_hand = ap (λ (k : Know). k.own slot) same_know ∙ own;
      birth_is = filled.birth_is;
      node = entry.0;
      entry =
          let P : Start × List Event → Type 0 = λ x. IsEntry x.0 x.1 slot birth key entry.0 in
          subst P (λ i. (sym d.same.1 i, sym d.seen i)) there;
    }
  where
    moment : List Event
    moment = q.seen ++ d.rest

    own : (know_after q.start moment q.who).own slot ≡ Some (InHand filled.known)
    own = ap (λ (k : Know). k.own slot) (others_leave_know q.start q.seen d.rest q.who d.none) ∙ filled.holding_is

    same_know : know_after r.start moment r.who ≡ know_after q.start moment q.who
    same_know = λ i. know_after (d.same.1 i) moment (d.same.3 i)

    entry : (n : ℕ) ×
        IsEntry q.start (moment ++ event_of q.who (Publish pred expected slot) ∷ []) slot filled.known.birth key n
    entry =
        published_entry q.start q.passes moment q.who pred expected slot key filled.known is
        (let P : List Event → Type 0 = IsRun q.start q.passes in subst P d.seen d.is_run) own filled.key_is
        (won expected _ d.shows.answers)

    there : IsEntry q.start (moment ++ event_of q.who (Publish pred expected slot) ∷ []) slot birth key entry.0
    there =
        let P : ℕ → Type 0 =
        λ b. IsEntry q.start (moment ++ event_of q.who (Publish pred expected slot) ∷ []) slot b key entry.0 in
        subst P filled.birth_is entry.1

-- and so it is of one that takes the place of another node
pub replaced_slot : {p q r : Trace} {node expected slot key birth : ℕ} {link : Link} → IsStart q.start →
    Quiet p q → IsFilled ((knows q).own slot) birth key link → Did (Replace node expected slot) q r expected →
    PublishesSlot p r slot birth key
replaced_slot {p} {q} {r} {node} {expected} {slot} {key} {birth} is quiet filled d =
    record {
      moment = moment;
      event = event_of q.who (Replace node expected slot);
      from = begins_trans p.seen q.seen moment quiet.seen (d.rest, refl);
      last = d.seen;
      known = filled.known;
      in_hand = ap (λ (k : Know). k.own slot) same_know ∙ own;
      birth_is = filled.birth_is;
      node = entry.0;
      entry =
          let P : Start × List Event → Type 0 = λ x. IsEntry x.0 x.1 slot birth key entry.0 in
          subst P (λ i. (sym d.same.1 i, sym d.seen i)) there;
    }
  where
    moment : List Event
    moment = q.seen ++ d.rest

    own : (know_after q.start moment q.who).own slot ≡ Some (InHand filled.known)
    own = ap (λ (k : Know). k.own slot) (others_leave_know q.start q.seen d.rest q.who d.none) ∙ filled.holding_is

    same_know : know_after r.start moment r.who ≡ know_after q.start moment q.who
    same_know = λ i. know_after (d.same.1 i) moment (d.same.3 i)

    entry : (n : ℕ) ×
        IsEntry q.start (moment ++ event_of q.who (Replace node expected slot) ∷ []) slot filled.known.birth key n
    entry =
        replacing_entry q.start q.passes moment q.who node expected slot key filled.known is
        (let P : List Event → Type 0 = IsRun q.start q.passes in subst P d.seen d.is_run) own filled.key_is
        (won expected _ d.shows.answers)

    there : IsEntry q.start (moment ++ event_of q.who (Replace node expected slot) ∷ []) slot birth key entry.0
    there =
        let P : ℕ → Type 0 =
        λ b. IsEntry q.start (moment ++ event_of q.who (Replace node expected slot) ∷ []) slot b key entry.0 in
        subst P filled.birth_is entry.1

-- ---- a node whose link is as it is held

-- where the link of a node that is held was found by a step, the node was an entry then
module _ {step : Step} {p q : Trace} {r : ℕ} (node : Held) (slot : ℕ) (is : IsStart p.start)
    (at_slot : node.at ≡ Slot slot) (held : IsHeld (knows p) node) (unmarked : (link_of node.word).mark ≡ false)
    (d : Did step p q r)
    (reads : found p.start (world_after p.start (p.seen ++ d.rest)) (LoadLink (Slot slot)) ≡ node.word) where
  abbrev moment : List Event
  moment = p.seen ++ d.rest

  ok : IsRun p.start p.passes (p.seen ++ d.rest)
  ok = run_before d

  same_know : know_after p.start moment p.who ≡ knows p
  same_know = others_leave_know p.start p.seen d.rest p.who d.none

  low : node.epoch ≤ (world_after p.start (p.seen ++ d.rest)).epoch
  low =
      let g = run_agrees p.start p.passes moment is ok in
      let u = (g.knows p.who).epoch in
      let v = g.image.epoch in
      let w = ap (λ (k : Know). k.epoch) same_know in
      let x = held.epoch in omega (arith, u, v, w, x)

  shown : WasShown p.start moment moment p.who (Slot slot) (link_of node.word)
  shown =
      let K : Know → Type 0 = λ k. IsHeld k node in
      let known = (subst K (sym same_know) held).link in
      let P : At → Type 0 = λ place. WasShown p.start moment moment p.who place (link_of node.word) in
      subst P at_slot (record {
        begins = begins_refl moment;
        epoch = refl;
        held = link_held p.start p.passes moment is ok p.who node.at (link_of node.word) known;
        shown = let F : At → Type 0 = λ place. link_at (world_after p.start moment) place ≡ link_of node.word in
            subst F (sym at_slot)
            (link_loaded p.start p.passes moment is ok p.who (Slot slot) ∙ ap link_of reads);
        known = known;
        unmarked = unmarked;
      })

  entry_then : (s key : ℕ) → node.at ≡ Slot s → KeyAt (knows p) node.at key →
      (n : ℕ) × IsEntry p.start moment s node.birth key n
  entry_then s key same k =
      let B : At × Know → Type 0 = λ x. BirthAt x.1 x.0 node.birth in
      let K : At × Know → Type 0 = λ x. KeyAt x.1 x.0 key in
      let same_slot : slot ≡ s = (let z : Slot slot ≡ Slot s = sym at_slot ∙ same in cc) in
      let E : ℕ → Type 0 = λ t. (n : ℕ) × IsEntry p.start moment t node.birth key n in
      subst E same_slot
      (entry_shown p.start p.passes moment moment p.who slot (link_of node.word) node.birth key is ok shown
      (subst B (λ i. (at_slot i, sym same_know i)) held.birth) (subst K (λ i. (at_slot i, sym same_know i)) k))

  key_then : (key : ℕ) → KeyAt (knows p) node.at key → KeyAt (know_after p.start moment p.who) (Slot slot) key
  key_then key k = let K : At × Know → Type 0 = λ x. KeyAt x.1 x.0 key in subst K (λ i. (at_slot i, sym same_know i)) k

  present_then : (key : ℕ) → KeyAt (knows p) node.at key →
      set_after (opening_keys p.start) (world_after p.start moment).calls key ≡ true
  present_then key k =
      present_at_load p.start p.passes moment moment is ok p.who (Slot slot) (link_of node.word) shown key
      (key_then key k)

  stored_then : (key value : ℕ) → p.start.shape.values ≡ true → KeyAt (knows p) node.at key →
      ValueAt (knows p) node.at value →
      values_after (opening_payloads p.start) (world_after p.start moment).calls key ≡ Some value
  stored_then key value values k v =
      let V : At × Know → Type 0 = λ x. ValueAt x.1 x.0 value in
      value_at_load p.start p.passes moment moment is ok p.who (Slot slot) (link_of node.word) shown slot key value refl
      (key_then key k) (subst V (λ i. (at_slot i, sym same_know i)) v)
      ∙ (rw values refl)

-- where a confirming load finds the link of a node that is held, the node was an entry then
pub confirmed_entry : {p q : Trace} {op : Op} (node : Held) (slot : ℕ) → IsStart p.start → node.at ≡ Slot slot →
    IsHeld (knows p) node → (link_of node.word).mark ≡ false →
    Did (ConfirmPresent op slot node.word) p q node.word → ShowsEntry p q node
confirmed_entry {p} {q} {op} node slot is at_slot held unmarked d =
    let reads = answers_same (present_reply op) node.word _ d.shows.answers in
    let there : (s key : ℕ) → node.at ≡ Slot s → KeyAt (knows p) node.at key → WasHeldEntry p q node s key =
    λ s key same k.
    let entry = entry_then node slot is at_slot held unmarked d reads s key same k in
    record {
      moment = p.seen ++ d.rest;
      within = did_moment d;
      node = entry.0;
      entry = entry.1;
      epoch = low node slot is at_slot held unmarked d reads;
    } in
    record {
      shows = there;
      stores = λ values s key value same k v.
          record {
            was = there s key same k;
            present = present_then node slot is at_slot held unmarked d reads key k;
            stored = stored_then node slot is at_slot held unmarked d reads key value values k v;
          };
    }

-- and where a mark finds it, the node was an entry right before
pub marked_entry : {p q : Trace} (node : Held) (slot : ℕ) → IsStart p.start → node.at ≡ Slot slot →
    IsHeld (knows p) node → (link_of node.word).mark ≡ false → Did (Mark slot node.word) p q node.word →
    MarksHeld p q node
marked_entry {p} {q} node slot is at_slot held unmarked d =
    let reads = won node.word _ d.shows.answers in
    record {
      marks = λ s key same k.
          let there = entry_then node slot is at_slot held unmarked d reads s key same k in
          let E : Start → Type 0 = λ start. IsEntry start (p.seen ++ d.rest) s node.birth key there.0 in
          let same_slot : slot ≡ s = (let z : Slot slot ≡ Slot s = sym at_slot ∙ same in cc) in
          record {
            moment = p.seen ++ d.rest;
            event = event_of p.who (Mark slot node.word);
            from = (d.rest, refl);
            last = d.seen;
            expected = node.word;
            mark = λ i. event_of (sym d.same.3 i) (Mark (same_slot i) node.word);
            node = there.0;
            entry = subst E (sym d.same.1) there.1;
          };
    }
