-- An unmarked node that a traversal read was an entry at a moment, with the value that was read.
use Rattle.vbr_list.proofs.Names.{◌≡◌, ℕ, true, false, List, Some, refl, sym, ap, ◌∙◌, subst, At, BirthAt, Entry}
use Rattle.vbr_list.proofs.Names.{entry_at, entry_of, entry_shown, Event, Held, IsEntry, IsNamed, IsRead, IsSame}
use Rattle.vbr_list.proofs.Names.{IsStart, KeyAt, KeyOf, Knows, knows, link_of, moment_after, opening_keys}
use Rattle.vbr_list.proofs.Names.{opening_payloads, payload_kept, present_at_load, Quiet, set_after, Slot, Start}
use Rattle.vbr_list.proofs.Names.{Trace, value_at_load, ValueOf, values_after, WasFullEntry, WasShown, WasThere}
use Rattle.vbr_list.proofs.Names.{world_after}
use Rattle.vbr_list.proofs.traversals.Clearing.{was_shown}

module _ {p q : Trace} (held : Held) (start : IsStart p.start) (same : IsSame p q) (read : IsRead p q held)
    (unmarked : (link_of held.word).mark ≡ false) (s key : ℕ) (place : held.at ≡ Slot s)
    (keyed : Knows (knows q) (KeyOf s key)) where
  shape_now : IsStart q.start
  shape_now = subst IsStart (sym same.start) start

  entry : (node : ℕ) × IsEntry p.start read.stood.moment s held.birth key node
  entry =
      let W : At → Type 0 =
      λ a. WasShown q.start read.stood.moment q.seen q.who a (link_of held.word) in
      let B : At → Type 0 = λ a. BirthAt (knows q) a held.birth in
      let there = entry_shown q.start q.passes read.stood.moment q.seen q.who s (link_of held.word) held.birth key
      shape_now read.stood.within.is_run (subst W place (was_shown held start same read unmarked))
      (subst B place read.known.birth) keyed in
      let E : Start → Type 0 = λ d. IsEntry d read.stood.moment s held.birth key there.0 in
      (there.0, subst E same.start there.1)

  -- it was an entry with this key
  pub was_there : (value : ℕ) →
      WasThere p q key (record { slot = s; birth = held.birth; value = value })
  was_there value = record {
    moment = read.stood.moment;
    within = read.stood.within;
    named = record { node = entry.0; is = entry.1 };
  }

  -- and with its value, where nodes have values
  pub was_full : (value : ℕ) → Knows (knows q) (ValueOf s value) → p.start.shape.values ≡ true →
      WasFullEntry p q key (record { slot = s; birth = held.birth; value = value })
  was_full value known values =
      let K : At → Type 0 = λ a. KeyAt (knows q) a key in
      record {
        moment = read.stood.moment;
        within = read.stood.within;
        was =
            ap (λ (d : Start). set_after (opening_keys d) (world_after d read.stood.moment).calls key)
            (sym same.start)
            ∙ present_at_load q.start q.passes read.stood.moment q.seen shape_now read.stood.within.is_run q.who held.at
            (link_of held.word) (was_shown held start same read unmarked) key (subst K (sym place) keyed);
        stored =
            ap (λ (d : Start). values_after (opening_payloads d) (world_after d read.stood.moment).calls key)
            (sym same.start)
            ∙ value_at_load q.start q.passes read.stood.moment q.seen shape_now read.stood.within.is_run q.who held.at
            (link_of held.word) (was_shown held start same read unmarked) s key value place keyed known
            ∙ ap (λ (d : Start). payload_kept d (Some value)) same.start
            ∙ (rw values refl);
        named = record { node = entry.0; is = entry.1 };
      }

-- what was so in a later part of what the pass did was so in the whole
pub named_same : {p q : Trace} {moment : List Event} {key : ℕ} {entry : Entry} → q.start ≡ p.start →
    IsNamed q moment key entry → IsNamed p moment key entry
named_same {p} {q} {moment} {key} {entry} same x = record {
  node = x.node;
  is = let P : Start → Type 0 = λ d. IsEntry d moment entry.slot entry.birth key x.node in subst P same x.is;
}

pub full_since : {p q r : Trace} {key : ℕ} {entry : Entry} → Quiet p q → WasFullEntry q r key entry →
    WasFullEntry p r key entry
full_since {key = key} quiet x = record {
  moment = x.moment;
  within = moment_after quiet.seen x.within;
  was = ap (λ (d : Start). set_after (opening_keys d) (world_after d x.moment).calls key) (sym quiet.same.start)
      ∙ x.was;
  stored = ap (λ (d : Start). values_after (opening_payloads d) (world_after d x.moment).calls key)
      (sym quiet.same.start)
      ∙ x.stored;
  named = named_same quiet.same.start x.named;
}

-- the entry of a node in a slot
pub entry_at_slot : (node : Held) (s value : ℕ) → node.at ≡ Slot s →
    entry_of node (Some value) ≡ Some (record { slot = s; birth = node.birth; value = value })
entry_at_slot node s value is = ap (λ (place : At). entry_at place node.birth value) is
