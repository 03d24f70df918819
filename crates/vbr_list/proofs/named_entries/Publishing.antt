-- A publication in a part of what a pass did is one in the whole.
use Rattle.vbr_list.proofs.Names.{ℕ, begins_trans, PublishesSlot, Quiet, Trace}

pub published_since : {p q r : Trace} {slot birth key : ℕ} → Quiet p q → PublishesSlot q r slot birth key →
    PublishesSlot p r slot birth key
published_since {p} {q} {r} quiet x = record {
  moment = x.moment;
  event = x.event;
  from = begins_trans p.seen q.seen x.moment quiet.seen x.from;
  last = x.last;
  known = x.known;
  in_hand = x.in_hand;
  birth_is = x.birth_is;
  node = x.node;
  entry = x.entry;
}
