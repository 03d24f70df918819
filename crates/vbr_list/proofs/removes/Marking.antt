-- The mark of a node that was found, once its value was read.
use Rattle.vbr_list.proofs.Names.{◌≡◌, ℕ, true, Some, Begins, begins_trans, Found, given_in, Held, IsPred, Keeps}
use Rattle.vbr_list.proofs.Names.{knows, Locates, Made, Marked, MarksEntry, MarksFound, MarksHeld, MarksSlot}
use Rattle.vbr_list.proofs.Names.{PassView, ReadsIn, ReadsValue, Remove, Trace}
use Rattle.vbr_list.proofs.traversals.Moments.{key_found_since}
use Rattle.vbr_list.proofs.traversals.Reaching.{pred_on}
use Rattle.vbr_list.proofs.pieces.Told.{given_same, told_since}
use Rattle.vbr_list.proofs.look_ups.ValueReads.{valued_since}

-- a mark since a moment is one since an earlier one
pub marks_since : {p q r : Trace} {s birth key : ℕ} → Begins p.seen q.seen → MarksSlot q r s birth key →
    MarksSlot p r s birth key
marks_since {p} {q} begins x = record {
  moment = x.moment;
  event = x.event;
  from = begins_trans p.seen q.seen x.moment begins x.from;
  last = x.last;
  expected = x.expected;
  mark = x.mark;
  node = x.node;
  entry = x.entry;
}

module _ {p q : PassView} {r : Trace} {key value steps : ℕ} {found : Found} {cur : Held} {gone : Marked}
    (locates : Locates p.trace.start (knows p.trace) key found) (is : found.cur ≡ Some cur)
    (present : found.present ≡ true) (reads : ReadsIn p q steps) (read : ReadsValue p q cur.at value)
    (removed : MarksEntry q.trace r cur gone) where
  -- it is the remove of that value
  pub mark_made : Made (given_in q.trace Remove key (Some value)) q.trace r
  mark_made =
      removed.made key value (key_found_since read.keeps locates is present)
      (valued_since reads.quiet.same read.value)

  -- and so it is with the reading
  pub mark_told : Made (given_in p.trace Remove key (Some value)) p.trace r
  mark_told = told_since reads.quiet (given_same reads.quiet.same Remove key (Some value)) mark_made

  -- the place before the key stays one
  pub pred_marked : Keeps (knows q.trace) (knows r) → IsPred r.start (knows r) key found.pred
  pred_marked keeps =
      pred_on key found.pred mark_made.same keeps
      (pred_on key found.pred reads.quiet.same read.keeps locates.pred)

  -- the node was an entry right before
  pub marked_found : {t : Trace} → MarksHeld q.trace r cur → Begins r.seen t.seen → MarksFound p.trace t key found
  marked_found held on = record {
    cur = cur;
    is = is;
    marks = λ s at_slot. record {
      ended = r;
      same = mark_told.same;
      to = on;
      marks = marks_since reads.quiet.seen
          (held.marks s key at_slot (key_found_since read.keeps locates is present));
    };
  }
