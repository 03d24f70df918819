-- A traversal of loads alone goes on: behind a place before the number known marked links lead on.
use Rattle.vbr_list.proofs.Names.{◌≡◌, ℕ, ◌≤◌, Bool, true, false, Option, None, subst, bucket_of, Goes, Held, IsCur}
use Rattle.vbr_list.proofs.Names.{IsEnd, IsPred, IsSame, IsSight, itself, Keeps, Know, knows, LeadsTo, Link, link_of}
use Rattle.vbr_list.proofs.Names.{LinkAt, Observes, onward, PassView, Peeks, Slot, StandsBeforeOn, Start, Trace}
use Rattle.vbr_list.specs.declared.looking.Sight.TheVariants.{Present, Absent}
use Rattle.vbr_list.proofs.pieces.Going.{tries_on, tries_refl}
use Rattle.vbr_list.proofs.traversals.Moments.{before_cur, stands_before, key_known}
use Rattle.vbr_list.proofs.pieces.Observing.{observes_on, observes_refl}
use Rattle.vbr_list.proofs.traversals.Reaching.{come_to, pred_on}
use Rattle.vbr_list.proofs.traversals.Traversals.{Follows}

-- where known marked links lead, they lead while they are known
pub leads_kept : {know later : Know} (link last : Link) → Keeps know later → LeadsTo know link last →
    LeadsTo later link last
leads_kept link _ keeps itself = itself
leads_kept link _ keeps (onward last s next leads names known mark) =
    onward last s next (leads_kept link last keeps leads) names (keeps.reads (LinkAt (Slot s) next) known) mark

-- ---- what a look-up comes to

-- the last unmarked place is one before the key
pred_before : {p q : PassView} {bucket key a b budget : ℕ} {pred here : Held} →
    Follows p q bucket key a b budget pred here → bucket ≡ bucket_of p.trace.start.shape key →
    IsPred q.trace.start (knows q.trace) key pred
pred_before {bucket = bucket} {key = key} {pred = pred} x is =
    (come_to bucket key pred x.peeks.tries.goes.quiet.same is x.come).is

-- the end of the list
pub absent_at_end : {p q : PassView} {bucket key a b budget : ℕ} {pred here : Held} →
    Follows p q bucket key a b budget pred here → bucket ≡ bucket_of p.trace.start.shape key →
    (link_of here.word).slot ≡ None → IsSight q.trace.start (knows q.trace) key (Absent pred)
absent_at_end {here = here} x is none =
    (pred_before x is, record { last = link_of here.word; leads = x.leads; before = rw none tt })

-- a node with a greater key
pub absent_before : {p q : PassView} {r : Trace} {bucket key a b budget : ℕ} {pred here : Held} (node : Held) →
    Follows p q bucket key a b budget pred here → bucket ≡ bucket_of p.trace.start.shape key → IsSame q.trace r →
    Keeps (knows q.trace) (knows r) → IsCur (knows r) key here node false → IsSight r.start (knows r) key (Absent pred)
absent_before {r = r} {key = key} {pred = pred} {here = here} node x is s keeps y = (
  pred_on key pred s keeps (pred_before x is),
  record {
    last = link_of here.word;
    leads = leads_kept (link_of pred.word) (link_of here.word) keeps x.leads;
    before = before_cur (knows r) key here node y;
  },
)

-- the node with the key
pub present_at : (start : Start) {know : Know} (key : ℕ) (here node : Held) → IsCur know key here node true →
    IsSight start know key (Present node)
present_at start {know} key here node y = (y.held, y.unmarked, key_known know key here node y)

-- a key that stands before what a place names stands before what known marked links lead to from there
pub before_named : (know : Know) (key : ℕ) (pred : Held) (cur : Option Held) (present : Bool) →
    IsEnd know key pred cur present → present ≡ false → StandsBeforeOn know key (link_of pred.word)
before_named know key pred cur present y e =
    let P : Bool → Type 0 = IsEnd know key pred cur in
    record { last = link_of pred.word; leads = itself; before = stands_before know key pred cur (subst P e y) }

-- ---- from place to place

pub peeks_refl : (p : PassView) (a budget : ℕ) → a ≤ budget → Peeks p p a a budget
peeks_refl p a budget h = record { tries = tries_refl p a budget h; observes = observes_refl p.trace }

pub peeks_on : {p q r : PassView} {a b c budget : ℕ} → Peeks p q a b budget → Goes q r b c → Observes q.trace r.trace →
    b ≤ c → c ≤ budget → Peeks p r a c budget
peeks_on x y more le high = record { tries = tries_on x.tries y le high; observes = observes_on x.observes more }
