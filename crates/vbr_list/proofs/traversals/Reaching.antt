-- A traversal goes on from place to place.
use Rattle.vbr_list.proofs.Names.{◌≡◌, ℕ, ◌<◌, ◌≤◌, Bool, true, false, ◌++◌, refl, sym, ap, ◌∙◌, subst, arith, eq-eqb}
use Rattle.vbr_list.proofs.Names.{Some, ◌==◌, Contains-append_left, At, at_head, behind_kept, bucket_of, Goes}
use Rattle.vbr_list.proofs.Names.{HasComeTo, HasKey, Head, Held, held_in_kept, held_in_next, held_kept, HeldIn, IsCur}
use Rattle.vbr_list.proofs.Names.{IsNext, IsPred, IsRead, IsSame, IsSlot, Keeps, KeyAt, KeyOf, Know, know_retired}
use Rattle.vbr_list.proofs.Names.{knows, link_of, PassView, Quiet, ReadsNext, Slot, StandsBehind, Start, StartsAt}
use Rattle.vbr_list.proofs.Names.{Stood, stood_after, stood_before, Trace}
use Rattle.vbr_list.proofs.pieces.Going.{tries_on}
use Rattle.vbr_list.proofs.traversals.Traversals.{IsPlaceBefore, IsPlaceIn, StoodBefore, Traverses}
use Rattle.vbr_list.proofs.traversals.Visits.{GoesAlong}

-- so it is of the key's bucket
abbrev pub IsInside : Start → Know → ℕ → Held → Type 0
IsInside start know key place = IsPlaceIn know (bucket_of start.shape key) place

pub stood_since : {p q r : Trace} {held : Held} → Quiet p q → Stood q r held → Stood p r held
stood_since a x = stood_after a.same a.seen x

-- ---- what is known stays

-- a place before the key stays one
pub pred_on : {p q : Trace} (key : ℕ) (held : Held) → IsSame p q → Keeps (knows p) (knows q) →
    IsPred p.start (knows p) key held → IsPred q.start (knows q) key held
pred_on {p} {q} key held s keeps x =
    let P : Start → Type 0 = λ start. HeldIn (knows q) held.at (bucket_of start.shape key) in
    let Q : Start → Type 0 = λ start. StandsBehind start (knows q) held.at key in
    record {
      held = held_kept held keeps x.held;
      unmarked = x.unmarked;
      inside = subst P (sym s.start) (held_in_kept held.at (bucket_of p.start.shape key) keeps x.inside);
      behind = subst Q (sym s.start) (behind_kept p.start held.at key keeps x.behind);
    }

-- a key that is known at a place stays known
pub key_kept : {know later : Know} (place : At) (key : ℕ) → Keeps know later → KeyAt know place key →
    KeyAt later place key
key_kept (Head b) key keeps k = k
key_kept (Slot s) key keeps k = keeps.reads (KeyOf s key) k

-- a place before the key is one of the list
pub pred_inside : {start : Start} {know : Know} {key : ℕ} {pred : Held} → IsPred start know key pred →
    IsInside start know key pred
pred_inside x = record { held = x.held; inside = x.inside }

-- ---- the head and a node

-- the head is a place before each number
pub head_before : {p q : Trace} (bucket from : ℕ) (head : Held) → StartsAt p q bucket head →
    StoodBefore p q bucket from head
head_before {p} {q} bucket from head x =
    let P : At → Type 0 = λ place. HeldIn (knows q) place bucket in
    record {
      is = record {
        held = x.known;
        inside = subst P (sym x.place) (at_head bucket);
        unmarked = x.unmarked;
        behind = λ key is high.
            let Q : At → Type 0 = λ place. StandsBehind q.start (knows q) place key in subst Q (sym x.place) is;
      };
      stood = stood_after x.reads.checks.same x.reads.checks.from x.reads.stood;
    }

-- what the link of a place names is held in the bucket
pub next_inside : {p q : Trace} (bucket : ℕ) (here node : Held) → IsPlaceIn (knows p) bucket here →
    Keeps (knows p) (knows q) → ReadsNext p q here node → HeldIn (knows q) node.at bucket
next_inside {p} {q} bucket here node x keeps n =
    let P : At → Type 0 = λ place. HeldIn (knows q) place bucket in
    subst P (sym n.place)
    (held_in_next here n.slot bucket (held_kept here keeps x.held) n.named (held_in_kept here.at bucket keeps x.inside))

-- keys of its bucket stand behind a node with a key below them
pub behind_node : (start : Start) (know : Know) (place : At) (s here key : ℕ) → place ≡ Slot s → KeyAt know place here →
    bucket_of start.shape key ≡ bucket_of start.shape here → here < key → StandsBehind start know place key
behind_node start know place s here key e x b l =
    let P : At → Type 0 = λ y. KeyAt know y here → StandsBehind start know y key in
    subst P (sym e) (λ h. (here, h, b, l)) x

-- a node with a key below a number is a place before it
pub node_before : {p q : Trace} (bucket from key : ℕ) (here node : Held) → IsPlaceIn (knows p) bucket here →
    Keeps (knows p) (knows q) → ReadsNext p q here node → HasKey p q here node key → key < from →
    StoodBefore p q bucket from node
node_before {p} {q} bucket from key here node x keeps n k low = record {
  is = record {
    held = k.held;
    inside = next_inside bucket here node x keeps n;
    unmarked = k.unmarked;
    behind = λ other is high.
        behind_node q.start (knows q) node.at n.slot key other n.place k.keyed (is ∙ sym (k.of_bucket bucket x.inside))
        (omega (arith, low, high));
  };
  stood = n.stood;
}

-- a place before a number is one before each key of its bucket from the number on
pred_of : {start : Start} {know : Know} {from : ℕ} {place : Held} (key : ℕ) →
    IsPlaceBefore start know (bucket_of start.shape key) from place → from ≤ key → IsPred start know key place
pred_of key x le =
    record { held = x.held; unmarked = x.unmarked; inside = x.inside; behind = x.behind key refl le }

-- so it is of one before that key
pub come_to : {p q : Trace} (bucket key : ℕ) (place : Held) → IsSame p q → bucket ≡ bucket_of p.start.shape key →
    StoodBefore p q bucket key place → HasComeTo p q key place
come_to {p} {q} bucket key place s is x =
    let P : ℕ → Type 0 = λ b. StoodBefore p q b key place in
    let y = subst P (is ∙ ap (λ (start : Start). bucket_of start.shape key) (sym s.start)) x in
    record { is = pred_of key y.is (omega arith); stood = y.stood }

-- a node with a smaller key
pub node_reached : {p q : Trace} (key here : ℕ) (pred node : Held) → IsSame p q → IsInside p.start (knows p) key pred →
    Keeps (knows p) (knows q) → ReadsNext p q pred node → HasKey p q pred node here → here < key →
    HasComeTo p q key node
node_reached {p} key here pred node s x keeps n k low =
    come_to (bucket_of p.start.shape key) key node s refl
    (node_before (bucket_of p.start.shape key) key here pred node x keeps n k low)

-- a node with the key or a greater one
pub node_found : {p q : Trace} (key here : ℕ) (present : Bool) (pred node : Held) → ReadsNext p q pred node →
    HasKey p q pred node here → key ≤ here → present ≡ (key == here) → IsCur (knows q) key pred node present
node_found key here present pred node n k high says =
    record {
      held = k.held;
      unmarked = k.unmarked;
      slot = n.slot;
      named = n.named;
      place = n.place;
      here = here;
      read = k.keyed;
      not_smaller = high;
      says = says;
    }

-- what isn't marked is unmarked, if it is a node
pub node_unmarked : {p q : Trace} (pred node : Held) → IsNext p q pred (Some node) →
    (IsSlot node.at → (link_of node.word).mark ≡ false) → (link_of node.word).mark ≡ false
node_unmarked pred node n f = f (let P : At → Type 0 = IsSlot in subst P (sym n.2) tt)

pub slot_same : (s t : ℕ) → Slot s ≡ Slot t → t ≡ s
slot_same s t e = cc

-- ---- a place whose marked node was unlinked

-- what is known stays while a slot is retired in the same epoch
pub retired_keeps : (know later : Know) (slot : ℕ) (kept : Bool) → later ≡ know_retired know later.epoch slot kept →
    later.epoch ≡ know.epoch → Keeps know later
retired_keeps know later slot kept is same =
    record {
      epoch = same;
      reads = λ r k. record { among = rw all (Contains-append_left know.checked know.pending r k.among) };
    }
  where
    all : later.checked ≡ know.checked ++ know.pending
    all =
        let t : (later.epoch == know.epoch) ≡ true = eq-eqb later.epoch know.epoch same in
        ap (λ (k : Know). k.checked) is ∙ rw t refl

pub helped : {p q r : Trace} (key : ℕ) (pred place : Held) → IsPred p.start (knows p) key pred →
    Keeps (knows p) (knows q) → place.at ≡ pred.at → (link_of place.word).mark ≡ false → IsRead p q place → Quiet p q →
    Quiet q r → Keeps (knows q) (knows r) → HasComeTo p r key place
helped {p} {q} {r} key pred place x keeps same unmarked read a b keeps2 =
    let z = pred_on key pred a.same keeps x in
    let P : At → Type 0 = λ t. HeldIn (knows q) t (bucket_of q.start.shape key) in
    let Q : At → Type 0 = λ t. StandsBehind q.start (knows q) t key in
    let w : IsPred q.start (knows q) key place =
    record {
      held = read.known;
      unmarked = unmarked;
      inside = subst P (sym same) z.inside;
      behind = subst Q (sym same) z.behind;
    } in
    record { is = pred_on key place b.same keeps2 w; stood = stood_before read.stood b }

-- ---- from place to place

pub traverses_on : {p q r : PassView} {bucket key a b c budget : ℕ} {pred next : Held} →
    Traverses p q bucket key a b budget pred → Goes q r b c → b ≤ c → c ≤ budget → HasComeTo q.trace r.trace key next →
    GoesAlong 9 p.trace r.trace bucket a c next next → Traverses p r bucket key a c budget next
traverses_on x y le high reached traverses = record {
  traverses = traverses;
  tries = tries_on x.tries y le high;
  some = let u = x.some in omega arith;
  reached = record { is = reached.is; stood = stood_since x.tries.goes.quiet reached.stood };
}
