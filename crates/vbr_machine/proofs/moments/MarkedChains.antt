-- No key between an unmarked link that stands and the end of the marked links behind it is present.
-- Known marked links lead along nodes that are marked and still listed, since a marked link no longer changes.
use Rattle.std.proofs.Common.{◌≡◌, ℕ, ◌<◌, ◌≤◌, true, false, [], Option, Some, None, refl, arith, sym, subst, ap, ◌∙◌}
use Rattle.std.proofs.Common.{inl, inr}
use Rattle.std.specs.Prelude.{◌⊎◌}
use Rattle.std.proofs.lemmas.Bool.{cases_Bool}
use Rattle.vbr_machine.specs.Start.{Start}
use Rattle.vbr_words.specs.Words.{link_of}
use Rattle.vbr_words.specs.declared.link.Link.{Link}
use Rattle.vbr_words.specs.declared.place.At.{At}
use Rattle.vbr_words.specs.declared.place.At.TheVariants.{Slot}
use Rattle.vbr_machine.specs.Opened.{opening_keys}
use Rattle.vbr_machine.specs.History.{set_after}
use Rattle.vbr_machine.specs.Knowledge.{Know}
use Rattle.vbr_words.specs.Buckets.{bucket_of}
use Rattle.vbr_machine.specs.Acceptance.{Accepts}
use Rattle.vbr_machine.specs.Machine.{World}
use Rattle.vbr_machine.specs.Machine as machine
use Rattle.vbr_machine.specs.Membership.{Knows, LeadsTo, itself, onward, StandsBehind, StandsBefore}
use Rattle.vbr_machine.specs.Incarnations.{State, Linked, Marked, Incarnations}
use Rattle.vbr_machine.specs.Chronicles.{Before, AtHead, AtNode, IsOpen, BelongsBehind, BelongsBefore, next_of}
use Rattle.vbr_machine.specs.Sound.{IsListed, IsRemoved, IsApart, Sound, Grows}
use Rattle.vbr_machine.specs.Notes.{Notes}
use Rattle.vbr_machine.specs.Agreement.{IsHeldIncarnation, IsHeldNext, IsGoodLink, IsPair, FitsNotes, Agrees}
use Rattle.vbr_machine.specs.declared.history.Op.{Op}
use Rattle.vbr_machine.specs.declared.event.Step.TheVariants.{ConfirmAbsent}
use Rattle.vbr_machine.specs.declared.knowledge.Read.TheVariants.{LinkAt}
use Rattle.vbr_machine.proofs.chronicles.Lists.{next_listed, up_to_next}
use Rattle.vbr_machine.proofs.chronicles.Growth.{grows_after}
use Rattle.vbr_machine.proofs.reads.HeldReads.{same_pair}
use Rattle.vbr_machine.proofs.chronicles.Shown.{stands}
use Rattle.vbr_machine.proofs.reads.KnownReads.{good_link, one_held}
use Rattle.vbr_machine.proofs.moments.AtLoads.{before_of, pair_open, behind_then, before_then, link_found_at}
use Rattle.vbr_machine.proofs.reads.KnownAcceptance.{accepts_known}

-- from what stands first to another through marked nodes only: no step, or one more on from a marked node to its
-- successor
pub data ThroughMarked (a : Incarnations) (first : Option ℕ) : Option ℕ → Type 0 where
  here : ThroughMarked a first first
  past : (c : ℕ) → (n : Option ℕ) → ThroughMarked a first (Some c) → a.state c ≡ Marked → a.next c ≡ n →
      ThroughMarked a first n

-- what is listed and removed is marked
listed_removed : (st : State) → IsListed st → IsRemoved st → st ≡ Marked
listed_removed st l r = grind arith

-- ---- keys

-- it is there, of the bucket of d, and d does not stand ahead of it
pub record IsUpTo (start : Start) (a : Incarnations) (d : ℕ) (n : Option ℕ) : Type 0 where
  pub node : ℕ
  pub is : n ≡ Some node
  pub bucket : bucket_of start.shape (a.key node) ≡ bucket_of start.shape (a.key d)
  pub below : (a.key node < a.key d) ⊎ ((a.key node ≡ a.key d) × (a.rank node ≤ a.rank d))

module _ {start : Start} {a : Incarnations} (s : Sound start a) (d : ℕ) (linked : a.state d ≡ Linked) where
  d_listed : IsListed (a.state d)
  d_listed = rw linked tt

  -- behind an open place with a smaller key there is a node up to it
  first_up_to : (before : Before) → IsOpen a before → BelongsBehind start a before (a.key d) →
      IsUpTo start a d (next_of a before)
  first_up_to (AtHead b) o f =
      let u = up_to_next s (AtHead b) d o f d_listed in
      record { node = u.0; is = u.1; bucket = (s.lists.first_in b u.0 u.1).1 ∙ sym f; below = u.2 }
  first_up_to (AtNode c) o f =
      let u = up_to_next s (AtNode c) d o f d_listed in
      record { node = u.0; is = u.1; bucket = sym (s.lists.ordered c u.0 u.1).0 ∙ sym f.0; below = u.2 }

  -- past a marked node there is one too
  past_up_to : (c : ℕ) → a.state c ≡ Marked → IsUpTo start a d (Some c) → IsUpTo start a d (a.next c)
  past_up_to c m h = go (s.lists.apart c d (rw m tt) d_listed b)
    where
      e : h.node ≡ c
      e = let q = h.is in cc

      b : bucket_of start.shape (a.key c) ≡ bucket_of start.shape (a.key d)
      b = ap (λ i. bucket_of start.shape (a.key i)) (sym e) ∙ h.bucket

      go : IsApart a.key a.rank c (a.next c) d → IsUpTo start a d (a.next c)
      go (inl q) = absurd (let x : Linked ≡ Marked = sym linked ∙ ap a.state q ∙ m in cc)
      go (inr (inl ahead)) =
          absurd (let u = h.below in
          let v : a.key h.node ≡ a.key c = ap a.key e in
          let w : a.rank h.node ≡ a.rank c = ap a.rank e in
          grind arith)
      go (inr (inr u)) = record { node = u.0; is = u.1; bucket = sym (s.lists.ordered c u.0 u.1).0 ∙ b; below = u.2 }

  through_up_to : (first n : Option ℕ) → ThroughMarked a first n → IsUpTo start a d first → IsUpTo start a d n
  through_up_to first _ here h = h
  through_up_to first _ (past c n t m q) h = rw (← q) (past_up_to c m (through_up_to first (Some c) t h))

-- no linked node has a key that lies between an open place and what it leads to through marked nodes
pub none_through_marked : {start : Start} {a : Incarnations} → Sound start a →
    (before : Before) (key : ℕ) (n : Option ℕ) → IsOpen a before → BelongsBehind start a before key →
    ThroughMarked a (next_of a before) n → BelongsBefore a key n → (d : ℕ) → a.state d ≡ Linked → a.key d ≡ key → ⊥
none_through_marked {start} {a} s before key n o f t b d l e =
    go n (through_up_to s d l (next_of a before) n t (first_up_to s d l before o (rw e f))) b
  where
    go : (n : Option ℕ) → IsUpTo start a d n → BelongsBefore a key n → ⊥
    go None h b = let q = h.is in cc
    go (Some m) h b =
        let q : m ≡ h.node = (let r = h.is in cc) in
        let u = h.below in
        let v : a.key m ≡ a.key h.node = ap a.key q in
        grind arith

-- ---- known marked links

-- from the first through marked nodes to one that is still listed, or to none, and that is held where this link
-- names it
pub record Reaches (a : Incarnations) (epoch : ℕ) (first : Option ℕ) (last : Link) : Type 0 where
  pub node : Option ℕ
  pub through : ThroughMarked a first node
  pub held : IsHeldNext a epoch last.slot node
  pub listed : (m : ℕ) → node ≡ Some m → IsListed (a.state m)

-- a listed node that is held at a slot with a known marked link is marked now, and is followed by the one that this
-- link names
pub marked_node : {start : Start} {a : Incarnations} {know : Know} {notes : Notes} → Sound start a →
    FitsNotes a know notes → (s c : ℕ) (next : Link) → IsHeldIncarnation a know.epoch s c → IsListed (a.state c) →
    Knows know (LinkAt (Slot s) next) → next.mark ≡ true →
    (a.state c ≡ Marked) × IsHeldNext a know.epoch next.slot (a.next c)
marked_node {start} {a} {know} {notes} snd noted s c next h l k m =
    let g = good_link noted (Slot s) next k in go g.0 g.1 g.2
  where
    go : (of n : Option ℕ) → IsGoodLink a know.epoch (Slot s) next of n →
        (a.state c ≡ Marked) × IsHeldNext a know.epoch next.slot (a.next c)
    go None n g = absurd g.place
    go (Some d) n g =
        let same : d ≡ c = one_held snd know.epoch s d c g.place h in
        let f = g.frozen m in
        (listed_removed (a.state c) l (rw same at f.0), rw (ap a.next (sym same) ∙ f.1) g.next)

-- a known marked link of the slot that the last link names leads one marked node on
one_on : {start : Start} {a : Incarnations} {know : Know} {notes : Notes} → Sound start a → FitsNotes a know notes →
    (first : Option ℕ) (last : Link) (s : ℕ) (next : Link) → Reaches a know.epoch first last → last.slot ≡ Some s →
    Knows know (LinkAt (Slot s) next) → next.mark ≡ true → Reaches a know.epoch first next
one_on {start} {a} {know} {notes} snd noted first last s next r q k m = go last.slot r.node q r.through r.held r.listed
  where
    go : (v n : Option ℕ) → v ≡ Some s → ThroughMarked a first n → IsHeldNext a know.epoch v n →
        ((i : ℕ) → n ≡ Some i → IsListed (a.state i)) → Reaches a know.epoch first next
    go None n q t h l = absurd (cc)
    go (Some v) None q t h l = absurd h
    go (Some v) (Some c) q t h l =
        let e : v ≡ s = cc in
        let P : ℕ → Type 0 = λ v. IsHeldIncarnation a know.epoch v c in
        let x = marked_node snd noted s c next (subst P e h) (l c refl) k m in
        record {
          node = a.next c;
          through = past c (a.next c) t x.0 refl;
          held = x.1;
          listed = λ i r. next_listed snd c i r (l c refl);
        }

-- known marked links lead through marked nodes
leads_through : {start : Start} {a : Incarnations} {know : Know} {notes : Notes} → Sound start a →
    FitsNotes a know notes → (first : Option ℕ) (link last : Link) → Reaches a know.epoch first link →
    LeadsTo know link last → Reaches a know.epoch first last
leads_through snd noted first link _ r itself = r
leads_through snd noted first link _ r (onward last s next h q k m) =
    one_on snd noted first last s next (leads_through snd noted first link last r h) q k m

-- the premises: the world agrees with its incarnations, a known unmarked link stands at its place, and known marked
-- links lead on from it
module _ {start : Start} {w : World} {a : Incarnations} {notes : ℕ → Notes} (now : Agrees start w a notes) (p : ℕ)
    (place : At) (link last : Link) (known : Knows (w.know p) (LinkAt place link)) (unmarked : link.mark ≡ false)
    (shown : machine.link_at w place ≡ link) (leads : LeadsTo (w.know p) link last) where
  good : (of names : Option ℕ) × IsGoodLink a (w.know p).epoch place link of names
  good = good_link (now.knows p) place link known

  pair : IsPair a place good.0 good.1
  pair = same_pair now.sound (w.know p).epoch place link good.0 good.1 good.2 unmarked
      (sym (stands w a place now.image) ∙ shown)

  opened : IsOpen a (before_of place good.0) × (next_of a (before_of place good.0) ≡ good.1)
  opened = pair_open a place good.0 good.1 pair

  reaches : Reaches a (w.know p).epoch (next_of a (before_of place good.0)) last
  reaches = leads_through now.sound (now.knows p) (next_of a (before_of place good.0)) link last
      (record {
        node = next_of a (before_of place good.0);
        through = here;
        held = rw opened.1 good.2.next;
        listed = next_listed_of (before_of place good.0) opened.0;
      })
      leads
    where
      next_listed_of : (before : Before) → IsOpen a before → (m : ℕ) → next_of a before ≡ Some m → IsListed (a.state m)
      next_listed_of (AtHead b) o m q = (now.sound.lists.first_in b m q).0
      next_listed_of (AtNode c) o m q = next_listed now.sound c m q (rw o tt)

  -- a key that stands behind the place and before what the last of these links names isn't in the set
  pub absent_behind_marked : (key : ℕ) → StandsBehind start (w.know p) place key →
      StandsBefore (w.know p) key last.slot →
      set_after (opening_keys start) w.calls key ≡ false
  absent_behind_marked key i j = rw now.calls (go (cases_Bool (set_after (opening_keys start) a.calls key)))
    where
      still : Grows a a
      still = grows_after start (opening_keys start) a [] now.sound tt

      behind : BelongsBehind start a (before_of place good.0) key
      behind = behind_then now.sound still now.sound (now.knows p) (now.knows p).epoch place good.0 key good.2.place i

      before : BelongsBefore a key reaches.node
      before = before_then now.sound still now.sound (now.knows p) (now.knows p).epoch last.slot reaches.node key
          reaches.held j

      go : (set_after (opening_keys start) a.calls key ≡ true) ⊎ (set_after (opening_keys start) a.calls key ≡ false) →
          set_after (opening_keys start) a.calls key ≡ false
      go (inr f) = f
      go (inl t) =
          let u = now.tells.only key t in
          absurd (none_through_marked now.sound (before_of place good.0) key reaches.node opened.0 behind
          reaches.through
          before u.0 u.1 u.2)

-- where a confirming load for a key finds the word that it expects, the key isn't in the set
pub confirmed_absent : {start : Start} {w : World} {a : Incarnations} {notes : ℕ → Notes} → Agrees start w a notes →
    (p : ℕ) (op : Op) (key : ℕ) (place : At) (expected : ℕ) →
    Accepts start (w.know p) (ConfirmAbsent op key place expected) →
    machine.found start w (ConfirmAbsent op key place expected) ≡ expected →
    set_after (opening_keys start) w.calls key ≡ false
confirmed_absent g p op key place expected ok q =
    let k = accepts_known ok in
    let on = k.in_range.3 in
    absent_behind_marked g p place (link_of expected) on.last k.known k.in_range.0 (link_found_at g place expected q)
    on.leads
    key k.in_range.2 on.before
