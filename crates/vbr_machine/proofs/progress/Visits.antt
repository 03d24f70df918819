-- Each node of a walk in one epoch was in the list since it began, and comes after those visited.
use Rattle.std.proofs.Common.{◌≡◌, ℕ, suc, ◌<◌, ◌≤◌, false, List, Option, Some, None, refl, sym, ap, ◌∙◌, subst}
use Rattle.std.proofs.Common.{arith}
use Rattle.vbr_words.specs.Buckets.{bucket_of}
use Rattle.vbr_words.specs.declared.link.Link.{Link}
use Rattle.vbr_words.specs.declared.place.At.{At}
use Rattle.vbr_words.specs.declared.place.At.TheVariants.{Head, Slot}
use Rattle.vbr_machine.specs.Start.{Start, IsStart}
use Rattle.vbr_machine.specs.Opened.{opening_keys}
use Rattle.vbr_machine.specs.Links.{marked}
use Rattle.vbr_machine.specs.Machine.{link_at}
use Rattle.vbr_machine.specs.Membership.{HeldIn, Knows}
use Rattle.vbr_machine.specs.Runs.{Begins, IsRun, know_after, world_after}
use Rattle.vbr_machine.specs.Accounts.{incarnations_after, notes_after}
use Rattle.vbr_machine.specs.Agreement.{Agrees, IsHeldAt, IsHeldIncarnation, IsPair}
use Rattle.vbr_machine.specs.Images.{link_in_state, link_shown, link_shown_at, link_to_next, slot_shown}
use Rattle.vbr_machine.specs.Incarnations.{State, Unborn, InHand, GivenUp, Linked, Marked, Unlinked, Stamped}
use Rattle.vbr_machine.specs.Incarnations.{Incarnations, IsLate}
use Rattle.vbr_machine.specs.Disturbances.{IsOpenIn, met}
use Rattle.vbr_machine.specs.Removals.{HasLeft}
use Rattle.vbr_machine.specs.Sound.{IsInserted, IsListed}
use Rattle.vbr_machine.specs.declared.event.Event.{Event}
use Rattle.vbr_machine.specs.declared.knowledge.Read.TheVariants.{LinkAt}
use Rattle.vbr_machine.proofs.runs.EveryRun.{run_agrees}
use Rattle.vbr_machine.proofs.reads.HeldBuckets.{IsOfBucket, place_in_bucket}
use Rattle.vbr_machine.proofs.reads.HeldReads.{held_last, same_pair, stays_held}
use Rattle.vbr_machine.proofs.reads.KnownReads.{good_link}
use Rattle.vbr_machine.proofs.moments.RunForms as forms
use Rattle.vbr_machine.proofs.progress.MetNodes.{listed_not_left, IsMet, StaysOut, met_below_grows, met_below}
use Rattle.vbr_machine.proofs.progress.MetNodes.{met_earlier, met_grows, one_more_below}
use Rattle.vbr_machine.proofs.progress.MetNodes.{one_more_of_all, stays_out}
use Rattle.vbr_machine.proofs.runs.RunsGoOn.{begins_run, begins_trans}
use Rattle.vbr_machine.proofs.chronicles.Shown.{stands}
use Rattle.vbr_machine.proofs.progress.Since.{Since, since}
use Rattle.vbr_machine.proofs.chronicles.Slots.{late_born, late_inserted, listed_late}

-- a node of the bucket is held at a slot, which was in the list since an earlier moment; and so many nodes that are
-- ordered before it were, at the least
pub record IsAhead (start : Start) (before now : Incarnations) (epoch bucket visited s : ℕ) : Type 0 where
  pub node : ℕ
  pub held : IsHeldIncarnation now epoch s node
  pub since : HasLeft (before.state node) → ⊥
  pub of_bucket : bucket_of start.shape (now.key node) ≡ bucket
  pub few : visited ≤ met_below start before now bucket (now.key node) (now.rank node)

-- so many nodes were visited before what a link names, all of which were in the list since an earlier moment; at the
-- end of the list too
abbrev pub HasVisited : Start → Incarnations → Incarnations → ℕ → ℕ → ℕ → Option ℕ → Type 0
HasVisited start before now epoch bucket visited None = visited ≤ met start before now bucket
HasVisited start before now epoch bucket visited (Some s) = IsAhead start before now epoch bucket visited s

-- what stays out since a beginning of a run
out_since : {start : Start} {first run : List Event} → Since start first run →
    StaysOut (incarnations_after start first) (incarnations_after start run)
out_since {start} {first} x =
    let P : Incarnations → Type 0 = StaysOut (incarnations_after start first) in
    subst P (sym x.makes)
    (stays_out start (opening_keys start) (incarnations_after start first) x.entries x.sound x.lawful)

-- ---- a link that was loaded

-- a late incarnation shows a link to its successor, and an unmarked one only where it is linked
late_shows : (a : Incarnations) (c epoch : ℕ) (st : State) → a.state c ≡ st → IsLate st epoch → (link : Link) →
    link_in_state a c (a.state c) ≡ link →
    (link.slot ≡ slot_shown a (a.next c)) × (link.mark ≡ false → a.state c ≡ Linked)
late_shows a c epoch Linked is late link e =
    (sym (ap (λ (l : Link). l.slot) (sym (ap (link_in_state a c) is) ∙ e)), λ u. is)
late_shows a c epoch Marked is late link e =
    let f : marked (link_to_next a (a.birth c) (a.next c)) ≡ link = sym (ap (link_in_state a c) is) ∙ e in
    (sym (ap (λ (l : Link). l.slot) f), λ u. absurd (let z = ap (λ (l : Link). l.mark) f ∙ u in cc))
late_shows a c epoch (Unlinked p unlinked) is late link e =
    let f : marked (link_to_next a (a.birth c) (a.next c)) ≡ link = sym (ap (link_in_state a c) is) ∙ e in
    (sym (ap (λ (l : Link). l.slot) f), λ u. absurd (let z = ap (λ (l : Link). l.mark) f ∙ u in cc))
late_shows a c epoch (Stamped unlinked stamp) is late link e =
    let f : marked (link_to_next a (a.birth c) (a.next c)) ≡ link = sym (ap (link_in_state a c) is) ∙ e in
    (sym (ap (λ (l : Link). l.slot) f), λ u. absurd (let z = ap (λ (l : Link). l.mark) f ∙ u in cc))
late_shows a c epoch Unborn is late link e = absurd late
late_shows a c epoch (InHand p) is late link e = absurd late
late_shows a c epoch GivenUp is late link e = absurd late

-- ---- from link to link

module _ (start : Start) (passes : ℕ) (first then moment run : List Event) (is : IsStart start)
    (ok : IsRun start passes run) (a : Begins first then) (b : Begins then moment) (c : Begins moment run) where
  abbrev at_first : Incarnations
  at_first = incarnations_after start first

  abbrev at_then : Incarnations
  at_then = incarnations_after start then

  abbrev at_moment : Incarnations
  at_moment = incarnations_after start moment

  abbrev at_end : Incarnations
  at_end = incarnations_after start run

  ok_moment : IsRun start passes moment
  ok_moment = begins_run start passes moment run c ok

  good : Agrees start (world_after start moment) (incarnations_after start moment) (notes_after start moment)
  good = run_agrees start passes moment is ok_moment

  since_then : Since start then moment
  since_then = since start passes then moment is ok_moment b

  since_moment : Since start moment run
  since_moment = since start passes moment run is ok c

  to_moment : Since start first moment
  to_moment = since start passes first moment is ok_moment (begins_trans first then moment a b)

  -- what is named at the moment is ahead at the end
  named_ahead : (epoch bucket visited n : ℕ) → epoch ≤ at_moment.epoch →
      IsHeldIncarnation at_moment epoch (at_moment.slot n) n → (HasLeft (at_first.state n) → ⊥) →
      bucket_of start.shape (at_moment.key n) ≡ bucket →
      visited ≤ met_below start at_first at_moment bucket (at_moment.key n) (at_moment.rank n) →
      IsAhead start at_first at_end epoch bucket visited (at_moment.slot n)
  named_ahead epoch bucket visited n low held out of few =
      let g = since_moment.grown in
      let i : IsInserted (at_moment.state n) = late_inserted (at_moment.state n) epoch held.late in
      let k : at_end.key n ≡ at_moment.key n = g.key n i in
      record {
        node = n;
        held = stays_held good.sound g epoch (at_moment.slot n) n low held;
        since = out;
        of_bucket = ap (bucket_of start.shape) k ∙ of;
        few = (let x = met_below_grows start at_first at_moment bucket g (at_moment.key n) (at_moment.rank n) in
            let y : met_below start at_first at_end bucket (at_end.key n) (at_end.rank n)
            ≡ met_below start at_first at_end bucket (at_moment.key n) (at_moment.rank n) =
            (λ j. met_below start at_first at_end bucket (k j) (g.rank n i j)) in
            omega (arith, few, x, y));
      }

  -- a law: the head of a bucket, loaded in the epoch that stands, names a node that no node was visited before, or
  -- the end of the list
  pub head_visited : (epoch bucket : ℕ) (link : Link) → at_moment.epoch ≡ epoch →
      link_at (world_after start moment) (Head bucket) ≡ link →
      HasVisited start at_first at_end epoch bucket 0 link.slot
  head_visited epoch bucket link now loaded =
      let shown : link_to_next at_moment 0 (at_moment.first bucket) ≡ link =
      sym (stands (world_after start moment) at_moment (Head bucket) good.image) ∙ loaded in
      let P : Option ℕ → Type 0 = HasVisited start at_first at_end epoch bucket 0 in
      subst P (ap (λ (l : Link). l.slot) shown) (go (at_moment.first bucket) refl)
    where
      go : (o : Option ℕ) → at_moment.first bucket ≡ o →
          HasVisited start at_first at_end epoch bucket 0 (slot_shown at_moment o)
      go None e = omega arith
      go (Some n) e =
          let l = good.sound.lists.first_in bucket n e in
          let late = listed_late (at_moment.state n) epoch l.0 in
          let born = good.sound.slots.born n (late_born good.sound.slots n epoch late) in
          named_ahead epoch bucket 0 n (omega (arith, now))
          (record { slot = refl; birth = omega (arith, born, now); late = late })
          (λ h. out n l.0 ((out_since to_moment).out n h)) l.1 (omega arith)
        where
          out : (n : ℕ) → IsListed (at_moment.state n) → HasLeft (at_moment.state n) → ⊥
          out n l h = listed_not_left (at_moment.state n) l h

  module _ (epoch bucket visited s : ℕ) (link : Link) (before : IsAhead start at_first at_then epoch bucket visited s)
      (low : epoch ≤ at_then.epoch) (now : at_moment.epoch ≡ epoch)
      (loaded : link_at (world_after start moment) (Slot s) ≡ link) where
    -- the node that was named is the last of its slot at the moment
    still_held : IsHeldIncarnation at_moment epoch s before.node
    still_held = stays_held since_then.sound since_then.grown epoch s before.node low before.held

    still_last : at_moment.last s ≡ Some before.node
    still_last =
        let P : ℕ → Type 0 = λ e. IsHeldIncarnation at_moment e s before.node in
        held_last good.sound s before.node (subst P (sym now) still_held)

    shows : (link.slot ≡ slot_shown at_moment (at_moment.next before.node)) ×
        (link.mark ≡ false → at_moment.state before.node ≡ Linked)
    shows = late_shows at_moment before.node epoch (at_moment.state before.node) refl still_held.late link
        (sym (ap (link_shown at_moment) still_last)
        ∙ sym (stands (world_after start moment) at_moment (Slot s) good.image) ∙ loaded)

    inserted : IsInserted (at_then.state before.node)
    inserted = late_inserted (at_then.state before.node) epoch before.held.late

    same_key : at_moment.key before.node ≡ at_then.key before.node
    same_key = since_then.grown.key before.node inserted

    of_bucket : bucket_of start.shape (at_moment.key before.node) ≡ bucket
    of_bucket = ap (bucket_of start.shape) same_key ∙ before.of_bucket

    is_met : IsMet start at_first at_moment bucket before.node
    is_met = record {
      inserted = late_inserted (at_moment.state before.node) epoch still_held.late;
      since = before.since;
      of_bucket = of_bucket;
    }

    born : before.node < at_moment.count
    born = late_born good.sound.slots before.node epoch still_held.late

    few : visited ≤ met_below start at_first at_moment bucket (at_moment.key before.node) (at_moment.rank before.node)
    few =
        let x = before.few in
        let y = met_below_grows start at_first at_then bucket since_then.grown (at_then.key before.node)
        (at_then.rank before.node) in
        let z : met_below start at_first at_moment bucket (at_moment.key before.node) (at_moment.rank before.node)
        ≡ met_below start at_first at_moment bucket (at_then.key before.node) (at_then.rank before.node) =
        (λ j. met_below start at_first at_moment bucket (same_key j) (since_then.grown.rank before.node inserted j)) in
        omega (arith, x, y, z)

    -- a law: with it one more was visited, which is no more than were in the list
    pub one_more_visited : suc visited ≤ met start at_first at_end bucket
    one_more_visited =
        let x = one_more_of_all start at_first at_moment bucket before.node born is_met in
        let y = met_grows start at_first at_moment bucket since_moment.grown in
        omega (arith, few, x, y)

    -- a law: where it shows an unmarked link, it is linked, in the bucket
    pub unmarked_open : link.mark ≡ false → IsOpenIn start at_moment bucket (Slot s)
    unmarked_open u = (before.node, record { last = still_last; linked = shows.1 u; of_bucket = of_bucket })

    -- a law: and what it names in turn was in the list too
    pub next_visited : HasVisited start at_first at_end epoch bucket (suc visited) link.slot
    next_visited =
        let P : Option ℕ → Type 0 = HasVisited start at_first at_end epoch bucket (suc visited) in
        subst P (sym shows.0) (go (at_moment.next before.node) refl)
      where
        go : (o : Option ℕ) → at_moment.next before.node ≡ o →
            HasVisited start at_first at_end epoch bucket (suc visited) (slot_shown at_moment o)
        go None e = one_more_visited
        go (Some n) e =
            let o = good.sound.lists.ordered before.node n e in
            let late = good.sound.lists.handed before.node n epoch e still_held.late in
            let young = good.sound.slots.born n (late_born good.sound.slots n epoch late) in
            let more = one_more_below start at_first at_moment bucket before.node n born is_met o.1 in
            named_ahead epoch bucket (suc visited) n (omega (arith, now))
            (record { slot = refl; birth = omega (arith, young, now); late = late })
            (λ h. before.since ((out_since to_moment).closed before.node n e h)) (sym o.0 ∙ of_bucket)
            (omega (arith, few, more))

-- ---- what is shown

module _ (start : Start) (passes : ℕ) (run : List Event) (is : IsStart start) (ok : IsRun start passes run) where
  -- the link that stands at a place is the one that the incarnations show there
  pub shown_there : (place : At) →
      link_at (world_after start run) place ≡ link_shown_at (incarnations_after start run) place
  shown_there place =
      stands (world_after start run) (incarnations_after start run) place (run_agrees start passes run is ok).image

  -- a law: before a node that is ahead fewer were visited than were in the list since
  pub ahead_few : (first : Incarnations) (epoch bucket visited s : ℕ) →
      IsAhead start first (incarnations_after start run) epoch bucket visited s →
      suc visited ≤ met start first (incarnations_after start run) bucket
  ahead_few first epoch bucket visited s x =
      let good = run_agrees start passes run is ok in
      let a = incarnations_after start run in
      let few = x.few in
      let more = one_more_of_all start first a bucket x.node (late_born good.sound.slots x.node epoch x.held.late)
      (record {
        inserted = late_inserted (a.state x.node) epoch x.held.late;
        since = x.since;
        of_bucket = x.of_bucket;
      }) in
      omega (arith, few, more)

  pub visited_few : (first : Incarnations) (epoch bucket visited : ℕ) (named : Option ℕ) →
      HasVisited start first (incarnations_after start run) epoch bucket visited named →
      visited ≤ met start first (incarnations_after start run) bucket
  visited_few first epoch bucket visited None x = x
  visited_few first epoch bucket visited (Some s) x =
      let y = ahead_few first epoch bucket visited s x in omega (arith, y)

-- ---- as a run goes on

-- what was ahead stays ahead
pub visited_on : (start : Start) (passes : ℕ) (first : Incarnations) (now run : List Event) → IsStart start →
    IsRun start passes run → Begins now run → (epoch bucket visited : ℕ) (named : Option ℕ) →
    epoch ≤ (incarnations_after start now).epoch →
    HasVisited start first (incarnations_after start now) epoch bucket visited named →
    HasVisited start first (incarnations_after start run) epoch bucket visited named
visited_on start passes first now run is ok b epoch bucket visited None low x =
    let more = met_grows start first (incarnations_after start now) bucket (since start passes now run is ok b).grown in
    omega (arith, x, more)
visited_on start passes first now run is ok b epoch bucket visited (Some s) low x =
    let y = since start passes now run is ok b in
    let a = incarnations_after start now in
    let e = incarnations_after start run in
    let k : e.key x.node ≡ a.key x.node = y.grown.key x.node (late_inserted (a.state x.node) epoch x.held.late) in
    let r : e.rank x.node ≡ a.rank x.node = y.grown.rank x.node (late_inserted (a.state x.node) epoch x.held.late) in
    record {
      node = x.node;
      held = stays_held y.sound y.grown epoch s x.node low x.held;
      since = x.since;
      of_bucket = ap (bucket_of start.shape) k ∙ x.of_bucket;
      few = (let few = x.few in
          let more = met_below_grows start first a bucket y.grown (a.key x.node) (a.rank x.node) in
          let same : met_below start first e bucket (e.key x.node) (e.rank x.node)
          ≡ met_below start first e bucket (a.key x.node) (a.rank x.node) =
          (λ j. met_below start first e bucket (k j) (r j)) in
          omega (arith, few, more, same));
    }

-- ---- what a pass knows

-- a law: a known unmarked link of a place that is held in a bucket, where it stands, is that of an open place
pub known_open : (start : Start) (passes : ℕ) (run : List Event) → IsStart start → IsRun start passes run →
    (p bucket : ℕ) (place : At) (link : Link) → Knows (know_after start run p) (LinkAt place link) → link.mark ≡ false →
    link_shown_at (incarnations_after start run) place ≡ link → HeldIn (know_after start run p) place bucket →
    IsOpenIn start (incarnations_after start run) bucket place
known_open start passes run is ok p bucket place link known unmarked shown inside =
    let good = run_agrees start passes run is ok in
    let a = incarnations_after start run in
    let e = (know_after start run p).epoch in
    let g = good_link (good.knows p) place link known in
    go a e place g.0 g.1 (same_pair good.sound e place link g.0 g.1 g.2 unmarked shown) g.2.place
    (place_in_bucket good.sound (good.knows p) (forms.ordered start passes run is ok p) place bucket inside)
  where
    go : (a : Incarnations) (e : ℕ) (place : At) (of names : Option ℕ) → IsPair a place of names →
        IsHeldAt a e place of →
        IsOfBucket start a e place bucket → IsOpenIn start a bucket place
    go a e (Head b) of names pair held is = is
    go a e (Slot s) None names pair held is = absurd held
    go a e (Slot s) (Some c) names pair held is =
        let same : c ≡ pair.0 = (let q = pair.1 in cc) in (
          pair.0,
          record {
            last = pair.2;
            linked = pair.3;
            of_bucket = ap (λ i. bucket_of start.shape (a.key i)) (sym same) ∙ is c held;
          },
        )

-- ---- how many there are

module _ (start : Start) (passes : ℕ) (first run : List Event) (is : IsStart start) (ok : IsRun start passes run)
    (begins : Begins first run) where
  abbrev x : Since start first run
  x = since start passes first run is ok begins

  -- of a later beginning they are no more
  pub met_later : (earlier : List Event) → Begins earlier first → (bucket : ℕ) →
      met start (incarnations_after start first) (incarnations_after start run) bucket
      ≤ met start (incarnations_after start earlier) (incarnations_after start run) bucket
  met_later earlier b bucket =
      let y = since start passes earlier first is (begins_run start passes first run begins ok) b in
      met_earlier start (incarnations_after start earlier) (incarnations_after start first)
      (incarnations_after start run) bucket (λ c h. (out_since y).out c h)

  -- as a run goes on, they don't become fewer
  pub met_on : (earlier : List Event) → Begins earlier first → (bucket : ℕ) →
      met start (incarnations_after start earlier) (incarnations_after start first) bucket
      ≤ met start (incarnations_after start earlier) (incarnations_after start run) bucket
  met_on earlier b bucket =
      met_grows start (incarnations_after start earlier) (incarnations_after start first) bucket
      (since start passes first run is ok begins).grown
