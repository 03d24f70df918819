-- A node that is replaced, and what shows that it has left its list.
use Rattle.std.proofs.Common.{◌≡◌, ◌≢◌, ℕ, ◌<◌, true, List, [], ◌∷◌, ◌++◌, Some, sym, ap, ◌∙◌, subst, eq-eqb}
use Rattle.std.proofs.Common.{append_assoc, Bool, refl, inl, inr, arith}
use Rattle.std.specs.Prelude.{◌==◌, ◌⊎◌, if◌then◌else◌}
use Rattle.std.proofs.lemmas.List.Elements.{Contains-append_left, Contains-append_right}
use Rattle.vbr_machine.specs.Start.{Start, IsStart}
use Rattle.vbr_words.specs.declared.link.Link.{Link}
use Rattle.vbr_words.specs.declared.place.At.{At}
use Rattle.vbr_words.specs.declared.place.At.TheVariants.{Slot}
use Rattle.vbr_machine.specs.Acceptance.{Accepts}
use Rattle.vbr_machine.specs.Accounts.{happens, incarnations_after, just, notes_after, own_entries}
use Rattle.vbr_machine.specs.Agreement.{IsHeldIncarnation}
use Rattle.vbr_machine.specs.Chronicles.{Entry, Replaces, becomes, entries_by, incarnations_from}
use Rattle.vbr_machine.specs.Incarnations.{State, InHand, Linked, Marked, Unlinked, Stamped, Incarnations, last_in}
use Rattle.vbr_machine.specs.Machine.{found}
use Rattle.vbr_machine.specs.Membership.{Knows, StandsBefore, StandsBehind}
use Rattle.vbr_machine.specs.Moments.{WasShown}
use Rattle.vbr_machine.specs.Opened.{opening_keys}
use Rattle.vbr_machine.specs.Removals.{HasLeft, HasReplaced}
use Rattle.vbr_machine.specs.Put.{put}
use Rattle.vbr_machine.specs.Runs.{Begins, IsRun, know_after, world_after}
use Rattle.vbr_machine.specs.Sound.{Grows, IsRemoved}
use Rattle.vbr_machine.specs.declared.event.Event.{Event}
use Rattle.vbr_machine.specs.declared.event.Step.TheVariants.{Replace}
use Rattle.vbr_machine.specs.declared.knowledge.Read.TheVariants.{KeyOf, LinkAt}
use Rattle.vbr_machine.proofs.runs.EveryRun.{begun_grows, incarnations_after-snoc, run_agrees, run_grows}
use Rattle.vbr_machine.proofs.chronicles.Growth.{grows}
use Rattle.vbr_machine.proofs.reads.HeldReads.{stays_held}
use Rattle.vbr_machine.proofs.reads.KnownReads.{known_key, one_held}
use Rattle.vbr_machine.proofs.words.Puts.{put_here, put_other}
use Rattle.vbr_machine.proofs.moments.Removals.{left_in_runs, own_since, since, removed_inserted}
use Rattle.vbr_machine.proofs.steps.ReplaceSteps.{may_take}
use Rattle.vbr_machine.proofs.moments.RunForms.{marked_ahead, named_first, none_listed, skipped_unlisted}
use Rattle.vbr_machine.proofs.runs.RunsGoOn.{begins_run}
use Rattle.vbr_machine.proofs.reads.StandingLinks.{link_stands}

-- ---- the step

module _ (start : Start) (passes : ℕ) (run : List Event) (is : IsStart start) (ok : IsRun start passes run)
    (p s expected t : ℕ) (won : found start (world_after start run) (Replace s expected t) ≡ expected) where
  abbrev pub a : Incarnations
  a = incarnations_after start run

  -- what a won replacement adds to the chronicle
  pub replaced_entry : happens start (world_after start run) a p (Replace s expected t)
      ≡ just p (Replaces (last_in a s) (last_in a t))
  replaced_entry =
      if_won (found start (world_after start run) (Replace s expected t) == expected)
      (just p (Replaces (last_in a s) (last_in a t))) []
      (eq-eqb (found start (world_after start run) (Replace s expected t)) expected won)
    where
      if_won : (b : Bool) (x y : List Entry) → b ≡ true → (if b then x else y) ≡ x
      if_won b x y e = rw e refl

  -- a law: the node that is replaced is held at its slot, and removed
  pub replaced_out : Accepts start (know_after start run p) (Replace s expected t) →
      IsHeldIncarnation (incarnations_after start (run ++ (record { pass = p; step = Replace s expected t }) ∷ []))
      (know_after start run p).epoch s (last_in a s) ×
      IsRemoved ((incarnations_after start (run ++ (record { pass = p; step = Replace s expected t }) ∷ [])).state
      (last_in a s))
  replaced_out accepts =
      let g = run_agrees start passes run is ok in
      let w = world_after start run in
      let m = link_stands start w a (notes_after start run) p g (Slot s) expected accepts.held.0 accepts.in_range.0
      won in
      let may = may_take start w a (notes_after start run) p s expected t g accepts m in
      let b = becomes start a p (Replaces (last_in a s) (last_in a t)) in
      let grown = grows start (opening_keys start) a p (Replaces (last_in a s) (last_in a t)) g.sound may in
      let other : last_in a s ≢ last_in a t =
      λ e. (let x : Linked ≡ InHand p = sym m.is_open ∙ ap a.state e ∙ may.in_hand in cc) in
      let marked : b.state (last_in a s) ≡ Marked =
      put_other (put a.state (last_in a s) Marked) (last_in a t) Linked (last_in a s) other
      ∙ put_here a.state (last_in a s) Marked in
      let P : Incarnations → Type 0 =
      λ i. IsHeldIncarnation i (know_after start run p).epoch s (last_in a s) × IsRemoved (i.state (last_in a s)) in
      subst P (sym
      (incarnations_after-snoc start run (record { pass = p; step = Replace s expected t })
      ∙ ap (incarnations_from start a) replaced_entry))
      (stays_held g.sound grown (know_after start run p).epoch s (last_in a s) (g.knows p).epoch m.held, rw marked tt)

-- ---- along a run

module _ (start : Start) (passes : ℕ) (is : IsStart start) where
  -- what a pass has replaced since a moment it has since an earlier one
  pub replaced_earlier : (earlier before run : List Event) (pass node : ℕ) → Begins earlier before →
      HasReplaced start before run pass node → HasReplaced start earlier run pass node
  replaced_earlier earlier before run pass node begins x =
      let more = entries_by pass (since start passes is earlier begins.0) in
      record {
        since = more ++ x.since;
        adds = x.adds
            ∙ ap (λ l. l ++ x.since)
            (ap (λ r. own_entries start r pass) begins.1 ∙ own_since start passes is earlier begins.0 pass)
            ∙ append_assoc (own_entries start earlier pass) more x.since;
        by = x.by;
        among = Contains-append_right more x.since (record { pass = pass; what = Replaces node x.by }) x.among;
      }

  -- and what it has by a moment it has at the end
  pub replaced_later : (before moment run : List Event) (pass node : ℕ) → Begins moment run →
      HasReplaced start before moment pass node → HasReplaced start before run pass node
  replaced_later before moment run pass node begins x =
      let more = entries_by pass (since start passes is moment begins.0) in
      record {
        since = x.since ++ more;
        adds = ap (λ r. own_entries start r pass) begins.1 ∙ own_since start passes is moment begins.0 pass
            ∙ ap (λ l. l ++ more) x.adds ∙ append_assoc (own_entries start before pass) x.since more;
        by = x.by;
        among = Contains-append_left x.since more (record { pass = pass; what = Replaces node x.by }) x.among;
      }

-- ---- its leaving

-- what is held at a slot has the known key
pub held_key : (start : Start) (passes : ℕ) (run : List Event) → IsStart start → IsRun start passes run →
    (p s key c : ℕ) → IsHeldIncarnation (incarnations_after start run) (know_after start run p).epoch s c →
    Knows (know_after start run p) (KeyOf s key) → (incarnations_after start run).key c ≡ key
held_key start passes run is ok p s key c held known =
    let g = run_agrees start passes run is ok in known_key g.sound (g.knows p) s c key held known

-- what has left its list by a moment has left it at the end
pub left_on : (start : Start) (passes : ℕ) → IsStart start → (moment run : List Event) (c : ℕ) →
    IsRun start passes run → Begins moment run → HasLeft ((incarnations_after start moment).state c) →
    HasLeft ((incarnations_after start run).state c)
left_on start passes is moment run c ok last left =
    let P : List Event → Type 0 = IsRun start passes in
    let R : List Event → Type 0 = λ r. HasLeft ((incarnations_after start r).state c) in
    subst R (sym last.1) (left_in_runs start passes is moment last.0 c (subst P last.1 ok) left)

-- what was removed by a moment is removed at the end
pub removed_on : (start : Start) (passes : ℕ) → IsStart start → (moment run : List Event) (c : ℕ) →
    IsRun start passes run → Begins moment run → IsRemoved ((incarnations_after start moment).state c) →
    IsRemoved ((incarnations_after start run).state c)
removed_on start passes is moment run c ok begins removed =
    ((begun_grows start passes is moment run begins ok).removed c removed).0

-- what is held at a slot by a moment is held there at the end, in the epoch that was known then
pub held_on : (start : Start) (passes : ℕ) → IsStart start → (moment run : List Event) (p s c : ℕ) →
    IsRun start passes run → Begins moment run →
    IsHeldIncarnation (incarnations_after start moment) (know_after start moment p).epoch s c →
    IsHeldIncarnation (incarnations_after start run) (know_after start moment p).epoch s c
held_on start passes is moment run p s c ok begins held =
    let P : List Event → Type 0 = IsRun start passes in
    let Q : List Event → Type 0 = λ r. Grows (incarnations_after start moment) (incarnations_after start r) in
    let g = run_agrees start passes moment is (begins_run start passes moment run begins ok) in
    stays_held g.sound (subst Q (sym begins.1) (run_grows start passes moment begins.0 is (subst P begins.1 ok)))
    (know_after start moment p).epoch s c (g.knows p).epoch held

-- the premises: an incarnation of a key was removed by a moment
module _ (start : Start) (passes : ℕ) (first run : List Event) (is : IsStart start) (ok : IsRun start passes run)
    (p key c : ℕ) (removed : IsRemoved ((incarnations_after start first).state c))
    (of_key : (incarnations_after start first).key c ≡ key) where
  grown : (moment : List Event) → Begins first moment → Begins moment run →
      Grows (incarnations_after start first) (incarnations_after start moment)
  grown moment begins last =
      begun_grows start passes is first moment begins (begins_run start passes moment run last ok)

  -- it has its key at each moment since
  pub has_key : (moment : List Event) → Begins first moment → Begins moment run →
      (incarnations_after start moment).key c ≡ key
  has_key moment begins last =
      (grown moment begins last).key c (removed_inserted ((incarnations_after start first).state c) removed) ∙ of_key

  -- it is marked at a moment since, or has left by the end
  marked_or_left : (moment : List Event) → Begins first moment → Begins moment run →
      ((incarnations_after start moment).state c ≡ Marked) ⊎ HasLeft ((incarnations_after start run).state c)
  marked_or_left moment begins last =
      go (cases ((incarnations_after start moment).state c) ((grown moment begins last).removed c removed).0)
    where
      cases : (st : State) → IsRemoved st → (st ≡ Marked) ⊎ HasLeft st
      cases Marked r = inl refl
      cases (Unlinked p u) r = inr tt
      cases (Stamped u r) q = inr tt
      cases _ r = absurd r

      go : ((incarnations_after start moment).state c ≡ Marked) ⊎ HasLeft ((incarnations_after start moment).state c) →
          ((incarnations_after start moment).state c ≡ Marked) ⊎ HasLeft ((incarnations_after start run).state c)
      go (inl m) = inl m
      go (inr left) = inr (left_on start passes is moment run c ok last left)

  -- where a place before it shows a link that names what its marked link names, it has left
  pub skipped_left : (s : ℕ) → IsHeldIncarnation (incarnations_after start run) (know_after start run p).epoch s c →
      Knows (know_after start run p) (KeyOf s key) → (moment : List Event) (place : At) (link : Link) →
      WasShown start moment run p place link → Begins first moment → (frozen : Link) →
      StandsBehind start (know_after start run p) place key → Knows (know_after start run p) (LinkAt (Slot s) frozen) →
      frozen.mark ≡ true → frozen.slot ≡ link.slot → HasLeft ((incarnations_after start run).state c)
  skipped_left s held known moment place link was begins frozen behind k mark same =
      go (marked_or_left moment begins was.begins)
    where
      go : ((incarnations_after start moment).state c ≡ Marked) ⊎ HasLeft ((incarnations_after start run).state c) →
          HasLeft ((incarnations_after start run).state c)
      go (inl m) =
          absurd (skipped_unlisted start passes moment run is ok p place link was s key c frozen behind k mark same
          known
          held (rw m tt))
      go (inr left) = left

  -- and so it has where the key stands between a place and what its link names
  pub passed_left : (moment : List Event) (place : At) (link : Link) → WasShown start moment run p place link →
      Begins first moment → StandsBehind start (know_after start run p) place key →
      StandsBefore (know_after start run p) key link.slot → HasLeft ((incarnations_after start run).state c)
  passed_left moment place link was begins behind before = go (marked_or_left moment begins was.begins)
    where
      go : ((incarnations_after start moment).state c ≡ Marked) ⊎ HasLeft ((incarnations_after start run).state c) →
          HasLeft ((incarnations_after start run).state c)
      go (inl m) =
          absurd (none_listed start passes moment run is ok p place link was key c behind before (rw m tt)
          (has_key moment begins was.begins))
      go (inr left) = left

  -- or where the link names a node of the key, which showed an unmarked link
  pub found_left : (moment there : List Event) (place : At) (link other : Link) (t : ℕ) →
      WasShown start moment run p place link → WasShown start there run p (Slot t) other → Begins first moment →
      Begins first there → StandsBehind start (know_after start run p) place key → link.slot ≡ Some t →
      Knows (know_after start run p) (KeyOf t key) → HasLeft ((incarnations_after start run).state c)
  found_left moment there place link other t was stood begins after behind named k =
      go (marked_or_left moment begins was.begins) (marked_or_left there after stood.begins)
    where
      go : ((incarnations_after start moment).state c ≡ Marked) ⊎ HasLeft ((incarnations_after start run).state c) →
          ((incarnations_after start there).state c ≡ Marked) ⊎ HasLeft ((incarnations_after start run).state c) →
          HasLeft ((incarnations_after start run).state c)
      go (inr left) y = left
      go (inl m) (inr left) = left
      go (inl m) (inl n) =
          let g = run_agrees start passes run is ok in
          let x = named_first start passes moment run is ok p place link was t key c behind named k (rw m tt)
          (has_key moment begins was.begins) in
          let y = marked_ahead start passes there run is ok p (Slot t) other stood t key c refl k n
          (has_key there after stood.begins) in
          let one : x.0 ≡ y.0 = one_held g.sound (know_after start run p).epoch t x.0 y.0 x.1 y.1 in
          let low = x.2 in
          let P : ℕ → Type 0 = λ i. (incarnations_after start run).rank c < (incarnations_after start run).rank i in
          let high = subst P (sym one) y.2 in
          absurd (omega (arith, low, high))
