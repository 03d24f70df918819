-- What runs say to the layers above, of what a pass knows by membership.
-- That is of keys in the set when a link was loaded, and of chains of marked links.
use Rattle.std.proofs.Common.{◌≡◌, ℕ, ◌<◌, ◌≤◌, true, false, List, [], ◌∷◌, ◌++◌, Some, refl, sym, subst}
use Rattle.std.proofs.lemmas.List.Elements.{All-contains, All-from_recursion}
use Rattle.vbr_machine.specs.Start.{Start, IsStart}
use Rattle.vbr_words.specs.Words.{link_of}
use Rattle.vbr_words.specs.declared.link.Link.{Link}
use Rattle.vbr_words.specs.declared.place.At.{At}
use Rattle.vbr_words.specs.declared.place.At.TheVariants.{Head, Slot}
use Rattle.vbr_machine.specs.Put.{put}
use Rattle.vbr_machine.specs.Opened.{opening_keys, opening_payloads, payload_kept}
use Rattle.vbr_machine.specs.History.{set_after, values_after}
use Rattle.vbr_words.specs.Buckets.{bucket_of}
use Rattle.vbr_machine.specs.Acceptance.{Accepts}
use Rattle.vbr_machine.specs.Learning.{link_written, call_of, present_reply, present_value}
use Rattle.vbr_machine.specs.Machine.{World, opening, link_at, found, after}
use Rattle.vbr_machine.specs.Runs.{AreAccepted, IsRun, world_after, know_after}
use Rattle.vbr_machine.specs.Moments.{WasShown}
use Rattle.vbr_machine.specs.Membership.{Knows, IsHeldPlace, HeldIn, LeadsTo, KeyAt, StandsBehind}
use Rattle.vbr_machine.specs.Membership.{StandsBefore, AcceptsKnown}
use Rattle.vbr_machine.specs.Incarnations.{Incarnations, Marked, at_opening}
use Rattle.vbr_machine.specs.Chronicles.{incarnations_from}
use Rattle.vbr_machine.specs.Sound.{IsListed, Grows}
use Rattle.vbr_machine.specs.Notes.{Notes, no_notes, notes_with}
use Rattle.vbr_machine.specs.Removals.{IsTakenOut, NoneMarked}
use Rattle.vbr_machine.specs.Accounts.{happens, incarnations_with, chronicle_from, notes_from, incarnations_after}
use Rattle.vbr_machine.specs.Accounts.{notes_after}
use Rattle.vbr_machine.specs.Agreement.{IsHeldIncarnation, Agrees}
use Rattle.vbr_machine.specs.declared.event.Event.{Event}
use Rattle.vbr_machine.specs.declared.event.Step.{Step}
use Rattle.vbr_machine.specs.declared.event.Step.TheVariants.{LoadLink, Mark, ConfirmPresent, ConfirmAbsent}
use Rattle.vbr_machine.specs.declared.history.Op.{Op}
use Rattle.vbr_machine.specs.declared.history.Op.TheVariants.{Remove, Get}
use Rattle.vbr_machine.specs.declared.knowledge.Read.{Read}
use Rattle.vbr_machine.specs.declared.knowledge.Read.TheVariants.{LinkAt, KeyOf, ValueOf}
use Rattle.vbr_machine.proofs.chronicles.Growth.{grows_after}
use Rattle.vbr_machine.proofs.steps.Steps.{agrees_at_first, at_put}
use Rattle.vbr_machine.proofs.reads.KnownReads as reads
use Rattle.vbr_machine.proofs.moments.AtLoads as loads
use Rattle.vbr_machine.proofs.reads.HeldBuckets.{AreOrdered, ordered_on, ordered_with}
use Rattle.vbr_machine.proofs.reads.HeldBuckets as buckets
use Rattle.vbr_machine.proofs.reads.KnownAcceptance.{place_known, WritesLink}
use Rattle.vbr_machine.proofs.reads.KnownAcceptance as acceptance
use Rattle.vbr_machine.proofs.reads.HeldSlots.{IsOfHeldPlace}
use Rattle.vbr_machine.proofs.runs.SafeRuns.{run_reads}
use Rattle.vbr_machine.proofs.moments.MarkedChains as chains
use Rattle.vbr_machine.proofs.runs.RunsGoOn.{is_run_before}
use Rattle.vbr_machine.proofs.runs.EveryRun.{step_agrees, incarnations_from-append, run_agrees, run_grows}

-- ---- along events

-- after each accepted event the notes of all passes are in order
ordered_from : (start : Start) (passes : ℕ) (w : World) (a : Incarnations) (notes : ℕ → Notes) (events : List Event) →
    Agrees start w a notes → ((q : ℕ) → AreOrdered start a (notes q)) → AreAccepted start passes w events →
    (q : ℕ) → AreOrdered start (incarnations_from start a (chronicle_from start w a events))
    (notes_from start w a notes events q)
ordered_from start passes w a notes [] g o ok q = o q
ordered_from start passes w a notes (event ∷ events) g o ok q =
    let p = event.pass in
    let v = after start w p event.step in
    let b = incarnations_with start w a event in
    let noted = notes_with start w b p event.step (notes p) in
    let one = step_agrees start w a notes p event.step g ok.0.1 in
    let grown : Grows a b = grows_after start (opening_keys start) a (happens start w a p event.step) g.sound one.0 in
    let next : (j : ℕ) → AreOrdered start b (put notes p noted j) =
    at_put (λ j n. AreOrdered start b n) notes p noted
    (ordered_with one.1.sound (notes p) (ordered_on grown (notes p) (o p)) w p event.step)
    (λ j ne. ordered_on grown (notes j) (o j)) in
    rw (incarnations_from-append start a (happens start w a p event.step) (chronicle_from start v b events))
    (ordered_from start passes v b (put notes p noted) events one.1 next ok.1 q)

-- ---- after a run

module _ (start : Start) (passes : ℕ) (run : List Event) (is : IsStart start) (ok : IsRun start passes run)
    (p : ℕ) where
  pub agrees : Agrees start (world_after start run) (incarnations_after start run) (notes_after start run)
  agrees = run_agrees start passes run is ok

  pub ordered : AreOrdered start (incarnations_after start run) (notes_after start run p)
  ordered = ordered_from start passes (opening start) (at_opening start) (λ q. no_notes) run (agrees_at_first start is)
      (λ q. record { pending = tt; checked = tt }) ok p

  -- a known read is of a held place, by searches
  of_held : (read : Read) → Knows (know_after start run p) read → IsOfHeldPlace (know_after start run p).checked read
  of_held read k =
      let P : Read → Type 0 = IsOfHeldPlace (know_after start run p).checked in
      All-contains P (know_after start run p).checked read
      (All-from_recursion P (know_after start run p).checked (run_reads start passes run ok p).checked) k.among

  -- a slot has one known key and one known birth
  pub one_key : (s i j : ℕ) → Knows (know_after start run p) (KeyOf s i) → Knows (know_after start run p) (KeyOf s j) →
      i ≡ j
  one_key s i j k l = reads.one_key agrees.sound (agrees.knows p) s i j k l

  -- a known link at a head is unmarked
  pub head_unmarked : (b : ℕ) (link : Link) → Knows (know_after start run p) (LinkAt (Head b) link) → link.mark ≡ false
  head_unmarked b link k = reads.head_unmarked (agrees.knows p) b link k

  -- the place of a known link is held, and so is the slot of a known birth or key
  pub link_held : (place : At) (link : Link) → Knows (know_after start run p) (LinkAt place link) →
      IsHeldPlace (know_after start run p) place
  link_held place link k = place_known (know_after start run p) place (of_held (LinkAt place link) k)

  -- a known key of a slot that is held in a bucket is one of the bucket
  pub held_in_bucket : (s b key : ℕ) → HeldIn (know_after start run p) (Slot s) b →
      Knows (know_after start run p) (KeyOf s key) → bucket_of start.shape key ≡ b
  held_in_bucket s b key h k = buckets.held_in_bucket agrees.sound (agrees.knows p) ordered s b key h k

  -- what is accepted by membership is accepted, and the other way round
  pub known_accepts : (step : Step) → AcceptsKnown start (know_after start run p) step →
      Accepts start (know_after start run p) step
  known_accepts step accepts = acceptance.known_accepts agrees.sound (agrees.knows p) agrees.fits accepts

  pub accepts_known : (step : Step) → Accepts start (know_after start run p) step →
      AcceptsKnown start (know_after start run p) step
  accepts_known step accepts = acceptance.accepts_known accepts

  -- a step writes the link that it writes by any known births and marked link
  pub written_is : (step : Step) (new : Link) → WritesLink (know_after start run p) step new →
      link_written (know_after start run p) step ≡ new
  written_is step new h = acceptance.written_is agrees.sound (agrees.knows p) step new h

  -- the calls of a mark and of a confirming load of a slot are of any known key, and of any known value
  pub marked_call_is : (s expected key value : ℕ) → Knows (know_after start run p) (KeyOf s key) →
      (start.shape.values ≡ true → Knows (know_after start run p) (ValueOf s value)) →
      call_of start p (know_after start run p) (Mark s expected)
      ≡ Some (record { who = p; op = Remove; key = key; reply = true; value = payload_kept start (Some value) })
  marked_call_is s expected key value k v =
      acceptance.marked_call_is agrees.sound (agrees.knows p) p s expected key value k v

  pub confirmed_call_is : (op : Op) (s expected key value : ℕ) → Knows (know_after start run p) (KeyOf s key) →
      (op ≡ Get → Knows (know_after start run p) (ValueOf s value)) →
      call_of start p (know_after start run p) (ConfirmPresent op s expected)
      ≡ Some (record { who = p; op = op; key = key; reply = present_reply op; value = present_value op (Some value) })
  confirmed_call_is op s expected key value k v =
      acceptance.confirmed_call_is agrees.sound (agrees.knows p) p op s expected key value k v

  -- the link that stands at a place is that of the word that a load finds there
  pub link_loaded : (place : At) →
      link_at (world_after start run) place ≡ link_of (found start (world_after start run) (LoadLink place))
  link_loaded place = loads.link_found_at agrees place (found start (world_after start run) (LoadLink place)) refl

  -- where a confirming load of a slot finds the word that it expects, each key that is known at the slot is in the set
  pub confirmed_present : (op : Op) (s expected key : ℕ) →
      Accepts start (know_after start run p) (ConfirmPresent op s expected) →
      found start (world_after start run) (ConfirmPresent op s expected) ≡ expected →
      Knows (know_after start run p) (KeyOf s key) →
      set_after (opening_keys start) (world_after start run).calls key ≡ true
  confirmed_present op s expected key accepts q k = loads.confirmed_present agrees p op s expected key accepts q k

  -- where a confirming load for a key finds the word that it expects, the key isn't in the set
  pub confirmed_absent : (op : Op) (key : ℕ) (place : At) (expected : ℕ) →
      Accepts start (know_after start run p) (ConfirmAbsent op key place expected) →
      found start (world_after start run) (ConfirmAbsent op key place expected) ≡ expected →
      set_after (opening_keys start) (world_after start run).calls key ≡ false
  confirmed_absent op key place expected accepts q = chains.confirmed_absent agrees p op key place expected accepts q

  -- a known unmarked link stands at its place, and known marked links lead on from it: a key that stands behind the
  -- place and before what the last of these links names isn't in the set
  pub absent_behind_marked : (place : At) (link last : Link) → Knows (know_after start run p) (LinkAt place link) →
      link.mark ≡ false → link_at (world_after start run) place ≡ link → LeadsTo (know_after start run p) link last →
      (key : ℕ) → StandsBehind start (know_after start run p) place key →
      StandsBefore (know_after start run p) key last.slot →
      set_after (opening_keys start) (world_after start run).calls key ≡ false
  absent_behind_marked place link last k m q leads key i j =
      chains.absent_behind_marked agrees p place link last k m q leads key i j

-- ---- at a moment of a run

module _ (start : Start) (passes : ℕ) (moment run : List Event) (is : IsStart start) (ok : IsRun start passes run)
    (p : ℕ) (place : At) (link : Link) (was : WasShown start moment run p place link) where
  ok_parts : IsRun start passes (moment ++ was.begins.0)
  ok_parts = let P : List Event → Type 0 = λ r. IsRun start passes r in subst P was.begins.1 ok

  then : Agrees start (world_after start moment) (incarnations_after start moment) (notes_after start moment)
  then = run_agrees start passes moment is (is_run_before start passes moment was.begins.0 ok_parts)

  grown : Grows (incarnations_after start moment) (incarnations_after start run)
  grown =
      let P : List Event → Type 0 = λ r. Grows (incarnations_after start moment) (incarnations_after start r) in
      subst P (sym was.begins.1) (run_grows start passes moment was.begins.0 is ok_parts)

  -- a key that is known at the place at the end was in the set at that moment
  pub present_at_load : (key : ℕ) → KeyAt (know_after start run p) place key →
      set_after (opening_keys start) (world_after start moment).calls key ≡ true
  present_at_load key k =
      loads.present_at_load then (run_agrees start passes run is ok) grown p place link was.epoch was.held was.shown
      was.known was.unmarked key k

  -- and a value that is known there at the end was its value
  pub value_at_load : (s key value : ℕ) → place ≡ Slot s → Knows (know_after start run p) (KeyOf s key) →
      Knows (know_after start run p) (ValueOf s value) →
      values_after (opening_payloads start) (world_after start moment).calls key ≡ payload_kept start (Some value)
  value_at_load s key value e k m =
      loads.value_at_load then (run_agrees start passes run is ok) grown p place link was.epoch was.held was.shown
      was.known was.unmarked s key value e k m

  -- a key that stands behind the place and before what the link names, by what is known at the end, wasn't in the
  -- set at that moment
  pub absent_at_load : (key : ℕ) → StandsBehind start (know_after start run p) place key →
      StandsBefore (know_after start run p) key link.slot →
      set_after (opening_keys start) (world_after start moment).calls key ≡ false
  absent_at_load key i j =
      loads.absent_at_load then (run_agrees start passes run is ok) grown p place link was.epoch was.held was.shown
      was.known was.unmarked key i j

  -- no marked incarnation of such a key was in a list at that moment but one that was replaced
  pub none_marked_here : (key : ℕ) → KeyAt (know_after start run p) place key →
      NoneMarked (incarnations_after start moment) key
  none_marked_here key k =
      loads.none_marked_here_then then (run_agrees start passes run is ok) grown p place link was.epoch was.held
      was.shown
      was.known was.unmarked key k

  pub none_marked_between : (key : ℕ) → StandsBehind start (know_after start run p) place key →
      StandsBefore (know_after start run p) key link.slot → NoneMarked (incarnations_after start moment) key
  none_marked_between key i j =
      loads.none_marked_between_then then (run_agrees start passes run is ok) grown p place link was.epoch was.held
      was.shown was.known was.unmarked key i j

  -- nor one of the key of a slot whose incarnation was removed and not replaced, and whose known marked link names
  -- what the link names
  pub none_marked_skipped : (s key : ℕ) (frozen : Link) → StandsBehind start (know_after start run p) place key →
      Knows (know_after start run p) (LinkAt (Slot s) frozen) → frozen.mark ≡ true → frozen.slot ≡ link.slot →
      Knows (know_after start run p) (KeyOf s key) →
      IsTakenOut (incarnations_after start run) (know_after start run p).epoch s →
      NoneMarked (incarnations_after start moment) key
  none_marked_skipped s key frozen i k m same j out =
      loads.none_marked_skipped_then then (run_agrees start passes run is ok) grown p place link was.epoch was.held
      was.shown was.known was.unmarked s key frozen i k m same j out

  -- nor was the incarnation that is held at a slot that stands behind the place, and whose known marked link names
  -- what the link names
  pub skipped_unlisted : (s key c : ℕ) (frozen : Link) → StandsBehind start (know_after start run p) place key →
      Knows (know_after start run p) (LinkAt (Slot s) frozen) → frozen.mark ≡ true → frozen.slot ≡ link.slot →
      Knows (know_after start run p) (KeyOf s key) →
      IsHeldIncarnation (incarnations_after start run) (know_after start run p).epoch s c →
      IsListed ((incarnations_after start moment).state c) → ⊥
  skipped_unlisted s key c frozen i k m same j h l =
      loads.skipped_unlisted_then then (run_agrees start passes run is ok) grown p place link was.epoch was.held
      was.shown
      was.known was.unmarked s key c frozen i k m same j h l

  -- nor was one of a key between the place and what the link names
  pub none_listed : (key c : ℕ) → StandsBehind start (know_after start run p) place key →
      StandsBefore (know_after start run p) key link.slot → IsListed ((incarnations_after start moment).state c) →
      (incarnations_after start moment).key c ≡ key → ⊥
  none_listed key c i j l e =
      loads.none_listed_then then (run_agrees start passes run is ok) grown p place link was.epoch was.held was.shown
      was.known was.unmarked key c i j l e

  -- where the link names a node of a known key, no node of the key that was in a list at that moment stands ahead
  -- of that one
  pub named_first : (s key c : ℕ) → StandsBehind start (know_after start run p) place key → link.slot ≡ Some s →
      Knows (know_after start run p) (KeyOf s key) → IsListed ((incarnations_after start moment).state c) →
      (incarnations_after start moment).key c ≡ key →
      (i : ℕ) × IsHeldIncarnation (incarnations_after start run) (know_after start run p).epoch s i ×
      ((incarnations_after start run).rank i ≤ (incarnations_after start run).rank c)
  named_first s key c i q j l e =
      loads.named_first_then then (run_agrees start passes run is ok) grown p place link was.epoch was.held was.shown
      was.known was.unmarked s key c i q j l e

  -- and where the place is a slot of the key, each node of the key that was marked at that moment stands ahead of
  -- the one there
  pub marked_ahead : (s key c : ℕ) → place ≡ Slot s → Knows (know_after start run p) (KeyOf s key) →
      (incarnations_after start moment).state c ≡ Marked → (incarnations_after start moment).key c ≡ key →
      (i : ℕ) × IsHeldIncarnation (incarnations_after start run) (know_after start run p).epoch s i ×
      ((incarnations_after start run).rank c < (incarnations_after start run).rank i)
  marked_ahead s key c q j m e =
      loads.marked_ahead_then then (run_agrees start passes run is ok) grown p place link was.epoch was.held was.shown
      was.known was.unmarked s key c q j m e
