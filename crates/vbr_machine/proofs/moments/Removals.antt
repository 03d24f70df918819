-- A removed incarnation leaves its list for good, and each remove answered yes has marked one of its key.
use Rattle.std.proofs.Common.{◌≡◌, ◌≢◌, ℕ, ◌+◌, ◌<◌, ◌≤◌, Bool, true, List, [], ◌∷◌, ◌++◌, length, Some, refl, sym, ap}
use Rattle.std.proofs.Common.{◌∙◌, subst, append_assoc, append-nil, eq-eqb, inl, inr, arith, length-append}
use Rattle.std.specs.Prelude.{◌==◌, ◌⊎◌}
use Rattle.std.specs.List.{Contains}
use Rattle.std.proofs.lemmas.Bool.{cases_eq, ne_eqb}
use Rattle.std.proofs.lemmas.Bool.Decides.{nat_tests}
use Rattle.std.proofs.lemmas.List.{append_cancel_left}
use Rattle.std.proofs.lemmas.List.Elements.{Contains-append_left, Contains-append_right, Contains-push, filter-append}
use Rattle.vbr_machine.specs.Start.{Start, IsStart}
use Rattle.vbr_machine.specs.Keys.{Keys}
use Rattle.vbr_machine.specs.Opened.{opening_keys}
use Rattle.vbr_machine.specs.History.{calls_by}
use Rattle.vbr_machine.specs.Runs.{Begins, IsRun, know_after, world_after}
use Rattle.vbr_machine.specs.Calls.{own_calls}
use Rattle.vbr_machine.specs.Acceptance.{Accepts}
use Rattle.vbr_machine.specs.Machine.{World, opening, found}
use Rattle.vbr_machine.specs.Notes.{Notes}
use Rattle.vbr_machine.specs.Incarnations.{State, Unborn, InHand, GivenUp, Linked, Marked, Unlinked, Stamped}
use Rattle.vbr_machine.specs.Incarnations.{Incarnations, at_opening, last_in, payload_of}
use Rattle.vbr_machine.specs.Chronicles.{Happening, Advances, Gains, Probes, Raises, GivesUp, Bears, Keyed, Valued}
use Rattle.vbr_machine.specs.Chronicles.{Aims, Inserts, Removes, Replaces, Unlinks, Stamps, Confirms, Entry, Allowed}
use Rattle.vbr_machine.specs.Chronicles.{ChangesNothing, becomes, calls_made, incarnations_from, IsLawful, entries_by}
use Rattle.vbr_machine.specs.Accounts.{chronicle, chronicle_from, incarnations_after, notes_after, own_entries}
use Rattle.vbr_machine.specs.Agreement.{Agrees}
use Rattle.vbr_machine.specs.Sound.{IsInserted, IsRemoved, Sound, Grows}
use Rattle.vbr_machine.specs.Removals.{HasLeft, HasMarked, IsTakenOut, MarkedLeft, NoneMarked}
use Rattle.vbr_machine.specs.declared.history.Call.{Call}
use Rattle.vbr_machine.specs.declared.history.Op.{Op}
use Rattle.vbr_machine.specs.declared.history.Op.TheVariants.{Insert, Remove, Has, Get}
use Rattle.vbr_machine.specs.declared.event.Event.{Event}
use Rattle.vbr_machine.specs.declared.event.Step.TheVariants.{Mark}
use Rattle.vbr_words.specs.declared.place.At.TheVariants.{Slot}
use Rattle.vbr_machine.proofs.chronicles.Growth.{grows, grows_after}
use Rattle.vbr_machine.proofs.reads.HeldReads.{stays_held}
use Rattle.vbr_machine.proofs.words.Puts.{put_here}
use Rattle.vbr_machine.proofs.reads.StandingLinks.{link_stands}
use Rattle.vbr_machine.proofs.chronicles.SoundAfter.{sound_kept}
use Rattle.vbr_machine.proofs.runs.EveryRun.{begun_grows, run_agrees, run_grows, runs_agree, incarnations-append}
use Rattle.vbr_machine.proofs.runs.OwnEntries.{chronicle_from-append}
use Rattle.vbr_machine.proofs.runs.RunsGoOn.{begins_run, begins_trans, calls_by-append, is_run_after, is_run_before}

-- ---- out for good

-- what has left its list stays out
pub left_stays : (start : Start) (keys : Keys) (a : Incarnations) (pass : ℕ) (what : Happening) → Sound start a →
    Allowed start keys a pass what → (c : ℕ) → HasLeft (a.state c) → HasLeft ((becomes start a pass what).state c)
left_stays start keys a pass Advances s h c l = l
left_stays start keys a pass (Gains v) s h c l = l
left_stays start keys a pass (Probes v) s h c l = l
left_stays start keys a pass (Raises v) s h c l = l
left_stays start keys a pass (Confirms call) s h c l = l
left_stays start keys a pass (Aims d link) s h c l = l
left_stays start keys a pass (Keyed d key) s h c l = l
left_stays start keys a pass (Valued d value) s h c l = l
left_stays start keys a pass (GivesUp d) s h c l = grind (arith, nat_tests)
left_stays start keys a pass (Bears v birth) s h c l =
    let z = s.slots.unborn a.count (omega arith) in grind (arith, nat_tests)
left_stays start keys a pass (Inserts d behind) s h c l = let z = h.in_hand in grind (arith, nat_tests)
left_stays start keys a pass (Removes d) s h c l = grind (arith, nat_tests)
left_stays start keys a pass (Replaces old d) s h c l =
    let z = h.in_hand in let y = h.linked in grind (arith, nat_tests)
left_stays start keys a pass (Unlinks d behind) s h c l = grind (arith, nat_tests)
left_stays start keys a pass (Stamps d stamp) s h c l = grind (arith, nat_tests)

pub left_after : (start : Start) (keys : Keys) (a : Incarnations) (entries : List Entry) → Sound start a →
    IsLawful start keys a entries → (c : ℕ) → HasLeft (a.state c) →
    HasLeft ((incarnations_from start a entries).state c)
left_after start keys a [] s l c h = h
left_after start keys a (entry ∷ entries) s l c h =
    left_after start keys (becomes start a entry.pass entry.what) entries
    (sound_kept start keys a entry.pass entry.what s l.0) l.1 c
    (left_stays start keys a entry.pass entry.what s l.0 c h)

-- what was removed and isn't marked has left its list
pub removed_left : (st : State) → IsRemoved st → st ≢ Marked → HasLeft st
removed_left Unborn r ne = absurd r
removed_left (InHand p) r ne = absurd r
removed_left GivenUp r ne = absurd r
removed_left Linked r ne = absurd r
removed_left Marked r ne = absurd (ne refl)
removed_left (Unlinked p u) r ne = tt
removed_left (Stamped u r) q ne = tt

-- what was removed was inserted
pub removed_inserted : (st : State) → IsRemoved st → IsInserted st
removed_inserted st r = grind arith

-- ---- the mark of a remove that was answered yes

-- an incarnation of this key was marked by a pass, by one of these events, and is removed in the end, with a
-- successor of a greater key if it has one
record IsMarkedBy (b : Incarnations) (entries : List Entry) (who key : ℕ) : Type 0 where
  pub node : ℕ
  pub among : Contains (entries_by who entries) (record { pass = who; what = Removes node })
  pub removed : IsRemoved (b.state node)
  pub of_key : b.key node ≡ key
  pub above : (n : ℕ) → b.next node ≡ Some n → key < b.key n

no_shorter : (xs : List Call) (call : Call) → xs ≡ xs ++ call ∷ [] → ⊥
no_shorter xs call e =
    let n : length xs ≡ length xs + 1 = ap length e ∙ length-append xs (call ∷ []) in omega (arith, n)

-- the calls of a chronicle go on from those before
calls_go_on : (start : Start) (a : Incarnations) (entries : List Entry) →
    (more : List Call) × ((incarnations_from start a entries).calls ≡ a.calls ++ more)
calls_go_on start a [] = ([], sym (append-nil a.calls))
calls_go_on start a (entry ∷ entries) =
    let b = becomes start a entry.pass entry.what in
    let rest = calls_go_on start b entries in
    let one = calls_by_one entry.what in
    (one.0 ++ rest.0, rest.1 ∙ ap (λ l. l ++ rest.0) one.1 ∙ append_assoc a.calls one.0 rest.0)
  where
    none : (what : Happening) → (becomes start a entry.pass what).calls ≡ a.calls →
        (more : List Call) × ((becomes start a entry.pass what).calls ≡ a.calls ++ more)
    none what e = ([], e ∙ sym (append-nil a.calls))

    calls_by_one : (what : Happening) → (more : List Call) × ((becomes start a entry.pass what).calls ≡ a.calls ++ more)
    calls_by_one (Inserts c behind) = (calls_made start a entry.pass (Inserts c behind), refl)
    calls_by_one (Removes c) = (calls_made start a entry.pass (Removes c), refl)
    calls_by_one (Replaces old c) = (calls_made start a entry.pass (Replaces old c), refl)
    calls_by_one (Confirms call) = (calls_made start a entry.pass (Confirms call), refl)
    calls_by_one Advances = none Advances refl
    calls_by_one (Gains v) = none (Gains v) refl
    calls_by_one (Probes v) = none (Probes v) refl
    calls_by_one (Raises v) = none (Raises v) refl
    calls_by_one (Aims d link) = none (Aims d link) refl
    calls_by_one (Keyed d key) = none (Keyed d key) refl
    calls_by_one (Valued d value) = none (Valued d value) refl
    calls_by_one (GivesUp d) = none (GivesUp d) refl
    calls_by_one (Bears v birth) = none (Bears v birth) refl
    calls_by_one (Unlinks d behind) = none (Unlinks d behind) refl
    calls_by_one (Stamps d stamp) = none (Stamps d stamp) refl

one_of : (who : ℕ) (call : Call) → call.who ≡ who → calls_by who (call ∷ []) ≡ call ∷ []
one_of who call e = rw (eq-eqb call.who who e) refl

none_of : (who : ℕ) (call : Call) → call.who ≢ who → calls_by who (call ∷ []) ≡ []
none_of who call ne = rw (ne_eqb call.who who ne) refl

-- the first call of a pass that was added is the one call that was
first_added : (who : ℕ) (before after all more : List Call) (x call : Call) → after ≡ before ++ x ∷ [] →
    all ≡ after ++ more → x.who ≡ who → calls_by who all ≡ calls_by who before ++ call ∷ [] → x ≡ call
first_added who before after all more x call one rest mine e =
    let split : calls_by who all ≡ calls_by who before ++ (x ∷ [] ++ calls_by who more) = (
    ap (calls_by who) (rest ∙ ap (λ l. l ++ more) one ∙ append_assoc before (x ∷ []) more)
    ∙ calls_by-append who before (x ∷ [] ++ more)
    ∙ ap (λ l. calls_by who before ++ l)
    (calls_by-append who (x ∷ []) more ∙ ap (λ l. l ++ calls_by who more) (one_of who x mine))) in
    let same : x ∷ [] ++ calls_by who more ≡ call ∷ [] =
    append_cancel_left (calls_by who before) (x ∷ [] ++ calls_by who more) (call ∷ []) (sym split ∙ e) in
    cc

-- two calls of a pass aren't the one call that was added
no_two : (who : ℕ) (before after all more : List Call) (x y call : Call) → after ≡ (before ++ x ∷ []) ++ y ∷ [] →
    all ≡ after ++ more → x.who ≡ who → y.who ≡ who → calls_by who all ≡ calls_by who before ++ call ∷ [] → ⊥
no_two who before after all more x y call two rest mine too e =
    let split : calls_by who all ≡ calls_by who before ++ (x ∷ y ∷ calls_by who more) = (
    ap (calls_by who)
    (rest ∙ ap (λ l. l ++ more) (two ∙ append_assoc before (x ∷ []) (y ∷ [])) ∙ append_assoc before (x ∷ y ∷ []) more)
    ∙ calls_by-append who before (x ∷ y ∷ more)
    ∙ ap (λ l. calls_by who before ++ l)
    (calls_by-append who (x ∷ []) (y ∷ more)
    ∙ (λ i. one_of who x mine i
    ++ (calls_by-append who (y ∷ []) more ∙ ap (λ l. l ++ calls_by who more) (one_of who y too)) i))) in
    let same : x ∷ y ∷ calls_by who more ≡ call ∷ [] =
    append_cancel_left (calls_by who before) (x ∷ y ∷ calls_by who more) (call ∷ []) (sym split ∙ e) in
    cc

-- a call of another adds none of the pass's
other_added : (who : ℕ) (before : List Call) (x : Call) → x.who ≢ who →
    calls_by who (before ++ x ∷ []) ≡ calls_by who before
other_added who before x ne = calls_by-append who before (x ∷ [])
    ∙ ap (λ l. calls_by who before ++ l) (none_of who x ne) ∙ append-nil (calls_by who before)

-- where one call was made, and by another, none of the pass's was
one_by_other : (who pass : ℕ) (before made : List Call) (x : Call) (xs : List Call) → x ∷ xs ≡ made → xs ≡ [] →
    x.who ≡ pass → pass ≢ who → calls_by who (before ++ made) ≡ calls_by who before
one_by_other who pass before made x xs is none by ne =
    ap (λ l. calls_by who (before ++ l)) (sym is ∙ ap (λ l. x ∷ l) none)
    ∙ other_added who before x (λ w. ne (sym by ∙ w))

module _ (start : Start) (keys : Keys) (who : ℕ) (call : Call) (remove : call.op ≡ Remove)
    (yes : call.reply ≡ true) where
  -- of a first event and of others
  later : (b : Incarnations) (entry : Entry) (entries : List Entry) (key : ℕ) → IsMarkedBy b entries who key →
      IsMarkedBy b (entry ∷ entries) who key
  later b entry entries key x = record {
    node = x.node;
    among = rw (filter-append (λ (e : Entry). e.pass == who) (entry ∷ []) entries)
        (Contains-append_right (entries_by who (entry ∷ [])) (entries_by who entries)
        (record { pass = who; what = Removes x.node }) x.among);
    removed = x.removed;
    of_key = x.of_key;
    above = x.above;
  }

  -- the first of these events marks it, or no call of the pass came of it
  marks_or_later : (a : Incarnations) (pass : ℕ) (what : Happening) (entries : List Entry) → Sound start a →
      Allowed start keys a pass what →
      Grows (becomes start a pass what) (incarnations_from start (becomes start a pass what) entries) →
      calls_by who (incarnations_from start (becomes start a pass what) entries).calls
      ≡ calls_by who a.calls ++ call ∷ [] →
      (calls_by who (becomes start a pass what).calls ≡ calls_by who a.calls →
      IsMarkedBy (incarnations_from start (becomes start a pass what) entries)
      (record { pass = pass; what = what } ∷ entries) who call.key) →
      IsMarkedBy (incarnations_from start (becomes start a pass what) entries)
      (record { pass = pass; what = what } ∷ entries) who call.key
  marks_or_later a pass Advances entries s h g e rec = rec refl
  marks_or_later a pass (Gains v) entries s h g e rec = rec refl
  marks_or_later a pass (Probes v) entries s h g e rec = rec refl
  marks_or_later a pass (Raises v) entries s h g e rec = rec refl
  marks_or_later a pass (Aims d link) entries s h g e rec = rec refl
  marks_or_later a pass (Keyed d key) entries s h g e rec = rec refl
  marks_or_later a pass (Valued d value) entries s h g e rec = rec refl
  marks_or_later a pass (GivesUp d) entries s h g e rec = rec refl
  marks_or_later a pass (Bears v birth) entries s h g e rec = rec refl
  marks_or_later a pass (Unlinks d behind) entries s h g e rec = rec refl
  marks_or_later a pass (Stamps d stamp) entries s h g e rec = rec refl
  marks_or_later a pass (Confirms x) entries s h g e rec = go (cases_eq x.who who)
    where
      b : Incarnations
      b = becomes start a pass (Confirms x)

      changes : (op : Op) (reply : Bool) → op ≡ Remove → reply ≡ true → ChangesNothing op reply → ⊥
      changes Insert reply o r n = cc
      changes Remove reply o r n = cc
      changes Has reply o r n = cc
      changes Get reply o r n = cc

      go : (x.who ≡ who) ⊎ (x.who ≢ who) →
          IsMarkedBy (incarnations_from start b entries) (record { pass = pass; what = Confirms x } ∷ entries) who
          call.key
      go (inl mine) =
          let more = calls_go_on start b entries in
          let same : x ≡ call =
          first_added who a.calls b.calls (incarnations_from start b entries).calls more.0 x call refl more.1 mine e in
          absurd (changes x.op x.reply (ap (λ (c : Call). c.op) same ∙ remove) (ap (λ (c : Call). c.reply) same ∙ yes)
          h.1)
      go (inr ne) = rec (other_added who a.calls x ne)
  marks_or_later a pass (Inserts c behind) entries s h g e rec =
      go (cases_eq pass who) (calls_made start a pass (Inserts c behind)) refl
    where
      b : Incarnations
      b = becomes start a pass (Inserts c behind)

      go : (pass ≡ who) ⊎ (pass ≢ who) → (made : List Call) → made ≡ calls_made start a pass (Inserts c behind) →
          IsMarkedBy (incarnations_from start b entries) (record { pass = pass; what = Inserts c behind } ∷ entries) who
          call.key
      go (inl mine) [] is = absurd (cc)
      go (inl mine) (x ∷ xs) is =
          let more = calls_go_on start b entries in
          let none : xs ≡ [] = cc in
          let kind : x.op ≡ Insert = cc in
          let by : x.who ≡ pass = cc in
          let same : x ≡ call =
          first_added who a.calls b.calls (incarnations_from start b entries).calls more.0 x call
          (ap (λ l. a.calls ++ l) (sym is ∙ ap (λ l. x ∷ l) none)) more.1 (by ∙ mine) e in
          absurd (let w : Insert ≡ Remove = sym kind ∙ ap (λ (c : Call). c.op) same ∙ remove in cc)
      go (inr ne) [] is = absurd (cc)
      go (inr ne) (x ∷ xs) is = rec (one_by_other who pass a.calls _ x xs is (cc) (cc) ne)
  marks_or_later a pass (Removes c) entries s h g e rec =
      go (cases_eq pass who) (calls_made start a pass (Removes c)) refl
    where
      b : Incarnations
      b = becomes start a pass (Removes c)

      marked : IsRemoved (b.state c)
      marked = grind (arith, nat_tests)

      inserted : IsInserted (b.state c)
      inserted = grind (arith, nat_tests)

      was_inserted : (n : ℕ) → IsInserted (a.state n) → IsInserted (b.state n)
      was_inserted n i = grind (arith, nat_tests)

      go : (pass ≡ who) ⊎ (pass ≢ who) → (made : List Call) → made ≡ calls_made start a pass (Removes c) →
          IsMarkedBy (incarnations_from start b entries) (record { pass = pass; what = Removes c } ∷ entries) who
          call.key
      go (inl mine) [] is = absurd (cc)
      go (inl mine) (x ∷ xs) is =
          let more = calls_go_on start b entries in
          let none : xs ≡ [] = cc in
          let key : x.key ≡ a.key c = cc in
          let by : x.who ≡ pass = cc in
          let same : x ≡ call =
          first_added who a.calls b.calls (incarnations_from start b entries).calls more.0 x call
          (ap (λ l. a.calls ++ l) (sym is ∙ ap (λ l. x ∷ l) none)) more.1 (by ∙ mine) e in
          let first : Entry = record { pass = pass; what = Removes c } in
          let told : Entry = record { pass = who; what = Removes c } in
          let one : entries_by who (first ∷ []) ≡ told ∷ [] =
          rw (eq-eqb pass who mine) (ap (λ p. record { pass = p; what = Removes c } ∷ []) mine) in
          record {
            node = c;
            among = rw (filter-append (λ (e : Entry). e.pass == who) (first ∷ []) entries, one)
                (Contains-append_left (told ∷ []) (entries_by who entries) told (Contains-push [] told));
            removed = (g.removed c marked).0;
            of_key = g.key c inserted ∙ sym key ∙ ap (λ (c : Call). c.key) same;
            above = λ n q.
                let next : a.next c ≡ Some n = sym (g.removed c marked).1 ∙ q in
                let up = s.lists.strict c n next h in
                let there = was_inserted n (s.lists.inserted c n next).1 in
                let is : call.key ≡ a.key c = sym (ap (λ (c : Call). c.key) same) ∙ key in
                let kept = g.key n there in
                omega (arith, up, is, kept);
          }
      go (inr ne) [] is = absurd (cc)
      go (inr ne) (x ∷ xs) is = rec (one_by_other who pass a.calls _ x xs is (cc) (cc) ne)
  marks_or_later a pass (Replaces old c) entries s h g e rec = go (cases_eq pass who)
    where
      b : Incarnations
      b = becomes start a pass (Replaces old c)

      x : Call
      x = record { who = pass; op = Remove; key = a.key old; reply = true; value = payload_of start a old }

      y : Call
      y = record { who = pass; op = Insert; key = a.key c; reply = true; value = payload_of start a c }

      two : b.calls ≡ (a.calls ++ x ∷ []) ++ y ∷ []
      two = sym (append_assoc a.calls (x ∷ []) (y ∷ []))

      go : (pass ≡ who) ⊎ (pass ≢ who) →
          IsMarkedBy (incarnations_from start b entries) (record { pass = pass; what = Replaces old c } ∷ entries) who
          call.key
      go (inl mine) =
          let more = calls_go_on start b entries in
          absurd (no_two who a.calls b.calls (incarnations_from start b entries).calls more.0 x y call two more.1 mine
          mine e)
      go (inr ne) =
          rec (ap (calls_by who) two ∙ other_added who (a.calls ++ x ∷ []) y ne ∙ other_added who a.calls x ne)

  mark_among : (a : Incarnations) (entries : List Entry) → Sound start a → IsLawful start keys a entries →
      calls_by who (incarnations_from start a entries).calls ≡ calls_by who a.calls ++ call ∷ [] →
      IsMarkedBy (incarnations_from start a entries) entries who call.key
  mark_among a [] s l e = absurd (no_shorter (calls_by who a.calls) call e)
  mark_among a (entry ∷ entries) s l e =
      let b = becomes start a entry.pass entry.what in
      let sound = sound_kept start keys a entry.pass entry.what s l.0 in
      marks_or_later a entry.pass entry.what entries s l.0 (grows_after start keys b entries sound l.1) e
      (λ same. later (incarnations_from start b entries) entry entries call.key
      (mark_among b entries sound l.1 (e ∙ ap (λ m. m ++ call ∷ []) (sym same))))

-- ---- along a run

module _ (start : Start) (passes : ℕ) (is : IsStart start) where
  -- the events that come after a beginning, and what they make
  pub since : List Event → List Event → List Entry
  since before rest = chronicle_from start (world_after start before) (incarnations_after start before) rest

  made_since : (before rest : List Event) →
      incarnations_after start (before ++ rest)
      ≡ incarnations_from start (incarnations_after start before) (since before rest)
  unfolding since
  made_since before rest = incarnations-append start (opening start) (at_opening start) before rest

  lawful_since : (before rest : List Event) → IsRun start passes (before ++ rest) →
      Agrees start (world_after start before) (incarnations_after start before) (notes_after start before) →
      IsLawful start (opening_keys start) (incarnations_after start before) (since before rest)
  unfolding since
  lawful_since before rest ok g =
      (runs_agree start passes (world_after start before) (incarnations_after start before) (notes_after start before)
      rest g (is_run_after start passes before rest ok)).0

  pub own_since : (before rest : List Event) (pass : ℕ) →
      own_entries start (before ++ rest) pass ≡ own_entries start before pass ++ entries_by pass (since before rest)
  unfolding since
  own_since before rest pass =
      ap (entries_by pass) (chronicle_from-append start (opening start) (at_opening start) before rest)
      ∙ filter-append (λ (e : Entry). e.pass == pass) (chronicle start before)
      (chronicle_from start (world_after start before) (incarnations_after start before) rest)

  agrees : (run : List Event) → IsRun start passes run →
      Agrees start (world_after start run) (incarnations_after start run) (notes_after start run)
  agrees run ok = run_agrees start passes run is ok

  -- what has left its list by a moment has left it at the end
  pub left_in_runs : (moment rest : List Event) (node : ℕ) → IsRun start passes (moment ++ rest) →
      HasLeft ((incarnations_after start moment).state node) →
      HasLeft ((incarnations_after start (moment ++ rest)).state node)
  left_in_runs moment rest node ok left =
      let g = agrees moment (is_run_before start passes moment rest ok) in
      rw (made_since moment rest)
      (left_after start (opening_keys start) (incarnations_after start moment) (since moment rest) g.sound
      (lawful_since moment rest ok g) node left)

  -- a remove that was answered yes has marked an incarnation of its key, which is removed
  record RemoveMarked (before run : List Event) (pass key : ℕ) : Type 0 where
    pub node : ℕ
    pub marked : HasMarked start before run pass node
    pub removed : IsRemoved ((incarnations_after start run).state node)
    pub of_key : (incarnations_after start run).key node ≡ key
    pub above : (n : ℕ) → (incarnations_after start run).next node ≡ Some n → key < (incarnations_after start run).key n

  marked_in_runs : (before rest : List Event) (pass : ℕ) (call : Call) → IsRun start passes (before ++ rest) →
      call.op ≡ Remove → call.reply ≡ true →
      own_calls start (before ++ rest) pass ≡ own_calls start before pass ++ call ∷ [] →
      RemoveMarked before (before ++ rest) pass call.key
  marked_in_runs before rest pass call ok op reply calls =
      let g = agrees before (is_run_before start passes before rest ok) in
      let a = incarnations_after start before in
      let b = incarnations_from start a (since before rest) in
      let told : calls_by pass b.calls ≡ calls_by pass a.calls ++ call ∷ [] = (
      ap (λ (i : Incarnations). calls_by pass i.calls) (sym (made_since before rest))
      ∙ ap (calls_by pass) (sym (agrees (before ++ rest) ok).calls)
      ∙ calls
      ∙ ap (λ l. calls_by pass l ++ call ∷ []) g.calls) in
      let x = mark_among start (opening_keys start) pass call op reply a (since before rest) g.sound
      (lawful_since before rest ok g) told in
      let P : Incarnations → Type 0 = λ i. IsRemoved (i.state x.node) in
      record {
        node = x.node;
        marked = record {
          since = entries_by pass (since before rest);
          adds = own_since before rest pass;
          among = x.among;
        };
        removed = subst P (sym (made_since before rest)) x.removed;
        of_key = ap (λ (i : Incarnations). i.key x.node) (made_since before rest) ∙ x.of_key;
        above = (let Q : Incarnations → Type 0 = λ i. (n : ℕ) → i.next x.node ≡ Some n → call.key < i.key n in
            subst Q (sym (made_since before rest)) x.above);
      }

  -- what a pass has marked by a moment it has marked at the end
  marked_on : (before moment run : List Event) (pass node : ℕ) → Begins moment run →
      HasMarked start before moment pass node → HasMarked start before run pass node
  marked_on before moment run pass node begins x =
      let more = entries_by pass (since moment begins.0) in
      record {
        since = x.since ++ more;
        adds = ap (λ r. own_entries start r pass) begins.1 ∙ own_since moment begins.0 pass ∙ ap (λ l. l ++ more) x.adds
            ∙ append_assoc (own_entries start before pass) x.since more;
        among = Contains-append_left x.since more (record { pass = pass; what = Removes node }) x.among;
      }

  -- a remove was answered yes by a moment, and at a later one no marked incarnation of its key is in a list but one
  -- that was replaced: the one that it marked has left
  pub marked_left : (before answered moment run : List Event) (pass : ℕ) (call : Call) → IsRun start passes run →
      Begins before answered → Begins answered moment → Begins moment run → call.op ≡ Remove → call.reply ≡ true →
      own_calls start answered pass ≡ own_calls start before pass ++ call ∷ [] →
      NoneMarked (incarnations_after start moment) call.key → MarkedLeft start before run pass call.key
  marked_left before answered moment run pass call ok first second third op reply calls none =
      let P : List Event → Type 0 = IsRun start passes in
      let to_end : Begins answered run = begins_trans answered moment run second third in
      let ok_moment = begins_run start passes moment run third ok in
      let ok_answered = begins_run start passes answered run to_end ok in
      let x = marked_in_runs before first.0 pass call (subst P first.1 ok_answered) op reply
      (ap (λ r. own_calls start r pass) (sym first.1) ∙ calls) in
      let Q : List Event → Type 0 = λ r. RemoveMarked before r pass call.key in
      let y : RemoveMarked before answered pass call.key = subst Q (sym first.1) x in
      let g = begun_grows start passes is answered moment second ok_moment in
      let h = begun_grows start passes is moment run third ok in
      let kept = g.removed y.node y.removed in
      let key : (incarnations_after start moment).key y.node ≡ call.key =
      g.key y.node (removed_inserted ((incarnations_after start answered).state y.node) y.removed) ∙ y.of_key in
      let not_replaced :
      ((n : ℕ) × ((incarnations_after start moment).next y.node ≡ Some n) ×
      ((incarnations_after start moment).key n ≡ call.key)) → ⊥ = (λ r.
      let next : (incarnations_after start answered).next y.node ≡ Some r.0 = sym kept.1 ∙ r.1 in
      let up = y.above r.0 next in
      let same = g.key r.0 ((run_agrees start passes answered is ok_answered).sound.lists.inserted y.node r.0 next).1 in
      let last = r.2 in
      omega (arith, up, same, last)) in
      let out = removed_left ((incarnations_after start moment).state y.node) kept.0
      (λ m. not_replaced (none y.node m key)) in
      let R : List Event → Type 0 = λ r. HasLeft ((incarnations_after start r).state y.node) in
      record {
        node = y.node;
        marked = marked_on before answered run pass y.node to_end y.marked;
        of_key = h.key y.node (removed_inserted ((incarnations_after start moment).state y.node) kept.0) ∙ key;
        left = subst R (sym third.1) (left_in_runs moment third.0 y.node (subst P third.1 ok) out);
      }

  -- what was marked and has left since a moment was so since an earlier one
  pub left_since : (earlier before run : List Event) (pass key : ℕ) → Begins earlier before →
      MarkedLeft start before run pass key → MarkedLeft start earlier run pass key
  left_since earlier before run pass key begins x =
      let more = entries_by pass (since earlier begins.0) in
      record {
        node = x.node;
        marked = record {
          since = more ++ x.marked.since;
          adds = x.marked.adds
              ∙ ap (λ l. l ++ x.marked.since)
              (ap (λ r. own_entries start r pass) begins.1 ∙ own_since earlier begins.0 pass)
              ∙ append_assoc (own_entries start earlier pass) more x.marked.since;
          among = Contains-append_right more x.marked.since (record { pass = pass; what = Removes x.node })
              x.marked.among;
        };
        of_key = x.of_key;
        left = x.left;
      }

-- ---- what a pass has marked is out

-- what was taken out of its list stays so
pub out_stays : {start : Start} {a b : Incarnations} → Sound start a → Grows a b → (epoch s : ℕ) → epoch ≤ a.epoch →
    IsTakenOut a epoch s → IsTakenOut b epoch s
out_stays {start} {a} {b} sound g epoch s low out = record {
  node = out.node;
  held = stays_held sound g epoch s out.node low out.held;
  removed = (g.removed out.node out.removed).0;
  above = λ n q.
      let next : a.next out.node ≡ Some n = sym (g.removed out.node out.removed).1 ∙ q in
      let up = out.above n next in
      let here = g.key out.node (removed_inserted (a.state out.node) out.removed) in
      let there = g.key n (sound.lists.inserted out.node n next).1 in
      omega (arith, up, here, there);
}

-- along a run
pub out_on : (start : Start) (passes : ℕ) (moment run : List Event) → IsStart start → IsRun start passes run →
    Begins moment run → (p s : ℕ) → IsTakenOut (incarnations_after start moment) (know_after start moment p).epoch s →
    IsTakenOut (incarnations_after start run) (know_after start moment p).epoch s
out_on start passes moment run is ok begins p s out =
    let P : List Event → Type 0 = IsRun start passes in
    let Q : List Event → Type 0 = λ r. IsTakenOut (incarnations_after start r) (know_after start moment p).epoch s in
    let g = run_agrees start passes moment is (begins_run start passes moment run begins ok) in
    subst Q (sym begins.1)
    (out_stays g.sound (run_grows start passes moment begins.0 is (subst P begins.1 ok))
    (know_after start moment p).epoch s (g.knows p).epoch out)

-- a node that was marked is taken out
pub marked_out : {start : Start} {w : World} {a : Incarnations} {notes : ℕ → Notes} (p s expected : ℕ) →
    Agrees start w a notes → Accepts start (w.know p) (Mark s expected) → found start w (Mark s expected) ≡ expected →
    IsTakenOut (becomes start a p (Removes (last_in a s))) (w.know p).epoch s
marked_out {start} {w} {a} {notes} p s expected g ok e =
    let m = link_stands start w a notes p g (Slot s) expected ok.held.0 ok.in_range e in
    let c = last_in a s in
    let grown = grows start (opening_keys start) a p (Removes c) g.sound m.is_open in
    record {
      node = c;
      held = stays_held g.sound grown (w.know p).epoch s c (g.knows p).epoch m.held;
      removed = rw (put_here a.state c Marked) tt;
      above = λ n q. g.sound.lists.strict c n q m.is_open;
    }
