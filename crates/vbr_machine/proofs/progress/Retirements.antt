-- Of the nodes that are removed each is retired, or not yet: retirements follow removals.
use Rattle.std.proofs.Common.{◌≡◌, ◌≢◌, ℕ, suc, ◌+◌, ◌<◌, ◌≤◌, Bool, true, false, cond, List, [], ◌∷◌, ◌++◌, Option}
use Rattle.std.proofs.Common.{Some, None, refl, sym, ap, ◌∙◌, subst, inl, inr, arith}
use Rattle.std.specs.Prelude.{◌⊎◌}
use Rattle.std.proofs.lemmas.Bool.{cases_eq, cases_lt, cases_order, false≢true}
use Rattle.vbr_machine.specs.Start.{Start, IsStart}
use Rattle.vbr_machine.specs.Put.{put}
use Rattle.vbr_machine.specs.Keys.{Keys}
use Rattle.vbr_machine.specs.Accounts.{incarnations_after}
use Rattle.vbr_machine.specs.Agreement.{Fits}
use Rattle.vbr_machine.specs.Incarnations.{State, Unborn, InHand, GivenUp, Linked, Marked, Unlinked, Stamped}
use Rattle.vbr_machine.specs.Incarnations.{Incarnations}
use Rattle.vbr_machine.specs.Chronicles.{Happening, Advances, Gains, Probes, Raises, GivesUp, Bears, Keyed, Valued}
use Rattle.vbr_machine.specs.Chronicles.{Aims, Inserts, Removes, Replaces, Unlinks, Stamps, Confirms, Entry, Allowed}
use Rattle.vbr_machine.specs.Chronicles.{MayStamp, MayTakePlace, becomes, calls_made, incarnations_from, IsLawful}
use Rattle.vbr_machine.specs.Chronicles.{unlinked_at}
use Rattle.vbr_machine.specs.Disturbances.{how_many, is_removal, one_if, updates}
use Rattle.vbr_machine.specs.Nodes.{count_below, state_in, state_shown}
use Rattle.vbr_machine.specs.Unretired.{is_unretired, removes, unretired_after}
use Rattle.vbr_machine.specs.Runs.{IsRun}
use Rattle.vbr_machine.specs.Sound.{IsPassed, Sound}
use Rattle.vbr_machine.specs.declared.event.Event.{Event}
use Rattle.vbr_machine.specs.declared.history.Call.{Call}
use Rattle.vbr_machine.proofs.runs.EveryRun.{run_agrees}
use Rattle.vbr_machine.proofs.chronicles.Slots.{late_born}
use Rattle.vbr_machine.proofs.chronicles.SoundAfter.{sound_kept}
use Rattle.vbr_machine.proofs.progress.ListedNodes.{count_falls, count_same}
use Rattle.vbr_machine.proofs.progress.MetNodes.{count_taken}
use Rattle.vbr_machine.proofs.words.Puts.{put_here, put_other}

-- whether an event retires an incarnation
abbrev pub is_retirement : Happening → Bool
is_retirement (Stamps c stamp) = true
is_retirement _ = false

-- ---- counts

-- how many incarnations are removed and not retired
abbrev pub unretired_births : Incarnations → ℕ
unretired_births a = count_below (λ c. is_unretired (a.state c)) a.count

-- one that is isn't done with before a later birth in its slot
not_passed : (st : State) (birth : ℕ) → is_unretired st ≡ true → IsPassed st birth → ⊥
not_passed Unborn b e p = p
not_passed (InHand q) b e p = p
not_passed GivenUp b e p = false≢true e
not_passed Linked b e p = p
not_passed Marked b e p = p
not_passed (Unlinked q u) b e p = p
not_passed (Stamped u r) b e p = false≢true e

module _ {start : Start} {a : Incarnations} (sound : Sound start a) where
  unretired_born : (c : ℕ) → is_unretired (a.state c) ≡ true → c < a.count
  unretired_born c e = go (cases_lt c a.count)
    where
      go : (c < a.count) ⊎ (a.count ≤ c) → c < a.count
      go (inl low) = low
      go (inr high) = absurd (false≢true (ap is_unretired (sym (sound.slots.unborn c high)) ∙ e))

  -- it is the last of its slot
  unretired_last : (c : ℕ) → is_unretired (a.state c) ≡ true → a.last (a.slot c) ≡ Some c
  unretired_last c e = go (sound.slots.has_last c (unretired_born c e))
    where
      go : ((l : ℕ) × (a.last (a.slot c) ≡ Some l) × (c ≤ l)) → a.last (a.slot c) ≡ Some c
      go (l, is, le) = by (cases_order c l)
        where
          born : (l < a.count) × (a.slot l ≡ a.slot c)
          born = sound.slots.last_born (a.slot c) l is

          by : (c ≡ l) ⊎ ((c < l) ⊎ (l < c)) → a.last (a.slot c) ≡ Some c
          by (inl same) = is ∙ ap Some (sym same)
          by (inr (inl less)) =
              absurd (not_passed (a.state c) (a.birth l) e (sound.slots.passed c l less born.0 (sym born.1)))
          by (inr (inr more)) = absurd (omega arith)

-- the last incarnation of a slot is this one, and it is removed and not retired
record IsUnretiredIn (a : Incarnations) (s c : ℕ) : Type 0 where
  last : a.last s ≡ Some c
  unretired : is_unretired (a.state c) ≡ true

unretired_in : (a : Incarnations) (s : ℕ) → is_unretired (state_in a s) ≡ true → (c : ℕ) × IsUnretiredIn a s c
unretired_in a s e = go (a.last s) refl e
  where
    go : (last : Option ℕ) → a.last s ≡ last → is_unretired (state_shown a last) ≡ true → (c : ℕ) × IsUnretiredIn a s c
    go None is e = absurd (false≢true e)
    go (Some c) is e = (c, record { last = is; unretired = e })

-- the incarnation that a slot had last, 0 for none
abbrev born_last : Option ℕ → ℕ
born_last None = 0
born_last (Some c) = c

module _ {start : Start} {a : Incarnations} (sound : Sound start a) (fits : Fits start a) where
  abbrev births : ℕ → Bool
  births c = is_unretired (a.state c)

  abbrev slots : ℕ → Bool
  slots s = is_unretired (state_in a s)

  no_more : unretired_births a ≤ count_below slots start.shape.slots
  no_more = count_taken births slots a.slot a.count start.shape.slots
      (λ c l e. (fits.slot c l, ap (λ o. is_unretired (state_shown a o)) (unretired_last sound c e) ∙ e)) one
    where
      one : (c d : ℕ) → c < a.count → d < a.count → births c ≡ true → births d ≡ true → a.slot c ≡ a.slot d → c ≡ d
      one c d l k e f q =
          let z : Some c ≡ Some d = sym (unretired_last sound c e) ∙ ap a.last q ∙ unretired_last sound d f in cc

  no_fewer : count_below slots start.shape.slots ≤ unretired_births a
  no_fewer = count_taken slots births (λ s. born_last (a.last s)) start.shape.slots a.count into one
    where
      into : (s : ℕ) → s < start.shape.slots → slots s ≡ true →
          (born_last (a.last s) < a.count) × (births (born_last (a.last s)) ≡ true)
      into s l e =
          let node = unretired_in a s e in
          let P : Option ℕ → Type 0 = λ o. (born_last o < a.count) × (births (born_last o) ≡ true) in
          subst P (sym node.1.last) ((sound.slots.last_born s node.0 node.1.last).0, node.1.unretired)

      one : (s t : ℕ) → s < start.shape.slots → t < start.shape.slots → slots s ≡ true → slots t ≡ true →
          born_last (a.last s) ≡ born_last (a.last t) → s ≡ t
      one s t l k e f q =
          let here = unretired_in a s e in
          let there = unretired_in a t f in
          let same : here.0 ≡ there.0 = sym (ap born_last here.1.last) ∙ q ∙ ap born_last there.1.last in
          sym (sound.slots.last_born s here.0 here.1.last).1 ∙ ap a.slot same
          ∙ (sound.slots.last_born t there.0 there.1.last).1

  as_many : unretired_births a ≡ count_below slots start.shape.slots
  as_many = let x = no_more in let y = no_fewer in omega (arith, x, y)

-- a law: after a run they are as many as the slots whose last incarnation is one
pub unretired_once : (start : Start) (passes : ℕ) (run : List Event) → IsStart start → IsRun start passes run →
    unretired_births (incarnations_after start run) ≡ unretired_after start run
unretired_once start passes run is ok = let good = run_agrees start passes run is ok in as_many good.sound good.fits

-- ---- one event

-- where a state is set that is unretired as the one before was
same_put : (state : ℕ → State) (c : ℕ) (st : State) (n : ℕ) → is_unretired st ≡ is_unretired (state c) →
    count_below (λ d. is_unretired (put state c st d)) n ≡ count_below (λ d. is_unretired (state d)) n
same_put state c st n e =
    count_same (λ d. is_unretired (put state c st d)) (λ d. is_unretired (state d)) n (λ d l. go d (cases_eq d c))
  where
    go : (d : ℕ) → (d ≡ c) ⊎ (d ≢ c) → is_unretired (put state c st d) ≡ is_unretired (state d)
    go d (inl is) = ap (λ i. is_unretired (put state c st i)) is ∙ ap is_unretired (put_here state c st) ∙ e
        ∙ ap (λ i. is_unretired (state i)) (sym is)
    go d (inr ne) = ap is_unretired (put_other state c st d ne)

-- where one is that wasn't
one_more : (state : ℕ → State) (c : ℕ) (st : State) (n : ℕ) → c < n → is_unretired st ≡ true →
    is_unretired (state c) ≡ false →
    count_below (λ d. is_unretired (put state c st d)) n ≡ suc (count_below (λ d. is_unretired (state d)) n)
one_more state c st n low here was =
    count_falls (λ d. is_unretired (put state c st d)) (λ d. is_unretired (state d)) n c low
    (ap is_unretired (put_here state c st) ∙ here) was (λ d l ne. ap is_unretired (put_other state c st d ne))

-- where one no longer is
one_fewer : (state : ℕ → State) (c : ℕ) (st : State) (n : ℕ) → c < n → is_unretired st ≡ false →
    is_unretired (state c) ≡ true →
    count_below (λ d. is_unretired (state d)) n ≡ suc (count_below (λ d. is_unretired (put state c st d)) n)
one_fewer state c st n low here was =
    count_falls (λ d. is_unretired (state d)) (λ d. is_unretired (put state c st d)) n c low was
    (ap is_unretired (put_here state c st) ∙ here) (λ d l ne. ap is_unretired (sym (put_other state c st d ne)))

-- one birth more
next_put : (state : ℕ → State) (st : State) (n m : ℕ) → m ≡ suc n → is_unretired st ≡ false →
    count_below (λ d. is_unretired (put state n st d)) m ≡ count_below (λ d. is_unretired (state d)) n
next_put state st n m e not_it =
    ap (count_below (λ d. is_unretired (put state n st d))) e
    ∙ last (is_unretired (put state n st n)) (count_below (λ d. is_unretired (put state n st d)) n)
    (ap is_unretired (put_here state n st) ∙ not_it)
    ∙ count_same (λ d. is_unretired (put state n st d)) (λ d. is_unretired (state d)) n
    (λ d l. ap is_unretired (put_other state n st d (λ (q : d ≡ n). omega (arith, q, l))))
  where
    last : (b : Bool) (k : ℕ) → b ≡ false → cond b (suc k) k ≡ k
    last true k e = absurd (false≢true (sym e))
    last false k e = refl

was_unretired : (st : State) (pass stamp epoch : ℕ) → MayStamp st pass stamp epoch → is_unretired st ≡ true
was_unretired (Unlinked p u) pass stamp epoch m = refl
was_unretired Unborn pass stamp epoch m = absurd m
was_unretired (InHand p) pass stamp epoch m = absurd m
was_unretired GivenUp pass stamp epoch m = absurd m
was_unretired Linked pass stamp epoch m = absurd m
was_unretired Marked pass stamp epoch m = absurd m
was_unretired (Stamped u r) pass stamp epoch m = absurd m

replaced_more : {start : Start} {a : Incarnations} → Sound start a → (pass old c : ℕ) →
    MayTakePlace start a pass old c →
    count_below (λ d. is_unretired (put (put a.state old Marked) c Linked d)) a.count ≡ suc (unretired_births a)
replaced_more {start} {a} s pass old c h =
    let apart : c ≢ old =
    λ q. (let x : InHand pass ≡ Linked = sym h.in_hand ∙ ap a.state q ∙ h.linked in absurd (cc)) in
    same_put (put a.state old Marked) c Linked a.count
    (sym (ap is_unretired (put_other a.state old Marked c apart ∙ h.in_hand)))
    ∙ one_more a.state old Marked a.count (late_born s.slots old 0 (rw h.linked tt)) refl (ap is_unretired h.linked)

-- a retirement makes one fewer, and a removal one more
abbrev Follows : Start → Incarnations → ℕ → Happening → Type 0
Follows start a pass what =
    one_if (is_retirement what) + unretired_births (becomes start a pass what)
    ≡ one_if (is_removal what) + unretired_births a

follows : (start : Start) (keys : Keys) (a : Incarnations) (pass : ℕ) (what : Happening) → Sound start a →
    Allowed start keys a pass what → Follows start a pass what
follows start keys a pass Advances s h = refl
follows start keys a pass (Gains v) s h = refl
follows start keys a pass (Probes v) s h = refl
follows start keys a pass (Raises v) s h = refl
follows start keys a pass (Keyed c key) s h = refl
follows start keys a pass (Valued c value) s h = refl
follows start keys a pass (Aims c link) s h = refl
follows start keys a pass (Confirms call) s h = refl
follows start keys a pass (GivesUp c) s h =
    ap (λ n. 0 + n) (same_put a.state c GivenUp a.count (sym (ap is_unretired h)))
follows start keys a pass (Stamps c stamp) s h =
    let was = was_unretired (a.state c) pass stamp a.epoch h in
    let m = one_fewer a.state c (Stamped (unlinked_at (a.state c)) stamp) a.count (unretired_born s c was) refl was in
    omega (arith, m)
follows start keys a pass (Bears v birth) s h =
    ap (λ n. 0 + n) (next_put a.state (InHand pass) a.count (a.count + 1) (omega arith) refl)
follows start keys a pass (Inserts c behind) s h =
    ap (λ n. 0 + n) (same_put a.state c Linked a.count (sym (ap is_unretired h.in_hand)))
follows start keys a pass (Removes c) s h =
    let m = one_more a.state c Marked a.count (late_born s.slots c 0 (rw h tt)) refl (ap is_unretired h) in
    omega (arith, m)
follows start keys a pass (Replaces old c) s h = let m = replaced_more s pass old c h in omega (arith, m)
follows start keys a pass (Unlinks c behind) s h =
    ap (λ n. 0 + n) (same_put a.state c (Unlinked pass a.epoch) a.count (sym (ap is_unretired h.0)))

-- ---- events in a row

-- a law of chronicles
pub all_follow : (start : Start) (keys : Keys) (a : Incarnations) (entries : List Entry) → Sound start a →
    IsLawful start keys a entries →
    how_many is_retirement entries + unretired_births (incarnations_from start a entries)
    ≡ how_many is_removal entries + unretired_births a
all_follow start keys a [] s l = refl
all_follow start keys a (entry ∷ entries) s l =
    let rest = all_follow start keys (becomes start a entry.pass entry.what) entries
    (sound_kept start keys a entry.pass entry.what s l.0) l.1 in
    let one = follows start keys a entry.pass entry.what s l.0 in
    omega (arith, rest, one)

-- ---- removals are calls

updates-append : (xs ys : List Call) → updates (xs ++ ys) ≡ updates xs + updates ys
updates-append [] ys = omega arith
updates-append (x ∷ xs) ys = let r = updates-append xs ys in omega (arith, r)

removal_is_call : (start : Start) (a : Incarnations) (pass : ℕ) (what : Happening) →
    one_if (is_removal what) + updates a.calls ≤ updates (becomes start a pass what).calls
removal_is_call start a pass Advances = omega arith
removal_is_call start a pass (Gains v) = omega arith
removal_is_call start a pass (Probes v) = omega arith
removal_is_call start a pass (Raises v) = omega arith
removal_is_call start a pass (GivesUp c) = omega arith
removal_is_call start a pass (Bears v birth) = omega arith
removal_is_call start a pass (Keyed c key) = omega arith
removal_is_call start a pass (Valued c value) = omega arith
removal_is_call start a pass (Aims c link) = omega arith
removal_is_call start a pass (Unlinks c behind) = omega arith
removal_is_call start a pass (Stamps c stamp) = omega arith
removal_is_call start a pass (Confirms call) = let u = updates-append a.calls (call ∷ []) in omega (arith, u)
removal_is_call start a pass (Inserts c behind) =
    let u = updates-append a.calls (calls_made start a pass (Inserts c behind)) in omega (arith, u)
removal_is_call start a pass (Removes c) =
    let u = updates-append a.calls (calls_made start a pass (Removes c)) in omega (arith, u)
removal_is_call start a pass (Replaces old c) =
    let u = updates-append a.calls (calls_made start a pass (Replaces old c)) in omega (arith, u)

-- a law of chronicles: there are no more removals than updates that are answered yes
pub removals_are_calls : (start : Start) (a : Incarnations) (entries : List Entry) →
    how_many is_removal entries + updates a.calls ≤ updates (incarnations_from start a entries).calls
removals_are_calls start a [] = omega arith
removals_are_calls start a (entry ∷ entries) =
    let rest = removals_are_calls start (becomes start a entry.pass entry.what) entries in
    let one = removal_is_call start a entry.pass entry.what in
    omega (arith, rest, one)

-- and none that isn't a remove answered yes
pub removes-append : (xs ys : List Call) → removes (xs ++ ys) ≡ removes xs + removes ys
removes-append [] ys = omega arith
removes-append (x ∷ xs) ys = let r = removes-append xs ys in omega (arith, r)

removal_is_remove : (start : Start) (a : Incarnations) (pass : ℕ) (what : Happening) →
    one_if (is_removal what) + removes a.calls ≤ removes (becomes start a pass what).calls
removal_is_remove start a pass Advances = omega arith
removal_is_remove start a pass (Gains v) = omega arith
removal_is_remove start a pass (Probes v) = omega arith
removal_is_remove start a pass (Raises v) = omega arith
removal_is_remove start a pass (GivesUp c) = omega arith
removal_is_remove start a pass (Bears v birth) = omega arith
removal_is_remove start a pass (Keyed c key) = omega arith
removal_is_remove start a pass (Valued c value) = omega arith
removal_is_remove start a pass (Aims c link) = omega arith
removal_is_remove start a pass (Unlinks c behind) = omega arith
removal_is_remove start a pass (Stamps c stamp) = omega arith
removal_is_remove start a pass (Confirms call) =
    let u = removes-append a.calls (call ∷ []) in omega (arith, u)
removal_is_remove start a pass (Inserts c behind) =
    let u = removes-append a.calls (calls_made start a pass (Inserts c behind)) in omega (arith, u)
removal_is_remove start a pass (Removes c) =
    let u = removes-append a.calls (calls_made start a pass (Removes c)) in omega (arith, u)
removal_is_remove start a pass (Replaces old c) =
    let u = removes-append a.calls (calls_made start a pass (Replaces old c)) in omega (arith, u)

-- a law of chronicles: there are no more removals than removes that are answered yes
pub removals_are_removes : (start : Start) (a : Incarnations) (entries : List Entry) →
    how_many is_removal entries + removes a.calls ≤ removes (incarnations_from start a entries).calls
removals_are_removes start a [] = omega arith
removals_are_removes start a (entry ∷ entries) =
    let rest = removals_are_removes start (becomes start a entry.pass entry.what) entries in
    let one = removal_is_remove start a entry.pass entry.what in
    omega (arith, rest, one)

-- ---- counts in a row

pub how_many-append : (test : Happening → Bool) (xs ys : List Entry) →
    how_many test (xs ++ ys) ≡ how_many test xs + how_many test ys
how_many-append test [] ys = omega arith
how_many-append test (x ∷ xs) ys = let r = how_many-append test xs ys in omega (arith, r)
