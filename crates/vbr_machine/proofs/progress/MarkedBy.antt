-- The marked nodes are those that each pass marked, and a pass marks one with each of its removes alone.
use Rattle.std.proofs.Common.{◌≡◌, ◌≢◌, ℕ, zero, suc, ◌+◌, ◌<◌, ◌≤◌, Bool, true, false, cond, List, [], ◌∷◌, ◌++◌}
use Rattle.std.proofs.Common.{refl, sym, ap, ◌∙◌, subst, inl, inr, eq-eqb, arith}
use Rattle.std.specs.Prelude.{◌==◌, ◌&&◌, ◌||◌, ◌⊎◌, if◌then◌else◌}
use Rattle.std.specs.List.{AllByRecursion, Contains}
use Rattle.std.proofs.lemmas.Bool.{cases_Bool, cases_eq, false≢true, ne_eqb}
use Rattle.std.proofs.lemmas.List.{append_cancel_left}
use Rattle.vbr_machine.specs.Start.{Start, IsStart}
use Rattle.vbr_machine.specs.Keys.{Keys}
use Rattle.vbr_machine.specs.Opened.{has_opening_key, opening_keys}
use Rattle.vbr_machine.specs.Put.{put}
use Rattle.vbr_machine.specs.Calls.{own_calls}
use Rattle.vbr_machine.specs.History.{calls_by}
use Rattle.vbr_machine.specs.Machine.{World, after, opening}
use Rattle.vbr_machine.specs.Runs.{AreAccepted, Begins, IsRun}
use Rattle.vbr_machine.specs.Accounts.{chronicle, chronicle_from, happens, incarnations_after, incarnations_with}
use Rattle.vbr_machine.specs.Accounts.{own_entries}
use Rattle.vbr_machine.specs.Chronicles.{Happening, Advances, Gains, Probes, Raises, GivesUp, Bears, Keyed, Valued}
use Rattle.vbr_machine.specs.Chronicles.{Aims, Inserts, Removes, Replaces, Unlinks, Stamps, Confirms, Entry, becomes}
use Rattle.vbr_machine.specs.Chronicles.{calls_made, entries_by, Allowed, incarnations_from, IsLawful, unlinked_at}
use Rattle.vbr_machine.specs.Disturbances.{how_many, is_removal, one_if}
use Rattle.vbr_machine.specs.Incarnations.{State, Unborn, InHand, GivenUp, Linked, Marked, Unlinked, Stamped}
use Rattle.vbr_machine.specs.Incarnations.{Incarnations, at_opening, opening_state}
use Rattle.vbr_machine.specs.MarkedBy.{HasOneLeft, leaves_marked, left_marked, marked_by}
use Rattle.vbr_machine.specs.Nodes.{count_below, is_marked, marked_after}
use Rattle.vbr_machine.specs.Removals.{HasLeft}
use Rattle.vbr_machine.specs.Sound.{IsRemoved, Sound}
use Rattle.vbr_machine.specs.Unretired.{removes}
use Rattle.vbr_machine.specs.Whereabouts.{sum_of}
use Rattle.vbr_machine.specs.declared.event.Event.{Event}
use Rattle.vbr_machine.specs.declared.history.Call.{Call}
use Rattle.vbr_machine.proofs.chronicles.Growth.{grows_after}
use Rattle.vbr_machine.proofs.chronicles.SoundAfter.{sound_at_first, sound_kept}
use Rattle.vbr_machine.proofs.moments.Removals.{left_after, removed_left}
use Rattle.vbr_machine.proofs.progress.ListedNodes.{count_same}
use Rattle.vbr_machine.proofs.progress.MarkedNodes.{marked_once}
use Rattle.vbr_machine.proofs.progress.Retirements.{removes-append}
use Rattle.vbr_machine.proofs.progress.Since.{Since, own_since, since}
use Rattle.vbr_machine.proofs.reads.FoundReads.{first_or_later, none_in}
use Rattle.vbr_machine.proofs.runs.EveryRun.{run_agrees, run_lawful}
use Rattle.vbr_machine.proofs.runs.OwnEntries.{AreBy, happens_by}
use Rattle.vbr_machine.proofs.runs.RunsGoOn.{calls_by-append}
use Rattle.vbr_machine.proofs.whereabouts.OutsidePool.{count_none}
use Rattle.vbr_machine.proofs.whereabouts.UnretiredSlots.{count_one, in_sum, sum_on}
use Rattle.vbr_machine.proofs.words.Puts.{put_here, put_other}

-- ---- each marked node was marked by an event

-- whether an event marks this node
abbrev marks : Happening → ℕ → Bool
marks (Removes d) c = d == c
marks (Replaces old d) c = old == c
marks _ c = false

abbrev any_marks : List Entry → ℕ → Bool
any_marks [] c = false
any_marks (entry ∷ entries) c = marks entry.what c || any_marks entries c

-- where another state than that was set, it was there before
put_marked : (state : ℕ → State) (d : ℕ) (st : State) (c : ℕ) → is_marked st ≡ false →
    is_marked (put state d st c) ≡ true → is_marked (state c) ≡ true
put_marked state d st c not_it e = go (cases_eq c d)
  where
    go : (c ≡ d) ⊎ (c ≢ d) → is_marked (state c) ≡ true
    go (inl is) = absurd (false≢true
        (sym not_it ∙ ap is_marked (sym (put_here state d st)) ∙ ap (λ k. is_marked (put state d st k)) (sym is) ∙ e))
    go (inr ne) = ap is_marked (sym (put_other state d st c ne)) ∙ e

-- and where that was set, it was there before, or it is the one
put_marks : (state : ℕ → State) (d c : ℕ) → is_marked (put state d Marked c) ≡ true →
    (is_marked (state c) ≡ true) ⊎ ((d == c) ≡ true)
put_marks state d c e = go (cases_eq c d)
  where
    go : (c ≡ d) ⊎ (c ≢ d) → (is_marked (state c) ≡ true) ⊎ ((d == c) ≡ true)
    go (inl is) = inr (eq-eqb d c (sym is))
    go (inr ne) = inl (ap is_marked (sym (put_other state d Marked c ne)) ∙ e)

-- a node that is marked was so before, or the event marks it
one_marks : (start : Start) (a : Incarnations) (pass : ℕ) (what : Happening) (c : ℕ) →
    is_marked ((becomes start a pass what).state c) ≡ true → (is_marked (a.state c) ≡ true) ⊎ (marks what c ≡ true)
one_marks start a pass Advances c e = inl e
one_marks start a pass (Gains v) c e = inl e
one_marks start a pass (Probes v) c e = inl e
one_marks start a pass (Raises v) c e = inl e
one_marks start a pass (Keyed d key) c e = inl e
one_marks start a pass (Valued d value) c e = inl e
one_marks start a pass (Aims d link) c e = inl e
one_marks start a pass (Confirms call) c e = inl e
one_marks start a pass (GivesUp d) c e = inl (put_marked a.state d GivenUp c refl e)
one_marks start a pass (Bears v birth) c e = inl (put_marked a.state a.count (InHand pass) c refl e)
one_marks start a pass (Inserts d behind) c e = inl (put_marked a.state d Linked c refl e)
one_marks start a pass (Unlinks d behind) c e = inl (put_marked a.state d (Unlinked pass a.epoch) c refl e)
one_marks start a pass (Stamps d stamp) c e =
    inl (put_marked a.state d (Stamped (unlinked_at (a.state d)) stamp) c refl e)
one_marks start a pass (Removes d) c e = put_marks a.state d c e
one_marks start a pass (Replaces old d) c e =
    put_marks a.state old c (put_marked (put a.state old Marked) d Linked c refl e)

or_left : (x y : Bool) → x ≡ true → (x || y) ≡ true
or_left x y e = grind arith

or_right : (x y : Bool) → y ≡ true → (x || y) ≡ true
or_right x y e = grind arith

-- so it is of events in a row
all_marks : (start : Start) (a : Incarnations) (entries : List Entry) (c : ℕ) →
    is_marked ((incarnations_from start a entries).state c) ≡ true →
    (is_marked (a.state c) ≡ true) ⊎ (any_marks entries c ≡ true)
all_marks start a [] c e = inl e
all_marks start a (entry ∷ entries) c e = go (all_marks start (becomes start a entry.pass entry.what) entries c e)
  where
    first : (is_marked (a.state c) ≡ true) ⊎ (marks entry.what c ≡ true) →
        (is_marked (a.state c) ≡ true) ⊎ (any_marks (entry ∷ entries) c ≡ true)
    first (inl before) = inl before
    first (inr here) = inr (or_left (marks entry.what c) (any_marks entries c) here)

    go : (is_marked ((becomes start a entry.pass entry.what).state c) ≡ true) ⊎ (any_marks entries c ≡ true) →
        (is_marked (a.state c) ≡ true) ⊎ (any_marks (entry ∷ entries) c ≡ true)
    go (inl before) = first (one_marks start a entry.pass entry.what c before)
    go (inr later) = inr (or_right (marks entry.what c) (any_marks entries c) later)

none_at_opening : (start : Start) (c : ℕ) → is_marked (opening_state start c) ≡ false
none_at_opening start c = go (has_opening_key start c)
  where
    go : (b : Bool) → is_marked (if b then Linked else Unborn) ≡ false
    go true = refl
    go false = refl

-- ---- counts

one_of_two : (m x y : Bool) → one_if (m && (x || y)) ≤ one_if (m && x) + one_if (m && y)
one_of_two true true y = omega arith
one_of_two true false y = omega arith
one_of_two false x y = omega arith

count_either : (m x y : ℕ → Bool) (n : ℕ) →
    count_below (λ c. m c && (x c || y c)) n ≤ count_below (λ c. m c && x c) n + count_below (λ c. m c && y c) n
count_either m x y zero = omega arith
count_either m x y (suc n) =
    let before = count_either m x y n in
    let now = one_of_two (m n) (x n) (y n) in
    let a = count_one (λ c. m c && (x c || y c)) n in
    let b = count_one (λ c. m c && x c) n in
    let c = count_one (λ c. m c && y c) n in
    omega (arith, before, now, a, b, c)

and_second : (m x : Bool) → x ≡ false → (m && x) ≡ false
and_second true x e = e
and_second false x e = refl

-- of one number at most one is counted
count_single : (m : ℕ → Bool) (d n : ℕ) → count_below (λ c. m c && (d == c)) n ≤ one_if (m d)
count_single m d zero = omega arith
count_single m d (suc n) = go (count_single m d n) (cases_eq d n)
  where
    sum : count_below (λ c. m c && (d == c)) (suc n) ≡ count_below (λ c. m c && (d == c)) n + one_if (m n && (d == n))
    sum = count_one (λ c. m c && (d == c)) n

    at_most : (x y : Bool) → one_if (x && y) ≤ one_if x
    at_most true true = omega arith
    at_most true false = omega arith
    at_most false y = omega arith

    go : count_below (λ c. m c && (d == c)) n ≤ one_if (m d) → (d ≡ n) ⊎ (d ≢ n) →
        count_below (λ c. m c && (d == c)) (suc n) ≤ one_if (m d)
    go before (inl is) =
        let none = count_none (λ c. m c && (d == c)) n
        (λ c low. and_second (m c) (d == c)
        (ne_eqb d c (λ same. (let k : n ≡ c = sym is ∙ same in omega (arith, k, low))))) in
        let one = at_most (m n) (d == n) in
        let same : one_if (m d) ≡ one_if (m n) = ap (λ k. one_if (m k)) is in
        omega (arith, sum, none, one, same)
    go before (inr ne) =
        let none : one_if (m n && (d == n)) ≡ 0 = ap one_if (and_second (m n) (d == n) (ne_eqb d n ne)) in
        omega (arith, sum, before, none)

no_marks : (a : Incarnations) (n : ℕ) → count_below (λ c. is_marked (a.state c) && false) n ≤ 0
no_marks a n =
    let none = count_none (λ c. is_marked (a.state c) && false) n
    (λ c low. and_second (is_marked (a.state c)) false refl) in
    omega (arith, none)

-- the nodes that these events marked are no more than the events that did
count_marks : (a : Incarnations) (what : Happening) (n : ℕ) →
    count_below (λ c. is_marked (a.state c) && marks what c) n ≤ one_if (leaves_marked a what)
count_marks a (Removes d) n = count_single (λ c. is_marked (a.state c)) d n
count_marks a (Replaces old d) n = count_single (λ c. is_marked (a.state c)) old n
count_marks a Advances n = no_marks a n
count_marks a (Gains v) n = no_marks a n
count_marks a (Probes v) n = no_marks a n
count_marks a (Raises v) n = no_marks a n
count_marks a (GivesUp d) n = no_marks a n
count_marks a (Bears v birth) n = no_marks a n
count_marks a (Keyed d key) n = no_marks a n
count_marks a (Valued d value) n = no_marks a n
count_marks a (Aims d link) n = no_marks a n
count_marks a (Inserts d behind) n = no_marks a n
count_marks a (Unlinks d behind) n = no_marks a n
count_marks a (Stamps d stamp) n = no_marks a n
count_marks a (Confirms call) n = no_marks a n

count_all_marks : (a : Incarnations) (entries : List Entry) (n : ℕ) →
    count_below (λ c. is_marked (a.state c) && any_marks entries c) n ≤ left_marked a entries
count_all_marks a [] n = no_marks a n
count_all_marks a (entry ∷ entries) n =
    let split = count_either (λ c. is_marked (a.state c)) (marks entry.what) (any_marks entries) n in
    let one = count_marks a entry.what n in
    let rest = count_all_marks a entries n in
    omega (arith, split, one, rest)

-- ---- by passes

abbrev AreLow : ℕ → List Entry → Type 0
AreLow passes entries = AllByRecursion (λ (entry : Entry). entry.pass < passes) entries

low_append : (passes : ℕ) (xs ys : List Entry) → AreLow passes xs → AreLow passes ys → AreLow passes (xs ++ ys)
low_append passes [] ys l m = m
low_append passes (x ∷ xs) ys l m = (l.0, low_append passes xs ys l.1 m)

low_by : (passes pass : ℕ) (entries : List Entry) → pass < passes → AreBy pass entries → AreLow passes entries
low_by passes pass [] low by_it = tt
low_by passes pass (x ∷ xs) low by_it =
    (subst (λ (n : ℕ). n < passes) (sym by_it.0) low, low_by passes pass xs low by_it.1)

-- each event of a chronicle is of one of the passes
all_low : (start : Start) (passes : ℕ) (w : World) (a : Incarnations) (events : List Event) →
    AreAccepted start passes w events → AreLow passes (chronicle_from start w a events)
all_low start passes w a [] ok = tt
all_low start passes w a (x ∷ xs) ok =
    low_append passes (happens start w a x.pass x.step)
    (chronicle_from start (after start w x.pass x.step) (incarnations_with start w a x) xs)
    (low_by passes x.pass (happens start w a x.pass x.step) ok.0.0 (happens_by start w a x.pass x.step))
    (all_low start passes (after start w x.pass x.step) (incarnations_with start w a x) xs ok.1)

-- so many of an event's pass, and none of another
abbrev if_by : Incarnations → Entry → ℕ → ℕ
if_by a entry who = cond (entry.pass == who) (one_if (leaves_marked a entry.what)) 0

first_by : (a : Incarnations) (entry : Entry) (entries : List Entry) (who : ℕ) →
    left_marked a (entries_by who (entry ∷ entries)) ≡ if_by a entry who + left_marked a (entries_by who entries)
first_by a entry entries who = go (entry.pass == who)
  where
    go : (b : Bool) → left_marked a (cond b (entry ∷ entries_by who entries) (entries_by who entries))
        ≡ cond b (one_if (leaves_marked a entry.what)) 0 + left_marked a (entries_by who entries)
    go true = refl
    go false = omega arith

-- the events of all passes are all
sum_by_pass : (a : Incarnations) (passes : ℕ) (entries : List Entry) → AreLow passes entries →
    left_marked a entries ≤ sum_of passes (λ who. left_marked a (entries_by who entries))
sum_by_pass a passes [] low = omega arith
sum_by_pass a passes (entry ∷ entries) low =
    let rest = sum_by_pass a passes entries low.1 in
    let all = sum_on passes (if_by a entry) (λ who. left_marked a (entries_by who entries))
    (λ who. left_marked a (entries_by who (entry ∷ entries))) (first_by a entry entries) in
    let its = in_sum passes entry.pass (if_by a entry) low.0 in
    let own : if_by a entry entry.pass ≡ one_if (leaves_marked a entry.what) =
    ap (λ (b : Bool). cond b (one_if (leaves_marked a entry.what)) 0) (eq-eqb entry.pass entry.pass refl) in
    omega (arith, rest, all, its, own)

-- a law: the marked nodes are no more than those that each pass marked
pub marks_added : (start : Start) (passes : ℕ) (run : List Event) → IsStart start → IsRun start passes run →
    marked_after start run ≤ sum_of passes (marked_by start run)
marks_added start passes run is ok =
    let births = marked_once start passes run is ok in
    let each = count_same (λ c. is_marked (a.state c)) (λ c. is_marked (a.state c) && any_marks entries c) a.count
    (λ c low. both (is_marked (a.state c)) (any_marks entries c) (was_marked c)) in
    let marked = count_all_marks a entries a.count in
    let all = sum_by_pass a passes entries (all_low start passes (opening start) (at_opening start) run ok) in
    omega (arith, births, each, marked, all)
  where
    a : Incarnations
    a = incarnations_after start run

    entries : List Entry
    entries = chronicle start run

    was_marked : (c : ℕ) → is_marked (a.state c) ≡ true → any_marks entries c ≡ true
    was_marked c e = go (all_marks start (at_opening start) entries c e)
      where
        go : (is_marked (opening_state start c) ≡ true) ⊎ (any_marks entries c ≡ true) → any_marks entries c ≡ true
        go (inl first) = absurd (false≢true (sym (none_at_opening start c) ∙ first))
        go (inr later) = later

    both : (m x : Bool) → (m ≡ true → x ≡ true) → m ≡ (m && x)
    both true x f = sym (f refl)
    both false x f = refl

-- ---- what a pass marked is marked no more, or was so before

-- the node that an event removed or replaced is removed
abbrev IsDone : Incarnations → Happening → Type 0
IsDone a (Removes c) = IsRemoved (a.state c)
IsDone a (Replaces old c) = IsRemoved (a.state old)
IsDone a _ = Unit {0}

abbrev AreDone : Incarnations → List Entry → Type 0
AreDone a entries = AllByRecursion (λ (entry : Entry). IsDone a entry.what) entries

done_of : (pass : ℕ) (a : Incarnations) (entries : List Entry) → AreDone a entries → AreDone a (entries_by pass entries)
done_of pass a [] d = tt
done_of pass a (x ∷ xs) d = go (x.pass == pass) (done_of pass a xs d.1)
  where
    go : (b : Bool) → AreDone a (entries_by pass xs) → AreDone a (cond b (x ∷ entries_by pass xs) (entries_by pass xs))
    go true rest = (d.0, rest)
    go false rest = rest

-- of a lawful chronicle all are
one_done : (start : Start) (keys : Keys) (a b : Incarnations) (pass : ℕ) (what : Happening) →
    Allowed start keys a pass what →
    ((c : ℕ) → IsRemoved ((becomes start a pass what).state c) → IsRemoved (b.state c)) → IsDone b what
one_done start keys a b pass Advances h on = tt
one_done start keys a b pass (Gains v) h on = tt
one_done start keys a b pass (Probes v) h on = tt
one_done start keys a b pass (Raises v) h on = tt
one_done start keys a b pass (GivesUp d) h on = tt
one_done start keys a b pass (Bears v birth) h on = tt
one_done start keys a b pass (Keyed d key) h on = tt
one_done start keys a b pass (Valued d value) h on = tt
one_done start keys a b pass (Aims d link) h on = tt
one_done start keys a b pass (Inserts d behind) h on = tt
one_done start keys a b pass (Unlinks d behind) h on = tt
one_done start keys a b pass (Stamps d stamp) h on = tt
one_done start keys a b pass (Confirms call) h on = tt
one_done start keys a b pass (Removes d) h on = on d (rw (put_here a.state d Marked) tt)
one_done start keys a b pass (Replaces old d) h on =
    let apart : old ≢ d =
    λ e. (let x : Linked ≡ InHand pass = sym h.linked ∙ ap a.state e ∙ h.in_hand in absurd (cc)) in
    on old (rw (put_other (put a.state old Marked) d Linked old apart, put_here a.state old Marked) tt)

all_done : (start : Start) (keys : Keys) (a : Incarnations) (entries : List Entry) → Sound start a →
    IsLawful start keys a entries → AreDone (incarnations_from start a entries) entries
all_done start keys a [] s l = tt
all_done start keys a (entry ∷ entries) s l =
    let b = becomes start a entry.pass entry.what in
    let sound : Sound start b = sound_kept start keys a entry.pass entry.what s l.0 in (
      one_done start keys a (incarnations_from start b entries) entry.pass entry.what l.0
          (λ c r. ((grows_after start keys b entries sound l.1).removed c r).0),
      all_done start keys b entries sound l.1,
    )

-- marked nodes that are removed first were marked then
abbrev WereMarked : Incarnations → Incarnations → Type 0
WereMarked a b = (c : ℕ) → IsRemoved (a.state c) → is_marked (b.state c) ≡ true → is_marked (a.state c) ≡ true

no_more_if : (x y : Bool) → (y ≡ true → x ≡ true) → one_if y ≤ one_if x
no_more_if x true f = let e : one_if x ≡ 1 = ap one_if (f refl) in omega (arith, e)
no_more_if x false f = omega arith

one_still : (a b : Incarnations) (what : Happening) → WereMarked a b → IsDone a what →
    one_if (leaves_marked b what) ≤ one_if (leaves_marked a what)
one_still a b (Removes d) were is_done = no_more_if (is_marked (a.state d)) (is_marked (b.state d)) (were d is_done)
one_still a b (Replaces old d) were is_done =
    no_more_if (is_marked (a.state old)) (is_marked (b.state old)) (were old is_done)
one_still a b Advances were is_done = omega arith
one_still a b (Gains v) were is_done = omega arith
one_still a b (Probes v) were is_done = omega arith
one_still a b (Raises v) were is_done = omega arith
one_still a b (GivesUp d) were is_done = omega arith
one_still a b (Bears v birth) were is_done = omega arith
one_still a b (Keyed d key) were is_done = omega arith
one_still a b (Valued d value) were is_done = omega arith
one_still a b (Aims d link) were is_done = omega arith
one_still a b (Inserts d behind) were is_done = omega arith
one_still a b (Unlinks d behind) were is_done = omega arith
one_still a b (Stamps d stamp) were is_done = omega arith
one_still a b (Confirms call) were is_done = omega arith

all_still : (a b : Incarnations) (entries : List Entry) → WereMarked a b → AreDone a entries →
    left_marked b entries ≤ left_marked a entries
all_still a b [] were done = omega arith
all_still a b (entry ∷ entries) were done =
    let one = one_still a b entry.what were done.0 in
    let rest = all_still a b entries were done.1 in
    omega (arith, one, rest)

left_marked-append : (a : Incarnations) (xs ys : List Entry) →
    left_marked a (xs ++ ys) ≡ left_marked a xs + left_marked a ys
left_marked-append a [] ys = omega arith
left_marked-append a (x ∷ xs) ys = let r = left_marked-append a xs ys in omega (arith, r)

-- what was removed and isn't marked stays out
were_marked : (start : Start) (a : Incarnations) (entries : List Entry) → Sound start a →
    IsLawful start (opening_keys start) a entries → WereMarked a (incarnations_from start a entries)
were_marked start a entries s l c removed e = go (cases_Bool (is_marked (a.state c)))
  where
    not_left : (st : State) → is_marked st ≡ true → HasLeft st → ⊥
    not_left st m h = grind arith

    not_it : is_marked (a.state c) ≡ false → a.state c ≢ Marked
    not_it n m = false≢true (sym n ∙ ap is_marked m)

    go : (is_marked (a.state c) ≡ true) ⊎ (is_marked (a.state c) ≡ false) → is_marked (a.state c) ≡ true
    go (inl was) = was
    go (inr other) =
        absurd (not_left ((incarnations_from start a entries).state c) e
        (left_after start (opening_keys start) a entries s l c (removed_left (a.state c) removed (not_it other))))

-- ---- a pass marks a node with a remove

most_left : (a : Incarnations) (entries : List Entry) → left_marked a entries ≤ how_many is_removal entries
most_left a [] = omega arith
most_left a (entry ∷ entries) =
    let one = of_kind entry.what in let rest = most_left a entries in omega (arith, one, rest)
  where
    of_kind : (what : Happening) → one_if (leaves_marked a what) ≤ one_if (is_removal what)
    of_kind (Removes d) = no_more_if true (is_marked (a.state d)) (λ e. refl)
    of_kind (Replaces old d) = no_more_if true (is_marked (a.state old)) (λ e. refl)
    of_kind Advances = omega arith
    of_kind (Gains v) = omega arith
    of_kind (Probes v) = omega arith
    of_kind (Raises v) = omega arith
    of_kind (GivesUp d) = omega arith
    of_kind (Bears v birth) = omega arith
    of_kind (Keyed d key) = omega arith
    of_kind (Valued d value) = omega arith
    of_kind (Aims d link) = omega arith
    of_kind (Inserts d behind) = omega arith
    of_kind (Unlinks d behind) = omega arith
    of_kind (Stamps d stamp) = omega arith
    of_kind (Confirms call) = omega arith

-- where one of these events left none marked, there is one fewer
one_left : (a : Incarnations) (entries : List Entry) (entry : Entry) → Contains entries entry →
    leaves_marked a entry.what ≡ false → is_removal entry.what ≡ true →
    left_marked a entries + 1 ≤ how_many is_removal entries
one_left a [] entry among none removal = absurd (none_in entry among)
one_left a (x ∷ xs) entry among none removal =
    go (λ later. one_left a xs entry later none removal) (first_or_later x entry xs among)
  where
    go : (Contains xs entry → left_marked a xs + 1 ≤ how_many is_removal xs) → (x ≡ entry) ⊎ Contains xs entry →
        left_marked a (x ∷ xs) + 1 ≤ how_many is_removal (x ∷ xs)
    go further (inl is) =
        let rest = most_left a xs in
        let l : one_if (leaves_marked a x.what) ≡ 0 =
        ap (λ (e : Entry). one_if (leaves_marked a e.what)) is ∙ ap one_if none in
        let r : one_if (is_removal x.what) ≡ 1 =
        ap (λ (e : Entry). one_if (is_removal e.what)) is ∙ ap one_if removal in
        omega (arith, rest, l, r)
    go further (inr later) =
        let rest = further later in
        let one = most_left a (x ∷ []) in
        omega (arith, rest, one)

added : (who : ℕ) (calls made : List Call) →
    removes (calls_by who (calls ++ made)) ≡ removes (calls_by who calls) + removes (calls_by who made)
added who calls made =
    ap removes (calls_by-append who calls made) ∙ removes-append (calls_by who calls) (calls_by who made)

-- each removal of a pass is a remove of it
own_removal : (start : Start) (a : Incarnations) (who pass : ℕ) (what : Happening) (b : Bool) → (pass == who) ≡ b →
    one_if (b && is_removal what) + removes (calls_by who a.calls)
    ≤ removes (calls_by who (becomes start a pass what).calls)
own_removal start a who pass Advances true e = omega arith
own_removal start a who pass (Gains v) true e = omega arith
own_removal start a who pass (Probes v) true e = omega arith
own_removal start a who pass (Raises v) true e = omega arith
own_removal start a who pass (GivesUp c) true e = omega arith
own_removal start a who pass (Bears v birth) true e = omega arith
own_removal start a who pass (Keyed c key) true e = omega arith
own_removal start a who pass (Valued c value) true e = omega arith
own_removal start a who pass (Aims c link) true e = omega arith
own_removal start a who pass (Unlinks c behind) true e = omega arith
own_removal start a who pass (Stamps c stamp) true e = omega arith
own_removal start a who pass (Confirms call) true e = let u = added who a.calls (call ∷ []) in omega (arith, u)
own_removal start a who pass (Inserts c behind) true e =
    let u = added who a.calls (calls_made start a pass (Inserts c behind)) in omega (arith, u)
own_removal start a who pass (Removes c) true e =
    let u = added who a.calls (calls_made start a pass (Removes c)) in
    let one : removes (calls_by who (calls_made start a pass (Removes c))) ≡ 1 = rw e refl in
    omega (arith, u, one)
own_removal start a who pass (Replaces old c) true e =
    let u = added who a.calls (calls_made start a pass (Replaces old c)) in
    let one : removes (calls_by who (calls_made start a pass (Replaces old c))) ≡ 1 = rw e refl in
    omega (arith, u, one)
own_removal start a who pass (Inserts c behind) false e =
    let u = added who a.calls (calls_made start a pass (Inserts c behind)) in omega (arith, u)
own_removal start a who pass (Removes c) false e =
    let u = added who a.calls (calls_made start a pass (Removes c)) in omega (arith, u)
own_removal start a who pass (Replaces old c) false e =
    let u = added who a.calls (calls_made start a pass (Replaces old c)) in omega (arith, u)
own_removal start a who pass (Confirms call) false e = let u = added who a.calls (call ∷ []) in omega (arith, u)
own_removal start a who pass Advances false e = omega arith
own_removal start a who pass (Gains v) false e = omega arith
own_removal start a who pass (Probes v) false e = omega arith
own_removal start a who pass (Raises v) false e = omega arith
own_removal start a who pass (GivesUp c) false e = omega arith
own_removal start a who pass (Bears v birth) false e = omega arith
own_removal start a who pass (Keyed c key) false e = omega arith
own_removal start a who pass (Valued c value) false e = omega arith
own_removal start a who pass (Aims c link) false e = omega arith
own_removal start a who pass (Unlinks c behind) false e = omega arith
own_removal start a who pass (Stamps c stamp) false e = omega arith

own_removals : (start : Start) (a : Incarnations) (who : ℕ) (entries : List Entry) →
    how_many is_removal (entries_by who entries) + removes (calls_by who a.calls)
    ≤ removes (calls_by who (incarnations_from start a entries).calls)
own_removals start a who [] = omega arith
own_removals start a who (entry ∷ entries) =
    let rest = own_removals start (becomes start a entry.pass entry.what) who entries in
    let one = own_removal start a who entry.pass entry.what (entry.pass == who) refl in
    let split = first (entry.pass == who) in
    omega (arith, rest, one, split)
  where
    first : (b : Bool) → how_many is_removal (cond b (entry ∷ entries_by who entries) (entries_by who entries))
        ≡ one_if (b && is_removal entry.what) + how_many is_removal (entries_by who entries)
    first true = refl
    first false = omega arith

-- ---- between two moments of a run

module _ (start : Start) (passes : ℕ) (first run : List Event) (is : IsStart start) (ok : IsRun start passes run)
    (begins : Begins first run) (ok_first : IsRun start passes first) (who : ℕ) where
  abbrev a : Incarnations
  a = incarnations_after start first

  abbrev b : Incarnations
  b = incarnations_after start run

  x : Since start first run
  x = since start passes first run is ok begins

  -- of the events before
  before : left_marked b (own_entries start first who) ≤ left_marked a (own_entries start first who)
  unfolding x
  before =
      let were : WereMarked a b = (let P : Incarnations → Type 0 = WereMarked a in
      subst P (sym x.makes) (were_marked start a x.entries x.sound x.lawful)) in
      all_still a b (own_entries start first who) were
      (done_of who a (chronicle start first)
      (all_done start (opening_keys start) (at_opening start) (chronicle start first)
      (sound_at_first start is.ascending) (run_lawful start passes first is ok_first)))

  -- of those since
  added_calls : how_many is_removal (entries_by who x.entries) + removes (own_calls start first who)
      ≤ removes (own_calls start run who)
  unfolding x
  added_calls =
      let told = own_removals start a who x.entries in
      let first_told =
      ap (λ (l : List Call). removes (calls_by who l)) (run_agrees start passes first is ok_first).calls in
      let last_told = ap (λ (l : List Call). removes (calls_by who l)) (run_agrees start passes run is ok).calls in
      let makes = ap (λ (i : Incarnations). removes (calls_by who i.calls)) x.makes in
      omega (arith, told, first_told, last_told, makes)

  all_marked : marked_by start run who
      ≡ left_marked b (own_entries start first who) + left_marked b (entries_by who x.entries)
  unfolding x
  all_marked = ap (left_marked b) (own_since x who)
      ∙ left_marked-append b (own_entries start first who) (entries_by who x.entries)

  -- a law: the nodes that a pass marked, and that are in lists, grow no more than its removes answered yes
  pub marks_follow : marked_by start run who + removes (own_calls start first who)
      ≤ marked_by start first who + removes (own_calls start run who)
  marks_follow =
      let since_then = most_left b (entries_by who x.entries) in
      omega (arith, all_marked, before, added_calls, since_then)

  -- a law: and less, where one that it marked or replaced has left
  pub marks_fall : (key : ℕ) → HasOneLeft start first run who key →
      marked_by start run who + 1 + removes (own_calls start first who)
      ≤ marked_by start first who + removes (own_calls start run who)
  unfolding x
  marks_fall key has =
      let fewer = one_gone has in
      omega (arith, all_marked, before, added_calls, fewer)
    where
      not_marked : (st : State) → HasLeft st → is_marked st ≡ false
      not_marked st h = grind arith

      one_gone : HasOneLeft start first run who key →
          left_marked b (entries_by who x.entries) + 1 ≤ how_many is_removal (entries_by who x.entries)
      one_gone (inl m) =
          let same : m.marked.since ≡ entries_by who x.entries =
          append_cancel_left (own_entries start first who) m.marked.since (entries_by who x.entries)
          (sym m.marked.adds ∙ own_since x who) in
          let P : List Entry → Type 0 = λ l. Contains l (record { pass = who; what = Removes m.node }) in
          one_left b (entries_by who x.entries) (record { pass = who; what = Removes m.node })
          (subst P same m.marked.among) (not_marked (b.state m.node) m.left) refl
      one_gone (inr r) =
          let same : r.replaced.since ≡ entries_by who x.entries =
          append_cancel_left (own_entries start first who) r.replaced.since (entries_by who x.entries)
          (sym r.replaced.adds ∙ own_since x who) in
          let P : List Entry → Type 0 = λ l. Contains l (record { pass = who; what = Replaces r.node r.replaced.by }) in
          one_left b (entries_by who x.entries) (record { pass = who; what = Replaces r.node r.replaced.by })
          (subst P same r.replaced.among) (not_marked (b.state r.node) r.left) refl
