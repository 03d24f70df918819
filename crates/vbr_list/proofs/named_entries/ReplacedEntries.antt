-- The node that a pass replaces was an entry right before.
use Rattle.vbr_list.proofs.Names.{◌≡◌, ℕ, zero, suc, ◌<◌, ◌≤◌, Bool, true, false, cond, List, [], ◌∷◌, ◌++◌, Option}
use Rattle.vbr_list.proofs.Names.{Some, None, refl, sym, ap, ◌∙◌, subst, inl, inr, ⊎_elim, arith, append-nil}
use Rattle.vbr_list.proofs.Names.{append_assoc, eq-eqb, eqb-true, ◌==◌, ◌⊎◌, Contains, AllByRecursion, cases_Bool}
use Rattle.vbr_list.proofs.Names.{cases_order, append_cancel_left, Contains-append_cases, filter-append, Advance}
use Rattle.vbr_list.proofs.Names.{after_giving_up, Bears, Begins, begins_refl, begins_run, begins_trans, birth_held}
use Rattle.vbr_list.proofs.Names.{BirthOf, Call, call_of, chronicle, ConfirmAbsent, ConfirmPresent, entries_by}
use Rattle.vbr_list.proofs.Names.{entry_of_call, Event, FitsNotes, found, Free, Happening, happens, has_flag}
use Rattle.vbr_list.proofs.Names.{HasReplaced, held_key, Holding, Incarnations, incarnations_after, InHand}
use Rattle.vbr_list.proofs.Names.{is_run_last, IsGood, IsHeldIncarnation, IsInserted, IsLate, IsLawful, IsOfHeldOne}
use Rattle.vbr_list.proofs.Names.{IsPassed, IsRun, IsSame, IsStart, KeyOf, Know, know_after, Knows, knows, last_in}
use Rattle.vbr_list.proofs.Names.{Linked, LoadBirth, LoadKey, LoadLink, LoadStamp, LoadValue, Mark, Note, Notes}
use Rattle.vbr_list.proofs.Names.{notes_after, opening_keys, others_leave_entries, own_entries, own_entries-snoc}
use Rattle.vbr_list.proofs.Names.{PeekBirth, Publish, Quiet, Raise, Raises, Read, ReadEpoch, reads_of, Replace}
use Rattle.vbr_list.proofs.Names.{ReplacedAt, ReplacedEntry, Replaces, run_agrees, Since, since, SlotsSound, Start}
use Rattle.vbr_list.proofs.Names.{State, Step, step_agrees, StoreBirth, StoreKey, StoreLink, StoreStamp, StoreValue}
use Rattle.vbr_list.proofs.Names.{TakeFlag, TimesFit, Trace, Unlink, Unlinked, ValueOf, World, world_after}
use Rattle.vbr_machine.specs.Chronicles.{Entry}

-- ---- lists of events

none_in : {A : Type 0} (x : A) → Contains [] x → ⊥
none_in x among = let low = among.1 in omega (arith, low)

first_or_later : {A : Type 0} (x y : A) (xs : List A) → Contains (x ∷ xs) y → (x ≡ y) ⊎ Contains xs y
first_or_later x y xs (zero, low, is) = inl is
first_or_later x y xs (suc k, low, is) = inr (k, omega arith, is)

-- what a pass did since a beginning of a run
own_since : {start : Start} {first run : List Event} (x : Since start first run) (who : ℕ) →
    own_entries start run who ≡ own_entries start first who ++ entries_by who x.entries
own_since {start} {first} x who =
    ap (entries_by who) x.adds ∙ filter-append (λ (entry : Entry). entry.pass == who) (chronicle start first) x.entries

-- ---- the event by which it is replaced

record HasEvent (start : Start) (before run : List Event) (who node : ℕ) : Type 0 where
  moment : List Event
  event : Event
  from : Begins before moment
  to : Begins (moment ++ event ∷ []) run
  replaced : HasReplaced start moment (moment ++ event ∷ []) who node

has_event : (start : Start) (passes : ℕ) → IsStart start → (before rest run : List Event) (who node : ℕ) →
    run ≡ before ++ rest → IsRun start passes run → HasReplaced start before run who node →
    HasEvent start before run who node
has_event start passes is before [] run who node all ok x =
    let own = own_entries start before who in
    let same : own_entries start run who ≡ own = ap (λ r. own_entries start r who) (all ∙ append-nil before) in
    let none : x.since ≡ [] = append_cancel_left own x.since [] (sym x.adds ∙ same ∙ sym (append-nil own)) in
    let told : Entry = record { pass = who; what = Replaces node x.by } in
    let P : List Entry → Type 0 = λ l. Contains l told in
    absurd (none_in told (subst P none x.among))
has_event start passes is before (event ∷ rest) run who node all ok x =
    let own = own_entries start before who in
    let mid = before ++ event ∷ [] in
    let on : run ≡ mid ++ rest = all ∙ sym (append_assoc before (event ∷ []) rest) in
    let first = since start passes before mid is (begins_run start passes mid run (rest, on) ok) (event ∷ [], refl) in
    let later = since start passes mid run is ok (rest, on) in
    let xs = entries_by who first.entries in
    let ys = entries_by who later.entries in
    let sum : own_entries start run who ≡ own ++ (xs ++ ys) =
    own_since later who ∙ ap (λ (l : List Entry). l ++ ys) (own_since first who) ∙ append_assoc own xs ys in
    let parts : x.since ≡ xs ++ ys = append_cancel_left own x.since (xs ++ ys) (sym x.adds ∙ sum) in
    let told : Entry = record { pass = who; what = Replaces node x.by } in
    let P : List Entry → Type 0 = λ l. Contains l told in
    ⊎_elim
    (λ (here : Contains xs told). record {
      moment = before;
      event = event;
      from = begins_refl before;
      to = (rest, on);
      replaced = record { since = xs; adds = own_since first who; by = x.by; among = here };
    })
    (λ (there : Contains ys told). (
    let y = has_event start passes is mid rest run who node on ok
    (record { since = ys; adds = own_since later who; by = x.by; among = there }) in
    record {
      moment = y.moment;
      event = y.event;
      from = begins_trans before mid y.moment (event ∷ [], refl) y.from;
      to = y.to;
      replaced = y.replaced;
    }))
    (Contains-append_cases xs ys told (subst P parts x.among))

-- ---- what is replaced was linked

abbrev is_replacing : Happening → Bool
is_replacing (Replaces old c) = true
is_replacing _ = false

abbrev old_of : Happening → ℕ
old_of (Replaces old c) = old
old_of _ = 0

-- none of these events is a replacement
abbrev NoneReplaces : List Entry → Type 0
NoneReplaces entries = AllByRecursion (λ (entry : Entry). is_replacing entry.what ≡ false) entries

none_replaces : (who node by : ℕ) (entries : List Entry) → NoneReplaces entries →
    Contains entries (record { pass = who; what = Replaces node by }) → ⊥
none_replaces who node by [] none among = none_in (record { pass = who; what = Replaces node by }) among
none_replaces who node by (x ∷ xs) none among =
    let told : Entry = record { pass = who; what = Replaces node by } in
    ⊎_elim (λ (is : x ≡ told). let z : true ≡ false = sym (ap (λ (e : Entry). is_replacing e.what) is) ∙ none.0 in cc)
    (none_replaces who node by xs none.1) (first_or_later x told xs among)

either : (b : Bool) (xs ys : List Entry) → NoneReplaces xs → NoneReplaces ys → NoneReplaces (cond b xs ys)
either true xs ys g h = g
either false xs ys g h = h

given_up : (a : Incarnations) (p s : ℕ) (what : Happening) (own : Option Holding) → is_replacing what ≡ false →
    NoneReplaces (after_giving_up a p s what own)
given_up a p s what None none = (none, tt)
given_up a p s what (Some (Free stamp)) none = (none, tt)
given_up a p s what (Some (Unlinked seen)) none = (none, tt)
given_up a p s what (Some (InHand known)) none = (refl, (none, tt))

answered : (p : ℕ) (made : Option Call) → NoneReplaces (entry_of_call p made)
answered p None = tt
answered p (Some call) = (refl, tt)

replaces_linked : (start : Start) (w : World) (a : Incarnations) (p who node by : ℕ) (step : Step) →
    IsLawful start (opening_keys start) a (happens start w a p step) →
    Contains (happens start w a p step) (record { pass = who; what = Replaces node by }) → a.state node ≡ Linked
replaces_linked start w a p who node by step = go step
  where
    told : Entry
    told = record { pass = who; what = Replaces node by }

    now : Step → List Entry
    now step = happens start w a p step

    other : (entries : List Entry) → NoneReplaces entries → Contains entries told → a.state node ≡ Linked
    other entries none among = absurd (none_replaces who node by entries none among)

    won : (b : Bool) (old c : ℕ) →
        IsLawful start (opening_keys start) a (cond b ((record { pass = p; what = Replaces old c }) ∷ []) []) →
        Contains (cond b ((record { pass = p; what = Replaces old c }) ∷ []) []) told → a.state node ≡ Linked
    won false old c lawful among = absurd (none_in told among)
    won true old c lawful among =
        let one : Entry = record { pass = p; what = Replaces old c } in
        ⊎_elim (λ (is : one ≡ told). ap a.state (sym (ap (λ (e : Entry). old_of e.what) is)) ∙ lawful.0.linked)
        (λ (later : Contains [] told). absurd (none_in told later)) (first_or_later one told [] among)

    go : (step : Step) → IsLawful start (opening_keys start) a (now step) →
        Contains (now step) told → a.state node ≡ Linked
    go ReadEpoch lawful = other [] tt
    go (Advance from) lawful =
        other (now (Advance from)) (either (found start w (Advance from) == from) _ _ (refl, tt) tt)
    go (LoadStamp s) lawful = other [] tt
    go (PeekBirth s) lawful = other [] tt
    go (StoreStamp s stamp) lawful = other (now (StoreStamp s stamp)) (refl, tt)
    go (Raise s) lawful = other (now (Raise s)) (given_up a p s (Raises s) ((w.know p).own s) refl)
    go (TakeFlag s) lawful =
        other (now (TakeFlag s)) (either (has_flag (found start w (TakeFlag s)) s) _ _ (refl, tt) (refl, tt))
    go (StoreBirth s birth) lawful =
        other (now (StoreBirth s birth)) (given_up a p s (Bears s birth) ((w.know p).own s) refl)
    go (StoreKey s key) lawful = other (now (StoreKey s key)) (refl, tt)
    go (StoreValue s value) lawful = other (now (StoreValue s value)) (refl, tt)
    go (StoreLink s next) lawful = other (now (StoreLink s next)) (refl, tt)
    go (LoadLink place) lawful = other [] tt
    go (LoadBirth s) lawful = other [] tt
    go (LoadKey s) lawful = other [] tt
    go (LoadValue s) lawful = other [] tt
    go (Publish pred expected s) lawful =
        other (now (Publish pred expected s))
        (either (found start w (Publish pred expected s) == expected) _ _ (refl, tt) tt)
    go (Mark s expected) lawful =
        other (now (Mark s expected)) (either (found start w (Mark s expected) == expected) _ _ (refl, tt) tt)
    go (Replace s expected t) lawful =
        won (found start w (Replace s expected t) == expected) (last_in a s) (last_in a t) lawful
    go (Unlink pred expected s) lawful =
        other (now (Unlink pred expected s))
        (either (found start w (Unlink pred expected s) == expected) _ _ (refl, tt) tt)
    go (ConfirmPresent op s expected) lawful =
        other (now (ConfirmPresent op s expected))
        (either (found start w (ConfirmPresent op s expected) == expected) _ _
        (answered p (call_of start p (w.know p) (ConfirmPresent op s expected))) tt)
    go (ConfirmAbsent op key place expected) lawful =
        other (now (ConfirmAbsent op key place expected))
        (either (found start w (ConfirmAbsent op key place expected) == expected) _ _
        (answered p (call_of start p (w.know p) (ConfirmAbsent op key place expected))) tt)

linked_before : (start : Start) (passes : ℕ) → IsStart start → (moment : List Event) (event : Event) (who node : ℕ) →
    IsRun start passes (moment ++ event ∷ []) → HasReplaced start moment (moment ++ event ∷ []) who node →
    (incarnations_after start moment).state node ≡ Linked
linked_before start passes is moment event who node ok x =
    go (cases_Bool (event.pass == who))
  where
    own : List Entry
    own = own_entries start moment who

    told : Entry
    told = record { pass = who; what = Replaces node x.by }

    now : List Entry
    now = happens start (world_after start moment) (incarnations_after start moment) event.pass event.step

    lawful : IsLawful start (opening_keys start) (incarnations_after start moment) now
    lawful =
        (step_agrees start (world_after start moment) (incarnations_after start moment) (notes_after start moment)
        event.pass event.step
        (run_agrees start passes moment is (begins_run start passes moment _ (event ∷ [], refl) ok))
        (is_run_last start passes moment event ok).1).0

    go : ((event.pass == who) ≡ true) ⊎ ((event.pass == who) ≡ false) →
        (incarnations_after start moment).state node ≡ Linked
    go (inl mine) =
        let same : event.pass ≡ who = eqb-true event.pass who mine in
        let P : ℕ → Type 0 = λ w. own_entries start (moment ++ event ∷ []) w ≡ own_entries start moment w ++ now in
        let adds = subst P same (own_entries-snoc start moment event) in
        let all : x.since ≡ now = append_cancel_left own x.since now (sym x.adds ∙ adds) in
        let C : List Entry → Type 0 = λ l. Contains l told in
        replaces_linked start (world_after start moment) (incarnations_after start moment) event.pass who node x.by
        event.step lawful (subst C all x.among)
    go (inr other) =
        let none = others_leave_entries start moment (event ∷ []) who (
          (λ (e : event.pass ≡ who). (
              let t = eq-eqb event.pass who e in let z : true ≡ false = sym t ∙ other in absurd (cc))),
          tt,
        ) in
        let all : x.since ≡ [] = append_cancel_left own x.since [] (sym x.adds ∙ none ∙ sym (append-nil own)) in
        let C : List Entry → Type 0 = λ l. Contains l told in
        absurd (none_in told (subst C all x.among))

-- ---- what is known of the node

late_not_passed : (st : State) (birth epoch other e : ℕ) → IsLate st e → TimesFit st birth epoch → IsPassed st other →
    other ≤ e → ⊥
late_not_passed st birth epoch other e l t p le = grind arith

late_born : {start : Start} {a : Incarnations} → SlotsSound start a → (c e : ℕ) → IsLate (a.state c) e → c < a.count
late_born {start} {a} s c e late = go (cases_order c a.count)
  where
    none : a.count ≤ c → c < a.count
    none le = let u = s.unborn c le in let P : State → Type 0 = λ st. IsLate st e in absurd (subst P u late)

    go : (c ≡ a.count) ⊎ ((c < a.count) ⊎ (a.count < c)) → c < a.count
    go (inl same) = none (omega (arith, same))
    go (inr (inl low)) = low
    go (inr (inr high)) = none (omega (arith, high))

-- one incarnation is held at a slot
same_held : {start : Start} {a : Incarnations} → SlotsSound start a → (e s c d : ℕ) → IsHeldIncarnation a e s c →
    IsHeldIncarnation a e s d → c ≡ d
same_held {start} {a} sound e s c d g h = go (cases_order c d)
  where
    go : (c ≡ d) ⊎ ((c < d) ⊎ (d < c)) → c ≡ d
    go (inl same) = same
    go (inr (inl low)) =
        absurd (late_not_passed (a.state c) (a.birth c) a.epoch (a.birth d) e g.late (sound.times c)
        (sound.passed c d low (late_born sound d e h.late) (g.slot ∙ sym h.slot)) h.birth)
    go (inr (inr low)) =
        absurd (late_not_passed (a.state d) (a.birth d) a.epoch (a.birth c) e h.late (sound.times d)
        (sound.passed d c low (late_born sound c e g.late) (h.slot ∙ sym g.slot)) g.birth)

-- a linked one is the last of its slot
linked_last : {start : Start} {a : Incarnations} → SlotsSound start a → (c : ℕ) → a.state c ≡ Linked →
    a.last (a.slot c) ≡ Some c
linked_last {start} {a} sound c linked = go (sound.has_last c low)
  where
    late : IsLate (a.state c) 0
    late = rw linked tt

    low : c < a.count
    low = late_born sound c 0 late

    go : ((l : ℕ) × (a.last (a.slot c) ≡ Some l) × (c ≤ l)) → a.last (a.slot c) ≡ Some c
    go (l, last, le) = go2 (cases_order c l)
      where
        born : (l < a.count) × (a.slot l ≡ a.slot c)
        born = sound.last_born (a.slot c) l last

        go2 : (c ≡ l) ⊎ ((c < l) ⊎ (l < c)) → a.last (a.slot c) ≡ Some c
        go2 (inl same) = last ∙ ap Some (sym same)
        go2 (inr (inl more)) =
            let P : State → Type 0 = λ st. IsPassed st (a.birth l) in
            absurd (subst P linked (sound.passed c l more born.0 (sym born.1)))
        go2 (inr (inr less)) = absurd (omega arith)

-- a known value of a slot is that of an incarnation that is held there
value_held : {a : Incarnations} {know : Know} {notes : Notes} → FitsNotes a know notes → (s value : ℕ) →
    Knows know (ValueOf s value) → (c : ℕ) × IsHeldIncarnation a know.epoch s c × (a.value c ≡ value)
value_held {a} {know} {notes} fits s value known =
    go notes.checked (rw fits.checked_reads at known.among) fits.checked
  where
    one : (of : Option ℕ) → IsOfHeldOne a know.epoch s a.value value of →
        (c : ℕ) × IsHeldIncarnation a know.epoch s c × (a.value c ≡ value)
    one None h = absurd h
    one (Some c) h = (c, h.0, h.1)

    go : (list : List Note) → Contains (reads_of list) (ValueOf s value) →
        AllByRecursion (IsGood a know.epoch) list →
        (c : ℕ) × IsHeldIncarnation a know.epoch s c × (a.value c ≡ value)
    go [] among good = absurd (none_in (ValueOf s value) among)
    go (note ∷ list) among good =
        let G : Read → Type 0 = λ r. IsGood a know.epoch (record note { read = r }) in
        ⊎_elim (λ (is : note.read ≡ ValueOf s value). one note.of (subst G is good.0))
        (λ (later : Contains (reads_of list) (ValueOf s value)). go list later good.1)
        (first_or_later note.read (ValueOf s value) (reads_of list) among)

-- ---- the entry

-- a node that a pass has replaced, of which it knows the birth, the key and the value, was an entry so right before
pub replaces_entry : (start : Start) (passes : ℕ) (before run : List Event) (who s birth key old : ℕ) → IsStart start →
    IsRun start passes run → Begins before run →
    ReplacedAt start before run who (know_after start run who).epoch s →
    Knows (know_after start run who) (BirthOf s birth) → Knows (know_after start run who) (KeyOf s key) →
    Knows (know_after start run who) (ValueOf s old) → ReplacedEntry start before run who s birth key old
replaces_entry start passes before run who s birth key old is ok begins x knows_birth knows_key knows_value =
    let e = has_event start passes is before begins.0 run who x.node begins.1 ok x.replaced in
    let m = e.moment in
    let mid = m ++ e.event ∷ [] in
    let ok_mid = begins_run start passes mid run e.to ok in
    let linked = linked_before start passes is m e.event who x.node ok_mid e.replaced in
    let a = incarnations_after start m in
    let b = incarnations_after start run in
    let up = begins_trans m mid run (e.event ∷ [], refl) e.to in
    let then = run_agrees start passes m is (begins_run start passes m run up ok) in
    let now = run_agrees start passes run is ok in
    let on = (since start passes m run is ok up).grown in
    let low = late_born then.sound.slots x.node 0 (rw linked tt) in
    let I : State → Type 0 = IsInserted in
    let inserted = subst I (sym linked) tt in
    let epoch = (know_after start run who).epoch in
    let of_birth = birth_held (now.knows who) s birth knows_birth in
    let of_value = value_held (now.knows who) s old knows_value in
    let same_birth = same_held now.sound.slots epoch s x.node of_birth.0 x.held of_birth.1 in
    let same_value = same_held now.sound.slots epoch s x.node of_value.0 x.held of_value.1 in
    let slot : a.slot x.node ≡ s = sym (on.slot x.node low) ∙ x.held.slot in
    let L : ℕ → Type 0 = λ t. a.last t ≡ Some x.node in
    record {
      moment = m;
      event = e.event;
      from = e.from;
      to = e.to;
      node = x.node;
      entry = record {
        last = subst L slot (linked_last then.sound.slots x.node linked);
        linked = linked;
        birth_is = sym (on.birth x.node low) ∙ ap b.birth same_birth ∙ of_birth.2;
        key_is = sym (on.key x.node inserted) ∙ held_key start passes run is ok who s key x.node x.held knows_key;
      };
      value = sym (on.value x.node inserted) ∙ ap b.value same_value ∙ of_value.2;
      replaced = e.replaced;
    }

-- ---- of what a pass did

pub gone_entry : (p r : Trace) → IsStart p.start → IsSame p r → IsRun p.start p.passes r.seen → Begins p.seen r.seen →
    (s birth key old : ℕ) → ReplacedAt p.start p.seen r.seen p.who (knows r).epoch s →
    Knows (knows r) (BirthOf s birth) → Knows (knows r) (KeyOf s key) → Knows (knows r) (ValueOf s old) →
    ReplacedEntry p.start p.seen r.seen p.who s birth key old
gone_entry p r is same ok begins s birth key old =
    let know : knows r ≡ know_after p.start r.seen p.who = λ i. know_after (same.start i) r.seen (same.who i) in
    let P : Know → Type 0 =
    λ k. ReplacedAt p.start p.seen r.seen p.who k.epoch s → Knows k (BirthOf s birth) → Knows k (KeyOf s key) →
    Knows k (ValueOf s old) → ReplacedEntry p.start p.seen r.seen p.who s birth key old in
    subst P (sym know) (replaces_entry p.start p.passes p.seen r.seen p.who s birth key old is ok begins)

-- after what made no call, and before more
pub entry_since : {p q : Trace} (r t : Trace) {s birth key old : ℕ} → Quiet p q → Begins r.seen t.seen →
    ReplacedEntry q.start q.seen r.seen q.who s birth key old →
    ReplacedEntry p.start p.seen t.seen p.who s birth key old
entry_since {p} {q} r t {s} {birth} {key} {old} quiet on x =
    let R : Start × ℕ → Type 0 = λ y. ReplacedEntry y.0 p.seen t.seen y.1 s birth key old in
    subst R (λ i. (quiet.same.start i, quiet.same.who i)) (record {
      moment = x.moment;
      event = x.event;
      from = begins_trans p.seen q.seen x.moment quiet.seen x.from;
      to = begins_trans (x.moment ++ x.event ∷ []) r.seen t.seen x.to on;
      node = x.node;
      entry = x.entry;
      value = x.value;
      replaced = x.replaced;
    })
