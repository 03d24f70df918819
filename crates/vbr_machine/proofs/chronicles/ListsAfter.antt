-- Each allowed event that neither inserts, replaces nor unlinks keeps what holds of the lists.
use Rattle.std.proofs.Common.{◌≡◌, ◌≢◌, ℕ, Option, Some, None, refl, arith, ◌∙◌, inl, inr}
use Rattle.std.specs.Prelude.{◌⊎◌}
use Rattle.std.proofs.lemmas.Bool.{cases_eq}
use Rattle.std.proofs.lemmas.Bool.Decides.{nat_tests}
use Rattle.vbr_machine.specs.Start.{Start}
use Rattle.vbr_words.specs.declared.link.Link.{Link}
use Rattle.vbr_machine.specs.Put.{put}
use Rattle.vbr_machine.specs.Keys.{Keys}
use Rattle.vbr_words.specs.Buckets.{bucket_of}
use Rattle.vbr_machine.specs.Incarnations.{State, Unborn, InHand, GivenUp, Linked, Marked, Unlinked, Stamped}
use Rattle.vbr_machine.specs.Incarnations.{Incarnations, IsLate}
use Rattle.vbr_machine.specs.Images.{key_shown}
use Rattle.vbr_machine.specs.Chronicles.{Advances, Gains, Raises, GivesUp, Bears, Keyed, Valued, Aims, Removes, Stamps}
use Rattle.vbr_machine.specs.Chronicles.{Confirms, Allowed, MayStamp, unlinked_at, becomes}
use Rattle.vbr_machine.specs.Sound.{IsListed, IsInserted, IsApart, ListsSound, Sound}
use Rattle.vbr_machine.specs.declared.history.Call.{Call}
use Rattle.vbr_machine.proofs.words.Puts.{put_here, put_other}
use Rattle.vbr_machine.proofs.chronicles.Lists.{listed_other, next_listed}

-- where no key, rank, successor, state or first of a bucket changes
lists_same : (start : Start) (a b : Incarnations) → ListsSound start a → b.key ≡ a.key → b.rank ≡ a.rank →
    b.next ≡ a.next → b.state ≡ a.state → b.first ≡ a.first → ListsSound start b
lists_same start a b s ek er en es ef = record {
  handed = rw (en, es) s.handed;
  inserted = rw (en, es) s.inserted;
  ordered = rw (en, ek, er) s.ordered;
  strict = rw (en, es, ek) s.strict;
  first_in = rw (ef, es, ek) s.first_in;
  apart = rw (es, ek, er, en) s.apart;
  behind_head = rw (es, ek, er, ef) s.behind_head;
}

pub lists_advances : (start : Start) (a : Incarnations) (pass : ℕ) → Sound start a →
    ListsSound start (becomes start a pass Advances)
lists_advances start a pass s = lists_same start a (becomes start a pass Advances) s.lists refl refl refl refl refl

pub lists_gains : (start : Start) (a : Incarnations) (pass v : ℕ) → Sound start a →
    ListsSound start (becomes start a pass (Gains v))
lists_gains start a pass v s = lists_same start a (becomes start a pass (Gains v)) s.lists refl refl refl refl refl

pub lists_raises : (start : Start) (a : Incarnations) (pass v : ℕ) → Sound start a →
    ListsSound start (becomes start a pass (Raises v))
lists_raises start a pass v s = lists_same start a (becomes start a pass (Raises v)) s.lists refl refl refl refl refl

pub lists_aims : (start : Start) (a : Incarnations) (pass c : ℕ) (link : Link) → Sound start a →
    ListsSound start (becomes start a pass (Aims c link))
lists_aims start a pass c link s =
    lists_same start a (becomes start a pass (Aims c link)) s.lists refl refl refl refl refl

pub lists_valued : (start : Start) (a : Incarnations) (pass c value : ℕ) → Sound start a →
    ListsSound start (becomes start a pass (Valued c value))
lists_valued start a pass c value s =
    lists_same start a (becomes start a pass (Valued c value)) s.lists refl refl refl refl refl

pub lists_answers : (start : Start) (a : Incarnations) (pass : ℕ) (call : Call) → Sound start a →
    ListsSound start (becomes start a pass (Confirms call))
lists_answers start a pass call s =
    lists_same start a (becomes start a pass (Confirms call)) s.lists refl refl refl refl refl

-- what is listed once one comes into a state that isn't so was listed before
pub listed_still : (state : ℕ → State) (c : ℕ) (st : State) (j : ℕ) → (IsListed st → ⊥) → IsListed (put state c st j) →
    IsListed (state j)
listed_still state c st j none l = grind (arith, nat_tests)

-- a state comes of another: it is late, inserted or listed where that is, and linked where it stays so
abbrev ComesOf : State → State → Type 0
ComesOf x y =
    ((e : ℕ) → IsLate x e → IsLate y e) × ((e : ℕ) → IsLate y e → IsLate x e) × (IsInserted x → IsInserted y) ×
    (IsListed x → IsListed y) × (IsListed y → IsListed x) × (y ≡ Linked → x ≡ Linked)

-- where nothing of the lists changes but states, and each comes of what it was
lists_restated : (start : Start) (a b : Incarnations) → ListsSound start a →
    ((j : ℕ) → ComesOf (a.state j) (b.state j)) →
    ListsSound start (record b { key = a.key; rank = a.rank; next = a.next; first = a.first })
lists_restated start a b s of = record {
  handed = λ i n e q l. (of n).0 e (s.handed i n e q ((of i).1 e l));
  inserted = λ i n q. let u = s.inserted i n q in ((of i).2 u.0, (of n).2 u.1);
  ordered = s.ordered;
  strict = λ i n q l. s.strict i n q ((of i).5 l);
  first_in = λ k n q. let u = s.first_in k n q in ((of n).3 u.0, u.1);
  apart = λ i d li ld q. s.apart i d ((of i).4 li) ((of d).4 ld) q;
  behind_head = λ d ld. s.behind_head d ((of d).4 ld);
}

-- so it is where the state of one alone changes
one_restated : (state : ℕ → State) (c : ℕ) (st : State) → ComesOf (state c) st → (j : ℕ) →
    ComesOf (state j) (put state c st j)
one_restated state c st of j = go (cases_eq j c)
  where
    go : (j ≡ c) ⊎ (j ≢ c) → ComesOf (state j) (put state c st j)
    go (inl e) = rw (e, put_here state c st) of
    go (inr ne) = rw (put_other state c st j ne) (λ e l. l, λ e l. l, λ l. l, λ l. l, λ l. l, λ l. l)

pub lists_gives_up : (start : Start) (keys : Keys) (a : Incarnations) (pass c : ℕ) → Sound start a →
    Allowed start keys a pass (GivesUp c) → ListsSound start (becomes start a pass (GivesUp c))
lists_gives_up start keys a pass c s h =
    lists_restated start a (becomes start a pass (GivesUp c)) s.lists
    (one_restated a.state c GivenUp (rw h (λ e l. l, λ e l. l, λ l. l, λ l. l, λ l. l, λ e. cc)))

-- a new key of one in hand leaves the listed ones apart
keyed_apart : (key rank : ℕ → ℕ) (state : ℕ → State) (buckets : ℕ → ℕ) (c pass k i d : ℕ) (n : Option ℕ) →
    state c ≡ InHand pass → IsListed (state i) → IsListed (state d) →
    (buckets (key i) ≡ buckets (key d) → IsApart key rank i n d) → ((m : ℕ) → n ≡ Some m → IsListed (state m)) →
    buckets (put key c k i) ≡ buckets (put key c k d) → IsApart (put key c k) rank i n d
keyed_apart key rank state buckets c pass k i d n h li ld u v q = grind (arith, nat_tests)

pub lists_keyed : (start : Start) (keys : Keys) (a : Incarnations) (pass c k : ℕ) → Sound start a →
    Allowed start keys a pass (Keyed c k) → ListsSound start (becomes start a pass (Keyed c k))
lists_keyed start keys a pass c k s h = record {
  handed = s.lists.handed;
  inserted = s.lists.inserted;
  ordered = λ i n q. let u = s.lists.ordered i n q in let v = s.lists.inserted i n q in grind (arith, nat_tests);
  strict = λ i n q l. let u = s.lists.strict i n q l in let v = s.lists.inserted i n q in grind (arith, nat_tests);
  first_in = λ b n q. let u = s.lists.first_in b n q in grind (arith, nat_tests);
  apart = λ i d li ld q.
      keyed_apart a.key a.rank a.state (bucket_of start.shape) c pass k i d (a.next i) h li ld (s.lists.apart i d li ld)
      (λ m e. next_listed s i m e li) q;
  behind_head = λ d ld.
      let u = s.lists.behind_head d in
      let v = s.lists.first_in (bucket_of start.shape (a.key d)) in
      grind (arith, nat_tests);
}

pub lists_removes : (start : Start) (keys : Keys) (a : Incarnations) (pass c : ℕ) → Sound start a →
    Allowed start keys a pass (Removes c) → ListsSound start (becomes start a pass (Removes c))
lists_removes start keys a pass c s h =
    lists_restated start a (becomes start a pass (Removes c)) s.lists
    (one_restated a.state c Marked (rw h (λ e l. l, λ e l. l, λ l. l, λ l. l, λ l. l, λ e. refl)))

pub lists_stamps : (start : Start) (keys : Keys) (a : Incarnations) (pass c r : ℕ) → Sound start a →
    Allowed start keys a pass (Stamps c r) → ListsSound start (becomes start a pass (Stamps c r))
lists_stamps start keys a pass c r s h =
    lists_restated start a (becomes start a pass (Stamps c r)) s.lists
    (one_restated a.state c (Stamped (unlinked_at (a.state c)) r) (stamped (a.state c) h))
  where
    stamped : (st : State) → MayStamp st pass r a.epoch → ComesOf st (Stamped (unlinked_at st) r)
    stamped (Unlinked q u) h = (λ e l. l, λ e l. l, λ l. l, λ l. l, λ l. l, λ e. cc)
    stamped _ h = absurd h

-- what is listed once one is born is another
not_new : (state : ℕ → State) (n pass j : ℕ) → IsListed (put state n (InHand pass) j) → j ≢ n
not_new state n pass j l = grind (arith, nat_tests)

-- one that is born, of which nothing is listed yet, leaves the others apart
borne_apart : (key rank : ℕ → ℕ) (next : ℕ → Option ℕ) (state : ℕ → State) (n k i d : ℕ) → i ≢ n → d ≢ n →
    state n ≡ Unborn → ((m : ℕ) → next i ≡ Some m → IsListed (state i) → IsListed (state m)) → IsListed (state i) →
    IsApart key rank i (next i) d → IsApart (put key n k) rank i (put next n None i) d
borne_apart key rank next state n k i d ni nd z w li (inl e) = inl e
borne_apart key rank next state n k i d ni nd z w li (inr (inl lt)) =
    inr (inl (rw (put_other key n k i ni, put_other key n k d nd) lt))
borne_apart key rank next state n k i d ni nd z w li (inr (inr (m, e, le))) =
    let nm = other m (w m e li) in
    inr (inr (m, put_other next n None i ni ∙ e, rw (put_other key n k m nm, put_other key n k d nd) le))
  where
    other : (m : ℕ) → IsListed (state m) → m ≢ n
    other m l = grind arith

pub lists_bears : (start : Start) (keys : Keys) (a : Incarnations) (pass v b : ℕ) → Sound start a →
    Allowed start keys a pass (Bears v b) → ListsSound start (becomes start a pass (Bears v b))
lists_bears start keys a pass v b s h =
    let z = s.slots.unborn a.count (omega arith) in
    record {
      handed = λ i n e q. let u = s.lists.handed i n e in grind (arith, nat_tests);
      inserted = λ i n q. let u = s.lists.inserted i n in grind (arith, nat_tests);
      ordered = λ i n q. let u = s.lists.ordered i n in let w = s.lists.inserted i n in grind (arith, nat_tests);
      strict = λ i n q l. let u = s.lists.strict i n in let w = s.lists.inserted i n in grind (arith, nat_tests);
      first_in = λ b n q. let u = s.lists.first_in b n q in grind (arith, nat_tests);
      apart = λ i d li ld q.
          let ni = not_new a.state a.count pass i li in
          let nd = not_new a.state a.count pass d ld in
          let li2 = listed_other a.state a.count (InHand pass) i ni li in
          let ld2 = listed_other a.state a.count (InHand pass) d nd ld in
          borne_apart a.key a.rank a.next a.state a.count (key_shown a (a.last v)) i d ni nd z (next_listed s i) li2
          (s.lists.apart i d li2 ld2
          (rw (
            put_other a.key a.count (key_shown a (a.last v)) i ni,
            put_other a.key a.count (key_shown a (a.last v)) d nd,
          ) at q));
      behind_head = λ d ld.
          let u = s.lists.behind_head d in
          let w = s.lists.first_in (bucket_of start.shape (a.key d)) in
          grind (arith, nat_tests);
    }
