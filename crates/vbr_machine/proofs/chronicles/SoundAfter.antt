-- A lawful chronicle is sound: each allowed event keeps the invariant, and it holds before the first.
use Rattle.std.proofs.Common.{◌≡◌, ◌≢◌, ℕ, ◌<◌, ◌≤◌, Bool, true, false, List, [], ◌∷◌, Some, None, refl, arith, sym}
use Rattle.std.proofs.Common.{inl, inr}
use Rattle.std.specs.Prelude.{◌⊎◌, if◌then◌else◌}
use Rattle.std.specs.List.Sorted.{IsStrictlyIncreasing}
use Rattle.std.proofs.lemmas.Bool.{cases_eq, cases_lt, lt-ltb, le-ltb}
use Rattle.vbr_machine.specs.Start.{Start}
use Rattle.vbr_machine.specs.Keys.{Keys}
use Rattle.vbr_words.specs.Buckets.{bucket_of}
use Rattle.vbr_machine.specs.Opened.{key_count, has_opening_key, key_number, key_behind}
use Rattle.vbr_machine.specs.Incarnations.{Unborn, Linked, Incarnations, opening_state, opening_last, at_opening}
use Rattle.vbr_machine.specs.Chronicles.{Happening, Advances, Gains, Probes, Raises, GivesUp, Bears, Keyed, Valued}
use Rattle.vbr_machine.specs.Chronicles.{Aims, Inserts, Removes, Replaces, Unlinks, Stamps, Confirms, AtHead, AtNode}
use Rattle.vbr_machine.specs.Chronicles.{Entry, Allowed, becomes, incarnations_from, IsLawful}
use Rattle.vbr_machine.specs.Sound.{IsListed, TimesFit, StampFits, IsUnused, IsApart, ListsSound, Sound}
use Rattle.vbr_machine.specs.declared.knowledge.SlotPlace.TheVariants.{Shared, Listed}
use Rattle.vbr_machine.proofs.chronicles.OpeningKeys.{opens_with_one_or_none, rises, first_key_is, first_key_up_to}
use Rattle.vbr_machine.proofs.chronicles.OpeningKeys.{key_behind_is, key_behind_up_to}
use Rattle.vbr_machine.proofs.chronicles.SlotsAfter.{slots_kept}
use Rattle.vbr_machine.proofs.chronicles.ListsAfter.{lists_advances, lists_gains, lists_raises, lists_gives_up}
use Rattle.vbr_machine.proofs.chronicles.ListsAfter.{lists_bears, lists_keyed, lists_valued, lists_aims, lists_removes}
use Rattle.vbr_machine.proofs.chronicles.ListsAfter.{lists_stamps, lists_answers}
use Rattle.vbr_machine.proofs.chronicles.InsertedLists.{lists_inserts_at_head, lists_inserts_at_node}
use Rattle.vbr_machine.proofs.chronicles.ReplacedLists.{lists_replaces}
use Rattle.vbr_machine.proofs.chronicles.UnlinkedLists.{lists_unlinks_at_head, lists_unlinks_at_node}

pub lists_kept : (start : Start) (keys : Keys) (a : Incarnations) (pass : ℕ) (what : Happening) → Sound start a →
    Allowed start keys a pass what → ListsSound start (becomes start a pass what)
lists_kept start keys a pass Advances s h = lists_advances start a pass s
lists_kept start keys a pass (Gains v) s h = lists_gains start a pass v s
lists_kept start keys a pass (Probes v) s h = s.lists
lists_kept start keys a pass (Raises v) s h = lists_raises start a pass v s
lists_kept start keys a pass (GivesUp c) s h = lists_gives_up start keys a pass c s h
lists_kept start keys a pass (Bears v birth) s h = lists_bears start keys a pass v birth s h
lists_kept start keys a pass (Keyed c key) s h = lists_keyed start keys a pass c key s h
lists_kept start keys a pass (Valued c value) s h = lists_valued start a pass c value s
lists_kept start keys a pass (Aims c link) s h = lists_aims start a pass c link s
lists_kept start keys a pass (Inserts c (AtHead b)) s h = lists_inserts_at_head start a pass c b s h
lists_kept start keys a pass (Inserts c (AtNode p)) s h = lists_inserts_at_node start a pass c p s h
lists_kept start keys a pass (Removes c) s h = lists_removes start keys a pass c s h
lists_kept start keys a pass (Replaces old c) s h = lists_replaces start a pass old c s h
lists_kept start keys a pass (Unlinks c (AtHead b)) s h = lists_unlinks_at_head start keys a pass c b s h
lists_kept start keys a pass (Unlinks c (AtNode p)) s h = lists_unlinks_at_node start keys a pass c p s h
lists_kept start keys a pass (Stamps c stamp) s h = lists_stamps start keys a pass c stamp s h
lists_kept start keys a pass (Confirms call) s h = lists_answers start a pass call s

pub sound_kept : (start : Start) (keys : Keys) (a : Incarnations) (pass : ℕ) (what : Happening) → Sound start a →
    Allowed start keys a pass what → Sound start (becomes start a pass what)
sound_kept start keys a pass what s h =
    record { slots = slots_kept start keys a pass what s.slots h; lists = lists_kept start keys a pass what s h }

-- ---- before the first

times_at_first : (b : Bool) → TimesFit (if b then Linked else Unborn) (if b then 1 else 0) 1
times_at_first true = omega arith
times_at_first false = tt

stamps_at_first : (b : Bool) → StampFits (if b then Linked else Unborn) (if b then 1 else 0) 0
stamps_at_first true = omega arith
stamps_at_first false = tt

unused_at_first : (b : Bool) (s bucket : ℕ) → (if b then Some s else None) ≡ None →
    IsUnused (if b then Listed bucket else Shared)
unused_at_first true s bucket e = absurd (cc)
unused_at_first false s bucket e = tt

born_at_first : (b : Bool) → (if b then 1 else 0) ≤ 1
born_at_first true = omega arith
born_at_first false = omega arith

-- the last incarnation of a slot is that of the key with its number
last_at_first : (start : Start) (s c : ℕ) → opening_last start s ≡ Some c →
    (c < key_count start) × (has_opening_key start c ≡ true) × (c ≡ s)
last_at_first start s c e = go (opens_with_one_or_none start s)
  where
    go : ((s < key_count start) × (has_opening_key start s ≡ true)) ⊎
        ((key_count start ≤ s) × (has_opening_key start s ≡ false)) →
        (c < key_count start) × (has_opening_key start c ≡ true) × (c ≡ s)
    go (inl low) =
        let some : Some s ≡ Some c = rw low.1 at e in
        let same : s ≡ c = cc in
        (rw (sym same) low.0, rw (sym same) low.1, sym same)
    go (inr high) = let none : None ≡ Some c = rw high.1 at e in absurd (cc)

-- what isn't unborn is the incarnation of a key
linked_at_first : (start : Start) (c : ℕ) → (opening_state start c ≡ Unborn → ⊥) → c < key_count start
linked_at_first start c some = go (opens_with_one_or_none start c)
  where
    go : ((c < key_count start) × (has_opening_key start c ≡ true)) ⊎
        ((key_count start ≤ c) × (has_opening_key start c ≡ false)) → c < key_count start
    go (inl low) = low.0
    go (inr high) = absurd (some (rw high.1 refl))

pub listed_at_first : (start : Start) (c : ℕ) → IsListed (opening_state start c) → c < key_count start
listed_at_first start c l = linked_at_first start c (λ e. rw e at l)

-- keys of no earlier numbers are no less
rises_to : (start : Start) → IsStrictlyIncreasing start.keys → (c d : ℕ) → c ≤ d → d < key_count start →
    key_number start c ≤ key_number start d
rises_to start up c d le low = go (cases_eq c d)
  where
    go : (c ≡ d) ⊎ (c ≢ d) → key_number start c ≤ key_number start d
    go (inl e) = rw e (omega arith)
    go (inr ne) = let less = rises start.keys up c d (omega arith) low in omega (arith, less)

-- a key's incarnation is linked
pub state_at_first : (start : Start) (c : ℕ) → c < key_count start → opening_state start c ≡ Linked
state_at_first start c low = rw (lt-ltb c (key_count start) low) refl

-- a number that is no greater is smaller, or the same
below_or_same : (m n : ℕ) → m ≤ n → (m < n) ⊎ ((m ≡ n) × (0 ≤ 0))
below_or_same m n le = grind arith

apart_at_first : (start : Start) → IsStrictlyIncreasing start.keys → (c d : ℕ) → c < key_count start →
    d < key_count start → bucket_of start.shape (key_number start c) ≡ bucket_of start.shape (key_number start d) →
    IsApart (key_number start) (λ i. 0) c (key_behind start c) d
apart_at_first start up c d low also same = go (cases_eq d c) (cases_lt d c)
  where
    go : (d ≡ c) ⊎ (d ≢ c) → (d < c) ⊎ (c ≤ d) → IsApart (key_number start) (λ i. 0) c (key_behind start c) d
    go (inl e) order = inl e
    go (inr ne) (inl less) = inr (inl (inl (rises start.keys up d c less low)))
    go (inr ne) (inr more) =
        let next = key_behind_up_to start c d (omega arith) also (sym same) in
        inr (inr (
          next.0,
          next.1,
          below_or_same (key_number start next.0) (key_number start d) (rises_to start up next.0 d next.2 also),
        ))

pub sound_at_first : (start : Start) → IsStrictlyIncreasing start.keys → Sound start (at_opening start)
sound_at_first start up = record {
  slots = record {
    last_born = λ s c e. let x = last_at_first start s c e in (x.0, x.2);
    has_last = λ c low. (c, rw (lt-ltb c (key_count start) low) refl, omega arith);
    unborn = λ c high. rw (le-ltb c (key_count start) high) refl;
    passed = λ c d l m e. absurd (omega (arith, e));
    born = λ c low. born_at_first (has_opening_key start c);
    times = λ c. times_at_first (has_opening_key start c);
    stamps = λ c. stamps_at_first (has_opening_key start c);
    links = λ c s e. let x = last_at_first start s c e in rw x.1 tt;
    unused = λ s e. unused_at_first (has_opening_key start s) s (bucket_of start.shape (key_number start s)) e;
    placed = λ c s e. let x = last_at_first start s c e in rw (sym x.2, x.1) refl;
  };
  lists = record {
    handed = λ c n e q l. let x = key_behind_is start c n q in rw (state_at_first start n x.1) tt;
    inserted = λ c n q.
        let x = key_behind_is start c n q in (
          rw (state_at_first start c (let less = x.0 in let low = x.1 in omega (arith, less, low))) tt,
          rw (state_at_first start n x.1) tt,
        );
    ordered = λ c n q. let x = key_behind_is start c n q in (sym x.2, inl (rises start.keys up c n x.0 x.1));
    strict = λ c n q l. let x = key_behind_is start c n q in rises start.keys up c n x.0 x.1;
    first_in = λ b n q. let x = first_key_is start b n q in (rw (state_at_first start n x.0) tt, x.1);
    apart = λ c d l m e. apart_at_first start up c d (listed_at_first start c l) (listed_at_first start d m) e;
    behind_head = λ d l.
        let low = listed_at_first start d l in
        let x = first_key_up_to start d low in
        (x.0, x.1, below_or_same (key_number start x.0) (key_number start d) (rises_to start up x.0 d x.2 low));
  };
}

pub sound_after : (start : Start) (keys : Keys) (a : Incarnations) (entries : List Entry) → Sound start a →
    IsLawful start keys a entries → Sound start (incarnations_from start a entries)
sound_after start keys a [] s l = s
sound_after start keys a (entry ∷ entries) s l =
    sound_after start keys (becomes start a entry.pass entry.what) entries
    (sound_kept start keys a entry.pass entry.what s l.0) l.1
