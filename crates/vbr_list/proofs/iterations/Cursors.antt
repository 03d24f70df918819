-- From cursor to cursor, and what an iteration has given.
use Rattle.vbr_list.proofs.Names.{◌≡◌, ℕ, ◌+◌, ◌^◌, ◌<◌, ◌≤◌, Bool, true, false, List, [], ◌∷◌, ◌++◌, Option, Some}
use Rattle.vbr_list.proofs.Names.{None, sym, ap, ◌∙◌, subst, arith, inl, inr, append-nil, option_to_list, ◌⊎◌}
use Rattle.vbr_list.proofs.Names.{Contains, IfSome, AllByRecursion, Contains-append_left, Contains-append_right}
use Rattle.vbr_list.proofs.Names.{Contains-push, Contains-push_cases, AreInOrder, begins_trans, bucket_of, ComesFirst}
use Rattle.vbr_list.proofs.Names.{Cursor, first_cursor, HasGiven, HasGivenAll, HasNoNext, IsAtEnd, IsBeforeCursor}
use Rattle.vbr_list.proofs.Names.{IsBehindKey, IsNextKey, IsToCome, moment_after, next_bucket, opening_keys}
use Rattle.vbr_list.proofs.Names.{opening_payloads, PassesBy, same_on, SeesMore, set_after, Start, Trace}
use Rattle.vbr_list.proofs.Names.{values_after, WasEntry, WasSo, world_after}
use Rattle.vbr_list.proofs.pieces.Going.{by_either}
use Rattle.vbr_list.proofs.traversals.Moments.{later_moment, so_later}

-- ---- a pass that has seen more

pub sees_on : {p q r : Trace} → SeesMore p q → SeesMore q r → SeesMore p r
sees_on {p} {q} {r} x y =
    record {
      same = same_on x.same y.same;
      begins = begins_trans p.seen q.seen r.seen x.begins y.begins;
      is_run = y.is_run;
    }

-- what was so at a moment of what the pass did was so at a moment of more
pub so_more : {p q r : Trace} {key : ℕ} {present : Bool} → WasSo p q key present → SeesMore q r → WasSo p r key present
so_more x y = so_later x y.begins (λ _. y.is_run)

pub so_since : {p q r : Trace} {key : ℕ} {present : Bool} → SeesMore p q → WasSo q r key present → WasSo p r key present
so_since {p} {q} {r} {key} {present} x y = record {
  moment = y.moment;
  within = moment_after x.begins y.within;
  was = ap (λ (s : Start). set_after (opening_keys s) (world_after s y.moment).calls key) (sym x.same.start) ∙ y.was;
}

pub entry_more : {p q r : Trace} {key value : ℕ} → WasEntry p q key value → SeesMore q r → WasEntry p r key value
entry_more x y =
    record {
      moment = x.moment;
      within = later_moment x.within y.begins (λ _. y.is_run);
      was = x.was;
      stored = x.stored;
    }

pub entry_since : {p q r : Trace} {key value : ℕ} → SeesMore p q → WasEntry q r key value → WasEntry p r key value
entry_since {p} {q} {r} {key} {value} x y = record {
  moment = y.moment;
  within = moment_after x.begins y.within;
  was = ap (λ (s : Start). set_after (opening_keys s) (world_after s y.moment).calls key) (sym x.same.start) ∙ y.was;
  stored = ap (λ (s : Start). values_after (opening_payloads s) (world_after s y.moment).calls key) (sym x.same.start)
      ∙ y.stored;
}

-- ---- cursors

-- a key is passed, or is ahead
pub passed_or_to_come : (start : Start) (c : Cursor) (key : ℕ) → IsBeforeCursor start c key ⊎ IsToCome start c key
passed_or_to_come start c key = grind arith

some_none : {key : ℕ} → None ≡ Some key → ⊥
some_none e = cc

-- not both
pub not_both : (start : Start) (c : Cursor) (key : ℕ) → IsBeforeCursor start c key → IsToCome start c key → ⊥
not_both start c key x y = grind arith

-- a key that is passed comes before one that is ahead
pub passed_first : (start : Start) (c : Cursor) (key other : ℕ) → IsBeforeCursor start c key → IsToCome start c other →
    ComesFirst start key other
passed_first start c key other x y = grind arith

-- before the next bucket each key is passed that was
passed_next : (start : Start) (c : Cursor) (key : ℕ) → IsBeforeCursor start c key →
    IsBeforeCursor start (next_bucket c) key
passed_next start c key x = grind arith

-- ---- one call

-- from where it stands to where it stands
pub passes_still : (p q : Trace) (c : Cursor) → PassesBy p q c c None
passes_still p q c =
    record {
      onward = λ key passed. passed;
      was = tt;
      others = λ key small ahead passed. absurd (not_both p.start c key passed ahead);
    }

-- over what is left of a bucket
pub passes_bucket : {p q : Trace} (c : Cursor) → HasNoNext p q c.bucket c.from → PassesBy p q c (next_bucket c) None
passes_bucket {p} {q} c none =
    record {
      onward = passed_next p.start c;
      was = tt;
      others = λ key small ahead passed. inr (others key ahead passed);
    }
  where
    others : (key : ℕ) → IsToCome p.start c key → IsBeforeCursor p.start (next_bucket c) key → WasSo p q key false
    others key x y = grind (arith, none.behind)

module _ (start : Start) (c d : Cursor) (key : ℕ) (is : bucket_of start.shape key ≡ c.bucket) (high : c.from ≤ key)
    (b : IsBehindKey c.bucket key d) where
  passed_on : (other : ℕ) → IsBeforeCursor start c other → IsBeforeCursor start d other
  passed_on other x = grind arith

  passed_here : IsBeforeCursor start d key
  passed_here = grind arith

  no_higher : (other : ℕ) → other < 2 ^ 64 → IsToCome start c other → IsBeforeCursor start d other →
      (bucket_of start.shape other ≡ c.bucket) × (c.from ≤ other) × (other ≤ key)
  no_higher other small x y = grind arith

-- to a key, and right behind it
pub passes_key : {p q : Trace} (c d : Cursor) (key : ℕ) → IsNextKey p q c.bucket c.from key →
    IsBehindKey c.bucket key d → PassesBy p q c d (Some key)
passes_key {p} {q} c d key next behind = record {
  onward = passed_on p.start c d key next.of_bucket next.high behind;
  was = (inr (next.of_bucket, next.high), passed_here p.start c d key next.of_bucket next.high behind, next.was);
  others = λ other small ahead passed.
      let x = no_higher p.start c d key next.of_bucket next.high behind other small ahead passed in
      same_or_less other x.0 x.1 x.2;
}
  where
    same_or_less : (other : ℕ) → bucket_of p.start.shape other ≡ c.bucket → c.from ≤ other → other ≤ key →
        (Some key ≡ Some other) ⊎ WasSo p q other false
    same_or_less other b from le = grind (arith, next.between other)

-- to the last key of a bucket, and before the next bucket
pub passes_last : {p q : Trace} (c : Cursor) (key : ℕ) → IsNextKey p q c.bucket c.from key →
    HasNoNext p q c.bucket (key + 1) → PassesBy p q c (next_bucket c) (Some key)
passes_last {p} {q} c key next none = record {
  onward = passed_next p.start c;
  was = (inr (next.of_bucket, next.high), inl (let e = next.of_bucket in omega (arith, e)), next.was);
  others = λ other small ahead passed. others other ahead passed;
}
  where
    others : (other : ℕ) → IsToCome p.start c other → IsBeforeCursor p.start (next_bucket c) other →
        (Some key ≡ Some other) ⊎ WasSo p q other false
    others other x y = grind (arith, next.between other, none.behind other)

-- first to one cursor, where nothing is given, and then on to another
pub passes_on : {p q r : Trace} {c d e : Cursor} {given : Option ℕ} → SeesMore p q → SeesMore q r →
    PassesBy p q c d None → PassesBy q r d e given → PassesBy p r c e given
passes_on {p} {q} {r} {c} {d} {e} {given} a b x y = record {
  onward = λ key passed. to_end key (x.onward key passed);
  was = was given y.was;
  others = λ key small ahead passed. others key small ahead passed (passed_or_to_come p.start d key);
}
  where
    to_end : (key : ℕ) → IsBeforeCursor p.start d key → IsBeforeCursor p.start e key
    to_end key passed =
        let P : Start → Type 0 = λ s. IsBeforeCursor s d key → IsBeforeCursor s e key in
        subst P a.same.start (y.onward key) passed

    behind : (key : ℕ) → IsToCome p.start d key → IsToCome p.start c key
    behind key ahead =
        by_either (passed_or_to_come p.start c key)
        (λ passed. absurd (not_both p.start d key (x.onward key passed) ahead)) (λ to_come. to_come)

    was : (given : Option ℕ) →
        IfSome given (λ key. IsToCome q.start d key × IsBeforeCursor q.start e key × WasSo q r key true) →
        IfSome given (λ key. IsToCome p.start c key × IsBeforeCursor p.start e key × WasSo p r key true)
    was None g = tt
    was (Some key) g =
        let P : Start → Type 0 = λ s. IsToCome s d key in
        let Q : Start → Type 0 = λ s. IsBeforeCursor s e key in
        (behind key (subst P a.same.start g.0), subst Q a.same.start g.1, so_since a g.2)

    others : (key : ℕ) → key < 2 ^ 64 → IsToCome p.start c key → IsBeforeCursor p.start e key →
        IsBeforeCursor p.start d key ⊎ IsToCome p.start d key → (given ≡ Some key) ⊎ WasSo p r key false
    others key small ahead passed (inl before) =
        inr (by_either (x.others key small ahead before) (λ never. absurd (some_none never)) (λ so. so_more so b))
    others key small ahead passed (inr after) =
        let P : Start → Type 0 =
        λ s. IsToCome s d key → IsBeforeCursor s e key → (given ≡ Some key) ⊎ WasSo q r key false in
        by_either ((subst P a.same.start (y.others key small)) after passed) (λ given_there. inl given_there)
        (λ so. inr (so_since a so))

-- ---- an iteration

-- before its first call
pub given_none : (p : Trace) → HasGiven p p first_cursor []
given_none p =
    record {
      in_order = tt;
      were = λ key among. absurd (none key among);
      others = λ key small passed. absurd (no key passed);
    }
  where
    no : (key : ℕ) → IsBeforeCursor p.start first_cursor key → ⊥
    no key x = grind arith

    none : (key : ℕ) → Contains [] key → ⊥
    none key among = grind (arith, among)

-- while nothing is given and the cursor stays
pub given_more : {p q r : Trace} {c : Cursor} {keys : List ℕ} → HasGiven p q c keys → SeesMore q r → HasGiven p r c keys
given_more {p} {q} {r} {c} {keys} x b =
    record {
      in_order = x.in_order;
      were = λ key among. let w = x.were key among in (w.0, so_more w.1 b);
      others = λ key small passed.
          by_either (x.others key small passed) (λ among. inl among) (λ so. inr (so_more so b));
    }

-- one more key at the end
all_and : (P : ℕ → Type 0) (keys : List ℕ) (key : ℕ) → AllByRecursion P keys → P key →
    AllByRecursion P (keys ++ key ∷ [])
all_and P [] key all one = (one, tt)
all_and P (k ∷ keys) key all one = (all.0, all_and P keys key all.1 one)

order_and : (start : Start) (keys : List ℕ) (key : ℕ) → AreInOrder start keys →
    ((other : ℕ) → Contains keys other → ComesFirst start other key) → AreInOrder start (keys ++ key ∷ [])
order_and start [] key order first = (tt, tt)
order_and start (k ∷ keys) key order first = (
  all_and (ComesFirst start k) keys key order.0 (first k (Contains-append_left (k ∷ []) keys k (Contains-push [] k))),
  order_and start keys key order.1 (λ other among. first other (Contains-append_right (k ∷ []) keys other among)),
)

-- a call goes on with it
pub given_on : {p q r : Trace} {c d : Cursor} {keys : List ℕ} {given : Option ℕ} → SeesMore p q → SeesMore q r →
    HasGiven p q c keys → PassesBy q r c d given → HasGiven p r d (keys ++ option_to_list given)
given_on {p} {q} {r} {c} {d} {keys} {given} a b x y =
    go given y.was (λ key small ahead passed. others_now key small ahead passed)
  where
    onward : (key : ℕ) → IsBeforeCursor p.start c key → IsBeforeCursor p.start d key
    onward key passed =
        let P : Start → Type 0 = λ s. IsBeforeCursor s c key → IsBeforeCursor s d key in
        subst P a.same.start (y.onward key) passed

    others_now : (key : ℕ) → key < 2 ^ 64 → IsToCome p.start c key → IsBeforeCursor p.start d key →
        (given ≡ Some key) ⊎ WasSo q r key false
    others_now key small ahead passed =
        let P : Start → Type 0 =
        λ s. IsToCome s c key → IsBeforeCursor s d key → (given ≡ Some key) ⊎ WasSo q r key false in
        (subst P a.same.start (y.others key small)) ahead passed

    go : (given : Option ℕ) →
        IfSome given (λ key. IsToCome q.start c key × IsBeforeCursor q.start d key × WasSo q r key true) →
        ((key : ℕ) → key < 2 ^ 64 → IsToCome p.start c key → IsBeforeCursor p.start d key →
        (given ≡ Some key) ⊎ WasSo q r key false) → HasGiven p r d (keys ++ option_to_list given)
    go None was others =
        let P : List ℕ → Type 0 = HasGiven p r d in
        subst P (sym (append-nil keys)) (record {
          in_order = x.in_order;
          were = λ key among. let w = x.were key among in (onward key w.0, so_more w.1 b);
          others = λ key small passed. by key small passed (passed_or_to_come p.start c key);
        })
      where
        by : (key : ℕ) → key < 2 ^ 64 → IsBeforeCursor p.start d key →
            IsBeforeCursor p.start c key ⊎ IsToCome p.start c key → Contains keys key ⊎ WasSo p r key false
        by key small passed (inl early) =
            by_either (x.others key small early) (λ among. inl among) (λ so. inr (so_more so b))
        by key small passed (inr late) =
            by_either (others key small late passed) (λ never. absurd (some_none never)) (λ so. inr (so_since a so))
    go (Some more) was others = record {
      in_order = order_and p.start keys more x.in_order
          (λ other among. passed_first p.start c other more (x.were other among).0 ahead);
      were = λ key among. were key (Contains-push_cases keys more key among);
      others = λ key small passed. by key small passed (passed_or_to_come p.start c key);
    }
      where
        ahead : IsToCome p.start c more
        ahead = let P : Start → Type 0 = λ s. IsToCome s c more in subst P a.same.start was.0

        were : (key : ℕ) → Contains keys key ⊎ (more ≡ key) → IsBeforeCursor p.start d key × WasSo p r key true
        were key (inl among) = let w = x.were key among in (onward key w.0, so_more w.1 b)
        were key (inr e) =
            let P : Start → Type 0 = λ s. IsBeforeCursor s d more in
            let Q : ℕ → Type 0 = λ k. IsBeforeCursor p.start d k × WasSo p r k true in
            subst Q e (subst P a.same.start was.1, so_since a was.2)

        given_now : (key : ℕ) → Some more ≡ Some key → Contains (keys ++ more ∷ []) key
        given_now key same =
            let e : more ≡ key = cc in
            let P : ℕ → Type 0 = Contains (keys ++ more ∷ []) in
            subst P e (Contains-push keys more)

        by : (key : ℕ) → key < 2 ^ 64 → IsBeforeCursor p.start d key →
            IsBeforeCursor p.start c key ⊎ IsToCome p.start c key →
            Contains (keys ++ more ∷ []) key ⊎ WasSo p r key false
        by key small passed (inl early) =
            by_either (x.others key small early) (λ among. inl (Contains-append_left keys (more ∷ []) key among))
            (λ so. inr (so_more so b))
        by key small passed (inr late) =
            by_either (others key small late passed) (λ same. inl (given_now key same)) (λ so. inr (so_since a so))

-- at the end
pub given_all : {p q : Trace} {c : Cursor} {keys : List ℕ} →
    ((key : ℕ) → bucket_of p.start.shape key < p.start.shape.buckets) → HasGiven p q c keys → IsAtEnd p.start c →
    HasGivenAll p q keys
given_all {p} {q} {c} {keys} in_shape x end = record {
  in_order = x.in_order;
  were = λ key among. (x.were key among).1;
  others = λ key small. x.others key small (inl (let u = in_shape key in omega (arith, u, end)));
}
