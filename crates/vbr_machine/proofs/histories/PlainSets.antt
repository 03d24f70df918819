-- What an ordered set's own words say of it, in the words of `Keys` and `History`.
use Rattle.std.proofs.Common.{◌≡◌, ℕ, Bool, true, false, not, cond, List, [], ◌∷◌, nat_eq, refl, sym, ap, ◌∙◌, arith}
use Rattle.std.proofs.lemmas.Bool.Decides.{nat_tests}
use Rattle.std.specs.Ordering.{nat_cmp}
use Rattle.std.specs.BTreeMap.{is_at}
use Rattle.std.specs.List.{list_any}
use Rattle.vbr_machine.specs.Put.{put}
use Rattle.vbr_machine.specs.Keys.{keys_of}
use Rattle.vbr_machine.specs.History.{keys_after}
use Rattle.vbr_machine.specs.declared.history.Op.{Op}
use Rattle.vbr_machine.specs.declared.history.Op.TheVariants.{Insert, Remove}

-- a query that compares equal to a number is that number
pub at_is_eq : (q k : ℕ) → is_at (nat_cmp q) k ≡ nat_eq q k
at_is_eq q k = grind (arith, nat_tests)

-- an ordered set has the keys of its list
contains_is : (ks : List ℕ) (q : ℕ) → list_any (is_at (nat_cmp q)) ks ≡ keys_of ks q
contains_is [] q = refl
contains_is (k ∷ ks) q = rw (at_is_eq q k, contains_is ks q) refl

-- what an update of an ordered set leaves, in the words of `Keys`
put_at : (old new : List ℕ) (key : ℕ) (present : Bool) →
    ((q : ℕ) → list_any (is_at (nat_cmp q)) new
    ≡ cond (is_at (nat_cmp key) q) present (list_any (is_at (nat_cmp q)) old)) → (q : ℕ) →
    keys_of new q ≡ put (keys_of old) key present q
put_at old new key present updates q = sym (contains_is new q) ∙ updates q ∙ rest (at_is_eq key q) (contains_is old q)
  where
    rest : is_at (nat_cmp key) q ≡ nat_eq key q → list_any (is_at (nat_cmp q)) old ≡ keys_of old q →
        cond (is_at (nat_cmp key) q) present (list_any (is_at (nat_cmp q)) old) ≡ put (keys_of old) key present q
    rest e f = rw (e, f) (grind (arith, nat_tests))

-- where the key already was as it is put, nothing changes
put_same : (keys : ℕ → Bool) (key : ℕ) (present : Bool) → keys key ≡ present → (q : ℕ) → put keys key present q ≡ keys q
put_same keys key present e q = grind (arith, nat_tests)

-- the set that an insert leaves
insert_leaves : (old new : List ℕ) (key : ℕ) (added : Bool) → added ≡ not (list_any (is_at (nat_cmp key)) old) →
    ((q : ℕ) → list_any (is_at (nat_cmp q)) new
    ≡ cond (is_at (nat_cmp key) q) true (list_any (is_at (nat_cmp q)) old)) → (q : ℕ) →
    keys_of new q ≡ keys_after (keys_of old) Insert key added q
insert_leaves old new key true e updates q = put_at old new key true updates q
insert_leaves old new key false e updates q = put_at old new key true updates q
    ∙ put_same (keys_of old) key true
    (let f : not (keys_of old key) ≡ false = sym (e ∙ ap not (contains_is old key)) in grind arith) q

-- the set that a remove leaves
remove_leaves : (old new : List ℕ) (key : ℕ) (removed : Bool) → removed ≡ list_any (is_at (nat_cmp key)) old →
    ((q : ℕ) → list_any (is_at (nat_cmp q)) new
    ≡ cond (is_at (nat_cmp key) q) false (list_any (is_at (nat_cmp q)) old)) → (q : ℕ) →
    keys_of new q ≡ keys_after (keys_of old) Remove key removed q
remove_leaves old new key true e updates q = put_at old new key false updates q
remove_leaves old new key false e updates q =
    put_at old new key false updates q ∙ put_same (keys_of old) key false (sym (e ∙ contains_is old key)) q

-- the same, where the operation and the list before are known by an equation
pub after_insert : (op : Op) (seen old new : List ℕ) (key : ℕ) (added : Bool) → op ≡ Insert → old ≡ seen →
    added ≡ not (list_any (is_at (nat_cmp key)) old) →
    ((q : ℕ) → list_any (is_at (nat_cmp q)) new
    ≡ cond (is_at (nat_cmp key) q) true (list_any (is_at (nat_cmp q)) old)) → (q : ℕ) →
    keys_of new q ≡ keys_after (keys_of seen) op key added q
after_insert op seen old new key added is same e updates q =
    rw (is, ← same) (insert_leaves old new key added e updates q)

pub after_remove : (op : Op) (seen old new : List ℕ) (key : ℕ) (removed : Bool) → op ≡ Remove → old ≡ seen →
    removed ≡ list_any (is_at (nat_cmp key)) old →
    ((q : ℕ) → list_any (is_at (nat_cmp q)) new
    ≡ cond (is_at (nat_cmp key) q) false (list_any (is_at (nat_cmp q)) old)) → (q : ℕ) →
    keys_of new q ≡ keys_after (keys_of seen) op key removed q
after_remove op seen old new key removed is same e updates q =
    rw (is, ← same) (remove_leaves old new key removed e updates q)
