-- What an ordered map's own words say of it, in the words of `Maps`.
use Rattle.std.proofs.Common.{◌≡◌, ℕ, Bool, true, false, not, cond, List, [], ◌∷◌, Option, Some, None, nat_eq, refl}
use Rattle.std.proofs.Common.{sym, ap, ◌∙◌, arith}
use Rattle.std.proofs.lemmas.Bool.Decides.{nat_tests}
use Rattle.std.specs.Prelude.{◌==◌, is_some, if◌then◌else◌}
use Rattle.std.specs.Ordering.{nat_cmp}
use Rattle.std.specs.BTreeMap.{is_at}
use Rattle.std.specs.Map.{lookup}
use Rattle.vbr_machine.specs.Put.{put}
use Rattle.vbr_machine.specs.History.{reply_of}
use Rattle.vbr_machine.specs.Maps.{entries_in, keys_in, entries_after, GivesEntry}
use Rattle.vbr_machine.specs.declared.history.Op.{Op}
use Rattle.vbr_machine.specs.declared.history.Op.TheVariants.{Insert, Remove, Has, Get}
use Rattle.vbr_machine.proofs.histories.PlainSets.{at_is_eq}

-- what is found, as what is stored
abbrev as_entry : Option ℕ → Option (Option ℕ)
as_entry None = None
as_entry (Some value) = Some (Some value)

-- what the map finds for a key
abbrev pub looked_up : List (ℕ × ℕ) → ℕ → Option ℕ
looked_up es q = lookup (is_at (nat_cmp q)) es

entry_is : (es : List (ℕ × ℕ)) (q : ℕ) → entries_in es q ≡ as_entry (looked_up es q)
entry_is [] q = refl
entry_is (e ∷ es) q = go (nat_eq q e.0) (is_at (nat_cmp q) e.0) (at_is_eq q e.0) (entry_is es q)
  where
    go : (a b : Bool) → b ≡ a → entries_in es q ≡ as_entry (looked_up es q) →
        (if a then Some (Some e.1) else entries_in es q) ≡ as_entry (cond b (Some e.1) (looked_up es q))
    go true true same rest = refl
    go false false same rest = rest
    go true false same rest = absurd (cc)
    go false true same rest = absurd (cc)

some_entry : (o : Option ℕ) → is_some (as_entry o) ≡ is_some o
some_entry None = refl
some_entry (Some value) = refl

there_is : (es : List (ℕ × ℕ)) (q : ℕ) → keys_in (entries_in es) q ≡ is_some (looked_up es q)
there_is es q = ap is_some (entry_is es q) ∙ some_entry (looked_up es q)

-- what an update leaves at each key
put_is : (old new : List (ℕ × ℕ)) (key : ℕ) (w : Option ℕ) →
    ((q : ℕ) → looked_up new q ≡ cond (is_at (nat_cmp key) q) w (looked_up old q)) → (q : ℕ) →
    entries_in new q ≡ put (entries_in old) key (as_entry w) q
put_is old new key w updates q =
    entry_is new q ∙ ap as_entry (updates q) ∙ go (is_at (nat_cmp key) q) (q == key) (at_is_eq key q ∙ turned key q)
  where
    turned : (a b : ℕ) → nat_eq a b ≡ (b == a)
    turned a b = grind (arith, nat_tests)

    go : (a b : Bool) → a ≡ b → as_entry (cond a w (looked_up old q)) ≡ (if b then as_entry w else entries_in old q)
    go true true same = refl
    go false false same = sym (entry_is old q)
    go true false same = absurd (cc)
    go false true same = absurd (cc)

-- ---- the calls, where the operation and the list before are known by an equation

-- what a get or a remove of a key gives is what was found
gives_found : (old : List (ℕ × ℕ)) (key : ℕ) (found : Option ℕ) (there : Bool) → found ≡ looked_up old key →
    there ≡ is_some found → GivesEntry (entries_in old) Get key there found
gives_found old key None true e t = absurd (cc)
gives_found old key None false e t = refl
gives_found old key (Some value) true e t = entry_is old key ∙ ap as_entry (sym e)
gives_found old key (Some value) false e t = absurd (cc)

-- a key that is there is not inserted
pub present_insert : (op : Op) (seen old : List (ℕ × ℕ)) (key : ℕ) (there : Bool) → op ≡ Insert → old ≡ seen →
    there ≡ is_some (looked_up old key) → there ≡ true → false ≡ reply_of (keys_in (entries_in seen)) op key
present_insert op seen old key there is same e t = rw (is, ← same) (sym (ap not (there_is old key ∙ sym e ∙ t)))

pub absent_insert : (op : Op) (seen old : List (ℕ × ℕ)) (key : ℕ) (there : Bool) → op ≡ Insert → old ≡ seen →
    there ≡ is_some (looked_up old key) → there ≡ false →
    (true ≡ reply_of (keys_in (entries_in seen)) op key) × ((op ≡ Insert) × (keys_in (entries_in seen) key ≡ false))
absent_insert op seen old key there is same e f =
    rw (is, ← same) (sym (ap not (there_is old key ∙ sym e ∙ f)), (refl, there_is old key ∙ sym e ∙ f))

pub after_insert : (op : Op) (seen old new : List (ℕ × ℕ)) (key value : ℕ) → op ≡ Insert → old ≡ seen →
    ((q : ℕ) → looked_up new q ≡ cond (is_at (nat_cmp key) q) (Some value) (looked_up old q)) → (q : ℕ) →
    entries_in new q ≡ entries_after (entries_in seen) op key true (Some value) q
after_insert op seen old new key value is same updates = rw (is, ← same) (put_is old new key (Some value) updates)

pub removed : (op : Op) (seen old : List (ℕ × ℕ)) (key : ℕ) (found : Option ℕ) (there : Bool) → op ≡ Remove →
    old ≡ seen → found ≡ looked_up old key → there ≡ is_some found →
    (there ≡ reply_of (keys_in (entries_in seen)) op key) × GivesEntry (entries_in seen) op key there found
removed op seen old key found there is same e t =
    rw (is, ← same) (t ∙ ap is_some e ∙ sym (there_is old key), gives_found old key found there e t)

pub after_remove : (op : Op) (seen old new : List (ℕ × ℕ)) (key : ℕ) (found : Option ℕ) (there : Bool) → op ≡ Remove →
    old ≡ seen → found ≡ looked_up old key → there ≡ is_some found →
    ((q : ℕ) → looked_up new q ≡ cond (is_at (nat_cmp key) q) None (looked_up old q)) → (q : ℕ) →
    entries_in new q ≡ entries_after (entries_in seen) op key there found q
after_remove op seen old new key found there is same e t updates = rw (is, ← same) (go found there e t)
  where
    -- where the key wasn't there, nothing changes
    still : looked_up old key ≡ None → (q : ℕ) → put (entries_in old) key None q ≡ entries_in old q
    still none q = kept (q == key) refl
      where
        kept : (b : Bool) → (q == key) ≡ b → (if b then None else entries_in old q) ≡ entries_in old q
        kept true t =
            let k : q ≡ key = grind (arith, nat_tests) in
            sym (entry_is old q ∙ ap (λ i. as_entry (looked_up old i)) k ∙ ap as_entry none)
        kept false f = refl

    go : (found : Option ℕ) (there : Bool) → found ≡ looked_up old key → there ≡ is_some found → (q : ℕ) →
        entries_in new q ≡ entries_after (entries_in old) Remove key there found q
    go None true e t q = absurd (cc)
    go None false e t q = put_is old new key None updates q ∙ still (sym e) q
    go (Some value) true e t q = put_is old new key None updates q
    go (Some value) false e t q = absurd (cc)

pub looked : (op : Op) (seen old : List (ℕ × ℕ)) (key : ℕ) (there : Bool) → op ≡ Has → old ≡ seen →
    there ≡ is_some (looked_up old key) → there ≡ reply_of (keys_in (entries_in seen)) op key
looked op seen old key there is same e = rw (is, ← same) (e ∙ sym (there_is old key))

pub got : (op : Op) (seen old : List (ℕ × ℕ)) (key : ℕ) (found : Option ℕ) (there : Bool) → op ≡ Get → old ≡ seen →
    found ≡ looked_up old key → there ≡ is_some found →
    (there ≡ reply_of (keys_in (entries_in seen)) op key) × GivesEntry (entries_in seen) op key there found
got op seen old key found there is same e t =
    rw (is, ← same) (t ∙ ap is_some e ∙ sym (there_is old key), gives_found old key found there e t)
