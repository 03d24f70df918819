-- The calls of a legal history change the number of keys by what they did.
use Rattle.std.proofs.Common.{◌≡◌, ℕ, suc, Bool, true, false, cond, List, [], ◌∷◌, length, refl, sym, ap, ◌∙◌}
use Rattle.std.proofs.Common.{arith, inl, inr}
use Rattle.std.specs.Prelude.{◌⊎◌, ◌||◌, ℤ, pos, ◌+ℤ◌, nat_eq}
use Rattle.std.specs.List.{AllByRecursion, IsDistinct, list_any}
use Rattle.std.proofs.lemmas.Bool.{cases_Bool, eqb-true, false≢true, not-true, true≢false}
use Rattle.std.proofs.lemmas.Int.{ints}
use Rattle.std.proofs.lemmas.Map.Keys.{IsDistinct-cons, IsDistinct-head, IsDistinct-tail}
use Rattle.std.proofs.lemmas.Cmp.{nat_eq_equiv}
use Rattle.std.proofs.lemmas.Map.Made.{length-from_same_keys}
use Rattle.vbr_machine.specs.History.{IsLegal, keys_after, reply_of, set_after}
use Rattle.vbr_machine.specs.Keys.{Keys, keys_of}
use Rattle.vbr_machine.specs.declared.history.Call.{Call}
use Rattle.vbr_machine.specs.declared.history.Op.{Op}
use Rattle.vbr_machine.specs.declared.history.Op.TheVariants.{Insert, Remove}
use Rattle.vbr_set.specs.members.Balances.{change_by, change_of}

-- a list has each key of a set once
pub record ListsOnce (listed : List ℕ) (keys : Keys) : Type 0 where
  pub distinct : IsDistinct nat_eq listed
  pub same : (key : ℕ) → keys_of listed key ≡ keys key

-- ---- one key more

or_put : (b x y : Bool) → x ≡ y → (b || x) ≡ cond b true y
or_put true x y e = refl
or_put false x y e = e

none_is : (key : ℕ) (xs : List ℕ) → list_any (nat_eq key) xs ≡ false → AllByRecursion (λ y. nat_eq key y ≡ false) xs
none_is key [] e = tt
none_is key (x ∷ xs) e = elim (cases_Bool (nat_eq key x)) [
  | inl here ↦ absurd (true≢false (sym (ap (λ b. b || list_any (nat_eq key) xs) here) ∙ e))
  | inr away ↦ (away, (none_is key xs (sym (ap (λ b. b || list_any (nat_eq key) xs) away) ∙ e)))
]

any_none : (key : ℕ) (xs : List ℕ) → AllByRecursion (λ y. nat_eq key y ≡ false) xs → list_any (nat_eq key) xs ≡ false
any_none key [] none = refl
any_none key (x ∷ xs) none = ap (λ b. b || list_any (nat_eq key) xs) none.0 ∙ any_none key xs none.1

one_more : (listed : List ℕ) (keys : Keys) (key : ℕ) → ListsOnce listed keys → keys key ≡ false →
    ListsOnce (key ∷ listed) (keys_after keys Insert key true)
one_more listed keys key lists absent = record {
  distinct = IsDistinct-cons nat_eq key listed (none_is key listed (lists.same key ∙ absent)) lists.distinct;
  same = λ k. or_put (nat_eq k key) (list_any (nat_eq k) listed) (keys k) (lists.same k);
}

-- ---- one key fewer

-- a list without a key
abbrev without : ℕ → List ℕ → List ℕ
without key [] = []
without key (x ∷ xs) = cond (nat_eq key x) xs (x ∷ without key xs)

all_left : (P : ℕ → Type 0) (key : ℕ) (xs : List ℕ) → AllByRecursion P xs → AllByRecursion P (without key xs)
all_left P key [] all = tt
all_left P key (x ∷ xs) all = go (all_left P key xs all.1) (nat_eq key x)
  where
    go : AllByRecursion P (without key xs) → (b : Bool) → AllByRecursion P (cond b xs (x ∷ without key xs))
    go later true = all.1
    go later false = (all.0, later)

distinct_left : (key : ℕ) (xs : List ℕ) → IsDistinct nat_eq xs → IsDistinct nat_eq (without key xs)
distinct_left key [] distinct = distinct
distinct_left key (x ∷ xs) distinct = go (distinct_left key xs (IsDistinct-tail nat_eq x xs distinct)) (nat_eq key x)
  where
    go : IsDistinct nat_eq (without key xs) → (b : Bool) → IsDistinct nat_eq (cond b xs (x ∷ without key xs))
    go later true = IsDistinct-tail nat_eq x xs distinct
    go later false =
        IsDistinct-cons nat_eq x (without key xs)
        (all_left (λ y. nat_eq x y ≡ false) key xs (IsDistinct-head nat_eq x xs distinct)) later

length_left : (key : ℕ) (xs : List ℕ) → list_any (nat_eq key) xs ≡ true → length xs ≡ suc (length (without key xs))
length_left key [] e = absurd (false≢true e)
length_left key (x ∷ xs) e = elim (cases_Bool (nat_eq key x)) [
  | inl here ↦ ap (λ (b : Bool). suc (length (cond b xs (x ∷ without key xs)))) (sym here)
  | inr away ↦ ap suc (length_left key xs (sym (ap (λ (b : Bool). b || list_any (nat_eq key) xs) away) ∙ e))
      ∙ ap (λ (b : Bool). suc (length (cond b xs (x ∷ without key xs)))) (sym away)
]

-- the other keys are left
abbrev OthersLeft : ℕ → ℕ → List ℕ → Type 0
OthersLeft key k xs = list_any (nat_eq k) (without key xs) ≡ cond (nat_eq k key) false (list_any (nat_eq k) xs)

left_is : (key k : ℕ) (xs : List ℕ) → IsDistinct nat_eq xs → OthersLeft key k xs
left_is key k [] distinct = go (nat_eq k key)
  where
    go : (b : Bool) → false ≡ cond b false false
    go true = refl
    go false = refl
left_is key k (x ∷ xs) distinct =
    go (left_is key k xs (IsDistinct-tail nat_eq x xs distinct)) (cases_Bool (nat_eq key x)) (cases_Bool (nat_eq k key))
  where
    -- what is left where the first key goes or stays, and what is wanted of the key that goes or of another
    from : (b c : Bool) → nat_eq key x ≡ b → nat_eq k key ≡ c →
        list_any (nat_eq k) (cond b xs (x ∷ without key xs)) ≡ cond c false (nat_eq k x || list_any (nat_eq k) xs) →
        OthersLeft key k (x ∷ xs)
    from b c here same e = ap (λ (t : Bool). list_any (nat_eq k) (cond t xs (x ∷ without key xs))) here ∙ e
        ∙ ap (λ (t : Bool). cond t false (nat_eq k x || list_any (nat_eq k) xs)) (sym same)

    go : OthersLeft key k xs → (nat_eq key x ≡ true) ⊎ (nat_eq key x ≡ false) →
        (nat_eq k key ≡ true) ⊎ (nat_eq k key ≡ false) → OthersLeft key k (x ∷ xs)
    go so_far (inl here) (inl same) =
        let is : x ≡ k = sym (eqb-true key x here) ∙ sym (eqb-true k key same) in
        from true true here same
        (ap (λ (n : ℕ). list_any (nat_eq n) xs) (sym is) ∙ any_none x xs (IsDistinct-head nat_eq x xs distinct))
    go so_far (inl here) (inr other) =
        let is : key ≡ x = eqb-true key x here in
        from true false here other
        (sym (ap (λ (b : Bool). b || list_any (nat_eq k) xs) (ap (nat_eq k) (sym is) ∙ other)))
    go so_far (inr stays) (inl same) =
        let is : k ≡ key = eqb-true k key same in
        from false true stays same
        (ap (λ (b : Bool). b || list_any (nat_eq k) (without key xs)) (ap (λ (n : ℕ). nat_eq n x) is ∙ stays) ∙ so_far
        ∙ ap (λ (b : Bool). cond b false (list_any (nat_eq k) xs)) same)
    go so_far (inr stays) (inr other) =
        from false false stays other
        (ap (λ (b : Bool). nat_eq k x || b) (so_far ∙ ap (λ (b : Bool). cond b false (list_any (nat_eq k) xs)) other))

one_fewer : (listed : List ℕ) (keys : Keys) (key : ℕ) → ListsOnce listed keys →
    ListsOnce (without key listed) (keys_after keys Remove key true)
one_fewer listed keys key lists = record {
  distinct = distinct_left key listed lists.distinct;
  same = λ k. left_is key k listed lists.distinct ∙ ap (λ (b : Bool). cond (nat_eq k key) false b) (lists.same k);
}

-- ---- calls

-- a list of the keys after calls, longer by what these did than one of the keys before
record Leads (listed : List ℕ) (change : ℤ) (keys : Keys) : Type 0 where
  after : List ℕ
  lists : ListsOnce after keys
  long : pos (length after) ≡ pos (length listed) +ℤ change

stays : (listed : List ℕ) (keys : Keys) → ListsOnce listed keys → Leads listed (pos 0) keys
stays listed keys lists = record { after = listed; lists = lists; long = omega (arith, ints) }

one_call : (listed : List ℕ) (keys : Keys) (op : Op) (key : ℕ) (reply : Bool) → ListsOnce listed keys →
    reply ≡ reply_of keys op key → Leads listed (change_by op reply) (keys_after keys op key reply)
one_call listed keys Insert key true lists legal =
    record {
      after = key ∷ listed;
      lists = one_more listed keys key lists (not-true (keys key) (sym legal));
      long = omega (arith, ints);
    }
one_call listed keys Remove key true lists legal =
    let shorter = length_left key listed (lists.same key ∙ sym legal) in
    record { after = without key listed; lists = one_fewer listed keys key lists; long = omega (arith, ints, shorter) }
one_call listed keys _ key _ lists legal = stays listed keys lists

all_calls : (listed : List ℕ) (keys : Keys) (calls : List Call) → ListsOnce listed keys → IsLegal keys calls →
    Leads listed (change_of calls) (set_after keys calls)
all_calls listed keys [] lists legal = stays listed keys lists
all_calls listed keys (call ∷ calls) lists legal =
    let one = one_call listed keys call.op call.key call.reply lists legal.0 in
    let more = all_calls one.after (keys_after keys call.op call.key call.reply) calls one.lists legal.1 in
    record {
      after = more.after;
      lists = more.lists;
      long = (let first = one.long in let rest = more.long in omega (arith, ints, first, rest));
    }

-- so it is of each list of the keys before and after a legal history
pub counted_after : (before after : List ℕ) (keys : Keys) (calls : List Call) → ListsOnce before keys →
    IsLegal keys calls → ListsOnce after (set_after keys calls)
    → pos (length after) ≡ pos (length before) +ℤ change_of calls
counted_after before after keys calls lists legal there =
    let leads = all_calls before keys calls lists legal in
    ap pos (length-from_same_keys nat_eq_equiv after leads.after there.distinct leads.lists.distinct
    (λ key. there.same key ∙ sym (leads.lists.same key))) ∙ leads.long
