-- The calls of a lawful chronicle are legal, and the linked incarnations have exactly the keys of the set.
use Rattle.std.proofs.Common.{◌≡◌, ◌≢◌, ℕ, Bool, true, false, List, [], ◌∷◌, ◌++◌, append_assoc, Option, Some, refl}
use Rattle.std.proofs.Common.{arith, sym, ap, ◌∙◌, inl, inr}
use Rattle.std.specs.Prelude.{◌⊎◌}
use Rattle.std.specs.List.Sorted.{IsStrictlyIncreasing}
use Rattle.std.proofs.lemmas.Bool.Decides.{nat_tests}
use Rattle.std.proofs.lemmas.Bool.{cases_eq, cases_Bool}
use Rattle.vbr_machine.specs.Start.{Start}
use Rattle.vbr_machine.specs.Put.{put}
use Rattle.vbr_machine.specs.Keys.{Keys}
use Rattle.vbr_machine.specs.Opened.{opening_keys, opening_payloads, payload_kept, value_number}
use Rattle.vbr_machine.specs.History.{keys_after, set_after, Payloads, payloads_after, values_after}
use Rattle.vbr_machine.specs.Incarnations.{Linked, Marked, Incarnations, payload_of, at_opening}
use Rattle.vbr_machine.specs.Chronicles.{Happening, Advances, Gains, Probes, Raises, GivesUp, Bears, Keyed, Valued}
use Rattle.vbr_machine.specs.Chronicles.{Aims, Inserts, Removes, Replaces, Unlinks, Stamps, Confirms, Before, Entry}
use Rattle.vbr_machine.specs.Chronicles.{MayInsert, MayTakePlace, ChangesNothing, Allowed, becomes, incarnations_from}
use Rattle.vbr_machine.specs.Chronicles.{IsLawful}
use Rattle.vbr_machine.specs.Sound.{Sound, Tells}
use Rattle.vbr_machine.specs.declared.history.Call.{Call}
use Rattle.vbr_machine.specs.declared.history.Op.{Op}
use Rattle.vbr_machine.specs.declared.history.Op.TheVariants.{Insert, Remove, Has, Get}
use Rattle.vbr_machine.proofs.histories.Histories.{set_after-push, IsLegal-push, values_after-push, GiveStored-push}
use Rattle.vbr_machine.proofs.words.Puts.{put_here, put_other}
use Rattle.vbr_machine.proofs.chronicles.Lists.{no_key_between, keys_differ}
use Rattle.vbr_machine.proofs.chronicles.OpeningKeys.{key_in_set, number_of, number_is}
use Rattle.vbr_machine.proofs.chronicles.SoundAfter.{sound_kept, listed_at_first, state_at_first}

-- where the calls, and the keys of what is linked, stay as they were
same_calls : (start : Start) (a b : Incarnations) → Tells start a → b.calls ≡ a.calls →
    ((c : ℕ) → b.state c ≡ Linked → (a.state c ≡ Linked) × (b.key c ≡ a.key c) × (b.value c ≡ a.value c)) →
    ((c : ℕ) → a.state c ≡ Linked → (b.state c ≡ Linked) × (b.key c ≡ a.key c)) → Tells start b
same_calls start a b t e f g = record {
  legal = rw e t.legal;
  there = λ c h. rw (e, (f c h).1) (t.there c (f c h).0);
  only = λ k h. let u = t.only k (rw e at h) in (u.0, (g u.0 u.1).0, (g u.0 u.1).1 ∙ u.2);
  values = rw e t.values;
  stored = λ c h. let x = f c h in rw (e, x.1) (t.stored c x.0 ∙ ap (λ v. payload_kept start (Some v)) (sym x.2));
}

-- behind an insert the value of its key is that of its node
value_here : (start : Start) (a : Incarnations) {c d : ℕ} → d ≡ c →
    put (values_after (opening_payloads start) a.calls) (a.key c) (payload_of start a c) (a.key d)
    ≡ payload_of start a d
value_here start a {c} e =
    ap (λ i. put (values_after (opening_payloads start) a.calls) (a.key c) (payload_of start a c) (a.key i)) e
    ∙ put_here (values_after (opening_payloads start) a.calls) (a.key c) (payload_of start a c)
    ∙ ap (payload_of start a) (sym e)

tells_inserts : (start : Start) (a : Incarnations) (pass c : ℕ) (behind : Before) → Sound start a → Tells start a →
    MayInsert start a pass c behind → Tells start (becomes start a pass (Inserts c behind))
tells_inserts start a pass c behind s t h = record {
  legal = IsLegal-push (opening_keys start) a.calls x t.legal (rw absent);
  there = λ d l. rw (set_after-push (opening_keys start) a.calls x) (there d l (t.there d));
  only = λ k l. only k (rw (set_after-push (opening_keys start) a.calls x) at l) (t.only k);
  values = GiveStored-push (opening_payloads start) a.calls x t.values tt;
  stored = λ d l.
      ap (λ (payloads : Payloads). payloads (a.key d)) (values_after-push (opening_payloads start) a.calls x)
      ∙ stored d l (cases_eq d c);
}
  where
    x : Call
    x = record { who = pass; op = Insert; key = a.key c; reply = true; value = payload_of start a c }

    absent : set_after (opening_keys start) a.calls (a.key c) ≡ false
    absent = go (cases_Bool (set_after (opening_keys start) a.calls (a.key c)))
      where
        go : (set_after (opening_keys start) a.calls (a.key c) ≡ true) ⊎
            (set_after (opening_keys start) a.calls (a.key c) ≡ false) →
            set_after (opening_keys start) a.calls (a.key c) ≡ false
        go (inr e) = e
        go (inl e) =
            let u = t.only (a.key c) e in
            absurd (no_key_between s behind (a.key c) h.is_open h.above h.below u.0 (rw u.1 tt) u.2)

    stored : (d : ℕ) → put a.state c Linked d ≡ Linked → (d ≡ c) ⊎ (d ≢ c) →
        put (values_after (opening_payloads start) a.calls) (a.key c) (payload_of start a c) (a.key d)
        ≡ payload_of start a d
    stored d l (inl e) = value_here start a e
    stored d l (inr ne) =
        let linked : a.state d ≡ Linked = sym (put_other a.state c Linked d ne) ∙ l in
        let other : a.key d ≢ a.key c =
        λ e. (let u = t.there d linked in
        let v : set_after (opening_keys start) a.calls (a.key d) ≡ false =
        ap (set_after (opening_keys start) a.calls) e ∙ absent in
        cc) in
        put_other (values_after (opening_payloads start) a.calls) (a.key c) (payload_of start a c) (a.key d) other
        ∙ t.stored d linked

    there : (d : ℕ) → put a.state c Linked d ≡ Linked →
        (a.state d ≡ Linked → set_after (opening_keys start) a.calls (a.key d) ≡ true) →
        put (set_after (opening_keys start) a.calls) (a.key c) true (a.key d) ≡ true
    there d l u = grind (arith, nat_tests)

    only : (k : ℕ) → put (set_after (opening_keys start) a.calls) (a.key c) true k ≡ true →
        (set_after (opening_keys start) a.calls k ≡ true → (d : ℕ) × (a.state d ≡ Linked) × (a.key d ≡ k)) →
        (d : ℕ) × (put a.state c Linked d ≡ Linked) × (a.key d ≡ k)
    only k l u = go (cases_eq k (a.key c))
      where
        go : (k ≡ a.key c) ⊎ (k ≢ a.key c) → (d : ℕ) × (put a.state c Linked d ≡ Linked) × (a.key d ≡ k)
        go (inl e) = (c, grind (arith, nat_tests), sym e)
        go (inr ne) = let v = u (grind (arith, nat_tests)) in (v.0, let x = v.1 in grind (arith, nat_tests), v.2)

tells_removes : (start : Start) (a : Incarnations) (pass c : ℕ) → Sound start a → Tells start a → a.state c ≡ Linked →
    Tells start (becomes start a pass (Removes c))
tells_removes start a pass c s t h = record {
  legal = IsLegal-push (opening_keys start) a.calls x t.legal (sym (t.there c h));
  there = λ d l.
      rw (set_after-push (opening_keys start) a.calls x) (there d l (t.there d) (λ ld e. keys_differ s c d h ld e));
  only = λ k l. only k (rw (set_after-push (opening_keys start) a.calls x) at l) (t.only k);
  values = GiveStored-push (opening_payloads start) a.calls x t.values (sym (t.stored c h));
  stored = λ d l.
      ap (λ (payloads : Payloads). payloads (a.key d)) (values_after-push (opening_payloads start) a.calls x)
      ∙ t.stored d (still d l);
}
  where
    x : Call
    x = record { who = pass; op = Remove; key = a.key c; reply = true; value = payload_of start a c }

    still : (d : ℕ) → put a.state c Marked d ≡ Linked → a.state d ≡ Linked
    still d l = grind (arith, nat_tests)

    there : (d : ℕ) → put a.state c Marked d ≡ Linked →
        (a.state d ≡ Linked → set_after (opening_keys start) a.calls (a.key d) ≡ true) →
        (a.state d ≡ Linked → a.key c ≡ a.key d → c ≡ d) →
        put (set_after (opening_keys start) a.calls) (a.key c) false (a.key d) ≡ true
    there d l u v = grind (arith, nat_tests)

    only : (k : ℕ) → put (set_after (opening_keys start) a.calls) (a.key c) false k ≡ true →
        (set_after (opening_keys start) a.calls k ≡ true → (d : ℕ) × (a.state d ≡ Linked) × (a.key d ≡ k)) →
        (d : ℕ) × (put a.state c Marked d ≡ Linked) × (a.key d ≡ k)
    only k l u =
        let ne : k ≢ a.key c = grind (arith, nat_tests) in
        let v = u (grind (arith, nat_tests)) in
        (v.0, let y = v.1 in let z = v.2 in grind (arith, nat_tests), v.2)

-- two calls more at the end
two_more : (calls : List Call) (x y : Call) → (calls ++ x ∷ []) ++ y ∷ [] ≡ calls ++ x ∷ y ∷ []
two_more calls x y = append_assoc calls (x ∷ []) (y ∷ [])

tells_replaces : (start : Start) (a : Incarnations) (pass old c : ℕ) → Sound start a → Tells start a →
    MayTakePlace start a pass old c → Tells start (becomes start a pass (Replaces old c))
tells_replaces start a pass old c s t h = record {
  legal = rw (← two_more a.calls x y)
      (IsLegal-push (opening_keys start) (a.calls ++ x ∷ []) y
      (IsLegal-push (opening_keys start) a.calls x t.legal (sym (t.there old h.linked)))
      (rw (
        set_after-push (opening_keys start) a.calls x,
        h.same,
        put_here (set_after (opening_keys start) a.calls) (a.key old) false,
      ) refl));
  there = λ d l. rw keys_now (there d l (t.there d));
  only = λ k l. only k (rw keys_now at l) (t.only k);
  values = rw (← two_more a.calls x y)
      (GiveStored-push (opening_payloads start) (a.calls ++ x ∷ []) y
      (GiveStored-push (opening_payloads start) a.calls x t.values (sym (t.stored old h.linked))) tt);
  stored = λ d l. ap (λ (payloads : Payloads). payloads (a.key d)) values_now ∙ stored d l (cases_eq d c);
}
  where
    x : Call
    x = record { who = pass; op = Remove; key = a.key old; reply = true; value = payload_of start a old }

    y : Call
    y = record { who = pass; op = Insert; key = a.key c; reply = true; value = payload_of start a c }

    keys_now : set_after (opening_keys start) (a.calls ++ x ∷ y ∷ [])
        ≡ put (put (set_after (opening_keys start) a.calls) (a.key old) false) (a.key c) true
    keys_now =
        ap (set_after (opening_keys start)) (sym (two_more a.calls x y))
        ∙ set_after-push (opening_keys start) (a.calls ++ x ∷ []) y
        ∙ ap (λ (keys : Keys). put keys (a.key c) true) (set_after-push (opening_keys start) a.calls x)

    values_now : values_after (opening_payloads start) (a.calls ++ x ∷ y ∷ [])
        ≡ put (values_after (opening_payloads start) a.calls) (a.key c) (payload_of start a c)
    values_now =
        ap (values_after (opening_payloads start)) (sym (two_more a.calls x y))
        ∙ values_after-push (opening_payloads start) (a.calls ++ x ∷ []) y
        ∙ ap (λ (payloads : Payloads). put payloads (a.key c) (payload_of start a c))
        (values_after-push (opening_payloads start) a.calls x)

    was : (d : ℕ) → d ≢ c → put (put a.state old Marked) c Linked d ≡ Linked → a.state d ≡ Linked
    was d ne l = grind (arith, nat_tests)

    not_old : (d : ℕ) → d ≢ c → put (put a.state old Marked) c Linked d ≡ Linked → d ≢ old
    not_old d ne l = grind (arith, nat_tests)

    there : (d : ℕ) → put (put a.state old Marked) c Linked d ≡ Linked →
        (a.state d ≡ Linked → set_after (opening_keys start) a.calls (a.key d) ≡ true) →
        put (put (set_after (opening_keys start) a.calls) (a.key old) false) (a.key c) true (a.key d) ≡ true
    there d l u = let same = h.same in grind (arith, nat_tests)

    only : (k : ℕ) → put (put (set_after (opening_keys start) a.calls) (a.key old) false) (a.key c) true k ≡ true →
        (set_after (opening_keys start) a.calls k ≡ true → (d : ℕ) × (a.state d ≡ Linked) × (a.key d ≡ k)) →
        (d : ℕ) × (put (put a.state old Marked) c Linked d ≡ Linked) × (a.key d ≡ k)
    only k l u = go (cases_eq k (a.key c))
      where
        go : (k ≡ a.key c) ⊎ (k ≢ a.key c) →
            (d : ℕ) × (put (put a.state old Marked) c Linked d ≡ Linked) × (a.key d ≡ k)
        go (inl e) = (c, put_here (put a.state old Marked) c Linked, sym e)
        go (inr ne) =
            let same = h.same in
            let held = h.in_hand in
            let v = u (grind (arith, nat_tests)) in
            (v.0, (let y = v.1 in let z = v.2 in grind (arith, nat_tests)), v.2)

    stored : (d : ℕ) → put (put a.state old Marked) c Linked d ≡ Linked → (d ≡ c) ⊎ (d ≢ c) →
        put (values_after (opening_payloads start) a.calls) (a.key c) (payload_of start a c) (a.key d)
        ≡ payload_of start a d
    stored d l (inl e) = value_here start a e
    stored d l (inr ne) =
        let linked = was d ne l in
        let other : a.key d ≢ a.key c = λ e. not_old d ne l (keys_differ s d old linked h.linked (e ∙ h.same)) in
        put_other (values_after (opening_payloads start) a.calls) (a.key c) (payload_of start a c) (a.key d) other
        ∙ t.stored d linked

nothing_changes : (keys : Keys) (op : Op) (key : ℕ) (reply : Bool) → ChangesNothing op reply →
    keys_after keys op key reply ≡ keys
nothing_changes keys Insert key true h = absurd (cc)
nothing_changes keys Insert key false h = refl
nothing_changes keys Remove key true h = absurd (cc)
nothing_changes keys Remove key false h = refl
nothing_changes keys Has key reply h = refl
nothing_changes keys Get key reply h = refl

no_value_changes : (payloads : Payloads) (op : Op) (key : ℕ) (reply : Bool) (value : Option ℕ) →
    ChangesNothing op reply → payloads_after payloads op key reply value ≡ payloads
no_value_changes payloads Insert key true value h = absurd (cc)
no_value_changes payloads Insert key false value h = refl
no_value_changes payloads Remove key reply value h = refl
no_value_changes payloads Has key reply value h = refl
no_value_changes payloads Get key reply value h = refl

tells_answers : (start : Start) (a : Incarnations) (pass : ℕ) (x : Call) → Tells start a →
    Allowed start (opening_keys start) a pass (Confirms x) → Tells start (becomes start a pass (Confirms x))
tells_answers start a pass x t h = record {
  legal = IsLegal-push (opening_keys start) a.calls x t.legal h.2;
  there = λ d l.
      rw (
        set_after-push (opening_keys start) a.calls x,
        nothing_changes (set_after (opening_keys start) a.calls) x.op x.key x.reply h.1,
      ) (t.there d l);
  only = λ k l.
      t.only k (rw (
        set_after-push (opening_keys start) a.calls x,
        nothing_changes (set_after (opening_keys start) a.calls) x.op x.key x.reply h.1,
      ) at l);
  values = GiveStored-push (opening_payloads start) a.calls x t.values h.3;
  stored = λ d l.
      ap (λ (payloads : Payloads). payloads (a.key d))
      (values_after-push (opening_payloads start) a.calls x
      ∙ no_value_changes (values_after (opening_payloads start) a.calls) x.op x.key x.reply x.value h.1) ∙ t.stored d l;
}

pub tells_kept : (start : Start) (a : Incarnations) (pass : ℕ) (what : Happening) → Sound start a → Tells start a →
    Allowed start (opening_keys start) a pass what → Tells start (becomes start a pass what)
tells_kept start a pass Advances s t h =
    same_calls start a (becomes start a pass Advances) t refl (λ c e. (e, refl, refl)) (λ c e. (e, refl))
tells_kept start a pass (Gains v) s t h =
    same_calls start a (becomes start a pass (Gains v)) t refl (λ c e. (e, refl, refl)) (λ c e. (e, refl))
tells_kept start a pass (Probes v) s t h = t
tells_kept start a pass (Raises v) s t h =
    same_calls start a (becomes start a pass (Raises v)) t refl (λ c e. (e, refl, refl)) (λ c e. (e, refl))
tells_kept start a pass (GivesUp c) s t h =
    same_calls start a (becomes start a pass (GivesUp c)) t refl (λ d e. grind (arith, nat_tests))
    (λ d e. grind (arith, nat_tests))
tells_kept start a pass (Bears v b) s t h =
    let z = s.slots.unborn a.count (omega arith) in
    same_calls start a (becomes start a pass (Bears v b)) t refl (λ d e. grind (arith, nat_tests))
    (λ d e. grind (arith, nat_tests))
tells_kept start a pass (Keyed c key) s t h =
    same_calls start a (becomes start a pass (Keyed c key)) t refl (λ d e. grind (arith, nat_tests))
    (λ d e. grind (arith, nat_tests))
tells_kept start a pass (Valued c value) s t h =
    let z = h.0 in
    same_calls start a (becomes start a pass (Valued c value)) t refl (λ d e. (e, refl, grind (arith, nat_tests)))
    (λ d e. (e, refl))
tells_kept start a pass (Aims c link) s t h =
    same_calls start a (becomes start a pass (Aims c link)) t refl (λ c e. (e, refl, refl)) (λ c e. (e, refl))
tells_kept start a pass (Inserts c behind) s t h = tells_inserts start a pass c behind s t h
tells_kept start a pass (Removes c) s t h = tells_removes start a pass c s t h
tells_kept start a pass (Replaces old c) s t h = tells_replaces start a pass old c s t h
tells_kept start a pass (Unlinks c behind) s t h =
    let m = h.0 in
    same_calls start a (becomes start a pass (Unlinks c behind)) t refl (λ d e. grind (arith, nat_tests))
    (λ d e. grind (arith, nat_tests))
tells_kept start a pass (Stamps c stamp) s t h =
    same_calls start a (becomes start a pass (Stamps c stamp)) t refl (λ d e. grind (arith, nat_tests))
    (λ d e. grind (arith, nat_tests))
tells_kept start a pass (Confirms x) s t h = tells_answers start a pass x t h

pub tells_at_first : (start : Start) → IsStrictlyIncreasing start.keys → Tells start (at_opening start)
tells_at_first start up = record {
  legal = tt;
  there = λ c e. key_in_set start c (listed_at_first start c (rw e tt));
  only = λ key e. let x = number_of key start.keys e in (x.0, state_at_first start x.0 x.1, x.2);
  values = tt;
  stored = λ c e.
      ap (λ n. payload_kept start (Some (value_number start n)))
      (number_is start.keys up c (listed_at_first start c (rw e tt)));
}

pub tells_after : (start : Start) (a : Incarnations) (entries : List Entry) → Sound start a → Tells start a →
    IsLawful start (opening_keys start) a entries → Tells start (incarnations_from start a entries)
tells_after start a [] s t l = t
tells_after start a (entry ∷ entries) s t l =
    tells_after start (becomes start a entry.pass entry.what) entries
    (sound_kept start (opening_keys start) a entry.pass entry.what s l.0)
    (tells_kept start a entry.pass entry.what s t l.0) l.1
