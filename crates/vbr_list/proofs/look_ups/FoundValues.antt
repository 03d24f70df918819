-- What a search found is read, and answers a get.
use Rattle.vbr_list.proofs.Names.{◌≡◌, ℕ, ◌+◌, ◌<◌, ◌≤◌, Bool, true, false, Option, Some, None, arith, refl, sym}
use Rattle.vbr_list.proofs.Names.{subst, is_some, IsSome, Asks, birth_steps, counts_on, CountsSteps, entry_call}
use Rattle.vbr_list.proofs.Names.{Found, Ghosts, given_call, GoesOn, Held, held_kept, Insert, IsEnd, IsFoundValue}
use Rattle.vbr_list.proofs.Names.{IsSame, IsSameCall, IsThere, Keeps, KeepsIn, Know, knows, link_of, Locates, Made}
use Rattle.vbr_list.proofs.Names.{made_on, MadeTwo, pass_in, payload_kept, PendingCall, Quiet, ReadsIn, Remove, Start}
use Rattle.vbr_list.proofs.Names.{steps_to_birth, steps_where, stored_call, TellsThere, told_otherwise, Trace}
use Rattle.vbr_list.proofs.Names.{trace_in, ValueAt}
use Rattle.vbr_list.proofs.pieces.Going.{call_on, counts_step, goes_read, settles_step}
use Rattle.vbr_list.proofs.pieces.KeptHands.{hand_on, own_kept}
use Rattle.vbr_list.proofs.traversals.Reaching.{key_kept, pred_on}
use Rattle.vbr_list.proofs.pieces.Told.{kept_all}

-- ---- what was found is known later

end_on : {know later : Know} (key : ℕ) (pred : Held) (cur : Option Held) (present : Bool) → Keeps know later →
    IsEnd know key pred cur present → IsEnd later key pred cur present
end_on key pred None present keeps x = x
end_on key pred (Some cur) present keeps x = record {
  held = held_kept cur keeps x.held;
  unmarked = x.unmarked;
  slot = x.slot;
  named = x.named;
  place = x.place;
  here = x.here;
  read = key_kept cur.at x.here keeps x.read;
  not_smaller = x.not_smaller;
  says = x.says;
}

pub located_on : {p q : Trace} (key : ℕ) (found : Found) → IsSame p q → Keeps (knows p) (knows q) →
    Locates p.start (knows p) key found → Locates q.start (knows q) key found
located_on key found same keeps x =
    record {
      pred = pred_on key found.pred same keeps x.pred;
      end = end_on key found.pred found.cur found.present keeps x.end;
    }

-- the value that was read is that of the node which was found
pub value_found : {know : Know} {value : ℕ} (found : Found) (cur : Held) → found.present ≡ true → found.cur ≡ Some cur →
    ValueAt know cur.at value → IsFoundValue know found value
value_found {know} {value} found cur present is x = record {
  present = present;
  known = λ other e.
      let same : cur ≡ other = cc in
      let P : Held → Type 0 = λ held. ValueAt know held.at value in
      subst P same x;
}

-- ---- what was there

pub there_absent : (know : Know) (found : Found) (there : Option ℕ) → is_some there ≡ false → IsThere know found there →
    found.present ≡ false
there_absent know found None none x = x
there_absent know found (Some value) none x = absurd (cc)

pub none_there : (there : Option ℕ) → is_some there ≡ false → None ≡ there
none_there None none = refl
none_there (Some value) none = absurd (cc)

pub there_value : (know : Know) (found : Found) (there : Option ℕ) → is_some there ≡ true → IsThere know found there →
    (value : ℕ) × (Some value ≡ there) × IsFoundValue know found value
there_value know found None some x = absurd (cc)
there_value know found (Some value) some x = (value, refl, x)

-- ---- steps

pub few_where : (yes : Bool) → steps_where yes ≤ 2
few_where true = omega arith
few_where false = omega arith

some_steps : (named : Option ℕ) → IsSome named → 0 < birth_steps named
some_steps None some = let no : false ≡ true = some in absurd (cc)
some_steps (Some slot) some = omega arith

-- the birth of a node takes some
pub some_birth : (word : ℕ) → IsSome (link_of word).slot → 0 < steps_to_birth word
some_birth word some = some_steps (link_of word).slot some

-- a value was read
pub read_goes : {N : Type 0} {kind : Ghosts N} {c d : PendingCall N kind} (steps : ℕ) → IsSameCall c d →
    d.used ≡ c.used + steps → ReadsIn (pass_in c) (pass_in d) steps → GoesOn c d
read_goes {c = c} {d = d} steps same used reads =
    let goes = goes_read c.used reads in
    record {
      call = same;
      goes = record {
        quiet = goes.quiet;
        counts = subst (CountsSteps (trace_in c) (trace_in d) c.used) (sym used) goes.counts;
        hand = goes.hand;
      };
      more = omega (arith, used);
    }

pub asks_read : {N : Type 0} {kind : Ghosts N} {c d : PendingCall N kind} (present : Bool) → IsSameCall c d →
    d.used ≡ c.used + steps_where present → ReadsIn (pass_in c) (pass_in d) (steps_where present) → Asks c d
asks_read present same used reads =
    let went = read_goes (steps_where present) same used reads in
    let few = few_where present in
    record {
      call = same;
      counts = went.goes.counts;
      hand = went.goes.hand;
      more = went.more;
      few = omega (arith, used, few);
    }

-- one step answered, or didn't
pub asks_one : {N : Type 0} {kind : Ghosts N} {c d : PendingCall N kind} → IsSameCall c d → d.used ≡ c.used + 1 →
    KeepsIn (pass_in c) (pass_in d) 1 → Asks c d
asks_one same used keeps =
    let x = settles_step same used keeps in
    record {
      call = same;
      counts = x.counts;
      hand = x.hand;
      more = omega (arith, used);
      few = omega (arith, used);
    }

-- so it did after a value was read
pub asks_then : {N : Type 0} {kind : Ghosts N} {c d e : PendingCall N kind} (present : Bool) → IsSameCall c d →
    d.used ≡ c.used + steps_where present → ReadsIn (pass_in c) (pass_in d) (steps_where present) → IsSameCall d e →
    e.used ≡ d.used + 1 → KeepsIn (pass_in d) (pass_in e) 1 → Asks c e
asks_then {c = c} {d = d} {e = e} present same used reads then one keeps =
    let first = asks_read present same used reads in
    let few = few_where present in
    let last = subst (CountsSteps (trace_in d) (trace_in e) d.used) (sym one) (counts_step d.used 1 keeps.took) in
    record {
      call = call_on same then;
      counts = counts_on first.counts last;
      hand = hand_on first.hand (own_kept keeps.own keeps.takes_no_slot);
      more = omega (arith, used, one);
      few = omega (arith, used, one, few);
    }

-- what a call is told that finds its key otherwise, after what made no call
pub otherwise_since : {N : Type 0} {kind : Ghosts N} (gives : Bool) (c d e : PendingCall N kind) (there : Option ℕ) →
    d.key ≡ c.key → Quiet (trace_in c) (trace_in d) →
    Made (told_otherwise gives (trace_in d).who d.key there) (trace_in d) (trace_in e) →
    Made (told_otherwise gives (trace_in c).who c.key there) (trace_in c) (trace_in e)
otherwise_since gives c d e there key quiet made =
    let K : ℕ → Type 0 = λ k. Made (told_otherwise gives (trace_in d).who k there) (trace_in c) (trace_in e) in
    let W : ℕ → Type 0 = λ who. Made (told_otherwise gives who c.key there) (trace_in c) (trace_in e) in
    subst W quiet.same.who (subst K key (made_on quiet made))

-- so it is of a get
pub tells_since : {N : Type 0} {kind : Ghosts N} (c d e : PendingCall N kind) (there : Option ℕ) → d.key ≡ c.key →
    Quiet (trace_in c) (trace_in d) → TellsThere d e there → TellsThere c e there
tells_since c d e there key quiet made = otherwise_since true c d e there key quiet made

-- ---- calls as a table of entries keeps them

-- where nodes have values, an insert is that of its value
pub insert_told : {p q : Trace} (start : Start) (who key value : ℕ) → start.shape.values ≡ true →
    Made (entry_call start who Insert key true value) p q → Made (stored_call who key value true) p q
insert_told {p} {q} start who key value has made =
    let M : Option ℕ → Type 0 =
    λ kept. Made (record { who = who; op = Insert; key = key; reply = true; value = kept }) p q in
    subst M (kept_all start (Some value) has) made

-- and so are a remove and the insert next to it
pub two_told : {p q : Trace} (start : Start) (who key old value : ℕ) → start.shape.values ≡ true →
    MadeTwo (entry_call start who Remove key true old) (entry_call start who Insert key true value) p q →
    MadeTwo (given_call who Remove key (Some old)) (stored_call who key value true) p q
two_told {p} {q} start who key old value has made =
    let M : Option ℕ → Option ℕ → Type 0 =
    λ gone kept.
    MadeTwo (record { who = who; op = Remove; key = key; reply = true; value = gone })
    (record { who = who; op = Insert; key = key; reply = true; value = kept }) p q in
    let L : Option ℕ → Type 0 = λ kept. M (payload_kept start (Some old)) kept in
    let F : Option ℕ → Type 0 = λ gone. M gone (Some value) in
    subst F (kept_all start (Some old) has) (subst L (kept_all start (Some value) has) made)
