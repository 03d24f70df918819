-- What a store's change returns once what was there was read, seen from before that.
use Rattle.vbr_list.proofs.Names.{◌≡◌, ℕ, ◌+◌, ◌≤◌, Bool, true, false, Option, Some, None, inl, inr, arith, subst, ap}
use Rattle.vbr_list.proofs.Names.{refl, counts_on, Found, Ghosts, GoesOn, had_grown, had_node, had_on, HandView}
use Rattle.vbr_list.proofs.Names.{HasStill, IsSameCall, IsThere, Keeps, Know, knows, LeavesInHand, LeavesReplaced}
use Rattle.vbr_list.proofs.Names.{LinksNode, Made, Makes, MarksAndSearches, MaySettle, none_on, pass_in, PassLaw}
use Rattle.vbr_list.proofs.Names.{PendingCall, PIECE, PublishesSlot, quiet_on, ReadsIn, same_on, SettlesIn}
use Rattle.vbr_list.proofs.Names.{SettlesSoon, steps_to_update, steps_where, stored_in, StoresByHand, storing_calls}
use Rattle.vbr_list.proofs.Names.{trace_in}
use Rattle.vbr_list.proofs.traversals.Disturbing.{run_of}
use Rattle.vbr_list.proofs.look_ups.FoundValues.{few_where, read_goes}
use Rattle.vbr_list.proofs.look_ups.ReadFirst.{found_lost_since}
use Rattle.vbr_list.proofs.named_entries.Publishing.{published_since}
use Rattle.vbr_list.proofs.pieces.Going.{call_on}
use Rattle.vbr_list.proofs.pieces.Told.{stored_same, told_since}
use Rattle.vbr_list.proofs.removes.Marks.{marks_later}
use Rattle.vbr_list.proofs.stores.Stores.{makes_on, unless_since}
use Rattle.vbr_list.proofs.traversals.Sweeping.{leaves_replaced_since}

-- the slot in hand was published: by an insert where the key was absent, else in the place of a node
abbrev pub Changes : {N : Type 0} {kind : Ghosts N} → ℕ → ℕ → PendingCall N kind → PendingCall N kind → HandView →
    Found → Option ℕ → Type 0
Changes most value c d hand found None = LinksNode value c d hand
Changes most value c d hand found (Some old) = StoresByHand most value c d hand found (Some old)

-- the steps of a change that is lost
abbrev pub steps_to_lose : Option ℕ → ℕ
steps_to_lose None = 4
steps_to_lose (Some old) = 6

-- the steps of what was read and lost, by whether the call gives what was there
abbrev pub each_lost : Bool → ℕ
each_lost true = 8
each_lost false = 4

lost_few : (gives present : Bool) (there : Option ℕ) → (gives ≡ false → there ≡ None) →
    (had_node there ≡ false → present ≡ false) → steps_where present + steps_to_lose there ≤ each_lost gives
lost_few true present None none absent = let few = few_where present in omega (arith, few)
lost_few true present (Some old) none absent = let few = few_where present in omega (arith, few)
lost_few false present None none absent = rw (absent refl) (omega arith)
lost_few false present (Some old) none absent = absurd (let z : Some old ≡ None = none refl in cc)

-- an absent key has no node there
none_there : (know : Know) (found : Found) (there : Option ℕ) → IsThere know found there →
    had_node there ≡ false → found.present ≡ false
none_there know found None x none = x
none_there know found (Some old) x none = absurd (let z : true ≡ false = none in cc)

module _ {N : Type 0} {kind : Ghosts N} (b c d : PendingCall N kind) (found : Found)
    (law : PassLaw (pass_in b)) (call : IsSameCall b c) (used : c.used ≡ b.used + steps_where found.present)
    (read : ReadsIn (pass_in b) (pass_in c) (steps_where found.present))
    (keeps : Keeps (knows (trace_in b)) (knows (trace_in c))) where
  went : GoesOn b c
  went = read_goes (steps_where found.present) call used read

  still : HasStill (pass_in b) (pass_in c)
  still = had_grown (pass_in b) (pass_in c) went.goes.hand.takes_no_slot.grows went.goes.hand.hand

  -- what stays of the call
  pub settles_since : MaySettle c d → MaySettle b d
  settles_since x = record {
    call = call_on call x.call;
    counts = counts_on went.goes.counts x.counts;
    more = (let low = went.more in let more = x.more in omega (arith, low, more));
    takes_no_slot = none_on went.goes.hand.takes_no_slot x.takes_no_slot;
  }

  soon_since : (stored : Bool) → SettlesSoon 6 stored c d → SettlesSoon PIECE stored b d
  soon_since stored soon = record {
    few = let then = soon.few in let few = few_where found.present in omega (arith, then, used, few);
    leaves = λ yes room.
        let budget = call.budget in
        let few = few_where found.present in
        let L : ℕ → Type 0 = λ k. LeavesReplaced (trace_in c) (trace_in d) k in
        leaves_replaced_since (trace_in d) b.key law.start read.quiet
        (subst L call.key (soon.leaves yes (omega (arith, room, used, few, budget))));
  }

  -- what it cost
  paid_since : (stored : Bool) → SettlesIn 6 stored c d found → SettlesIn PIECE stored b d found
  paid_since false soon = soon_since false soon
  paid_since true (inl soon) = inl (soon_since true soon)
  paid_since true (inr late) =
      let M : ℕ → Type 0 = λ k. MarksAndSearches 6 (trace_in c) (trace_in d) k c.used d.used found.pred in
      let x : MarksAndSearches 6 (trace_in c) (trace_in d) b.key c.used d.used found.pred = subst M call.key late in
      let quiet = read.quiet in
      let few = few_where found.present in
      inr (record {
        marked = x.marked;
        marks = marks_later (trace_in b) (trace_in c) x.marked b.key found.pred law.start
            (run_of law quiet) quiet read.adds_none keeps.epoch went.goes.hand.takes_no_slot.count x.marks;
        used = x.used;
        few = let then = x.few in omega (arith, then, used, few);
        searches = x.searches;
      })

  -- the value is stored in the place of another
  pub stores_since : (value old : ℕ) (hand : HandView) → StoresByHand 6 value c d hand found (Some old) →
      StoresByHand PIECE value b d hand found (Some old)
  stores_since value old hand x =
      let p = trace_in b in
      let q = trace_in c in
      let r = trace_in d in
      let quiet = read.quiet in
      let K : ℕ → Type 0 = λ k. Makes (storing_calls q.who k value (Some old)) p r in
      let W : ℕ → Type 0 = λ who. Makes (storing_calls who b.key value (Some old)) p r in
      let S : ℕ → Type 0 = λ k. PublishesSlot p x.slot.ended hand.slot hand.birth k in
      let L : ℕ → Type 0 = LeavesReplaced q r in
      record {
        stores = record {
          made = subst W quiet.same.who
              (subst K call.key (makes_on p q r (storing_calls q.who c.key value (Some old)) quiet x.stores.made));
          spent = x.stores.spent;
        };
        slot = record {
          ended = x.slot.ended;
          same = same_on quiet.same x.slot.same;
          to = x.slot.to;
          published = subst S call.key (published_since quiet x.slot.published);
        };
        had = unless_since true (pass_in b) (pass_in c) (pass_in d) still x.had;
        leaves = λ yes room.
            leaves_replaced_since r b.key law.start quiet (subst L call.key (x.leaves yes room));
        paid = paid_since true x.paid;
      }

  -- or it is inserted
  linked_since : (value : ℕ) (hand : HandView) → found.present ≡ false → LinksNode value c d hand →
      LinksNode value b d hand
  linked_since value hand absent x =
      let p = trace_in b in
      let q = trace_in c in
      let r = trace_in d in
      let quiet = read.quiet in
      let K : ℕ → Type 0 = λ k. Made (stored_in q k value true) q r in
      let S : ℕ → Type 0 = λ k. PublishesSlot p r hand.slot hand.birth k in
      let none = ap steps_where absent in
      let few = x.few in
      let start = ap steps_to_update quiet.same.start in
      record {
        made = told_since quiet (stored_same quiet.same b.key value true) (subst K call.key x.made);
        spent = x.spent;
        slot = subst S call.key (published_since quiet x.slot);
        had = unless_since true (pass_in b) (pass_in c) (pass_in d) still x.had;
        few = omega (arith, used, none, few, start);
      }

  pub changes_since : (value : ℕ) (hand : HandView) (there : Option ℕ) → IsThere (knows (trace_in c)) found there →
      Changes 6 value c d hand found there → Changes PIECE value b d hand found there
  changes_since value hand None absent x = linked_since value hand absent x
  changes_since value hand (Some old) there x = stores_since value old hand x

  -- or neither, as what was found is lost
  pub leaves_since : (gives : Bool) (hand back : HandView) (there : Option ℕ) → (gives ≡ false → there ≡ None) →
      IsThere (knows (trace_in c)) found there → LeavesInHand (steps_to_lose there) c d found hand back →
      LeavesInHand (each_lost gives) b d found hand back
  leaves_since gives hand back there none is x =
      let few = lost_few gives found.present there none (none_there (knows (trace_in c)) found there is) in
      let more = x.few in
      record {
        given = record {
          quiet = quiet_on read.quiet x.given.quiet;
          hand = x.given.hand;
          loses = found_lost_since found law read keeps x.given.loses;
        };
        same = x.same;
        had = had_on (pass_in b) (pass_in c) (pass_in d) still x.had;
        few = omega (arith, used, few, more);
      }
