-- What calls on the plain set and on the plain map return: one record for each outcome.
use Rattle.std.specs.Prelude.{◌≡◌, ℕ, Bool, true, false, List, Option, Some, take, drop, slice_get}
use Rattle.vbr_machine.specs.Keys.{keys_of}
use Rattle.vbr_machine.specs.History.{reply_of, keys_after, Leads}
use Rattle.vbr_machine.specs.Maps.{keys_in, entries_in, entries_after, GivesEntry, MapLeads, StoreAsked}
use Rattle.vbr_machine.specs.declared.history.Call.{Call}
use Rattle.vbr_machine.specs.declared.history.Op.{Op}
use Rattle.vbr_machine.specs.declared.history.Op.TheVariants.{Insert}

-- a set with these keys gives this reply, and then has the keys that the call leaves
pub record SetAnswers (old new : List ℕ) (op : Op) (key : ℕ) (answer : Bool) : Type 0 where
  pub reply : answer ≡ reply_of (keys_of old) op key
  pub after : (q : ℕ) → keys_of new q ≡ keys_after (keys_of old) op key answer q

-- without memory a set is as it was, and the call was an insert of an absent key
pub record SetRefuses (old new : List ℕ) (op : Op) (key : ℕ) : Type 0 where
  pub unchanged : new ≡ old
  pub insert : op ≡ Insert
  pub absent : keys_of old key ≡ false

-- calls before one that was refused, an insert of a key that is then absent, are answered, from the keys before to the keys after, and that one and the others are untouched
pub record SetStops (old new : List ℕ) (asked calls : List Call) : Type 0 where
  pub count : ℕ
  pub stopped : Call
  pub here : slice_get asked count ≡ Some stopped
  pub insert : stopped.op ≡ Insert
  pub absent : keys_of new stopped.key ≡ false
  pub leads : Leads (keys_of old) (take count calls) (keys_of new)
  pub rest : drop count calls ≡ drop count asked

-- a map with these entries gives this reply and this value, which an insert answered yes was passed, and then has the entries that the call leaves
pub record MapAnswers (old new : List (ℕ × ℕ)) (op : Op) (key value : ℕ) (answer : Bool × Option ℕ) : Type 0 where
  pub reply : answer.0 ≡ reply_of (keys_in (entries_in old)) op key
  pub gives : GivesEntry (entries_in old) op key answer.0 answer.1
  pub stored : op ≡ Insert → answer.0 ≡ true → answer.1 ≡ Some value
  pub after : (q : ℕ) → entries_in new q ≡ entries_after (entries_in old) op key answer.0 answer.1 q

-- without memory a map is as it was, and the call was an insert of an absent key
pub record MapRefuses (old new : List (ℕ × ℕ)) (op : Op) (key : ℕ) : Type 0 where
  pub unchanged : new ≡ old
  pub insert : op ≡ Insert
  pub absent : keys_in (entries_in old) key ≡ false

-- calls before one that was refused, an insert of a key that is then absent, are answered, from the entries before to the entries after, and that one and the others are untouched
pub record MapStops (old new : List (ℕ × ℕ)) (asked calls : List Call) : Type 0 where
  pub count : ℕ
  pub stopped : Call
  pub here : slice_get asked count ≡ Some stopped
  pub insert : stopped.op ≡ Insert
  pub absent : keys_in (entries_in new) stopped.key ≡ false
  pub leads : MapLeads (entries_in old) (take count calls) (entries_in new)
  pub stored : StoreAsked (take count asked) (take count calls)
  pub rest : drop count calls ≡ drop count asked
