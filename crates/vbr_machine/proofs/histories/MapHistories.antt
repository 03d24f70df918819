-- A history that is legal as a set's, and gives the values that were stored, is one of a map.
-- A map that stores no value is a set.
use Rattle.std.proofs.Common.{◌≡◌, ◌≢◌, ℕ, Bool, true, false, List, [], ◌∷◌, ◌++◌, Option, Some, None, refl, sym, ap}
use Rattle.std.proofs.Common.{◌∙◌, inl, inr}
use Rattle.std.specs.Prelude.{◌⊎◌, ◌==◌, is_some, if◌then◌else◌}
use Rattle.std.proofs.lemmas.Bool.{cases_eq, cond-true}
use Rattle.vbr_machine.specs.Put.{put}
use Rattle.vbr_machine.specs.Keys.{Keys}
use Rattle.vbr_machine.specs.History.{reply_of, keys_after, IsLegal, Payloads, payloads_after, GivesValue, GiveStored}
use Rattle.vbr_machine.specs.Maps.{Entries, keys_in, entries_after, GivesEntry, IsMapLegal, TellsNoValue, StoresNoValue}
use Rattle.vbr_machine.specs.Maps.{map_after, MapLeads}
use Rattle.vbr_machine.specs.declared.history.Call.{Call}
use Rattle.vbr_machine.specs.declared.history.Op.{Op}
use Rattle.vbr_machine.specs.declared.history.Op.TheVariants.{Insert, Remove, Has, Get}
use Rattle.vbr_machine.proofs.histories.Histories.{reply_of-same}
use Rattle.vbr_machine.proofs.words.Puts.{put_here, put_other}

-- a map has these keys, with these values
abbrev pub HasBoth : Entries → Keys → Payloads → Type 0
HasBoth entries keys payloads = (key : ℕ) → entries key ≡ (if keys key then Some (payloads key) else None)

-- so these are its keys
is_there : (b : Bool) (value : Option ℕ) → is_some (if b then Some value else None) ≡ b
is_there true value = refl
is_there false value = refl

same_keys : (entries : Entries) (keys : Keys) (payloads : Payloads) → HasBoth entries keys payloads → (key : ℕ) →
    keys_in entries key ≡ keys key
same_keys entries keys payloads both key = ap is_some (both key) ∙ is_there (keys key) (payloads key)

-- what is stored at one key
stored : (entries : Entries) (keys : Keys) (payloads : Payloads) (key : ℕ) (value : Option ℕ) →
    HasBoth entries keys payloads → HasBoth (put entries key (Some value)) (put keys key true) (put payloads key value)
stored entries keys payloads key value both q = go (cases_eq q key)
  where
    go : (q ≡ key) ⊎ (q ≢ key) →
        put entries key (Some value) q ≡ (if put keys key true q then Some (put payloads key value q) else None)
    go (inl e) = rw (e, put_here entries key (Some value), put_here keys key true, put_here payloads key value) refl
    go (inr ne) =
        rw (put_other entries key (Some value) q ne, put_other keys key true q ne, put_other payloads key value q ne)
        (both q)

-- and what is taken out
taken_out : (entries : Entries) (keys : Keys) (payloads : Payloads) (key : ℕ) → HasBoth entries keys payloads →
    HasBoth (put entries key None) (put keys key false) payloads
taken_out entries keys payloads key both q = go (cases_eq q key)
  where
    go : (q ≡ key) ⊎ (q ≢ key) → put entries key None q ≡ (if put keys key false q then Some (payloads q) else None)
    go (inl e) = rw (e, put_here entries key None, put_here keys key false) refl
    go (inr ne) = rw (put_other entries key None q ne, put_other keys key false q ne) (both q)

both_after : (entries : Entries) (keys : Keys) (payloads : Payloads) (op : Op) (key : ℕ) (reply : Bool)
    (value : Option ℕ) → HasBoth entries keys payloads →
    HasBoth (entries_after entries op key reply value) (keys_after keys op key reply)
    (payloads_after payloads op key reply value)
both_after entries keys payloads Insert key true value both = stored entries keys payloads key value both
both_after entries keys payloads Insert key false value both = both
both_after entries keys payloads Remove key true value both = taken_out entries keys payloads key both
both_after entries keys payloads Remove key false value both = both
both_after entries keys payloads Has key reply value both = both
both_after entries keys payloads Get key reply value both = both

-- a key that is there has its value
entry_is : (entries : Entries) (keys : Keys) (payloads : Payloads) (key : ℕ) (value : Option ℕ) →
    HasBoth entries keys payloads → true ≡ keys key → value ≡ payloads key → entries key ≡ Some value
entry_is entries keys payloads key value both there is =
    both key ∙ cond-true (keys key) (Some (payloads key)) None (sym there) ∙ ap Some (sym is)

gives_entry : (entries : Entries) (keys : Keys) (payloads : Payloads) (op : Op) (key : ℕ) (reply : Bool)
    (value : Option ℕ) → HasBoth entries keys payloads → reply ≡ reply_of keys op key →
    GivesValue payloads op key reply value → GivesEntry entries op key reply value
gives_entry entries keys payloads Insert key true value both is gives = tt
gives_entry entries keys payloads Insert key false value both is gives = gives
gives_entry entries keys payloads Remove key true value both is gives =
    entry_is entries keys payloads key value both is gives
gives_entry entries keys payloads Remove key false value both is gives = gives
gives_entry entries keys payloads Has key reply value both is gives = gives
gives_entry entries keys payloads Get key true value both is gives =
    entry_is entries keys payloads key value both is gives
gives_entry entries keys payloads Get key false value both is gives = gives

pub map_legal : (entries : Entries) (keys : Keys) (payloads : Payloads) (calls : List Call) →
    HasBoth entries keys payloads → IsLegal keys calls → GiveStored payloads calls → IsMapLegal entries calls
map_legal entries keys payloads [] both legal stored = tt
map_legal entries keys payloads (c ∷ cs) both legal stored = (
  legal.0 ∙ sym (reply_of-same (keys_in entries) keys c.op c.key (same_keys entries keys payloads both c.key)),
  gives_entry entries keys payloads c.op c.key c.reply c.value both legal.0 stored.0,
  map_legal (entries_after entries c.op c.key c.reply c.value) (keys_after keys c.op c.key c.reply)
      (payloads_after payloads c.op c.key c.reply c.value) cs
      (both_after entries keys payloads c.op c.key c.reply c.value both) legal.1 stored.1,
)

-- ---- without values

-- a map that has these keys and no value
abbrev pub HasJust : Entries → Keys → Type 0
HasJust entries keys = (key : ℕ) → entries key ≡ (if keys key then Some None else None)

none_after : (entries : Entries) (keys : Keys) (op : Op) (key : ℕ) (reply : Bool) (value : Option ℕ) → value ≡ None →
    HasJust entries keys → HasJust (entries_after entries op key reply value) (keys_after keys op key reply)
none_after entries keys Insert key true value none just = λ q. go q (cases_eq q key)
  where
    go : (q : ℕ) → (q ≡ key) ⊎ (q ≢ key) →
        put entries key (Some value) q ≡ (if put keys key true q then Some None else None)
    go q (inl e) = rw (e, put_here entries key (Some value), put_here keys key true) (ap Some none)
    go q (inr ne) = rw (put_other entries key (Some value) q ne, put_other keys key true q ne) (just q)
none_after entries keys Insert key false value none just = just
none_after entries keys Remove key true value none just = taken_out entries keys (λ q. None) key just
none_after entries keys Remove key false value none just = just
none_after entries keys Has key reply value none just = just
none_after entries keys Get key reply value none just = just

gives_none : (payloads : Payloads) (op : Op) (key : ℕ) (reply : Bool) (value : Option ℕ) → value ≡ None →
    payloads key ≡ None → GivesValue payloads op key reply value
gives_none payloads Insert key true value none is = tt
gives_none payloads Insert key false value none is = none
gives_none payloads Remove key true value none is = none ∙ sym is
gives_none payloads Remove key false value none is = none
gives_none payloads Has key reply value none is = none
gives_none payloads Get key true value none is = none ∙ sym is
gives_none payloads Get key false value none is = none

-- a set's history is a map's
pub set_to_map : (entries : Entries) (keys : Keys) (calls : List Call) → HasJust entries keys → TellsNoValue calls →
    IsLegal keys calls → IsMapLegal entries calls
set_to_map entries keys [] just none legal = tt
set_to_map entries keys (c ∷ cs) just none legal = (
  legal.0 ∙ sym (reply_of-same (keys_in entries) keys c.op c.key (same_keys entries keys (λ q. None) just c.key)),
  gives_entry entries keys (λ q. None) c.op c.key c.reply c.value just legal.0
      (gives_none (λ q. None) c.op c.key c.reply c.value none.0 refl),
  set_to_map (entries_after entries c.op c.key c.reply c.value) (keys_after keys c.op c.key c.reply) cs
      (none_after entries keys c.op c.key c.reply c.value none.0 just) none.1 legal.1,
)

-- and a map's that tells no value is a set's
pub map_to_set : (entries : Entries) (keys : Keys) (calls : List Call) → HasJust entries keys → TellsNoValue calls →
    IsMapLegal entries calls → IsLegal keys calls
map_to_set entries keys [] just none legal = tt
map_to_set entries keys (c ∷ cs) just none legal = (
  legal.0 ∙ reply_of-same (keys_in entries) keys c.op c.key (same_keys entries keys (λ q. None) just c.key),
  map_to_set (entries_after entries c.op c.key c.reply c.value) (keys_after keys c.op c.key c.reply) cs
      (none_after entries keys c.op c.key c.reply c.value none.0 just) none.1 legal.2,
)

-- a map that stores no value has just its keys
pub just_keys : (entries : Entries) → StoresNoValue entries → HasJust entries (keys_in entries)
just_keys entries none key = go (entries key) refl
  where
    go : (entry : Option (Option ℕ)) → entries key ≡ entry → entry ≡ (if is_some entry then Some None else None)
    go None e = refl
    go (Some None) e = refl
    go (Some (Some value)) e = absurd (none key value e)

-- ---- one more call at the end

pub map_after-push : (entries : Entries) (calls : List Call) (x : Call) →
    map_after entries (calls ++ x ∷ []) ≡ entries_after (map_after entries calls) x.op x.key x.reply x.value
map_after-push entries [] x = refl
map_after-push entries (c ∷ cs) x = map_after-push (entries_after entries c.op c.key c.reply c.value) cs x

pub IsMapLegal-push : (entries : Entries) (calls : List Call) (x : Call) → IsMapLegal entries calls →
    x.reply ≡ reply_of (keys_in (map_after entries calls)) x.op x.key →
    GivesEntry (map_after entries calls) x.op x.key x.reply x.value → IsMapLegal entries (calls ++ x ∷ [])
IsMapLegal-push entries [] x legal reply gives = (reply, gives, tt)
IsMapLegal-push entries (c ∷ cs) x legal reply gives =
    (legal.0, legal.1, IsMapLegal-push (entries_after entries c.op c.key c.reply c.value) cs x legal.2 reply gives)

-- what a call gives depends on the map at its key alone
gives-same : (a b : Entries) (op : Op) (key : ℕ) (reply : Bool) (value : Option ℕ) → a key ≡ b key →
    GivesEntry a op key reply value → GivesEntry b op key reply value
gives-same a b Insert key true value same gives = tt
gives-same a b Insert key false value same gives = gives
gives-same a b Remove key true value same gives = sym same ∙ gives
gives-same a b Remove key false value same gives = gives
gives-same a b Has key reply value same gives = gives
gives-same a b Get key true value same gives = sym same ∙ gives
gives-same a b Get key false value same gives = gives

-- and what it leaves at a key, on the map there
put-same : (a b : Entries) (key q : ℕ) (entry : Option (Option ℕ)) → a q ≡ b q → put a key entry q ≡ put b key entry q
put-same a b key q entry same = go (q == key)
  where
    go : (here : Bool) → (if here then entry else a q) ≡ (if here then entry else b q)
    go true = refl
    go false = same

entries_after-same : (a b : Entries) (op : Op) (key : ℕ) (reply : Bool) (value : Option ℕ) (q : ℕ) → a q ≡ b q →
    entries_after a op key reply value q ≡ entries_after b op key reply value q
entries_after-same a b Insert key true value q same = put-same a b key q (Some value) same
entries_after-same a b Insert key false value q same = same
entries_after-same a b Remove key true value q same = put-same a b key q None same
entries_after-same a b Remove key false value q same = same
entries_after-same a b Has key reply value q same = same
entries_after-same a b Get key reply value q same = same

-- a call that the closing map answers leads on
pub MapLeads-push : (opening closing : Entries) (calls : List Call) (x : Call) (next : Entries) →
    MapLeads opening calls closing → x.reply ≡ reply_of (keys_in closing) x.op x.key →
    GivesEntry closing x.op x.key x.reply x.value →
    ((q : ℕ) → next q ≡ entries_after closing x.op x.key x.reply x.value q) → MapLeads opening (calls ++ x ∷ []) next
MapLeads-push opening closing calls x next leads reply gives after = record {
  legal = IsMapLegal-push opening calls x leads.legal
      (reply ∙ reply_of-same (keys_in closing) (keys_in (map_after opening calls)) x.op x.key
      (ap is_some (leads.entries x.key)))
      (gives-same closing (map_after opening calls) x.op x.key x.reply x.value (leads.entries x.key) gives);
  entries = λ q.
      after q ∙ entries_after-same closing (map_after opening calls) x.op x.key x.reply x.value q (leads.entries q)
      ∙ sym (ap (λ (m : Entries). m q) (map_after-push opening calls x));
}
