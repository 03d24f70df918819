-- One more call at the end of a history.
use Rattle.std.proofs.Common.{◌≡◌, ℕ, Bool, true, false, not, List, [], ◌∷◌, ◌++◌, refl, sym, ap, ◌∙◌, arith}
use Rattle.std.proofs.lemmas.Bool.Decides.{nat_tests}
use Rattle.vbr_machine.specs.Keys.{Keys}
use Rattle.vbr_machine.specs.History.{reply_of, keys_after, set_after, IsLegal, Leads, Payloads, payloads_after}
use Rattle.vbr_machine.specs.History.{values_after, GivesValue, GiveStored}
use Rattle.vbr_machine.specs.declared.history.Call.{Call}
use Rattle.vbr_machine.specs.declared.history.Op.{Op}
use Rattle.vbr_machine.specs.declared.history.Op.TheVariants.{Insert, Remove, Has, Get}

pub set_after-push : (keys : Keys) (calls : List Call) (x : Call) →
    set_after keys (calls ++ x ∷ []) ≡ keys_after (set_after keys calls) x.op x.key x.reply
set_after-push keys [] x = refl
set_after-push keys (c ∷ cs) x = set_after-push (keys_after keys c.op c.key c.reply) cs x

pub IsLegal-push : (keys : Keys) (calls : List Call) (x : Call) → IsLegal keys calls →
    x.reply ≡ reply_of (set_after keys calls) x.op x.key → IsLegal keys (calls ++ x ∷ [])
IsLegal-push keys [] x legal reply = (reply, tt)
IsLegal-push keys (c ∷ cs) x legal reply =
    (legal.0, IsLegal-push (keys_after keys c.op c.key c.reply) cs x legal.1 reply)

-- a reply depends on the set at the call's key alone
pub reply_of-same : (a b : Keys) (op : Op) (key : ℕ) → a key ≡ b key → reply_of a op key ≡ reply_of b op key
reply_of-same a b Insert key same = ap not same
reply_of-same a b Remove key same = same
reply_of-same a b Has key same = same
reply_of-same a b Get key same = same

-- and what it leaves at a key, on the set there
pub keys_after-same : (a b : Keys) (op : Op) (key : ℕ) (reply : Bool) (q : ℕ) → a q ≡ b q →
    keys_after a op key reply q ≡ keys_after b op key reply q
keys_after-same a b Insert key true q same = grind (arith, nat_tests)
keys_after-same a b Insert key false q same = same
keys_after-same a b Remove key true q same = grind (arith, nat_tests)
keys_after-same a b Remove key false q same = same
keys_after-same a b Has key reply q same = same
keys_after-same a b Get key reply q same = same

-- a call that the closing set answers leads on
pub Leads-push : (opening closing : Keys) (calls : List Call) (x : Call) (next : Keys) → Leads opening calls closing →
    x.reply ≡ reply_of closing x.op x.key → ((q : ℕ) → next q ≡ keys_after closing x.op x.key x.reply q) →
    Leads opening (calls ++ x ∷ []) next
Leads-push opening closing calls x next leads reply after = record {
  legal = IsLegal-push opening calls x leads.legal
      (reply ∙ reply_of-same closing (set_after opening calls) x.op x.key (leads.keys x.key));
  keys = λ q. after q ∙ keys_after-same closing (set_after opening calls) x.op x.key x.reply q (leads.keys q)
      ∙ sym (ap (λ (k : Keys). k q) (set_after-push opening calls x));
}

-- ---- values

pub values_after-push : (payloads : Payloads) (calls : List Call) (x : Call) →
    values_after payloads (calls ++ x ∷ []) ≡ payloads_after (values_after payloads calls) x.op x.key x.reply x.value
values_after-push payloads [] x = refl
values_after-push payloads (c ∷ cs) x = values_after-push (payloads_after payloads c.op c.key c.reply c.value) cs x

pub GiveStored-push : (payloads : Payloads) (calls : List Call) (x : Call) → GiveStored payloads calls →
    GivesValue (values_after payloads calls) x.op x.key x.reply x.value → GiveStored payloads (calls ++ x ∷ [])
GiveStored-push payloads [] x stored gives = (gives, tt)
GiveStored-push payloads (c ∷ cs) x stored gives =
    (stored.0, GiveStored-push (payloads_after payloads c.op c.key c.reply c.value) cs x stored.1 gives)
