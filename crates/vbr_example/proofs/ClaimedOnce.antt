-- In a legal history without removes a page is claimed at most once.
use Rattle.std.proofs.Common.{◌≡◌, ℕ, ◌+◌, ◌≤◌, Bool, true, false, eqb, List, [], ◌∷◌, inl, inr, refl, ap, subst, ◌∙◌}
use Rattle.std.proofs.Common.{arith}
use Rattle.std.specs.Prelude.{◌≢◌, not, if◌then◌else◌, Result, Ok, Err, IfOk}
use Rattle.std.proofs.lemmas.Bool.{cases_Bool, eqb-true, true≢false}
use Rattle.vbr_machine.specs.Keys.{Keys}
use Rattle.vbr_machine.specs.Opened.{opening_keys}
use Rattle.vbr_machine.specs.History.{IsLegal, keys_after, reply_of, set_call}
use Rattle.vbr_machine.specs.declared.history.Call.{Call}
use Rattle.vbr_machine.specs.declared.history.Op.{Op}
use Rattle.vbr_machine.specs.declared.history.Op.TheVariants.{Insert, Remove, Has, Get}
use Rattle.vbr_at_table.specs.declared.refusal.Refusal.{Refusal}
use Rattle.vbr_set.specs.histories.Answers.{Answers}
use Rattle.vbr_set.specs.calls.Members.{MemberView}
use Rattle.vbr_example.specs.Claims.{claims_of, claims_in, RemoveNone, IsClaimedOnce}

-- how often a page can still be claimed
abbrev room : Bool → ℕ
room true = 0
room false = 1

room_for_one : (b : Bool) → room b ≤ 1
room_for_one true = omega arith
room_for_one false = omega arith

not_true : (b : Bool) → true ≡ not b → b ≡ false
not_true false e = refl
not_true true e = absurd (true≢false e)

-- one call leaves room for the claims after it
one_call : (keys : Keys) (page : ℕ) (op : Op) (key : ℕ) (reply : Bool) (rest : ℕ) → reply ≡ reply_of keys op key →
    op ≢ Remove → rest ≤ room (keys_after keys op key reply page) →
    claims_of page op key reply + rest ≤ room (keys page)
one_call keys page Has key true rest is other low = omega arith
one_call keys page Has key false rest is other low = omega arith
one_call keys page Get key true rest is other low = omega arith
one_call keys page Get key false rest is other low = omega arith
one_call keys page Insert key false rest is other low = omega arith
one_call keys page Remove key reply rest is other low = absurd (other refl)
one_call keys page Insert key true rest is other low =
    let P : Bool → Type 0 = λ same. rest ≤ room (if same then true else keys page) in
    elim (cases_Bool (eqb page key)) [
      | inl this ↦
          let absent : keys page ≡ false = ap keys (eqb-true page key this) ∙ not_true (keys key) is in
          let none : rest ≤ 0 = subst P this low in
          rw (this, absent) (omega arith)
      | inr apart ↦ let left : rest ≤ room (keys page) = subst P apart low in rw apart (omega arith)
    ]

-- at most once
at_most_once : (keys : Keys) (page : ℕ) (calls : List Call) → IsLegal keys calls → RemoveNone calls →
    claims_in page calls ≤ room (keys page)
at_most_once keys page [] legal none = omega arith
at_most_once keys page (call ∷ calls) legal none =
    one_call keys page call.op call.key call.reply (claims_in page calls) legal.0 none.0
    (at_most_once (keys_after keys call.op call.key call.reply) page calls legal.1 none.1)

claimed_once : (m n : MemberView) (page : ℕ) (result : Bool) →
    Answers (set_call m.pass.trace.who Insert page result) m.pass.trace n.pass.trace → IsClaimedOnce m n page result
claimed_once m n page result answers = record {
  own = answers.once;
  once = λ none.
      let keys = opening_keys n.pass.trace.start in
      let left = room_for_one (keys page) in
      let most = at_most_once keys page _ answers.legal none in
      omega (arith, left, most);
}

pub claimed : (m n : MemberView) (page : ℕ) (result : Result Bool Refusal) →
    IfOk result (λ reply. Answers (set_call m.pass.trace.who Insert page reply) m.pass.trace n.pass.trace) →
    IfOk result (IsClaimedOnce m n page)
claimed m n page (Ok reply) answers = claimed_once m n page reply answers
claimed m n page (Err refusal) answers = tt
