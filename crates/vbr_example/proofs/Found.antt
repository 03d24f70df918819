-- A page that a token tells of as claimed is found by who caught up, while nobody removes.
use Rattle.std.proofs.Common.{◌≡◌, ℕ, suc, Bool, true, false, eqb, eq-eqb, cond, List, [], ◌∷◌, ◌++◌, length, inl, inr}
use Rattle.std.proofs.Common.{refl, sym, ap, subst, ◌∙◌, append-nil, arith}
use Rattle.std.specs.Prelude.{◌≢◌, not, if◌then◌else◌, Result, Ok, Err, IfOk}
use Rattle.std.proofs.lemmas.Bool.{cases_Bool, true≢false}
use Rattle.vbr_set.specs.Names.{Start}
use Rattle.vbr_machine.specs.Keys.{Keys}
use Rattle.vbr_machine.specs.Opened.{opening_keys}
use Rattle.vbr_machine.specs.History.{IsLegal, calls_by, keys_after, reply_of, set_after, set_call}
use Rattle.vbr_machine.specs.declared.history.Call.{Call}
use Rattle.vbr_machine.specs.declared.history.Op.{Op}
use Rattle.vbr_machine.specs.declared.history.Op.TheVariants.{Insert, Remove, Has, Get}
use Rattle.vbr_at_table.specs.declared.refusal.Refusal.{Refusal}
use Rattle.vbr_machine.specs.declared.event.Event.{Event}
use Rattle.vbr_slots.specs.views.Views.{PassView, TableView, Trace}
use Rattle.vbr_set.specs.histories.Answers.{Answers}
use Rattle.vbr_set.specs.histories.Histories.{calls_of}
use Rattle.vbr_set.specs.histories.Tokens.{CatchesUp, IsTokenOf}
use Rattle.vbr_example.specs.Claims.{RemoveNone}
use Rattle.vbr_example.specs.Telling.{IsClaimed, IsFoundUnlessRemoved, IsTold}
use Rattle.vbr_example.specs.declared.telling.Message.{Message}

-- ---- a key that is there stays

one_stays : (keys : Keys) (page : ℕ) (op : Op) (key : ℕ) (reply : Bool) → op ≢ Remove → keys page ≡ true →
    keys_after keys op key reply page ≡ true
one_stays keys page Has key true other there = there
one_stays keys page Has key false other there = there
one_stays keys page Get key true other there = there
one_stays keys page Get key false other there = there
one_stays keys page Insert key false other there = there
one_stays keys page Remove key reply other there = absurd (other refl)
one_stays keys page Insert key true other there =
    let P : Bool → Type 0 = λ same. (if same then true else keys page) ≡ true in
    elim (cases_Bool (eqb page key)) [
      | inl this ↦ subst P (sym this) refl
      | inr apart ↦ subst P (sym apart) there
    ]

stays : (keys : Keys) (page : ℕ) (calls : List Call) → RemoveNone calls → keys page ≡ true →
    set_after keys calls page ≡ true
stays keys page [] none there = there
stays keys page (call ∷ calls) none there =
    stays (keys_after keys call.op call.key call.reply) page calls none.1
    (one_stays keys page call.op call.key call.reply none.0 there)

-- an insert that was answered leaves its key there
inserted : (keys : Keys) (page : ℕ) (reply : Bool) → reply ≡ not (keys page) →
    keys_after keys Insert page reply page ≡ true
inserted keys page true is =
    let P : Bool → Type 0 = λ same. (if same then true else keys page) ≡ true in
    elim (cases_Bool (eqb page page)) [
      | inl this ↦ subst P (sym this) refl
      | inr apart ↦ absurd (true≢false (sym (eq-eqb page page refl) ∙ apart))
    ]
inserted keys page false is = not_false (keys page) is
  where
    not_false : (b : Bool) → false ≡ not b → b ≡ true
    not_false true e = refl
    not_false false e = absurd (true≢false (sym e))

-- ---- histories in two parts

none_first : (a b : List Call) → RemoveNone (a ++ b) → RemoveNone a
none_first [] b none = tt
none_first (c ∷ a) b none = (none.0, none_first a b none.1)

none_rest : (a b : List Call) → RemoveNone (a ++ b) → RemoveNone b
none_rest [] b none = none
none_rest (c ∷ a) b none = none_rest a b none.1

after_both : (keys : Keys) (a b : List Call) → set_after keys (a ++ b) ≡ set_after (set_after keys a) b
after_both keys [] b = refl
after_both keys (c ∷ a) b = after_both (keys_after keys c.op c.key c.reply) a b

-- the reply of a call in a legal history
reply_at : (keys : Keys) (first : List Call) (call : Call) (more : List Call) → IsLegal keys (first ++ call ∷ more) →
    call.reply ≡ reply_of (set_after keys first) call.op call.key
reply_at keys [] call more legal = legal.0
reply_at keys (c ∷ first) call more legal = reply_at (keys_after keys c.op c.key c.reply) first call more legal.1

-- ---- the last call of a caller

abbrev head_or : Call → List Call → Call
head_or call [] = call
head_or call (c ∷ cs) = c

abbrev rest_of : List Call → List Call
rest_of [] = []
rest_of (c ∷ cs) = cs

abbrev Stands : Call → List Call → Type 0
Stands call calls = (first : List Call) × (more : List Call) × (calls ≡ first ++ call ∷ more)

further : (call c : Call) (cs : List Call) → Stands call cs → Stands call (c ∷ cs)
further call c cs s = (c ∷ s.0, s.1, ap (λ l. c ∷ l) s.2)

stands : (who : ℕ) (call : Call) (own calls : List Call) → calls_by who calls ≡ own ++ call ∷ [] → Stands call calls
stands who call [] [] e = let no : 0 ≡ 1 = ap length e in absurd (omega (arith, no))
stands who call (x ∷ own) [] e =
    let no : 0 ≡ suc (length (own ++ call ∷ [])) = ap length e in absurd (omega (arith, no))
stands who call own (c ∷ cs) e = go (eqb c.who who) own e (λ own rest. stands who call own cs rest)
  where
    go : (b : Bool) (own : List Call) → cond b (c ∷ calls_by who cs) (calls_by who cs) ≡ own ++ call ∷ [] →
        ((own : List Call) → calls_by who cs ≡ own ++ call ∷ [] → Stands call cs) → Stands call (c ∷ cs)
    go true [] e later = ([], cs, ap (λ (d : Call). d ∷ cs) (ap (head_or call) e))
    go true (x ∷ own) e later = further call c cs (later own (ap rest_of e))
    go false own e later = further call c cs (later own e)

-- ---- what is answered, and what is found

-- a page whose insert was answered is claimed
claimed : (page : ℕ) (reply : Bool) (p q : Trace) → Answers (set_call p.who Insert page reply) p q →
    IsClaimed q.start q.seen page
claimed page reply p q answers none =
    let keys : Keys = opening_keys q.start in
    let call : Call = (set_call p.who Insert page reply) in
    let stood = stands q.who call _ (calls_of q.start q.seen) answers.once in
    let first : List Call = stood.0 in
    let more : List Call = stood.1 in
    let legal : IsLegal keys (first ++ call ∷ more) = subst (IsLegal keys) stood.2 answers.legal in
    let there = inserted (set_after keys first) page reply (reply_at keys first call more legal) in
    let none_more : RemoveNone (call ∷ more) = none_rest first (call ∷ more) (subst RemoveNone stood.2 none) in
    ap (λ l. set_after keys l page) stood.2 ∙ ap (λ (k : Keys). k page) (after_both keys first (call ∷ more))
    ∙ stays (keys_after (set_after keys first) Insert page reply) page more none_more.1 there

pub tells : (set : TableView) (message : Message) (reply : Bool) (p q : Trace) →
    Answers (set_call p.who Insert message.page reply) p q → IsTokenOf set q message.token → IsTold set message
tells set message reply p q answers token = record {
  table = token.table;
  claimed = subst (λ (x : Start × List Event). IsClaimed x.0 x.1 message.page) (λ i. (token.pass.1 i, sym token.seen i))
      (claimed message.page reply p q answers);
}

found : (set : TableView) (message : Message) (p q r : PassView) (reply : Bool) → IsTold set message →
    CatchesUp set p message.token q → Answers (set_call q.trace.who Has message.page reply) q.trace r.trace →
    IsFoundUnlessRemoved r.trace reply
found set message p q r reply told caught answers none =
    let call : Call = (set_call q.trace.who Has message.page reply) in
    let start : Start = r.trace.start in
    let keys : Keys = opening_keys start in
    let f = caught.later (call ∷ []) q.trace r.trace (record { table = refl; start = refl; passes = refl; who = refl })
    ([], sym (append-nil q.trace.seen)) answers in
    let front : List Call = calls_of start message.token.seen in
    let history : calls_of start r.trace.seen ≡ (front ++ f.between) ++ call ∷ f.more =
    f.stands ∙ ap (λ (d : Start). (calls_of d message.token.seen ++ f.between) ++ call ∷ f.more)
    (sym answers.same.start) in
    let legal : IsLegal keys ((front ++ f.between) ++ call ∷ f.more) = subst (IsLegal keys) history answers.legal in
    let none_before : RemoveNone (front ++ f.between) =
    none_first (front ++ f.between) (call ∷ f.more) (subst RemoveNone history none) in
    let there : IsClaimed start message.token.seen message.page =
    subst (λ (d : Start). IsClaimed d message.token.seen message.page) (sym (answers.same.start ∙ caught.pass.1))
    told.claimed in
    reply_at keys (front ++ f.between) call f.more legal
    ∙ ap (λ (k : Keys). k message.page) (after_both keys front f.between)
    ∙ stays (set_after keys front) message.page f.between (none_rest front f.between none_before)
    (there (none_first front f.between none_before))

pub finds : (set : TableView) (message : Message) (p q r : PassView) (answer : Result Bool Refusal) →
    IsTold set message → CatchesUp set p message.token q →
    IfOk answer (λ reply. Answers (set_call q.trace.who Has message.page reply) q.trace r.trace) →
    IfOk answer (IsFoundUnlessRemoved r.trace)
finds set message p q r (Ok reply) told caught answers = found set message p q r reply told caught answers
finds set message p q r (Err refusal) told caught answers = tt
