-- Where updates were answered and a pass made no call, another pass was answered.
use Rattle.std.proofs.Common.{◌≡◌, ◌≢◌, ℕ, ◌+◌, ◌≤◌, ◌==◌, ◌&&◌, Bool, true, false, cond, List, [], ◌∷◌, ◌++◌}
use Rattle.std.proofs.Common.{refl, sym, ap, ◌∙◌, subst, append-nil, inl, inr, arith}
use Rattle.std.specs.Prelude.{Contains}
use Rattle.std.proofs.lemmas.Bool.{and_parts, cases_Bool, eq-eqb, false≢true}
use Rattle.std.proofs.lemmas.List.{append_cancel_left}
use Rattle.std.proofs.lemmas.List.Elements.{Contains-append_right}
use Rattle.vbr_machine.specs.Start.{Start}
use Rattle.vbr_machine.specs.Accounts.{incarnations_after}
use Rattle.vbr_machine.specs.Disturbances.{is_update, one_if, updates}
use Rattle.vbr_machine.specs.History.{calls_by}
use Rattle.vbr_machine.specs.Runs.{IsRun}
use Rattle.vbr_machine.specs.declared.history.Call.{Call}
use Rattle.vbr_machine.proofs.Lemmas.{calls_by-append, calls_since, run_agrees}
use Rattle.vbr_slots.specs.steps.Calls.{Quiet, made_by}
use Rattle.vbr_slots.specs.views.Views.{PassView, Trace}
use Rattle.vbr_set.specs.histories.Histories.{calls_of}
use Rattle.vbr_set.specs.progress.Progressing.{AnotherIsAnswered, SeesRun, updates_in}

-- ---- calls

updates-append : (xs ys : List Call) → updates (xs ++ ys) ≡ updates xs + updates ys
updates-append [] ys = omega arith
updates-append (x ∷ xs) ys = let r = updates-append xs ys in omega (arith, r)

-- one of these calls is an update that was answered yes, and not one of this caller
pub record IsOfAnother (who : ℕ) (calls : List Call) : Type 0 where
  pub call : Call
  pub among : Contains calls call
  pub other : call.who ≢ who
  pub update : is_update call.op ≡ true
  pub yes : call.reply ≡ true

pub first_is : (who : ℕ) (c : Call) (cs : List Call) → c.who ≢ who → is_update c.op ≡ true → c.reply ≡ true →
    IsOfAnother who (c ∷ cs)
first_is who c cs other update answered = record {
  call = c;
  among = (0, omega arith, refl);
  other = other;
  update = update;
  yes = answered;
}

pub later_is : (who : ℕ) (c : Call) (cs : List Call) → IsOfAnother who cs → IsOfAnother who (c ∷ cs)
later_is who c cs x = record {
  call = x.call;
  among = Contains-append_right (c ∷ []) cs x.call x.among;
  other = x.other;
  update = x.update;
  yes = x.yes;
}

-- so another pass was answered, where they are all since
pub is_answered : {p q : Trace} (since : (calls : List Call) ×
    (calls_of p.start q.seen ≡ calls_of p.start p.seen ++ calls)) → q.start ≡ p.start → IsOfAnother p.who since.0 →
    AnotherIsAnswered p q
is_answered {p} {q} since same x = record {
  since = since.0;
  adds = ap (λ (s : Start). calls_of s q.seen) same ∙ since.1;
  call = x.call;
  among = x.among;
  other = x.other;
  update = x.update;
  yes = x.yes;
}

none_first : (who : ℕ) (c : Call) (cs : List Call) → calls_by who (c ∷ cs) ≡ [] →
    (c.who ≢ who) × (calls_by who cs ≡ [])
none_first who c cs e = elim (cases_Bool (c.who == who)) [
  | inl own ↦ let x : c ∷ calls_by who cs ≡ [] = either true own in absurd (cc)
  | inr away ↦ (λ same. false≢true (sym away ∙ eq-eqb c.who who same), either false away)
]
  where
    either : (b : Bool) → (c.who == who) ≡ b → cond b (c ∷ calls_by who cs) (calls_by who cs) ≡ []
    either b is = ap (λ (t : Bool). cond t (c ∷ calls_by who cs) (calls_by who cs)) (sym is) ∙ e

of_another : (who : ℕ) (calls : List Call) → calls_by who calls ≡ [] → 1 ≤ updates calls → IsOfAnother who calls
of_another who [] none some = absurd (omega arith)
of_another who (c ∷ cs) none some =
    elim (cases_Bool (is_update c.op && c.reply)) [
      | inl here ↦
          let parts = and_parts (is_update c.op) c.reply here in
          first_is who c cs (none_first who c cs none).0 parts.0 parts.1
      | inr away ↦
          let nothing : one_if (is_update c.op && c.reply) ≡ 0 = ap one_if away in
          later_is who c cs (of_another who cs (none_first who c cs none).1 (omega (arith, some, nothing)))
    ]

-- ---- a pass that made no call

-- where more updates were answered, one of them is of another pass
pub another_answered : (p q : PassView) → SeesRun p.trace → Quiet p.trace q.trace → 1 ≤ updates_in p.trace q.trace →
    AnotherIsAnswered p.trace q.trace
another_answered p q law quiet more = is_answered since quiet.same.start (of_another p.trace.who since.0 own some)
  where
    start : Start
    start = p.trace.start

    since : (calls : List Call) × (calls_of start q.trace.seen ≡ calls_of start p.trace.seen ++ calls)
    since = calls_since start p.trace.seen q.trace.seen quiet.seen

    told_first : updates (calls_of start p.trace.seen) ≡ updates (incarnations_after start p.trace.seen).calls
    told_first =
        ap updates (run_agrees start p.trace.passes p.trace.seen law.start law.is_run).calls

    told_last : updates (calls_of start q.trace.seen) ≡ updates (incarnations_after start q.trace.seen).calls
    told_last =
        let P : Start × ℕ → Type 0 = λ x. IsRun x.0 x.1 q.trace.seen in
        ap updates
        (run_agrees start p.trace.passes q.trace.seen law.start
        (subst P (λ i. (quiet.same.start i, quiet.same.passes i)) (quiet.is_run law.is_run))).calls

    some : 1 ≤ updates since.0
    some =
        let sum = ap updates since.1 ∙ updates-append (calls_of start p.trace.seen) since.0 in
        omega (arith, more, sum, told_first, told_last)

    own : calls_by p.trace.who since.0 ≡ []
    own = append_cancel_left (made_by p.trace) (calls_by p.trace.who since.0) []
        (sym (ap (calls_by p.trace.who) since.1
        ∙ calls_by-append p.trace.who (calls_of start p.trace.seen) since.0)
        ∙ sym (λ i. calls_by (quiet.same.who i) (calls_of (quiet.same.start i) q.trace.seen)) ∙ quiet.calls
        ∙ sym (append-nil (made_by p.trace)))
