-- On a running table each pass knows what it knows in the world that the listed events lead to.
-- For it was shown words that teach the same.
use Rattle.std.proofs.Common.{◌≡◌, ◌≢◌, ℕ, zero, suc, ◌<◌, ◌++◌, List, ◌∷◌, Bool, true, false, Some, None, Result, Ok}
use Rattle.std.proofs.Common.{Err, cond, refl, sym, ap, ◌∙◌, subst, eq-eqb, arith}
use Rattle.std.specs.Prelude.{MatchResult, OnOk, IfErr, ◌==◌, is_ok}
use Rattle.std.proofs.lemmas.Bool.{ne_eqb}
use Rattle.vbr_words.specs.Flags.{has_flag}
use Rattle.vbr_words.specs.declared.place.At.{At}
use Rattle.vbr_machine.specs.Acceptance.{stamp_in}
use Rattle.vbr_machine.specs.Knowledge.{Know}
use Rattle.vbr_machine.specs.Learning.{effect_of, with_checked, with_own, reads_won, learn}
use Rattle.vbr_machine.specs.Machine.{World, found, stamp_shown, after}
use Rattle.vbr_machine.specs.Making.{exchanged, taken, confirmed}
use Rattle.vbr_machine.specs.Runs.{world_after}
use Rattle.vbr_machine.specs.declared.event.Effect.{Effect}
use Rattle.vbr_machine.specs.declared.event.Effect.TheVariants.{Value, Won, Lost, Answered}
use Rattle.vbr_machine.specs.declared.event.Step.{Step}
use Rattle.vbr_machine.specs.declared.event.Step.TheVariants.{ReadEpoch, Advance, LoadStamp, PeekBirth, StoreStamp}
use Rattle.vbr_machine.specs.declared.event.Step.TheVariants.{Raise}
use Rattle.vbr_machine.specs.declared.event.Step.TheVariants.{TakeFlag, StoreBirth, StoreKey, StoreValue, StoreLink}
use Rattle.vbr_machine.specs.declared.event.Step.TheVariants.{LoadLink, LoadBirth, LoadKey, LoadValue, Publish, Mark}
use Rattle.vbr_machine.specs.declared.event.Step.TheVariants.{Replace, Unlink, ConfirmPresent, ConfirmAbsent}
use Rattle.vbr_machine.specs.declared.knowledge.Holding.TheVariants.{Free, Unlinked}
use Rattle.vbr_machine.proofs.Lemmas.{know_other, know_own, put_here}
use Rattle.vbr_slots.specs.steps.Expected.{Finds, FindsOther, Publishes, ReplacesNode}
use Rattle.vbr_slots.specs.steps.OwnSlots.{IsKnownStamp}
use Rattle.vbr_slots.specs.views.Views.{Trace, PassView, TableView, Did, knows}
use Rattle.vbr_slots.specs.words.WideWords.{wide_in}
use Rattle.vbr_event_lists.specs.Worked.{others_of, names_link, AreWorked}
use Rattle.vbr_table_tests.specs.Following.{KnowsAsInWorld, BothFollow, Learned}
use Rattle.vbr_table_tests.proofs.running_table.OwnedSlots.{free_may_bear}
use Rattle.vbr_table_tests.proofs.running_table.Taking.{Reached}

-- ---- what one call teaches

pub learned : (step : Step) (p q : Trace) (r : ℕ) (effect : Effect) → ((w : World) → stamp_shown w step ≡ 0) →
    effect ≡ effect_of step r → Did step p q r → Learned step p q effect
learned step p q r effect none answers d = record {
  found = r;
  answers = answers;
  learned = d.know ∙ ap (λ s. learn step r s (knows p)) (none (world_after p.start (p.seen ++ d.rest)));
  same = d.same;
}

won : {A : Type 0} (n : ℕ) (x y : A) → cond (n == n) x y ≡ x
won n x y = rw (eq-eqb n n refl) refl

lost : {A : Type 0} (m n : ℕ) (x y : A) → m ≢ n → cond (m == n) x y ≡ y
lost m n x y ne = rw (ne_eqb m n ne) refl

-- a step that expects a word found that one, or another
abbrev pub FoundEither : (T : Type 0) → Result T ℕ → Step → Trace → Trace → ℕ → Type 0
FoundEither T answer step p q expected =
    MatchResult answer (λ _. Did step p q expected) (λ n. Did step p q n × (n ≢ expected))

-- so it did where what is known then says that the step was made
did_either : {T : Type 0} (known : Type 0) (step : Step) (p q : PassView) (expected : ℕ) (answer : Result T ℕ) →
    (known → Did step p.trace q.trace expected) → OnOk answer known → IfErr answer (FindsOther step p q expected) →
    FoundEither T answer step p.trace q.trace expected
did_either known step p q expected (Ok x) did found other = did found
did_either known step p q expected (Err n) did found other = (other.did, other.unexpected)

pub found_either : {T : Type 0} (step : Step) (p q : PassView) (expected : ℕ) (answer : Result T ℕ) →
    OnOk answer (Finds step p q expected) → IfErr answer (FindsOther step p q expected) →
    FoundEither T answer step p.trace q.trace expected
found_either step p q expected answer =
    did_either (Finds step p q expected) step p q expected answer (λ found. found.did)

-- and so did a publication
pub published_either : {T : Type 0} (pred : At) (expected slot : ℕ) (p q : PassView) (answer : Result T ℕ) →
    OnOk answer (Publishes pred expected slot p q) →
    IfErr answer (FindsOther (Publish pred expected slot) p q expected) →
    FoundEither T answer (Publish pred expected slot) p.trace q.trace expected
published_either pred expected slot p q answer =
    did_either (Publishes pred expected slot p q) (Publish pred expected slot) p q expected answer (λ found. found.did)

-- and a replacement
pub replaced_either : {T : Type 0} (slot expected new : ℕ) (p q : PassView) (answer : Result T ℕ) →
    OnOk answer (ReplacesNode slot expected new p q) →
    IfErr answer (FindsOther (Replace slot expected new) p q expected) →
    FoundEither T answer (Replace slot expected new) p.trace q.trace expected
replaced_either slot expected new p q answer =
    did_either (ReplacesNode slot expected new p q) (Replace slot expected new) p q expected answer (λ found. found.did)

pub learned_exchange : {T : Type 0} (step : Step) (p q : Trace) (expected : ℕ) (answer : Result T ℕ) (effect : Effect) →
    ((w : World) → stamp_shown w step ≡ 0) → ((n : ℕ) → effect_of step n ≡ exchanged expected n) →
    FoundEither T answer step p q expected → MatchResult answer (λ _. effect ≡ Won) (λ n. effect ≡ Lost n) →
    Learned step p q effect
learned_exchange step p q expected (Ok x) effect none is did told =
    learned step p q expected effect none (told ∙ sym (is expected ∙ won expected Won (Lost expected))) did
learned_exchange step p q expected (Err n) effect none is did told =
    learned step p q n effect none (told ∙ sym (is n ∙ lost n expected Won (Lost n) did.1)) did.0

pub learned_load : {T : Type 0} (step : Step) (p q : Trace) (expected : ℕ) (reply : Bool) (answer : Result T ℕ)
    (effect : Effect) → ((w : World) → stamp_shown w step ≡ 0) →
    ((n : ℕ) → effect_of step n ≡ confirmed reply expected n) → FoundEither T answer step p q expected →
    MatchResult answer (λ _. effect ≡ Answered reply) (λ n. effect ≡ Lost n) → Learned step p q effect
learned_load step p q expected reply (Ok x) effect none is did told =
    learned step p q expected effect none (told ∙ sym (is expected ∙ won expected (Answered reply) (Lost expected))) did
learned_load step p q expected reply (Err n) effect none is did told =
    learned step p q n effect none (told ∙ sym (is n ∙ lost n expected (Answered reply) (Lost n) did.1)) did.0

-- ---- answers with the numbers of the words that they tell

-- an answer with the number of the word that it tells, as the table keeps it
abbrev pub numbered_in : {T : Type 0} → TableView → Result T ℕ → Result T ℕ
numbered_in table (Ok x) = Ok x
numbered_in table (Err n) = Err (wide_in table n)

pub ok_numbered : {T : Type 0} (table : TableView) (answer : Result T ℕ) (P : Type 0) → OnOk answer P →
    OnOk (numbered_in table answer) P
ok_numbered table (Ok x) P told = told
ok_numbered table (Err n) P told = tt

pub err_numbered : {T : Type 0} (table : TableView) (answer : Result T ℕ) (P : ℕ → Type 0) →
    IfErr answer (λ found. P (wide_in table found)) → IfErr (numbered_in table answer) P
err_numbered table (Ok x) P told = tt
err_numbered table (Err n) P told = told

match_numbered : {T : Type 0} (table : TableView) (answer : Result T ℕ) (A : Type 0) (B : ℕ → Type 0) →
    MatchResult answer (λ _. A) (λ found. B (wide_in table found)) →
    MatchResult (numbered_in table answer) (λ _. A) B
match_numbered table (Ok x) A B told = told
match_numbered table (Err n) A B told = told

-- a step that expects a link word, of which the table keeps this
module _ {T : Type 0} (table : TableView) (step : ℕ → Step) (p q : PassView) (kept expected : ℕ) (answer : Result T ℕ)
    (effect : Effect) (made : Step) (same : made ≡ step expected) (is : wide_in table kept ≡ expected)
    (none : (n : ℕ) (w : World) → stamp_shown w (step n) ≡ 0)
    (did : FoundEither T (numbered_in table answer) (step (wide_in table kept)) p.trace q.trace (wide_in table kept))
  where
    -- where it is an exchange
    pub kept_exchange : ((m n : ℕ) → effect_of (step m) n ≡ exchanged m n) →
        MatchResult answer (λ _. effect ≡ Won) (λ n. effect ≡ Lost (wide_in table n)) →
        Learned made p.trace q.trace effect
    kept_exchange effects told =
        subst (λ (s : Step). Learned s p.trace q.trace effect) (ap step is ∙ sym same)
        (learned_exchange (step (wide_in table kept)) p.trace q.trace (wide_in table kept) (numbered_in table answer)
        effect
        (none (wide_in table kept)) (effects (wide_in table kept)) did (match_numbered table answer _ _ told))

    -- where it is a load
    pub kept_load : (reply : Bool) → ((m n : ℕ) → effect_of (step m) n ≡ confirmed reply m n) →
        MatchResult answer (λ _. effect ≡ Answered reply) (λ n. effect ≡ Lost (wide_in table n)) →
        Learned made p.trace q.trace effect
    kept_load reply effects told =
        subst (λ (s : Step). Learned s p.trace q.trace effect) (ap step is ∙ sym same)
        (learned_load (step (wide_in table kept)) p.trace q.trace (wide_in table kept) reply (numbered_in table answer)
        effect (none (wide_in table kept)) (effects (wide_in table kept)) did (match_numbered table answer _ _ told))

-- a slot that was taken had the stamp that was loaded then
taken_with : (s : ℕ) (p q t : Trace) (n r : ℕ) → Did (TakeFlag s) p q n → has_flag n s ≡ true →
    Did (LoadStamp s) q t r → IsKnownStamp ((knows q).own s) r → r ≡ 0 → Learned (TakeFlag s) p t Won
taken_with s p q t n r took set load known is = record {
  found = n;
  answers = sym (ap (λ (b : Bool). cond b Won (Lost n)) set);
  learned = load.know ∙ took.know
      ∙ ap (λ (x : ℕ). learn (TakeFlag s) n x (knows p))
      (sym (known (free_may_bear _ (_, own)) ∙ ap stamp_in own) ∙ is);
  same = (load.same.0 ∙ took.same.0, load.same.1 ∙ took.same.1, load.same.2 ∙ took.same.2, load.same.3 ∙ took.same.3);
}
  where
    won_flag : (a b : Know) → cond (has_flag n s) a b ≡ a
    won_flag a b = ap (λ (t : Bool). cond t a b) set

    own : (knows q).own s ≡ Some (Free (stamp_shown (world_after p.start (p.seen ++ took.rest)) (TakeFlag s)))
    own = ap (λ (k : Know). k.own s) (took.know ∙ won_flag _ (knows p)) ∙ put_here (knows p).own s _

pub learned_taking : {T : Type 0} (s : ℕ) (p q t : Trace) (answer : Result T ℕ) (r : ℕ) → is_ok answer ≡ true →
    Reached s p q answer → Did (LoadStamp s) q t r → IsKnownStamp ((knows q).own s) r → r ≡ 0 →
    Learned (TakeFlag s) p t Won
learned_taking s p q t (Ok x) r ok d load known is = taken_with s p q t d.0 r d.1 d.2 load known is
learned_taking s p q t (Err n) r ok d load known is = absurd (cc)

-- ---- equal effects teach the same

abbrev value_in : Effect → ℕ
value_in (Value v) = v
value_in _ = 0

abbrev is_won : Effect → Bool
is_won Won = true
is_won _ = false

won_if : (b : Bool) (n : ℕ) → is_won (cond b Won (Lost n)) ≡ b
won_if true n = refl
won_if false n = refl

both_won : (expected m n : ℕ) → exchanged expected m ≡ exchanged expected n → (m == expected) ≡ (n == expected)
both_won expected m n same = sym (won_if (m == expected) m) ∙ ap is_won same ∙ won_if (n == expected) n

both_taken : (s m n : ℕ) → taken s m ≡ taken s n → has_flag m s ≡ has_flag n s
both_taken s m n same = sym (won_if (has_flag m s) m) ∙ ap is_won same ∙ won_if (has_flag n s) n

same_teaches : (step : Step) (m n stamp : ℕ) (know : Know) → effect_of step m ≡ effect_of step n →
    learn step m stamp know ≡ learn step n stamp know
same_teaches ReadEpoch m n stamp know same = ap (λ v. learn ReadEpoch v stamp know) (ap value_in same)
same_teaches (Advance from) m n stamp know same = refl
same_teaches (LoadStamp s) m n stamp know same = refl
same_teaches (PeekBirth s) m n stamp know same = refl
same_teaches (StoreStamp s new) m n stamp know same = refl
same_teaches (Raise s) m n stamp know same = refl
same_teaches (TakeFlag s) m n stamp know same =
    ap (λ b. cond b (with_own know s (Some (Free stamp))) know) (both_taken s m n same)
same_teaches (StoreBirth s birth) m n stamp know same = refl
same_teaches (StoreKey s key) m n stamp know same = refl
same_teaches (StoreValue s value) m n stamp know same = refl
same_teaches (StoreLink s next) m n stamp know same = refl
same_teaches (LoadLink place) m n stamp know same = ap (λ v. learn (LoadLink place) v stamp know) (ap value_in same)
same_teaches (LoadBirth s) m n stamp know same = ap (λ v. learn (LoadBirth s) v stamp know) (ap value_in same)
same_teaches (LoadKey s) m n stamp know same = ap (λ v. learn (LoadKey s) v stamp know) (ap value_in same)
same_teaches (LoadValue s) m n stamp know same = ap (λ v. learn (LoadValue s) v stamp know) (ap value_in same)
same_teaches (Publish pred expected s) m n stamp know same =
    ap (λ b. cond b (with_own (with_checked know (reads_won know (Publish pred expected s))) s None) know)
    (both_won expected m n same)
same_teaches (Mark s expected) m n stamp know same =
    ap (λ b. cond b (with_checked know (reads_won know (Mark s expected))) know) (both_won expected m n same)
same_teaches (Replace s expected t) m n stamp know same =
    ap (λ b. cond b (with_own (with_checked know (reads_won know (Replace s expected t))) t None) know)
    (both_won expected m n same)
same_teaches (Unlink pred expected s) m n stamp know same =
    ap (λ b. cond b (with_own (with_checked know (reads_won know (Unlink pred expected s))) s (Some (Unlinked false)))
    know) (both_won expected m n same)
same_teaches (ConfirmPresent op s expected) m n stamp know same = refl
same_teaches (ConfirmAbsent op key place expected) m n stamp know same = refl

-- ---- one row

one_of_two : (n : ℕ) → n < 2 → n ≢ 0 → n ≡ 1
one_of_two zero low ne = absurd (ne refl)
one_of_two (suc n) low ne = omega arith

not_1 : (n : ℕ) → n ≡ 0 → 1 ≢ n
not_1 n is e = omega arith

not_zero : (n : ℕ) → suc n ≢ 0
not_zero n e = omega arith

-- the pass of the row knows what it learned
follows_own : (t : TableView) (who : ℕ) (p q : Trace) (w : World) (row : ℕ × Step × Effect)
    (rows : List (ℕ × Step × Effect)) (words : List ℕ) → KnowsAsInWorld t who p w →
    AreWorked t.start w (row ∷ rows) words → row.0 ≡ who → Learned row.1 p q row.2 →
    KnowsAsInWorld t who q (after t.start w row.0 row.1)
follows_own t who p q w row rows words f worked is l = record {
  own = (l.same.0 ∙ f.own.0, l.same.1 ∙ f.own.1, l.same.2 ∙ f.own.2);
  who_is = l.same.3 ∙ f.who_is;
  knows_it =
      l.learned
      ∙ ap (learn row.1 l.found 0) (f.knows_it ∙ ap w.know (sym is))
      ∙ same_teaches row.1 l.found (found t.start w row.1) 0 (w.know row.0) (sym l.answers ∙ sym worked.1)
      ∙ ap (λ s. learn row.1 (found t.start w row.1) s (w.know row.0)) (sym worked.2)
      ∙ sym (know_own t.start w row.0 row.1)
      ∙ ap (after t.start w row.0 row.1).know is;
}

-- and the other what it knew
follows_other : (t : TableView) (who : ℕ) (p : Trace) (w : World) (pass : ℕ) (step : Step) → KnowsAsInWorld t who p w →
    who ≢ pass → KnowsAsInWorld t who p (after t.start w pass step)
follows_other t who p w pass step f ne =
    record { own = f.own; who_is = f.who_is; knows_it = f.knows_it ∙ sym (know_other t.start w who pass step ne) }

stands_first : (t : TableView) (a b c : Trace) (row : ℕ × Step × Effect) (rows : List (ℕ × Step × Effect))
    (words : List ℕ) → BothFollow t a b (row ∷ rows) words → row.0 ≡ 0 → Learned row.1 a c row.2 →
    BothFollow t c b rows (cond (names_link row.1) (others_of words) words)
stands_first t a b c row rows words s is l = record {
  world = after t.start s.world row.0 row.1;
  first = follows_own t 0 a c s.world row rows words s.first s.worked is l;
  second = follows_other t 1 b s.world row.0 row.1 s.second (not_1 row.0 is);
  worked = s.worked.4;
}

stands_second : (t : TableView) (a b c : Trace) (row : ℕ × Step × Effect) (rows : List (ℕ × Step × Effect))
    (words : List ℕ) → BothFollow t a b (row ∷ rows) words → row.0 ≢ 0 → Learned row.1 b c row.2 →
    BothFollow t a c rows (cond (names_link row.1) (others_of words) words)
stands_second t a b c row rows words s ne l = record {
  world = after t.start s.world row.0 row.1;
  first = follows_other t 0 a s.world row.0 row.1 s.first (λ e. ne (sym e));
  second = follows_own t 1 b c s.world row rows words s.second s.worked (one_of_two row.0 s.worked.0.0 ne) l;
  worked = s.worked.4;
}

-- one row is made, by the one pass or the other
stands_next : (t : TableView) (a b c d : PassView) (row : ℕ × Step × Effect) (rows : List (ℕ × Step × Effect))
    (words : List ℕ) → BothFollow t a.trace b.trace (row ∷ rows) words →
    (row.0 ≡ 0 → Learned row.1 a.trace c.trace row.2 × (d ≡ b)) →
    (row.0 ≢ 0 → Learned row.1 b.trace d.trace row.2 × (c ≡ a)) →
    BothFollow t c.trace d.trace rows (cond (names_link row.1) (others_of words) words)
stands_next t a b c d row rows words s first second = go row.0 refl
  where
    go : (n : ℕ) → row.0 ≡ n → BothFollow t c.trace d.trace rows (cond (names_link row.1) (others_of words) words)
    go zero is =
        let made = first is in
        subst (λ (p : PassView). BothFollow t c.trace p.trace rows (cond (names_link row.1) (others_of words) words))
        (sym made.1) (stands_first t a.trace b.trace c.trace row rows words s is made.0)
    go (suc n) is =
        let made = second (λ e. not_zero n (sym is ∙ e)) in
        subst (λ (p : PassView). BothFollow t p.trace d.trace rows (cond (names_link row.1) (others_of words) words))
        (sym made.1) (stands_second t a.trace b.trace d.trace row rows words s (λ e. not_zero n (sym is ∙ e)) made.0)

-- so the passes stand before the later rows, with the words that are left
pub stands_later : (t : TableView) (a b c d : PassView) (row : ℕ × Step × Effect)
    (later rows : List (ℕ × Step × Effect)) (words left : List ℕ) → rows ≡ row ∷ later →
    cond (names_link row.1) (others_of words) words ≡ left → BothFollow t a.trace b.trace rows words →
    (row.0 ≡ 0 → Learned row.1 a.trace c.trace row.2 × (d ≡ b)) →
    (row.0 ≢ 0 → Learned row.1 b.trace d.trace row.2 × (c ≡ a)) → BothFollow t c.trace d.trace later left
stands_later t a b c d row later rows words left split is s first second =
    subst (λ (ws : List ℕ). BothFollow t c.trace d.trace later ws) is
    (stands_next t a b c d row later words
    (subst (λ (rs : List (ℕ × Step × Effect)). BothFollow t a.trace b.trace rs words) split s) first second)
