-- Workers that meet one of them, and that one then meets, have all met.
use Rattle.std.proofs.Common.{◌≡◌, ℕ, zero, suc, ◌+◌, ◌-◌, ◌<◌, ◌≤◌, List, [], ◌∷◌, ◌++◌, length, get_or, take, drop}
use Rattle.std.proofs.Common.{refl, sym, ap, ◌∙◌, subst, arith, length-append}
use Rattle.std.specs.Prelude.{All}
use Rattle.std.specs.List.{AllZip}
use Rattle.std.proofs.Math.ListN.{set}
use Rattle.std.proofs.Math.Seq.{take-append_seam}
use Rattle.std.proofs.lemmas.List.{get_or-set_other, take_all, take_more_set}
use Rattle.std.proofs.lemmas.List.Elements.{All-nil, All-head, All-tail, All-cons, All-push, All-more}
use Rattle.vbr_machine.specs.Runs.{Begins}
use Rattle.vbr_machine.specs.declared.event.Event.{Event}
use Rattle.vbr_machine.proofs.Lemmas.{begins_refl, begins_trans}
use Rattle.vbr_slots.proofs.Lemmas.{quiet_on, quiet_refl}
use Rattle.vbr_slots.specs.views.Views.{PassView, TableView}
use Rattle.vbr_set.specs.histories.Meetings.{HasMet}
use Rattle.vbr_set.specs.calls.Members.{MemberView}
use Rattle.vbr_player.specs.Meeting.{AreOfOne, HasLooked, HasSeenMore, Meets, MeetsOthers}
use Rattle.vbr_player.specs.declared.worker.Worker.{Worker}
use Rattle.vbr_player.proofs.Starting.{one_behind}
use Rattle.vbr_player.proofs.Zips.{zip-length, zip-snoc}

-- ---- looking on

pub unmoved : (m : MemberView) → HasLooked 0 m m
unmoved m = record {
  set = refl;
  quiet = quiet_refl m.pass.trace;
  pool = (refl, refl);
  met = (0, refl);
  steps = omega arith;
}

-- one more is met
pub meets_more : {times : ℕ} (m n : MemberView) (other : PassView) (l : MemberView) → HasLooked times m n →
    l.set ≡ n.set → HasMet n.pass other l.pass → HasLooked (times + 1) m l
meets_more m n other l first same met = record {
  set = same ∙ first.set;
  quiet = quiet_on first.quiet met.shares.quiet;
  pool = (met.pool.0 ∙ first.pool.0, met.pool.1 ∙ first.pool.1);
  met = (suc first.met.0, (n, first.met.1, same, other, met));
  steps = (let made = met.step.1.steps in let few = first.steps in omega arith);
}

-- one is
pub meets_one : (m : MemberView) (other : PassView) (l : MemberView) → l.set ≡ m.set → HasMet m.pass other l.pass →
    HasLooked 1 m l
meets_one m other l same met = meets_more m m other l (unmoved m) same met

-- so many at most, so more at most
looks_within : {N : Type 0} → (few most : ℕ) (p q : Worker N) → few ≤ most → HasSeenMore few p q → HasSeenMore most p q
looks_within few most p q less looks = record {
  looked = record {
    set = looks.looked.set;
    quiet = looks.looked.quiet;
    pool = looks.looked.pool;
    met = looks.looked.met;
    steps = (let made = looks.looked.steps in omega arith);
  };
  replies = looks.replies;
}

all_within : {N : Type 0} → (few most : ℕ) (ps qs : List (Worker N)) → (0 < length ps → few ≤ most) →
    AllZip (HasSeenMore few) ps qs → AllZip (HasSeenMore most) ps qs
all_within few most [] [] less looks = tt
all_within few most (p ∷ ps) (q ∷ qs) less looks =
    let within : few ≤ most = less (omega arith) in
    (looks_within few most p q within looks.0, all_within few most ps qs (λ some. within) looks.1)
all_within few most [] (q ∷ qs) less looks = absurd looks
all_within few most (p ∷ ps) [] less looks = absurd looks

pub all_look : {N : Type 0} → (most : ℕ) (ps : List (Worker N)) → AllZip (HasSeenMore most) ps ps
all_look most [] = tt
all_look most (p ∷ ps) =
    (looks_within 0 most p p (omega arith) (record { looked = unmoved p.caller; replies = refl }), all_look most ps)

-- one of them looks
looks_set : {N : Type 0} → (most : ℕ) (ps qs : List (Worker N)) (i : ℕ) (d r : Worker N) → i < length qs →
    AllZip (HasSeenMore most) ps qs → HasSeenMore most (get_or ps i d) r → AllZip (HasSeenMore most) ps (set qs i r)
looks_set most (p ∷ ps) (q ∷ qs) zero d r inside looks look = (look, looks.1)
looks_set most (p ∷ ps) (q ∷ qs) (suc i) d r inside looks look =
    (looks.0, looks_set most ps qs i d r (omega arith) looks.1 look)
looks_set most ps [] i d r inside looks look = absurd (omega arith)
looks_set most [] (q ∷ qs) i d r inside looks look = absurd looks

-- ---- one worker and some others

-- the set of one of the others
pub of_at : {N : Type 0} → (set : TableView) (ps qs : List (Worker N)) (i : ℕ) (d : Worker N) → qs ≡ ps →
    i < length ps → All (λ p. p.caller.set ≡ set) ps → (get_or qs i d).caller.set ≡ set
of_at {N} set ps qs i d same inside of =
    subst (λ (ws : List (Worker N)). (get_or ws i d).caller.set ≡ set) (sym same) (of i d inside)

set_itself : {N : Type 0} → (ps : List (Worker N)) (i : ℕ) (d : Worker N) → set ps i (get_or ps i d) ≡ ps
set_itself {N} [] zero d = refl
set_itself {N} [] (suc i) d = refl
set_itself {N} (p ∷ ps) zero d = refl
set_itself {N} (p ∷ ps) (suc i) d = ap (λ (ws : List (Worker N)). p ∷ ws) (set_itself ps i d)

-- a worker that is put back as it was
pub put_back : {N : Type 0} → (ps qs : List (Worker N)) (i : ℕ) (d : Worker N) (caller : MemberView) → qs ≡ ps →
    caller ≡ (get_or qs i d).caller → set qs i (record { caller = caller; replies = (get_or qs i d).replies }) ≡ ps
put_back {N} ps qs i d caller same is =
    let as_it_was : record { caller = caller; replies = (get_or qs i d).replies } ≡ get_or qs i d =
    λ j. record { caller = is j; replies = (get_or qs i d).replies } in
    ap (λ (w : Worker N). set qs i w) as_it_was ∙ set_itself qs i d ∙ same

-- one worker more has been met
pub seen_more : {N : Type 0} → (ps qs : List (Worker N)) (i : ℕ) (d : Worker N) (before after : List Event) → qs ≡ ps →
    i < length ps → All (λ p. Begins p.caller.pass.trace.seen before) (take i ps) → Begins before after →
    Begins (get_or qs i d).caller.pass.trace.seen after →
    All (λ p. Begins p.caller.pass.trace.seen after) (take (i + 1) ps)
seen_more {N} ps qs i d before after same inside seen grows new =
    All-more (λ (p : Worker N). Begins p.caller.pass.trace.seen after) ps i d inside
    (λ k e low. begins_trans _ before after (seen k e low) grows)
    (subst (λ (ws : List (Worker N)). Begins (get_or ws i d).caller.pass.trace.seen after) same new)

pub seen_all : {N : Type 0} → (ps : List (Worker N)) (i : ℕ) (run : List Event) → length ps ≤ i →
    All (λ p. Begins p.caller.pass.trace.seen run) (take i ps) → All (λ p. Begins p.caller.pass.trace.seen run) ps
seen_all {N} ps i run all seen =
    subst (All (λ (p : Worker N). Begins p.caller.pass.trace.seen run)) (take_all i ps all) seen

-- ---- one pass is shown to workers

-- those from one on are as they were
abbrev pub AreLeft : {N : Type 0} → ℕ → List (Worker N) → List (Worker N) → Type 0
AreLeft {N} i ps qs = (k : ℕ) (d : Worker N) → i ≤ k → get_or qs k d ≡ get_or ps k d

-- one worker more looks
pub shown_more : {N : Type 0} → (ps qs : List (Worker N)) (i : ℕ) (d : Worker N) (other : PassView) (q : MemberView) →
    i < length ps → AllZip (HasSeenMore 1) ps qs → AreLeft i ps qs → q.set ≡ (get_or qs i d).caller.set →
    HasMet (get_or qs i d).caller.pass other q.pass →
    AllZip (HasSeenMore 1) ps (set qs i (record { caller = q; replies = (get_or qs i d).replies }))
shown_more {N} ps qs i d other q inside looks left same met =
    let now : Worker N = record { caller = q; replies = (get_or qs i d).replies } in
    let look : HasSeenMore 1 (get_or qs i d) now =
    record { looked = meets_one (get_or qs i d).caller other q same met; replies = refl } in
    looks_set 1 ps qs i d now (omega (arith, zip-length (HasSeenMore 1) ps qs looks)) looks
    (subst (λ (w : Worker N). HasSeenMore 1 w now) (left i d (omega arith)) look)

-- the others are as they were
pub left_more : {N : Type 0} → (ps qs : List (Worker N)) (i : ℕ) (r : Worker N) → AreLeft i ps qs →
    AreLeft (i + 1) ps (set qs i r)
left_more ps qs i r left = λ k d later. get_or-set_other qs i k r d (λ same. omega arith) ∙ left k d (omega arith)

-- and has seen what the pass has
pub sees_more : {N : Type 0} → (seen : List Event) (ps qs : List (Worker N)) (i : ℕ) (r : Worker N) → i < length ps →
    AllZip (HasSeenMore 1) ps qs → All (λ q. Begins seen q.caller.pass.trace.seen) (take i qs) →
    Begins seen r.caller.pass.trace.seen → All (λ q. Begins seen q.caller.pass.trace.seen) (take (i + 1) (set qs i r))
sees_more {N} seen ps qs i r inside looks before now =
    let P = λ (q : Worker N). Begins seen q.caller.pass.trace.seen in
    subst (All P) (sym (take_more_set qs i r (omega (arith, zip-length (HasSeenMore 1) ps qs looks))))
    (All-push P (take i qs) r before now)

-- a worker is of the set that it was of
pub still_of : {N : Type 0} → (set : TableView) (ps qs : List (Worker N)) (i : ℕ) (d : Worker N) → i < length ps →
    AllZip (HasSeenMore 1) ps qs → All (λ p. p.caller.set ≡ set) ps → (get_or qs i d).caller.set ≡ set
still_of {N} set (p ∷ ps) (q ∷ qs) zero d inside looks of =
    looks.0.looked.set ∙ All-head (λ (w : Worker N). w.caller.set ≡ set) p ps of
still_of {N} set (p ∷ ps) (q ∷ qs) (suc i) d inside looks of =
    still_of set ps qs i d (omega arith) looks.1 (All-tail (λ (w : Worker N). w.caller.set ≡ set) p ps of)
still_of {N} set [] qs i d inside looks of = absurd (omega arith)
still_of {N} set (p ∷ ps) [] i d inside looks of = absurd looks

-- all of them do
pub all_see : {N : Type 0} → (seen : List Event) (ps qs : List (Worker N)) (i : ℕ) → length ps ≤ i →
    AllZip (HasSeenMore 1) ps qs → All (λ q. Begins seen q.caller.pass.trace.seen) (take i qs) →
    All (λ q. Begins seen q.caller.pass.trace.seen) qs
all_see {N} seen ps qs i all looks before =
    subst (All (λ (q : Worker N). Begins seen q.caller.pass.trace.seen))
    (take_all i qs (omega (arith, zip-length (HasSeenMore 1) ps qs looks))) before

-- ---- a pass that meets workers

-- the workers that were seen are of the set of the pass that has seen them
pub still_here : {N : Type 0} → (ps qs : List (Worker N)) (p q : MemberView) → qs ≡ ps → q.set ≡ p.set →
    All (λ w. w.caller.set ≡ p.set) ps → All (λ w. w.caller.set ≡ q.set) qs
still_here {N} ps qs p q are set of =
    subst (All (λ (w : Worker N). w.caller.set ≡ q.set)) (sym are) (λ k d inside. of k d inside ∙ sym set)

-- the pass has seen them, and was shown to them
pub seen_and_shown : {N : Type 0} → (ps same qs : List (Worker N)) (p mid q : MemberView) → same ≡ ps →
    HasLooked (length ps) p mid → All (λ w. Begins w.caller.pass.trace.seen mid.pass.trace.seen) ps → q ≡ mid →
    AllZip (HasSeenMore 1) same qs → All (λ w. Begins mid.pass.trace.seen w.caller.pass.trace.seen) qs →
    MeetsOthers p q ps qs
seen_and_shown {N} ps same qs p mid q are looked from is looks to =
    subst (λ (m : MemberView). MeetsOthers p m ps qs) (sym is)
    (record {
      looked = looked;
      looks = subst (λ (ws : List (Worker N)). AllZip (HasSeenMore 1) ws qs) are looks;
      from = from;
      to = to;
    })

-- ---- all workers

-- what all of some have, the first of them have
front_all : {A : Type 0} (P : A → Type 0) (xs ys : List A) → All P (xs ++ ys) → All P xs
front_all P [] ys all = All-nil P
front_all P (x ∷ xs) ys all =
    All-cons P x xs (All-head P x (xs ++ ys) all) (front_all P xs ys (All-tail P x (xs ++ ys) all))

-- the others are of the set of the last one
pub of_others : {N : Type 0} → (ps before same : List (Worker N)) (last : Worker N) → ps ≡ before ++ last ∷ [] →
    same ≡ before → AreOfOne ps → All (λ w. w.caller.set ≡ last.caller.set) same
of_others {N} ps before same last are is of =
    let P = λ (w : Worker N). w.caller.set ≡ of.set in
    let all : All P (before ++ last ∷ []) = subst (All P) are of.all in
    let own : last.caller.set ≡ of.set = one_behind P before last [] all in
    subst (All (λ (w : Worker N). w.caller.set ≡ last.caller.set)) (sym is)
    (λ k d inside. front_all P before (last ∷ []) all k d inside ∙ sym own)

-- the last of them has met the others
pub all_met : {N : Type 0} → (ps before after : List (Worker N)) (last : Worker N) (q : MemberView) →
    ps ≡ before ++ last ∷ [] → MeetsOthers last.caller q before after →
    Meets ps (after ++ record { caller = q; replies = last.replies } ∷ [])
all_met {N} ps before after last q are met =
    let now : Worker N = record { caller = q; replies = last.replies } in
    let long : length before ≡ length (before ++ last ∷ []) - 1 = omega (arith, length-append before (last ∷ [])) in
    let most = length (before ++ last ∷ []) - 1 in
    let look : HasSeenMore most last now =
    subst (λ (k : ℕ). HasSeenMore k last now) long (record { looked = met.looked; replies = refl }) in
    let looks : AllZip (HasSeenMore most) before after =
    all_within 1 most before after (λ some. omega arith) met.looks in
    subst (λ (ws : List (Worker N)). Meets ws (after ++ now ∷ [])) (sym are)
    (record {
      looks = zip-snoc (HasSeenMore most) before after last now looks look;
      moment = q.pass.trace.seen;
      from = All-push (λ (p : Worker N). Begins p.caller.pass.trace.seen q.pass.trace.seen) before last met.from
          met.looked.quiet.seen;
      to = All-push (λ (p : Worker N). Begins q.pass.trace.seen p.caller.pass.trace.seen) after now met.to
          (begins_refl q.pass.trace.seen);
    })

-- workers that met, written back
pub met_back : {N : Type 0} → (before same after : List (Worker N)) (p q : MemberView) (len : ℕ) → len ≡ length before →
    same ≡ before → MeetsOthers p q same after → MeetsOthers p q before (take len (after ++ drop (length after) before))
met_back {N} before same after p q len all is met =
    let as_many : length after ≡ length same = zip-length (HasSeenMore 1) same after met.looks in
    let back : take len (after ++ drop (length after) before) ≡ after =
    rw (all ∙ sym (as_many ∙ ap length is)) (take-append_seam after (drop (length after) before)) in
    subst (MeetsOthers p q before) (sym back) (subst (λ (ws : List (Worker N)). MeetsOthers p q ws after) is met)
