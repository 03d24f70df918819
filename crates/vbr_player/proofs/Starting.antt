-- How workers start and end in a phase.
use Rattle.std.proofs.Common.{◌≡◌, ℕ, List, [], ◌∷◌, ◌++◌, length, append-nil, sym, subst, ◌∙◌, arith}
use Rattle.std.specs.Prelude.{Result, Ok, Err, IfOk, All, Vec}
use Rattle.std.specs.Global.{Global}
use Rattle.std.proofs.lemmas.List.Elements.{All-head, All-tail}
use Rattle.vbr_player.specs.Starting.{IsFor, EndsAs, AreEndedBy, EndAll}
use Rattle.vbr_player.specs.Working.{Played, EachPlayed}
use Rattle.vbr_script.specs.declared.script.Kind.{Kind}
use Rattle.vbr_script.specs.declared.script.Line.{Line}
use Rattle.vbr_player.specs.declared.phase_worker.PhaseWorker.{PhaseWorker}
use Rattle.vbr_player.specs.declared.phase_worker.PhaseWorker.TheVariants.{Started, Done}
use Rattle.vbr_player.specs.declared.worker.Worker.{Worker}
use Rattle.std.specs.List.{AllZip}

-- so it is of each worker, in order
abbrev pub AreFor : {N : Type 0} → Kind → ℕ → List Line → List (PhaseWorker N) → List (Worker N) → Type 0
AreFor kind budget lines all_started workers = AllZip (IsFor kind budget lines) all_started workers

-- what all have, the one after some others has
pub one_behind : {A : Type 0} (P : A → Type 0) (before : List A) (x : A) (after : List A) →
    All P (before ++ (x ∷ after)) → P x
one_behind P [] x after all = All-head P x after all
one_behind P (y ∷ ys) x after all = one_behind P ys x after (All-tail P y (ys ++ (x ∷ after)) all)

-- nothing is left
pub none_left : {A : Type 0} (done rest all : List A) → length rest ≡ 0 → done ++ rest ≡ all → done ≡ all
none_left done [] all none is = sym (append-nil done) ∙ is
none_left done (x ∷ xs) all none is = absurd (omega arith)

-- a worker that was started and ended has played
one_played : {N : Type 0} → (kind : Kind) (budget : ℕ) (lines : List Line) (started : PhaseWorker N) (p q : Worker N) →
    IsFor kind budget lines started p → EndsAs kind started q → Played kind budget lines p q
one_played {N} kind budget lines (Started thread) p q is ended =
    let P : ℕ × List Line × Worker N → Type 0 = λ k. Played kind k.0 k.1 k.2 q in
    let are : (thread.promise.budget, thread.promise.lines.now, thread.promise.before.value) ≡ (budget, lines, p) =
    λ i. (is.2 i, is.1 i, is.0 i) in
    subst P are ended
one_played {N} kind budget lines (Done played) p q is ended = subst (Played kind budget lines p) (sym ended) is

-- and so have all
each_played : {N : Type 0} →
    (kind : Kind) (budget : ℕ) (lines : List Line) (all_started : List (PhaseWorker N))
    (workers played : List (Worker N)) → AreFor kind budget lines all_started workers →
    AreEndedBy kind all_started played → EachPlayed kind budget lines workers played
each_played kind budget lines [] [] [] are ended = tt
each_played kind budget lines (t ∷ ts) (p ∷ ps) (q ∷ qs) are ended =
    (one_played kind budget lines t p q are.0 ended.0, each_played kind budget lines ts ps qs are.1 ended.1)
each_played kind budget lines [] [] (q ∷ qs) are ended = absurd ended
each_played kind budget lines (t ∷ ts) (p ∷ ps) [] are ended = absurd ended
each_played kind budget lines [] (p ∷ ps) played are ended = absurd are
each_played kind budget lines (t ∷ ts) [] played are ended = absurd are

pub each_played_if : {N : Type 0} →
    (kind : Kind) {E : Type 0} (budget : ℕ) (lines : List Line) (all_started : List (PhaseWorker N))
    (workers : List (Worker N)) (result : Result (Vec (Worker N) Global) E) →
    AreFor kind budget lines all_started workers → EndAll kind all_started result →
    IfOk result (λ played. EachPlayed kind budget lines workers played.items)
each_played_if kind budget lines all_started workers (Ok played) are ended =
    each_played kind budget lines all_started workers played.items are ended
each_played_if kind budget lines all_started workers (Err error) are ended = tt
