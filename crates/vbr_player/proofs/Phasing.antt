-- The lines of the next phase, after those of the phases before.
use Rattle.std.proofs.Common.{◌≡◌, ℕ, ◌+◌, ◌-◌, ◌*◌, ◌<◌, ◌≤◌, List, [], ◌++◌, length, take, drop, sym, ap, subst, ◌∙◌}
use Rattle.std.proofs.Common.{arith, append-nil, length-drop}
use Rattle.std.specs.Prelude.{nat_le, All}
use Rattle.std.specs.List.{prefix_len}
use Rattle.std.proofs.Math.Seq.{take-add}
use Rattle.std.proofs.lemmas.List.{drop-drop, take_all, take-append-drop}
use Rattle.std.proofs.lemmas.List.Elements.{All-append, All-drop}
use Rattle.vbr_slots.specs.views.Views.{TableView}
use Rattle.vbr_transcript.specs.Calls.{lines_up_to}
use Rattle.vbr_player.specs.Meeting.{PlayedAndMet}
use Rattle.vbr_script.specs.Scripts.{AscendFrom}
use Rattle.vbr_player.specs.Standing.{Stand}
use Rattle.vbr_player.specs.Working.{HaveRoomForReplies}
use Rattle.vbr_script.specs.declared.script.Kind.{Kind}
use Rattle.vbr_script.specs.declared.script.Line.{Line}
use Rattle.vbr_player.specs.declared.worker.Worker.{Worker}
use Rattle.vbr_player.proofs.Standing.{all_room, stand_next}
use Rattle.vbr_player.proofs.Slices.{next_phase, lines_up_to-front, none_left}

-- the next lines of a phase are cut off the rest
pub record Cuts (script : List Line) (first n phase : ℕ) : Type 0 where
  pub taken : take (first + n) script ≡ take first script ++ take n (drop first script)
  pub left : script ≡ (take first script ++ take n (drop first script)) ++ drop (first + n) script
  pub up_to : lines_up_to phase script ≡ take first script ++ take n (drop first script)
  pub early : All (λ line. line.phase < phase + 1) (take (first + n) script)
  pub later : AscendFrom (phase + 1) (drop (first + n) script)

pub cuts : (script : List Line) (first n phase : ℕ) →
    n ≡ prefix_len (λ line. nat_le line.phase phase) (drop first script) →
    All (λ line. line.phase < phase) (take first script) → AscendFrom phase (drop first script) →
    Cuts script first n phase
cuts script first n phase is early up =
    let front = take first script in
    let rest = drop first script in
    let slice = take n rest in
    let next = next_phase phase phase rest up in
    let within : All (λ line. line.phase ≤ phase) slice =
    subst (λ (k : ℕ). All (λ line. line.phase ≤ phase) (take k rest)) (sym is) next.0 in
    let dropped : drop (first + n) script ≡ drop n rest = sym (drop-drop n first script) in
    let beyond : AscendFrom (phase + 1) (drop (first + n) script) =
    subst (λ (lines : List Line). AscendFrom (phase + 1) lines) (sym dropped)
    (subst (λ (k : ℕ). AscendFrom (phase + 1) (drop k rest)) (sym is) next.1) in
    let taken : take (first + n) script ≡ front ++ slice = take-add first n script in
    let whole : script ≡ (front ++ slice) ++ drop (first + n) script =
    sym (take-append-drop (first + n) script) ∙ ap (λ (lines : List Line). lines ++ drop (first + n) script) taken in
    let all : All (λ line. line.phase ≤ phase) (front ++ slice) =
    All-append (λ (line : Line). line.phase ≤ phase) front slice
    (λ k d inside. let low = early k d inside in omega arith) within in
    record {
      taken = taken;
      left = whole;
      up_to = ap (lines_up_to phase) whole
          ∙ lines_up_to-front phase (front ++ slice) (drop (first + n) script) all beyond;
      early = subst (All (λ (line : Line). line.phase < phase + 1)) (sym taken)
          (λ k d inside. let low = all k d inside in omega arith);
      later = beyond;
    }

-- no lines are left after the last phase
pub all_played : {N : Type 0} {kind : Kind} →
    (set : TableView) (budget : ℕ) (script : List Line) (first from phase phases count : ℕ)
    (workers : List (Worker N)) → phase ≡ phases → All (λ line. line.phase < phases) script →
    AscendFrom phase (drop first script) → Stand kind set budget script (take first script) count from phase workers →
    Stand kind set budget script script count from phases workers
all_played {N} {kind} set budget script first from phase phases count workers is below up stand =
    let none : drop first script ≡ [] =
    none_left phases (drop first script) (subst (λ (k : ℕ). AscendFrom k (drop first script)) is up)
    (All-drop (λ (line : Line). line.phase < phases) first script below) in
    let all : take first script ≡ script =
    sym (append-nil (take first script)) ∙ ap (λ (lines : List Line). take first script ++ lines) (sym none)
    ∙ take-append-drop first script in
    subst (λ (k : List Line × ℕ). Stand kind set budget script k.0 count from k.1 workers) (λ i. (all i, is i)) stand

-- the rest of some lines
pub rest_of : (lines : List Line) (first : ℕ) → take (length lines - first) (drop first lines) ≡ drop first lines
rest_of lines first = take_all (length lines - first) (drop first lines) (omega (arith, length-drop first lines))

-- so are the next lines that are counted up to a phase in the rest of a script
pub cuts_rest : (script : List Line) (first n phase : ℕ) →
    n ≡ prefix_len (λ line. nat_le line.phase phase) (take (length script - first) (drop first script)) →
    All (λ line. line.phase < phase) (take first script) → AscendFrom phase (drop first script) →
    Cuts script first n phase
cuts_rest script first n phase is early up =
    cuts script first n phase (is ∙ ap (prefix_len (λ line. nat_le line.phase phase)) (rest_of script first)) early up

-- the lines of a phase among them
pub slice_of : (lines : List Line) (first n : ℕ) →
    take (first + n - first) (drop first lines) ≡ take n (drop first lines)
slice_of lines first n = ap (λ (k : ℕ). take k (drop first lines)) (let e : first + n - first ≡ n = omega arith in e)

-- the workers have room for the lines of the next phase
pub next_room : {N : Type 0} {kind : Kind} →
    (set : TableView) (budget : ℕ) (script : List Line) (first n from phase count : ℕ) (workers : List (Worker N)) →
    Cuts script first n phase → Stand kind set budget script (take first script) count from phase workers →
    HaveRoomForReplies workers (take (first + n - first) (drop first script))
next_room {N} {kind} set budget script first n from phase count workers cut stand =
    subst (λ (lines : List Line). HaveRoomForReplies workers lines) (sym (slice_of script first n))
    (all_room set budget ((count - 1) * (phase - from)) script (take first script) (take n (drop first script))
    (drop (first + n) script) workers cut.left stand.played)

-- they stand after it when they have played it and met
pub stand_behind : {N : Type 0} {kind : Kind} →
    (set : TableView) (budget : ℕ) (script : List Line) (first n from phase count : ℕ) (ws us : List (Worker N)) →
    Cuts script first n phase → Stand kind set budget script (take first script) count from phase ws →
    PlayedAndMet kind budget (take (first + n - first) (drop first script)) ws us →
    Stand kind set budget script (take (first + n) script) count from (phase + 1) us
stand_behind {N} {kind} set budget script first n from phase count ws us cut stand next =
    let played : PlayedAndMet kind budget (take n (drop first script)) ws us =
    subst (λ (lines : List Line). PlayedAndMet kind budget lines ws us) (slice_of script first n) next in
    subst (λ (lines : List Line). Stand kind set budget script lines count from (phase + 1) us) (sym cut.taken)
    (stand_next set budget script (take first script) (take n (drop first script)) count from phase ws us cut.up_to
    stand played)
