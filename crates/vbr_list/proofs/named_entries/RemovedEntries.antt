-- A remove of one entry: what its node shows where it was found, and where another was, or none.
use Rattle.vbr_list.proofs.Names.{◌≡◌, ℕ, true, false, Option, Some, None, Result, Ok, Err, IfOk, IfErr, sym, ap, ◌∙◌}
use Rattle.vbr_list.proofs.Names.{subst, is_some, BoundsOfRemove, Call, CallsAs, Entry, Found, given_call, Held}
use Rattle.vbr_list.proofs.Names.{is_yes, IsNodeOf, MarkedSlot, MarksFound, MarksSlot, PassLaw, PassView, Quiet}
use Rattle.vbr_list.proofs.Names.{Refusal, removal_in, Remove, RemovesExactly, RemovesKeyExactly, RemovesNodeExactly}
use Rattle.vbr_list.proofs.Names.{same_on, TakesOut, TellsKeyTaken, TellsNodeTaken, TellsTaken, Trace}
use Rattle.vbr_list.proofs.removes.Marking.{marks_since}
use Rattle.vbr_list.proofs.pieces.LonePasses.{gives_alone}
use Rattle.vbr_list.proofs.pieces.Told.{given_bare, given_kept, remove_yes}

-- the node that was found and marked is the entry's
pub marked_node : {p q r : Trace} {key : ℕ} {found : Found} (entry : Entry) → Quiet p q → MarksFound q r key found →
    IsNodeOf found entry → MarkedSlot p r entry.slot entry.birth key
marked_node {p} {q} {r} {key} entry before m f =
    let same : m.cur ≡ f.node = (let z : Some m.cur ≡ Some f.node = sym m.is ∙ f.cur in cc) in
    let x = m.marks entry.slot (ap (λ (held : Held). held.at) same ∙ f.place) in
    let birth : m.cur.birth ≡ entry.birth = ap (λ (held : Held). held.birth) same ∙ f.birth in
    let P : ℕ → Type 0 = λ b. MarksSlot p x.ended entry.slot b key in
    record {
      ended = x.ended;
      same = same_on before.same x.same;
      to = x.to;
      marks = subst P birth (marks_since before.seen x.marks);
    }

-- ---- what is told

-- a refusal tells of no entry
pub tires_exactly : {p q : PassView} {key budget : ℕ} {refusal : Refusal} (entry : Entry) →
    CallsAs {A = Option ℕ} (given_call p.trace.who Remove key) (BoundsOfRemove is_some p q key budget) p q budget
    (Err refusal) → RemovesNodeExactly p q key entry budget (Err refusal)
tires_exactly entry x = record {
  same = x.same;
  told = tt;
  quiet = x.quiet;
  hand = x.hand;
  steps = x.steps;
  bounds = x.bounds;
}

-- the entry was taken out
pub takes_exactly : {p q : PassView} {key budget : ℕ} (entry : Entry) (answer : Option ℕ) →
    CallsAs (removal_in p.trace key None) (BoundsOfRemove is_some p q key budget) p q budget (Ok answer) →
    is_some answer ≡ true → MarkedSlot p.trace q.trace entry.slot entry.birth key →
    RemovesNodeExactly p q key entry budget (Ok answer)
takes_exactly entry None x some marked = absurd (let z : true ≡ false = sym some in cc)
takes_exactly entry (Some value) x some marked = record {
  same = x.same;
  told = record { made = x.made; alone = x.alone; marked = marked };
  quiet = tt;
  hand = x.hand;
  steps = x.steps;
  bounds = x.bounds;
}

-- ---- at a map, and at a set

-- what was taken out, by what the call is
taken_as : {call other : Call} {p q : Trace} {key : ℕ} {entry : Entry} → call ≡ other → TakesOut call p q key entry →
    TakesOut other p q key entry
taken_as {p = p} {q = q} {key = key} {entry = entry} is x = subst (λ (c : Call). TakesOut c p q key entry) is x

pub exactly_kept : {p q : PassView} {key budget : ℕ} {entry : Entry} (answer : Result (Option ℕ) Refusal) →
    PassLaw p → p.trace.start.shape.values ≡ true → RemovesNodeExactly p q key entry budget answer →
    RemovesExactly p q key entry budget answer
exactly_kept {p} {q} {key} {budget} {entry} answer law has x = record {
  same = x.same;
  told = told answer x.told;
  quiet = x.quiet;
  hand = x.hand;
  steps = x.steps;
  bounds = x.bounds;
}
  where
    told : (answer : Result (Option ℕ) Refusal) → IfOk answer (TellsNodeTaken p.trace q.trace key entry) →
        IfOk answer (TellsTaken p.trace q.trace key entry)
    told (Ok (Some value)) y =
        let takes : TakesOut (given_call p.trace.who Remove key (Some value)) p.trace q.trace key entry =
        taken_as (given_kept p.trace Remove key has (Some value)) y in
        record { takes = takes; gives = gives_alone law.start law.low takes.made }
    told (Ok None) y = y
    told (Err refusal) y = tt

pub exactly_bare : {p q : PassView} {key budget : ℕ} {entry : Entry} (answer : Result (Option ℕ) Refusal) →
    p.trace.start.shape.values ≡ false → RemovesNodeExactly p q key entry budget answer →
    RemovesKeyExactly p q key entry budget (is_yes answer)
exactly_bare {p} {q} {key} {budget} {entry} answer bare x = record {
  same = x.same;
  told = told answer x.told;
  quiet = quiet answer x.quiet;
  hand = x.hand;
  steps = x.steps;
  bounds = remove_yes answer x.bounds;
}
  where
    told : (answer : Result (Option ℕ) Refusal) → IfOk answer (TellsNodeTaken p.trace q.trace key entry) →
        IfOk (is_yes answer) (TellsKeyTaken p.trace q.trace key entry)
    told (Ok (Some value)) y = taken_as (given_bare p.trace Remove key bare (Some value)) y
    told (Ok None) y = y
    told (Err refusal) y = tt

    quiet : (answer : Result (Option ℕ) Refusal) → IfErr answer (λ refusal. Quiet p.trace q.trace) →
        IfErr (is_yes answer) (λ refusal. Quiet p.trace q.trace)
    quiet (Ok given) y = tt
    quiet (Err refusal) y = y
