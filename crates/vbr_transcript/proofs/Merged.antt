-- Merging line by line: each line takes the next reply of its worker.
use Rattle.std.proofs.Common.{◌≡◌, ◌≢◌, ℕ, ◌+◌, ◌<◌, Bool, true, false, cond, eqb, List, [], ◌∷◌, ◌++◌, length, map}
use Rattle.std.proofs.Common.{take, get_or, set, length-append, ◌⊎◌, inl, inr, refl, sym, ap, subst, ◌∙◌, append-nil}
use Rattle.std.proofs.Common.{arith}
use Rattle.std.proofs.lemmas.Bool.{cases_eq, eq-eqb, ne_eqb}
use Rattle.std.proofs.lemmas.List.{take_more, length-take, map-append, length-map, get_or-map, get_or_default}
use Rattle.std.proofs.lemmas.List.{get_or-set_same, get_or-set_other, length-set}
use Rattle.std.proofs.lemmas.List.Elements.{filter-append}
use Rattle.std.proofs.lemmas.List.Filters.{length-filter_more}
use Rattle.std.proofs.lemmas.List.Sums.{length-filter, sum_by-take-le}
use Rattle.std.specs.Prelude.{zip}
use Rattle.vbr_transcript.specs.Calls.{Outcome, lines_by, outcomes_by}
use Rattle.vbr_transcript.specs.Merging.{replies_by, HaveReplies}
use Rattle.vbr_script.specs.declared.script.Line.{Line}
use Rattle.vbr_transcript.specs.declared.reply.Reply.{Reply}
use Rattle.vbr_transcript.proofs.Filters.{zip-append}

-- the first lines have their replies, and for each worker it is known how many of its own were taken
pub record IsMergedSoFar (lines : List Line) (own : List (List Reply)) (next : List ℕ) (merged : List Reply) (i : ℕ) :
    Type 0 where
  pub cursors : length next ≡ length own
  pub long : length merged ≡ i
  pub taken : (who : ℕ) → get_or next who 0 ≡ length (lines_by who (take i lines))
  pub own_order : (who : ℕ) →
      map (λ outcome. outcome.1) (outcomes_by who (zip (take i lines) merged))
      ≡ take (get_or next who 0) (replies_by who own)

-- a worker's lines so far are counted one more where the next line is its own
lines_counted : (who : ℕ) (lines : List Line) (i : ℕ) (line : Line) → i < length lines → get_or lines i line ≡ line →
    length (lines_by who (take (i + 1) lines)) ≡ length (lines_by who (take i lines)) + cond (eqb line.worker who) 1 0
lines_counted who lines i line inside is =
    rw (length-filter_more (λ (line : Line). eqb line.worker who) lines i line inside, is) refl

-- the worker of the next line has a reply left
has_reply : (lines : List Line) (own : List (List Reply)) (next : List ℕ) (merged : List Reply) (i : ℕ) (line : Line) →
    HaveReplies own lines → IsMergedSoFar lines own next merged i → i < length lines → get_or lines i line ≡ line →
    get_or next line.worker 0 < length (replies_by line.worker own)
has_reply lines own next merged i line have so_far inside is =
    let mine : Line → Bool = λ (other : Line). eqb other.worker line.worker in
    let one : cond {A = ℕ} (eqb line.worker line.worker) 1 0 ≡ 1 =
    ap (λ (b : Bool). cond {A = ℕ} b 1 0) (eq-eqb line.worker line.worker refl) in
    let more = lines_counted line.worker lines i line inside is in
    let most = sum_by-take-le (λ (line : Line). cond (mine line) 1 0) lines (i + 1) in
    let first = length-filter mine (take (i + 1) lines) in
    let all = length-filter mine lines in
    let each = have.one_each line.worker in
    let cursor = so_far.taken line.worker in
    omega (arith, one, more, most, first, all, each, cursor)

-- the next line's outcome stands behind those so far
outcomes_more : (who : ℕ) (lines : List Line) (merged : List Reply) (i : ℕ) (line : Line) (reply : Reply) →
    i < length lines → get_or lines i line ≡ line → length merged ≡ i →
    outcomes_by who (zip (take (i + 1) lines) (merged ++ reply ∷ []))
    ≡ outcomes_by who (zip (take i lines) merged) ++ cond (eqb line.worker who) ((line, reply) ∷ []) []
outcomes_more who lines merged i line reply inside is long =
    let same : length merged ≡ length (take i lines) = omega (arith, length-take i lines) in
    let shorter : take (i + 1) lines ≡ take i lines ++ line ∷ [] = rw (take_more lines i line inside, is) refl in
    ap (λ (some : List Line). outcomes_by who (zip some (merged ++ reply ∷ []))) shorter
    ∙ ap (outcomes_by who) (zip-append (take i lines) (line ∷ []) merged (reply ∷ []) same)
    ∙ filter-append (λ (outcome : Outcome). eqb outcome.0.worker who) (zip (take i lines) merged) ((line, reply) ∷ [])

-- what is put together of a worker's replies is one more where the next line is its own
replies_more : (who : ℕ) (lines : List Line) (merged : List Reply) (i : ℕ) (line : Line) (reply : Reply) →
    i < length lines → get_or lines i line ≡ line → length merged ≡ i →
    map (λ (outcome : Outcome). outcome.1) (outcomes_by who (zip (take (i + 1) lines) (merged ++ reply ∷ [])))
    ≡ map (λ (outcome : Outcome). outcome.1) (outcomes_by who (zip (take i lines) merged))
    ++ cond (eqb line.worker who) (reply ∷ []) []
replies_more who lines merged i line reply inside is long =
    ap (map (λ (outcome : Outcome). outcome.1)) (outcomes_more who lines merged i line reply inside is long)
    ∙ map-append (λ (outcome : Outcome). outcome.1) (outcomes_by who (zip (take i lines) merged))
    (cond (eqb line.worker who) ((line, reply) ∷ []) [])
    ∙ ap (λ (last : List Reply).
    map (λ (outcome : Outcome). outcome.1) (outcomes_by who (zip (take i lines) merged)) ++ last)
    (one (eqb line.worker who))
  where
    one : (b : Bool) → map (λ (outcome : Outcome). outcome.1) (cond b ((line, reply) ∷ []) []) ≡ cond b (reply ∷ []) []
    one true = refl
    one false = refl

-- one more line has taken its worker's next reply
merged_more : (lines : List Line) (own : List (List Reply)) (next : List ℕ) (merged : List Reply) (i : ℕ) (line : Line)
    (reply : Reply) → HaveReplies own lines → IsMergedSoFar lines own next merged i → i < length lines →
    get_or lines i line ≡ line → get_or (replies_by line.worker own) (get_or next line.worker 0) reply ≡ reply →
    IsMergedSoFar lines own (set next line.worker (get_or next line.worker 0 + 1)) (merged ++ reply ∷ []) (i + 1)
merged_more lines own next merged i line reply have so_far inside is answered = record {
  cursors = length-set next line.worker (get_or next line.worker 0 + 1) ∙ so_far.cursors;
  long = omega (arith, length-append merged (reply ∷ []), so_far.long);
  taken = λ who. taken who (cases_eq who line.worker);
  own_order = λ who.
      replies_more who lines merged i line reply inside is so_far.long ∙ own_order who (cases_eq who line.worker);
}
  where
    seat : line.worker < length next
    seat =
        let low : line.worker < length own =
        subst (λ (line : Line). line.worker < length own) is (have.workers i line inside) in
        omega (arith, low, so_far.cursors)

    taken : (who : ℕ) → (who ≡ line.worker) ⊎ (who ≢ line.worker) →
        get_or (set next line.worker (get_or next line.worker 0 + 1)) who 0 ≡ length (lines_by who (take (i + 1) lines))
    taken who (inl same) =
        let here : get_or (set next line.worker (get_or next line.worker 0 + 1)) who 0 ≡ get_or next line.worker 0 + 1 =
        rw same (get_or-set_same next line.worker (get_or next line.worker 0 + 1) 0 seat) in
        let one : cond {A = ℕ} (eqb line.worker who) 1 0 ≡ 1 = rw (eq-eqb line.worker who (sym same)) refl in
        let before : get_or next line.worker 0 ≡ length (lines_by who (take i lines)) =
        rw same (so_far.taken line.worker) in
        omega (arith, here, one, before, lines_counted who lines i line inside is)
    taken who (inr other) =
        let there : get_or (set next line.worker (get_or next line.worker 0 + 1)) who 0 ≡ get_or next who 0 =
        get_or-set_other next line.worker who (get_or next line.worker 0 + 1) 0 other in
        let none : cond {A = ℕ} (eqb line.worker who) 1 0 ≡ 0 =
        rw (ne_eqb line.worker who (λ same. other (sym same))) refl in
        omega (arith, there, none, so_far.taken who, lines_counted who lines i line inside is)

    own_order : (who : ℕ) → (who ≡ line.worker) ⊎ (who ≢ line.worker) →
        map (λ (outcome : Outcome). outcome.1) (outcomes_by who (zip (take i lines) merged))
        ++ cond (eqb line.worker who) (reply ∷ []) []
        ≡ take (get_or (set next line.worker (get_or next line.worker 0 + 1)) who 0) (replies_by who own)
    own_order who (inl same) =
        let here : get_or (set next line.worker (get_or next line.worker 0 + 1)) who 0 ≡ get_or next line.worker 0 + 1 =
        rw same (get_or-set_same next line.worker (get_or next line.worker 0 + 1) 0 seat) in
        let left : get_or next line.worker 0 < length (replies_by line.worker own) =
        has_reply lines own next merged i line have so_far inside is in
        let one : cond (eqb line.worker who) (reply ∷ []) [] ≡ reply ∷ [] =
        rw (eq-eqb line.worker who (sym same)) refl in
        let more : take (get_or next line.worker 0 + 1) (replies_by line.worker own)
        ≡ take (get_or next line.worker 0) (replies_by line.worker own) ++ reply ∷ [] =
        rw (take_more (replies_by line.worker own) (get_or next line.worker 0) reply left, answered) refl in
        rw (here, one, same)
        (ap (λ (first : List Reply). first ++ reply ∷ []) (so_far.own_order line.worker) ∙ sym more)
    own_order who (inr other) =
        let there : get_or (set next line.worker (get_or next line.worker 0 + 1)) who 0 ≡ get_or next who 0 =
        get_or-set_other next line.worker who (get_or next line.worker 0 + 1) 0 other in
        let none : cond (eqb line.worker who) (reply ∷ []) [] ≡ [] =
        rw (ne_eqb line.worker who (λ same. other (sym same))) refl in
        rw (there, none) (append-nil _ ∙ so_far.own_order who)

-- ---- as the loop goes

-- what the next line finds: a cursor and a reply of its worker; and with that reply one more line is merged
pub record FindsReply (lines : List Line) (own : List (List Reply)) (next : List ℕ) (merged : List Reply) (i : ℕ)
    (worker : ℕ) (left : List Reply) : Type 0 where
  pub cursor : worker < length next
  pub some : get_or next worker 0 < length left
  pub more : (reply : Reply) → reply ≡ get_or left (get_or next worker 0) reply →
      IsMergedSoFar lines own (set next worker (get_or next worker 0 + 1)) (merged ++ reply ∷ []) (i + 1)

-- the replies of a worker, where they are what its element of a list has
replies_by-items : {V : Type 0} (items : V → List Reply) (own : List V) (who : ℕ) (one : V) → who < length own →
    one ≡ get_or own who one → replies_by who (map items own) ≡ items one
replies_by-items items own who one inside is = get_or-map items own who one [] inside ∙ ap items (sym is)

-- the line at an index finds its worker's next reply
pub finds_reply : {V : Type 0} (items : V → List Reply) (lines : List Line) (own : List V) (next : List ℕ)
    (merged : List Reply) (i : ℕ) (none : Line) (one : V) → HaveReplies (map items own) lines →
    IsMergedSoFar lines (map items own) next merged i → i < length lines →
    one ≡ get_or own (get_or lines i none).worker one →
    FindsReply lines (map items own) next merged i (get_or lines i none).worker (items one)
finds_reply items lines own next merged i none one have so_far inside at_index =
    let line = get_or lines i none in
    let is : get_or lines i line ≡ line = get_or_default lines i line none inside in
    let worker : line.worker < length (map items own) = have.workers i none inside in
    let same : replies_by line.worker (map items own) ≡ items one =
    replies_by-items items own line.worker one (omega (arith, worker, length-map own items)) at_index in
    record {
      cursor = omega (arith, worker, so_far.cursors);
      some = subst (λ (left : List Reply). get_or next line.worker 0 < length left) same
          (has_reply lines (map items own) next merged i line have so_far inside is);
      more = λ reply answered.
          merged_more lines (map items own) next merged i line reply have so_far inside is
          (subst (λ (left : List Reply). get_or left (get_or next line.worker 0) reply ≡ reply) (sym same)
          (sym answered));
    }
