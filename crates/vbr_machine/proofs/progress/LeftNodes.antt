-- A node that a pass has marked, and that has left, could be met and is listed no more.
use Rattle.std.proofs.Common.{◌≡◌, ◌≢◌, ℕ, suc, ◌<◌, ◌≤◌, Bool, true, false, not, List, [], ◌∷◌, Option, Some, None}
use Rattle.std.proofs.Common.{refl, sym, ap, ◌∙◌, subst, inl, inr, ⊎_elim, eq-eqb, arith}
use Rattle.std.specs.Prelude.{◌==◌, ◌&&◌, ◌⊎◌}
use Rattle.std.specs.List.{Contains}
use Rattle.std.proofs.lemmas.Bool.{and_from, and_parts, cases_Bool, ne_eqb}
use Rattle.std.proofs.lemmas.List.{append_cancel_left}
use Rattle.vbr_words.specs.declared.place.At.TheVariants.{Head}
use Rattle.vbr_words.specs.Buckets.{bucket_of}
use Rattle.vbr_machine.specs.Start.{Start, IsStart}
use Rattle.vbr_machine.specs.Keys.{Keys}
use Rattle.vbr_machine.specs.Accounts.{incarnations_after, own_entries}
use Rattle.vbr_machine.specs.Chronicles.{Allowed, Entry, IsLawful, Removes, becomes, entries_by}
use Rattle.vbr_machine.specs.Disturbances.{is_met, met}
use Rattle.vbr_machine.specs.Incarnations.{State, Linked, Marked, Unlinked, Stamped, Unborn, InHand, GivenUp}
use Rattle.vbr_machine.specs.Incarnations.{Incarnations}
use Rattle.vbr_machine.specs.Nodes.{behind, count_below, is_behind}
use Rattle.vbr_machine.specs.Opened.{opening_keys}
use Rattle.vbr_machine.specs.Removals.{HasLeft, MarkedLeft}
use Rattle.vbr_machine.specs.Runs.{Begins, IsRun}
use Rattle.vbr_machine.specs.Sound.{IsInserted, IsListed, Sound}
use Rattle.vbr_machine.specs.declared.event.Event.{Event}
use Rattle.vbr_machine.proofs.runs.EveryRun.{run_agrees}
use Rattle.vbr_machine.proofs.reads.FoundReads.{first_or_later, none_in}
use Rattle.vbr_machine.proofs.progress.ListedNodes.{InList, Stands, count_falls, in_list_from, slot_is_one}
use Rattle.vbr_machine.proofs.progress.MetNodes.{IsMet, StaysOut, count_taken, gone, met_is, stays_out, still}
use Rattle.vbr_machine.proofs.moments.Removals.{left_stays}
use Rattle.vbr_machine.proofs.progress.Since.{Since, own_since, since}
use Rattle.vbr_machine.proofs.chronicles.Slots.{inserted_late, late_born, listed_late}
use Rattle.vbr_machine.proofs.chronicles.SoundAfter.{sound_kept}

-- ---- states

listed_inserted : (st : State) → IsListed st → IsInserted st
listed_inserted st l = grind arith

left_inserted : (st : State) → HasLeft st → IsInserted st
left_inserted st l = grind arith

left_not_listed : (st : State) → IsListed st → HasLeft st → ⊥
left_not_listed Linked l h = h
left_not_listed Marked l h = h
left_not_listed (Unlinked p u) l h = l
left_not_listed (Stamped u r) l h = l
left_not_listed Unborn l h = l
left_not_listed (InHand p) l h = l
left_not_listed GivenUp l h = l

-- ---- what a pass marked since hadn't left before

marked_in : (start : Start) (keys : Keys) (who node : ℕ) (a : Incarnations) (entries : List Entry) → Sound start a →
    IsLawful start keys a entries → Contains (entries_by who entries) (record { pass = who; what = Removes node }) →
    HasLeft (a.state node) → ⊥
marked_in start keys who node a [] s l among left = none_in (record { pass = who; what = Removes node }) among
marked_in start keys who node a (entry ∷ entries) s l among left =
    go (cases_Bool (entry.pass == who))
    (λ rest. marked_in start keys who node (becomes start a entry.pass entry.what) entries
    (sound_kept start keys a entry.pass entry.what s l.0) l.1 rest
    (left_stays start keys a entry.pass entry.what s l.0 node left))
  where
    told : Entry
    told = record { pass = who; what = Removes node }

    first : (x : Entry) → x ≡ told → Allowed start keys a x.pass x.what → ⊥
    first x is allowed =
        let P : Entry → Type 0 = λ y. Allowed start keys a y.pass y.what in
        let L : State → Type 0 = HasLeft in
        let linked : a.state node ≡ Linked = subst P is allowed in
        subst L linked left

    go : ((entry.pass == who) ≡ true) ⊎ ((entry.pass == who) ≡ false) → (Contains (entries_by who entries) told → ⊥) → ⊥
    go (inl mine) later =
        ⊎_elim (λ (is : entry ≡ told). first entry is l.0) later
        (first_or_later entry told (entries_by who entries) (rw mine at among))
    go (inr other) later = later (rw other at among)

-- so an incarnation that a pass has marked since a beginning of a run could be met since
module _ {start : Start} {first run : List Event} (x : Since start first run) (who key : ℕ)
    (m : MarkedLeft start first run who key) where
  not_left : HasLeft ((incarnations_after start first).state m.node) → ⊥
  not_left =
      let same : m.marked.since ≡ entries_by who x.entries =
      append_cancel_left (own_entries start first who) m.marked.since (entries_by who x.entries)
      (sym m.marked.adds ∙ own_since x who) in
      let P : List Entry → Type 0 = λ l. Contains l (record { pass = who; what = Removes m.node }) in
      marked_in start (opening_keys start) who m.node (incarnations_after start first) x.entries x.sound x.lawful
      (subst P same m.marked.among)

  could_meet : IsMet start (incarnations_after start first) (incarnations_after start run) (bucket_of start.shape key)
      m.node
  could_meet =
      record {
        inserted = left_inserted ((incarnations_after start run).state m.node) m.left;
        since = not_left;
        of_bucket = ap (bucket_of start.shape) m.of_key;
      }

-- ---- counts

-- the incarnation in a slot, or any where there is none
abbrev in_slot : Option ℕ → ℕ
in_slot None = 0
in_slot (Some c) = c

-- the nodes of a list could be met since an earlier moment, and one that has left is none of them
list_and_left : {start : Start} {first a : Incarnations} → Sound start a → StaysOut first a → (bucket h c : ℕ) →
    c < a.count → IsMet start first a bucket c → HasLeft (a.state c) →
    behind start a bucket (Head h) < met start first a bucket
list_and_left {start} {first} {a} s out bucket h c low could left =
    let few : behind start a bucket (Head h) ≤ count_below but a.count =
    count_taken (is_behind start a bucket (Head h)) but (λ t. in_slot (a.last t)) start.shape.slots a.count into one in
    let more : met start first a bucket ≡ suc (count_below but a.count) =
    count_falls (is_met start first a bucket) but a.count c low (met_is start first a bucket c could)
    (gone (is_met start first a bucket c) (eq-eqb c c refl))
    (λ d l ne. sym (still (is_met start first a bucket d) (ne_eqb d c ne))) in
    omega (arith, few, more)
  where
    but : ℕ → Bool
    but d = is_met start first a bucket d && not (d == c)

    there : (t : ℕ) → is_behind start a bucket (Head h) t ≡ true → (d : ℕ) × InList start a bucket t d
    there t e = in_list_from start a bucket t (and_parts _ _ e).0

    into : (t : ℕ) → t < start.shape.slots → is_behind start a bucket (Head h) t ≡ true →
        (in_slot (a.last t) < a.count) × (but (in_slot (a.last t)) ≡ true)
    into t l e =
        let node = there t e in
        let d = node.0 in
        let listed = node.1.stands.listed in
        let is : in_slot (a.last t) ≡ d = ap in_slot node.1.stands.last in
        let P : ℕ → Type 0 = λ n. (n < a.count) × (but n ≡ true) in
        let apart : d ≢ c =
        λ w. left_not_listed (a.state c) (let Q : ℕ → Type 0 = λ n. IsListed (a.state n) in subst Q w listed) left in
        subst P (sym is) (
          late_born s.slots d 0 (listed_late (a.state d) 0 listed),
          and_from (is_met start first a bucket d) (not (d == c))
              (met_is start first a bucket d
              (record {
                inserted = listed_inserted (a.state d) listed;
                since = λ gone. left_not_listed (a.state d) listed (out.out d gone);
                of_bucket = node.1.of_bucket;
              })) (ap not (ne_eqb d c apart)),
        )

    one : (t u : ℕ) → t < start.shape.slots → u < start.shape.slots → is_behind start a bucket (Head h) t ≡ true →
        is_behind start a bucket (Head h) u ≡ true → in_slot (a.last t) ≡ in_slot (a.last u) → t ≡ u
    one t u l k e f same =
        let x = there t e in
        let y = there u f in
        let d : y.0 ≡ x.0 = ap in_slot (sym y.1.stands.last) ∙ sym same ∙ ap in_slot x.1.stands.last in
        let P : ℕ → Type 0 = λ n. Stands a u n in
        slot_is_one s t u x.0 x.1.stands (subst P d y.1.stands)

-- a law: where a pass has marked a node since a beginning of a run, and that has left, fewer nodes are in the list
-- than could be met since
pub marked_fewer : (start : Start) (passes : ℕ) (first run : List Event) → IsStart start → IsRun start passes run →
    Begins first run → (who key h : ℕ) → MarkedLeft start first run who key →
    behind start (incarnations_after start run) (bucket_of start.shape key) (Head h)
    < met start (incarnations_after start first) (incarnations_after start run) (bucket_of start.shape key)
marked_fewer start passes first run is ok b who key h m =
    let x = since start passes first run is ok b in
    let good = run_agrees start passes run is ok in
    let now = incarnations_after start run in
    let could = could_meet x who key m in
    let P : Incarnations → Type 0 = StaysOut (incarnations_after start first) in
    let out : StaysOut (incarnations_after start first) now =
    subst P (sym x.makes)
    (stays_out start (opening_keys start) (incarnations_after start first) x.entries x.sound x.lawful) in
    list_and_left good.sound out (bucket_of start.shape key) h m.node
    (late_born good.sound.slots m.node 0 (inserted_late (now.state m.node) could.inserted)) could m.left
