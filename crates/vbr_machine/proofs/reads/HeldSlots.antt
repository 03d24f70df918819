-- A slot of which a pass has read anything is one that it holds: loads and exchanges ask for that.
use Rattle.std.proofs.Common.{◌≡◌, ℕ, true, List, [], ◌∷◌, ◌++◌, refl, inl, inr}
use Rattle.std.specs.Prelude.{◌==◌, ◌&&◌, IsTrue}
use Rattle.std.specs.List.{AllByRecursion}
use Rattle.std.proofs.lemmas.Bool.{cases_Bool, eq-eqb, and_parts}
use Rattle.vbr_words.specs.Flags.{has_flag}
use Rattle.vbr_machine.specs.Start.{Start}
use Rattle.vbr_words.specs.Words.{link_of}
use Rattle.vbr_words.specs.declared.link.Link.{Link}
use Rattle.vbr_words.specs.declared.place.At.{At}
use Rattle.vbr_words.specs.declared.place.At.TheVariants.{Head, Slot}
use Rattle.vbr_machine.specs.Links.{same_link}
use Rattle.vbr_machine.specs.Knowledge.{Know, same_at, knows_link, names, holds, holds_at}
use Rattle.vbr_machine.specs.Acceptance.{Accepts}
use Rattle.vbr_machine.specs.Learning.{read_epoch, with_pending, with_checked, reads_won, learn}
use Rattle.vbr_machine.specs.declared.event.Step.{Step}
use Rattle.vbr_machine.specs.declared.event.Step.TheVariants.{ReadEpoch, TakeFlag, LoadLink, LoadBirth, LoadKey}
use Rattle.vbr_machine.specs.declared.event.Step.TheVariants.{Publish, Mark, Replace, Unlink, LoadValue}
use Rattle.vbr_machine.specs.declared.knowledge.Read.{Read}
use Rattle.vbr_machine.specs.declared.knowledge.Read.TheVariants.{LinkAt, BirthOf, KeyOf, ValueOf}
use Rattle.vbr_machine.proofs.reads.FoundReads.{same_at_true}
use Rattle.vbr_machine.proofs.reads.ValueReads.{of_filled}

-- the place that a read is of is held
abbrev pub IsOfHeldPlace : List Read → Read → Type 0
IsOfHeldPlace checked (LinkAt place link) = IsTrue (holds_at checked place)
IsOfHeldPlace checked (BirthOf s birth) = IsTrue (holds checked s)
IsOfHeldPlace checked (KeyOf s key) = IsTrue (holds checked s)
IsOfHeldPlace checked (ValueOf s key) = IsTrue (holds checked s)

-- all reads of a pass are of places that it holds
pub record ReadsHeldPlaces (know : Know) : Type 0 where
  pub checked : AllByRecursion (IsOfHeldPlace know.checked) know.checked
  pub pending : AllByRecursion (IsOfHeldPlace know.checked) know.pending

-- ---- more reads

held_more : (xs ys : List Read) (s : ℕ) → holds xs s ≡ true → holds (xs ++ ys) s ≡ true
held_more [] ys s h = absurd (cc)
held_more (BirthOf v b ∷ xs) ys s h = held_more xs ys s h
held_more (KeyOf v b ∷ xs) ys s h = held_more xs ys s h
held_more (ValueOf v b ∷ xs) ys s h = held_more xs ys s h
held_more (LinkAt place link ∷ xs) ys s h = elim (cases_Bool (names link.slot s)) [
  | inl k ↦ rw k refl
  | inr k ↦ let r : holds xs s ≡ true = rw k at h in rw k (held_more xs ys s r)
]

held_later : (xs ys : List Read) (s : ℕ) → holds ys s ≡ true → holds (xs ++ ys) s ≡ true
held_later [] ys s h = h
held_later (BirthOf v b ∷ xs) ys s h = held_later xs ys s h
held_later (KeyOf v b ∷ xs) ys s h = held_later xs ys s h
held_later (ValueOf v b ∷ xs) ys s h = held_later xs ys s h
held_later (LinkAt place link ∷ xs) ys s h = elim (cases_Bool (names link.slot s)) [
  | inl k ↦ rw k refl
  | inr k ↦ rw k (held_later xs ys s h)
]

held_at_more : (xs ys : List Read) (place : At) → holds_at xs place ≡ true → holds_at (xs ++ ys) place ≡ true
held_at_more xs ys (Head b) h = refl
held_at_more xs ys (Slot s) h = held_more xs ys s h

of_held_more : (xs ys : List Read) (read : Read) → IsOfHeldPlace xs read → IsOfHeldPlace (xs ++ ys) read
of_held_more xs ys (LinkAt place link) h = held_at_more xs ys place h
of_held_more xs ys (BirthOf s birth) h = held_more xs ys s h
of_held_more xs ys (KeyOf s key) h = held_more xs ys s h
of_held_more xs ys (ValueOf s key) h = held_more xs ys s h

all_more : (xs ys reads : List Read) → AllByRecursion (IsOfHeldPlace xs) reads →
    AllByRecursion (IsOfHeldPlace (xs ++ ys)) reads
all_more xs ys [] h = tt
all_more xs ys (read ∷ reads) h = (of_held_more xs ys read h.0, all_more xs ys reads h.1)

all_append : (P : Read → Type 0) (xs ys : List Read) → AllByRecursion P xs → AllByRecursion P ys →
    AllByRecursion P (xs ++ ys)
all_append P [] ys g h = h
all_append P (x ∷ xs) ys g h = (g.0, all_append P xs ys g.1 h)

-- more reads are checked, each of a place that is then held
checked_more : (know : Know) (reads : List Read) → ReadsHeldPlaces know →
    AllByRecursion (IsOfHeldPlace (know.checked ++ reads)) reads → ReadsHeldPlaces (with_checked know reads)
checked_more know reads r h = record {
  checked = all_append (IsOfHeldPlace (know.checked ++ reads)) know.checked reads
      (all_more know.checked reads know.checked r.checked) h;
  pending = all_more know.checked reads know.pending r.pending;
}

-- one more read is pending
pending_more : (know : Know) (read : Read) → ReadsHeldPlaces know → IsOfHeldPlace know.checked read →
    ReadsHeldPlaces (with_pending know read)
pending_more know read r h =
    record {
      checked = r.checked;
      pending = all_append (IsOfHeldPlace know.checked) know.pending (read ∷ []) r.pending (h, tt);
    }

-- the epoch is read
epoch_read : (know : Know) (epoch : ℕ) → ReadsHeldPlaces know → ReadsHeldPlaces (read_epoch know epoch)
epoch_read know epoch r = elim (cases_Bool (epoch == know.epoch)) [
  | inl k ↦ rw k (record {
    checked = all_append (IsOfHeldPlace (know.checked ++ know.pending)) know.checked know.pending
        (all_more know.checked know.pending know.checked r.checked)
        (all_more know.checked know.pending know.pending r.pending);
    pending = tt;
  })
  | inr k ↦ rw k (record { checked = tt; pending = tt })
]

-- where a link at a place is checked, the place is held
pub link_held : (held reads : List Read) (place : At) (link : Link) → AllByRecursion (IsOfHeldPlace held) reads →
    knows_link reads place link ≡ true → holds_at held place ≡ true
link_held held [] place link r h = absurd (cc)
link_held held (LinkAt here seen ∷ reads) place link r h = elim
    (cases_Bool (same_at here place && same_link seen link)) [
      | inl k ↦ let u = and_parts (same_at here place) (same_link seen link) k in rw (← same_at_true here place u.0) r.0
      | inr k ↦ link_held held reads place link r.1 (rw k at h)
    ]
link_held held (_ ∷ reads) place link r h = link_held held reads place link r.1 h

-- ---- steps

-- what a pass learns by an accepted step leaves all of its reads of held places
pub held_learned : (start : Start) (know : Know) (step : Step) (found stamp : ℕ) → ReadsHeldPlaces know →
    Accepts start know step → ReadsHeldPlaces (learn step found stamp know)
held_learned start know ReadEpoch found stamp r ok = epoch_read know found r
held_learned start know (TakeFlag s) found stamp r ok = elim (cases_Bool (has_flag found s)) [
  | inl k ↦ rw k (record { checked = r.checked; pending = r.pending })
  | inr k ↦ rw k r
]
held_learned start know (LoadLink place) found stamp r ok = pending_more know (LinkAt place (link_of found)) r ok.held
held_learned start know (LoadBirth s) found stamp r ok = pending_more know (BirthOf s found) r ok.held
held_learned start know (LoadKey s) found stamp r ok = pending_more know (KeyOf s found) r ok.held
held_learned start know (LoadValue s) found stamp r ok = pending_more know (ValueOf s found) r ok.held
held_learned start know (Publish pred expected s) found stamp r ok = elim (cases_Bool (found == expected)) [
  | inl k ↦
      let reads = reads_won know (Publish pred expected s) in
      let new : holds (know.checked ++ reads) s ≡ true = held_later know.checked reads s (rw (eq-eqb s s refl) refl) in
      let more = checked_more know reads r (
        held_at_more know.checked reads pred
            (link_held know.checked know.checked pred (link_of expected) r.checked ok.held.0),
        of_filled (IsOfHeldPlace (know.checked ++ reads)) s (know.own s) new new new (λ x _. new),
      ) in
      rw k (record { checked = more.checked; pending = more.pending })
  | inr k ↦ rw k r
]
held_learned start know (Mark s expected) found stamp r ok = elim (cases_Bool (found == expected)) [
  | inl k ↦
      let reads = reads_won know (Mark s expected) in
      rw k (checked_more know reads r (
        held_at_more know.checked reads (Slot s)
            (link_held know.checked know.checked (Slot s) (link_of expected) r.checked ok.held.0),
        tt,
      ))
  | inr k ↦ rw k r
]
held_learned start know (Replace s expected t) found stamp r ok = elim (cases_Bool (found == expected)) [
  | inl k ↦
      let reads = reads_won know (Replace s expected t) in
      let new : holds (know.checked ++ reads) t ≡ true = held_later know.checked reads t (rw (eq-eqb t t refl) refl) in
      let more = checked_more know reads r (
        held_at_more know.checked reads (Slot s)
            (link_held know.checked know.checked (Slot s) (link_of expected) r.checked ok.held.0),
        of_filled (IsOfHeldPlace (know.checked ++ reads)) t (know.own t) new new new (λ x _. new),
      ) in
      rw k (record { checked = more.checked; pending = more.pending })
  | inr k ↦ rw k r
]
held_learned start know (Unlink pred expected s) found stamp r ok = elim (cases_Bool (found == expected)) [
  | inl k ↦
      let reads = reads_won know (Unlink pred expected s) in
      let more = checked_more know reads r (
        held_at_more know.checked reads pred
            (link_held know.checked know.checked pred (link_of expected) r.checked ok.held.0),
        tt,
      ) in
      rw k (record { checked = more.checked; pending = more.pending })
  | inr k ↦ rw k r
]
held_learned start know _ found stamp r ok = record { checked = r.checked; pending = r.pending }
