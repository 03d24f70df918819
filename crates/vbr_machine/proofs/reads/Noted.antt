-- What the passes have read, after each kind of change.
use Rattle.std.proofs.Common.{◌≡◌, ◌≢◌, ℕ, ◌≤◌, true, false, List, [], ◌∷◌, ◌++◌, map, Option, refl, arith, sym, ap}
use Rattle.std.proofs.Common.{◌∙◌, inl, inr}
use Rattle.std.specs.Prelude.{◌⊎◌, ◌==◌}
use Rattle.std.specs.List.{AllByRecursion}
use Rattle.std.proofs.lemmas.Bool.{cases_eq, cases_Bool, eqb-true}
use Rattle.vbr_machine.specs.Start.{Start}
use Rattle.vbr_machine.specs.Put.{put}
use Rattle.vbr_machine.specs.Knowledge.{Know}
use Rattle.vbr_machine.specs.Learning.{read_epoch, with_own, with_pending, with_checked}
use Rattle.vbr_machine.specs.Incarnations.{Incarnations}
use Rattle.vbr_machine.specs.Sound.{Sound, Grows}
use Rattle.vbr_machine.specs.Notes.{Note, Notes, no_notes, note_of, shown_at, with_won, confirmed_notes}
use Rattle.vbr_machine.specs.Agreement.{IsGood, IsAsShown, reads_of, FitsNotes, AllKnowRight}
use Rattle.vbr_machine.specs.declared.knowledge.Read.{Read}
use Rattle.vbr_machine.specs.declared.knowledge.Holding.{Holding}
use Rattle.vbr_machine.proofs.words.Puts.{put_here, put_other}
use Rattle.vbr_machine.proofs.reads.HeldReads.{stays_good}

-- ---- lists of notes

reads_both : (xs ys : List Note) → reads_of (xs ++ ys) ≡ reads_of xs ++ reads_of ys
reads_both [] ys = refl
reads_both (x ∷ xs) ys = ap (λ l. x.read ∷ l) (reads_both xs ys)

pub all_both : (P : Note → Type 0) (xs ys : List Note) → AllByRecursion P xs → AllByRecursion P ys →
    AllByRecursion P (xs ++ ys)
all_both P [] ys g h = h
all_both P (x ∷ xs) ys g h = (g.0, all_both P xs ys g.1 h)

-- the notes of reads have those reads
reads_noted : (a : Incarnations) (reads : List Read) → reads_of (map (note_of a) reads) ≡ reads
reads_noted a [] = refl
reads_noted a (read ∷ reads) = ap (λ l. read ∷ l) (reads_noted a reads)

notes_all : (a : Incarnations) (P : Note → Type 0) (reads : List Read) →
    AllByRecursion (λ read. P (note_of a read)) reads → AllByRecursion P (map (note_of a) reads)
notes_all a P [] h = tt
notes_all a P (read ∷ reads) h = (h.0, notes_all a P reads h.1)

-- the reads are what the incarnations show
abbrev pub AreShown : Incarnations → List Read → Type 0
AreShown a reads = AllByRecursion (λ read. read ≡ shown_at a read) reads

-- they are good for an epoch
abbrev pub AreGood : Incarnations → ℕ → List Read → Type 0
AreGood a epoch reads = AllByRecursion (λ read. IsGood a epoch (note_of a read)) reads

-- ---- one pass

-- what a pass has noted stays so as the chronicle goes on
pub noted_on : {start : Start} {a b : Incarnations} → Sound start a → Grows a b → (know : Know) (notes : Notes) →
    FitsNotes a know notes → FitsNotes b know notes
noted_on {start} {a} {b} s g know notes k = record {
  epoch = let u = k.epoch in let v = g.epoch in omega arith;
  checked_reads = k.checked_reads;
  pending_reads = k.pending_reads;
  checked_shown = k.checked_shown;
  pending_shown = k.pending_shown;
  checked = stays_good s g know.epoch k.epoch notes.checked k.checked;
  pending = λ e.
      stays_good s g know.epoch k.epoch notes.pending (k.pending (let u = k.epoch in let v = g.epoch in omega arith));
}

-- what it knows of its slots is nothing that it notes
pub noted_beside : (a : Incarnations) (know other : Know) (notes : Notes) → other.epoch ≡ know.epoch →
    other.pending ≡ know.pending → other.checked ≡ know.checked → FitsNotes a know notes → FitsNotes a other notes
noted_beside a know other notes e p c k = record {
  epoch = rw e k.epoch;
  checked_reads = c ∙ k.checked_reads;
  pending_reads = p ∙ k.pending_reads;
  checked_shown = k.checked_shown;
  pending_shown = k.pending_shown;
  checked = rw e k.checked;
  pending = λ q. rw e (k.pending (q ∙ e));
}

-- a read that is pending
pub noted_pending : (a : Incarnations) (know : Know) (notes : Notes) (note : Note) → FitsNotes a know notes →
    note.read ≡ note.shown → (a.epoch ≡ know.epoch → IsGood a know.epoch note) →
    FitsNotes a (with_pending know note.read) (record notes { pending = notes.pending ++ note ∷ [] })
noted_pending a know notes note k shown good = record {
  epoch = k.epoch;
  checked_reads = k.checked_reads;
  pending_reads = ap (λ l. l ++ note.read ∷ []) k.pending_reads ∙ sym (reads_both notes.pending (note ∷ []));
  checked_shown = k.checked_shown;
  pending_shown = all_both IsAsShown notes.pending (note ∷ []) k.pending_shown (shown, tt);
  checked = k.checked;
  pending = λ e. all_both (IsGood a know.epoch) notes.pending (note ∷ []) (k.pending e) (good e, tt);
}

-- reads that are checked at once
pub noted_checked : (a : Incarnations) (know : Know) (notes : Notes) (reads : List Read) → FitsNotes a know notes →
    AreShown a reads → AreGood a know.epoch reads → FitsNotes a (with_checked know reads) (with_won a notes reads)
noted_checked a know notes reads k shown good = record {
  epoch = k.epoch;
  checked_reads = ap (λ l. l ++ reads) k.checked_reads
      ∙ ap (λ l. reads_of notes.checked ++ l) (sym (reads_noted a reads))
      ∙ sym (reads_both notes.checked (map (note_of a) reads));
  pending_reads = k.pending_reads;
  checked_shown =
      all_both IsAsShown notes.checked (map (note_of a) reads) k.checked_shown (notes_all a IsAsShown reads shown);
  pending_shown = k.pending_shown;
  checked = all_both (IsGood a know.epoch) notes.checked (map (note_of a) reads) k.checked
      (notes_all a (IsGood a know.epoch) reads good);
  pending = k.pending;
}

-- a pass that has read nothing has noted nothing
pub noted_none : (a : Incarnations) (know : Know) → know.epoch ≤ a.epoch → (know.checked ≡ []) × (know.pending ≡ []) →
    FitsNotes a know no_notes
noted_none a know le none = record {
  epoch = le;
  checked_reads = none.0;
  pending_reads = none.1;
  checked_shown = tt;
  pending_shown = tt;
  checked = tt;
  pending = λ _. tt;
}

-- an unmoved epoch confirms what is pending, and one that has moved leaves nothing
pub noted_read : (a : Incarnations) (know : Know) (notes : Notes) (epoch : ℕ) → epoch ≡ a.epoch →
    FitsNotes a know notes → FitsNotes a (read_epoch know epoch) (confirmed_notes notes (epoch == know.epoch))
noted_read a know notes epoch q k = go (cases_Bool (epoch == know.epoch))
  where
    go : ((epoch == know.epoch) ≡ true) ⊎ ((epoch == know.epoch) ≡ false) →
        FitsNotes a (read_epoch know epoch) (confirmed_notes notes (epoch == know.epoch))
    go (inl t) = rw t (record {
      epoch = k.epoch;
      checked_reads = ap (λ l. l ++ know.pending) k.checked_reads
          ∙ ap (λ l. reads_of notes.checked ++ l) k.pending_reads ∙ sym (reads_both notes.checked notes.pending);
      pending_reads = refl;
      checked_shown = all_both IsAsShown notes.checked notes.pending k.checked_shown k.pending_shown;
      pending_shown = tt;
      checked = all_both (IsGood a know.epoch) notes.checked notes.pending k.checked
          (k.pending (sym q ∙ eqb-true epoch know.epoch t));
      pending = λ _. tt;
    })
    go (inr f) = rw f (noted_none a _ (omega arith) (refl, refl))

-- ---- all passes

pub knows_on : {start : Start} {a b : Incarnations} → Sound start a → Grows a b →
    (know : ℕ → Know) (notes : ℕ → Notes) → AllKnowRight a know notes → AllKnowRight b know notes
knows_on s g know notes k = λ q. noted_on s g (know q) (notes q) (k q)

-- one pass's knowledge and notes have changed
pub knows_put : (a : Incarnations) (know : ℕ → Know) (notes : ℕ → Notes) (p : ℕ) (x : Know) (n : Notes) →
    AllKnowRight a know notes → FitsNotes a x n → AllKnowRight a (put know p x) (put notes p n)
knows_put a know notes p x n k h = λ q. go q (cases_eq q p)
  where
    go : (q : ℕ) → (q ≡ p) ⊎ (q ≢ p) → FitsNotes a (put know p x q) (put notes p n q)
    go q (inl e) = rw (e, put_here know p x, put_here notes p n) h
    go q (inr ne) = rw (put_other know p x q ne, put_other notes p n q ne) (k q)

-- nothing that a pass notes has changed
pub knows_same : (a : Incarnations) (know : ℕ → Know) (notes : ℕ → Notes) (p : ℕ) → AllKnowRight a know notes →
    AllKnowRight a know (put notes p (notes p))
knows_same a know notes p k = λ q. go q (cases_eq q p)
  where
    go : (q : ℕ) → (q ≡ p) ⊎ (q ≢ p) → FitsNotes a (know q) (put notes p (notes p) q)
    go q (inl e) = rw (e, put_here notes p (notes p)) (k p)
    go q (inr ne) = rw (put_other notes p (notes p) q ne) (k q)

-- a pass owns a slot in another way
pub knows_own : (a : Incarnations) (know : ℕ → Know) (notes : ℕ → Notes) (p s : ℕ) (holding : Option Holding) →
    AllKnowRight a know notes → AllKnowRight a (put know p (with_own (know p) s holding)) (put notes p (notes p))
knows_own a know notes p s holding k =
    knows_put a know notes p (with_own (know p) s holding) (notes p) k
    (noted_beside a (know p) (with_own (know p) s holding) (notes p) refl refl refl (k p))
