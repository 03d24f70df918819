-- A slot is held in one bucket, where links that were read never lead to a smaller key.
use Rattle.std.proofs.Common.{◌≡◌, ℕ, ◌≤◌, Bool, true, false, List, [], ◌∷◌, map, Option, Some, None, refl, arith, sym}
use Rattle.std.proofs.Common.{subst, ap, ◌∙◌}
use Rattle.std.specs.Prelude.{◌==◌, if◌then◌else◌}
use Rattle.std.specs.List.{AllByRecursion}
use Rattle.vbr_machine.specs.Start.{Start}
use Rattle.vbr_words.specs.declared.link.Link.{Link}
use Rattle.vbr_words.specs.declared.place.At.{At}
use Rattle.vbr_words.specs.declared.place.At.TheVariants.{Head, Slot}
use Rattle.vbr_machine.specs.Knowledge.{Know}
use Rattle.vbr_words.specs.Buckets.{bucket_of}
use Rattle.vbr_machine.specs.Learning.{reads_won, read_loaded}
use Rattle.vbr_machine.specs.Machine.{World, found}
use Rattle.vbr_machine.specs.Membership.{Knows, HeldIn, at_head, at_slot}
use Rattle.vbr_machine.specs.Incarnations.{Incarnations, last_in}
use Rattle.vbr_machine.specs.Sound.{IsInserted, Sound, Grows}
use Rattle.vbr_machine.specs.Notes.{Note, Notes, note_of, with_read, with_won, confirmed_notes, notes_with}
use Rattle.vbr_machine.specs.Agreement.{IsHeldIncarnation, IsHeldAt, IsHeldNext, IsGoodLink, IsGoodRead, IsGood}
use Rattle.vbr_machine.specs.Agreement.{FitsNotes}
use Rattle.vbr_machine.specs.declared.event.Step.{Step}
use Rattle.vbr_machine.specs.declared.event.Step.TheVariants.{ReadEpoch, Publish, Mark, Replace, Unlink}
use Rattle.vbr_machine.specs.declared.knowledge.Read.{Read}
use Rattle.vbr_machine.specs.declared.knowledge.Read.TheVariants.{LinkAt, BirthOf, KeyOf, ValueOf}
use Rattle.vbr_machine.proofs.chronicles.Slots.{late_inserted, listed_late}
use Rattle.vbr_machine.proofs.chronicles.Growth.{inserted_stays}
use Rattle.vbr_machine.proofs.reads.Noted.{all_both}
use Rattle.vbr_machine.proofs.reads.KnownReads.{one_held, key_held}
use Rattle.vbr_machine.proofs.reads.Searches.{note_of_known}

-- ---- notes in order

-- the second of two incarnations follows the first in order: it is inserted, in the bucket of the first and not
-- below its key, or in the bucket of the head
abbrev pub FollowsInOrder : Start → Incarnations → At → Option ℕ → Option ℕ → Type 0
FollowsInOrder start a (Head b) of (Some n) = IsInserted (a.state n) × (bucket_of start.shape (a.key n) ≡ b)
FollowsInOrder start a (Slot s) (Some c) (Some n) = IsInserted (a.state c) × IsInserted (a.state n) ×
    (bucket_of start.shape (a.key c) ≡ bucket_of start.shape (a.key n)) × (a.key c ≤ a.key n)
FollowsInOrder start a place of names = Unit {0}

-- a read of a link, as one of this incarnation and naming this one, is in order
abbrev pub IsOrderedRead : Start → Incarnations → Read → Option ℕ → Option ℕ → Type 0
IsOrderedRead start a (LinkAt place link) of names = FollowsInOrder start a place of names
IsOrderedRead start a read of names = Unit {0}

-- a note is in order where its read is
abbrev pub IsOrdered : Start → Incarnations → Note → Type 0
IsOrdered start a note = IsOrderedRead start a note.read note.of note.names

-- all notes of a pass are in order
pub record AreOrdered (start : Start) (a : Incarnations) (notes : Notes) : Type 0 where
  pub pending : AllByRecursion (IsOrdered start a) notes.pending
  pub checked : AllByRecursion (IsOrdered start a) notes.checked

-- ---- they stay so

read_stays : (start : Start) {a b : Incarnations} → Grows a b → (read : Read) (of names : Option ℕ) →
    IsOrderedRead start a read of names → IsOrderedRead start b read of names
read_stays start g (BirthOf s birth) of names h = tt
read_stays start g (KeyOf s key) of names h = tt
read_stays start g (ValueOf s key) of names h = tt
read_stays start g (LinkAt (Head t) link) None None h = tt
read_stays start g (LinkAt (Head t) link) (Some c) None h = tt
read_stays start g (LinkAt (Head t) link) None (Some n) h =
    (inserted_stays g n h.0, ap (bucket_of start.shape) (g.key n h.0) ∙ h.1)
read_stays start g (LinkAt (Head t) link) (Some c) (Some n) h =
    (inserted_stays g n h.0, ap (bucket_of start.shape) (g.key n h.0) ∙ h.1)
read_stays start g (LinkAt (Slot t) link) None None h = tt
read_stays start g (LinkAt (Slot t) link) None (Some n) h = tt
read_stays start g (LinkAt (Slot t) link) (Some c) None h = tt
read_stays start g (LinkAt (Slot t) link) (Some c) (Some n) h = (
  inserted_stays g c h.0,
  inserted_stays g n h.1,
  ap (bucket_of start.shape) (g.key c h.0) ∙ h.2 ∙ sym (ap (bucket_of start.shape) (g.key n h.1)),
  (let u = g.key c h.0 in let v = g.key n h.1 in let w = h.3 in omega arith),
)

notes_stay : (start : Start) {a b : Incarnations} → Grows a b → (notes : List Note) →
    AllByRecursion (IsOrdered start a) notes → AllByRecursion (IsOrdered start b) notes
notes_stay start g [] h = tt
notes_stay start g (note ∷ notes) h =
    (read_stays start g note.read note.of note.names h.0, notes_stay start g notes h.1)

pub ordered_on : {start : Start} {a b : Incarnations} → Grows a b → (notes : Notes) → AreOrdered start a notes →
    AreOrdered start b notes
ordered_on {start} g notes o =
    record {
      pending = notes_stay start g notes.pending o.pending;
      checked = notes_stay start g notes.checked o.checked;
    }

-- ---- a new note is in order

ordered_note : {start : Start} {a : Incarnations} → Sound start a → (read : Read) → IsOrdered start a (note_of a read)
ordered_note s (BirthOf v birth) = tt
ordered_note s (KeyOf v key) = tt
ordered_note s (ValueOf v key) = tt
ordered_note {start} {a} s (LinkAt (Head b) link) = go (a.first b) refl
  where
    go : (n : Option ℕ) → a.first b ≡ n → FollowsInOrder start a (Head b) None n
    go None q = tt
    go (Some n) q = let f = s.lists.first_in b n q in (late_inserted (a.state n) 0 (listed_late (a.state n) 0 f.0), f.1)
ordered_note {start} {a} s (LinkAt (Slot v) link) = go (a.last v) (a.next (last_in a v)) (λ c q. ap a.next (rw q refl))
  where
    next : (c : ℕ) (n : Option ℕ) → a.next c ≡ n → FollowsInOrder start a (Slot v) (Some c) n
    next c None q = tt
    next c (Some n) q =
        let i = s.lists.inserted c n q in let o = s.lists.ordered c n q in (i.0, i.1, o.0, (let u = o.1 in grind arith))

    go : (l n : Option ℕ) → ((c : ℕ) → l ≡ Some c → a.next c ≡ n) → FollowsInOrder start a (Slot v) l n
    go None None f = tt
    go None (Some n) f = tt
    go (Some c) n f = next c n (f c refl)

ordered_reads : {start : Start} {a : Incarnations} → Sound start a → (reads : List Read) →
    AllByRecursion (IsOrdered start a) (map (note_of a) reads)
ordered_reads s [] = tt
ordered_reads s (read ∷ reads) = (ordered_note s read, ordered_reads s reads)

-- ---- after a step

module _ {start : Start} {a : Incarnations} (sound : Sound start a) (notes : Notes) (o : AreOrdered start a notes) where
  with_loaded : (read : Option Read) → AreOrdered start a (with_read a notes read)
  with_loaded None = o
  with_loaded (Some read) =
      record {
        pending =
            all_both (IsOrdered start a) notes.pending (note_of a read ∷ []) o.pending (ordered_note sound read, tt);
        checked = o.checked;
      }

  with_checked : (reads : List Read) → AreOrdered start a (with_won a notes reads)
  with_checked reads =
      record {
        pending = o.pending;
        checked = all_both (IsOrdered start a) notes.checked (map (note_of a) reads) o.checked
            (ordered_reads sound reads);
      }

  if_won : (test : Bool) (reads : List Read) → AreOrdered start a (if test then with_won a notes reads else notes)
  if_won true reads = with_checked reads
  if_won false reads = o

  confirmed : (test : Bool) → AreOrdered start a (confirmed_notes notes test)
  confirmed true =
      record { pending = tt; checked = all_both (IsOrdered start a) notes.checked notes.pending o.checked o.pending }
  confirmed false = record { pending = tt; checked = tt }

  -- the notes of a pass after its step are in order
  pub ordered_with : (w : World) (p : ℕ) (step : Step) → AreOrdered start a (notes_with start w a p step notes)
  ordered_with w p ReadEpoch = confirmed (w.epoch == (w.know p).epoch)
  ordered_with w p (Publish pred expected s) =
      let step = Publish pred expected s in if_won (found start w step == expected) (reads_won (w.know p) step)
  ordered_with w p (Mark s expected) =
      let step = Mark s expected in if_won (found start w step == expected) (reads_won (w.know p) step)
  ordered_with w p (Replace s expected t) =
      let step = Replace s expected t in if_won (found start w step == expected) (reads_won (w.know p) step)
  ordered_with w p (Unlink pred expected s) =
      let step = Unlink pred expected s in if_won (found start w step == expected) (reads_won (w.know p) step)
  ordered_with w p step = with_loaded (read_loaded step (found start w step))

-- ---- held in a bucket

-- a place is one of a bucket: its head, or a slot where each incarnation that is held has a key of the bucket
abbrev pub IsOfBucket : Start → Incarnations → ℕ → At → ℕ → Type 0
IsOfBucket start a epoch (Head h) b = h ≡ b
IsOfBucket start a epoch (Slot s) b = (c : ℕ) → IsHeldIncarnation a epoch s c → bucket_of start.shape (a.key c) ≡ b

module _ {start : Start} {a : Incarnations} {know : Know} {notes : Notes} (sound : Sound start a)
    (noted : FitsNotes a know notes) (ordered : AreOrdered start a notes) where
  both : (notes : List Note) → AllByRecursion (IsGood a know.epoch) notes → AllByRecursion (IsOrdered start a) notes →
      AllByRecursion (λ note. IsGood a know.epoch note × IsOrdered start a note) notes
  both [] g h = tt
  both (note ∷ notes) g h = ((g.0, h.0), both notes g.1 h.1)

  -- what follows a place of a bucket is of the bucket
  follows : (place : At) (of : Option ℕ) (n b : ℕ) → IsHeldAt a know.epoch place of →
      FollowsInOrder start a place of (Some n) →
      IsOfBucket start a know.epoch place b → bucket_of start.shape (a.key n) ≡ b
  follows (Head t) None n b h f i = f.1 ∙ i
  follows (Head t) (Some c) n b h f i = absurd h
  follows (Slot t) None n b h f i = absurd h
  follows (Slot t) (Some c) n b h f i = sym f.2 ∙ i c h

  behind_it : (place : At) (link : Link) (s b : ℕ) → Knows know (LinkAt place link) → link.slot ≡ Some s →
      IsOfBucket start a know.epoch place b → IsOfBucket start a know.epoch (Slot s) b
  behind_it place link s b k q i c h =
      let P : Note → Type 0 = λ note. IsGood a know.epoch note × IsOrdered start a note in
      let x = note_of_known P notes.checked (LinkAt place link) (rw noted.checked_reads at k.among)
      (both notes.checked noted.checked ordered.checked) in
      let R : Read → Type 0 =
      λ read. IsGoodRead a know.epoch read x.0.of x.0.names × IsOrderedRead start a read x.0.of x.0.names in
      let y : IsGoodLink a know.epoch place link x.0.of x.0.names × FollowsInOrder start a place x.0.of x.0.names =
      subst R x.1 x.2 in
      go link.slot x.0.of x.0.names q y.0.place y.0.next y.1
    where
      go : (v of names : Option ℕ) → v ≡ Some s → IsHeldAt a know.epoch place of → IsHeldNext a know.epoch v names →
          FollowsInOrder start a place of names → bucket_of start.shape (a.key c) ≡ b
      go None of names q p n f = absurd (cc)
      go (Some v) of None q p n f = absurd n
      go (Some v) of (Some m) q p n f =
          let e : v ≡ s = cc in
          let P : ℕ → Type 0 = λ v. IsHeldIncarnation a know.epoch v m in
          ap (λ d. bucket_of start.shape (a.key d)) (one_held sound know.epoch s c m h (subst P e n))
          ∙ follows place of m b p f i

  -- a place that is held in a bucket is of it
  pub place_in_bucket : (place : At) (b : ℕ) → HeldIn know place b → IsOfBucket start a know.epoch place b
  place_in_bucket _ _ (at_head b) = refl
  place_in_bucket _ _ (at_slot place link s b h k q) = behind_it place link s b k q (place_in_bucket place b h)

  -- a known key of a slot that is held in a bucket is one of the bucket
  pub held_in_bucket : (s b key : ℕ) → HeldIn know (Slot s) b → Knows know (KeyOf s key) → bucket_of start.shape key ≡ b
  held_in_bucket s b key h k =
      let x = key_held noted s key k in ap (bucket_of start.shape) (sym x.2) ∙ place_in_bucket (Slot s) b h x.0 x.1
