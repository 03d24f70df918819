-- What a table keeps: a link word packed, for which there is room, and any other word as it is.
use Rattle.std.proofs.Common.{◌≡◌, ℕ, Bool, true, false, refl, sym, ap, ◌∙◌, subst, cond, inl, inr}
use Rattle.std.specs.Prelude.{◌==◌}
use Rattle.std.proofs.lemmas.Bool.{cases_eq, eq-eqb, ne_eqb}
use Rattle.vbr_words.specs.Dimensions.{Dimensions}
use Rattle.vbr_words.specs.Packing.{IsPackable, packed, slot_bits, unpacked}
use Rattle.vbr_words.specs.Places.{place_of}
use Rattle.vbr_words.specs.declared.place.At.{At}
use Rattle.vbr_words.specs.declared.place.At.TheVariants as holder
use Rattle.vbr_words.specs.declared.place.Place.{Place}
use Rattle.vbr_words.specs.declared.place.Place.TheVariants.{Epoch, ShapeWord, Head, LinkOf, Birth, Stamp, Key, Value}
use Rattle.vbr_words.specs.declared.place.Place.TheVariants.{Flags}
use Rattle.vbr_words.proofs.Lemmas.{packed_same, unpacked-packed}
use Rattle.vbr_machine.specs.Start.{Start}
use Rattle.vbr_machine.specs.Machine.{Access, World, word_at, word_made}
use Rattle.vbr_machine.specs.declared.event.Step.{Step}
use Rattle.vbr_machine.specs.Incarnations.{Incarnations}
use Rattle.vbr_machine.specs.Notes.{Notes}
use Rattle.vbr_machine.specs.Agreement.{Agrees}
use Rattle.vbr_machine.proofs.Lemmas.{standing_room}
use Rattle.vbr_slots.specs.runs.Rule.{Shows}
use Rattle.vbr_slots.specs.words.Words.{IsPlain, kept_at}

-- a link word has room where it is kept
abbrev pub HasRoomAt : Dimensions → Place → ℕ → Type 0
HasRoomAt shape (Head bucket) word = IsPackable (slot_bits shape.slots) word
HasRoomAt shape (LinkOf slot) word = IsPackable (slot_bits shape.slots) word
HasRoomAt shape _ word = Unit {0}

-- where a step finds what is kept of a word, it writes what is kept of the word that its operation leaves
abbrev pub Writes : Dimensions → Place → Access → (ℕ → ℕ) → Type 0
Writes shape place access f =
    (n : ℕ) → HasRoomAt shape place n → f (kept_at shape place n) ≡ kept_at shape place (word_made access n)

-- what it is shown there shows the word
abbrev pub Tells : Dimensions → Place → Step → (ℕ → ℕ) → Type 0
Tells shape place step g = (n : ℕ) → HasRoomAt shape place n → Shows step (g (kept_at shape place n)) n

-- there is room for each word of a world
pub room_at : (start : Start) (w : World) (a : Incarnations) (notes : ℕ → Notes) → Agrees start w a notes →
    (place : Place) → HasRoomAt start.shape place (word_at start w place)
room_at start w a notes g (Head b) = standing_room start w a notes g (holder.Head b)
room_at start w a notes g (LinkOf s) = standing_room start w a notes g (holder.Slot s)
room_at start w a notes g Epoch = tt
room_at start w a notes g ShapeWord = tt
room_at start w a notes g (Birth s) = tt
room_at start w a notes g (Stamp s) = tt
room_at start w a notes g (Key s) = tt
room_at start w a notes g (Value s) = tt
room_at start w a notes g (Flags number) = tt

pub kept_plain : (shape : Dimensions) (place : Place) (n : ℕ) → IsPlain place → kept_at shape place n ≡ n
kept_plain shape (Head b) n plain = absurd plain
kept_plain shape (LinkOf s) n plain = absurd plain
kept_plain shape Epoch n plain = refl
kept_plain shape ShapeWord n plain = refl
kept_plain shape (Birth s) n plain = refl
kept_plain shape (Stamp s) n plain = refl
kept_plain shape (Key s) n plain = refl
kept_plain shape (Value s) n plain = refl
kept_plain shape (Flags number) n plain = refl

pub kept_link : (shape : Dimensions) (place : At) (n : ℕ) →
    kept_at shape (place_of place) n ≡ packed (slot_bits shape.slots) n
kept_link shape (holder.Head b) n = refl
kept_link shape (holder.Slot s) n = refl

pub link_room : (shape : Dimensions) (place : At) (n : ℕ) → HasRoomAt shape (place_of place) n →
    IsPackable (slot_bits shape.slots) n
link_room shape (holder.Head b) n room = room
link_room shape (holder.Slot s) n room = room

-- a link word that is loaded is what is kept, unpacked
pub loaded : (shape : Dimensions) (place : At) (n : ℕ) → HasRoomAt shape (place_of place) n →
    unpacked (slot_bits shape.slots) (kept_at shape (place_of place) n) ≡ n
loaded shape place n room = ap (unpacked (slot_bits shape.slots)) (kept_link shape place n)
    ∙ unpacked-packed (slot_bits shape.slots) n (link_room shape place n room)

-- what is kept is that of the expected word exactly where it is that word
pub kept_test : (shape : Dimensions) (place : At) (n expected : ℕ) → HasRoomAt shape (place_of place) n →
    IsPackable (slot_bits shape.slots) expected →
    (kept_at shape (place_of place) n == packed (slot_bits shape.slots) expected) ≡ (n == expected)
kept_test shape place n expected room expects =
    let bits : ℕ = slot_bits shape.slots in
    ap (λ (m : ℕ). m == packed bits expected) (kept_link shape place n) ∙ (elim (cases_eq n expected) [
      | inl same ↦ eq-eqb _ _ (ap (packed bits) same) ∙ sym (eq-eqb n expected same)
      | inr other ↦
          ne_eqb _ _ (λ both. other (packed_same bits n expected (link_room shape place n room) expects both))
          ∙ sym (ne_eqb n expected other)
    ])

choice : (b : Bool) (f : ℕ → ℕ) (x y : ℕ) → cond b (f x) (f y) ≡ f (cond b x y)
choice true f x y = refl
choice false f x y = refl

-- an exchange of what is kept is one of the words
pub exchanged : (shape : Dimensions) (place : At) (n expected new : ℕ) → HasRoomAt shape (place_of place) n →
    IsPackable (slot_bits shape.slots) expected →
    cond (kept_at shape (place_of place) n == packed (slot_bits shape.slots) expected)
    (packed (slot_bits shape.slots) new) (kept_at shape (place_of place) n)
    ≡ kept_at shape (place_of place) (cond (n == expected) new n)
exchanged shape place n expected new room expects =
    let keeps : ℕ → ℕ = kept_at shape (place_of place) in
    (λ i. cond (kept_test shape place n expected room expects i) (sym (kept_link shape place new) i) (keeps n))
    ∙ choice (n == expected) keeps new n

-- ---- steps at plain words

pub writes_plain : (shape : Dimensions) (place : Place) (access : Access) (f : ℕ → ℕ) → IsPlain place →
    ((n : ℕ) → f n ≡ word_made access n) → Writes shape place access f
writes_plain shape place access f plain does n room =
    ap f (kept_plain shape place n plain) ∙ does n ∙ sym (kept_plain shape place (word_made access n) plain)

pub tells_plain : (shape : Dimensions) (place : Place) (step : Step) (g : ℕ → ℕ) → IsPlain place →
    ((n : ℕ) → Shows step (g n) n) → Tells shape place step g
tells_plain shape place step g plain same n room =
    subst (λ (m : ℕ). Shows step (g m) n) (sym (kept_plain shape place n plain)) (same n)

-- ---- steps at link words

pub tells_link : (shape : Dimensions) (place : At) (step : Step) (bits : ℕ) → bits ≡ slot_bits shape.slots →
    Tells shape (place_of place) step (unpacked bits)
tells_link shape place step bits is n room =
    let shown : unpacked bits (kept_at shape (place_of place) n) ≡ n =
    ap (λ (b : ℕ). unpacked b (kept_at shape (place_of place) n)) is ∙ loaded shape place n room in
    subst (λ (m : ℕ). Shows step m n) (sym shown) (record { answers = refl; teaches = λ stamp know. refl })
