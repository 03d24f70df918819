-- Each known read is of an incarnation that the pass holds, and a search finds any known one.
use Rattle.std.proofs.Common.{◌≡◌, ℕ, true, false, Option, Some, None, refl, sym, ap, ◌∙◌, inl, inr}
use Rattle.std.specs.Prelude.{◌⊎◌, IsSome, unwrap_or}
use Rattle.std.proofs.lemmas.Bool.{cases_Bool}
use Rattle.vbr_machine.specs.Start.{Start}
use Rattle.vbr_words.specs.declared.link.Link.{Link}
use Rattle.vbr_words.specs.declared.place.At.{At}
use Rattle.vbr_words.specs.declared.place.At.TheVariants.{Head, Slot}
use Rattle.vbr_machine.specs.Knowledge.{Know, key_in, names, value_in}
use Rattle.vbr_machine.specs.Acceptance.{KnowsKeyAt, KnowsKeyOf, IsBehind, IsBefore}
use Rattle.vbr_machine.specs.Membership.{StandsBehind, StandsBefore, Knows, IsHeldSlot}
use Rattle.vbr_machine.specs.Incarnations.{Incarnations}
use Rattle.vbr_machine.specs.Images.{slot_shown}
use Rattle.vbr_machine.specs.Sound.{Sound}
use Rattle.vbr_machine.specs.Notes.{Notes}
use Rattle.vbr_machine.specs.Agreement.{IsHeldIncarnation, IsHeldNext, IsGoodLink, IsGoodRead, FitsNotes}
use Rattle.vbr_machine.specs.declared.knowledge.Read.{Read}
use Rattle.vbr_machine.specs.declared.knowledge.Read.TheVariants.{LinkAt, BirthOf, KeyOf, ValueOf}
use Rattle.vbr_machine.proofs.chronicles.Slots.{one_late}
use Rattle.vbr_machine.proofs.reads.FoundReads.{Birth, Key, Value, word_among}
use Rattle.vbr_machine.proofs.reads.Searches.{good_among, word_held, named_held, some_holds}

-- ---- a known read is good

pub good_read : {a : Incarnations} {know : Know} {notes : Notes} → FitsNotes a know notes → (read : Read) →
    Knows know read → (of names : Option ℕ) × IsGoodRead a know.epoch read of names
good_read {a} {know} {notes} k read m =
    good_among a know.epoch notes.checked read (rw k.checked_reads at m.among) k.checked

pub good_link : {a : Incarnations} {know : Know} {notes : Notes} → FitsNotes a know notes → (place : At) (link : Link) →
    Knows know (LinkAt place link) → (of names : Option ℕ) × IsGoodLink a know.epoch place link of names
good_link k place link m = good_read k (LinkAt place link) m

-- a known read of a word is that of an incarnation held there
pub birth_held : {a : Incarnations} {know : Know} {notes : Notes} → FitsNotes a know notes → (s b : ℕ) →
    Knows know (BirthOf s b) → (c : ℕ) × IsHeldIncarnation a know.epoch s c × (a.birth c ≡ b)
birth_held {a} {know} {notes} k s b m = word_held a know.epoch Birth s b (good_read k (BirthOf s b) m)

pub key_held : {a : Incarnations} {know : Know} {notes : Notes} → FitsNotes a know notes → (s key : ℕ) →
    Knows know (KeyOf s key) → (c : ℕ) × IsHeldIncarnation a know.epoch s c × (a.key c ≡ key)
key_held {a} {know} {notes} k s key m = word_held a know.epoch Key s key (good_read k (KeyOf s key) m)

pub value_held : {a : Incarnations} {know : Know} {notes : Notes} → FitsNotes a know notes → (s value : ℕ) →
    Knows know (ValueOf s value) → (c : ℕ) × IsHeldIncarnation a know.epoch s c × (a.value c ≡ value)
value_held {a} {know} {notes} k s value m = word_held a know.epoch Value s value (good_read k (ValueOf s value) m)

-- a held slot has an incarnation that is held there
pub slot_held : {a : Incarnations} {know : Know} {notes : Notes} → FitsNotes a know notes → (s : ℕ) →
    IsHeldSlot know s → (c : ℕ) × IsHeldIncarnation a know.epoch s c
slot_held {a} {know} {notes} k s h =
    let g = good_link k h.place h.link h.known in named_held a know.epoch s h.link.slot g.1 h.names g.2.next

-- ---- one of each

-- the incarnation that is held at a slot is one
pub one_held : {start : Start} {a : Incarnations} → Sound start a → (e s c d : ℕ) → IsHeldIncarnation a e s c →
    IsHeldIncarnation a e s d → c ≡ d
one_held snd e s c d g h = one_late snd.slots c d e (g.slot ∙ sym h.slot) g.late h.late g.birth h.birth

-- a known key of a slot is that of the incarnation held there
pub known_key : {start : Start} {a : Incarnations} {know : Know} {notes : Notes} → Sound start a →
    FitsNotes a know notes → (s c key : ℕ) → IsHeldIncarnation a know.epoch s c → Knows know (KeyOf s key) →
    a.key c ≡ key
known_key {start} {a} {know} {notes} snd k s c key h m =
    let x = key_held k s key m in ap a.key (one_held snd know.epoch s c x.0 h x.1) ∙ x.2

pub known_birth : {start : Start} {a : Incarnations} {know : Know} {notes : Notes} → Sound start a →
    FitsNotes a know notes → (s c birth : ℕ) → IsHeldIncarnation a know.epoch s c → Knows know (BirthOf s birth) →
    a.birth c ≡ birth
known_birth {start} {a} {know} {notes} snd k s c birth h m =
    let x = birth_held k s birth m in ap a.birth (one_held snd know.epoch s c x.0 h x.1) ∙ x.2

-- a slot has one known key
pub one_key : {start : Start} {a : Incarnations} {know : Know} {notes : Notes} → Sound start a →
    FitsNotes a know notes → (s i j : ℕ) → Knows know (KeyOf s i) → Knows know (KeyOf s j) → i ≡ j
one_key snd k s i j m n = let x = key_held k s i m in sym x.2 ∙ known_key snd k s x.0 j x.1 n

-- what a good link names has the slot that the link names
slot_named : (a : Incarnations) (e : ℕ) (v n : Option ℕ) → IsHeldNext a e v n → v ≡ slot_shown a n
slot_named a e None None h = refl
slot_named a e None (Some n) h = absurd h
slot_named a e (Some s) None h = absurd h
slot_named a e (Some s) (Some n) h = ap Some (sym h.slot)

-- all known marked links of a slot name the same
pub one_mark : {start : Start} {a : Incarnations} {know : Know} {notes : Notes} → Sound start a →
    FitsNotes a know notes → (s : ℕ) (x y : Link) → Knows know (LinkAt (Slot s) x) → Knows know (LinkAt (Slot s) y) →
    x.mark ≡ true → y.mark ≡ true → x.slot ≡ y.slot
one_mark {start} {a} {know} {notes} snd k s x y m n p q =
    let g = good_link k (Slot s) x m in let h = good_link k (Slot s) y n in go g.0 h.0 g.1 h.1 g.2 h.2
  where
    go : (c d i j : Option ℕ) → IsGoodLink a know.epoch (Slot s) x c i → IsGoodLink a know.epoch (Slot s) y d j →
        x.slot ≡ y.slot
    go None d i j g h = absurd g.place
    go (Some c) None i j g h = absurd h.place
    go (Some c) (Some d) i j g h =
        let e : i ≡ j =
        sym (g.frozen p).1 ∙ ap a.next (one_held snd know.epoch s c d g.place h.place) ∙ (h.frozen q).1 in
        slot_named a know.epoch x.slot i g.next ∙ ap (slot_shown a) e ∙ sym (slot_named a know.epoch y.slot j h.next)

-- a known link at a head is unmarked
pub head_unmarked : {a : Incarnations} {know : Know} {notes : Notes} → FitsNotes a know notes → (b : ℕ) (link : Link) →
    Knows know (LinkAt (Head b) link) → link.mark ≡ false
head_unmarked {a} {know} {notes} k b link m =
    let g = good_link k (Head b) link m in go g.0 g.1 g.2 (cases_Bool link.mark)
  where
    go : (of names : Option ℕ) → IsGoodLink a know.epoch (Head b) link of names →
        (link.mark ≡ true) ⊎ (link.mark ≡ false) → link.mark ≡ false
    go None names g (inl t) = absurd (g.frozen t)
    go (Some c) names g (inl t) = absurd g.place
    go of names g (inr f) = f

-- ---- where keys stand

-- a key that is looked up is known, and so is a value
pub key_known : (know : Know) (s : ℕ) → IsSome (key_in know.checked s) →
    Knows know (KeyOf s (unwrap_or (key_in know.checked s) 0))
key_known know s h =
    some_holds (λ key. Knows know (KeyOf s key)) (key_in know.checked s) h
    (λ key q. record { among = word_among Key know.checked s key q })

pub value_known : (know : Know) (s : ℕ) → IsSome (value_in know.checked s) →
    Knows know (ValueOf s (unwrap_or (value_in know.checked s) 0))
value_known know s h =
    some_holds (λ value. Knows know (ValueOf s value)) (value_in know.checked s) h
    (λ value q. record { among = word_among Value know.checked s value q })

-- a key that stands behind a place by searches does so by what is known
pub behind_known : (know : Know) (start : Start) (place : At) (key : ℕ) → KnowsKeyAt know.checked place →
    IsBehind start know.checked place key → StandsBehind start know place key
behind_known know start (Head b) key h i = i
behind_known know start (Slot s) key h i = (unwrap_or (key_in know.checked s) 0, key_known know s h, i.0, i.1)

pub before_known : (know : Know) (key : ℕ) (v : Option ℕ) → KnowsKeyOf know.checked v → IsBefore know.checked key v →
    StandsBefore know key v
before_known know key None h i = tt
before_known know key (Some s) h i = (unwrap_or (key_in know.checked s) 0, key_known know s h, i)
