-- Behind a checked unmarked link that stands at its place, what was checked is what the incarnations have.
use Rattle.std.proofs.Common.{◌≡◌, ℕ, ◌≤◌, true, false, Option, Some, None, refl, arith, sym, ap, ◌∙◌}
use Rattle.std.specs.Prelude.{IsSome, List, unwrap_or}
use Rattle.std.specs.List.{AllByRecursion}
use Rattle.vbr_machine.specs.Start.{Start}
use Rattle.vbr_words.specs.Words.{word_of, link_of}
use Rattle.vbr_words.specs.declared.link.Link.{Link}
use Rattle.vbr_words.specs.declared.place.At.{At}
use Rattle.vbr_words.specs.declared.place.At.TheVariants.{Head, Slot}
use Rattle.vbr_machine.specs.Knowledge.{knows_link, birth_at}
use Rattle.vbr_words.specs.Buckets.{bucket_of}
use Rattle.vbr_machine.specs.Acceptance.{KnowsKeyAt, KnowsKeyOf, IsBehind, IsBefore}
use Rattle.vbr_machine.specs.Machine.{World}
use Rattle.vbr_machine.specs.Machine as machine
use Rattle.vbr_machine.specs.Incarnations.{Incarnations, last_in}
use Rattle.vbr_machine.specs.Images.{link_shown_at}
use Rattle.vbr_machine.specs.Chronicles.{next_of, IsOpen, BelongsBehind, BelongsBefore}
use Rattle.vbr_machine.specs.Sound.{IsListed, Sound}
use Rattle.vbr_machine.specs.Notes.{Note, Notes, before_at, last_at}
use Rattle.vbr_machine.specs.Agreement.{IsHeldIncarnation, IsHeldAt, IsHeldNext, IsPair, IsGood, reads_of, Agrees}
use Rattle.vbr_machine.specs.declared.knowledge.Read.{Read}
use Rattle.vbr_machine.proofs.chronicles.Lists.{next_listed}
use Rattle.vbr_machine.proofs.reads.HeldReads.{same_pair}
use Rattle.vbr_machine.proofs.reads.Searches.{birth_is, key_is, link_found}
use Rattle.vbr_machine.proofs.steps.LoadSteps.{link_read}

-- the incarnation at a place, none at a head
abbrev pub node_at : Incarnations → At → Option ℕ
node_at a (Head b) = None
node_at a (Slot s) = Some (last_in a s)

-- the birth at a place, 0 at a head
abbrev pub birth_there : Incarnations → At → ℕ
birth_there a (Head b) = 0
birth_there a (Slot s) = a.birth (last_in a s)

pub record LinkStands (start : Start) (a : Incarnations) (e : ℕ) (reads : List Read) (place : At) (link : Link) :
    Type 0 where
  pub held : IsHeldAt a e place (node_at a place)
  pub last : last_at a place ≡ node_at a place
  pub is_open : IsOpen a (before_at a place)
  pub next : IsHeldNext a e link.slot (next_of a (before_at a place))
  pub listed : (m : ℕ) → next_of a (before_at a place) ≡ Some m → IsListed (a.state m)
  pub version : link.version ≤ e
  pub birth : IsSome (birth_at reads place) → unwrap_or (birth_at reads place) 0 ≡ birth_there a place
  pub behind : (key : ℕ) → KnowsKeyAt reads place → IsBehind start reads place key →
      BelongsBehind start a (before_at a place) key
  pub before : (key : ℕ) → KnowsKeyOf reads link.slot → IsBefore reads key link.slot →
      BelongsBefore a key (next_of a (before_at a place))

before_is : {start : Start} {a : Incarnations} → Sound start a → (e : ℕ) (notes : List Note) (reads : List Read) →
    reads ≡ reads_of notes → AllByRecursion (IsGood a e) notes → (v n : Option ℕ) → IsHeldNext a e v n → (key : ℕ) →
    KnowsKeyOf reads v → IsBefore reads key v → BelongsBefore a key n
before_is snd e notes reads q al None None h key y b = tt
before_is snd e notes reads q al None (Some c) h key y b = absurd h
before_is snd e notes reads q al (Some s) None h key y b = tt
before_is snd e notes reads q al (Some s) (Some c) h key y b =
    let z = key_is snd.slots e notes reads s c q al h y in omega arith

pub stands_by_notes : {start : Start} {a : Incarnations} → Sound start a →
    (e : ℕ) (notes : List Note) (reads : List Read) → reads ≡ reads_of notes → AllByRecursion (IsGood a e) notes →
    (place : At) (link : Link) → knows_link reads place link ≡ true → link.mark ≡ false → link_shown_at a place ≡ link →
    LinkStands start a e reads place link
stands_by_notes {start} {a} snd e notes reads q al (Head b) link k m w =
    let f = link_found a e notes (Head b) link (rw q at k) al in
    let p : IsPair a (Head b) f.0 f.1 = same_pair snd e (Head b) link f.0 f.1 f.2 m w in
    let n : IsHeldNext a e link.slot (a.first b) = rw p.1 f.2.next in
    record {
      held = tt;
      last = refl;
      is_open = tt;
      next = n;
      listed = λ i r. (snd.lists.first_in b i r).0;
      version = f.2.version;
      birth = λ z. refl;
      behind = λ key y z. z;
      before = before_is snd e notes reads q al link.slot (a.first b) n;
    }
stands_by_notes {start} {a} snd e notes reads q al (Slot s) link k m w =
    let f = link_found a e notes (Slot s) link (rw q at k) al in
    let p : IsPair a (Slot s) f.0 f.1 = same_pair snd e (Slot s) link f.0 f.1 f.2 m w in
    let c : last_in a s ≡ p.0 = rw p.2 refl in
    let g : IsHeldAt a e (Slot s) (Some p.0) = rw p.1 at f.2.place in
    let h : IsHeldIncarnation a e s (last_in a s) = rw c g in
    let n : IsHeldNext a e link.slot (a.next (last_in a s)) = rw (c, p.4) f.2.next in
    record {
      held = h;
      last = p.2 ∙ ap Some (sym c);
      is_open = rw c p.3;
      next = n;
      listed = λ i r. next_listed snd (last_in a s) i r (rw (c, p.3) tt);
      version = f.2.version;
      birth = λ z. birth_is snd.slots e notes reads s (last_in a s) q al h z;
      behind = λ key y z.
          let u = key_is snd.slots e notes reads s (last_in a s) q al h y in
          (z.0 ∙ ap (bucket_of start.shape) u, (let v = z.1 in omega arith));
      before = before_is snd e notes reads q al link.slot (a.next (last_in a s)) n;
    }

-- the word that stands at a place now is the expected one
pub link_stands : (start : Start) (w : World) (a : Incarnations) (notes : ℕ → Notes) (p : ℕ) → Agrees start w a notes →
    (place : At) (expected : ℕ) → knows_link (w.know p).checked place (link_of expected) ≡ true →
    (link_of expected).mark ≡ false → word_of (machine.link_at w place) ≡ expected →
    LinkStands start a (w.know p).epoch (w.know p).checked place (link_of expected)
link_stands start w a notes p g place expected k m e =
    stands_by_notes g.sound (w.know p).epoch (notes p).checked (w.know p).checked (g.knows p).checked_reads
    (g.knows p).checked place (link_of expected) k m (sym (link_read g place) ∙ ap link_of e)
