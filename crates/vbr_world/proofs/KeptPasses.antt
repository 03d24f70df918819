-- What a pass knows as lists and as functions, and that what it reads and holds has room in words.
use Rattle.std.proofs.Common.{◌≡◌, ◌≢◌, ℕ, ◌<◌, ◌≤◌, Bool, true, false, if◌then◌else◌, List, [], ◌∷◌, ◌++◌}
use Rattle.std.proofs.Common.{map, length, get_or, set, Option, Some, None, refl, inl, inr, arith}
use Rattle.std.specs.Prelude.{◌⊎◌, ◌&&◌, IfSome, unwrap_or}
use Rattle.std.specs.List.{AllByRecursion}
use Rattle.std.proofs.lemmas.List.{get_or-set_same, get_or-set_other}
use Rattle.std.proofs.lemmas.Bool.{cases_eq, eq-eqb, ne_eqb}
use Rattle.vbr_words.specs.Words.{IsLink}
use Rattle.vbr_words.specs.declared.link.Link.{Link}
use Rattle.vbr_words.specs.declared.link.TheConstants.{MAX_SLOTS, MAX_VERSION}
use Rattle.vbr_words.specs.declared.place.At.{At}
use Rattle.vbr_words.specs.declared.place.At.TheVariants.{Head, Slot}
use Rattle.vbr_machine.specs.Put.{put}
use Rattle.vbr_machine.specs.Knowledge.{Know, birth_in, birth_at, birth_of, marked_in, same_at}
use Rattle.vbr_machine.specs.Acceptance.{next_of_marked}
use Rattle.vbr_machine.specs.Learning.{reread, read_epoch, with_own}
use Rattle.vbr_world.specs.WorldInLists.{KeptPass, know_of, FitsRead, FitsHolding}
use Rattle.vbr_machine.specs.declared.knowledge.Read.{Read}
use Rattle.vbr_machine.specs.declared.knowledge.Read.TheVariants.{LinkAt, BirthOf, KeyOf, ValueOf}
use Rattle.vbr_machine.specs.declared.knowledge.Holding.{Holding}
use Rattle.vbr_machine.specs.declared.knowledge.Holding.TheVariants.{Free, Unlinked, InHand}

-- ---- what holds of each element of a list

-- of a list with each element changed by a function that keeps it
pub all-map : {X : Type 0} (P : X → Type 0) (f : X → X) (xs : List X) → ((x : X) → P x → P (f x)) →
    AllByRecursion P xs → AllByRecursion P (map f xs)
all-map P f [] keeps p = tt
all-map P f (x ∷ xs) keeps p = (keeps x p.0, all-map P f xs keeps p.1)

-- ---- lists as functions

-- a write to a list is a write to the function that reads it
pub read-set : {A : Type 0} (xs : List A) (i : ℕ) (x d : A) → i < length xs →
    ◌≡◌ {A = ℕ → A} (λ s. get_or (set xs i x) s d) (put (λ s. get_or xs s d) i x)
read-set {A} xs i x d lt = λ k s. by_case s (cases_eq s i) k
  where
    by_case : (s : ℕ) → (s ≡ i) ⊎ (s ≢ i) → get_or (set xs i x) s d ≡ put (λ s. get_or xs s d) i x s
    by_case s (inl e) = rw (e, get_or-set_same xs i x d lt, eq-eqb i i refl) refl
    by_case s (inr ne) = rw (get_or-set_other xs i s x d ne, ne_eqb s i ne) refl

-- a slot of the list is put: the function is put at that slot
pub know_of-put : (kept : KeptPass) (s : ℕ) (holding : Option Holding) → s < length kept.own →
    know_of (record kept { own = set kept.own s holding }) ≡ with_own (know_of kept) s holding
know_of-put kept s holding lt = λ k. record (know_of kept) { own = read-set kept.own s holding None lt k }

-- ---- room in words

-- what is reread has room
pub fits-reread : (holding : Option Holding) → FitsHolding holding → FitsHolding (reread holding)
fits-reread None fits = tt
fits-reread (Some (Free stamp)) fits = tt
fits-reread (Some (Unlinked seen)) fits = tt
fits-reread (Some (InHand known)) fits = fits

-- a birth that is read has room
pub birth_in-fits : (reads : List Read) (s : ℕ) → AllByRecursion FitsRead reads →
    unwrap_or (birth_in reads s) 0 ≤ MAX_VERSION
birth_in-fits [] s fits = omega arith
birth_in-fits (LinkAt place link ∷ reads) s fits = birth_in-fits reads s fits.1
birth_in-fits (KeyOf slot key ∷ reads) s fits = birth_in-fits reads s fits.1
birth_in-fits (ValueOf slot key ∷ reads) s fits = birth_in-fits reads s fits.1
birth_in-fits (BirthOf slot birth ∷ reads) s fits = elim (cases_eq slot s) [
  | inl e ↦ rw (eq-eqb slot s e) fits.0
  | inr ne ↦ rw (ne_eqb slot s ne) (birth_in-fits reads s fits.1)
]

-- and so has the birth at a place
pub birth_at-fits : (reads : List Read) (place : At) → AllByRecursion FitsRead reads →
    unwrap_or (birth_at reads place) 0 ≤ MAX_VERSION
birth_at-fits reads (Head b) fits = omega arith
birth_at-fits reads (Slot s) fits = birth_in-fits reads s fits

-- and so has the birth of what a link names
pub birth_of-fits : (reads : List Read) (next : Option ℕ) → AllByRecursion FitsRead reads →
    unwrap_or (birth_of reads next) 0 ≤ MAX_VERSION
birth_of-fits reads None fits = omega arith
birth_of-fits reads (Some s) fits = birth_in-fits reads s fits

-- what a link that is chosen names has room
next_of-if : (chosen : Bool) (link : Link) (other : Option Link) → IsLink link →
    IfSome (next_of_marked other) (λ slot. slot < MAX_SLOTS) →
    IfSome (next_of_marked (if chosen then Some link else other)) (λ slot. slot < MAX_SLOTS)
next_of-if true link other fits h = fits.slot
next_of-if false link other fits h = h

-- what a marked link names that is read has room
pub next-fits : (reads : List Read) (s : ℕ) → AllByRecursion FitsRead reads →
    IfSome (next_of_marked (marked_in reads s)) (λ slot. slot < MAX_SLOTS)
next-fits [] s fits = tt
next-fits (BirthOf slot birth ∷ reads) s fits = next-fits reads s fits.1
next-fits (KeyOf slot key ∷ reads) s fits = next-fits reads s fits.1
next-fits (ValueOf slot key ∷ reads) s fits = next-fits reads s fits.1
next-fits (LinkAt place link ∷ reads) s fits =
    next_of-if (same_at place (Slot s) && link.mark) link (marked_in reads s) fits.0 (next-fits reads s fits.1)

-- ---- the epoch is read

-- an epoch that has not moved: what is pending is confirmed, and then the slots are reread
pub read_epoch-same : (know confirmed last : Know) (epoch : ℕ) → epoch ≡ know.epoch →
    confirmed ≡ record know { pending = []; checked = know.checked ++ know.pending } →
    last ≡ record confirmed { own = λ s. reread (confirmed.own s) } → last ≡ read_epoch know epoch
read_epoch-same know confirmed last epoch same c l = rw (l, c, eq-eqb epoch know.epoch same) refl

-- an epoch that has moved: what was read is forgotten, and then the slots are reread
pub read_epoch-moved : (know forgot last : Know) (epoch : ℕ) → epoch ≢ know.epoch →
    forgot ≡ record know { epoch = epoch; pending = []; checked = [] } →
    last ≡ record forgot { own = λ s. reread (forgot.own s) } → last ≡ read_epoch know epoch
read_epoch-moved know forgot last epoch moved f l = rw (l, f, ne_eqb epoch know.epoch moved) refl
