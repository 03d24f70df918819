-- The words after a step: the word at its place is that of its operation, and no other word changes.
use Rattle.std.proofs.Common.{◌≡◌, ◌≢◌, ℕ, ◌+◌, Bool, true, false, Option, Some, None, cond, refl, sym, ap, ◌∙◌, inl}
use Rattle.std.proofs.Common.{inr, arith}
use Rattle.std.specs.Prelude.{◌⊎◌, ◌==◌, bit_and}
use Rattle.std.proofs.lemmas.Bool.{cases_eq, eqb-true}
use Rattle.vbr_machine.specs.Start.{Start}
use Rattle.vbr_words.specs.Words.{word_of, link_of}
use Rattle.vbr_words.specs.Flags.{word_of_flag, all_but, has_flag}
use Rattle.vbr_words.specs.Places.{IsIn}
use Rattle.vbr_words.specs.Places as places
use Rattle.vbr_words.specs.declared.link.Link.{Link}
use Rattle.vbr_words.specs.declared.place.At.{At}
use Rattle.vbr_words.specs.declared.place.At.TheVariants.{Head, Slot}
use Rattle.vbr_words.specs.declared.place.Place.{Place}
use Rattle.vbr_words.specs.declared.place.Place.TheVariants as place
use Rattle.vbr_machine.specs.Put.{put}
use Rattle.vbr_machine.specs.Acceptance.{IsAtIn, IsInShape, MayBear, IsInHand, Accepts}
use Rattle.vbr_machine.specs.Learning.{link_written}
use Rattle.vbr_machine.specs.Machine.{World, link_at, is_shared, word_at, place_of_step, access_of, word_made, found}
use Rattle.vbr_machine.specs.Machine.{with_learning, after}
use Rattle.vbr_machine.specs.Incarnations.{State, Incarnations}
use Rattle.vbr_machine.specs.Chronicles.{next_of}
use Rattle.vbr_machine.specs.Sound.{IsListed, PlaceFits}
use Rattle.vbr_machine.specs.Notes.{Notes, before_at}
use Rattle.vbr_machine.specs.Agreement.{IsHeldNext, OwnFits, Agrees}
use Rattle.vbr_machine.specs.declared.event.Step.{Step}
use Rattle.vbr_machine.specs.declared.event.Step.TheVariants.{ReadEpoch, Advance, LoadStamp, PeekBirth, StoreStamp}
use Rattle.vbr_machine.specs.declared.event.Step.TheVariants.{Raise}
use Rattle.vbr_machine.specs.declared.event.Step.TheVariants.{TakeFlag, StoreBirth, StoreKey, StoreLink, LoadLink}
use Rattle.vbr_machine.specs.declared.event.Step.TheVariants.{LoadBirth, LoadKey, Publish, Mark, Replace, Unlink}
use Rattle.vbr_machine.specs.declared.event.Step.TheVariants.{ConfirmPresent, ConfirmAbsent, StoreValue, LoadValue}
use Rattle.vbr_machine.specs.declared.knowledge.Holding.{Holding}
use Rattle.vbr_machine.specs.declared.knowledge.Holding.TheVariants.{Free, Unlinked, InHand}
use Rattle.vbr_machine.specs.declared.knowledge.SlotPlace.{SlotPlace}
use Rattle.vbr_machine.specs.declared.knowledge.SlotPlace.TheVariants.{Shared, Own, Hand, Listed}
use Rattle.vbr_machine.proofs.words.Puts.{put_here, put_other}
use Rattle.vbr_machine.proofs.chronicles.Slots.{listed_last}
use Rattle.vbr_machine.proofs.reads.StandingLinks.{LinkStands, link_stands}
use Rattle.vbr_machine.proofs.words.SlotFlags.{flag_in, raised_word, taken_word, missed_word, same_word}

-- ---- the place of a step

place_at_in : (start : Start) (place : At) → IsAtIn start place → IsIn start.shape (places.place_of place)
place_at_in start (Head b) here = here
place_at_in start (Slot s) here = here

-- the place of a step of the shape is one of the shape
pub place_in : (start : Start) (step : Step) → IsInShape start step → IsIn start.shape (place_of_step step)
place_in start ReadEpoch here = tt
place_in start (Advance from) here = tt
place_in start (LoadStamp s) here = here
place_in start (PeekBirth s) here = here
place_in start (StoreStamp s stamp) here = here
place_in start (Raise s) here = flag_in start s here
place_in start (TakeFlag s) here = flag_in start s here
place_in start (StoreBirth s birth) here = here
place_in start (StoreKey s key) here = here
place_in start (StoreValue s value) here = here
place_in start (StoreLink s next) here = here.0
place_in start (LoadLink place) here = place_at_in start place here
place_in start (LoadBirth s) here = here
place_in start (LoadKey s) here = here
place_in start (LoadValue s) here = here
place_in start (Publish pred expected s) here = place_at_in start pred here.0
place_in start (Mark s expected) here = here
place_in start (Replace s expected t) here = here.0
place_in start (Unlink pred expected s) here = place_at_in start pred here.0
place_in start (ConfirmPresent op s expected) here = here.0
place_in start (ConfirmAbsent op key place expected) here = place_at_in start place here.0

-- ---- the word at that place

-- an exchange that wins leaves the new word, and one that is lost the word found
left : (b : Bool) (f : World → ℕ) (x y : World) (new old : ℕ) → (b ≡ true → f x ≡ new) → f y ≡ old →
    f (cond b x y) ≡ cond b new old
left true f x y new old won lost = won refl
left false f x y new old won lost = lost

-- so does an exchange of a head, and one of the link of a slot
head_left : (w x : World) (b expected : ℕ) (new : Link) → x.head ≡ put w.head b new →
    word_of ((cond (word_of (w.head b) == expected) x w).head b)
    ≡ cond (word_of (w.head b) == expected) (word_of new) (word_of (w.head b))
head_left w x b expected new is = left (word_of (w.head b) == expected) (λ v. word_of (v.head b)) x w (word_of new)
    (word_of (w.head b)) (λ t. ap (λ f. word_of (f b)) is ∙ ap word_of (put_here w.head b new)) refl

link_left : (w x : World) (s expected : ℕ) (new : Link) → x.link ≡ put w.link s new →
    word_of ((cond (word_of (w.link s) == expected) x w).link s)
    ≡ cond (word_of (w.link s) == expected) (word_of new) (word_of (w.link s))
link_left w x s expected new is = left (word_of (w.link s) == expected) (λ v. word_of (v.link s)) x w (word_of new)
    (word_of (w.link s)) (λ t. ap (λ f. word_of (f s)) is ∙ ap word_of (put_here w.link s new)) refl

-- and where both leave the same, so does the exchange
kept : (b : Bool) (f : World → ℕ) (x y : World) (old : ℕ) → (b ≡ true → f x ≡ old) → f y ≡ old → f (cond b x y) ≡ old
kept true f x y old won lost = won refl
kept false f x y old won lost = lost

-- and where each leaves it for a reason of its own
either : (b : Bool) (f : World → ℕ) (x y : World) (new : ℕ) → (b ≡ true → f x ≡ new) → (b ≡ false → f y ≡ new) →
    f (cond b x y) ≡ new
either true f x y new won lost = won refl
either false f x y new won lost = lost refl

-- the word at the place of a step is what its operation leaves there
pub word_here : (start : Start) (w : World) (p : ℕ) (step : Step) → IsInShape start step →
    word_at start (after start w p step) (place_of_step step)
    ≡ word_made (access_of (w.know p) step) (found start w step)
word_here start w p ReadEpoch here = refl
word_here start w p (Advance from) here =
    left (w.epoch == from) (λ v. v.epoch) _ w (from + 1) w.epoch (λ t. ap (λ n. n + 1) (eqb-true w.epoch from t)) refl
word_here start w p (LoadStamp s) here = refl
word_here start w p (PeekBirth s) here = refl
word_here start w p (StoreStamp s stamp) here = put_here w.stamp s stamp
word_here start w p (Raise s) here = raised_word start w (after start w p (Raise s)) s Shared refl here refl
word_here start w p (TakeFlag s) here =
    either (has_flag (found start w (TakeFlag s)) s) (λ v. word_at start v (place.Flags (word_of_flag s))) _ w
    (bit_and (found start w (TakeFlag s)) (all_but s))
    (λ t. taken_word start w (record (with_learning start w p (TakeFlag s)) { place = put w.place s (Own p) }) s (Own p)
    refl refl) (λ f. missed_word start w s f)
word_here start w p (StoreBirth s birth) here = put_here w.birth s birth
word_here start w p (StoreKey s key) here = put_here w.key s key
word_here start w p (StoreValue s value) here = put_here w.value s value
word_here start w p (StoreLink s next) here =
    ap word_of (put_here w.link s (link_written (w.know p) (StoreLink s next)))
word_here start w p (LoadLink (Head b)) here = refl
word_here start w p (LoadLink (Slot t)) here = refl
word_here start w p (LoadBirth s) here = refl
word_here start w p (LoadKey s) here = refl
word_here start w p (LoadValue s) here = refl
word_here start w p (Publish (Head b) expected s) here =
    head_left w _ b expected (link_written (w.know p) (Publish (Head b) expected s)) refl
word_here start w p (Publish (Slot t) expected s) here =
    link_left w _ t expected (link_written (w.know p) (Publish (Slot t) expected s)) refl
word_here start w p (Mark s expected) here =
    link_left w _ s expected (link_written (w.know p) (Mark s expected)) refl
word_here start w p (Replace s expected t) here =
    link_left w _ s expected (link_written (w.know p) (Replace s expected t)) refl
word_here start w p (Unlink (Head b) expected s) here =
    head_left w _ b expected (link_written (w.know p) (Unlink (Head b) expected s)) refl
word_here start w p (Unlink (Slot t) expected s) here =
    link_left w _ t expected (link_written (w.know p) (Unlink (Slot t) expected s)) refl
word_here start w p (ConfirmPresent op s expected) here =
    kept (word_of (w.link s) == expected) (λ v. word_of (v.link s)) _ w (word_of (w.link s)) (λ t. refl) refl
word_here start w p (ConfirmAbsent op key (Head b) expected) here =
    kept (word_of (w.head b) == expected) (λ v. word_of (v.head b)) _ w (word_of (w.head b)) (λ t. refl) refl
word_here start w p (ConfirmAbsent op key (Slot s) expected) here =
    kept (word_of (w.link s) == expected) (λ v. word_of (v.link s)) _ w (word_of (w.link s)) (λ t. refl) refl

-- ---- the words elsewhere

-- the slot that a step moves without its flag isn't in the shared pool
abbrev pub MovesUnshared : World → Step → Type 0
MovesUnshared w (StoreBirth s birth) = is_shared (w.place s) ≡ false
MovesUnshared w (Publish pred expected s) = is_shared (w.place s) ≡ false
MovesUnshared w (Replace s expected t) = is_shared (w.place t) ≡ false
MovesUnshared w (Unlink pred expected s) = word_of (link_at w pred) ≡ expected → is_shared (w.place s) ≡ false
MovesUnshared w _ = Unit {0}

-- two worlds have the same words but at one place
record SameBut (here : Place) (v w : World) : Type 0 where
  epoch : place.Epoch ≢ here → v.epoch ≡ w.epoch
  head : (b : ℕ) → place.Head b ≢ here → v.head b ≡ w.head b
  link : (s : ℕ) → place.LinkOf s ≢ here → v.link s ≡ w.link s
  birth : (s : ℕ) → place.Birth s ≢ here → v.birth s ≡ w.birth s
  stamp : (s : ℕ) → place.Stamp s ≢ here → v.stamp s ≡ w.stamp s
  key : (s : ℕ) → place.Key s ≢ here → v.key s ≡ w.key s
  value : (s : ℕ) → place.Value s ≢ here → v.value s ≡ w.value s
  flag : (s : ℕ) → place.Flags (word_of_flag s) ≢ here → is_shared (v.place s) ≡ is_shared (w.place s)

word_but : (start : Start) (v w : World) (here q : Place) → SameBut here v w → q ≢ here →
    word_at start v q ≡ word_at start w q
word_but start v w here place.Epoch same ne = same.epoch ne
word_but start v w here place.ShapeWord same ne = refl
word_but start v w here (place.Head b) same ne = ap word_of (same.head b ne)
word_but start v w here (place.LinkOf s) same ne = ap word_of (same.link s ne)
word_but start v w here (place.Birth s) same ne = same.birth s ne
word_but start v w here (place.Stamp s) same ne = same.stamp s ne
word_but start v w here (place.Key s) same ne = same.key s ne
word_but start v w here (place.Value s) same ne = same.value s ne
word_but start v w here (place.Flags number) same ne =
    same_word start v w number (λ s is. same.flag s (λ e. ne (sym (ap place.Flags is) ∙ e)))

unchanged : (here : Place) (v w : World) → v.epoch ≡ w.epoch → v.head ≡ w.head → v.link ≡ w.link → v.birth ≡ w.birth →
    v.stamp ≡ w.stamp → v.key ≡ w.key → v.value ≡ w.value → v.place ≡ w.place → SameBut here v w
unchanged here v w epoch head link birth stamp key value places = record {
  epoch = λ _. epoch;
  head = λ b _. ap (λ f. f b) head;
  link = λ s _. ap (λ f. f s) link;
  birth = λ s _. ap (λ f. f s) birth;
  stamp = λ s _. ap (λ f. f s) stamp;
  key = λ s _. ap (λ f. f s) key;
  value = λ s _. ap (λ f. f s) value;
  flag = λ s _. ap (λ f. is_shared (f s)) places;
}

-- an exchange that is lost changes nothing
if_won : (b : Bool) (here : Place) (x w : World) → (b ≡ true → SameBut here x w) → SameBut here (cond b x w) w
if_won true here x w won = won refl
if_won false here x w won = unchanged here w w refl refl refl refl refl refl refl refl

-- a slot that was not in the shared pool and isn't now keeps its flag
flag_kept : (f : ℕ → SlotPlace) (s : ℕ) (new : SlotPlace) → is_shared (f s) ≡ is_shared new → (i : ℕ) →
    is_shared (put f s new i) ≡ is_shared (f i)
flag_kept f s new e i = go (cases_eq i s)
  where
    go : (i ≡ s) ⊎ (i ≢ s) → is_shared (put f s new i) ≡ is_shared (f i)
    go (inl q) = rw (q, put_here f s new) (sym e)
    go (inr ne) = ap is_shared (put_other f s new i ne)

words_but : {here : Place} {v w : World} → (place.Epoch ≢ here → v.epoch ≡ w.epoch) →
    ((b : ℕ) → place.Head b ≢ here → v.head b ≡ w.head b) → ((s : ℕ) → place.LinkOf s ≢ here → v.link s ≡ w.link s) →
    ((s : ℕ) → place.Birth s ≢ here → v.birth s ≡ w.birth s) →
    ((s : ℕ) → place.Stamp s ≢ here → v.stamp s ≡ w.stamp s) →
    ((s : ℕ) → place.Key s ≢ here → v.key s ≡ w.key s) → ((s : ℕ) → place.Value s ≢ here → v.value s ≡ w.value s) →
    ((s : ℕ) → place.Flags (word_of_flag s) ≢ here → is_shared (v.place s) ≡ is_shared (w.place s)) → SameBut here v w
words_but e h l b s k v f = record { epoch = e; head = h; link = l; birth = b; stamp = s; key = k; value = v; flag = f }

-- a step changes no word but that at its place
same_but : (start : Start) (w : World) (p : ℕ) (step : Step) → MovesUnshared w step →
    SameBut (place_of_step step) (after start w p step) w
same_but start w p ReadEpoch moves = unchanged _ _ w refl refl refl refl refl refl refl refl
same_but start w p (Advance from) moves =
    if_won (w.epoch == from) place.Epoch _ w
    (λ _. words_but (λ ne. absurd (ne refl)) (λ _ _. refl) (λ _ _. refl) (λ _ _. refl) (λ _ _. refl) (λ _ _. refl)
    (λ _ _. refl) (λ _ _. refl))
same_but start w p (LoadStamp s) moves = unchanged _ _ w refl refl refl refl refl refl refl refl
same_but start w p (PeekBirth s) moves = unchanged _ _ w refl refl refl refl refl refl refl refl
same_but start w p (StoreStamp s stamp) moves =
    words_but (λ _. refl) (λ _ _. refl) (λ _ _. refl) (λ _ _. refl)
    (λ i ne. put_other w.stamp s stamp i (λ e. ne (ap place.Stamp e))) (λ _ _. refl) (λ _ _. refl) (λ _ _. refl)
same_but start w p (Raise s) moves =
    words_but (λ _. refl) (λ _ _. refl) (λ _ _. refl) (λ _ _. refl) (λ _ _. refl) (λ _ _. refl) (λ _ _. refl)
    (λ i ne. ap is_shared (put_other w.place s Shared i (λ e. ne (ap (λ t. place.Flags (word_of_flag t)) e))))
same_but start w p (TakeFlag s) moves =
    if_won (has_flag (found start w (TakeFlag s)) s) (place.Flags (word_of_flag s)) _ w
    (λ _. words_but (λ _. refl) (λ _ _. refl) (λ _ _. refl) (λ _ _. refl) (λ _ _. refl) (λ _ _. refl) (λ _ _. refl)
    (λ i ne. ap is_shared (put_other w.place s (Own p) i (λ e. ne (ap (λ t. place.Flags (word_of_flag t)) e)))))
same_but start w p (StoreBirth s birth) moves =
    words_but (λ _. refl) (λ _ _. refl) (λ _ _. refl) (λ i ne. put_other w.birth s birth i (λ e. ne (ap place.Birth e)))
    (λ _ _. refl) (λ _ _. refl) (λ _ _. refl) (λ i _. flag_kept w.place s (Hand p) moves i)
same_but start w p (StoreKey s key) moves =
    words_but (λ _. refl) (λ _ _. refl) (λ _ _. refl) (λ _ _. refl) (λ _ _. refl)
    (λ i ne. put_other w.key s key i (λ e. ne (ap place.Key e))) (λ _ _. refl) (λ _ _. refl)
same_but start w p (StoreValue s value) moves =
    words_but (λ _. refl) (λ _ _. refl) (λ _ _. refl) (λ _ _. refl) (λ _ _. refl) (λ _ _. refl)
    (λ i ne. put_other w.value s value i (λ e. ne (ap place.Value e))) (λ _ _. refl)
same_but start w p (StoreLink s next) moves =
    words_but (λ _. refl) (λ _ _. refl) (λ i ne. put_other w.link s _ i (λ e. ne (ap place.LinkOf e))) (λ _ _. refl)
    (λ _ _. refl) (λ _ _. refl) (λ _ _. refl) (λ _ _. refl)
same_but start w p (LoadLink holder) moves = unchanged _ _ w refl refl refl refl refl refl refl refl
same_but start w p (LoadBirth s) moves = unchanged _ _ w refl refl refl refl refl refl refl refl
same_but start w p (LoadKey s) moves = unchanged _ _ w refl refl refl refl refl refl refl refl
same_but start w p (LoadValue s) moves = unchanged _ _ w refl refl refl refl refl refl refl refl
same_but start w p (Publish (Head b) expected s) moves =
    if_won (word_of (w.head b) == expected) (place.Head b) _ w
    (λ _. words_but (λ _. refl) (λ i ne. put_other w.head b _ i (λ e. ne (ap place.Head e))) (λ _ _. refl) (λ _ _. refl)
    (λ _ _. refl) (λ _ _. refl) (λ _ _. refl) (λ i _. flag_kept w.place s (Listed _) moves i))
same_but start w p (Publish (Slot t) expected s) moves =
    if_won (word_of (w.link t) == expected) (place.LinkOf t) _ w
    (λ _. words_but (λ _. refl) (λ _ _. refl) (λ i ne. put_other w.link t _ i (λ e. ne (ap place.LinkOf e)))
    (λ _ _. refl) (λ _ _. refl) (λ _ _. refl) (λ _ _. refl) (λ i _. flag_kept w.place s (Listed _) moves i))
same_but start w p (Mark s expected) moves =
    if_won (word_of (w.link s) == expected) (place.LinkOf s) _ w
    (λ _. words_but (λ _. refl) (λ _ _. refl) (λ i ne. put_other w.link s _ i (λ e. ne (ap place.LinkOf e)))
    (λ _ _. refl) (λ _ _. refl) (λ _ _. refl) (λ _ _. refl) (λ _ _. refl))
same_but start w p (Replace s expected t) moves =
    if_won (word_of (w.link s) == expected) (place.LinkOf s) _ w
    (λ _. words_but (λ _. refl) (λ _ _. refl) (λ i ne. put_other w.link s _ i (λ e. ne (ap place.LinkOf e)))
    (λ _ _. refl) (λ _ _. refl) (λ _ _. refl) (λ _ _. refl) (λ i _. flag_kept w.place t (Listed _) moves i))
same_but start w p (Unlink (Head b) expected s) moves =
    if_won (word_of (w.head b) == expected) (place.Head b) _ w
    (λ won. words_but (λ _. refl) (λ i ne. put_other w.head b _ i (λ e. ne (ap place.Head e))) (λ _ _. refl)
    (λ _ _. refl) (λ _ _. refl) (λ _ _. refl) (λ _ _. refl)
    (λ i _. flag_kept w.place s (Own p) (moves (eqb-true (word_of (w.head b)) expected won)) i))
same_but start w p (Unlink (Slot t) expected s) moves =
    if_won (word_of (w.link t) == expected) (place.LinkOf t) _ w
    (λ won. words_but (λ _. refl) (λ _ _. refl) (λ i ne. put_other w.link t _ i (λ e. ne (ap place.LinkOf e)))
    (λ _ _. refl) (λ _ _. refl) (λ _ _. refl) (λ _ _. refl)
    (λ i _. flag_kept w.place s (Own p) (moves (eqb-true (word_of (w.link t)) expected won)) i))
same_but start w p (ConfirmPresent op s expected) moves =
    if_won (word_of (w.link s) == expected) (place.LinkOf s) _ w
    (λ _. unchanged _ _ w refl refl refl refl refl refl refl refl)
same_but start w p (ConfirmAbsent op key holder expected) moves =
    if_won (found start w (ConfirmAbsent op key holder expected) == expected) (places.place_of holder) _ w
    (λ _. unchanged _ _ w refl refl refl refl refl refl refl refl)

-- a step leaves the words elsewhere, if it moves no slot out of the shared pool but by its flag
pub word_elsewhere_if : (start : Start) (w : World) (p : ℕ) (step : Step) (q : Place) → MovesUnshared w step →
    q ≢ place_of_step step → word_at start (after start w p step) q ≡ word_at start w q
word_elsewhere_if start w p step q moves ne =
    word_but start (after start w p step) w (place_of_step step) q (same_but start w p step moves) ne

-- ---- what a step moves

-- a slot that a pass may bear in is its own or in its hand
bear_unshared : (a : Incarnations) (p epoch : ℕ) (holding : Option Holding) (place : SlotPlace) (last : Option ℕ)
    (stamp : ℕ) → OwnFits a p epoch holding place last stamp → MayBear holding → is_shared place ≡ false
bear_unshared a p epoch None place last stamp h o = absurd o
bear_unshared a p epoch (Some (Free known)) place last stamp h o = ap is_shared h.0
bear_unshared a p epoch (Some (Unlinked reread)) place last stamp h o = absurd o
bear_unshared a p epoch (Some (InHand known)) place last stamp h o = ap is_shared h.0

may_bear : (holding : Option Holding) → IsInHand holding → MayBear holding
may_bear None o = absurd o
may_bear (Some (Free known)) o = absurd o
may_bear (Some (Unlinked reread)) o = absurd o
may_bear (Some (InHand known)) o = tt

-- the slot of a listed incarnation is in no pool
listed_unshared : (start : Start) (place : SlotPlace) (st : State) (key : ℕ) → PlaceFits start place st key →
    IsListed st →
    is_shared place ≡ false
listed_unshared start Shared st key f l = absurd (grind arith)
listed_unshared start (Own p) st key f l = refl
listed_unshared start (Hand p) st key f l = refl
listed_unshared start (Listed b) st key f l = refl

-- a slot that is named by a checked link that stands there now is in no pool
next_unshared : (start : Start) (w : World) (a : Incarnations) (notes : ℕ → Notes) (p : ℕ) (pred : At)
    (expected s : ℕ) → Agrees start w a notes → Accepts start (w.know p) (Unlink pred expected s) →
    word_of (link_at w pred) ≡ expected → is_shared (w.place s) ≡ false
next_unshared start w a notes p pred expected s g ok e =
    ap is_shared (g.image.place s) ∙ go (next_of a (before_at a pred)) refl (rw ok.in_range.1 at m.next)
  where
    m : LinkStands start a (w.know p).epoch (w.know p).checked pred (link_of expected)
    m = link_stands start w a notes p g pred expected ok.held.0 ok.in_range.0 e

    go : (n : Option ℕ) → next_of a (before_at a pred) ≡ n → IsHeldNext a (w.know p).epoch (Some s) n →
        is_shared (a.place s) ≡ false
    go None r h = absurd h
    go (Some c) r h =
        let li = m.listed c r in
        let last : a.last s ≡ Some c = rw h.slot at (listed_last g.sound.slots c li) in
        listed_unshared start (a.place s) (a.state c) (a.key c) (g.sound.slots.placed c s last) li

-- an accepted step moves no slot out of the shared pool but by its flag
pub moves_unshared : (start : Start) (w : World) (a : Incarnations) (notes : ℕ → Notes) (p : ℕ) (step : Step) →
    Agrees start w a notes → Accepts start (w.know p) step → MovesUnshared w step
moves_unshared start w a notes p (StoreBirth s birth) g ok = ap is_shared (g.image.place s)
    ∙ bear_unshared a p (w.know p).epoch ((w.know p).own s) (a.place s) (a.last s) (a.stamp s) (g.owns p s) ok.owned
moves_unshared start w a notes p (Publish pred expected s) g ok = ap is_shared (g.image.place s)
    ∙ bear_unshared a p (w.know p).epoch ((w.know p).own s) (a.place s) (a.last s) (a.stamp s) (g.owns p s)
    (may_bear ((w.know p).own s) ok.owned)
moves_unshared start w a notes p (Replace s expected t) g ok = ap is_shared (g.image.place t)
    ∙ bear_unshared a p (w.know p).epoch ((w.know p).own t) (a.place t) (a.last t) (a.stamp t) (g.owns p t)
    (may_bear ((w.know p).own t) ok.owned)
moves_unshared start w a notes p (Unlink pred expected s) g ok = next_unshared start w a notes p pred expected s g ok
moves_unshared start w a notes p _ g ok = tt

-- an accepted step leaves the words elsewhere
pub word_elsewhere : (start : Start) (w : World) (a : Incarnations) (notes : ℕ → Notes) (p : ℕ) (step : Step)
    (q : Place) → Agrees start w a notes → Accepts start (w.know p) step → q ≢ place_of_step step →
    word_at start (after start w p step) q ≡ word_at start w q
word_elsewhere start w a notes p step q g ok ne =
    word_elsewhere_if start w p step q (moves_unshared start w a notes p step g ok) ne
