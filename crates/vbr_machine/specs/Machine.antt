-- The machine: its world, and what an accepted step does to it.
use Rattle.std.specs.Prelude.{ℕ, ◌+◌, ◌-◌, ◌*◌, ◌^◌, min, ◌==◌, nat_lt, Bool, true, false, ◌&&◌, bit_and, bit_or, List, [], ◌∷◌, ◌++◌, Option, Some, None, if◌then◌else◌}
use Rattle.vbr_machine.specs.Start.{Start}
use Rattle.vbr_words.specs.Words.{word_of}
use Rattle.vbr_words.specs.Flags.{word_of_flag, flag_of, all_but, flag_word}
use Rattle.vbr_words.specs.Places as places
use Rattle.vbr_words.specs.Packing.{slot_bits}
use Rattle.vbr_words.specs.declared.link.Link.{Link}
use Rattle.vbr_words.specs.declared.place.At.{At}
use Rattle.vbr_words.specs.declared.place.At.TheVariants.{Head, Slot}
use Rattle.vbr_words.specs.declared.place.Place.{Place}
use Rattle.vbr_words.specs.declared.place.Place.TheVariants as place
use Rattle.vbr_machine.specs.Put.{put}
use Rattle.vbr_machine.specs.Knowledge.{Know}
use Rattle.vbr_words.specs.Buckets.{bucket_of}
use Rattle.vbr_machine.specs.Opened.{key_count, key_number, value_number, opening_birth, first_key, link_to_key, link_at_opening, opening_place}
use Rattle.vbr_machine.specs.Learning.{succeeds, link_written, key_written, learn, call_ahead, call_of}
use Rattle.vbr_machine.specs.declared.history.Call.{Call}
use Rattle.vbr_machine.specs.declared.event.Step.{Step}
use Rattle.vbr_machine.specs.declared.event.Step.TheVariants.{ReadEpoch, Advance, LoadStamp, PeekBirth, StoreStamp, Raise, TakeFlag, StoreBirth, StoreKey, StoreValue, StoreLink, LoadLink, LoadBirth, LoadKey, LoadValue, Publish, Mark, Replace, Unlink, ConfirmPresent, ConfirmAbsent}
use Rattle.vbr_machine.specs.declared.knowledge.SlotPlace.{SlotPlace}
use Rattle.vbr_machine.specs.declared.knowledge.SlotPlace.TheVariants.{Shared, Own, Hand, Listed}

-- the words, the place of each slot, what each pass knows, the number of births, and the calls so far
pub record World : Type 0 where
  pub epoch : ℕ
  pub head : ℕ → Link
  pub link : ℕ → Link
  pub birth : ℕ → ℕ
  pub stamp : ℕ → ℕ
  pub key : ℕ → ℕ
  pub value : ℕ → ℕ
  pub place : ℕ → SlotPlace
  pub know : ℕ → Know
  pub births : ℕ
  pub calls : List Call

-- what a pass knows at opening
abbrev pub knows_nothing : Know
knows_nothing = record { epoch = 1; pending = []; checked = []; own = λ s. None }

-- the world at opening
abbrev pub opening : Start → World
opening start =
    record {
      epoch = 1;
      head = λ b. link_to_key start 0 (first_key start b);
      link = link_at_opening start;
      birth = opening_birth start;
      stamp = λ s. 0;
      key = key_number start;
      value = value_number start;
      place = opening_place start;
      know = λ p. knows_nothing;
      births = key_count start;
      calls = [];
    }

-- ---- words

-- the link at a place
abbrev pub link_at : World → At → Link
link_at w (Head b) = w.head b
link_at w (Slot s) = w.link s

-- whether a place is the shared pool
abbrev pub is_shared : SlotPlace → Bool
is_shared Shared = true
is_shared _ = false

-- whether the flag of a slot is set: it is one of the shape, and in the shared pool
abbrev pub is_flagged : Start → World → ℕ → Bool
is_flagged start w s = nat_lt s start.shape.slots && is_shared (w.place s)

-- the word that says what the shape is
abbrev pub shape_word : Start → ℕ
shape_word start = start.shape.slots + 2 ^ slot_bits start.shape.slots * start.shape.last_epoch

-- the word at a place
abbrev pub word_at : Start → World → Place → ℕ
word_at start w place.Epoch = w.epoch
word_at start w place.ShapeWord = shape_word start
word_at start w (place.Head b) = word_of (w.head b)
word_at start w (place.LinkOf s) = word_of (w.link s)
word_at start w (place.Birth s) = w.birth s
word_at start w (place.Stamp s) = w.stamp s
word_at start w (place.Key s) = w.key s
word_at start w (place.Value s) = w.value s
word_at start w (place.Flags number) = flag_word (is_flagged start w) number

-- ---- how a step reaches its word

-- the place of the one word that a step loads, stores or exchanges
abbrev pub place_of_step : Step → Place
place_of_step ReadEpoch = place.Epoch
place_of_step (Advance from) = place.Epoch
place_of_step (LoadStamp s) = place.Stamp s
place_of_step (PeekBirth s) = place.Birth s
place_of_step (StoreStamp s stamp) = place.Stamp s
place_of_step (Raise s) = place.Flags (word_of_flag s)
place_of_step (TakeFlag s) = place.Flags (word_of_flag s)
place_of_step (StoreBirth s birth) = place.Birth s
place_of_step (StoreKey s key) = place.Key s
place_of_step (StoreValue s value) = place.Value s
place_of_step (StoreLink s next) = place.LinkOf s
place_of_step (LoadLink holder) = places.place_of holder
place_of_step (LoadBirth s) = place.Birth s
place_of_step (LoadKey s) = place.Key s
place_of_step (LoadValue s) = place.Value s
place_of_step (Publish pred expected s) = places.place_of pred
place_of_step (Mark s expected) = place.LinkOf s
place_of_step (Replace s expected t) = place.LinkOf s
place_of_step (Unlink pred expected s) = places.place_of pred
place_of_step (ConfirmPresent op s expected) = place.LinkOf s
place_of_step (ConfirmAbsent op key holder expected) = places.place_of holder

-- an atomic operation on one word: a load, a store of a word, an exchange of an expected word for a new one, or one that sets bits or keeps them alone
pub data Access : Type 0 where
  Load : Access
  Store : ℕ → Access
  Exchange : ℕ → ℕ → Access
  FetchOr : ℕ → Access
  FetchAnd : ℕ → Access

-- the atomic operation that a step is, from what its pass knows
abbrev pub access_of : Know → Step → Access
access_of know (Advance from) = Exchange from (from + 1)
access_of know (StoreStamp s stamp) = Store stamp
access_of know (Raise s) = FetchOr (flag_of s)
access_of know (TakeFlag s) = FetchAnd (all_but s)
access_of know (StoreBirth s birth) = Store birth
access_of know (StoreKey s key) = Store key
access_of know (StoreValue s value) = Store value
access_of know (StoreLink s next) = Store (word_of (link_written know (StoreLink s next)))
access_of know (Publish pred expected s) = Exchange expected (word_of (link_written know (Publish pred expected s)))
access_of know (Mark s expected) = Exchange expected (word_of (link_written know (Mark s expected)))
access_of know (Replace s expected t) = Exchange expected (word_of (link_written know (Replace s expected t)))
access_of know (Unlink pred expected s) = Exchange expected (word_of (link_written know (Unlink pred expected s)))
access_of know _ = Load

-- the word that an operation leaves where it found this one
abbrev pub word_made : Access → ℕ → ℕ
word_made Load found = found
word_made (Store new) found = new
word_made (Exchange expected new) found = if found == expected then new else found
word_made (FetchOr bits) found = bit_or found bits
word_made (FetchAnd bits) found = bit_and found bits

-- ---- what a step does

-- one more birth, counted up to the greatest number
abbrev pub counted : ℕ → ℕ
counted births = min (births + 1) (2 ^ 64 - 1)

-- the word that a step finds, or that its store replaces
abbrev pub found : Start → World → Step → ℕ
found start w step = word_at start w (place_of_step step)

-- the stamp of the slot that a step takes
abbrev pub stamp_shown : World → Step → ℕ
stamp_shown w (TakeFlag s) = w.stamp s
stamp_shown w _ = 0

-- its pass learns from a step
abbrev pub with_learning : Start → World → ℕ → Step → World
with_learning start w p step = record w { know = put w.know p (learn step (found start w step) (stamp_shown w step) (w.know p)) }

-- a link is written at a place
abbrev pub with_link_at : World → At → Link → World
with_link_at w (Head b) link = record w { head = put w.head b link }
with_link_at w (Slot s) link = record w { link = put w.link s link }

-- a call is made
abbrev pub with_call : World → Option Call → World
with_call w None = w
with_call w (Some call) = record w { calls = w.calls ++ call ∷ [] }

-- the words and places that a step of a pass writes if it succeeds, from the link and the key that the pass had for it
abbrev pub written : Start → ℕ → Step → Link → ℕ → World → World
written start p (Advance from) link key w = record w { epoch = w.epoch + 1 }
written start p (StoreStamp s stamp) link key w = record w { stamp = put w.stamp s stamp }
written start p (Raise s) link key w = record w { place = put w.place s Shared }
written start p (TakeFlag s) link key w = record w { place = put w.place s (Own p) }
written start p (StoreBirth s birth) link key w = record w { birth = put w.birth s birth; place = put w.place s (Hand p); births = counted w.births }
written start p (StoreKey s new) link key w = record w { key = put w.key s new }
written start p (StoreValue s new) link key w = record w { value = put w.value s new }
written start p (StoreLink s next) link key w = with_link_at w (Slot s) link
written start p (Publish pred expected s) link key w = record (with_link_at w pred link) { place = put w.place s (Listed (bucket_of start.shape key)) }
written start p (Mark s expected) link key w = with_link_at w (Slot s) link
written start p (Replace s expected t) link key w = record (with_link_at w (Slot s) link) { place = put w.place t (Listed (bucket_of start.shape key)) }
written start p (Unlink pred expected s) link key w = record (with_link_at w pred link) { place = put w.place s (Own p) }
written start p _ link key w = w

-- its pass learns from a step that teaches something
abbrev pub learned : Start → World → ℕ → Step → World
learned start w p (Advance from) = w
learned start w p (LoadStamp s) = w
learned start w p (PeekBirth s) = w
learned start w p (ConfirmPresent op s expected) = w
learned start w p (ConfirmAbsent op key place expected) = w
learned start w p step = with_learning start w p step

-- the world after an accepted step of a pass: if the step succeeds, its pass has learned, the words and places are written, and its calls are made; else nothing has changed
abbrev pub after : Start → World → ℕ → Step → World
after start w p step =
    if succeeds step (found start w step)
    then with_call (with_call (written start p step (link_written (w.know p) step) (key_written (w.know p) step) (learned start w p step)) (call_ahead start p (w.know p) step)) (call_of start p (w.know p) step)
    else w
