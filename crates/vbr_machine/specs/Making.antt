-- How a program links the keys that a world opens with, and how it makes a step: first its pass learns and its call is kept, and then the words are written. Only contracts of private functions cite this, but for `call_made`.
use Rattle.std.specs.Prelude.{ℕ, ◌-◌, ◌==◌, nat_lt, Bool, Option, Some, None, if◌then◌else◌}
use Rattle.vbr_machine.specs.Start.{Start}
use Rattle.vbr_words.specs.Flags.{has_flag}
use Rattle.vbr_machine.specs.Learning.{succeeds, call_ahead, call_of}
use Rattle.vbr_machine.specs.Put.{put}
use Rattle.vbr_machine.specs.Links.{opening_link, link_to}
use Rattle.vbr_words.specs.Buckets.{bucket_of}
use Rattle.vbr_machine.specs.Opened.{key_count, key_number, value_number, opening_birth, first_from, link_to_key, link_at_opening, opening_place}
use Rattle.vbr_machine.specs.Machine.{World, opening, counted, found}
use Rattle.vbr_machine.specs.declared.event.Step.{Step}
use Rattle.vbr_machine.specs.declared.event.Step.TheVariants.{Replace}
use Rattle.vbr_machine.specs.declared.event.Effect.{Effect}
use Rattle.vbr_machine.specs.declared.event.Effect.TheVariants.{Won, Lost, Answered}
use Rattle.vbr_machine.specs.declared.history.Call.{Call}
use Rattle.vbr_machine.specs.declared.knowledge.SlotPlace.TheVariants.{Shared, Listed}

-- ---- at opening

-- what a slot has at opening once the keys from a number on are linked: those before it have nothing yet
abbrev pub linked_from : {A : Type 0} → ℕ → A → (ℕ → A) → ℕ → A
linked_from from nothing at_opening s = if nat_lt s from then nothing else at_opening s

-- the world at opening once the keys from a number on are linked
abbrev pub opening_from : Start → ℕ → World
opening_from start from =
    record (opening start) {
      head = λ b. link_to_key start 0 (first_from start b from);
      link = linked_from from opening_link (link_at_opening start);
      birth = linked_from from 0 (opening_birth start);
      key = linked_from from 0 (key_number start);
      value = linked_from from 0 (value_number start);
      place = linked_from from Shared (opening_place start);
      births = key_count start - from;
    }

-- a key is linked ahead of the others of its bucket: the version of the head is the birth of what the head names
abbrev pub with_key_ahead : Start → ℕ → ℕ → ℕ → World → World
with_key_ahead start number key value w =
    record w {
      head = put w.head (bucket_of start.shape key) (link_to (Some number) 0 1);
      link = put w.link number (link_to (w.head (bucket_of start.shape key)).slot 1 (w.head (bucket_of start.shape key)).version);
      birth = put w.birth number 1;
      key = put w.key number key;
      value = put w.value number value;
      place = put w.place number (Listed (bucket_of start.shape key));
      births = counted w.births;
    }

-- ---- a step

-- the answer of an exchange that expected one word and found another or the same
abbrev pub exchanged : ℕ → ℕ → Effect
exchanged expected found = if found == expected then Won else Lost found

-- the answer of a step that takes the flag of a slot
abbrev pub taken : ℕ → ℕ → Effect
taken s found = if has_flag found s then Won else Lost found

-- the answer of a confirming load
abbrev pub confirmed : Bool → ℕ → ℕ → Effect
confirmed reply expected found = if found == expected then Answered reply else Lost found

-- the call that a pass makes with a step ahead of its own
abbrev pub ahead_made : Start → World → ℕ → Step → Option Call
ahead_made start w p (Replace s expected t) = if succeeds (Replace s expected t) (found start w (Replace s expected t)) then call_ahead start p (w.know p) (Replace s expected t) else None
ahead_made start w p step = None

-- the call that a pass makes with a step, if it makes one
abbrev pub call_made : Start → World → ℕ → Step → Option Call
call_made start w p step = if succeeds step (found start w step) then call_of start p (w.know p) step else None
