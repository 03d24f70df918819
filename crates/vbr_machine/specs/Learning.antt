-- What a step's load or exchange answers, what its pass learns from it, and which call it makes.
use Rattle.std.specs.Prelude.{ℕ, Bool, true, false, ◌==◌, List, [], ◌∷◌, ◌++◌, Option, Some, None, if◌then◌else◌, unwrap_or}
use Rattle.vbr_machine.specs.Start.{Start}
use Rattle.vbr_words.specs.Words.{link_of}
use Rattle.vbr_words.specs.Flags.{has_flag}
use Rattle.vbr_words.specs.declared.link.Link.{Link}
use Rattle.vbr_words.specs.declared.place.At.TheVariants.{Slot}
use Rattle.vbr_machine.specs.Put.{put}
use Rattle.vbr_machine.specs.Links.{opening_link, link_to, marked}
use Rattle.vbr_machine.specs.Knowledge.{Know, birth_in, key_in, value_in, marked_in, birth_at, birth_of}
use Rattle.vbr_machine.specs.Acceptance.{stamp_in, next_of_marked}
use Rattle.vbr_machine.specs.Opened.{payload_kept}
use Rattle.vbr_machine.specs.declared.history.Call.{Call}
use Rattle.vbr_machine.specs.declared.history.Op.{Op}
use Rattle.vbr_machine.specs.declared.history.Op.TheVariants.{Insert, Remove, Has, Get}
use Rattle.vbr_machine.specs.declared.event.Step.{Step}
use Rattle.vbr_machine.specs.declared.event.Step.TheVariants.{ReadEpoch, Advance, StoreStamp, Raise, TakeFlag, StoreBirth, StoreKey, StoreValue, StoreLink, LoadLink, LoadBirth, LoadKey, LoadValue, Publish, Mark, Replace, Unlink, ConfirmPresent, ConfirmAbsent}
use Rattle.vbr_machine.specs.declared.event.Effect.{Effect}
use Rattle.vbr_machine.specs.declared.event.Effect.TheVariants.{Value, Done, Won, Lost, Answered}
use Rattle.vbr_machine.specs.declared.knowledge.Read.{Read}
use Rattle.vbr_machine.specs.declared.knowledge.Read.TheVariants.{LinkAt, BirthOf, KeyOf, ValueOf}
use Rattle.vbr_machine.specs.declared.knowledge.Unpublished.{Unpublished}
use Rattle.vbr_machine.specs.declared.knowledge.Holding.{Holding}
use Rattle.vbr_machine.specs.declared.knowledge.Holding.TheVariants.{Free, Unlinked, InHand}

-- ---- answers

-- whether a step succeeds that found this word: an exchange or a confirming load does only if it found the expected one, and a flag is taken only if it is set
abbrev pub succeeds : Step → ℕ → Bool
succeeds (Advance from) found = found == from
succeeds (TakeFlag s) found = has_flag found s
succeeds (Publish pred expected s) found = found == expected
succeeds (Mark s expected) found = found == expected
succeeds (Replace s expected t) found = found == expected
succeeds (Unlink pred expected s) found = found == expected
succeeds (ConfirmPresent op s expected) found = found == expected
succeeds (ConfirmAbsent op key place expected) found = found == expected
succeeds _ found = true

-- the reply that the presence of the key gives to an operation: yes to a look-up, no to an insert
abbrev pub present_reply : Op → Bool
present_reply Has = true
present_reply Get = true
present_reply _ = false

-- the effect of a step that succeeds, from the word that it found
abbrev pub effect_where_it_succeeds : Step → ℕ → Effect
effect_where_it_succeeds (Advance from) found = Won
effect_where_it_succeeds (StoreStamp s stamp) found = Done
effect_where_it_succeeds (Raise s) found = Done
effect_where_it_succeeds (TakeFlag s) found = Won
effect_where_it_succeeds (StoreBirth s birth) found = Done
effect_where_it_succeeds (StoreKey s key) found = Done
effect_where_it_succeeds (StoreValue s value) found = Done
effect_where_it_succeeds (StoreLink s next) found = Done
effect_where_it_succeeds (Publish pred expected s) found = Won
effect_where_it_succeeds (Mark s expected) found = Won
effect_where_it_succeeds (Replace s expected t) found = Won
effect_where_it_succeeds (Unlink pred expected s) found = Won
effect_where_it_succeeds (ConfirmPresent op s expected) found = Answered (present_reply op)
effect_where_it_succeeds (ConfirmAbsent op key place expected) found = Answered false
effect_where_it_succeeds _ found = Value found

-- the effect of a step, from the word that it found
abbrev pub effect_of : Step → ℕ → Effect
effect_of step found = if succeeds step found then effect_where_it_succeeds step found else Lost found

-- ---- what is in hand

-- what is in hand once it is born: nothing was stored in it
abbrev pub newborn : ℕ → ℕ → Unpublished
newborn stamp birth = record { stamp = stamp; birth = birth; key = None; value = None; link = None }

-- the birth of a slot in hand
abbrev pub birth_in_hand : Option Holding → ℕ
birth_in_hand (Some (InHand known)) = known.birth
birth_in_hand _ = 0

-- the key of a slot in hand
abbrev pub key_in_hand : Option Holding → ℕ
key_in_hand (Some (InHand known)) = unwrap_or known.key 0
key_in_hand _ = 0

-- the value of a slot in hand, if one was stored
abbrev pub value_in_hand : Option Holding → Option ℕ
value_in_hand (Some (InHand known)) = known.value
value_in_hand _ = None

-- the link of a slot in hand
abbrev pub link_in_hand : Option Holding → Link
link_in_hand (Some (InHand known)) = unwrap_or known.link opening_link
link_in_hand _ = opening_link

-- a slot in hand once its key is stored
abbrev pub with_key : Option Holding → ℕ → Option Holding
with_key (Some (InHand known)) new = Some (InHand (record known { key = Some new }))
with_key holding new = holding

-- a slot in hand once its value is stored
abbrev pub with_value : Option Holding → ℕ → Option Holding
with_value (Some (InHand known)) new = Some (InHand (record known { value = Some new }))
with_value holding new = holding

-- a slot in hand once its link is stored
abbrev pub with_link : Option Holding → Link → Option Holding
with_link (Some (InHand known)) new = Some (InHand (record known { link = Some new }))
with_link holding new = holding

-- ---- what is written

-- the link that a step writes, from what its pass knows
abbrev pub link_written : Know → Step → Link
link_written know (StoreLink s next) = link_to next (birth_in_hand (know.own s)) (unwrap_or (birth_of know.checked next) 0)
link_written know (Publish pred expected s) = link_to (Some s) (unwrap_or (birth_at know.checked pred) 0) (birth_in_hand (know.own s))
link_written know (Mark s expected) = marked (link_of expected)
link_written know (Replace s expected t) = marked (link_to (Some t) (unwrap_or (birth_in know.checked s) 0) (birth_in_hand (know.own t)))
link_written know (Unlink pred expected s) =
    let next = next_of_marked (marked_in know.checked s) in
    link_to next (unwrap_or (birth_at know.checked pred) 0) (unwrap_or (birth_of know.checked next) 0)
link_written know _ = opening_link

-- the key of the slot that a step links
abbrev pub key_written : Know → Step → ℕ
key_written know (Publish pred expected s) = key_in_hand (know.own s)
key_written know (Replace s expected t) = key_in_hand (know.own t)
key_written know _ = 0

-- ---- what is learned

-- a slot that the pass unlinked, once it has read the epoch
abbrev pub reread : Option Holding → Option Holding
reread (Some (Unlinked seen)) = Some (Unlinked true)
reread holding = holding

-- what a pass knows once it has read the epoch: an unmoved epoch confirms what is pending, and one that has moved leaves nothing
abbrev pub read_epoch : Know → ℕ → Know
read_epoch know epoch =
    if epoch == know.epoch
    then record { epoch = know.epoch; pending = []; checked = know.checked ++ know.pending; own = λ s. reread (know.own s) }
    else record { epoch = epoch; pending = []; checked = []; own = λ s. reread (know.own s) }

-- one more read is pending
abbrev pub with_pending : Know → Read → Know
with_pending know read = record know { pending = know.pending ++ read ∷ [] }

-- more reads are checked
abbrev pub with_checked : Know → List Read → Know
with_checked know reads = record know { checked = know.checked ++ reads }

-- the pass owns a slot in another way, or no longer
abbrev pub with_own : Know → ℕ → Option Holding → Know
with_own know s holding = record know { own = put know.own s holding }

-- what a load reads of the set
abbrev pub read_loaded : Step → ℕ → Option Read
read_loaded (LoadLink place) found = Some (LinkAt place (link_of found))
read_loaded (LoadBirth s) found = Some (BirthOf s found)
read_loaded (LoadKey s) found = Some (KeyOf s found)
read_loaded (LoadValue s) found = Some (ValueOf s found)
read_loaded _ found = None

-- the value of a slot as a read, if there is one
abbrev pub value_read : ℕ → Option ℕ → List Read
value_read s None = []
value_read s (Some value) = ValueOf s value ∷ []

-- what a pass has checked by winning an exchange, in this order
abbrev pub reads_won : Know → Step → List Read
reads_won know (Publish pred expected s) =
    LinkAt pred (link_written know (Publish pred expected s)) ∷ BirthOf s (birth_in_hand (know.own s)) ∷ KeyOf s (key_in_hand (know.own s)) ∷ LinkAt (Slot s) (link_in_hand (know.own s)) ∷ value_read s (value_in_hand (know.own s))
reads_won know (Mark s expected) = LinkAt (Slot s) (link_written know (Mark s expected)) ∷ []
reads_won know (Replace s expected t) =
    LinkAt (Slot s) (link_written know (Replace s expected t)) ∷ BirthOf t (birth_in_hand (know.own t)) ∷ KeyOf t (key_in_hand (know.own t)) ∷ LinkAt (Slot t) (link_in_hand (know.own t)) ∷ value_read t (value_in_hand (know.own t))
reads_won know (Unlink pred expected s) = LinkAt pred (link_written know (Unlink pred expected s)) ∷ []
reads_won know _ = []

-- what a pass knows after a step, from the word that the step found, and from the stamp of the slot if it took one
abbrev pub learn : Step → ℕ → ℕ → Know → Know
learn ReadEpoch found stamp know = read_epoch know found
learn (StoreStamp s new) found stamp know = with_own know s (Some (Free new))
learn (Raise s) found stamp know = with_own know s None
learn (TakeFlag s) found stamp know = if succeeds (TakeFlag s) found then with_own know s (Some (Free stamp)) else know
learn (StoreBirth s birth) found stamp know = with_own know s (Some (InHand (newborn (stamp_in (know.own s)) birth)))
learn (StoreKey s key) found stamp know = with_own know s (with_key (know.own s) key)
learn (StoreValue s value) found stamp know = with_own know s (with_value (know.own s) value)
learn (StoreLink s next) found stamp know = with_own know s (with_link (know.own s) (link_written know (StoreLink s next)))
learn (LoadLink place) found stamp know = with_pending know (LinkAt place (link_of found))
learn (LoadBirth s) found stamp know = with_pending know (BirthOf s found)
learn (LoadKey s) found stamp know = with_pending know (KeyOf s found)
learn (LoadValue s) found stamp know = with_pending know (ValueOf s found)
learn (Publish pred expected s) found stamp know =
    if succeeds (Publish pred expected s) found then with_own (with_checked know (reads_won know (Publish pred expected s))) s None else know
learn (Mark s expected) found stamp know = if succeeds (Mark s expected) found then with_checked know (reads_won know (Mark s expected)) else know
learn (Replace s expected t) found stamp know =
    if succeeds (Replace s expected t) found then with_own (with_checked know (reads_won know (Replace s expected t))) t None else know
learn (Unlink pred expected s) found stamp know =
    if succeeds (Unlink pred expected s) found then with_own (with_checked know (reads_won know (Unlink pred expected s))) s (Some (Unlinked false)) else know
learn _ found stamp know = know

-- ---- the call that is made

-- the value that a present key gives to an operation: a get asks for it
abbrev pub present_value : Op → Option ℕ → Option ℕ
present_value Get value = value
present_value _ value = None

-- the call that a step that succeeds makes ahead of its own: a replacement takes its key out first
abbrev pub call_ahead : Start → ℕ → Know → Step → Option Call
call_ahead start pass know (Replace s expected t) = Some (record { who = pass; op = Remove; key = unwrap_or (key_in know.checked s) 0; reply = true; value = payload_kept start (value_in know.checked s) })
call_ahead start pass know _ = None

-- the call of a step that succeeds, if it is one that makes a call
abbrev pub call_of : Start → ℕ → Know → Step → Option Call
call_of start pass know (Publish pred expected s) = Some (record { who = pass; op = Insert; key = key_in_hand (know.own s); reply = true; value = payload_kept start (value_in_hand (know.own s)) })
call_of start pass know (Mark s expected) = Some (record { who = pass; op = Remove; key = unwrap_or (key_in know.checked s) 0; reply = true; value = payload_kept start (value_in know.checked s) })
call_of start pass know (Replace s expected t) = Some (record { who = pass; op = Insert; key = key_in_hand (know.own t); reply = true; value = payload_kept start (value_in_hand (know.own t)) })
call_of start pass know (ConfirmPresent op s expected) =
    Some (record { who = pass; op = op; key = unwrap_or (key_in know.checked s) 0; reply = present_reply op; value = present_value op (value_in know.checked s) })
call_of start pass know (ConfirmAbsent op key place expected) = Some (record { who = pass; op = op; key = key; reply = false; value = None })
call_of start pass know _ = None
