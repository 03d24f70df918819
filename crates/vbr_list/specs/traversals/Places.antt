-- Where a key stands in the list of its bucket: after which place, and before which node.
use Rattle.std.specs.Prelude.{◌≡◌, ℕ, ◌≤◌, ◌==◌, Bool, false, Option, Some, None}
use Rattle.vbr_machine.specs.Start.{Start}
use Rattle.vbr_words.specs.Words.{link_of}
use Rattle.vbr_words.specs.declared.place.At.TheVariants.{Slot}
use Rattle.vbr_words.specs.Buckets.{bucket_of}
use Rattle.vbr_machine.specs.Knowledge.{Know}
use Rattle.vbr_machine.specs.Membership.{KeyAt, HeldIn, StandsBehind, StandsBeforeOn}
use Rattle.vbr_at_table.specs.reads.Held.{IsHeld, Names}
use Rattle.vbr_at_table.specs.declared.held.Held.{Held}
use Rattle.vbr_list.specs.declared.found.Found.{Found}
use Rattle.vbr_list.specs.declared.looking.Sight.{Sight}
use Rattle.vbr_list.specs.declared.looking.Sight.TheVariants.{Present, Absent}

-- a place before the key: it is held in the key's bucket, its link is unmarked, and the key stands behind it
pub record IsPred (start : Start) (know : Know) (key : ℕ) (pred : Held) : Type 0 where
  pub held : IsHeld know pred
  pub unmarked : (link_of pred.word).mark ≡ false
  pub inside : HeldIn know pred.at (bucket_of start.shape key)
  pub behind : StandsBehind start know pred.at key

-- the node that the link of the place names: its link is unmarked, its key was read and isn't below the key, and whether it is the key
pub record IsCur (know : Know) (key : ℕ) (pred cur : Held) (present : Bool) : Type 0 where
  pub held : IsHeld know cur
  pub unmarked : (link_of cur.word).mark ≡ false
  pub slot : ℕ
  pub named : Names pred slot
  pub place : cur.at ≡ Slot slot
  pub here : ℕ
  pub read : KeyAt know cur.at here
  pub not_smaller : key ≤ here
  pub says : present ≡ (key == here)

-- what stands behind the place: that node, or the end of the list
abbrev pub IsEnd : Know → ℕ → Held → Option Held → Bool → Type 0
IsEnd know key pred None present = ((link_of pred.word).slot ≡ None) × (present ≡ false)
IsEnd know key pred (Some cur) present = IsCur know key pred cur present

-- what a look-up came to: an unmarked node with the key, or a place before it behind which it is absent
abbrev pub IsSight : Start → Know → ℕ → Sight → Type 0
IsSight start know key (Present node) = IsHeld know node × ((link_of node.word).mark ≡ false) × KeyAt know node.at key
IsSight start know key (Absent pred) = IsPred start know key pred × StandsBeforeOn know key (link_of pred.word)

-- what is held there, and whether it has the key
abbrev pub sighted : Sight → Held
sighted (Present node) = node
sighted (Absent pred) = pred

-- what was found shows where the key stands, by what the pass knows
pub record Locates (start : Start) (know : Know) (key : ℕ) (found : Found) : Type 0 where
  pub pred : IsPred start know key found.pred
  pub end : IsEnd know key found.pred found.cur found.present
