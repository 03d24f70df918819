-- What calls hold and find, with wide words: what stays so.
use Rattle.vbr_list.proofs.Names.{◌≡◌, ap, refl, Bor, None, Option, option_copied, Some, ◌∙◌, ℕ, AtTable, Entry}
use Rattle.vbr_list.proofs.Names.{Found, Ghosts, Held, IsNodeOf, IsSameTable, PendingCall, said, said_if, said_succ}
use Rattle.vbr_list.proofs.Names.{slot_bits, TableView, wide_found, wide_held}

-- what is there is there with wide words
pub wide_is : {N : Type 0} {kind : Ghosts N} (c : PendingCall N kind) {found : Option Held} {held : Held} →
    found ≡ Some held → said_if c.at.slots.now found ≡ Some (wide_held c held)
wide_is c is = ap (said_if c.at.slots.now) is

-- so it is of what is lent
pub wide_lent : {N : Type 0} {kind : Ghosts N} (c : PendingCall N kind) (lent : Option (Bor Held)) {cur : Option Held} →
    option_copied lent ≡ cur → option_copied (said_succ c.at.slots.now lent) ≡ said_if c.at.slots.now cur
wide_lent c None same = ap (said_if c.at.slots.now) same
wide_lent c (Some node) same = ap (said_if c.at.slots.now) same

-- what was found is the node of an entry, whatever its words
pub node_wide : {N : Type 0} {kind : Ghosts N} (c : PendingCall N kind) {found : Found} {entry : Entry} →
    IsNodeOf found entry → IsNodeOf (wide_found c found) entry
node_wide c x = record {
  present = x.present;
  node = wide_held c x.node;
  cur = wide_is c x.cur;
  place = x.place;
  birth = x.birth;
}

-- what is there with wide words is there, at the same place and with the same birth
bare_is : (table : TableView) (cur : Option Held) (node : Held) → said_if table cur ≡ Some node →
    (held : Held) × (cur ≡ Some held) × (held.at ≡ node.at) × (held.birth ≡ node.birth)
bare_is table None node is = absurd (cc)
bare_is table (Some held) node is =
    let same : said table held ≡ node = cc in
    (held, refl, ap (λ (h : Held). h.at) same, ap (λ (h : Held). h.birth) same)

pub node_bare : {N : Type 0} {kind : Ghosts N} (c : PendingCall N kind) (found : Found) {entry : Entry} →
    IsNodeOf (wide_found c found) entry → IsNodeOf found entry
node_bare c found x =
    let bare = bare_is c.at.slots.now found.cur x.node x.cur in
    record {
      present = x.present;
      node = bare.0;
      cur = bare.1;
      place = bare.2 ∙ x.place;
      birth = bare.3 ∙ x.birth;
    }

-- the layout of a table at which a pass went on is that of the table before
pub layout_at : {N : Type 0} {kind : Ghosts N} {c d : AtTable N kind} {layout : ℕ} →
    layout ≡ slot_bits d.slots.now.start.shape.slots → IsSameTable c d → layout ≡ slot_bits
    c.slots.now.start.shape.slots
layout_at is table = is ∙ ap (λ (s : Bor TableView). slot_bits s.now.start.shape.slots) table.slots
