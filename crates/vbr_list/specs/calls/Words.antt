-- What calls hold and find, with the numbers of its link words in place of the 64 bits that a table keeps.
use Rattle.vbr_words.specs.declared.nodes.Nodes.{Ghosts}
use Rattle.vbr_slots.specs.views.Views.{TableView}
use Rattle.vbr_at_table.specs.reads.Held.{said, said_if, said_marked}
use Rattle.vbr_at_table.specs.declared.held.Held.{Held}
use Rattle.vbr_at_table.specs.declared.held.Marked as M
use Rattle.vbr_list.specs.declared.call.PendingCall.{PendingCall}
use Rattle.vbr_list.specs.declared.found.Found.{Found}
use Rattle.vbr_list.specs.declared.looking.Sight.{Sight}
use Rattle.vbr_list.specs.declared.looking.Sight.TheVariants.{Present, Absent}
use Rattle.vbr_list.specs.declared.visiting.Visited.{Visited}
use Rattle.vbr_list.specs.declared.visiting.Visited.TheVariants.{Beyond, Marked, Smaller}

-- ---- at a table

-- what a traversal found
abbrev pub said_found : TableView → Found → Found
said_found table found = record {
  pred = said table found.pred;
  cur = said_if table found.cur;
  present = found.present;
  used = found.used;
}

-- what a look-up came to
abbrev pub said_sight : TableView → Sight → Sight
said_sight table (Present node) = Present (said table node)
said_sight table (Absent pred) = Absent (said table pred)

-- what a visit met
abbrev pub said_visited : TableView → Visited → Visited
said_visited table (Marked marked) = Marked (said_marked table marked)
said_visited table (Smaller node) = Smaller (said table node)
said_visited table (Beyond node key) = Beyond (said table node) key

-- ---- in a call, at its table

abbrev pub wide_held : {N : Type 0} {kind : Ghosts N} → PendingCall N kind → Held → Held
wide_held c held = said c.at.slots.now held

abbrev pub wide_marked : {N : Type 0} {kind : Ghosts N} → PendingCall N kind → M.Marked → M.Marked
wide_marked c marked = said_marked c.at.slots.now marked

abbrev pub wide_found : {N : Type 0} {kind : Ghosts N} → PendingCall N kind → Found → Found
wide_found c found = said_found c.at.slots.now found

abbrev pub wide_sight : {N : Type 0} {kind : Ghosts N} → PendingCall N kind → Sight → Sight
wide_sight c sight = said_sight c.at.slots.now sight

abbrev pub wide_visited : {N : Type 0} {kind : Ghosts N} → PendingCall N kind → Visited → Visited
wide_visited c met = said_visited c.at.slots.now met
