-- What a word says that a table keeps, by how many bits its slot has.
use Rattle.std.proofs.Common.{ℕ, ◌≡◌, sym, ap, ◌∙◌, Option, subst}
use denote.Bor.{Bor}
use Rattle.vbr_words.specs.declared.nodes.Nodes.{Ghosts}
use Rattle.vbr_words.specs.Packing.{slot_bits, unpacked}
use Rattle.vbr_words.specs.Words.{link_of}
use Rattle.vbr_words.specs.declared.link.Link.{Link}
use Rattle.vbr_machine.specs.Links.{marked}
use Rattle.vbr_slots.specs.declared.at_table.AtTable.{AtTable}
use Rattle.vbr_slots.specs.steps.AtTables.{IsSameTable}
use Rattle.vbr_slots.specs.views.Views.{TableView}

-- the slot that a decoded word names
pub said_names : (layout bits word : ℕ) (link : Link) (named : Option ℕ) → layout ≡ bits → link ≡ link_of
    (unpacked layout word) →
    link.slot ≡ named → (link_of (unpacked bits word)).slot ≡ named
said_names layout bits word link named same decoded is =
    ap (λ (b : ℕ). (link_of (unpacked b word)).slot) (sym same) ∙ ap (λ (l : Link). l.slot) (sym decoded) ∙ is

-- the link of a marked word
pub said_marks : (layout bits word result : ℕ) → layout ≡ bits →
    link_of (unpacked layout result) ≡ marked (link_of (unpacked layout word)) →
    link_of (unpacked bits result) ≡ marked (link_of (unpacked bits word))
said_marks layout bits word result same marks =
    let P : ℕ → Type 0 = λ b. link_of (unpacked b result) ≡ marked (link_of (unpacked b word)) in
    subst P same marks

-- the link of a decoded word
pub said_link : (layout bits word : ℕ) (link : Link) → layout ≡ bits → link ≡ link_of (unpacked layout word) →
    link ≡ link_of (unpacked bits word)
said_link layout bits word link same decoded = decoded ∙ ap (λ (b : ℕ). link_of (unpacked b word)) same

-- the layout of a table is that of the table at which the pass went on
pub layout_on : {N : Type 0} {kind : Ghosts N} {c d : AtTable N kind} {layout : ℕ} →
    layout ≡ slot_bits c.slots.now.start.shape.slots → IsSameTable c d →
    layout ≡ slot_bits d.slots.now.start.shape.slots
layout_on is table = is ∙ ap (λ (s : Bor TableView). slot_bits s.now.start.shape.slots) (sym table.slots)
