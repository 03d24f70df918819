-- The words of the links that stand anywhere have room.
use Rattle.std.proofs.Common.{ℕ, sym, subst}
use Rattle.vbr_words.specs.Packing.{IsPackable, slot_bits}
use Rattle.vbr_words.specs.Words.{word_of}
use Rattle.vbr_words.proofs.Lemmas.{shape_has_room}
use Rattle.vbr_words.specs.declared.link.Link.{Link}
use Rattle.vbr_words.specs.declared.place.At.{At}
use Rattle.vbr_machine.specs.Start.{Start}
use Rattle.vbr_machine.specs.Machine.{World, link_at}
use Rattle.vbr_machine.specs.Incarnations.{Incarnations}
use Rattle.vbr_machine.specs.Notes.{Notes}
use Rattle.vbr_machine.specs.Agreement.{Agrees}
use Rattle.vbr_machine.proofs.chronicles.Shown.{image_fits, stands}

-- the word of a link that stands anywhere has room
pub standing_room : (start : Start) (w : World) (a : Incarnations) (notes : ℕ → Notes) → Agrees start w a notes →
    (place : At) → IsPackable (slot_bits start.shape.slots) (word_of (link_at w place))
standing_room start w a notes g place =
    subst (λ (link : Link). IsPackable (slot_bits start.shape.slots) (word_of link)) (sym (stands w a place g.image))
    (shape_has_room start.shape g.fits.is_start.shape _ (image_fits g.sound g.fits place))
