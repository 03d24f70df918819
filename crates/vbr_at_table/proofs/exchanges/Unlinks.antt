-- An unlinking behind a held place of a marked node that the place's link names.
use Rattle.std.proofs.Common.{◌≡◌, ◌<◌, ℕ, false, refl, sym, ◌∙◌, subst}
use Rattle.std.specs.Prelude.{IfSome}
use Rattle.vbr_words.specs.declared.link.TheConstants.{MAX_SLOTS}
use Rattle.vbr_words.specs.Words.{IsLink, link_of, word_of}
use Rattle.vbr_words.specs.Packing.{IsPackable, slot_bits}
use Rattle.vbr_words.specs.declared.link.Link.{Link}
use Rattle.vbr_words.specs.declared.place.At.{At}
use Rattle.vbr_machine.specs.Acceptance.{Accepts, IsNextIn}
use Rattle.vbr_machine.specs.Links.{link_to}
use Rattle.vbr_machine.specs.Learning.{link_written}
use Rattle.vbr_machine.specs.Membership.{BirthNamed, IsUnlinkLink}
use Rattle.vbr_machine.specs.declared.event.Step.TheVariants.{Unlink}
use Rattle.vbr_slots.specs.steps.Calls.{Quiet}
use Rattle.vbr_slots.specs.views.Views.{Trace, PassView, Did, knows}
use Rattle.vbr_slots.proofs.Lemmas.{did_quiet}
use Rattle.vbr_at_table.specs.reads.Held.{IsHeld, HoldsMarked, Names, held_of}
use Rattle.vbr_at_table.specs.reads.Moments.{IsRead}
use Rattle.vbr_slots.specs.steps.PassLaw.{PassLaw}
use Rattle.vbr_at_table.specs.declared.held.Held.{Held}
use Rattle.vbr_at_table.specs.declared.held.Marked.{Marked}
use Rattle.vbr_at_table.proofs.steps.Accepted.{next_in, place_held, unlink_accepted, unlink_writes}
use Rattle.vbr_at_table.proofs.reads.KeptKnowledge.{place_kept, birth_kept}
use Rattle.vbr_at_table.proofs.reads.Moments.{stood_after}
use Rattle.vbr_at_table.proofs.exchanges.UnlinkedLinks.{stood_at_end}
use Rattle.vbr_at_table.proofs.exchanges.WonExchanges.{unlink_keeps, unlink_known}
use Rattle.vbr_at_table.proofs.exchanges.WrittenLinks.{has_room, unlink_link, fits, birth_at_low, birth_named_low}

pub unlink_quiet : {p q : Trace} {pred : At} {expected s r : ℕ} → Did (Unlink pred expected s) p q r → Quiet p q
unlink_quiet d = did_quiet d (λ know. refl)

module _ (p : PassView) (sound : PassLaw p) (pred : Held) (marked : Marked) (link : Link) (birth : ℕ)
    (h : IsHeld (knows p.trace) pred) (m : HoldsMarked (knows p.trace) marked) (is : link ≡ link_of marked.word)
    (k : BirthNamed (knows p.trace) (link_of marked.word).slot birth) where
  writes : IsUnlinkLink (knows p.trace) pred.at marked.slot (link_to link.slot pred.birth birth)
  writes = unlink_link pred marked link birth h m is k

  pub accepted : (link_of pred.word).mark ≡ false → Names pred marked.slot →
      Accepts p.trace.start (knows p.trace) (Unlink pred.at pred.word marked.slot)
  accepted unmarked names =
      unlink_accepted p sound pred marked.slot (link_to link.slot pred.birth birth) h unmarked names writes

  pub written : link_written (knows p.trace) (Unlink pred.at pred.word marked.slot) ≡ link_to link.slot pred.birth birth
  written = unlink_writes p sound pred marked.slot (link_to link.slot pred.birth birth) writes

  pub written_fits : IfSome link.slot (λ (s : ℕ). s < MAX_SLOTS) → IsLink (link_to link.slot pred.birth birth)
  written_fits i =
      fits p sound link.slot pred.birth birth i (birth_at_low p sound pred.at pred.birth h.birth)
      (birth_named_low p sound (link_of marked.word).slot birth k)

  pub written_has_room : IsPackable (slot_bits p.trace.start.shape.slots) (word_of (link_to link.slot pred.birth birth))
  written_has_room =
      has_room p sound link.slot pred.birth birth
      (subst (λ (l : Link). IsNextIn p.trace.start l.slot) (sym is) (next_in p sound (held_of marked) m.held))
      (birth_at_low p sound pred.at pred.birth h.birth)
      (birth_named_low p sound (link_of marked.word).slot birth k)

  -- the place with its new link was read
  pub new_read : {q : Trace} (new : ℕ) → link_of new ≡ link_to link.slot pred.birth birth →
      Did (Unlink pred.at pred.word marked.slot) p.trace q pred.word →
      IsRead p.trace q (record { at = pred.at; birth = pred.birth; word = new; epoch = pred.epoch })
  new_read {q} new n d =
      let keeps = unlink_keeps d in
      record {
        known = record {
          epoch = h.epoch ∙ sym keeps.epoch;
          link = unlink_known d (link_of new) (written ∙ sym n);
          birth = birth_kept pred.at pred.birth keeps h.birth;
        };
        stood = stood_at_end d pred.birth new pred.epoch (written ∙ sym n)
            (place_kept pred.at keeps (place_held p sound pred h)) (keeps.epoch ∙ sym h.epoch);
      }

-- an unlinking that came after what is quiet
pub read_after : {p q r : Trace} {held : Held} → Quiet p q → IsRead q r held → IsRead p r held
read_after a x = record { known = x.known; stood = stood_after a.same a.seen x.stood }
