use Rattle.std.proofs.Common.{◌<◌, length, sym, ap, ◌∙◌, arith}
use Rattle.std.specs.Prelude.{slice_index}
use Rattle.std.proofs.lemmas.List.{length_push}
use Rattle.vbr_words.specs.Packing.{unpacked}
use Rattle.vbr_words.specs.Words.{link_of}
use Rattle.vbr_words.specs.declared.link.Link.{Link}
use Rattle.vbr_machine.specs.Accounts.{incarnations_after}
use Rattle.vbr_slots.specs.runs.Rule.{with_opened}
use Rattle.vbr_set.specs.reports.EntrySlots.{key_with_slot}
use Rattle.vbr_set.proofs.reports.EntrySlots.{as_gathered}
use Rattle.vbr_set.proofs.reports.Gathering.{gathered_linked, gathered_marked, gathered_skip}
use Rattle.vbr_set.proofs.reports.ShownNodes.{key_read}
use Rattle.vbr_set.proofs.entry_slots.gather_keys.Goals as goal
use Rattle.vbr_set.proofs.entry_slots.gather_keys.Goals.{then-not-notes-slot-via-then-not-notes-slot}
use Rattle.vbr_set.proofs.entry_slots.gather_keys.Goals.{then-not-notes-slot-via-else-not-notes-slot+then-decode}

pub loop-slot-preserved-then-not-notes-slot : goal.loop-slot-preserved-then-not-notes-slot
loop-slot-preserved-then-not-notes-slot c =
    let low : c.loop-slot.slot < c.args.shape.now.slots =
    (let l = c.loop-slot-test.true in let e = c.slots-slot-end.ensures.slots in omega arith) in
    let i = c.loop-slot.invariant in record {
      gathered = λ opened run x lists.
          let start = with_opened c.args.shape.now opened in
          let a = incarnations_after start run in
          let before = as_gathered (key_with_slot a) a c.loop-slot.slot (i.gathered opened run x lists) in
          elim c.then-not-notes-slot.branch [
            | then-not-notes-slot-via-then-not-notes-slot w ↦
                (gathered_skip start c.args.notes.now lists low w.if-not-notes-slot.true before).listed_is
            | then-not-notes-slot-via-else-not-notes-slot+then-decode w ↦
                (gathered_marked c.args.notes.now x lists low w.if-not-notes-slot.false
                (sym (ap (λ (l : Link). l.mark)
                (w.decode.ensures.link ∙ (λ i. link_of
                (unpacked (w.layout.ensures.layout i) (slice_index c.args.words.now (c.place_index.ensures.index i))))))
                ∙ w.if-decode.true) before).listed_is
          ];
      few = (let f = i.few in omega arith);
      room = i.room;
    }

pub loop-slot-preserved : goal.loop-slot-preserved
loop-slot-preserved c =
    let words = c.args.words.now in
    let slot = c.loop-slot.slot in
    let low : slot < c.args.shape.now.slots =
    (let l = c.loop-slot-test.true in let e = c.slots-slot-end.ensures.slots in omega arith) in
    let i = c.loop-slot.invariant in
    let mark = sym (ap (λ (l : Link). l.mark)
    (c.decode.ensures.link ∙ (λ i. link_of
    (unpacked (c.layout.ensures.layout i) (slice_index words (c.place_index.ensures.index i)))))) in
    record {
      gathered = λ opened run x lists.
          let start = with_opened c.args.shape.now opened in
          let a = incarnations_after start run in
          let key = ap (slice_index words) c.place_index-in-loop-slot.ensures.index ∙ key_read x slot low in
          c.in-Ok.ensures.items
          ∙ (gathered_linked (slice_index words c.place_index-in-loop-slot.result, slot) c.args.notes.now x lists low
          c.if-not-notes-slot.false (mark ∙ c.if-decode.false) (λ j. (key j, slot))
          (as_gathered (key_with_slot a) a slot (i.gathered opened run x lists))).listed_is;
      few = (let f = i.few in
          let e = ap length c.in-Ok.ensures.items in
          let l = length_push c.loop-slot.keyed.items (slice_index words c.place_index-in-loop-slot.result, slot) in
          omega arith);
      room = (let r = i.room in let e = c.in-Ok.ensures.capacity in omega arith);
    }
