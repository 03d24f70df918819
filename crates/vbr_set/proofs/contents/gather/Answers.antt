use Rattle.std.proofs.Common.{◌≡◌, ℕ, ◌+◌, ◌<◌, length, sym, ap, ◌∙◌, subst, arith}
use Rattle.std.specs.Prelude.{slice_index}
use Rattle.std.specs.Vec.{vec_capacity}
use Rattle.std.proofs.lemmas.List.{length_push}
use Rattle.vbr_words.specs.Packing.{unpacked}
use Rattle.vbr_words.specs.Words.{link_of}
use Rattle.vbr_words.specs.declared.link.Link.{Link}
use Rattle.vbr_machine.specs.Accounts.{incarnations_after}
use Rattle.vbr_slots.specs.runs.Rule.{with_opened}
use Rattle.vbr_set.proofs.reports.Gathering.{Gathered, gathered_as, gathered_linked, gathered_marked, gathered_skip}
use Rattle.vbr_set.proofs.contents.gather.Goals as goal
use Rattle.vbr_set.proofs.contents.gather.Goals.{then-decode, else-decode+in-Ok}

pub loop-slot-preserved-then-not-notes-slot : goal.loop-slot-preserved-then-not-notes-slot
loop-slot-preserved-then-not-notes-slot g c =
    let low : c.loop-slot.slot < c.args.shape.now.slots =
    (let l = c.loop-slot-test.true in let e = c.slots-slot-end.ensures.slots in omega arith) in
    let i = c.loop-slot.invariant in record {
      gathered = λ opened run x lists.
          gathered_skip (with_opened c.args.shape.now opened) c.args.notes.now lists low c.if-not-notes-slot.true
          (i.gathered opened run x lists);
      few = (let f = i.few in omega arith);
      collected = i.collected;
      room = i.room;
    }

pub loop-slot-preserved : goal.loop-slot-preserved
loop-slot-preserved g c =
    let words = c.args.words.now in
    let low : c.loop-slot.slot < c.args.shape.now.slots =
    (let l = c.loop-slot-test.true in let e = c.slots-slot-end.ensures.slots in omega arith) in
    let i = c.loop-slot.invariant in
    let link = c.decode.ensures.link ∙ (λ i. link_of
    (unpacked (c.layout.ensures.layout i) (slice_index words (c.place_index.ensures.index i)))) in
    let mark = sym (ap (λ (l : Link). l.mark) link) in
    elim c.if-decode.branch [
      | then-decode w ↦ record {
        gathered = λ opened run x lists.
            gathered_as (ap (λ v. v.items) w.listed-is) w.live-is w.marked-is
            (gathered_marked c.args.notes.now x lists low c.if-not-notes-slot.false (mark ∙ w.if-decode.true)
            (i.gathered opened run x lists));
        few = (let f = i.few in let l = w.live-is in let m = w.marked-is in omega arith);
        collected = ap (λ v. length v.items) w.listed-is ∙ i.collected ∙ sym w.live-is;
        room = (let e = ap vec_capacity w.listed-is in let r = i.room in omega arith);
      }
      | else-decode+in-Ok w ↦ record {
        gathered = λ opened run x lists.
            gathered_as (ap (λ v. v.items) w.listed-is ∙ w.in-Ok.ensures.items) w.live-is w.marked-is
            (gathered_linked w.read.result c.args.notes.now x lists low c.if-not-notes-slot.false
            (mark ∙ w.if-decode.false) (w.read.ensures opened run x) (i.gathered opened run x lists));
        few = (let f = i.few in let l = w.live-is in let m = w.marked-is in omega arith);
        collected = ap (λ v. length v.items) w.listed-is ∙ ap length w.in-Ok.ensures.items
            ∙ length_push c.loop-slot.listed.items _ ∙ ap (λ n. n + 1) i.collected ∙ sym w.live-is;
        room = (let e = ap vec_capacity w.listed-is in
            let more = w.in-Ok.ensures.capacity in
            let r = i.room in
            omega arith);
      }
    ]

pub returns-clause-gathered : goal.returns-clause-gathered
returns-clause-gathered g c = λ opened run x lists.
    let low = c.loop-slot-test.false in
    let high = c.loop-slot.auto.slot-end in
    let end = c.slots-slot-end.ensures.slots in
    let all : c.loop-slot.slot ≡ c.args.shape.now.slots = omega (arith, low, high, end) in
    let told = subst
    (λ (s : ℕ). Gathered (g.N.Kind.shown (incarnations_after (with_opened c.args.shape.now opened) run))
    (incarnations_after (with_opened c.args.shape.now opened) run) s c.loop-slot.listed.items c.loop-slot.live
    c.loop-slot.marked) all (c.loop-slot.invariant.gathered opened run x lists) in
    (told.listed_is, told.live_is, told.marked_is)
