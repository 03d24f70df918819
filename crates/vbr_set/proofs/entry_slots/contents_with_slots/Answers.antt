use Rattle.std.proofs.Common.{◌≡◌, Bool, List, length, sym, ◌∙◌, subst, arith}
use Rattle.vbr_machine.specs.Accounts.{incarnations_after}
use Rattle.vbr_slots.proofs.Lemmas.{whole}
use Rattle.vbr_slots.specs.runs.Rule.{with_opened}
use Rattle.vbr_set.specs.reports.Walking.{NotesLists}
use Rattle.vbr_set.proofs.entry_slots.contents_with_slots.Goals as goal

pub returns : goal.returns
returns g c = λ opened run x.
    let start = with_opened c.args.shape.now opened in
    let a = incarnations_after start run in
    let long : c.args.notes.len ≡ length c.note_lists.new.notes =
    (let l = c.args.notes.ok in let k = c.note_lists.auto.notes in let m = c.deref_mut.ensures.len in omega arith) in
    let is = whole c.args.notes.len c.note_lists.new.notes _ long in
    let lists = c.note_lists.ensures opened run x in (
      c.contents_by.ensures opened run x
          (subst (λ (l : List Bool). NotesLists start a l) (sym (c.deref-2.ensures.value ∙ is)) lists),
      c.slots_of-slots.ensures opened run x
          (subst (λ (l : List Bool). NotesLists start a l) (sym (c.deref.ensures.value ∙ is)) lists),
    )
