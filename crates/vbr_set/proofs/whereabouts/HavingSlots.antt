-- A pass has all its slots, and has unlinked in turn, from call to call.
use Rattle.std.proofs.Common.{ℕ, List, [], ◌∷◌, subst, sym, refl, ⊎_elim, rules}
use Rattle.vbr_machine.specs.Start.{Start}
use Rattle.vbr_machine.specs.Acceptance.{IsUnlinked, MayBear}
use Rattle.vbr_machine.specs.Knowledge.{Know}
use Rattle.vbr_machine.specs.Whereabouts.{UnlinksInTurn}
use Rattle.vbr_machine.specs.declared.event.Event.{Event}
use Rattle.vbr_machine.specs.declared.history.Op.{Op}
use Rattle.vbr_slots.specs.Tokens.{SeenView}
use Rattle.vbr_slots.specs.views.Views.{PassView, TableView, new_trace}
use Rattle.vbr_at_table.specs.hands.KeptSlots.{HasSlot, KeepsSlots, UnlinkedInTurn}
use Rattle.vbr_at_table.proofs.Lemmas.{did_none, did_stay_turn, turn_others}
use Rattle.vbr_set.specs.Laws.{PassesHaveAllTheirSlots, PassesUnlinkInTurn}
use Rattle.vbr_set.specs.calls.Members.{MemberView}
use Rattle.vbr_set.specs.calls.MapCalls.{IsCall}
use Rattle.vbr_set.specs.whereabouts.Room.{HasAllSlots}
use Rattle.vbr_set.specs.histories.Tokens.{CatchesUp}
use Rattle.vbr_set.proofs.histories.AnyCall.{call_leaves}

pub all_kept : (p q : PassView) → KeepsSlots p q → HasAllSlots p → HasAllSlots q
all_kept p q kept all =
    record {
      free = λ slot m. kept.free slot (m, λ before. all.free slot before);
      stamped = λ slot u. all.stamped slot (kept.stamped slot u);
    }

-- what a call of a set keeps, or one of a map
call_kept : (op : Op) (m n : MemberView) → IsCall op m n → KeepsSlots m.pass n.pass
call_kept op m n call = ⊎_elim (λ none. none.kept) (λ may. may.kept) (call_leaves op m n call).slots

all_caught : (set : TableView) (p q : PassView) (token : SeenView) → HasAllSlots p → CatchesUp set p token q →
    HasAllSlots q
all_caught set p q token all c =
    record {
      free = λ slot m. has slot (all.free slot (subst (λ (k : Know). MayBear (k.own slot)) c.since.know m));
      stamped = λ slot u. all.stamped slot (subst (λ (k : Know). IsUnlinked (k.own slot)) c.since.know u);
    }
  where
    has : (slot : ℕ) → HasSlot p slot → HasSlot q slot
    has slot h = rw (c.pool.0, c.pool.1) h

pub have_all_slots : PassesHaveAllTheirSlots
have_all_slots = record {
  opened = search rules;
  called = λ op m n all call. all_kept m.pass n.pass (call_kept op m n call) all;
  met = λ p q epoch all did pool. all_kept p q (did_none did refl tt pool).kept all;
  caught = all_caught;
  gave = λ p q shared all g. all_kept p q g.kept all;
  reserved = λ p q steps all takes. all_kept p q takes.kept all;
}

-- ---- in turn

turn_opened : (set : TableView) (who : ℕ) → UnlinkedInTurn (new_trace set who)
turn_opened set who [] later pred expected s e = absurd (cc)
turn_opened set who (x ∷ before) later pred expected s e = absurd (cc)

pub unlink_in_turn : PassesUnlinkInTurn
unlink_in_turn = record {
  opened = turn_opened;
  called = λ op m n all turn call. (call_kept op m n call).turn all.stamped turn;
  met = λ p q epoch turn did. did_stay_turn did refl turn;
  caught = λ set p q token turn c.
      subst (λ (x : Start × List Event × ℕ). UnlinksInTurn x.0 x.1 x.2)
      (λ i. (sym c.since.same.1 i, sym c.since.seen i, sym c.since.same.3 i))
      (turn_others p.trace.start p.trace.seen c.since.rest p.trace.who c.since.none turn);
  gave = λ p q shared all turn g. g.kept.turn all.stamped turn;
  reserved = λ p q steps all turn takes. takes.kept.turn all.stamped turn;
}
