use Rattle.vbr_handles.proofs.Names.{members_by}
use Rattle.vbr_set.specs.renewals.RenewingAll.{HasNoRoom, HasRoom}
use Rattle.vbr_handles.proofs.AskingAll.{is_of_shape, of_as_many_slots, renewed, stays, still_renewed}
use Rattle.vbr_handles.proofs.renewing_all.renew_all.Goals as goal

pub returns-in-Ok-Renewed-clause-renews : goal.returns-in-Ok-Renewed-clause-renews
returns-in-Ok-Renewed-clause-renews g c =
    let numbers = c.args.numbers in
    let made = c.in-Some.ensures in
    let told = rw c.in-Ok-Renewed.field-0-is at c.in-Ok-Renewed.ensures.asks in (
      ((is_of_shape numbers c.in-Some.shape made.some _ made.is_shape, told.0, told.1.enough), told.1.once),
      still_renewed g.H.HandleOf.member g.N.Kind.kind g.I.Listed.listing _ c.args.numbers c.ask_all.new.handles
          c.begin_anew.new.handles c.begin_anew.ensures.members
          (renewed g.H.HandleOf.member g.N.Kind.kind g.I.Listed.listing _ c.args.numbers c.in-Some.shape
          c.ask_all.new.handles told.1.came g.met.I.Listed.restarts c.in-Some.ensures.some told.1.full told.1.tells),
    )

pub returns-in-Ok-Room-clause-renews : goal.returns-in-Ok-Room-clause-renews
returns-in-Ok-Room-clause-renews g c =
    let numbers = c.args.numbers in
    let made = c.in-Some.ensures in
    let told = rw c.in-Ok-Room.field-0-is at c.in-Ok-Room.ensures.asks in (
      stays g.H.HandleOf.member _ _ told.1.came told.0 told.1.tells.0 told.1.full,
      (
        ((is_of_shape numbers c.in-Some.shape made.some _ made.is_shape, told.0, told.1.enough), told.1.once),
        of_as_many_slots numbers c.in-Some.shape made.some
            (HasNoRoom g.N.Kind.kind (members_by g.H.HandleOf.member c.args.handles.now)) told.1.tells.1,
      ),
    )

pub returns-in-Ok-Memory-clause-renews : goal.returns-in-Ok-Memory-clause-renews
returns-in-Ok-Memory-clause-renews g c =
    let numbers = c.args.numbers in
    let made = c.in-Some.ensures in
    let told = rw c.in-Ok-Memory.field-0-is at c.in-Ok-Memory.ensures.asks in (
      stays g.H.HandleOf.member _ _ told.1.came told.0 told.1.tells.0 told.1.full,
      (
        ((is_of_shape numbers c.in-Some.shape made.some _ made.is_shape, told.0, told.1.enough), told.1.once),
        of_as_many_slots numbers c.in-Some.shape made.some
            (HasRoom g.N.Kind.kind (members_by g.H.HandleOf.member c.args.handles.now)) told.1.tells.1,
      ),
    )
