use Rattle.vbr_list.proofs.Names.{arith, inl, inr, no_room}
use Rattle.vbr_list.proofs.pieces.Going.{by_either, call_refl, goes_refl}
use Rattle.vbr_list.proofs.call.PendingCall.unlink_replaced.Goals as goal

pub returns-then-affords-clause-paid : goal.returns-then-affords-clause-paid
returns-then-affords-clause-paid g c =
    by_either c.unlink_marked.ensures.paid (λ soon. inl (record { few = soon.few; leaves = λ room. soon.leaves }))
    (λ on. inr on)

pub returns-else-affords : goal.returns-else-affords
returns-else-affords g c =
    record {
      goes = record {
        call = call_refl c.args.self.now;
        goes = goes_refl c.args.self.now.at.stepper.now c.args.self.now.used;
        more = omega arith;
      };
      leaves = λ room.
          (let short =
          no_room c.args.self.now.used c.args.self.now.budget c.affords.result c.if-affords.false
          c.affords.ensures.1 in absurd (omega (arith, short, room)));
      paid = inl (record {
        few = omega arith;
        leaves = λ room.
            (let short =
            no_room c.args.self.now.used c.args.self.now.budget c.affords.result c.if-affords.false
            c.affords.ensures.1 in absurd (omega (arith, short, room)));
      });
    }
