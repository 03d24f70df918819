use Rattle.vbr_list.proofs.Names.{ap, ◌∙◌, inl, Start, wide_found, wide_held}
use Rattle.vbr_list.proofs.traversals.Disturbing.{moves_epoch, moves_on}
use Rattle.vbr_list.proofs.look_ups.FoundValues.{located_on, value_found}
use Rattle.vbr_list.proofs.pieces.WideWords.{wide_is}
use Rattle.vbr_list.proofs.call.PendingCall.read_found.Goals as goal

pub returns-in-Ok-clause-found : goal.returns-in-Ok-clause-found
returns-in-Ok-clause-found g c =
    let keeps = c.in-Ok.ensures.value.keeps in
    let same = c.value_of-read.ensures.reads.quiet.same in
    record {
      keeps = keeps;
      known = record {
        values = ap (λ (d : Start). d.shape.values) same.start ∙ c.requires.values;
        locates = located_on c.args.self.now.key (wide_found c.args.self.now c.args.found.now) same keeps
            c.requires.locates;
        is = value_found (wide_found c.args.self.now c.args.found.now)
            (wide_held c.args.self.now c.in-Some.cur) c.if-not-found.false (wide_is c.args.self.now c.in-Some.is)
            c.in-Ok.ensures.value.value;
      };
    }

pub returns-in-Err-clause-lost : goal.returns-in-Err-clause-lost
returns-in-Err-clause-lost g c =
    let quiet = c.value_of-read.ensures.reads.quiet in
    record {
      present = c.if-not-found.false;
      loses = inl (inl (moves_on _ _ quiet.same quiet.seen (moves_epoch _ c.in-Err.ensures.moved)));
    }
