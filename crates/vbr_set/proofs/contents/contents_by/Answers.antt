use Rattle.std.proofs.Common.{ap, ◌∙◌, arith}
use Rattle.std.specs.Prelude.{slice_index}
use Rattle.vbr_words.specs.declared.place.Place.TheVariants as place
use Rattle.vbr_set.proofs.contents.contents_by.Goals as goal

pub returns : goal.returns
returns g c = λ opened run x lists.
    let told = c.gather-live.ensures.gathered opened run x lists in
    record {
      listed = told.0;
      epoch = ap (slice_index c.args.words.now) c.place_index.ensures.index ∙ x.are.each place.Epoch tt;
      live = told.1;
      one_each = c.gather-live.ensures.each;
      marked = told.2;
      free = (let fit = c.gather-live.ensures.fit in let slots = c.slots.ensures.slots in omega arith);
    }
