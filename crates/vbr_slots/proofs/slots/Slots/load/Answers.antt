use Rattle.std.proofs.Common.{ap, subst, ◌∙◌}
use Rattle.vbr_words.specs.declared.place.Place.{Place}
use Rattle.vbr_words.specs.Places.{index_of}
use Rattle.vbr_slots.specs.views.Views.{TableView}
use Rattle.vbr_slots.specs.words.Words.{IsPlain}
use Rattle.vbr_slots.proofs.slots.Slots.load.Goals as goal

pub load_word-requires-clause-index : goal.load_word-requires-clause-index
load_word-requires-clause-index g c =
    c.place_index_in-word.ensures.index
    ∙ ap (λ (v : TableView). index_of v.start.shape c.args.place) c.self.view_is
    ∙ ap (λ (p : Place). index_of c.args.self.now.start.shape p) c.requires.place

pub load_word-requires-clause-plain : goal.load_word-requires-clause-plain
load_word-requires-clause-plain g c = let P : Place → Type 0 = IsPlain in subst P c.requires.place c.requires.plain
