use Rattle.std.proofs.Common.{ap, ◌∙◌}
use Rattle.vbr_words.specs.Places as places
use Rattle.vbr_slots.specs.views.Views.{TableView}
use Rattle.vbr_slots.proofs.words.LinkIndices.{link_is}
use Rattle.vbr_slots.proofs.slots.Slots.load_at.Goals as goal

pub load_link_at-requires-clause-index : goal.load_link_at-requires-clause-index
load_link_at-requires-clause-index g c =
    c.link_index_in-word.ensures ∙ link_is c.self.inside.opening.shape c.args.holder
    ∙ ap (λ (v : TableView). places.index_of v.start.shape (places.place_of c.args.holder)) c.self.view_is
