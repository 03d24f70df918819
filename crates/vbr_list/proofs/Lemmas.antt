-- The lemmas of `vbr_list` that proofs of other crates cite, which import from here alone.

-- Pieces one after another: they make no call, their steps add up, and the slot in hand stays.
pub use Rattle.vbr_list.proofs.pieces.Going.{of_on}
-- An iteration: what it has given before its first call, with one more call, and at the end.
pub use Rattle.vbr_list.proofs.iterations.Cursors.{entry_more, entry_since, given_all, given_none, given_on, sees_on}
-- What disturbs a pass, and the budgets that suffice all the same.
pub use Rattle.vbr_list.proofs.traversals.Disturbing.{disturbed_most, disturbed_most_in, enough_among_more}
pub use Rattle.vbr_list.proofs.traversals.Disturbing.{enough_to_insert_more}
pub use Rattle.vbr_list.proofs.traversals.Disturbing.{enough_to_search_more, enough_to_store_more, undisturbed_in}
pub use Rattle.vbr_list.proofs.inserts.Sufficing.{lacks_more}
pub use Rattle.vbr_list.proofs.iterations.ComingBy.{enough_to_come_more}
pub use Rattle.vbr_list.proofs.look_ups.ValueReads.{few_to_value}
-- The nodes of a list now, and before: what was enough to seek there later was enough before.
pub use Rattle.vbr_list.proofs.iterations.ListedLater.{enough_later, listed_later}
-- What a pass that is its table's only one adds to its calls.
pub use Rattle.vbr_list.proofs.pieces.LonePasses.{alone_all}
-- The insert of an entry, at a table that keeps values, and at one that keeps none.
pub use Rattle.vbr_list.proofs.pieces.Told.{stored_bare, stored_kept}
