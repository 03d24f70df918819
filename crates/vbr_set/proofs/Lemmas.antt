-- The lemmas of `vbr_set` that proofs of other crates cite, which import from here alone.

-- One balance more is added to those of other members.
pub use Rattle.vbr_set.proofs.sums.AddedBalances.{one_added}
