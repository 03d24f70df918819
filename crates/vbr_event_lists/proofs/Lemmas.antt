-- The lemmas of `vbr_event_lists` that proofs of other crates cite, which import from here alone.

-- The worked lists of events, computed: each is accepted, with its effects and with the link words that it names.
pub use Rattle.vbr_event_lists.proofs.WorkedRows.{raised_in_hand, reborn_slot, same_word, two_helpers}
-- The worked lists on nodes that have values, computed.
pub use Rattle.vbr_event_lists.proofs.ValuedRows.{raised_in_hand_with_values, reborn_slot_with_values}
pub use Rattle.vbr_event_lists.proofs.ValuedRows.{same_word_with_values, two_helpers_with_values, standing_with_values}
pub use Rattle.vbr_event_lists.proofs.ValuedRows.{stored_value, replaced_value}
-- The list with a step of each kind, computed, and its beginnings.
pub use Rattle.vbr_event_lists.proofs.StandingRows.{first_worked, standing}
