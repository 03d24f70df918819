-- Beside the proofs of the worked lists of events, call by call on a running table.
mod Following
