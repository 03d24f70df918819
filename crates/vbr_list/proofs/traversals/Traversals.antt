-- How far the loop of a traversal has come: what its pass did since it began, and where it stands.
use Rattle.vbr_list.proofs.Names.{ℕ, ◌<◌, ◌≡◌, ◌≤◌, false, bucket_of, HasComeTo, Held, HeldIn, IsFresh, IsHeld, Know}
use Rattle.vbr_list.proofs.Names.{knows, LeadsTo, link_of, PassView, Peeks, StandsBehind, Start, Stood, Trace, Tries}
use Rattle.vbr_list.proofs.traversals.Visits.{GoesAlong}

-- a place before a number: it is held in the bucket, its link is unmarked, and each key of the bucket from the number
-- on stands behind it
pub record IsPlaceBefore (start : Start) (know : Know) (bucket from : ℕ) (place : Held) : Type 0 where
  pub held : IsHeld know place
  pub inside : HeldIn know place.at bucket
  pub unmarked : (link_of place.word).mark ≡ false
  pub behind : (key : ℕ) → bucket_of start.shape key ≡ bucket → from ≤ key → StandsBehind start know place.at key

-- a place in the list of a bucket is held
pub record IsPlaceIn (know : Know) (bucket : ℕ) (place : Held) : Type 0 where
  pub held : IsHeld know place
  pub inside : HeldIn know place.at bucket

-- so it is of a place before a number of a bucket
pub record StoodBefore (p q : Trace) (bucket from : ℕ) (place : Held) : Type 0 where
  pub is : IsPlaceBefore q.start (knows q) bucket from place
  pub stood : Stood p q place

-- a traversal of a bucket that began with so many steps stands at this place before a key
pub record Traverses (p q : PassView) (bucket key before since budget : ℕ) (pred : Held) : Type 0 where
  pub tries : Tries p q before since budget
  pub some : before < since
  pub reached : HasComeTo p.trace q.trace key pred
  pub traverses : GoesAlong 9 p.trace q.trace bucket before since pred pred

-- a traversal of loads alone that began with so many steps stands at this place, and known marked links lead to it from
-- a place before the number, which stood so at a moment
pub record Follows (p q : PassView) (bucket from before since budget : ℕ) (pred here : Held) : Type 0 where
  pub peeks : Peeks p q before since budget
  pub some : before < since
  pub come : StoodBefore p.trace q.trace bucket from pred
  pub inside : IsPlaceIn (knows q.trace) bucket here
  pub leads : LeadsTo (knows q.trace) (link_of pred.word) (link_of here.word)
  pub fresh : IsFresh q.trace
  pub traverses : GoesAlong 5 p.trace q.trace bucket before since pred here
