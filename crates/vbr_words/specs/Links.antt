-- The links that a table of a shape may hold.
use Rattle.std.specs.Prelude.{◌<◌, ◌≤◌, IfSome}
use Rattle.vbr_words.specs.Dimensions.{Dimensions}
use Rattle.vbr_words.specs.declared.link.Link.{Link}

-- the link names a slot of the shape or none, and its version is an epoch of it or 0
pub record IsLinkOf (shape : Dimensions) (link : Link) : Type 0 where
  pub slot : IfSome link.slot (λ slot. slot < shape.slots)
  pub version : link.version ≤ shape.last_epoch
