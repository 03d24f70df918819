-- What an `Owner` owns: nothing at null, otherwise the same as a `Box` of its member.
use mathlib.Core.Path.{◌≡◌}
use base.Fml.{Fml, ftrue, fex}
use denote.RattleType.{RattleType}
use denote.RawPtr.{Ptr, null_ptr}
use Rattle.std.specs.Box.Ownership.{box_owns}
use Rattle.std.specs.Global.{Global}
use Rattle.std.specs.declared.option.Option.{Option}
use Rattle.std.specs.declared.option.Option.TheVariants.{None, Some}
use Rattle.std_heap.specs.contracts.GlobalAllocator.TheImpl.{ghosts}

-- what it owns, by how a member lies in memory, by its pointer and its member
abbrev pub owner_owns : (R : RattleType) → Global → Ptr → Option R.Denot → Fml
owner_owns R alloc p None = fex (p ≡ null_ptr) (λ _. ftrue)
owner_owns R alloc p (Some x) = box_owns (ghosts.dealloc_token alloc) R p x
