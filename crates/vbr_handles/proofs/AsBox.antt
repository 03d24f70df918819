-- An owner and its parts own what a box of the same member owns.
use Rattle.atomic_table.proofs.Names.{ℕ, [], dnil, RattleType, plain}
use Rattle.vbr_handles.proofs.WalkNames.{Slot, El, R, ghosts, impl, tnil, Vacant, dict}
use Rattle.std_alloc.proofs.BoxSteps.Form as box
use Rattle.std_heap.specs.contracts.Global as Heap
use Rattle.std_heap.proofs.Global.TheLaws as heap
use Rattle.vbr_handles.specs.contracts.box_parts.Parts as Parts
use Rattle.vbr_handles.specs.contracts.owner.Owner as Owner

-- the parts of a box, and the block that it lies in
abbrev pub PartsOf : box.Bx → RattleType
PartsOf B = Parts.the_row (box.R B) (box.P B) B.al.g

abbrev pub BlockOf : box.Bx → RattleType
BlockOf B = Vacant B.al (box.R B)

-- a box of a member on the heap
abbrev pub E : El → box.Bx
E F = record {
  row = F.row;
  laws = F.laws;
  al = record { row = Heap.the_row; laws = heap.the_row_laws; g = ghosts; d = dict; drops = impl [] tnil dnil };
}

-- its parts, and its owner
abbrev pub PartsRow : El → RattleType
PartsRow F = Parts.the_row (R F) Heap.the_row ghosts

abbrev pub OwnerRow : El → RattleType
OwnerRow F = Owner.the_row (R F)

abbrev pub FromParts : El → Slot 0
FromParts F = plain (λ _. PartsRow F)

abbrev pub FromOwner : {n : ℕ} → El → Slot n
FromOwner F = plain (λ _. OwnerRow F)
