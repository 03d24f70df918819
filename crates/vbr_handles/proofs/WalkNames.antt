-- The names of the logic that several walks by hand use, beside those that `atomic_table` has in one place.
pub use lib.Dec.{T}
pub use mir.Raw.{raw as bare}
pub use mir.Syntax.{impl, tnil, Callee, seq, assign, place, rv_opd, copy, return, Lifetime, erased, mut, ty_ref, ty_ptr}
pub use mir.Syntax.{local, value_local, block, addr_of, deref, Body, Args}
pub use mir.Val.{vnull, has_ty, vbool}
pub use base.Fml.{GName, fex, froom, fat}
pub use base.Logic.{never, guard, ex}
pub use prog.Memory.{Memory}
pub use prog.Routine.{Routine}
pub use prog.Wp.{Calls, Closed, Loops, Tables}
pub use sound.WpLaws.{fm_of}
pub use contract.Monad.{Fun}
pub use types.Kit.{Item, Goal, Seq, frame, updating, now, show}
pub use denote.Follow.{Part, lends_Part}
pub use denote.Memory.{lone, cell_raw, pointee, raw_all}
pub use denote.Param.{layout}
pub use denote.Param.Send.{IsSend, AllSend, owning_send, struct_send, sendable}
pub use denote.RawPtr.{null_ptr, in_a_block, lies_at, Testable, tests_null}
pub use denote.Ref.{MutRef}
pub use denote.Signature.{Slot, Signature, mut_ref_to}
pub use denote.Struct.Owning.{shape, fields, to}
pub use denote.Struct.Struct.{exits_of, within}
pub use denote.Triple.Carry.{spared, grown}
pub use denote.Triple.Clauses.{Ended}
pub use denote.Triple.Statement.{Triple, Contract}
pub use denote.Triple.Table.{run_framed}
pub use denote.Triple.Walked.{AllGo, says}
pub use Rattle.core.proofs.alloc.Calls.{handle_tells, Fits, token, Goes-blank}
pub use Rattle.core.proofs.alloc.Shapes.{after}
pub use Rattle.core.proofs.atomic.Steps.{Ptr-Good}
pub use Rattle.core.proofs.mem.Param.{El, R, el_x, args}
pub use Rattle.std.proofs.lemmas.Bool.{false≢true}
pub use Rattle.std.specs.Prelude.{IsSome, IfSome}
pub use Rattle.std.specs.declared.option.Option.{Option}
pub use Rattle.std.specs.declared.option.Option.TheVariants.{None, Some}
pub use Rattle.std_alloc.proofs.BoxSteps.Form.{word, Bx, D, P, B, box_typed, box_ty, τ, own, Good, handle, X}
pub use Rattle.std_alloc.proofs.BoxSteps.Steps.{box_out, box_in, el_out, el_in, el_tells}
pub use Rattle.std_alloc.proofs.OfVacant.{Vacant, vacant_val, vacant_typed, vacant_ty, Vacant-made, Vacant-had}
pub use Rattle.std_alloc.proofs.ResultValues.{and_tt}
pub use Rattle.std_alloc.proofs.SendSync.{lies, quiet}
pub use Rattle.std_alloc.specs.Box.Ownership.{box_owns}
pub use Rattle.std_heap.specs.contracts.GlobalAllocator.TheImpl.{ghosts, dict}
pub use Rattle.atomic_table.proofs.Walks.{proved_at, proved, leaves}
