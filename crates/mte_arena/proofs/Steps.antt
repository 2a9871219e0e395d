-- The names that the proofs by hand share.
pub use native.Mathlib.Omega.{arith}
pub use base.Fraction.{full_share}
pub use base.Fml.{Lft, GName, Share, ftrue, fsep, fat, flft, fobs, fbor}
pub use base.Logic.{SProp, ent, sep, never, id⊢}
pub use contract.Monad.{fact}
pub use contract.Running.{tables}
pub use denote.Array.{Array}
pub use denote.Builtin.{u8, usize, unit}
pub use denote.Exit.{yes, no}
pub use denote.Follow.{follows}
pub use denote.FollowSlice.{Elements, lends_Elements}
pub use denote.Memory.{mem, cell_at, hidden_shr, lone, shared_of}
pub use denote.Opens.{hide, unhide}
pub use denote.Param.{layout}
pub use denote.Plain.{uint_vals, uint_Tells}
pub use denote.RattleType.{RattleType, owns}
pub use denote.RawPtr.{Ptr, block_ptr, ptr_val, in_a_block}
pub use denote.Ref.{Bor, MutBor, MutRef, ShrRef, mut_vals, mut_Tells, shr_vals, shr_Tells}
pub use denote.Signature.{plain}
pub use denote.Slice.{MutSlice, ShrSlice, slice_val, elements_shared}
pub use denote.Steps.{nothing, owned, opens, closes, heard}
pub use denote.Triple.Walked.{says, Stays, stay_dropped, stay_none_ref, stay_ref, walk_of, ends_at, Goes-dropped, Goes-none_ref, Goes-ref, Goes-spent_ref}
pub use mir.Syntax.{named, w64}
pub use mir.Val.{Val, vptr, vint, vunit, vstruct, vcons, vnil, Fits}
pub use types.ByLocal.{alloc_all, pass_all, free_all, look_at, get, get_in, through, sets, sets_last, take_at, give_at, env}
pub use types.Kit.{Item, ⋆, ‵, raw, ◌⊛◌, some, given, later, at_ret, ◌$◌, ◌∵◌, !, qed, by, move, keep, drop as skip, use0, use1, use2, use3, split, split3, join, group, rewrite, fsplit, fsplit3, fjoin, fjoin3, fpick, fpack, feq_l, feq_i, flt_l, flt_i, pick, learn, await, suffices, frame, done}
pub use types.Logic.{sem}
pub use types.Part.{whole, sub, agg, rep}
pub use types.Run.{enter, of_opd, lit, unit_lit, bin, stop, fld, and_then, no_more, first, blocks, exec, returns, assigns_last, init}
pub use types.SemTy.{cells, Body as Borrowed}
pub use Rattle.std.proofs.raw_atomic.Walks.{proved}
pub use Rattle.std.proofs.Common.{◌≡◌, ℕ, ◌+◌, ◌*◌, ◌^◌, ◌<◌, ◌≤◌, List, [], ◌∷◌, ◌++◌, length, take, drop, get_or, slice_set, replicate, Option, Some, None, refl, sym, ap, ◌∙◌, subst, lit<}
pub use Rattle.std_alloc.proofs.RcSteps.{word, word-Good}
