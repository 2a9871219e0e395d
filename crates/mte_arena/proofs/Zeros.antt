-- A block of zero bytes, as a machine value. Assumes `Logic`.
use denote.Array.{array_val, Array-repeat}
use denote.Builtin.{u8}
use denote.Plain.{uint_Makes, uint_copy}
use lib.Dec.{T}
use mir.Syntax.{ty_array, ty_int, w8}
use mir.Val.{Val, vint, of_list, has_ty, all_n, WT, WTs}
use base.Logic.{ent, emp}
use seplogic.Ra.Ura.{Ura}
use types.Kit.{◌$◌, ◌∵◌, !, qed, by}
use types.Logic.{Logic, sem}
use denote.Steps.{owned}
use Rattle.std.proofs.Common.{ℕ, zero, suc, [], ◌∷◌, replicate, refl, lit<}
use Rattle.mte_arena.specs.Blocks.{zero_block}
use Rattle.mte_arena.specs.Ownership.{Block}

abbrev pub zeros : Val
zeros = array_val (replicate 4224 (vint w8 0))

typed_all : (n : ℕ) → T (all_n (has_ty (ty_int w8)) n (of_list (replicate n (vint w8 0)))) × WTs (of_list (replicate n (vint w8 0)))
typed_all zero = (tt, tt)
typed_all (suc n) = ((typed_all n).0, (record { fits = lit< tt }, (typed_all n).1))

pub zeros_typed : T (has_ty (ty_array (ty_int w8) 4224) zeros) × WT zeros
zeros_typed = typed_all 4224

module _ {M : Type 1} {𝓤 : Ura M} (𝓛 : Logic 𝓤) where
  pub zeros_owned : ent 𝓤 (emp 𝓤) (sem 𝓛 (Block.own_val zero_block (zeros ∷ [])))
  unfolding zero_block
  zeros_owned = qed 𝓛 [] ∵ owned ! u8 _ (uint_Makes 𝓛 w8) 0 (vint w8 0 ∷ []) (refl, lit< tt) $
      by ! (Array-repeat 𝓛 u8 (uint_copy 𝓛 w8) 4224 0 (vint w8 0))
