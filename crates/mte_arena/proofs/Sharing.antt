-- A `&` to a region can be made of a borrow of it, had twice and shortened: where a frame is present this is so
-- of its bytes, and where it is absent there is nothing to show. Assumes `Logic`.
use Prim.Native.Nat.{ℕ, ◌+◌}
use Rattle.std.specs.Prelude.{List, [], ◌∷◌, Option, Some, None, refl}
use seplogic.Ra.Ura.{Ura}
use base.Fml.{Lft, Incl, ftrue, ffalse}
use types.Logic.{Logic}
use denote.Builtin.{u8}
use denote.Param.Laws.{Laws, of_field, array_laws}
use denote.Param.Shared.{copy_shared}
use denote.RawPtr.{Ptr, block_ptr, null_ptr}
use denote.Shares.{Shares-less}
use denote.Sharing.{ShrLaws, said}
use denote.SharingLaws.{beside_shr_laws, nothing_shr_laws, said_shr_laws}
use denote.Struct.Laws.{u8-laws, u8-copy}
use denote.Struct.Field.{u8-field}
use denote.Struct.Lending.{Lends, Lends-both, Lends-nothing, Lends-said, Lends-false}
use Rattle.mte_arena.specs.Ownership.{Block, addressable, frame_owned, frames_owned, region_owned, frame_shown, frames_shown, region_shown}

pub byte_laws : Laws u8
byte_laws = of_field u8-field u8-laws refl (copy_shared u8-field u8-copy)

pub block_laws : Laws Block
block_laws = array_laws u8 byte_laws 4224

frame_laws : (b o : ℕ) (c : Option (List ℕ)) → ShrLaws (frame_shown b o c)
frame_laws b o None = nothing_shr_laws
frame_laws b o (Some xs) = block_laws.shr_laws xs b o

frames_laws : (b o : ℕ) (cs : List (Option (List ℕ))) → ShrLaws (frames_shown b o cs)
frames_laws b o [] = nothing_shr_laws
frames_laws b o (c ∷ cs) = beside_shr_laws _ _ (frame_laws b o c) (frames_laws b (o + 4224) cs)

pub region_laws : (p : Ptr) (cs : List (Option (List ℕ))) → ShrLaws (region_shown p cs)
region_laws null_ptr cs = said_shr_laws ffalse tt
region_laws (block_ptr b o) cs = beside_shr_laws _ _ (said_shr_laws (addressable cs) tt) (frames_laws b o cs)

module _ {M : Type 1} {𝓤 : Ura M} (𝓛 : Logic 𝓤) (l : Lft) (static : Incl l Block.lives) where
  frame_lends : (b o : ℕ) (c : Option (List ℕ)) → Lends 𝓛 (frame_owned b o c) (frame_shown b o c) l
  frame_lends b o None = Lends-nothing 𝓛 (frame_owned b o None) l
  frame_lends b o (Some xs) = λ κ ts. Shares-less 𝓛 Block Block.lives l static (block_laws.shares 𝓛) xs κ ts b o

  frames_lend : (b o : ℕ) (cs : List (Option (List ℕ))) → Lends 𝓛 (frames_owned b o cs) (frames_shown b o cs) l
  frames_lend b o [] = Lends-nothing 𝓛 ftrue l
  frames_lend b o (c ∷ cs) = Lends-both 𝓛 (frame_owned b o c) (frames_owned b (o + 4224) cs) (frame_shown b o c) (frames_shown b (o + 4224) cs) l (frame_lends b o c) (frames_lend b (o + 4224) cs)

  pub region_lends : (p : Ptr) (cs : List (Option (List ℕ))) → Lends 𝓛 (region_owned p cs) (region_shown p cs) l
  region_lends null_ptr cs = Lends-false 𝓛 (said ffalse) l
  region_lends (block_ptr b o) cs = Lends-both 𝓛 (addressable cs) (frames_owned b o cs) (said (addressable cs)) (frames_shown b o cs) l (Lends-said 𝓛 (addressable cs) tt l) (frames_lend b o cs)
