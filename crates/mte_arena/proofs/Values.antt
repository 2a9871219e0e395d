-- The machine values of an arena's parts, which own what they say and nothing else. Assumes `Logic`.
--     start_made, mark_made     a pointer's struct, and a struct of no bytes
--     three_made                a tuple of three
--     frames_size, frames_align     the layout of n frames
use base.Logic.{ent, emp, sep}
use denote.Memory.{lone}
use denote.RattleType.{RattleType, Valss}
use denote.RawPtr.{Ptr, ptr_val, rawptr_pure}
use denote.Shadow.{makes_shadow}
use denote.Steps.{nothing}
use denote.Struct.Declared as Declared
use denote.Struct.Owning.{shape}
use denote.Struct.Struct.{Struct, within}
use denote.Struct.Tuple.{Tuple, tuple_type}
use mir.Raw.{raw as bare}
use mir.Syntax.{Ty, ty_array}
use mir.Val.{Val, vstruct, vcons, vnil}
use prog.Capped.{capped_is}
use prog.Memory.{size, align, capped}
use prog.RawLaws.{size-raw, align-raw}
use seplogic.Ra.Ura.{Ura}
use types.Kit.{‵, ◌$◌, ◌∵◌, !, qed, move, fjoin, feq_i, fpack, done}
use types.Logic.{Logic, sem}
use Rattle.std.proofs.Common.{◌≡◌, ℕ, ◌*◌, ◌<◌, ◌^◌, List, [], ◌∷◌, refl, ap, ◌∙◌, lit<}
use Rattle.mte_arena.specs.Ownership.{Block}
use Rattle.mte_arena.specs.contracts.region.Region as region
use Rattle.mte_arena.specs.contracts.region.RegionStart as start

abbrev pub mark : Val
mark = vstruct (vcons (vstruct vnil) vnil)

abbrev pub start_val : Ptr → Val
start_val p = vstruct (vcons (ptr_val p) vnil)

-- what the allocator knows of n frames
abbrev pub frames_ty : ℕ → Ty
frames_ty n = bare (ty_array (lone Block.mir) n)

pub frames_size : (n : ℕ) → n * 4224 < 2 ^ 64 → capped (size (frames_ty n)) ≡ n * 4224
frames_size n fits = ap capped (size-raw (ty_array (lone Block.mir) n)) ∙ capped_is (n * 4224) fits

pub frames_align : (n : ℕ) → capped (align (frames_ty n)) ≡ 1
frames_align n = ap capped (align-raw (ty_array (lone Block.mir) n)) ∙ capped_is 1 (lit< tt)

module _ {M : Type 1} {𝓤 : Ura M} (𝓛 : Logic 𝓤) where
  pub start_made : (p : Ptr) → ent 𝓤 (emp 𝓤) (sem 𝓛 (start.the_row.own_val (record { pointer = p }) (start_val p ∷ [])))
  start_made p = makes_shadow 𝓛 (start.the_row.own_val (record { pointer = p }) (start_val p ∷ [])) (λ vss. (tt, (rawptr_pure p vss.0, tt))) ((ptr_val p ∷ [], tt), (refl, (refl, tt)))

  pub mark_made : ent 𝓤 (emp 𝓤) (sem 𝓛 ((Struct (shape region.the_type)).own_val (tt, tt) (mark ∷ [])))
  mark_made = makes_shadow 𝓛 ((Struct (shape region.the_type)).own_val (tt, tt) (mark ∷ [])) (λ vss. (tt, ((λ uss. (tt, tt)), tt))) ((vstruct vnil ∷ [], tt), (refl, ((tt, (refl, tt)), tt)))

  pub three_made : (R S T : RattleType) (x : R.Denot) (y : S.Denot) (z : T.Denot) (u v w : Val)
      → ent 𝓤 (sep 𝓤 (sem 𝓛 (R.own_val x (u ∷ []))) (sep 𝓤 (sem 𝓛 (S.own_val y (v ∷ []))) (sem 𝓛 (T.own_val z (w ∷ [])))))
      (sem 𝓛 ((Tuple (R ∷ S ∷ T ∷ [])).own_val (x, y, z) (vstruct (vcons u (vcons v (vcons w vnil))) ∷ [])))
  three_made R S T x y z u v w =
      let made = vstruct (vcons u (vcons v (vcons w vnil))) in
      qed 𝓛 (‵ (R.own_val x (u ∷ [])) ∷ ‵ (S.own_val y (v ∷ [])) ∷ ‵ (T.own_val z (w ∷ [])) ∷ []) ∵
      nothing ! $ move ! (3 ∷ 0 ∷ []) $ fjoin ! $ move ! (2 ∷ 0 ∷ []) $ fjoin ! $ move ! (1 ∷ 0 ∷ []) $ fjoin ! $
      feq_i ! (List Val) (made ∷ []) (made ∷ []) refl $ fjoin ! $
      fpack ! (Valss (R ∷ S ∷ T ∷ [])) (within (Declared.shape (tuple_type (R ∷ S ∷ T ∷ []))) (x, (y, (z, tt))) (made ∷ [])) (u ∷ [], (v ∷ [], (w ∷ [], tt))) $ done !
