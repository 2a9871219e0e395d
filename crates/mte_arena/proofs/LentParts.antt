-- A part of a frame is lent, and the region gets it back. Assumes `Logic`.
--     written r k from count ws     the region with ws in the place of the part
--     rest                          what the region owns beside the part, which lies at `place`
--     back                          the part and the rest are the region, with what was left in the part
use Rattle.mte_arena.proofs.Steps.{arith, full_share, fsep, ent, sep, cell_at, mem, u8, Ptr, block_ptr, ‵, ◌$◌, ◌∵◌, !, qed, move, use1, use2, rewrite, fsplit, fsplit3, fjoin, fpack, flt_i, done, sem, cells, Val, ◌≡◌, ℕ, ◌+◌, ◌*◌, ◌^◌, ◌<◌, ◌≤◌, List, [], ◌∷◌, ◌++◌, length, take, drop, get_or, slice_set, Some, None, refl, sym, ap, ◌∙◌, subst}
use base.Fml.{Fml}
use denote.Memory.{part_of}
use denote.Struct.Owning.{shape}
use denote.Struct.Struct.{Struct}
use seplogic.Ra.Ura.{Ura}
use types.Logic.{Logic}
use Rattle.std.proofs.lemmas.List.{length-set}
use Rattle.mte_arena.specs.Blocks.{block_at, block_or, with_part}
use Rattle.mte_arena.specs.Ownership.{frame_owned, frames_owned, region_owned}
use Rattle.mte_arena.specs.RegionLends.{with_blocks}
use Rattle.mte_arena.specs.declared.region.Region.{Region}
use Rattle.mte_arena.specs.contracts.region.Region.{the_type as region_type, the_row as R}
use Rattle.mte_arena.proofs.Memory.{others, around, bytes_block, frame_in, part_in}
use Rattle.mte_arena.proofs.Parts.{length-part, with_part-same, length-with_part}
use Rattle.mte_arena.proofs.Frames.{within_of}

-- the region with ws in the place of the part
abbrev pub written : Region → ℕ → ℕ → ℕ → List ℕ → Region
written r k from count ws = with_blocks r (slice_set r.blocks k (Some (with_part (block_at r.blocks k) from count ws)))

module _ {M : Type 1} {𝓤 : Ura M} (𝓛 : Logic 𝓤) (d : Region) (k from count : ℕ) (xs : List ℕ) (us : List Val) (rb ro b o : ℕ) where
  -- the frame, and the part of it
  abbrev pub at : ℕ
  at = k * 4224 + o

  abbrev pub place : ℕ
  place = k * 4224 + from + o

  abbrev marked : Fml
  marked = (Struct (shape region_type)).own_val (tt, tt) us

  -- what the region owns beside the part
  abbrev pub rest : Fml
  rest = fsep (around 𝓛 b xs from count at place) (fsep (others b o d.blocks k) (fsep marked (cell_at full_share R.mir us rb ro)))

  pub back : d.start ≡ block_ptr b o → get_or d.blocks k None ≡ Some xs → length xs ≡ 4224 → from + count ≤ 4224 → length d.blocks * 4224 < 2 ^ 63
      → (ws : List ℕ) → length ws ≡ length (take count (drop from xs)) → ent 𝓤 (sep 𝓤 (sem 𝓛 (cells (mem u8) ws b place)) (sem 𝓛 rest)) (sem 𝓛 ((mem R).own_at (written d k from count ws) rb ro))
  unfolding part_of
  back e present long within small ws same =
      let inside : from + count ≤ length xs = omega (arith, long, within) in
      let count_of : length ws ≡ count = same ∙ length-part xs from count inside in
      let whole : with_part xs from count ws ≡ take from xs ++ (ws ++ drop (from + count) xs) = with_part-same xs from count ws count_of in
      let new = slice_set d.blocks k (Some (with_part (block_at d.blocks k) from count ws)) in
      let now_long : length (with_part xs from count ws) ≡ 4224 = length-with_part xs from count ws inside ∙ long in
      let many : length new ≡ length d.blocks = length-set d.blocks k (Some (with_part (block_at d.blocks k) from count ws)) in
      qed 𝓛 (‵ (cells (mem u8) ws b place) ∷ ‵ rest ∷ []) ∵ move ! (1 ∷ []) $ fsplit ! $ move ! (2 ∷ 0 ∷ []) $
      use2 𝓛 (‵ (cells (mem u8) (take from xs ++ (ws ++ drop (from + count) xs)) b at)) (part_in 𝓛 b xs from count at place ws inside (let e : place ≡ from + at = omega arith in e) count_of) $
      rewrite ! 0 (λ (l : List ℕ). ‵ (cells (mem u8) l b at)) (sym whole) refl $
      use1 𝓛 (‵ (frame_owned b at (Some (with_part xs from count ws)))) (bytes_block 𝓛 b (with_part xs from count ws) at now_long) $ move ! (1 ∷ []) $ fsplit3 ! $ move ! (3 ∷ 0 ∷ []) $
      use2 𝓛 (‵ (frames_owned b o (slice_set d.blocks k (Some (with_part xs from count ws))))) (frame_in 𝓛 b d.blocks k o at (Some (with_part xs from count ws)) (within_of d.blocks k xs present) refl) $
      rewrite ! 0 (λ (l : List ℕ). ‵ (frames_owned b o (slice_set d.blocks k (Some (with_part l from count ws))))) (sym (ap block_or present)) refl $
      flt_i ! (length new * 4224) (2 ^ 63) (subst (λ n. n * 4224 < 2 ^ 63) (sym many) small) $ fjoin ! $
      rewrite ! 0 (λ (p : Ptr). ‵ (region_owned p new)) (sym e) refl $ move ! (1 ∷ 0 ∷ []) $ fjoin ! $ move ! (1 ∷ 0 ∷ []) $ fjoin ! $
      fpack ! (List Val) (λ vs. fsep (cell_at full_share R.mir vs rb ro) (R.own_val (written d k from count ws) vs)) us $ done !
