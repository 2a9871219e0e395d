-- The frames' memory in the logic's terms, for the functions that touch it. Assumes `Logic`.
--     block_bytes, bytes_block     a frame that is present is 4224 bytes, and back
--     frame_out, frame_in          one frame is taken out of the row, and put back as anything
--     frame_seen                   through a `&`, one frame of the row
--     emptied                      any frame is room
--     absent_frames, frames_room   room for n frames is n absent frames, and any frames are room
--     part_out, part_in            some of a frame's bytes are taken out, and put back
--     long_lit                     a literal above 255
use native.Mathlib.Omega.{arith}
use seplogic.Ra.Ura.{Ura}
use base.Fraction.{full_share}
use base.Fml.{Fml, Lft, ftrue, fsep, fat, froom}
use base.Logic.{ent, sep, guard, guard_i, id⊢, via}
use borrow.Table.Elements.{at, at_byte, cut_app, join_app}
use borrow.Table.OneValue.{part_out as value_out}
use denote.Builtin.{u8}
use denote.Memory.{mem, lone, part_at}
use lib.ListN.{take-append-drop}
use lib.Seq.{drop-drop}
use mir.Syntax.{Width, int_big, ty_array}
use mir.Val.{Val, Fits, vint}
use prog.Wp.{Env}
use types.Kit.{Item, ‵, ◌⊛◌, some, ◌$◌, ◌∵◌, !, qed, by, move, keep, use1, use2, split, pick, rewrite, fsplit, fjoin, done}
use types.Logic.{Logic, sem}
use types.Run.{Opd}
use types.SemTy.{cells}
use Rattle.core.proofs.slice.Relends.{array_out, array_in}
use Rattle.std.proofs.Common.{◌≡◌, ℕ, zero, suc, ◌+◌, ◌*◌, ◌<◌, ◌≤◌, List, [], ◌∷◌, ◌++◌, length, take, drop, get_or, slice_set, replicate, Option, Some, None, refl, sym, ap, ◌∙◌, subst, length-take, length-drop}
use Rattle.mte_arena.specs.Ownership.{Block, frame_owned, frames_owned, frame_shown, frames_shown}

-- the row of frames, but for the frame f
abbrev pub others : ℕ → ℕ → List (Option (List ℕ)) → ℕ → Fml
others b o [] f = ftrue
others b o (c ∷ cs) zero = frames_owned b (o + 4224) cs
others b o (c ∷ cs) (suc f) = fsep (frame_owned b o c) (others b (o + 4224) cs f)

module _ {M : Type 1} {𝓤 : Ura M} (𝓛 : Logic 𝓤) (b : ℕ) where
  open 𝓛 use {H}

  pub block_bytes : (xs : List ℕ) (o : ℕ) → ent 𝓤 (sem 𝓛 (frame_owned b o (Some xs))) (guard 𝓤 (length xs ≡ 4224) (sem 𝓛 (cells (mem u8) xs b o)))
  block_bytes xs o = array_out 𝓛 u8 tt 4224 b xs o

  pub bytes_block : (xs : List ℕ) (o : ℕ) → length xs ≡ 4224 → ent 𝓤 (sem 𝓛 (cells (mem u8) xs b o)) (sem 𝓛 (frame_owned b o (Some xs)))
  bytes_block xs o long = array_in 𝓛 u8 tt 4224 b xs o long

  pub emptied : (o : ℕ) (c : Option (List ℕ)) → ent 𝓤 (sem 𝓛 (frame_owned b o c)) (sem 𝓛 (froom (lone Block.mir) b o))
  emptied o None = 𝓛.laws.raw-room (lone Block.mir) b o
  emptied o (Some xs) = qed 𝓛 (‵ (part_at Block full_share xs b o) ∷ []) ∵
      use1 𝓛 (some (λ (v : Val). ‵ (fat full_share (lone Block.mir) b o v) ⊛ ‵ (Block.own_val xs (v ∷ [])))) (value_out 𝓛 Block refl full_share xs b o) $ pick ! (λ v. split ! $
      keep ! (0 ∷ []) $ by ! (𝓛.laws.at_room (lone Block.mir) b o v))

  -- where a frame lies, counted from the next one
  further : (f o at : ℕ) → at ≡ suc f * 4224 + o → at ≡ f * 4224 + (o + 4224)
  further f o at e = omega (arith, e)

  pub frame_out : (cs : List (Option (List ℕ))) (f o at : ℕ) → f < length cs → at ≡ f * 4224 + o
      → ent 𝓤 (sem 𝓛 (frames_owned b o cs)) (sep 𝓤 (sem 𝓛 (frame_owned b at (get_or cs f None))) (sem 𝓛 (others b o cs f)))
  frame_out [] f o at within e = absurd (omega (arith, within))
  frame_out (c ∷ cs) zero o at within e = subst (λ k. ent 𝓤 (sem 𝓛 (frames_owned b o (c ∷ cs))) (sep 𝓤 (sem 𝓛 (frame_owned b k c)) (sem 𝓛 (frames_owned b (o + 4224) cs)))) (let same : o ≡ at = omega (arith, e) in same) (id⊢ 𝓤 _)
  frame_out (c ∷ cs) (suc f) o at within e = qed 𝓛 (‵ (frames_owned b o (c ∷ cs)) ∷ []) ∵ fsplit ! $ move ! (1 ∷ []) $
      use1 𝓛 (‵ (frame_owned b at (get_or cs f None)) ⊛ ‵ (others b (o + 4224) cs f)) (frame_out cs f (o + 4224) at (omega (arith, within)) (further f o at e)) $ split ! $
      move ! (2 ∷ 1 ∷ []) $ fjoin ! $ move ! (1 ∷ 0 ∷ []) $ done !

  pub frame_in : (cs : List (Option (List ℕ))) (f o at : ℕ) (d : Option (List ℕ)) → f < length cs → at ≡ f * 4224 + o
      → ent 𝓤 (sep 𝓤 (sem 𝓛 (frame_owned b at d)) (sem 𝓛 (others b o cs f))) (sem 𝓛 (frames_owned b o (slice_set cs f d)))
  frame_in [] f o at d within e = absurd (omega (arith, within))
  frame_in (c ∷ cs) zero o at d within e = subst (λ k. ent 𝓤 (sep 𝓤 (sem 𝓛 (frame_owned b k d)) (sem 𝓛 (frames_owned b (o + 4224) cs))) (sem 𝓛 (frames_owned b o (d ∷ cs)))) (let same : o ≡ at = omega (arith, e) in same) (id⊢ 𝓤 _)
  frame_in (c ∷ cs) (suc f) o at d within e = qed 𝓛 (‵ (frame_owned b at d) ∷ ‵ (others b o (c ∷ cs) (suc f)) ∷ []) ∵ move ! (1 ∷ []) $ fsplit ! $ move ! (2 ∷ 1 ∷ []) $
      use2 𝓛 (‵ (frames_owned b (o + 4224) (slice_set cs f d))) (frame_in cs f (o + 4224) at d (omega (arith, within)) (further f o at e)) $ move ! (1 ∷ 0 ∷ []) $ fjoin ! $ done !

  pub frame_seen : (κ : Lft) (cs : List (Option (List ℕ))) (f o at : ℕ) → f < length cs → at ≡ f * 4224 + o
      → ent 𝓤 (sem 𝓛 (frames_shown b o cs κ)) (sem 𝓛 (frame_shown b at (get_or cs f None) κ))
  frame_seen κ [] f o at within e = absurd (omega (arith, within))
  frame_seen κ (c ∷ cs) zero o at within e = qed 𝓛 (‵ (frames_shown b o (c ∷ cs) κ) ∷ []) ∵ fsplit ! $ keep ! (0 ∷ []) $
      rewrite ! 0 (λ k. ‵ (frame_shown b k c κ)) (let same : o ≡ at = omega (arith, e) in same) refl $ done !
  frame_seen κ (c ∷ cs) (suc f) o at within e = qed 𝓛 (‵ (frames_shown b o (c ∷ cs) κ) ∷ []) ∵ fsplit ! $ keep ! (1 ∷ []) $
      by ! (frame_seen κ cs f (o + 4224) at (omega (arith, within)) (further f o at e))

  -- a block's bytes, but for the n from i on, which lie at p
  abbrev pub around : List ℕ → ℕ → ℕ → ℕ → ℕ → Fml
  around xs i n o p = fsep (cells (mem u8) (take i xs) b o) (cells (mem u8) (drop (i + n) xs) b (n + p))

  pub part_out : (xs : List ℕ) (i n o p : ℕ) → i + n ≤ length xs → p ≡ i + o
      → ent 𝓤 (sem 𝓛 (cells (mem u8) xs b o)) (sep 𝓤 (sem 𝓛 (cells (mem u8) (take n (drop i xs)) b p)) (sem 𝓛 (around xs i n o p)))
  part_out xs i n o p within e =
      let mid = take n (drop i xs) in let back = drop (i + n) xs in
      let cut : take i xs ++ (mid ++ back) ≡ xs = ap (λ l. take i xs ++ l) (ap (λ l. mid ++ l) (sym (drop-drop n i xs)) ∙ take-append-drop n (drop i xs)) ∙ take-append-drop i xs in
      let front : at o (mem u8).size (length (take i xs)) ≡ p = at_byte o (length (take i xs)) ∙ omega (arith, e, within, length-take i xs) in
      let middle : at p (mem u8).size (length mid) ≡ n + p = at_byte p (length mid) ∙ omega (arith, within, length-take n (drop i xs), length-drop i xs) in
      qed 𝓛 (‵ (cells (mem u8) xs b o) ∷ []) ∵ rewrite ! 0 (λ l. ‵ (cells (mem u8) l b o)) (sym cut) refl $
      use1 𝓛 (‵ (cells (mem u8) (take i xs) b o) ⊛ ‵ (cells (mem u8) (mid ++ back) b (at o (mem u8).size (length (take i xs))))) (cut_app 𝓛 (mem u8) (take i xs) (mid ++ back) b o) $ split ! $ move ! (1 ∷ []) $
      rewrite ! 0 (λ k. ‵ (cells (mem u8) (mid ++ back) b k)) front refl $
      use1 𝓛 (‵ (cells (mem u8) mid b p) ⊛ ‵ (cells (mem u8) back b (at p (mem u8).size (length mid)))) (cut_app 𝓛 (mem u8) mid back b p) $ split ! $
      rewrite ! 1 (λ k. ‵ (cells (mem u8) back b k)) middle refl $ move ! (2 ∷ 1 ∷ []) $ fjoin ! $ move ! (1 ∷ 0 ∷ []) $ done !

  pub part_in : (xs : List ℕ) (i n o p : ℕ) (ws : List ℕ) → i + n ≤ length xs → p ≡ i + o → length ws ≡ n
      → ent 𝓤 (sep 𝓤 (sem 𝓛 (cells (mem u8) ws b p)) (sem 𝓛 (around xs i n o p))) (sem 𝓛 (cells (mem u8) (take i xs ++ (ws ++ drop (i + n) xs)) b o))
  part_in xs i n o p ws within e long =
      let back = drop (i + n) xs in
      let front : at o (mem u8).size (length (take i xs)) ≡ p = at_byte o (length (take i xs)) ∙ omega (arith, e, within, length-take i xs) in
      let middle : at p (mem u8).size (length ws) ≡ n + p = at_byte p (length ws) ∙ ap (λ k. k + p) long in
      qed 𝓛 (‵ (cells (mem u8) ws b p) ∷ ‵ (around xs i n o p) ∷ []) ∵ move ! (1 ∷ []) $ fsplit ! $ move ! (2 ∷ 1 ∷ []) $
      rewrite ! 1 (λ k. ‵ (cells (mem u8) back b k)) (sym middle) refl $
      use2 𝓛 (‵ (cells (mem u8) (ws ++ back) b p)) (join_app 𝓛 (mem u8) ws back b p) $
      rewrite ! 0 (λ k. ‵ (cells (mem u8) (ws ++ back) b k)) (sym front) refl $ move ! (1 ∷ 0 ∷ []) $
      by ! (join_app 𝓛 (mem u8) (take i xs) (ws ++ back) b o)

module _ {M : Type 1} {𝓤 : Ura M} {𝓛 : Logic 𝓤} {K : Type 0} {Γ : List (Item 𝓤)} {E : Env 𝓤 𝓛.H} where
  pub long_lit : K → {w : Width} {n : ℕ} → Fits w n → Opd K 𝓛 Γ E (int_big w n) (vint w n)
  long_lit t {w} {n} fits = record { go = λ Kt h. via 𝓤 (Kt (vint w n)) h (guard_i 𝓤 (Fits w n) (Kt (vint w n)) fits) }

-- memory for n frames is n absent frames, and any row of frames is memory
module _ {M : Type 1} {𝓤 : Ura M} (𝓛 : Logic 𝓤) (b : ℕ) where
  open 𝓛 use {H}

  pub absent_frames : (n o : ℕ) → ent 𝓤 (H.room (ty_array (lone Block.mir) n) b o) (sem 𝓛 (frames_owned b o (replicate n None)))
  absent_frames zero o = qed 𝓛 (‵ (froom (ty_array (lone Block.mir) 0) b o) ∷ []) ∵ keep ! [] $ done !
  absent_frames (suc n) o = qed 𝓛 (‵ (froom (ty_array (lone Block.mir) (suc n)) b o) ∷ []) ∵
      use1 𝓛 (‵ (froom (lone Block.mir) b o) ⊛ ‵ (froom (ty_array (lone Block.mir) n) b (o + 4224))) (𝓛.laws.room_uncons (lone Block.mir) n b o) $ split ! $
      use1 𝓛 (‵ (frame_owned b o None)) (𝓛.laws.room-raw (lone Block.mir) b o) $ move ! (1 ∷ []) $
      use1 𝓛 (‵ (frames_owned b (o + 4224) (replicate n None))) (absent_frames n (o + 4224)) $ move ! (1 ∷ 0 ∷ []) $ fjoin ! $ done !

  pub frames_room : (cs : List (Option (List ℕ))) (o : ℕ) → ent 𝓤 (sem 𝓛 (frames_owned b o cs)) (H.room (ty_array (lone Block.mir) (length cs)) b o)
  frames_room [] o = 𝓛.laws.room_nil (lone Block.mir) b o
  frames_room (c ∷ cs) o = qed 𝓛 (‵ (frames_owned b o (c ∷ cs)) ∷ []) ∵ fsplit ! $ use1 𝓛 (‵ (froom (lone Block.mir) b o)) (emptied 𝓛 b o c) $ move ! (1 ∷ []) $
      use1 𝓛 (‵ (froom (ty_array (lone Block.mir) (length cs)) b (o + 4224))) (frames_room cs (o + 4224)) $ move ! (1 ∷ 0 ∷ []) $ by ! (𝓛.laws.room_cons (lone Block.mir) (length cs) b o)
