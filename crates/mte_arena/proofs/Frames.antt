-- Blocks as frames, one by one.
use Rattle.std.proofs.Math.ListN.{get_or-map}
use Rattle.std.proofs.Math.Seq.{map-set_same}
use Rattle.std.proofs.lemmas.List.{take-replicate}
use Rattle.std.proofs.Common.{◌≡◌, ℕ, zero, suc, ◌+◌, ◌<◌, List, [], ◌∷◌, length, drop, get_or, slice_set, slice_index_or, replicate, Option, Some, None, Bool, IsTrue, ◌↔◌, map, refl, sym, ap, ◌∙◌, subst, arith, length-take, length-drop, ◌⊎◌, inl, inr}
use Rattle.std.specs.Prelude.{◌≢◌}
use Rattle.mte_arena.specs.Blocks.{tags_of_bytes, frame_of, frame_cases, frames_of, is_there, presence, block_or, zero_block, IsPresent, AreBlocks}
use Rattle.mte_arena.specs.Frames.{Frame, make_frame, IsLive, IsFrame, AreFrames, frame_at, frame_or, zero_frame}
use Rattle.mte_arena.proofs.Tags.{length-tags-of-bytes, tags-of-bytes-small, tags-of-bytes-zero}

pub within_of : {X : Type 0} (cs : List (Option X)) (f : ℕ) (x : X) → get_or cs f None ≡ Some x → f < length cs
within_of [] f x e = cc
within_of (c ∷ cs) zero x e = omega arith
within_of (c ∷ cs) (suc f) x e = omega (arith, within_of cs f x e)

pub same_or_not : (m n : ℕ) → (m ≡ n) ⊎ (m ≢ n)
same_or_not zero zero = inl refl
same_or_not zero (suc n) = inr (λ e. absurd (omega (arith, e)))
same_or_not (suc m) zero = inr (λ e. absurd (omega (arith, e)))
same_or_not (suc m) (suc n) = elim (same_or_not m n) [ inl e ↦ inl (ap suc e) | inr d ↦ inr (λ e. d (omega (arith, e))) ]

pub map-replicate : {X Y : Type 0} (h : X → Y) (n : ℕ) (x : X) → map h (replicate n x) ≡ replicate n (h x)
map-replicate h zero x = refl
map-replicate h (suc n) x = ap (λ l. h x ∷ l) (map-replicate h n x)

frame_get : (cs : List (Option (List ℕ))) (f : ℕ) → get_or (frames_of cs) f None ≡ frame_cases (get_or cs f None)
frame_get cs f = get_or-map frame_cases cs f None

present_if : (c : Option (List ℕ)) (p : Frame) → frame_cases c ≡ Some p → (xs : List ℕ) × ((c ≡ Some xs) × (frame_of xs ≡ p))
present_if (Some xs) p e = (xs, (refl, some_same e))
  where
    some_same : Some (frame_of xs) ≡ Some p → frame_of xs ≡ p
    some_same e = ap frame_or e
present_if None p e = cc

pub present : (cs : List (Option (List ℕ))) (f : ℕ) → IsLive (frames_of cs) f → IsPresent cs f
present cs f live = let found = present_if (get_or cs f None) live.0 (sym (frame_get cs f) ∙ live.1) in (found.0, found.1.0)

pub frame_at-is : (cs : List (Option (List ℕ))) (f : ℕ) (xs : List ℕ) → get_or cs f None ≡ Some xs → frame_at (frames_of cs) f ≡ frame_of xs
frame_at-is cs f xs e = ap frame_or (frame_get cs f ∙ ap frame_cases e)

-- a frame that is present stays so where it is written
pub presence-written : (cs : List (Option (List ℕ))) (f : ℕ) (xs ws : List ℕ) → get_or cs f None ≡ Some xs → presence (slice_set cs f (Some ws)) ≡ presence cs
presence-written cs f xs ws e = map-set_same is_there cs f (Some ws) None (sym (ap is_there e))

true_live : (c : Option (List ℕ)) → IsTrue (is_there c) → (p : Frame) × (frame_cases c ≡ Some p)
true_live (Some xs) h = (frame_of xs, refl)
true_live None h = cc

live_true : (c : Option (List ℕ)) (p : Frame) → frame_cases c ≡ Some p → IsTrue (is_there c)
live_true (Some xs) p e = refl
live_true None p e = cc

presence_get : (cs : List (Option (List ℕ))) (f : ℕ) (d : Bool) → f < length cs → slice_index_or (presence cs) f d ≡ is_there (get_or cs f None)
presence_get [] f d h = absurd (omega (arith, h))
presence_get (c ∷ cs) zero d h = refl
presence_get (c ∷ cs) (suc f) d h = presence_get cs f d (omega (arith, h))

pub live-iff : (cs : List (Option (List ℕ))) (f : ℕ) (d b : Bool) → f < length cs → b ≡ slice_index_or (presence cs) f d → IsTrue b ↔ IsLive (frames_of cs) f
live-iff cs f d b within e = let at = e ∙ presence_get cs f d within in (
  λ h. let found = true_live (get_or cs f None) (subst IsTrue at h) in (found.0, frame_get cs f ∙ found.1),
  λ h. subst IsTrue (sym at) (live_true (get_or cs f None) h.0 (sym (frame_get cs f) ∙ h.1)),
)

pub frame_of-zero : frame_of zero_block ≡ zero_frame
unfolding zero_block zero_frame
frame_of-zero = λ i. make_frame (take-replicate 4096 4224 0 (omega arith) i) ((ap tags_of_bytes (drop_zeros 4096 128) ∙ tags-of-bytes-zero 128) i)
  where
    drop_zeros : (n m : ℕ) → drop n (replicate {A = ℕ} (n + m) 0) ≡ replicate m 0
    drop_zeros zero m = let e : 0 + m ≡ m = omega arith in ap (λ k. replicate {A = ℕ} k 0) e
    drop_zeros (suc n) m = let e : suc n + m ≡ suc (n + m) = omega arith in ap (λ k. drop (suc n) (replicate {A = ℕ} k 0)) e ∙ drop_zeros n m

-- ---- the sizes
is_frame : (xs : List ℕ) → length xs ≡ 4224 → IsFrame (frame_of xs)
is_frame xs long = record {
  bytes = omega (arith, long, length-take 4096 xs);
  tags = omega (arith, long, length-tags-of-bytes (drop 4096 xs), length-drop 4096 xs);
  small = tags-of-bytes-small (drop 4096 xs);
}

pub are_frames : (cs : List (Option (List ℕ))) → AreBlocks cs → AreFrames (frames_of cs)
are_frames cs sized f p e = let found = present_if (get_or cs f None) p (sym (frame_get cs f) ∙ e) in
    subst IsFrame found.1.1 (is_frame found.0 (sized f found.0 found.1.0))

no_some : (xs : List ℕ) → ◌≡◌ {A = Option (List ℕ)} None (Some xs) → ⊥
no_some xs e = cc

pub none_sized : (n : ℕ) → AreBlocks (replicate n None)
none_sized zero f xs e = cc
none_sized (suc n) zero xs e = absurd (no_some xs e)
none_sized (suc n) (suc f) xs e = none_sized n f xs e

some_block : (xs ys : List ℕ) → Some xs ≡ Some ys → xs ≡ ys
some_block xs ys e = ap block_or e

pub written_sized : (cs : List (Option (List ℕ))) (f : ℕ) (ws : List ℕ) → AreBlocks cs → length ws ≡ 4224 → AreBlocks (slice_set cs f (Some ws))
written_sized [] f ws sized long g xs e = cc
written_sized (c ∷ cs) zero ws sized long zero xs e = sym (ap length (some_block ws xs e)) ∙ long
written_sized (c ∷ cs) zero ws sized long (suc g) xs e = sized (suc g) xs e
written_sized (c ∷ cs) (suc f) ws sized long zero xs e = sized zero xs e
written_sized (c ∷ cs) (suc f) ws sized long (suc g) xs e = written_sized cs f ws (λ h. sized (suc h)) long g xs e
