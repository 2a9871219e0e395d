-- The bytes of granules made zero after their tags were set.
use Rattle.std.proofs.Common.{◌≡◌, ℕ, ◌+◌, ◌*◌, ◌<◌, ◌≤◌, true, List, ◌++◌, length, take, drop, replicate, slice_set, Some, ap, ◌∙◌, arith}
use Rattle.std.proofs.lemmas.List.{set-set, length-append, length-take-le, length-replicate, length-drop}
use Rattle.mte_arena.specs.Frames.{frame_at, make_frame, with_run}
use Rattle.mte_arena.proofs.Parts.{refill-same}
use Rattle.mte_frames.specs.Pool.{Pool, make_pool, with_bytes_at}
use Rattle.mte_space.specs.Writes.{with_frame, retagged_frame}
use Rattle.mte_space.proofs.Taken.{frame_at-set}

zeros : List ℕ → ℕ → ℕ → List ℕ
zeros xs g n = take (16 * g) xs ++ (replicate (16 * n) 0 ++ drop (16 * g + 16 * n) xs)

length-zeros : (xs : List ℕ) (g n : ℕ) → 16 * g + 16 * n ≤ length xs → length (zeros xs g n) ≡ length xs
unfolding zeros
length-zeros xs g n h =
    let rest = drop (16 * g + 16 * n) xs in
    omega (
      arith,
      length-append (take (16 * g) xs) (replicate (16 * n) 0 ++ rest),
      length-append (replicate (16 * n) 0) rest,
      length-take-le (16 * g) xs (omega arith),
      length-replicate {A = ℕ} (16 * n) 0,
      length-drop (16 * g + 16 * n) xs,
    )

pub zeroed_after : (p mid : Pool) (f g n t : ℕ) (ws : List ℕ) → f < length p.frames → 16 * g + 16 * n ≤ length (frame_at p.frames f).bytes → length (frame_at p.frames f).bytes ≡ 4096
    → mid ≡ with_frame p f (make_frame (frame_at p.frames f).bytes (with_run (frame_at p.frames f).tags g n t))
    → ws ≡ take (16 * g) (frame_at p.frames f).bytes ++ (replicate (16 * n) 0 ++ drop (16 * g + 16 * n) (frame_at p.frames f).bytes)
    → with_bytes_at mid f ws ≡ with_frame p f (retagged_frame (frame_at p.frames f) g n t true)
unfolding zeros
zeroed_after p mid f g n t ws l room long e is =
    let x = frame_at p.frames f in
    let y = make_frame x.bytes (with_run x.tags g n t) in
    let size : length ws ≡ 4096 = ap length is ∙ length-zeros x.bytes g n room ∙ long in
    let here : frame_at (slice_set p.frames f (Some y)) f ≡ y = frame_at-set p.frames f y l in
    ap (λ m. with_bytes_at m f ws) e
    ∙ ap (λ bs. make_pool p.capacities (slice_set (slice_set p.frames f (Some y)) f (Some (make_frame bs (frame_at (slice_set p.frames f (Some y)) f).tags))) p.owners p.reserved p.taken)
    (refill-same 4096 (frame_at (slice_set p.frames f (Some y)) f).bytes ws size ∙ is)
    ∙ ap (λ fs. make_pool p.capacities fs p.owners p.reserved p.taken) (set-set p.frames f (Some y) _)
    ∙ ap (λ z. with_frame p f (make_frame (zeros x.bytes g n) z.tags)) here
