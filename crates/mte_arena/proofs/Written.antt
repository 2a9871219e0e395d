-- An arena of which a part of a frame was written.
use lib.Seq.{take_at, drop_at}
use Rattle.std.proofs.lemmas.List.{length-set, map-set}
use Rattle.std.proofs.Common.{◌≡◌, ℕ, zero, suc, ◌+◌, ◌*◌, ◌≤◌, List, [], ◌∷◌, ◌++◌, length, take, drop, slice_set, Option, Some, refl, sym, ap, ◌∙◌, arith, length-take, length-drop, append-nil}
use Rattle.std.specs.List.{refill}
use Rattle.mte_arena.specs.Blocks.{tags_of_bytes, frame_of, frame_cases, frames_of, block_or, block_at, with_part, IsPresent, AreBlocks}
use Rattle.mte_arena.specs.Frames.{Frame, make_frame, frame_at}
use Rattle.mte_arena.specs.RegionLends.{with_blocks}
use Rattle.mte_arena.specs.Whole.{IsArena}
use Rattle.mte_arena.specs.declared.arena.Arena.TheInside.{Inside}
use Rattle.mte_arena.proofs.Frames.{frame_at-is, presence-written, written_sized}
use Rattle.mte_arena.proofs.Tags.{length-tags-of-bytes, tags-of-bytes-append, tags-of-bytes-take, tags-of-bytes-drop}
use Rattle.mte_arena.proofs.Parts.{length-refill, refill-same, length-with_part}

pub block_long : (cs : List (Option (List ℕ))) (f : ℕ) → AreBlocks cs → IsPresent cs f → length (block_at cs f) ≡ 4224
block_long cs f sized there = ap length (ap block_or there.1) ∙ sized f there.0 there.1

pub frame_at-block : (cs : List (Option (List ℕ))) (f : ℕ) → IsPresent cs f → frame_at (frames_of cs) f ≡ frame_of (block_at cs f)
frame_at-block cs f there = frame_at-is cs f there.0 there.1 ∙ ap frame_of (sym (ap block_or there.1))

pub still_arena : (a : Inside) (f i n : ℕ) (ws : List ℕ) → IsArena a → IsPresent a.region.blocks f → i + n ≤ 4224
    → IsArena (record a { region = with_blocks a.region (slice_set a.region.blocks f (Some (with_part (block_at a.region.blocks f) i n ws))) })
still_arena a f i n ws h there within =
    let cs = a.region.blocks in let new = with_part (block_at cs f) i n ws in let whole = block_long cs f h.sized there in let long = length-set cs f (Some new) in
    record {
      start = h.start;
      right_start = h.right_start;
      right_count = h.right_count ∙ sym long;
      right_alloc = h.right_alloc;
      live = h.live ∙ sym (presence-written cs f there.0 new there.1);
      sized = written_sized cs f new h.sized (length-with_part (block_at cs f) i n ws (omega (arith, within, whole)) ∙ whole);
      few = omega (arith, h.few, long);
    }

nothing_left : (xs : List ℕ) → length xs ≡ 0 → xs ≡ []
nothing_left [] e = refl
nothing_left (x ∷ xs) e = absurd (omega (arith, e))

pub frame_with_data : (xs ws : List ℕ) → length xs ≡ 4224 → frame_of (with_part xs 0 4096 ws) ≡ make_frame (refill 4096 (frame_of xs).bytes ws) (frame_of xs).tags
frame_with_data xs ws long =
    let front = refill 4096 (take 4096 xs) ws in let front_long : length front ≡ 4096 = length-refill 4096 (take 4096 xs) ws (omega (arith, long, length-take 4096 xs)) in
    λ i. make_frame (take_at front (drop 4096 xs) 4096 front_long i) (tags_of_bytes (drop_at front (drop 4096 xs) 4096 front_long i))

pub frame_with_tags : (xs ws : List ℕ) → length xs ≡ 4224 → length ws ≡ 128 → frame_of (with_part xs 4096 128 ws) ≡ make_frame (frame_of xs).bytes (tags_of_bytes ws)
frame_with_tags xs ws long count =
    let front : length (take 4096 xs) ≡ 4096 = omega (arith, long, length-take 4096 xs) in
    let last : drop 4224 xs ≡ [] = nothing_left (drop 4224 xs) (omega (arith, long, length-drop 4224 xs)) in
    let tags : refill 128 (take 128 (drop 4096 xs)) ws ++ drop 4224 xs ≡ ws = (λ i. refill-same 128 (take 128 (drop 4096 xs)) ws count i ++ last i) ∙ append-nil ws in
    let back = refill 128 (take 128 (drop 4096 xs)) ws ++ drop 4224 xs in
    λ i. make_frame (take_at (take 4096 xs) back 4096 front i) (tags_of_bytes ((drop_at (take 4096 xs) back 4096 front ∙ tags) i))

pub taken_whole : (n : ℕ) (xs : List ℕ) → length xs ≡ n → take n xs ≡ xs
taken_whole n xs long = sym (ap (take n) (append-nil xs)) ∙ take_at xs [] n long

-- the tag bytes of a block are all that is left after its data
pub tag_bytes : (xs : List ℕ) → length xs ≡ 4224 → take 128 (drop 4096 xs) ≡ drop 4096 xs
tag_bytes xs long = taken_whole 128 (drop 4096 xs) (omega (arith, long, length-drop 4096 xs))

pub frames_written : (cs : List (Option (List ℕ))) (f : ℕ) (xs : List ℕ) (p : Frame) → frame_of xs ≡ p → frames_of (slice_set cs f (Some xs)) ≡ slice_set (frames_of cs) f (Some p)
frames_written cs f xs p e = map-set frame_cases cs f (Some xs) ∙ ap (λ q. slice_set (frames_of cs) f (Some q)) e

-- ---- a block that is replaced as a whole
take_less : (n m : ℕ) (xs : List ℕ) → n ≤ m → take n (take m xs) ≡ take n xs
take_less zero m xs h = refl
take_less (suc n) zero xs h = absurd (omega (arith, h))
take_less (suc n) (suc m) [] h = refl
take_less (suc n) (suc m) (x ∷ xs) h = ap (λ l. x ∷ l) (take_less n m xs (omega (arith, h)))

-- the first n elements depend on the first n alone
take_over : (n : ℕ) (xs ws : List ℕ) → take n (ws ++ drop (length ws) xs) ≡ take n (ws ++ drop (length ws) (take n xs))
take_over zero xs ws = refl
take_over (suc n) xs [] = sym (take_less (suc n) (suc n) xs (omega arith))
take_over (suc n) [] (w ∷ ws) = refl
take_over (suc n) (x ∷ xs) (w ∷ ws) = ap (λ l. w ∷ l) (take_over n xs ws)

front_of : (xs ws : List ℕ) → take 4096 (refill 4224 xs ws) ≡ refill 4096 (take 4096 xs) ws
front_of xs ws = take_less 4096 4224 (ws ++ drop (length ws) xs) (omega arith) ∙ take_over 4096 xs ws

drop_none : (n : ℕ) → ◌≡◌ {A = List ℕ} (drop n []) []
drop_none zero = refl
drop_none (suc n) = refl

drop_taken : (n k : ℕ) (xs : List ℕ) → drop n (take (n + k) xs) ≡ take k (drop n xs)
drop_taken zero k xs = let e : 0 + k ≡ k = omega arith in ap (λ m. take m xs) e
drop_taken (suc n) k [] = let e : suc n + k ≡ suc (n + k) = omega arith in rw e (sym (take_nothing k))
  where
    take_nothing : (k : ℕ) → ◌≡◌ {A = List ℕ} (take k []) []
    take_nothing zero = refl
    take_nothing (suc k) = refl
drop_taken (suc n) k (x ∷ xs) = let e : suc n + k ≡ suc (n + k) = omega arith in rw e (drop_taken n k xs)

drop_over : (n : ℕ) (xs ws : List ℕ) → drop n (ws ++ drop (length ws) xs) ≡ drop n ws ++ drop (length (drop n ws)) (drop n xs)
drop_over zero xs ws = refl
drop_over (suc n) xs [] = refl
drop_over (suc n) [] (w ∷ ws) = ap (drop n) (append-nil ws) ∙ sym (append-nil (drop n ws)) ∙ ap (λ l. drop n ws ++ l) (sym (drop_none (length (drop n ws))))
drop_over (suc n) (x ∷ xs) (w ∷ ws) = drop_over n xs ws

back_of : (xs ws : List ℕ) → drop 4096 (refill 4224 xs ws) ≡ refill 128 (drop 4096 xs) (drop 4096 ws)
back_of xs ws = drop_taken 4096 128 (ws ++ drop (length ws) xs) ∙ ap (take 128) (drop_over 4096 xs ws)

tags_of : (bs ts : List ℕ) → tags_of_bytes (refill 128 bs ts) ≡ refill 256 (tags_of_bytes bs) (tags_of_bytes ts)
tags_of bs ts = tags-of-bytes-take 128 (ts ++ drop (length ts) bs) ∙ ap (take 256) (tags-of-bytes-append ts (drop (length ts) bs) ∙ ap (λ l. tags_of_bytes ts ++ l) (tags-of-bytes-drop (length ts) bs ∙ ap (λ n. drop n (tags_of_bytes bs)) (let twice : length ts * 2 ≡ length (tags_of_bytes ts) = omega (arith, length-tags-of-bytes ts) in twice)))

pub frame_with_block : (xs ws : List ℕ) → length xs ≡ 4224 → frame_of (with_part xs 0 4224 ws) ≡ make_frame (refill 4096 (frame_of xs).bytes ws) (refill 256 (frame_of xs).tags (tags_of_bytes (drop 4096 ws)))
frame_with_block xs ws long =
    let all : with_part xs 0 4224 ws ≡ refill 4224 xs ws = (λ i. refill 4224 (taken_whole 4224 xs long i) ws ++ nothing_left (drop 4224 xs) (omega (arith, long, length-drop 4224 xs)) i) ∙ append-nil (refill 4224 xs ws) in
    ap frame_of all ∙ (λ i. make_frame (front_of xs ws i) ((ap tags_of_bytes (back_of xs ws) ∙ tags_of (drop 4096 xs) (drop 4096 ws)) i))
