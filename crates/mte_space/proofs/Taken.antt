-- A frame that is out under some quota.
use Rattle.std.specs.Prelude.{All}
use Rattle.std.proofs.Common.{◌≡◌, ℕ, subst, sym, ◌<◌, List, length, Option, Some, None, get_or, slice_set, refl, ap, is_some, true, get_or-set_same}
use Rattle.mte_arena.specs.Frames.{Frame, AreFrames, IsFrame, frame_at, frame_or}
use Rattle.mte_arena.proofs.Frames.{within_of}
use Rattle.mte_frames.specs.Pool.{Pool, IsTaken, IsHeldBy, IsSound}
use Rattle.mte_frames.proofs.Counts.{any_default}

some_of : (o : Option ℕ) → is_some o ≡ true → (q : ℕ) × (o ≡ Some q)
some_of None e = absurd cc
some_of (Some q) e = (q, refl)

pub taken_of : (p : Pool) (f : ℕ) → is_some (get_or p.owners f None) ≡ true → IsTaken p f
taken_of p f e = some_of (get_or p.owners f None) e

pub within_frames : (p : Pool) (f k : ℕ) → IsSound p → IsHeldBy p f k → f < length p.frames
within_frames p f k sound out = let live = sound.live f k out in within_of p.frames f live.0 live.1

pub frame_at-set : (fs : List (Option Frame)) (f : ℕ) (x : Frame) → f < length fs → frame_at (slice_set fs f (Some x)) f ≡ x
frame_at-set fs f x l = ap frame_or (get_or-set_same fs f (Some x) None l)

pub is_frame : (p : Pool) (f : ℕ) → IsTaken p f → IsSound p → AreFrames p.frames → IsFrame (frame_at p.frames f)
is_frame p f out sound sized =
    let live = sound.live f out.0 out.1 in
    subst IsFrame (sym (ap frame_or live.1)) (sized f live.0 live.1)

pub small_tags : (p : Pool) (f : ℕ) → IsTaken p f → IsSound p → AreFrames p.frames → All (λ t. t < 16) (frame_at p.frames f).tags
small_tags p f out sound sized = λ k d l.
    let small = (is_frame p f out sound sized).small k in
    subst (λ t. t < 16) (any_default (frame_at p.frames f).tags k 0 d l) small
