-- An arena as contracts see it: a list of optional frames. A frame that is absent has no bytes
-- and no tags.
--     IsLive fs f                the frame f is present
--     frame_at fs f              the frame f, where it is present
--     zero_frame                 4096 zero bytes and 256 tags 0
--     with_bytes fs f ws         fs with other bytes in the frame f
--     with_bytes_cases fs f ws   the same where f is an `Option`, and fs at `None`
--     with_granule_tag fs f g t  fs with another tag there
--     retagged_run fs f g n t    fs with another tag at the n granules from g on
--     AreFrames fs               each frame that is present has 4096 bytes and 256 tags below 16
use Rattle.std.specs.Prelude.{◌≡◌, ℕ, ◌+◌, ◌<◌, ◌≤◌, List, ◌++◌, length, take, drop, replicate}
use Rattle.std.specs.Prelude.{get_or, slice_set, Option, Some, None}
use Rattle.std.specs.List.{refill}

-- a frame's bytes, and the allocation tags of its granules of 16 bytes
pub record Frame : Type 0 where
  pub bytes : List ℕ
  pub tags : List ℕ

-- A frame of bytes and tags.
abbrev pub make_frame : List ℕ → List ℕ → Frame
make_frame bytes tags = record { bytes = bytes; tags = tags }

-- A frame of zeros, with tag 0 on each granule.
unfoldable pub zero_frame : Frame
zero_frame = make_frame (replicate 4096 0) (replicate 256 0)

-- The frame is present.
abbrev pub IsLive : List (Option Frame) → ℕ → Type 0
IsLive fs f = (p : Frame) × (get_or fs f None ≡ Some p)

-- A frame that is absent counts as one of zeros.
abbrev pub frame_or : Option Frame → Frame
frame_or (Some p) = p
frame_or None = zero_frame

-- The frame with a number, of zeros where it is absent.
abbrev pub frame_at : List (Option Frame) → ℕ → Frame
frame_at fs f = frame_or (get_or fs f None)

-- A frame has 4096 bytes and 256 tags, each below 16.
pub record IsFrame (p : Frame) : Type 0 where
  pub bytes : length p.bytes ≡ 4096
  pub tags : length p.tags ≡ 256
  pub small : (g : ℕ) → get_or p.tags g 0 < 16

-- Each frame that is present is one.
abbrev pub AreFrames : List (Option Frame) → Type 0
AreFrames fs = (f : ℕ) (p : Frame) → get_or fs f None ≡ Some p → IsFrame p

-- the frame f has the bytes ws, cut or filled up from its own to 4096, and all else is as it was
abbrev pub with_bytes : List (Option Frame) → ℕ → List ℕ → List (Option Frame)
with_bytes fs f ws =
    slice_set fs f (Some (make_frame (refill 4096 (frame_at fs f).bytes ws) (frame_at fs f).tags))

-- the same of the frame in f, if any
abbrev pub with_bytes_cases : List (Option Frame) → Option ℕ → List ℕ → List (Option Frame)
with_bytes_cases fs None ws = fs
with_bytes_cases fs (Some f) ws = with_bytes fs f ws

-- the granule g of the frame f has the tag t, and all else is as it was
abbrev pub with_granule_tag : List (Option Frame) → ℕ → ℕ → ℕ → List (Option Frame)
with_granule_tag fs f g t =
    slice_set fs f (Some (make_frame (frame_at fs f).bytes (slice_set (frame_at fs f).tags g t)))

-- a run within so many granules, and a tag for each granule of it
pub record IsTagRun (granules first count tag : ℕ) : Type 0 where
  pub within : first + count ≤ granules
  pub small : tag < 16

-- the list with t in the place of its n elements from g on
abbrev pub with_run : List ℕ → ℕ → ℕ → ℕ → List ℕ
with_run ts g n t = take g ts ++ (replicate n t ++ drop (g + n) ts)

-- the n granules from g on of the frame f have the tag t, and all else is as it was
abbrev pub retagged_run : List (Option Frame) → ℕ → ℕ → ℕ → ℕ → List (Option Frame)
retagged_run fs f g n t =
    let tags = with_run (frame_at fs f).tags g n t in
    slice_set fs f (Some (make_frame (frame_at fs f).bytes tags))
