-- A frame in memory is a block of 4224 bytes: 4096 of data and then 128 that hold two tags
-- each, the even granule's in the low half and the odd one's in the high half.
--     frame_of xs          the frame that the block holds
--     frames_of cs         the blocks as frames
--     presence cs          which blocks there are
--     with_part xs i n ws  the block xs, with ws in the place of the n bytes from i on
use Rattle.std.specs.Prelude.{◌≡◌, ℕ, ◌+◌, ◌/◌, ◌%◌, if◌then◌else◌, nat_eq, Bool, true, false, List}
use Rattle.std.specs.Prelude.{[], ◌∷◌, ◌++◌, map, length, take, drop, replicate, get_or, slice_set}
use Rattle.std.specs.Prelude.{Option, Some, None}
use Rattle.std.specs.List.{refill}
use Rattle.mte_arena.specs.Frames.{Frame, make_frame, frame_at}

-- the tag that a byte holds for the granule g
abbrev pub half : ℕ → ℕ → ℕ
half b g = if nat_eq (g % 2) 0 then b % 16 else b / 16 % 16

-- two tags a byte
abbrev pub tags_of_bytes : List ℕ → List ℕ
tags_of_bytes [] = []
tags_of_bytes (b ∷ bs) = b % 16 ∷ b / 16 % 16 ∷ tags_of_bytes bs

-- The frame in a block of 4224 bytes: 4096 bytes of data, and then two tags a byte.
abbrev pub frame_of : List ℕ → Frame
frame_of xs = make_frame (take 4096 xs) (tags_of_bytes (drop 4096 xs))

abbrev pub frame_cases : Option (List ℕ) → Option Frame
frame_cases (Some xs) = Some (frame_of xs)
frame_cases None = None

-- The frames in blocks.
abbrev pub frames_of : List (Option (List ℕ)) → List (Option Frame)
frames_of = map frame_cases

-- Whether a frame is present.
abbrev pub is_there : Option (List ℕ) → Bool
is_there (Some xs) = true
is_there None = false

-- Which frames are present.
abbrev pub presence : List (Option (List ℕ)) → List Bool
presence = map is_there

-- the block f has been written
abbrev pub IsPresent : List (Option (List ℕ)) → ℕ → Type 0
IsPresent cs f = (xs : List ℕ) × (get_or cs f None ≡ Some xs)

-- The block of a frame, empty where it is absent.
abbrev pub block_or : Option (List ℕ) → List ℕ
block_or (Some xs) = xs
block_or None = []

-- the block f, where there is one
abbrev pub block_at : List (Option (List ℕ)) → ℕ → List ℕ
block_at cs f = block_or (get_or cs f None)

-- A block of zeros.
unfoldable pub zero_block : List ℕ
zero_block = replicate 4224 0

-- A block with n bytes from i on replaced by those of another list.
abbrev pub with_part : List ℕ → ℕ → ℕ → List ℕ → List ℕ
with_part xs i n ws = take i xs ++ (refill n (take n (drop i xs)) ws ++ drop (i + n) xs)

-- each block that there is has 4224 bytes
abbrev pub AreBlocks : List (Option (List ℕ)) → Type 0
AreBlocks cs = (f : ℕ) (xs : List ℕ) → get_or cs f None ≡ Some xs → length xs ≡ 4224

-- the frame f has the bytes and the tags of the block ws, cut or filled up from its own, and all
-- else is as it was
abbrev pub with_block : List (Option Frame) → ℕ → List ℕ → List (Option Frame)
with_block fs f ws =
    let bytes = refill 4096 (frame_at fs f).bytes ws in
    let tags = refill 256 (frame_at fs f).tags (tags_of_bytes (drop 4096 ws)) in
    slice_set fs f (Some (make_frame bytes tags))
