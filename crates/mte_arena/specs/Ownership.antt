-- The ownership of an arena's parts, in the logic's terms: of each frame's 4224 bytes either raw
-- memory, which nothing can read, or the bytes that were written there.
use Rattle.std.specs.Prelude.{ℕ, ◌+◌, ◌*◌, ◌^◌, List, [], ◌∷◌, length, Option, Some, None}
use base.Fraction.{full_share}
use base.Fml.{Lft, Fml, ftrue, ffalse, fsep, flt, froom}
use mir.Syntax.{Ty, ty_array}
use mir.Raw.{raw}
use denote.RattleType.{RattleType}
use denote.Builtin.{u8}
use denote.Array.{Array}
use denote.Memory.{lone, part_at, shared_of}
use denote.Sharing.{nothing, said, beside}
use denote.RawPtr.{Ptr, block_ptr, null_ptr}

-- The type of a block.
abbrev pub Block : RattleType
Block = Array u8 4224

-- the frame at offset o of the allocation b
abbrev pub frame_owned : ℕ → ℕ → Option (List ℕ) → Fml
frame_owned b o None = froom (raw (lone Block.mir)) b o
frame_owned b o (Some xs) = part_at Block full_share xs b o

-- frames one after the other
abbrev pub frames_owned : ℕ → ℕ → List (Option (List ℕ)) → Fml
frames_owned b o [] = ftrue
frames_owned b o (c ∷ cs) = fsep (frame_owned b o c) (frames_owned b (o + 4224) cs)

-- an allocation has fewer than 2 ^ 63 bytes
abbrev pub addressable : List (Option (List ℕ)) → Fml
addressable cs = flt (length cs * 4224) (2 ^ 63)

-- The blocks of a region are owned, from a pointer on.
abbrev pub region_owned : Ptr → List (Option (List ℕ)) → Fml
region_owned null_ptr cs = ffalse
region_owned (block_ptr b o) cs = fsep (addressable cs) (frames_owned b o cs)

-- what a `&` shows: the bytes of the frames that are present, and nothing of the others
abbrev pub frame_shown : ℕ → ℕ → Option (List ℕ) → Lft → Fml
frame_shown b o None = nothing
frame_shown b o (Some xs) = shared_of Block xs b o

-- The blocks from an offset on are lent for reading.
abbrev pub frames_shown : ℕ → ℕ → List (Option (List ℕ)) → Lft → Fml
frames_shown b o [] = nothing
frames_shown b o (c ∷ cs) = beside (frame_shown b o c) (frames_shown b (o + 4224) cs)

-- The blocks of a region are lent for reading.
abbrev pub region_shown : Ptr → List (Option (List ℕ)) → Lft → Fml
region_shown null_ptr cs = said ffalse
region_shown (block_ptr b o) cs = beside (said (addressable cs)) (frames_shown b o cs)

-- the allocator's own token, by which the memory of n frames at p goes back to it
abbrev pub may_free : (Ty → Ptr → Fml) → Ptr → ℕ → Fml
may_free token p n = token (raw (ty_array (lone Block.mir) n)) p
