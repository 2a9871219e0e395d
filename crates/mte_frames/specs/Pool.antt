-- A pool of frames as contracts see it: the arena's frames, the quota that each is out under,
-- and what each quota has reserved and taken. A quota is known by its number; a number of which
-- nothing is reserved is no quota's.
--     frames_left p               how many frames no quota has reserved
--     with_bytes_at p f ws        p with other bytes in the frame f
--     with_bytes_at_cases p f ws  the same where f is an `Option`, and p at `None`
--     with_block_at p f ws        p with other bytes and tags in the frame f
--     IsHeldBy p f q              the frame f is out under the quota q
--     IsTaken p f                 the frame f is out under some quota
--     IsSound p                   what holds of every pool
--     KeepsOthers q p n           from p to n all other quotas, and the frames out under them, stay
use Rattle.std.specs.Prelude.{◌≡◌, ◌≢◌, ◌↔◌, ℕ, ◌+◌, ◌-◌, ◌<◌, ◌≤◌, if◌then◌else◌}
use Rattle.std.specs.Prelude.{nat_eq, List, [], ◌∷◌, length, sum, get_or, Option, Some, None}
use Rattle.common.specs.declared.limits.TheConstants.{MAX_FRAMES}
use Rattle.mte_arena.specs.Blocks.{with_block}
use Rattle.mte_arena.specs.Frames.{Frame, IsLive, with_bytes, with_bytes_cases}

-- Frames, under which quota each one is out, and how many each quota has reserved and taken.
pub record Pool : Type 0 where
  pub frames : List (Option Frame)
  pub owners : List (Option ℕ)
  pub reserved : List ℕ
  pub taken : List ℕ
  -- for how many elements each of the pool's lists has memory
  pub capacities : List ℕ

-- A pool of its parts.
abbrev pub make_pool : List ℕ → List (Option Frame) → List (Option ℕ) → List ℕ → List ℕ → Pool
make_pool cs fs os rs ts =
    record { frames = fs; owners = os; reserved = rs; taken = ts; capacities = cs }

-- the frame f with the bytes ws, and all else as it was
abbrev pub with_bytes_at : Pool → ℕ → List ℕ → Pool
with_bytes_at p f ws =
    make_pool p.capacities (with_bytes p.frames f ws) p.owners p.reserved p.taken

-- the same of the frame in f, if any
abbrev pub with_bytes_at_cases : Pool → Option ℕ → List ℕ → Pool
with_bytes_at_cases p f ws =
    make_pool p.capacities (with_bytes_cases p.frames f ws) p.owners p.reserved p.taken

-- the frame f with the bytes and tags of the block ws
abbrev pub with_block_at : Pool → ℕ → List ℕ → Pool
with_block_at p f ws =
    make_pool p.capacities (with_block p.frames f ws) p.owners p.reserved p.taken

-- The frames that no quota has reserved.
abbrev pub frames_left : Pool → ℕ
frames_left p = length p.frames - sum p.reserved

-- The frames that a quota has reserved.
abbrev pub reserved_by : Pool → ℕ → ℕ
reserved_by p q = get_or p.reserved q 0

-- The frames that a quota has taken.
abbrev pub taken_by : Pool → ℕ → ℕ
taken_by p q = get_or p.taken q 0

-- A quota may take one frame more.
abbrev pub HasFrameLeft : Pool → ℕ → Type 0
HasFrameLeft p q = taken_by p q < reserved_by p q

-- A frame was taken by a quota.
abbrev pub IsHeldBy : Pool → ℕ → ℕ → Type 0
IsHeldBy p f q = get_or p.owners f None ≡ Some q

-- A frame was taken by some quota.
abbrev pub IsTaken : Pool → ℕ → Type 0
IsTaken p f = (q : ℕ) × IsHeldBy p f q

-- 1 for a frame that is out under q
abbrev pub is_owned : ℕ → Option ℕ → ℕ
is_owned q None = 0
is_owned q (Some k) = if nat_eq q k then 1 else 0

-- how many frames are out under q
abbrev pub owned_by : ℕ → List (Option ℕ) → ℕ
owned_by q [] = 0
owned_by q (c ∷ cs) = is_owned q c + owned_by q cs

-- The invariant of every pool: nobody takes more than was reserved, and what is reserved is there.
pub record IsSound (p : Pool) : Type 0 where
  pub few : length p.frames ≤ MAX_FRAMES
  -- there is a place for each frame and for each number of a quota, of which there are as many
  pub owners_len : length p.owners ≡ length p.frames
  pub reserved_len : length p.reserved ≡ length p.frames
  pub taken_len : length p.taken ≡ length p.frames
  -- what is reserved is there, and what is taken was reserved
  pub reserved_all : sum p.reserved ≤ length p.frames
  pub taken_within : (q : ℕ) → taken_by p q ≤ reserved_by p q
  pub taken_count : (q : ℕ) → taken_by p q ≡ owned_by q p.owners
  -- a frame that is out is present
  pub live : (f q : ℕ) → IsHeldBy p f q → IsLive p.frames f

-- A call for quota q keeps all other quotas: their counts and their frames.
pub record KeepsOthers (q : ℕ) (p n : Pool) : Type 0 where
  -- how many frames there are
  pub count : length n.frames ≡ length p.frames
  -- their counts
  pub counts : (k : ℕ) → k ≢ q → (reserved_by n k ≡ reserved_by p k) × (taken_by n k ≡ taken_by p k)
  -- which frames are out under them
  pub out : (f k : ℕ) → k ≢ q → IsHeldBy p f k ↔ IsHeldBy n f k
  -- the bytes and tags of those
  pub frames : (f k : ℕ) → k ≢ q → IsHeldBy p f k → get_or n.frames f None ≡ get_or p.frames f None
