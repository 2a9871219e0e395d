-- The effect of a write to a page on the frame that holds it.
use Rattle.std.specs.Prelude.{ℕ, ◌+◌, ◌*◌, Bool, ◌++◌, take, drop, replicate, slice_set}
use Rattle.std.specs.Prelude.{Some, if◌then◌else◌}
use Rattle.mte_arena.specs.Frames.{Frame, make_frame, with_run}
use Rattle.mte_frames.specs.Pool.{Pool, make_pool}

-- p with x as the frame f
abbrev pub with_frame : Pool → ℕ → Frame → Pool
with_frame p f x =
    make_pool p.capacities (slice_set p.frames f (Some x)) p.owners p.reserved p.taken

-- a frame with n granules from granule g on retagged, and their bytes zero where that is requested
abbrev pub retagged_frame : Frame → ℕ → ℕ → ℕ → Bool → Frame
retagged_frame x g n t zero_it =
    make_frame
    (if zero_it
    then take (16 * g) x.bytes ++ (replicate (16 * n) 0 ++ drop (16 * g + 16 * n) x.bytes)
    else x.bytes)
    (with_run x.tags g n t)
