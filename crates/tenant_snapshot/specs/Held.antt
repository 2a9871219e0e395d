-- The ownership of a handle: nothing, or the block of a box and its value.
use Rattle.std.specs.Prelude.{Option, Some, None}
use base.Fml.{Fml, feq}
use denote.RawPtr.{Ptr, null_ptr}
use Rattle.std.specs.declared.alloc.Global.{Global}
use Rattle.std.specs.contracts.impls.GlobalAllocator.TheImpl.{ghosts}
use Rattle.std.specs.Box.Ownership.{box_owns}
use Rattle.std.specs.Coded.{Coded, coded_option}
use Rattle.tenant_snapshot.specs.contracts.tenant.SnapshotTenant.{the_row}

-- each handle of the heap is alike
abbrev pub heap : Global
heap = record { memory = record { seal = tt } }

abbrev pub held_at : Ptr → Option the_row.Denot → Fml
held_at p None = feq Ptr p null_ptr
held_at p (Some x) = box_owns (ghosts.dealloc_token heap) the_row p x

-- The code of what a handle holds, by which proofs distinguish two.
abbrev pub coded_held : Coded (Option the_row.Denot)
coded_held = coded_option the_row.coded
