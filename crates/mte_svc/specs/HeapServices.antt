-- The services of the heap: each is a call of the heap, which is entered where it is answered. One
-- that aborts changes nothing.
use Rattle.std.specs.Prelude.{ℕ, Option, Result, Ok, Err}
use Rattle.mte_tags.specs.Memory.{Memory}
use Rattle.scudo_heap.specs.declared.abort.HeapAbort.{HeapAbort}
use Rattle.scudo_heap.specs.declared.call.HeapCall.{HeapCall}
use Rattle.scudo_heap.specs.Placing.{World, world_of}
use Rattle.scudo_heap.specs.Calls.{CallResult, after_call}
use Rattle.mte_svc.specs.declared.parts.TenantParts.{TenantParts}
use Rattle.mte_svc.specs.declared.services.SvcEnd.TheVariants.{Abort}
use Rattle.mte_svc.specs.Calls.{heap_call_of}
use Rattle.mte_svc.specs.Results.{Served, x_of, resume_with, ends, with_logged_call}

-- The heap call that a tenant's registers ask for, if its service is one of the heap.
abbrev pub heap_call_in : TenantParts → Option HeapCall
heap_call_in p = heap_call_of (x_of p 8) (x_of p 0) (x_of p 1)

-- The parts of a tenant that a heap call changes: its memory, its heap, its generator of random
-- tags.
abbrev pub world_in : TenantParts → Memory → World
world_in p m = world_of m p.heap p.regs.rgsr

-- The parts of a tenant with the heap and the generator of a world.
abbrev pub with_world : TenantParts → World → TenantParts
with_world p w = record p { heap = w.heap; regs = record p.regs { rgsr = w.rgsr } }

-- A call with an answer is entered, with the world that it left; the pointer of one that aborts is
-- x0.
abbrev pub heap_service_cases :
    TenantParts → Memory → HeapCall → World → Result ℕ HeapAbort → Served
heap_service_cases p m call w (Err abort) = ends p m (Abort abort (x_of p 0))
heap_service_cases p m call w (Ok answer) = resume_with
    (with_logged_call (with_world p w) (record { call = call; answer = answer }))
    w.memory answer

-- The service that ends with the result of a heap call.
abbrev pub finish_call : TenantParts → Memory → HeapCall → CallResult → Served
finish_call p m call r = heap_service_cases p m call r.world r.answer

-- A tenant after the service of a heap call.
unfoldable pub after_heap_service : TenantParts → Memory → HeapCall → Served
after_heap_service p m call = finish_call p m call (after_call (world_in p m) call)
