-- The services, by x8.
use Rattle.std.specs.Prelude.{ℕ, ◌-◌, ◌%◌, ◌^◌, ◌==◌, min, List, ◌++◌, length, take, drop}
use Rattle.std.specs.Prelude.{true, Option, Some, None, if◌then◌else◌}
use Rattle.mte_tags.specs.declared.fault.MemFault.{MemFault}
use Rattle.mte_tags.specs.Memory.{Memory, pages_left}
use Rattle.mte_tags.specs.Accesses.{read_fault, read_bytes, after_read, write_fault, after_write}
use Rattle.scudo_heap.specs.declared.call.HeapCall.{HeapCall}
use Rattle.mte_svc.specs.declared.parts.TenantParts.{TenantParts}
use Rattle.mte_svc.specs.declared.services.SvcEnd.TheVariants.{Yield, Exit, Fault}
use Rattle.mte_svc.specs.declared.services.TheConstants.{EXIT, WRITE, READ, YIELD}
use Rattle.mte_svc.specs.declared.services.TheConstants.{STEPS_LEFT, PAGES_LEFT}
use Rattle.mte_svc.specs.Results.{Served, x_of, with_answer, resume_with, ends}
use Rattle.mte_svc.specs.HeapServices.{heap_call_in, after_heap_service}

-- ---- write: the x1 bytes at x0, or as many as there is space for, by one checked read

-- How many bytes a write takes: those that were requested, as far as there is space for output.
abbrev pub write_count : TenantParts → ℕ
write_count p = min (x_of p 1) p.history.output.left

-- The parts with n bytes more of output.
abbrev pub with_output : TenantParts → List ℕ → ℕ → TenantParts
with_output p bytes n = record p {
  history = record p.history {
    output = record {
      bytes = p.history.output.bytes ++ bytes;
      left = p.history.output.left - n;
    };
  };
}

abbrev pub write_cases : Option MemFault → TenantParts → Memory → ℕ → Served
write_cases (Some fault) p m n = ends p m (Fault fault)
write_cases None p m n =
    resume_with (with_output p (read_bytes m (x_of p 0) n) n) (after_read m (x_of p 0) n true) n

-- Service 1, write: bytes of memory go to the output, and x0 says how many.
unfoldable pub after_write_service : TenantParts → Memory → Served
after_write_service p m =
    write_cases (read_fault m (x_of p 0) (write_count p) true) p m (write_count p)

-- ---- read: the next x1 bytes of the input to x0, or as many as are left, by one checked write

-- How many bytes a read gives: those that were requested, as far as there is input.
abbrev pub read_count : TenantParts → ℕ
read_count p = min (x_of p 1) (length p.input)

abbrev pub read_cases : Option MemFault → TenantParts → Memory → ℕ → Served
read_cases (Some fault) p m n = ends p m (Fault fault)
read_cases None p m n =
    resume_with (record p { input = drop n p.input })
    (after_write m (x_of p 0) (take n p.input) true) n

-- Service 2, read: bytes of the input go to memory, and x0 says how many.
unfoldable pub after_read_service : TenantParts → Memory → Served
after_read_service p m =
    read_cases (write_fault m (x_of p 0) (read_count p) true) p m (read_count p)

-- ---- all services

-- A number that no service has returns 2^64 - 1.
abbrev pub no_such_service : ℕ
no_such_service = 2 ^ 64 - 1

-- A service that is no call of the heap, by its number.
abbrev pub by_number : ℕ → TenantParts → Memory → Served
by_number n p m =
    if n == EXIT then ends p m (Exit (x_of p 0 % 256))
    else (if n == WRITE then after_write_service p m
    else (if n == READ then after_read_service p m
    else (if n == YIELD then record { parts = with_answer p 0; memory = m; end = Yield }
    else (if n == STEPS_LEFT then resume_with p m p.left
    else (if n == PAGES_LEFT then resume_with p m (pages_left m)
    else resume_with p m no_such_service)))))

-- A service that is no heap call, by its number in x8.
unfoldable pub after_other_service : TenantParts → Memory → Served
after_other_service p m = by_number (x_of p 8) p m

abbrev pub service_cases : Option HeapCall → TenantParts → Memory → Served
service_cases (Some call) p m = after_heap_service p m call
service_cases None p m = after_other_service p m

-- The effect of an SVC on a tenant: a heap call, or another service.
unfoldable pub after_svc : TenantParts → Memory → Served
after_svc p m = service_cases (heap_call_in p) p m
