use Rattle.std.proofs.Common.{◌≡◌, ◌++◌, drop, map, filter}
use Rattle.mte_elf.specs.Headers.{is_loaded, segment_of}
use Rattle.mte_elf.proofs.headers.segments.Given as goal

abbrev pub invariant-loop-header : goal.invariant-loop-header
invariant-loop-header l =
    l.segments.items ++ map segment_of (filter is_loaded (drop l.header-index l.fn.headers))
    ≡ map segment_of (filter is_loaded l.fn.headers)
