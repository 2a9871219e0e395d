use Rattle.std.proofs.Common.{arith}
use Rattle.scudo_heap.proofs.CheckLemmas.{mapping-bounds}
use Rattle.scudo_heap.proofs.checks.in_pages.Goals as goal

pub end-requires : goal.end-requires
end-requires c = let b = mapping-bounds _ _ _ c.in-Some.ensures.mappings c.in-Some.ensures.mapping in let l = b.last in omega arith

pub overflow_sub-bytes : goal.overflow_sub-bytes
overflow_sub-bytes c = let b = mapping-bounds _ _ _ c.in-Some.ensures.mappings c.in-Some.ensures.mapping in let l = b.below in omega arith

pub returns-clause-end : goal.returns-clause-end
returns-clause-end c =
    let b = mapping-bounds _ _ _ c.in-Some.ensures.mappings c.in-Some.ensures.mapping in
    let l = b.last in
    let u = b.below in
    let t = c.if-from-bytes.false in
    (omega arith, omega arith, omega arith)
