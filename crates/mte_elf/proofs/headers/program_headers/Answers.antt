use Rattle.std.proofs.Common.{◌≡◌, ◌++◌, ◌∷◌, [], arith, rules}
use Rattle.mte_elf.proofs.ImageLemmas.{headers_from-next, headers_from-all}
use Rattle.mte_elf.proofs.headers.program_headers.Goals as goal

pub loop-i-preserved : goal.loop-i-preserved
loop-i-preserved c =
    let next = headers_from-next c.args.file.now c.table_offset-at.result c.loop-i.i c.header_count-count.result c.loop-i.headers.items _ (omega arith) c.loop-i.invariant in
    let pushed : c.push.new.self.items ≡ c.loop-i.headers.items ++ c.program_header.result ∷ [] = search rules in
    rw (pushed, c.program_header.ensures) next

pub returns : goal.returns
returns c =
    headers_from-all c.args.file.now c.table_offset-at.result c.loop-i.i c.header_count-count.result c.loop-i.headers.items _ (omega arith) c.loop-i.invariant
