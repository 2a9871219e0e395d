use Rattle.std.proofs.Common.{◌∙◌, ap}
use Rattle.scudo_header.specs.Headers.{unpacked_header}
use Rattle.scudo_header.proofs.HeaderLemmas.{unpacked-header-packed-header, packed_sum}
use Rattle.scudo_header.proofs.headers.pack.Goals as goal

pub returns-clause-back : goal.returns-clause-back
returns-clause-back c =
    let u = c.unchecked_word-word.ensures in
    ap (unpacked_header c.args.cookie c.args.pointer) (packed_sum c.args.cookie c.args.pointer _ _ _ c.args.header.now u.word u.below c.checksum.ensures c.from.ensures)
    ∙ unpacked-header-packed-header c.args.cookie c.args.pointer c.args.header.now u.class c.requires u.offset
