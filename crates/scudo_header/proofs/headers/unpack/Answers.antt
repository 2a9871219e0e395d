use Rattle.std.proofs.Common.{◌/◌, ◌%◌, ◌∙◌}
use Rattle.scudo_header.proofs.HeaderLemmas.{packed-header-header_of}
use Rattle.scudo_header.proofs.headers.unpack.Goals as goal

pub returns-clause-some : goal.returns-clause-some
returns-clause-some c =
    packed-header-header_of c.args.cookie c.args.pointer c.args.word _
    (λ i. record { class_id = c.args.word % 256; state = c.state_from.ensures i; origin = c.origin_from.ensures i; size_or_unused_bytes = c.args.word / 4096 % 1048576; offset = c.args.word / 4294967296 % 65536 })
    (c.if-word-checksum.false ∙ c.checksum.ensures)
