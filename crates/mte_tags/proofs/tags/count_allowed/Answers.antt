use Rattle.std.proofs.Common.{◌%◌, ◌/◌, arith}
use Rattle.mte_tags.proofs.Allowed.{allowed_count, allowed_tags-length, byte_tags-length}
use Rattle.mte_tags.proofs.tags.count_allowed.Goals as goal

pub returns-clause-count : goal.returns-clause-count
returns-clause-count c =
    let e = c.args.exclude in
    omega (arith, allowed_count (e % 256) (omega arith), allowed_count (e / 256) (omega arith), allowed_tags-length e)

pub returns-clause-most : goal.returns-clause-most
returns-clause-most c =
    let e = c.args.exclude in
    omega (arith, allowed_count (e % 256) (omega arith), allowed_count (e / 256) (omega arith), byte_tags-length (e % 256), byte_tags-length (e / 256))
