use Rattle.std.proofs.Common.{◌∙◌, ◌<◌, ◌≤◌, ◌%◌, ◌/◌, ◌-◌, ◌+◌, ◌*◌, ◌^◌, length, slice_index, sym, ap, arith}
use Rattle.mte_tags.proofs.Allowed.{byte_tags, allowed_count, allowed_tag, allowed_tags-length, byte_tags-length, tag_low, tag_high}
use Rattle.mte_tags.specs.declared.tags.TheConstants.{ALLOWED}
use Rattle.mte_tags.proofs.tags.allowed_at.Goals as goal

pub overflow_shr-result : goal.overflow_shr-result
overflow_shr-result c = let e = c.args.exclude in omega (arith, allowed_count (e % 256) (omega arith), byte_tags-length (e % 256))

pub returns-then-rank-count-clause-tag : goal.returns-then-rank-count-clause-tag
returns-then-rank-count-clause-tag c =
    let e = c.args.exclude in
    let n = allowed_count (e % 256) (omega arith) in
    allowed_tag (e % 256) c.args.rank (omega arith) (omega arith) ∙ sym (tag_low e c.args.rank (omega arith))

pub overflow_mul-result-2 : goal.overflow_mul-result-2
overflow_mul-result-2 c = let e = c.args.exclude in omega (arith, allowed_count (e % 256) (omega arith), allowed_tags-length e, byte_tags-length (e % 256), byte_tags-length (e / 256))

pub overflow_shr-result-2 : goal.overflow_shr-result-2
overflow_shr-result-2 c = let e = c.args.exclude in omega (arith, allowed_count (e % 256) (omega arith), allowed_tags-length e, byte_tags-length (e % 256), byte_tags-length (e / 256))

pub returns-clause-tag : goal.returns-clause-tag
returns-clause-tag c =
    let e = c.args.exclude in
    let n = allowed_count (e % 256) (omega arith) in
    let more : length (byte_tags (e % 256)) ≤ c.args.rank = omega (arith, c.if-rank-count.false) in
    let within : c.args.rank - length (byte_tags (e % 256)) < length (byte_tags (e / 256)) = omega (arith, allowed_tags-length e) in
    ap (λ k. slice_index ALLOWED (e / 256) / 2 ^ (3 * (c.args.rank - k)) % 8 + 8) n
    ∙ ap (λ k. k + 8) (allowed_tag (e / 256) (c.args.rank - length (byte_tags (e % 256))) (omega arith) within)
    ∙ sym (tag_high e c.args.rank more c.requires)
