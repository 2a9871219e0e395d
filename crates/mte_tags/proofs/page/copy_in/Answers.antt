use Rattle.std.proofs.Common.{◌≤◌, ◌∙◌, ◌+◌, ◌%◌, refl, length, arith}
use Rattle.mte_tags.proofs.PageRuns.{copied_in}
use Rattle.mte_tags.proofs.page.copy_in.Goals as goal

pub returns-then-bytes-eq8 : goal.returns-then-bytes-eq8
returns-then-bytes-eq8 c =
    let room : c.args.at % 4096 + length c.args.bytes.now ≤ length c.args.page.now = omega arith in
    copied_in c.args.bytes.now _ c.args.page.now (c.args.at % 4096) 8 (c.copy_from_slice-then-bytes-eq8.ensures.after ∙ c.copy_from_slice.ensures.after) c.if-bytes-eq8.true room

pub returns-then-bytes-eq4 : goal.returns-then-bytes-eq4
returns-then-bytes-eq4 c =
    let room : c.args.at % 4096 + length c.args.bytes.now ≤ length c.args.page.now = omega arith in
    copied_in c.args.bytes.now _ c.args.page.now (c.args.at % 4096) 4 (c.copy_from_slice-then-bytes-eq4-2.ensures.after ∙ c.copy_from_slice-then-bytes-eq4.ensures.after) c.if-bytes-eq4.true room

pub returns-else-bytes-eq4 : goal.returns-else-bytes-eq4
returns-else-bytes-eq4 c =
    let room : c.args.at % 4096 + length c.args.bytes.now ≤ length c.args.page.now = omega arith in
    copied_in c.args.bytes.now _ c.args.page.now (c.args.at % 4096) (length c.args.bytes.now) c.copy_from_slice-else-bytes-eq4.ensures.after refl room
