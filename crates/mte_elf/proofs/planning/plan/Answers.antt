use Rattle.std.proofs.Common.{◌≡◌, ap, sym, ◌∙◌, ◌≤◌, length, map, sym, filter, true, rules}
use Rattle.mte_elf.specs.Images.{is_in_range}
use Rattle.std.specs.List.{list_all}
use Rattle.mte_elf.specs.Headers.{segment_of, is_loaded, headers_of, header_count_of}
use Rattle.mte_elf.proofs.ImageLemmas.{pages-lt, length-headers_from, header_count-le}
use Rattle.mte_elf.proofs.planning.plan.Goals as goal

pub count_pages-pages-requires : goal.count_pages-pages-requires
count_pages-pages-requires c =
    let items : c.as_slice-5.result.now ≡ map segment_of (filter is_loaded c.in_ok-headers.headers.items) = search rules in
    let ranges : list_all (is_in_range (length c.args.file.now)) (map segment_of (filter is_loaded c.in_ok-headers.headers.items)) ≡ true = search rules in
    let table : c.in_ok-headers.headers.items ≡ headers_of c.args.file.now = search rules in
    let few : header_count_of c.args.file.now ≤ 64 = header_count-le c.args.file.now (sym c.holds_table.ensures ∙ c.if-not-holds_table.false) in
    rw items (pages-lt (length c.args.file.now) (header_count_of c.args.file.now) c.in_ok-headers.headers.items ranges (ap length table ∙ length-headers_from _ _ _) few)
