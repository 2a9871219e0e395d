use Rattle.std.proofs.Common.{◌≡◌, length, rules}
use Rattle.mte_tags.specs.Memory.{with_new_pages}
use Rattle.mte_elf.specs.Images.{first_page, page_count}
use Rattle.mte_elf.specs.Loading.{attrs_of}
use Rattle.mte_elf.proofs.LoadingLemmas.{segment_mapped}
use Rattle.mte_elf.proofs.loading.load_segment.Goals as goal

pub load_bytes-requires : goal.load_bytes-requires
load_bytes-requires g c =
    let mapped : g.M.Tagged.memory c.map_pages.new.self ≡ with_new_pages (g.M.Tagged.memory c.args.memory.now) (first_page c.args.segment.now) (page_count c.args.segment.now) (attrs_of c.args.segment.now.flags) = search rules in
    rw mapped (segment_mapped _ (length c.args.file.now) c.args.segment.now _ c.requires.range c.requires.some c.segment_bytes.ensures.count)
