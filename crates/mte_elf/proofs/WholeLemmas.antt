-- Loading leaves a whole memory whole, and its limit and tag state as they were.
use Rattle.std.proofs.Common.{◌≡◌, ℕ, ◌<◌, ◌≤◌, List, [], ◌∷◌, length, None, refl, ◌∙◌}
use Rattle.mte_tags.specs.Memory.{Memory, page_at, pages_left}
use Rattle.mte_tags.specs.Whole.{IsWhole}
use Rattle.mte_tags.proofs.PageLaws.{limit-with_new_pages}
use Rattle.mte_tags.proofs.StateLaws.{state-with-bytes-at, state-with_new_pages, limit-with-bytes-at}
use Rattle.mte_tags.proofs.Whole.{whole-with-bytes-at, whole-with_new_pages}
use Rattle.mte_elf.specs.Headers.{segments_of}
use Rattle.mte_elf.specs.Images.{first_page, page_count, refusal_of, pages_of}
use Rattle.mte_elf.specs.Loading.{attrs_of, file_part, with_segment, with_segments}
use Rattle.mte_elf.specs.declared.image.Segment.{Segment}
use Rattle.mte_elf.proofs.LoadingLemmas.{IsReady, ready_first, ready_next, ready_at_first}

pub limit-with_segments : (file : List ℕ) (m : Memory) (segments : List Segment) → (with_segments file m segments).limit ≡ m.limit
unfolding with_segments with_segment
limit-with_segments file m [] = refl
limit-with_segments file m (s ∷ more) =
    limit-with_segments file (with_segment file m s) more
    ∙ limit-with-bytes-at _ s.vaddr (file_part file s)
    ∙ limit-with_new_pages (page_count s) m (first_page s) (attrs_of s.flags)

pub state-with_segments : (file : List ℕ) (m : Memory) (segments : List Segment) → (with_segments file m segments).state ≡ m.state
unfolding with_segments with_segment
state-with_segments file m [] = refl
state-with_segments file m (s ∷ more) =
    state-with_segments file (with_segment file m s) more
    ∙ state-with-bytes-at _ s.vaddr (file_part file s)
    ∙ state-with_new_pages (page_count s) m (first_page s) (attrs_of s.flags)

whole_after : (file : List ℕ) (size : ℕ) (segments : List Segment) (m : Memory) → IsReady size m segments → IsWhole m → IsWhole (with_segments file m segments)
unfolding with_segments with_segment
whole_after file size [] m ready w = w
whole_after file size (s ∷ more) m ready w =
    let first = ready_first size m s more ready in
    whole_after file size more (with_segment file m s) (ready_next file size m s more ready)
    (whole-with-bytes-at _ s.vaddr (file_part file s) (whole-with_new_pages (page_count s) m (first_page s) (attrs_of s.flags) first.2 first.3 w))

pub image_whole : (file : List ℕ) (m : Memory) → refusal_of file ≡ None → ((page : ℕ) → page < 65536 → page_at m page ≡ None)
    → pages_of file ≤ pages_left m → IsWhole m → IsWhole (with_segments file m (segments_of file))
image_whole file m h free room w = whole_after file (length file) (segments_of file) m (ready_at_first file m h free room) w
