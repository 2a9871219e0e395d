-- A tenant whose admission is accepted starts Sound.
use Rattle.std.proofs.Common.{◌≡◌, ℕ, ◌+◌, ◌/◌, ◌^◌, ◌≤◌, None, List, ap, ◌∙◌, arith}
use Rattle.common.specs.declared.ranges.TheConstants.{STACK_PAGES}
use Rattle.mte_tags.specs.Memory.{Memory, page_at, pages_left, no_pages}
use Rattle.mte_tags.specs.Whole.{IsWhole}
use Rattle.mte_tags.specs.declared.state.TagMode.{TagMode}
use Rattle.mte_tags.specs.declared.state.TagMode.TheVariants.{Sync}
use Rattle.mte_tags.specs.declared.state.TagState.{TagState}
use Rattle.mte_tags.proofs.PageLaws.{attrs_at-with_new_pages_out, limit-with_new_pages}
use Rattle.mte_tags.proofs.StateLaws.{state-with_new_pages}
use Rattle.mte_tags.proofs.Whole.{whole-no_pages, whole-with_new_pages}
use Rattle.mte_elf.specs.Headers.{segments_of, entry_of}
use Rattle.mte_elf.specs.Images.{refusal_of, pages_of}
use Rattle.mte_elf.specs.Loading.{with_segments}
use Rattle.mte_elf.proofs.LoadingLemmas.{image_above, image_left}
use Rattle.mte_elf.proofs.WholeLemmas.{image_whole, limit-with_segments, state-with_segments}
use Rattle.scudo_heap.specs.Served.{IsUntouched}
use Rattle.mte_tenant.specs.Machines.{Start, start_of, first_memory, first_parts, first_registers}
use Rattle.mte_tenant.proofs.MachineLemmas.{none-no_pages, left-no_pages, limit-no_pages, attrs-none}
use Rattle.mte_tenant.proofs.Refusals.{Passed, passed}
use Rattle.mte_laws.specs.Discipline.{IsNew}
use Rattle.mte_laws.specs.TenantLaws.{TenantsStartSound}
use Rattle.mte_laws.proofs.Disciplines.{starts}

-- ---- the first memory

module _ (image : List ℕ) (pages : ℕ) (mode : TagMode) (good : refusal_of image ≡ None) (room : pages_of image + STACK_PAGES ≤ pages) where
  abbrev loaded : Memory
  loaded = with_segments image (no_pages pages mode) (segments_of image)

  above : (q : ℕ) → 65536 ≤ q → page_at loaded q ≡ None
  above q high = image_above image (no_pages pages mode) q good high (none-no_pages pages mode q)

  enough : 4 ≤ pages_left loaded
  enough =
      let empty = left-no_pages pages mode in
      let left = image_left image (no_pages pages mode) good (λ q k. none-no_pages pages mode q) (omega arith) in
      omega arith

  first-whole : IsWhole (first_memory image pages mode)
  unfolding first_memory
  first-whole =
      let empty = left-no_pages pages mode in
      whole-with_new_pages 4 loaded 0x3FFFC (record { 0 = 11 }) (λ i k. above (0x3FFFC + i) (omega arith)) enough
      (image_whole image (no_pages pages mode) good (λ q k. none-no_pages pages mode q) (omega arith) (whole-no_pages pages mode))

  first-limit : (first_memory image pages mode).limit ≡ pages
  unfolding first_memory
  first-limit = limit-with_new_pages 4 loaded 0x3FFFC (record { 0 = 11 }) ∙ limit-with_segments image (no_pages pages mode) (segments_of image) ∙ limit-no_pages pages mode

  first-mode : (first_memory image pages mode).state.mode ≡ mode
  unfolding first_memory no_pages
  first-mode = ap (λ (s : TagState). s.mode) (state-with_new_pages 4 loaded 0x3FFFC (record { 0 = 11 }) ∙ state-with_segments image (no_pages pages mode) (segments_of image))

  first-untouched : IsUntouched (first_memory image pages mode)
  unfolding first_memory
  first-untouched = λ q lo hi.
      attrs_at-with_new_pages_out 4 loaded 0x3FFFC (record { 0 = 11 }) q (λ l h. absurd (omega arith)) ∙ attrs-none loaded q (above q (omega arith))

first-new : (t : Start) → Passed t → t.terms.mode ≡ Sync → IsNew (first_memory t.image t.terms.pages t.terms.mode) t.terms.pages
first-new t p sync =
    let limit = first-limit t.image t.terms.pages t.terms.mode p.image p.room in
    record {
      whole = first-whole t.image t.terms.pages t.terms.mode p.image p.room;
      sync = first-mode t.image t.terms.pages t.terms.mode p.image p.room ∙ sync;
      limit = omega arith;
      most = p.most;
      untouched = first-untouched t.image t.terms.pages t.terms.mode p.image p.room;
    }

pub tenants-start : TenantsStartSound
unfolding start_of first_parts
tenants-start = λ frames ledger id t r sync.
    starts (first_memory t.image t.terms.pages t.terms.mode) (t.terms.seed / 2 ^ 32) t.terms.pages (first_registers (entry_of t.image) t.terms.seed).rgsr (first-new t (passed frames ledger id t r) sync)
