use Rattle.std.proofs.Common.{◌≡◌, map, take}
use Rattle.tombolopan_c.specs.Pages.{page_told}
use Rattle.tombolopan_c.proofs.pages.told_pages.Given as goal

abbrev pub invariant-loop-page : goal.invariant-loop-page
invariant-loop-page l = l.entries.items ≡ map page_told (take l.page-index l.pages)
