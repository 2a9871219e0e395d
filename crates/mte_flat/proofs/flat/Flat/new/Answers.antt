use Rattle.std.proofs.Common.{ap, ◌∙◌}
use Rattle.std.specs.Ordering.{nat_cmp}
use Rattle.std.specs.FinMap.{get-empty}
use Rattle.mte_tags.specs.Memory.{no_pages, page_at}
use Rattle.mte_flat.proofs.flat.Flat.new.Goals as goal

pub returns-clause-free : goal.returns-clause-free
unfolding no_pages page_at
returns-clause-free c = λ page. ap (λ m. page_at m page) c.in_ok-pages.ensures ∙ get-empty nat_cmp page
