use Rattle.std.proofs.Common.{◌≡◌, ◌%◌, arith, replicate}
use Rattle.mte_tags.specs.Memory.{new_page}
use Rattle.tombolopan_c.proofs.Found.{map-replicate}
use Rattle.tombolopan_c.proofs.lent_page.LentPage.fill_new.Goals as goal

pub returns-clause-page : goal.returns-clause-page
unfolding new_page
returns-clause-page c =
    let low : c.args.attrs % 16 ≡ c.args.attrs = omega (arith, c.requires) in
    let tags = map-replicate 256 0 (omega arith) in
    λ i. record { attrs = low i; bytes = replicate 4096 0; tags = tags i }
