use Rattle.std.proofs.Common.{◌≡◌, ◌*◌, ◌∷◌, [], ◌∙◌, replicate, refl, ap}
use Rattle.std.specs.Prelude.{vec_capacity}
use Rattle.scudo_header.specs.declared.config.TheConstants.{CLASSES}
use Rattle.scudo_primary.specs.Inner.{no_list}
use Rattle.scudo_primary.specs.Pools.{empty_pool}
use Rattle.scudo_primary.proofs.NewLemmas.{new-invariant, new-view}
use Rattle.scudo_primary.proofs.pool.Primary.new.Goals as goal

pub invariant_of-result : goal.invariant_of-result
invariant_of-result c = new-invariant _ c.args.pages refl refl refl c.requires c.in_ok-entries.ensures.capacity c.in_ok-numbers.ensures.capacity

pub returns : goal.returns
returns c =
    let e : vec_capacity c.in_ok-entries.entries ≡ 128 * c.args.pages = c.in_ok-entries.ensures.exact in
    let f : vec_capacity c.in_ok-numbers.numbers ≡ CLASSES * c.args.pages = c.in_ok-numbers.ensures.exact in
    new-view (record { entries = c.in_ok-entries.entries; numbers = c.in_ok-numbers.numbers; lists = replicate CLASSES no_list; used = 0; limit = c.args.pages }) c.args.pages refl refl refl
    ∙ ap (λ n. empty_pool c.args.pages (n ∷ vec_capacity c.in_ok-numbers.numbers ∷ [])) e
    ∙ ap (λ n. empty_pool c.args.pages (128 * c.args.pages ∷ n ∷ [])) f
