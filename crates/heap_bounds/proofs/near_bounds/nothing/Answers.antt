use Rattle.std.proofs.Common.{◌≡◌}
use Rattle.std.proofs.lemmas.List.{length-replicate}
use Rattle.std.proofs.lemmas.List.Elements.{All-replicate}
use Rattle.heap_bounds.proofs.near_bounds.nothing.Goals as goal

pub returns : goal.returns
returns c = record {
  places = length-replicate 128 c.none-none.result;
  each = All-replicate (λ r. r.len ≡ 0) 128 c.none-none.result c.none-none.ensures;
}
