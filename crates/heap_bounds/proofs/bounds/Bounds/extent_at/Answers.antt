use Rattle.std.proofs.lemmas.List.Elements.{Contains-append_right}
use Rattle.std.proofs.lemmas.Option.{IfSome_then}
use Rattle.heap_bounds.proofs.bounds.Bounds.extent_at.Goals as goal

pub returns-in-None : goal.returns-in-None
returns-in-None c =
    IfSome_then c.large_at.result c.large_at.ensures (λ e k. Contains-append_right _ _ e k)
