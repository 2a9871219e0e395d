-- The files of a session.
use Rattle.std.specs.Prelude.{ℕ, List, map, Vec}
use Rattle.std.specs.declared.alloc.Global.{Global}

-- Their bytes.
abbrev pub contents : List (Vec ℕ Global) → List (List ℕ)
contents files = map (λ f. f.items) files
