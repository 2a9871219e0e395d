-- Facts about an obstacle.
use Rattle.std.specs.Prelude.{ℕ, List, Option, Some, codes, ⊤}
use Rattle.common.specs.declared.obstacle.Obstacle.{Obstacle}
use Rattle.common.specs.declared.obstacle.Obstacle.TheVariants.{OutOfMemory, Refused}

-- If it is a refusal, P holds of the refusal. Memory may run out instead of any answer.
abbrev pub IfRefused : {R : Type 0} → Obstacle R → (R → Type 0) → Type 0
IfRefused OutOfMemory P = ⊤
IfRefused (Refused r) P = P r

-- Its text, by a refusal's text.
abbrev pub obstacle_text : {R : Type 0} → (R → Option (List ℕ)) → Obstacle R → Option (List ℕ)
obstacle_text text OutOfMemory = Some (codes "out of memory")
obstacle_text text (Refused r) = text r
