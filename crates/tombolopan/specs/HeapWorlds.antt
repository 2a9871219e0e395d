-- A heap with its memory and its generator as a value.
use Rattle.std.specs.Prelude.{ℕ, refl}
use Rattle.std.specs.Coded.{Coded, code_by, coded×, coded_ℕ}
use Rattle.mte_tags.specs.Memory.{Memory, coded_memory}
use Rattle.mte_tags.specs.declared.generator.Rgsr.{Rgsr}
use Rattle.scudo_heap.specs.Heaps.{HeapState, coded_heap}
use Rattle.scudo_heap.specs.Placing.{World}

-- The code of a generator, by which proofs distinguish two.
abbrev pub coded_rgsr : Coded Rgsr
coded_rgsr =
    code_by (ℕ × ℕ) (coded× coded_ℕ coded_ℕ)
    (λ r. (r.tag, r.seed))
    (λ c. record { tag = c.0; seed = c.1 })
    (λ _. refl)

-- The code of a world, by which proofs distinguish two.
abbrev pub coded_world : Coded World
coded_world =
    code_by (Memory × (HeapState × Rgsr))
    (coded× coded_memory (coded× coded_heap coded_rgsr))
    (λ w. (w.memory, (w.heap, w.rgsr)))
    (λ c. record { memory = c.0; heap = c.1.0; rgsr = c.1.1 })
    (λ _. refl)
