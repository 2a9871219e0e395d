-- The heap of a tenant: its size classes, and the mappings of the chunks with pages of their own.
use Rattle.std.specs.Prelude.{ℕ, ◌==◌, [], filter, not, refl}
use Rattle.std.specs.Coded.{Coded, code_by, coded×, coded_ℕ}
use Rattle.scudo_secondary.specs.Mappings.{SecondaryState, coded_maps, with_mapping}
use Rattle.scudo_secondary.specs.declared.mappings.Mapping.{Mapping}
use Rattle.scudo_heap.specs.Stacks.{StackState, coded_stacks, empty_stacks}

-- cookie: what the checksums of the headers start from
pub record HeapState : Type 0 where
  pub cookie : ℕ
  pub stacks : StackState
  pub maps : SecondaryState

-- A heap of its parts.
abbrev pub heap_of : ℕ → StackState → SecondaryState → HeapState
heap_of cookie s ms = record { cookie = cookie; stacks = s; maps = ms }

-- The code of a heap, by which proofs distinguish two.
abbrev pub coded_heap : Coded HeapState
coded_heap =
    code_by (ℕ × (StackState × SecondaryState)) (coded× coded_ℕ (coded× coded_stacks coded_maps))
    (λ h. (h.cookie, (h.stacks, h.maps)))
    (λ c. record { cookie = c.0; stacks = c.1.0; maps = c.1.1 })
    (λ _. refl)

-- A heap for `pages` pages, without blocks and mappings.
abbrev pub empty_heap : ℕ → ℕ → HeapState
empty_heap cookie pages =
    heap_of cookie (empty_stacks pages) (record { limit = pages; mappings = [] })

-- the list of mappings with one more, and without one
unfoldable pub with_more : SecondaryState → Mapping → SecondaryState
with_more ms m = record ms { mappings = with_mapping ms.mappings m }

-- The mappings without one.
unfoldable pub with_less : SecondaryState → Mapping → SecondaryState
with_less ms m = record ms { mappings = filter (λ n. not (n.user == m.user)) ms.mappings }
