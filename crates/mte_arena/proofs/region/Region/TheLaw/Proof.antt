-- A `&` to a region shows the bytes of each frame that is present. Assumes `Logic`.
use mathlib.Core.List.{[]}
use contract.BorrowLft.{meet_⊑_left}
use denote.RawPtr.{RawPtr}
use denote.Param.Shared.{copy_shared}
use denote.Struct.Laws.{field_copy}
use denote.Struct.Lending.{of_Lends}
use Rattle.core.specs.contracts.marker.PhantomData as marker
use Rattle.mte_arena.specs.contracts.region.Region as C
use Rattle.mte_arena.proofs.region.Region.TheLaw.Statement.{statement}
use Rattle.mte_arena.proofs.Sharing.{region_laws, region_lends}

pub shares : statement
shares = of_Lends C.struct (C.the_codes (marker.the_row RawPtr).coded) C.the_heap C.the_lent (λ d p. region_laws d.start d.blocks)
    (copy_shared (marker.the_field RawPtr) (field_copy (marker.the_type RawPtr) tt), tt)
    (λ M 𝓤 𝓛 d p. region_lends 𝓛 C.the_row.lives (meet_⊑_left [] _) d.start d.blocks)
