-- Accesses through the pointer to a live chunk, within its granules, pass.
use Rattle.std.proofs.Common.{◌≡◌, ℕ, zero, suc, ◌+◌, ◌/◌, ◌%◌, ◌^◌, ◌<◌, ◌≤◌, true, Some, None, refl, sym, ap, ◌∙◌, arith}
use Rattle.a64_bits.specs.Addresses.{plain}
use Rattle.mte_tags.specs.Memory.{Memory, has, tag_at, attrs_at}
use Rattle.mte_tags.specs.Accesses.{addresses, access_cases, access_fault, read_access, write_access, read_fault, write_fault}
use Rattle.mte_tags.specs.declared.state.TagMode.TheVariants.{Sync}
use Rattle.mte_tags.specs.declared.access.Access.{Access}
use Rattle.mte_tags.proofs.FaultLaws.{AllAt, first_fault-none}
use Rattle.scudo_secondary.specs.Mappings.{mapping_of}
use Rattle.scudo_secondary.specs.Mappings as secondary
use Rattle.scudo_heap.specs.Chunks.{end_of}
use Rattle.scudo_heap.specs.Served.{heap_page}
use Rattle.scudo_heap.proofs.MapLemmas.{without, inside-in}
use Rattle.mte_laws.proofs.Serving.{blocks-of}
use Rattle.mte_laws.proofs.BlockCalls.{block-open}
use Rattle.mte_laws.proofs.Larges.{check-pointer-of}
use Rattle.mte_laws.proofs.Disciplines.{chunks-tagged}
use Rattle.mte_laws.specs.Uses.{IsUsable, ChunksMayBeUsed}

-- the addresses between two are in pages of the heap, with a tag
record IsOpenWith (m : Memory) (tag from to : ℕ) : Type 0 where
  attrs : (a : ℕ) → from ≤ a → a < to → attrs_at m (a / 4096) ≡ Some 11
  tags : (a : ℕ) → from ≤ a → a < to → tag_at m a ≡ tag
  below : to ≤ 2 ^ 30

all-at : (n : ℕ) (m : Memory) (x : Access) (b from to : ℕ) → IsOpenWith m x.tag from to → from ≤ b → b + n ≤ to → AllAt m x 11 (addresses b n)
unfolding addresses
all-at zero m x b from to o l u = tt
all-at (suc n) m x b from to o l u =
    let below = o.below in
    (o.attrs b l (omega arith), (λ c. o.tags b l (omega arith)), all-at n m x ((b + 1) % 2 ^ 56) from to o (omega arith) (omega arith))

no-fault : (n : ℕ) (m : Memory) (x : Access) (b from to : ℕ) → m.state.mode ≡ Sync → has 11 x.need ≡ true → IsOpenWith m x.tag from to → from ≤ b → b + n ≤ to → access_fault m x (addresses b n) ≡ None
unfolding access_fault
no-fault n m x b from to sync e o l u = ap (λ t. (access_cases t m x (addresses b n)).fault) sync ∙ first_fault-none m x (addresses b n) 11 e (all-at n m x b from to o l u)

usable : (m : Memory) (tag from to : ℕ) → m.state.mode ≡ Sync → IsOpenWith m tag from to → IsUsable m tag from to
unfolding read_fault write_fault
usable m tag from to sync o = λ pointer n check t l u.
    let there : IsOpenWith m (read_access pointer check).tag from to = record { attrs = o.attrs; tags = λ a x y. o.tags a x y ∙ sym t; below = o.below } in (
      no-fault n m (read_access pointer check) (plain pointer) from to sync refl there l u,
      no-fault n m (write_access pointer check) (plain pointer) from to sync refl there l u,
    )

pub chunks-usable : ChunksMayBeUsed
chunks-usable = record {
  blocks = λ s u x k e.
      let b = blocks-of s k in
      let i = k.placed.place u x e in
      let above = i.above in
      let within = i.within in
      let around = block-open s.world.memory s.world.heap.stacks x.place b.stacked b.served i in
      let below = around.below in
      usable s.world.memory x.tag x.place.user (end_of x.place) k.sync
      (record { attrs = λ a l r. around.at a (omega arith) (omega arith); tags = λ a l r. chunks-tagged.blocks s u a x k e l r; below = omega arith });
  pages = λ s u x k e.
      let there = k.large.place u x e in
      let f = check-pointer-of s.world.heap.maps.mappings u x.mapping k.heap.parts.mappings there in
      let w = without s.world.heap.maps.mappings x.mapping k.heap.parts.mappings (sym there ∙ ap (mapping_of s.world.heap.maps.mappings) (sym f.user)) in
      let above = w.above in
      let last = w.last in
      usable s.world.memory 0 x.mapping.start (secondary.end_of x.mapping) k.sync
      (record {
        attrs = λ a l r. k.heap.owned.mappings a (omega arith) (omega arith) ∙ ap heap_page (w.there a (inside-in a x.mapping l r));
        tags = λ a l r. chunks-tagged.pages s u a x k e l r;
        below = omega arith;
      });
}
