use Rattle.std.proofs.Common.{rules, arith, ◌≡◌, ◌∙◌, ℕ, ◌≤◌, ◌<◌, ◌+◌, ◌-◌, ◌*◌, ◌/◌, ◌%◌, sym, ap}
use Rattle.std.proofs.Math.Nat.{div-mul-le_self, mul-mod_left, div-add-mod, mod-lt}
use Rattle.scudo_header.specs.Classes.{size_of}
use Rattle.scudo_header.specs.Regions.{region_of}
use Rattle.heap_bounds.specs.Blocks.{IsInRegion, IsBlockAt}
use Rattle.heap_bounds.proofs.blocks.Block.of.Goals as goal

-- The block of an address in a region, by how far the address is from the region's start.
block_at : (class addr start size : ℕ) → IsInRegion class addr → size ≡ size_of class → 32 ≤ size
    → start ≡ region_of class + (addr - region_of class) / size * size
    → IsBlockAt addr (record { class = class; start = start; size = size })
block_at class addr start size inside e some is =
    let far = addr - region_of class in
    let less : far / size * size ≤ far = div-mul-le_self far size in
    let rest : size * (far / size) + far % size ≡ far = div-add-mod far size in
    let short : far % size < size = mod-lt far (omega (arith, some)) in
    let behind : start - region_of class ≡ far / size * size = omega (arith, is) in
    record {
      region = inside;
      size = e;
      behind = omega (arith, is);
      whole = ap (λ k. k % size_of class) behind ∙ ap (λ k. (far / size * size) % k) (sym e) ∙ mul-mod_left (far / size) size;
      first = omega (arith, is, less, inside.first);
      last = omega (arith, is, rest, short, inside.first);
    }

pub returns-in_default : goal.returns-in_default
returns-in_default c = record { block = tt; none = λ _ k inside. c.in_default.not-Class k ((c.of.ensures.class k).1 inside) }

pub size_of_class-size-requires : goal.size_of_class-size-requires
size_of_class-size-requires c = record { class = ((c.of.ensures.class c.in-Class.class).0 c.in-Class.is).class }

pub returns-clause-block : goal.returns-clause-block
returns-clause-block c =
    block_at _ _ _ _ ((c.of.ensures.class c.in-Class.class).0 c.in-Class.is) c.size_of_class-size.ensures.size c.size_of_class-size.ensures.least (search rules)
