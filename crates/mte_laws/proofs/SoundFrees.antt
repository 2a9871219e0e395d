-- A careful free finds its chunk, and keeps the live chunks Sound.
use Rattle.std.proofs.Common.{◌≡◌, ℕ, ◌+◌, ◌-◌, ◌*◌, ◌%◌, ◌^◌, ◌<◌, ◌≤◌, ◌==◌, ◌&&◌, Bool, true, false, nat_lt, nat_le, eq-eqb, Some, Ok, ap, ◌∙◌, arith}
use Rattle.std.proofs.lemmas.Bool.{cond-true, cond-false}
use Rattle.std.proofs.lemmas.Bool.Decides.{nat_tests}
use Rattle.std.proofs.lemmas.Nat.{from_le_bytes-to_le_bytes_8}
use Rattle.std.specs.Int.{from_le_bytes, to_le_bytes, w64}
use Rattle.mte_tags.specs.Memory.{Memory}
use Rattle.mte_tags.specs.Accesses.{read_bytes}
use Rattle.scudo_header.specs.Classes.{size_of}
use Rattle.scudo_header.specs.Regions.{region_of}
use Rattle.scudo_header.specs.declared.config.TheConstants.{CLASSES}
use Rattle.scudo_header.specs.Headers.{packed_header, unpacked_header, header_word, state_number, origin_number}
use Rattle.scudo_header.specs.declared.headers.Header.{Header}
use Rattle.scudo_header.specs.declared.headers.Origin.{Origin}
use Rattle.scudo_header.specs.declared.headers.Origin.TheVariants.{Malloc, New, NewArray, Memalign}
use Rattle.scudo_header.proofs.HeaderLemmas.{checksum_of-small, unpacked-header-packed-header}
use Rattle.scudo_primary.specs.Blocks.{number_of, carved_count}
use Rattle.scudo_primary.proofs.BlockLemmas.{size-IsSize}
use Rattle.scudo_heap.specs.Stacks.{StackState, pages_of}
use Rattle.scudo_heap.specs.declared.chunk.Place.{Place}
use Rattle.mte_laws.specs.LiveChunks.{IsPlace, BlockChunk, LiveBlocks, chunk_at, IsHeaderOf}
use Rattle.scudo_heap.specs.Placing.{World}
use Rattle.scudo_heap.specs.Chunks.{end_of, block_end}
use Rattle.scudo_heap.specs.Checks.{place_of_header, is_allocated, is_place, is_mapped, header_at, check_block, check_chunk, check_header, check_pointer}
use Rattle.scudo_heap.specs.declared.chunk.Found.TheVariants.{InBlock}
use Rattle.mte_laws.specs.CarefulRuns.{HasHeader}
use Rattle.mte_tags.specs.Memory.{page_has, has_cases}
use Rattle.mte_laws.proofs.BlockCalls.{IsRoom, room, block-open}
use Rattle.mte_laws.proofs.SoundAllocations.{IsSoundIn}

pub origin_small : (o : Origin) → origin_number o < 4
origin_small Malloc = omega arith
origin_small New = omega arith
origin_small NewArray = omega arith
origin_small Memalign = omega arith

-- what fits the fields of a header
pub record AreSmall (header : Header) : Type 0 where
  pub class : header.class_id < 2 ^ 8
  pub state : state_number header.state ≡ 1
  pub size : header.size_or_unused_bytes < 2 ^ 20
  pub offset : header.offset < 2 ^ 16

pub small : (h : StackState) (p : Place) (header : Header) → IsRoom h p → IsHeaderOf header p → size_of p.class ≤ 131072 → AreSmall header
small h p header r e most =
    let b = r.block in
    let high = b.high in
    let above = r.above in
    let within = r.within in
    let e1 = e.class in
    let e2 = e.size in
    let e3 = e.offset in
    record { class = omega arith; state = ap state_number e.state; size = omega arith; offset = omega arith }

packed_small : (cookie user : ℕ) (header : Header) → AreSmall header → packed_header cookie user header < 2 ^ 64
unfolding packed_header
packed_small cookie user header s =
    let a = s.class in
    let b = s.state in
    let c = s.size in
    let d = s.offset in
    let o = origin_small header.origin in
    let k = checksum_of-small cookie user (header_word header) in
    omega arith

-- the header that was written is read back
pub read_back : (m : Memory) (cookie user : ℕ) (header : Header) → AreSmall header → read_bytes m (user - 16) 8 ≡ to_le_bytes w64 (packed_header cookie user header) → header_at m cookie user ≡ Some header
unfolding header_at
read_back m cookie user header s e =
    ap (λ bs. unpacked_header cookie user (from_le_bytes w64 bs)) e
    ∙ ap (unpacked_header cookie user) (from_le_bytes-to_le_bytes_8 (packed_header cookie user header) (packed_small cookie user header s))
    ∙ unpacked-header-packed-header cookie user header s.class s.size s.offset

place-is : (h : StackState) (p : Place) (header : Header) → IsRoom h p → IsHeaderOf header p → place_of_header p.user header ≡ p
place-is h p header r e =
    let above = r.above in
    let al = r.aligned in
    let bl = r.block.aligned in
    let o = e.offset in
    let b : p.user - 16 - 16 * header.offset ≡ p.block = omega arith in
    λ i. record { class = e.class i; block = b i; user = p.user; size = e.size i }

and : (a b : Bool) → a ≡ true → b ≡ true → (a && b) ≡ true
and true b e f = f
and false b e f = cc

is-place : (h : StackState) (p : Place) → IsPlace h p → is_place h p ≡ true
is-place h p i =
    let high = i.carved.class.high in
    let inside = i.carved.block.inside in
    let start = i.carved.block.start in
    let carved = i.carved.block.carved in
    let some = i.some in
    let within = i.within in
    let b : nat_le p.class CLASSES ≡ true = grind (arith, nat_tests) in
    let c : nat_le (region_of p.class) p.block ≡ true = grind (arith, nat_tests) in
    let d : ((p.block - region_of p.class) % size_of p.class == 0) ≡ true = eq-eqb _ _ start in
    let e : nat_lt (number_of p.class p.block) (carved_count p.class (pages_of h p.class)) ≡ true = grind (arith, nat_tests) in
    let f : nat_lt 0 p.size ≡ true = grind (arith, nat_tests) in
    let g : nat_le (end_of p) (block_end p) ≡ true = grind (arith, nat_tests) in
    and _ _ (and _ _ (and _ _ b (and _ _ (and _ _ c d) e)) f) g

module _ (w : World) (l : LiveBlocks) (x : BlockChunk) (s : IsSoundIn w l) (live : chunk_at l x.place.user ≡ Some x) (header : HasHeader w x.place.user x.header) where
  place : IsPlace w.heap.stacks x.place
  place = s.placed.place x.place.user x live

  header-check-pointer : check_header w.heap x.place.user (Some x.header) ≡ Ok (InBlock x.place x.header)
  unfolding check_chunk
  header-check-pointer =
      let i = place in
      let e = s.placed.header x.place.user x live in
      let class = e.class in
      let low = i.carved.class.low in
      let r = room w.heap.stacks x.place s.stacked i in
      let q : place_of_header x.place.user x.header ≡ x.place = place-is w.heap.stacks x.place x.header r e in
      let above = r.above in
      let offset = e.offset in
      let a : is_allocated x.header.state ≡ true = ap is_allocated e.state in
      let z : (x.header.class_id == 0) ≡ false = grind (arith, nat_tests) in
      let b : nat_le (16 + 16 * x.header.offset) x.place.user ≡ true = grind (arith, nat_tests) in
      cond-true _ _ _ a ∙ cond-false _ _ _ z ∙ cond-true _ _ _ b ∙ ap (λ t. check_block w.heap.stacks t x.header) q
      ∙ cond-true _ _ _ (is-place w.heap.stacks x.place i) ∙ cond-false _ _ _ (s.placed.unstacked x.place.user x live)

  is-mapped : is_mapped w.memory x.place.user ≡ true
  unfolding page_has
  is-mapped =
      let i = place in
      let above = i.above in
      let within = i.within in
      let o = block-open w.memory w.heap.stacks x.place s.stacked s.served i in
      let b : nat_le 16 x.place.user ≡ true = grind (arith, nat_tests) in
      and _ _ b (ap (λ t. has_cases t 3) (o.at (x.place.user - 16) (omega arith) (omega arith)))

  -- the checks find a live chunk whose header is as the heap wrote it
  pub check-pointer-live : check_pointer w.memory w.heap x.place.user ≡ Ok (InBlock x.place x.header)
  unfolding check_pointer header_at
  check-pointer-live =
      let i = place in
      let r = room w.heap.stacks x.place s.stacked i in
      let z = size-IsSize x.place.class i.carved.class in
      let most = z.most in
      let sm = small w.heap.stacks x.place x.header r (s.placed.header x.place.user x live) (omega arith) in
      let a : (x.place.user % 16 == 0) ≡ true = eq-eqb _ _ i.aligned in
      cond-true _ _ _ a ∙ cond-true _ _ _ is-mapped ∙ ap (check_header w.heap x.place.user) (read_back w.memory w.heap.cookie x.place.user x.header sm header) ∙ header-check-pointer
