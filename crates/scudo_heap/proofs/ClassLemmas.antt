-- Allocation in a class, step by step.
use Rattle.std.proofs.Common.{◌≡◌, ◌≢◌, ℕ, ◌+◌, ◌-◌, ◌*◌, ◌/◌, ◌%◌, ◌^◌, ◌<◌, ◌≤◌, ◌&&◌, nat_le, true, false, List, [], ◌∷◌, slice_get, Some, None, refl, sym, ap, ◌∙◌, arith}
use Rattle.std.proofs.lemmas.Bool.{cond-true, cond-false}
use Rattle.std.proofs.Math.Nat.{mul-mod_left, mul-mod_right, div-mul-le_self, lt-div-mul-add}
use Rattle.mte_tags.specs.Memory.{pages_left}
use Rattle.scudo_header.specs.Classes.{size_of}
use Rattle.scudo_header.specs.declared.headers.Origin.{Origin}
use Rattle.scudo_primary.specs.Blocks.{IsBlock}
use Rattle.scudo_primary.specs.Blocks.{IsClass}
use Rattle.scudo_primary.proofs.BlockLemmas.{size-IsSize, block-IsCell}
use Rattle.scudo_heap.specs.declared.chunk.Place.{Place}
use Rattle.scudo_heap.specs.declared.request.Request.{Request}
use Rattle.scudo_heap.specs.declared.chunk.Chunk.{Chunk}
use Rattle.scudo_heap.specs.declared.chunk.Chunk.TheVariants.{Small}
use Rattle.scudo_heap.specs.Stacks.{stack_of}
use Rattle.scudo_heap.specs.Placing.{World, more_pages, after_grow, after_place}
use Rattle.scudo_heap.specs.Allocation.{AllocationResult, allocation_of, no_chunk, place_in, is_empty, after_take, with_free_block, after_class_allocation, need_of}
use Rattle.scudo_heap.specs.Chunks.{end_of, block_end}
use Rattle.scudo_heap.specs.Inner.{IsAlign, FitsClass, FitsIn}

-- ---- where a chunk lies in a block

pub divides : (x s : ℕ) → 0 < s → s % 16 ≡ 0 → x % s ≡ 0 → x % 16 ≡ 0
divides x s p h e =
    let a : x ≡ s * (x / s) = omega arith in
    let b : s ≡ 16 * (s / 16) = omega arith in
    let c : x ≡ 16 * (s / 16 * (x / s)) = a ∙ ap (λ t. t * (x / s)) b ∙ grind arith in
    ap (λ t. t % 16) c ∙ mul-mod_right 16 (s / 16 * (x / s))

-- a chunk ends within its block
pub record EndsIn (p : Place) : Type 0 where
  pub aligned : p.user % 16 ≡ 0
  pub whole : block_end p % 16 ≡ 0
  pub within : end_of p ≤ block_end p

pub fits-in : (c pages b align size : ℕ) → IsClass c → IsBlock c pages b → IsAlign align → need_of align size ≤ size_of c → EndsIn (place_in c b align size)
fits-in c pages b align size k block al need =
    let x = b + 16 + (align - 1) in
    let s = size-IsSize c k in
    let multiple = s.multiple in
    let cell = block-IsCell c pages b k block in
    let granule = cell.granule in
    let inside = cell.inside in
    let least = al.least in
    let part = al.multiple in
    let low : x / align * align ≤ x = div-mul-le_self x align in
    let even : x / align * align % 16 ≡ 0 = divides (x / align * align) align (omega arith) part (mul-mod_left (x / align) align) in
    let start : b % 16 ≡ 0 = omega arith in
    record { aligned = even; whole = omega arith; within = omega arith }

pub user-above : (b a : ℕ) → 0 < a → b + 16 ≤ (b + 16 + (a - 1)) / a * a
user-above b a p = let near : b + 16 + (a - 1) < (b + 16 + (a - 1)) / a * a + a = lt-div-mul-add p in omega arith

pub user-near : (p : Place) → FitsIn p → p.user < p.block + 2 ^ 20
user-near p f =
    let most = (size-IsSize p.class f.class).most in
    let within = f.within in
    omega arith

pub new-fits : (c pages b : ℕ) (r : Request) → IsBlock c pages b → FitsClass c r → FitsIn (place_in c b r.align r.size)
new-fits c pages b r block f =
    let ends = fits-in c pages b r.align r.size f.class block f.align f.fits in
    let least = f.align.least in
    record { class = f.class; aligned = ends.aligned; whole = ends.whole; above = user-above b r.align (omega arith); some = f.some; small = f.small; within = ends.within }

-- ---- the top of a stack

pub none-top : (s : List ℕ) → None ≡ slice_get s 0 → s ≡ []
none-top [] e = refl
none-top (x ∷ s) e = cc

-- a chunk that was made at a place
abbrev pub allocation_at : Place → World → AllocationResult
allocation_at p w = allocation_of w (Some (Small p w.rgsr.tag))

pub after-take-some : (before w : World) (o : Origin) (a z c b : ℕ) (s : List ℕ) → Some b ≡ slice_get s 0 → allocation_at (place_in c b a z) (after_place w o (place_in c b a z)) ≡ after_take before w o a z c s
after-take-some before w o a z c b [] e = cc
after-take-some before w o a z c b (x ∷ s) e = let same : b ≡ x = cc in ap (λ t. allocation_at (place_in c t a z) (after_place w o (place_in c t a z))) same

-- where something was taken, what stands for nothing does not matter
after-take-before : (before other w : World) (o : Origin) (a z c : ℕ) (s : List ℕ) → s ≢ [] → after_take before w o a z c s ≡ after_take other w o a z c s
after-take-before before other w o a z c [] n = absurd (n refl)
after-take-before before other w o a z c (x ∷ s) n = refl

-- ---- the three ways through a class

some-made : (w x : World) (o : Origin) (a z c : ℕ) (ch : Chunk) (s : List ℕ) → allocation_of x (Some ch) ≡ after_take w w o a z c s → is_empty s ≡ false
some-made w x o a z c ch [] e = let f : Some ch ≡ None = ap (λ (m : AllocationResult). m.chunk) e in cc
some-made w x o a z c ch (b ∷ s) e = refl

with-free-block-some : (w : World) (c : ℕ) → is_empty (stack_of w.heap.stacks c) ≡ false → with_free_block w c ≡ w
unfolding with_free_block
with-free-block-some w c e = cond-false _ _ _ (ap (λ t. t && nat_le (more_pages c) (pages_left w.memory)) e)

pub after-class-allocation-first : (w x : World) (o : Origin) (a z c : ℕ) (ch : Chunk) → allocation_of x (Some ch) ≡ after_take w w o a z c (stack_of w.heap.stacks c) → allocation_of x (Some ch) ≡ after_class_allocation w o a z c
unfolding after_class_allocation
after-class-allocation-first w x o a z c ch e =
    e ∙ ap (λ (r : World). after_take w r o a z c (stack_of r.heap.stacks c)) (sym (with-free-block-some w c (some-made w x o a z c ch (stack_of w.heap.stacks c) e)))

empty-is : (s : List ℕ) → s ≡ [] → is_empty s ≡ true
empty-is s e = ap is_empty e

with-free-block-refused : (w : World) (c : ℕ) → stack_of w.heap.stacks c ≡ [] → false ≡ nat_le (more_pages c) (pages_left w.memory) → with_free_block w c ≡ w
unfolding with_free_block
with-free-block-refused w c e f = cond-false _ _ _ (ap (λ t. t && nat_le (more_pages c) (pages_left w.memory)) (empty-is _ e) ∙ sym f)

pub after-class-allocation-refused : (w : World) (o : Origin) (a z c : ℕ) → stack_of w.heap.stacks c ≡ [] → false ≡ nat_le (more_pages c) (pages_left w.memory) → no_chunk w ≡ after_class_allocation w o a z c
unfolding after_class_allocation
after-class-allocation-refused w o a z c e f =
    ap (after_take w w o a z c) (sym e) ∙ ap (λ (r : World). after_take w r o a z c (stack_of r.heap.stacks c)) (sym (with-free-block-refused w c e f))

with-free-block-after-grow : (w : World) (c : ℕ) → stack_of w.heap.stacks c ≡ [] → true ≡ nat_le (more_pages c) (pages_left w.memory) → with_free_block w c ≡ after_grow w c
unfolding with_free_block
with-free-block-after-grow w c e f = cond-true _ _ _ (ap (λ t. t && nat_le (more_pages c) (pages_left w.memory)) (empty-is _ e) ∙ sym f)

pub in_class-after-grow : (w : World) (o : Origin) (a z c : ℕ) → stack_of w.heap.stacks c ≡ [] → true ≡ nat_le (more_pages c) (pages_left w.memory) → stack_of (after_grow w c).heap.stacks c ≢ []
    → after_take (after_grow w c) (after_grow w c) o a z c (stack_of (after_grow w c).heap.stacks c) ≡ after_class_allocation w o a z c
unfolding after_class_allocation
in_class-after-grow w o a z c e f n =
    after-take-before (after_grow w c) w (after_grow w c) o a z c (stack_of (after_grow w c).heap.stacks c) n
    ∙ ap (λ (r : World). after_take w r o a z c (stack_of r.heap.stacks c)) (sym (with-free-block-after-grow w c e f))
