-- Blocks, their numbers, and where in a region they lie.
use Rattle.std.proofs.Common.{◌≡◌, ℕ, ◌+◌, ◌-◌, ◌*◌, ◌/◌, ◌%◌, ◌<◌, ◌≤◌, nat_le, ◌==◌, Bool, sym, ap, subst, ◌∙◌, arith}
use Rattle.std.proofs.Math.Nat.{mul-mod_right, le-div_iff_mul-le, div-mul-le_self, mul-le-mul_right}
use Rattle.std.proofs.lemmas.Nat.{div-add-mod', div-mul-add, mod-mul-add}
use Rattle.scudo_header.specs.Classes.{size_of}
use Rattle.scudo_header.specs.Regions.{region_of}
use Rattle.common.specs.declared.limits.TheConstants.{PAGE_SIZE}
use Rattle.scudo_header.proofs.ClassLemmas.{IsSize, size_of-IsSize}
use Rattle.scudo_primary.specs.Blocks.{carved_count, block_at, number_of, IsBlock}
use Rattle.std.specs.Prelude.{IsTrue}
use Rattle.std.proofs.lemmas.Bool.Decides.{nat_tests}
use Rattle.scudo_primary.specs.Blocks.{IsClass}

pub size-IsSize : (c : ℕ) → IsClass c → IsSize (size_of c)
size-IsSize c h = size_of-IsSize c h.low h.high

pub size-pos : (c : ℕ) → IsClass c → 0 < size_of c
size-pos c h = let s = (size-IsSize c h).least in omega arith

divides : (x s : ℕ) → 0 < s → s % 32 ≡ 0 → x % s ≡ 0 → x % 32 ≡ 0
divides x s p h e =
    let a : x ≡ s * (x / s) = omega arith in
    let b : s ≡ 32 * (s / 32) = omega arith in
    let c : x ≡ 32 * (s / 32 * (x / s)) = a ∙ ap (λ t. t * (x / s)) b ∙ grind arith in
    ap (λ t. t % 32) c ∙ mul-mod_right 32 (s / 32 * (x / s))

whole : (x s n : ℕ) → 0 < s → x % s ≡ 0 → x / s < n / s → x + s ≤ n
whole x s n p e l =
    let a : (x / s + 1) * s ≤ n / s * s = mul-le-mul_right s (let t : x / s + 1 ≤ n / s = omega arith in t) in
    let b = div-mul-le_self n s in
    let c = div-add-mod' x s in
    let d : (x / s + 1) * s ≡ x / s * s + s = grind arith in
    omega arith

carved_by : (x s n : ℕ) → 0 < s → x % s ≡ 0 → x + s ≤ n → x / s < n / s
carved_by x s n p e l =
    let c = div-add-mod' x s in
    let d : (x / s + 1) * s ≡ x / s * s + s = grind arith in
    let a : x / s + 1 ≤ n / s = (le-div_iff_mul-le p).1 (let t : (x / s + 1) * s ≤ n = omega arith in t) in
    omega arith

-- a place for a block in the first pages of a class's region
pub record IsCell (c pages b : ℕ) : Type 0 where
  pub inside : region_of c ≤ b
  pub within : b - region_of c < PAGE_SIZE * pages
  pub granule : (b - region_of c) % 32 ≡ 0

pub block-whole : (c pages b : ℕ) → IsClass c → IsBlock c pages b → b - region_of c + size_of c ≤ PAGE_SIZE * pages
block-whole c pages b h k = whole (b - region_of c) (size_of c) (PAGE_SIZE * pages) (size-pos c h) k.start k.carved

pub block-IsCell : (c pages b : ℕ) → IsClass c → IsBlock c pages b → IsCell c pages b
block-IsCell c pages b h k =
    let s = size-IsSize c h in
    let least = s.least in
    let w = block-whole c pages b h k in
    record {
      inside = k.inside;
      within = omega arith;
      granule = divides (b - region_of c) (size_of c) (omega arith) s.multiple k.start;
    }

pub IsBlock-from_whole : (c pages b : ℕ) → IsClass c → region_of c ≤ b → (b - region_of c) % size_of c ≡ 0 → b - region_of c + size_of c ≤ PAGE_SIZE * pages → IsBlock c pages b
IsBlock-from_whole c pages b h l e w = record { inside = l; start = e; carved = carved_by (b - region_of c) (size_of c) (PAGE_SIZE * pages) (size-pos c h) e w }

offset-at : (c n : ℕ) → block_at c n - region_of c ≡ n * size_of c
offset-at c n = omega arith

pub number_of-block_at : (c n : ℕ) → IsClass c → number_of c (block_at c n) ≡ n
number_of-block_at c n h =
    let p = size-pos c h in
    ap (λ t. t / size_of c) (offset-at c n) ∙ (let e : n * size_of c + 0 ≡ n * size_of c = omega arith in ap (λ t. t / size_of c) (sym e)) ∙ div-mul-add n (size_of c) 0 p

pub block_at-number_of : (c b : ℕ) → region_of c ≤ b → (b - region_of c) % size_of c ≡ 0 → block_at c (number_of c b) ≡ b
block_at-number_of c b l e = let d = div-add-mod' (b - region_of c) (size_of c) in omega arith

pub block_at-number : (c pages b : ℕ) → IsBlock c pages b → block_at c (number_of c b) ≡ b
block_at-number c pages b k = block_at-number_of c b k.inside k.start

pub block_at-IsBlock : (c pages n : ℕ) → IsClass c → n < carved_count c pages → IsBlock c pages (block_at c n)
block_at-IsBlock c pages n h l =
    let p = size-pos c h in
    record {
      inside = omega arith;
      start = ap (λ t. t % size_of c) (offset-at c n) ∙ (let e : n * size_of c + 0 ≡ n * size_of c = omega arith in ap (λ t. t % size_of c) (sym e)) ∙ mod-mul-add n (size_of c) 0 p;
      carved = subst (λ t. t < carved_count c pages) (sym (number_of-block_at c n h)) l;
    }

-- a class's blocks have different numbers
pub number-apart : (c pages b d : ℕ) → IsBlock c pages b → IsBlock c pages d → number_of c b ≡ number_of c d → b ≡ d
number-apart c pages b d k l e = sym (block_at-number c pages b k) ∙ ap (block_at c) e ∙ block_at-number c pages d l

pub carved_count-≤ : (c m n : ℕ) → IsClass c → m ≤ n → carved_count c m ≤ carved_count c n
carved_count-≤ c m n h l =
    let a = div-mul-le_self (PAGE_SIZE * m) (size_of c) in
    (le-div_iff_mul-le (size-pos c h)).1 (omega arith)

pub IsBlock-more : (c m n b : ℕ) → IsClass c → m ≤ n → IsBlock c m b → IsBlock c n b
IsBlock-more c m n b h l k =
    let a = carved_count-≤ c m n h l in
    let r = k.carved in
    record { inside = k.inside; start = k.start; carved = omega arith }

-- the test of a block that has room after its start
pub block-test : (c m pages b s start room : ℕ) (answer : Bool) → IsClass c → m ≡ pages → start ≡ region_of c → s ≡ size_of c → start ≤ b → s ≤ room → room ≡ PAGE_SIZE * pages - (b - start)
    → answer ≡ ((b - start) % size_of c == 0) → (IsTrue answer → IsBlock c m b) × (IsBlock c m b → IsTrue answer)
block-test c m pages b s start room answer h same es ez l fits r e =
    let p = (size-IsSize c h).least in
    let from-start : answer ≡ ((b - region_of c) % size_of c == 0) = e ∙ ap (λ t. (b - t) % size_of c == 0) es in (
      (λ t. let k : (b - region_of c) % size_of c ≡ 0 = grind (arith, nat_tests) in subst (λ n. IsBlock c n b) (sym same) (IsBlock-from_whole c pages b h (omega arith) k (omega arith))),
      (λ k. let q = k.start in grind (arith, nat_tests)),
    )

-- there is none without room
pub no-room : (c m pages b s start room : ℕ) → IsClass c → m ≡ pages → start ≡ region_of c → s ≡ size_of c → start ≤ b → room < s → room ≡ PAGE_SIZE * pages - (b - start)
    → (IsTrue (nat_le s room) → IsBlock c m b) × (IsBlock c m b → IsTrue (nat_le s room))
no-room c m pages b s start room h same es ez l few r = (
  (λ t. let k : s ≤ room = grind (arith, nat_tests) in absurd (omega arith)),
  (λ k. let w = block-whole c m b h k in let p = (size-IsSize c h).least in absurd (omega arith)),
)
