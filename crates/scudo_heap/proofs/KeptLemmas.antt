-- A block that is used and a mapping stay theirs when others are taken.
use Rattle.std.proofs.Common.{◌≡◌, ◌≢◌, ℕ, zero, suc, ◌+◌, ◌-◌, ◌*◌, ◌/◌, ◌<◌, ◌≤◌, ◌⊎◌, ◌==◌, ◌||◌, nat_lt, Bool, true, false, cond, List, [], ◌∷◌, ◌++◌, drop, Some, sym, ap, subst, ◌∙◌, inl, inr, arith}
use Rattle.std.proofs.lemmas.Bool.{cases_eq, cases_lt}
use Rattle.std.proofs.lemmas.Bool.Decides.{nat_tests}
use Rattle.std.proofs.Math.Nat.{mul-le-mul_right}
use Rattle.std.specs.List.{find, list_all}
use Rattle.common.specs.declared.limits.TheConstants.{PAGE_SIZE}
use Rattle.common.specs.declared.ranges.TheConstants.{REGION_SIZE}
use Rattle.scudo_header.specs.Classes.{size_of}
use Rattle.scudo_header.specs.Regions.{region_of}
use Rattle.scudo_primary.specs.Blocks.{carved_count, block_at, number_of, IsBlock, blocks_from}
use Rattle.scudo_primary.specs.Blocks.{IsClass}
use Rattle.scudo_primary.specs.Pools.{is_member}
use Rattle.scudo_primary.proofs.BlockLemmas.{block-whole, block_at-number, number_of-block_at, block_at-IsBlock, number-apart, IsBlock-more}
use Rattle.scudo_primary.proofs.ListLemmas.{member-other}
use Rattle.scudo_secondary.specs.Mappings.{mapping_of, end_of, with_mapping, is_apart}
use Rattle.scudo_secondary.specs.declared.mappings.Mapping.{Mapping}
use Rattle.scudo_secondary.proofs.PlaceLemmas.{apart_true}
use Rattle.scudo_heap.specs.Stacks.{ClassHeap, StackState, pages_of, stack_of, with_class, after_pop, after_carve}
use Rattle.scudo_heap.proofs.StackLemmas.{class_at-with_class, class_at-with_class_other}
use Rattle.scudo_heap.proofs.ServedLemmas.{class-after-carve, class-carved_other}
use Rattle.scudo_heap.proofs.MapLemmas.{and-both}

-- ---- blocks

-- each used block stays a used block
pub record KeepsUsed (s s' : StackState) : Type 0 where
  pub carved : (c b : ℕ) → IsClass c → IsBlock c (pages_of s c) b → IsBlock c (pages_of s' c) b
  pub used :
      (c b : ℕ) → IsClass c → IsBlock c (pages_of s c) b → is_member (stack_of s c) b ≡ false
      → is_member (stack_of s' c) b ≡ false

pub keeps-same : (s : StackState) → KeepsUsed s s
keeps-same s = record { carved = λ c b k h. h; used = λ c b k h u. u }

pub keeps-then : (s t u : StackState) → KeepsUsed s t → KeepsUsed t u → KeepsUsed s u
keeps-then s t u f g = record {
  carved = λ c b k h. g.carved c b k (f.carved c b k h);
  used = λ c b k h n. g.used c b k (f.carved c b k h) (f.used c b k h n);
}

or_right : (a b : Bool) → (a || b) ≡ false → b ≡ false
or_right false b h = h
or_right true b h = cc

drop-member : (xs : List ℕ) (b : ℕ) → is_member xs b ≡ false → is_member (drop 1 xs) b ≡ false
drop-member [] b h = h
drop-member (x ∷ xs) b h = or_right (b == x) (is_member xs b) h

abbrev popped_class : StackState → ℕ → ClassHeap
popped_class s c = record { pages = pages_of s c; stack = drop 1 (stack_of s c) }

pub keeps-after-pop : (s : StackState) (c : ℕ) → KeepsUsed s (after_pop s c)
unfolding after_pop
keeps-after-pop s c = record {
  carved = λ d b k h. elim (cases_eq d c) [
    | inl e ↦ subst (λ t. IsBlock t (pages_of (with_class s c (popped_class s c)) t) b) (sym e)
        (subst (λ (t : ClassHeap). IsBlock c t.pages b) (sym (class_at-with_class s c (popped_class s c))) (subst (λ t. IsBlock t (pages_of s t) b) e h))
    | inr n ↦ subst (λ (t : ClassHeap). IsBlock d t.pages b) (sym (class_at-with_class_other s c d (popped_class s c) n)) h
  ];
  used = λ d b k h u. elim (cases_eq d c) [
    | inl e ↦ subst (λ t. is_member (stack_of (with_class s c (popped_class s c)) t) b ≡ false) (sym e)
        (ap (λ (t : ClassHeap). is_member t.stack b) (class_at-with_class s c (popped_class s c)) ∙ drop-member (stack_of s c) b (ap (λ t. is_member (stack_of s t) b) (sym e) ∙ u))
    | inr n ↦ ap (λ (t : ClassHeap). is_member t.stack b) (class_at-with_class_other s c d (popped_class s c) n) ∙ u
  ];
}

-- a block is none of those with higher numbers
new-others : (c m n b : ℕ) (xs : List ℕ) → IsClass c → number_of c b < m → is_member xs b ≡ false → is_member (blocks_from c m n ++ xs) b ≡ false
new-others c m zero b xs k l u = u
new-others c m (suc n) b xs k l u =
    let o : b ≢ block_at c m = λ e. (let same : number_of c b ≡ m = ap (number_of c) e ∙ number_of-block_at c m k in omega arith) in
    member-other (block_at c m) (blocks_from c (m + 1) n ++ xs) b o ∙ new-others c (m + 1) n b xs k (omega arith) u

pub keeps-after-carve : (s : StackState) (c n : ℕ) → IsClass c → KeepsUsed s (after_carve s c n)
keeps-after-carve s c n kc = record {
  carved = λ d b k h. elim (cases_eq d c) [
    | inl e ↦ subst (λ t. IsBlock t (pages_of (after_carve s c n) t) b) (sym e)
        (subst (λ (t : ClassHeap). IsBlock c t.pages b) (sym (class-after-carve s c n)) (IsBlock-more c (pages_of s c) (pages_of s c + n) b kc (omega arith) (subst (λ t. IsBlock t (pages_of s t) b) e h)))
    | inr o ↦ subst (λ (t : ClassHeap). IsBlock d t.pages b) (sym (class-carved_other s c n d o)) h
  ];
  used = λ d b k h u. elim (cases_eq d c) [
    | inl e ↦ subst (λ t. is_member (stack_of (after_carve s c n) t) b ≡ false) (sym e)
        (ap (λ (t : ClassHeap). is_member t.stack b) (class-after-carve s c n)
        ∙ new-others c (carved_count c (pages_of s c)) (carved_count c (pages_of s c + n) - carved_count c (pages_of s c)) b (stack_of s c) kc (subst (λ t. IsBlock t (pages_of s t) b) e h).carved (ap (λ t. is_member (stack_of s t) b) (sym e) ∙ u))
    | inr o ↦ ap (λ (t : ClassHeap). is_member t.stack b) (class-carved_other s c n d o) ∙ u
  ];
}

-- the first of new blocks
first-new : (c m n b : ℕ) (more : List ℕ) → blocks_from c m n ++ [] ≡ b ∷ more → (0 < n) × (b ≡ block_at c m)
first-new c m zero b more e = cc
first-new c m (suc n) b more e = (omega arith, cc)

pub after-carve-top : (s : StackState) (c n b : ℕ) (more : List ℕ) → IsClass c → stack_of s c ≡ [] → stack_of (after_carve s c n) c ≡ b ∷ more → IsBlock c (pages_of (after_carve s c n) c) b
after-carve-top s c n b more k z e =
    let m = carved_count c (pages_of s c) in
    let f = first-new c m (carved_count c (pages_of s c + n) - m) b more
    (ap (λ xs. blocks_from c m (carved_count c (pages_of s c + n) - m) ++ xs) (sym z) ∙ ap (λ (t : ClassHeap). t.stack) (sym (class-after-carve s c n)) ∙ e) in
    let some = f.0 in
    subst (λ (t : ClassHeap). IsBlock c t.pages b) (sym (class-after-carve s c n))
    (subst (IsBlock c (pages_of s c + n)) (sym f.1) (block_at-IsBlock c (pages_of s c + n) m k (omega arith)))

-- two blocks of one class
below-next : (c n m : ℕ) → n < m → block_at c n + size_of c ≤ block_at c m
below-next c n m l =
    let p : n + 1 ≤ m = omega arith in
    let a : (n + 1) * size_of c ≤ m * size_of c = mul-le-mul_right (size_of c) p in
    let d : (n + 1) * size_of c ≡ n * size_of c + size_of c = grind arith in
    omega arith

same-class-apart : (c pages a b : ℕ) → IsBlock c pages a → IsBlock c pages b → a ≢ b → (a + size_of c ≤ b) ⊎ (b + size_of c ≤ a)
same-class-apart c pages a b ha hb n =
    let ea = block_at-number c pages a ha in
    let eb = block_at-number c pages b hb in
    elim (cases_lt (number_of c a) (number_of c b)) [
      | inl l ↦ (let t = below-next c (number_of c a) (number_of c b) l in inl (omega arith))
      | inr r ↦ elim (cases_eq (number_of c a) (number_of c b)) [
        | inl e ↦ absurd (n (number-apart c pages a b ha hb e))
        | inr o ↦ (let t = below-next c (number_of c b) (number_of c a) (omega arith) in inr (omega arith))
      ]
    ]

-- a block lies in its region
pub record IsInRegion (c b : ℕ) : Type 0 where
  pub above : region_of c ≤ b
  pub below : b + size_of c ≤ region_of c + REGION_SIZE

pub in-region : (c pages b : ℕ) → IsClass c → IsBlock c pages b → pages ≤ REGION_SIZE / PAGE_SIZE → IsInRegion c b
in-region c pages b k h few =
    let w = block-whole c pages b k h in
    let inside = h.inside in
    record { above = inside; below = omega arith }

pub blocks-apart : (s : StackState) (c d a b : ℕ) → IsClass c → IsClass d → IsBlock c (pages_of s c) a → IsBlock d (pages_of s d) b → ((e : ℕ) → 0 < e → e ≤ 44 → pages_of s e ≤ REGION_SIZE / PAGE_SIZE) → (c ≡ d → a ≢ b)
    → (a + size_of c ≤ b) ⊎ (b + size_of d ≤ a)
blocks-apart s c d a b kc kd ha hb few n = elim (cases_eq c d) [
  | inl e ↦
      let hb' : IsBlock c (pages_of s c) b = subst (λ t. IsBlock t (pages_of s t) b) (sym e) hb in
      subst (λ t. (a + size_of c ≤ b) ⊎ (b + size_of t ≤ a)) e (same-class-apart c (pages_of s c) a b ha hb' (n e))
  | inr o ↦
      let ra = in-region c (pages_of s c) a kc ha (few c kc.low kc.high) in
      let rb = in-region d (pages_of s d) b kd hb (few d kd.low kd.high) in
      let al = ra.above in
      let ah = ra.below in
      let bl = rb.above in
      let bh = rb.below in
      elim (cases_lt c d) [
        | inl l ↦ inl (omega arith)
        | inr l ↦ inr (omega arith)
      ]
]

-- ---- mappings

-- a mapping is apart from where another is made
pub mapping-apart : (ms : List Mapping) (pages start user : ℕ) (n : Mapping) → list_all (is_apart pages start) ms ≡ true → Some n ≡ mapping_of ms user → (end_of n + PAGE_SIZE ≤ start) ⊎ (start + PAGE_SIZE * pages + PAGE_SIZE ≤ n.start)
mapping-apart [] pages start user n h e = cc
mapping-apart (m ∷ ms) pages start user n h e =
    let x = and-both (is_apart pages start m) (list_all (is_apart pages start) ms) h in
    elim (m.user == user) as (λ b. Some n ≡ cond b (Some m) (find (λ k. k.user == user) ms) → (end_of n + PAGE_SIZE ≤ start) ⊎ (start + PAGE_SIZE * pages + PAGE_SIZE ≤ n.start)) [
      | true ↦ λ f. (let same : m ≡ n = cc in subst (λ (t : Mapping). (end_of t + PAGE_SIZE ≤ start) ⊎ (start + PAGE_SIZE * pages + PAGE_SIZE ≤ t.start)) same (apart_true pages start m x.0))
      | false ↦ λ f. mapping-apart ms pages start user n x.1 f
    ] e

-- one with another user address is found as before
pub mapping-kept : (ms : List Mapping) (n : Mapping) (user : ℕ) → n.user ≢ user → mapping_of (with_mapping ms n) user ≡ mapping_of ms user
unfolding with_mapping
mapping-kept [] n user o = let t : (n.user == user) ≡ false = grind (arith, nat_tests) in ap (λ b. cond b (Some n) (mapping_of [] user)) t
mapping-kept (m ∷ ms) n user o =
    elim (nat_lt m.start n.start) as (λ b. mapping_of (cond b (m ∷ with_mapping ms n) (n ∷ (m ∷ ms))) user ≡ mapping_of (m ∷ ms) user) [
      | true ↦ ap (cond (m.user == user) (Some m)) (mapping-kept ms n user o)
      | false ↦ (let t : (n.user == user) ≡ false = grind (arith, nat_tests) in ap (λ b. cond b (Some n) (mapping_of (m ∷ ms) user)) t)
    ]
