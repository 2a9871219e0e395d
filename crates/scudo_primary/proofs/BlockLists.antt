-- Lists of carved blocks, none of them twice: a block less, a block more, and new blocks on top.
use Rattle.std.proofs.Common.{◌≡◌, ℕ, zero, suc, ◌+◌, ◌<◌, ◌≤◌, ◌||◌, true, false, List, [], ◌∷◌, ◌++◌, refl, sym, ap, subst, ◌∙◌, inl, inr, arith, eqb}
use Rattle.std.proofs.lemmas.Bool.{cases_eq}
use Rattle.std.specs.List.{IsDistinct}
use Rattle.scudo_header.specs.Classes.{IsClass}
use Rattle.scudo_primary.specs.Blocks.{carved_count, block_at, number_of, IsBlock, blocks_from, is_member, AreBlocks}
use Rattle.scudo_primary.specs.Inner.{Each}
use Rattle.scudo_primary.specs.Pools.{new_count}
use Rattle.scudo_primary.proofs.BlockLemmas.{block_at-IsBlock, number_of-block_at, IsBlock-more, carved_count-≤}
use Rattle.scudo_primary.proofs.ListLemmas.{member-other, member-first, distinct-tail, distinct-cons}

-- ---- members

pub member-more : (x : ℕ) (xs : List ℕ) (b : ℕ) → is_member xs b ≡ true → is_member (x ∷ xs) b ≡ true
member-more x xs b h = elim (cases_eq b x) [
  | inl e ↦ ap (is_member (x ∷ xs)) e ∙ member-first x xs
  | inr n ↦ member-other x xs b n ∙ h
]

pub member-append : (xs ys : List ℕ) (b : ℕ) → is_member (xs ++ ys) b ≡ (is_member xs b || is_member ys b)
member-append [] ys b = refl
member-append (x ∷ xs) ys b = elim (eqb b x) as (λ t. (t || is_member (xs ++ ys) b) ≡ ((t || is_member xs b) || is_member ys b)) [
  | true ↦ refl
  | false ↦ member-append xs ys b
]

pub each-member : (xs : List ℕ) (P : ℕ → Type 0) → ((b : ℕ) → is_member xs b ≡ true → P b) → Each P xs
each-member [] P h = tt
each-member (x ∷ xs) P h = (h x (member-first x xs), each-member xs P (λ b m. h b (member-more x xs b m)))

pub each-block : (c n : ℕ) (xs : List ℕ) → AreBlocks c n xs → Each (IsBlock c n) xs
each-block c n xs h = each-member xs (IsBlock c n) h.carved

-- ---- a block less, and a block more

pub no-blocks : (c n : ℕ) → AreBlocks c n []
unfolding IsDistinct
no-blocks c n = record { carved = λ b e. cc; distinct = tt }

pub blocks-rest : (c n x : ℕ) (xs : List ℕ) → AreBlocks c n (x ∷ xs) → AreBlocks c n xs
blocks-rest c n x xs h = record { carved = λ b m. h.carved b (member-more x xs b m); distinct = distinct-tail x xs h.distinct }

pub blocks-behind : (c n : ℕ) (xs ys : List ℕ) → AreBlocks c n (xs ++ ys) → AreBlocks c n ys
blocks-behind c n [] ys h = h
blocks-behind c n (x ∷ xs) ys h = blocks-behind c n xs ys (blocks-rest c n x (xs ++ ys) h)

pub blocks-more : (c n b : ℕ) (xs : List ℕ) → IsBlock c n b → is_member xs b ≡ false → AreBlocks c n xs → AreBlocks c n (b ∷ xs)
blocks-more c n b xs block out h = record {
  carved = λ d m. elim (cases_eq d b) [
    | inl e ↦ subst (IsBlock c n) (sym e) block
    | inr o ↦ h.carved d (sym (member-other b xs d o) ∙ m)
  ];
  distinct = distinct-cons b xs out h.distinct;
}

-- ---- more pages, and their blocks on top

pub blocks-wider : (c m n : ℕ) (xs : List ℕ) → IsClass c → m ≤ n → AreBlocks c m xs → AreBlocks c n xs
blocks-wider c m n xs hc l h = record { carved = λ b e. IsBlock-more c m n b hc l (h.carved b e); distinct = h.distinct }

pub new-member : (c m n k : ℕ) → IsClass c → m ≤ k → k < m + n → is_member (blocks_from c m n) (block_at c k) ≡ true
new-member c m zero k hc a l = absurd (omega arith)
new-member c m (suc n) k hc a l = elim (cases_eq k m) [
  | inl e ↦ ap (λ t. is_member (blocks_from c m (suc n)) (block_at c t)) e ∙ member-first (block_at c m) (blocks_from c (m + 1) n)
  | inr o ↦ member-more (block_at c m) (blocks_from c (m + 1) n) (block_at c k) (new-member c (m + 1) n k hc (omega arith) (omega arith))
]

-- blocks with higher numbers
pub not-new : (c m n b : ℕ) → IsClass c → number_of c b < m → is_member (blocks_from c m n) b ≡ false
not-new c m zero b hc l = refl
not-new c m (suc n) b hc l =
    member-other (block_at c m) (blocks_from c (m + 1) n) b (λ e. let t = ap (number_of c) e ∙ number_of-block_at c m hc in omega arith)
    ∙ not-new c (m + 1) n b hc (omega arith)

not-old : (c pages b : ℕ) (s : List ℕ) → AreBlocks c pages s → carved_count c pages ≤ number_of c b → is_member s b ≡ false
not-old c pages b s h l = elim (is_member s b) as (λ t. is_member s b ≡ t → t ≡ false) [
  | true ↦ λ e. (let k = h.carved b e in let q = k.carved in absurd (omega arith))
  | false ↦ λ e. refl
] refl

-- the n blocks from the one with the number m on, which the next `more` pages carve
new-blocks : (c pages more m n : ℕ) (s : List ℕ) → IsClass c → carved_count c pages ≤ m → m + n ≤ carved_count c (pages + more) → AreBlocks c pages s → AreBlocks c (pages + more) (blocks_from c m n ++ s)
new-blocks c pages more m zero s hc a l h = blocks-wider c pages (pages + more) s hc (omega arith) h
new-blocks c pages more m (suc n) s hc a l h =
    let at = number_of-block_at c m hc in
    blocks-more c (pages + more) (block_at c m) (blocks_from c (m + 1) n ++ s) (block_at-IsBlock c (pages + more) m hc (omega arith))
    (member-append (blocks_from c (m + 1) n) s (block_at c m) ∙ ap (λ t. t || is_member s (block_at c m)) (not-new c (m + 1) n (block_at c m) hc (omega arith)) ∙ not-old c pages (block_at c m) s h (omega arith))
    (new-blocks c pages more (m + 1) n s hc (omega arith) (omega arith) h)

pub blocks-carved : (c pages more : ℕ) (s : List ℕ) → IsClass c → AreBlocks c pages s → AreBlocks c (pages + more) (blocks_from c (carved_count c pages) (new_count c pages more) ++ s)
blocks-carved c pages more s hc h =
    let grows = carved_count-≤ c pages (pages + more) hc (omega arith) in
    new-blocks c pages more (carved_count c pages) (new_count c pages more) s hc (omega arith) (omega arith) h
