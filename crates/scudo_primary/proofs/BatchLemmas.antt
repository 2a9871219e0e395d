-- A batch put on a class's list, block by block.
use Rattle.std.proofs.Common.{◌≡◌, ◌≢◌, ℕ, zero, suc, ◌+◌, ◌-◌, ◌<◌, ◌≤◌, ◌==◌, Bool, true, false, List, [], ◌∷◌, ◌++◌, length, take, reverse, get_or, set, refl, sym, ap, subst, ◌∙◌, arith, eqb, eq-eqb}
use Rattle.std.proofs.lemmas.List.{reverse-append, take_more, take_all, set-get_or, length-take-le, get_or-take, get_or_default}
use Rattle.std.proofs.lemmas.Bool.Decides.{nat_tests}
use Rattle.std.proofs.lemmas.Map.Keys.{apart_from_distinct}
use Rattle.std.specs.List.{All, IsDistinct}
use Rattle.scudo_primary.specs.Blocks.{IsBlock, number_of}
use Rattle.scudo_primary.specs.Batches.{max_count_of}
use Rattle.scudo_primary.specs.Pools.{ClassState, IsLoose, is_member, class_after_push_batch}
use Rattle.scudo_primary.specs.Inner.{block_table, Each, sizes_after_push, list_at, class_in, class_after_link, IsTable, Became}
use Rattle.scudo_primary.specs.Blocks.{IsClass}
use Rattle.scudo_primary.specs.declared.lists.BlockEntry.{BlockEntry}
use Rattle.scudo_primary.specs.declared.lists.ClassList.{ClassList}
use Rattle.scudo_primary.proofs.ListLemmas.{not-member, Each-other}
use Rattle.scudo_primary.proofs.CutLemmas.{Each-append}
use Rattle.scudo_primary.proofs.CarveLemmas.{became-same, became-is, became-next}

pub All-Each : (xs : List ℕ) (P : ℕ → Type 0) → All P xs → Each P xs
All-Each [] P h = tt
All-Each (x ∷ xs) P h = (h 0 x (omega arith), All-Each xs P (λ k d l. h (suc k) d (omega arith)))

pub Each-reverse : (xs : List ℕ) (P : ℕ → Type 0) → Each P xs → Each P (reverse xs)
Each-reverse [] P h = tt
Each-reverse (x ∷ xs) P h = subst (Each P) (sym (reverse-append (x ∷ []) xs)) (Each-append (reverse xs) (x ∷ []) P (Each-reverse xs P h.1) (h.0, tt))

-- the sizes with a batch of n blocks more, if it has any
pub grown : List ℕ → ℕ → List ℕ
grown sizes zero = sizes
grown sizes (suc n) = suc n ∷ sizes

grown-next : (sizes : List ℕ) (n : ℕ) (last : Bool) → last ≡ (n == 0) → sizes_after_push last (grown sizes n) ≡ (n + 1) ∷ sizes
unfolding grown
grown-next sizes zero last e = ap (λ t. sizes_after_push t sizes) e
grown-next sizes (suc n) last e = let t : (suc n == 0) ≡ false = grind (arith, nat_tests) in ap (λ t. sizes_after_push t (suc n ∷ sizes)) (e ∙ t)

grown-suc : (sizes : List ℕ) (n : ℕ) → grown sizes (n + 1) ≡ (n + 1) ∷ sizes
unfolding grown
grown-suc sizes n = let e : n + 1 ≡ suc n = omega arith in ap (grown sizes) e ∙ ap (λ t. t ∷ sizes) (sym e)

pub pushing_in : ClassState → List ℕ → ℕ → ClassState
pushing_in k blocks n = record k { stack = reverse (take n blocks) ++ k.stack; sizes = grown k.sizes n }

pub record IsPushing (es es' : List BlockEntry) (ns : List ℕ) (ks ks' : List ClassList) (c : ℕ) (blocks : List ℕ) (n : ℕ) (last : Bool) : Type 0 where
  pub began : last ≡ (n == 0)
  pub became : Became (block_table es ns ks) (block_table es' ns ks') c (pushing_in (class_in es ns c (list_at ks c)) blocks n)

pub pushing-init : (es : List BlockEntry) (ns : List ℕ) (ks : List ClassList) (c : ℕ) (blocks : List ℕ) → IsTable (block_table es ns ks) → IsPushing es es ns ks ks c blocks 0 true
unfolding pushing_in grown
pushing-init es ns ks c blocks h = record { began = refl; became = became-same es ns ks c h }

loose : (k : ClassState) (c : ℕ) (blocks : List ℕ) (n b : ℕ) → All (IsLoose k c) blocks → n < length blocks → b ≡ get_or blocks n b → IsLoose k c b
loose k c blocks n b h l e = subst (IsLoose k c) (sym e) (h n b l)

marks-kept : (k : ClassState) (c b : ℕ) → IsLoose k c b → set k.marks (number_of c b) true ≡ k.marks
marks-kept k c b h = ap (set k.marks (number_of c b)) (sym h.marked) ∙ set-get_or k.marks (number_of c b) false

link-pushing : (k : ClassState) (c : ℕ) (blocks : List ℕ) (n b : ℕ) (last : Bool) → IsLoose k c b → n < length blocks → b ≡ get_or blocks n b → last ≡ (n == 0)
    → class_after_link c (pushing_in k blocks n) b last ≡ pushing_in k blocks (n + 1)
unfolding pushing_in
link-pushing k c blocks n b last h l e el =
    let taken : take (n + 1) blocks ≡ take n blocks ++ b ∷ [] = take_more blocks n b l ∙ ap (λ t. take n blocks ++ t ∷ []) (sym e) in
    let stack : b ∷ (reverse (take n blocks) ++ k.stack) ≡ reverse (take (n + 1) blocks) ++ k.stack =
    sym (ap (λ t. reverse t ++ k.stack) taken ∙ ap (λ t. t ++ k.stack) (reverse-append (take n blocks) (b ∷ []))) in
    let sizes : sizes_after_push last (grown k.sizes n) ≡ grown k.sizes (n + 1) = grown-next k.sizes n last el ∙ sym (grown-suc k.sizes n) in
    let marks = marks-kept k c b h in
    λ i. record { pages = k.pages; stack = stack i; sizes = sizes i; marks = marks i }

pub pushing-step : (es es' es'' : List BlockEntry) (ns : List ℕ) (ks ks' ks'' : List ClassList) (c : ℕ) (blocks : List ℕ) (n b : ℕ) (last : Bool) → All (IsLoose (class_in es ns c (list_at ks c)) c) blocks
    → IsPushing es es' ns ks ks' c blocks n last → n < length blocks → b ≡ get_or blocks n b → Became (block_table es' ns ks') (block_table es'' ns ks'') c (class_after_link c (class_in es' ns c (list_at ks' c)) b last) → IsPushing es es'' ns ks ks'' c blocks (n + 1) false
pushing-step es es' es'' ns ks ks' ks'' c blocks n b last all p l e next =
    let k = class_in es ns c (list_at ks c) in
    let state = ap (λ t. class_after_link c t b last) p.became.class ∙ link-pushing k c blocks n b last (loose k c blocks n b all l e) l e p.began in
    record {
      began = let t : (n + 1 == 0) ≡ false = grind (arith, nat_tests) in sym t;
      became = became-next es es' es'' ns ks ks' ks'' c _ _ p.became (became-is es' es'' ns ks' ks'' c _ _ state next);
    }

pub pushing-block : (es es' : List BlockEntry) (ns : List ℕ) (ks ks' : List ClassList) (c : ℕ) (blocks : List ℕ) (n b : ℕ) (last : Bool) → IsClass c → All (IsLoose (class_in es ns c (list_at ks c)) c) blocks
    → IsPushing es es' ns ks ks' c blocks n last → n < length blocks → b ≡ get_or blocks n b → IsBlock c (list_at ks' c).pages b
pushing-block es es' ns ks ks' c blocks n b last hc all p l e =
    subst (λ t. IsBlock c t b) (sym (p.became.pages c hc)) (loose (class_in es ns c (list_at ks c)) c blocks n b all l e).carved

taken-apart : (blocks : List ℕ) (n b : ℕ) → IsDistinct eqb blocks → n < length blocks → b ≡ get_or blocks n b → Each (λ x. x ≢ b) (take n blocks)
taken-apart blocks n b h l e =
    All-Each (take n blocks) (λ x. x ≢ b) (λ k d q.
    let low : k < n = let t = length-take-le n blocks (omega arith) in omega arith in
    let a = apart_from_distinct eqb blocks k n b h low l in
    λ s. apart-of _ _ a (sym (get_or-take n blocks k b low) ∙ get_or_default (take n blocks) k b d q ∙ s ∙ e))
  where
    apart-of : (x y : ℕ) → eqb x y ≡ false → x ≡ y → ⊥
    apart-of x y f s = let t = eq-eqb x y s in cc

pub pushing-unlisted : (es es' : List BlockEntry) (ns : List ℕ) (ks ks' : List ClassList) (c : ℕ) (blocks : List ℕ) (n b : ℕ) (last : Bool) → All (IsLoose (class_in es ns c (list_at ks c)) c) blocks → IsDistinct eqb blocks
    → IsPushing es es' ns ks ks' c blocks n last → n < length blocks → b ≡ get_or blocks n b → is_member (class_in es' ns c (list_at ks' c)).stack b ≡ false
unfolding pushing_in
pushing-unlisted es es' ns ks ks' c blocks n b last all d p l e =
    let k = class_in es ns c (list_at ks c) in
    let out : Each (λ x. x ≢ b) (reverse (take n blocks) ++ k.stack) =
    Each-append (reverse (take n blocks)) k.stack (λ x. x ≢ b) (Each-reverse (take n blocks) (λ x. x ≢ b) (taken-apart blocks n b d l e)) (Each-other k.stack b (loose k c blocks n b all l e).unlisted) in
    ap (λ (t : ClassState). is_member t.stack b) p.became.class ∙ not-member (reverse (take n blocks) ++ k.stack) (λ x. x ≢ b) b out (λ q. q refl)

pub pushing-room : (es es' : List BlockEntry) (ns : List ℕ) (ks ks' : List ClassList) (c : ℕ) (blocks : List ℕ) (n : ℕ) (last : Bool) → IsClass c → IsTable (block_table es ns ks) → length blocks ≤ max_count_of c
    → IsPushing es es' ns ks ks' c blocks n last → n < length blocks → Each (λ m. m ≤ max_count_of c) (sizes_after_push last (class_in es' ns c (list_at ks' c)).sizes)
unfolding pushing_in
pushing-room es es' ns ks ks' c blocks n last hc h most p l =
    let k = class_in es ns c (list_at ks c) in
    subst (Each (λ m. m ≤ max_count_of c)) (sym (ap (λ (t : ClassState). sizes_after_push last t.sizes) p.became.class ∙ grown-next k.sizes n last p.began)) (omega arith, (h.linked c hc).batches)

pub pushing-end : (es es' : List BlockEntry) (ns : List ℕ) (ks ks' : List ClassList) (c : ℕ) (blocks : List ℕ) (n : ℕ) (last : Bool) → IsPushing es es' ns ks ks' c blocks n last → n ≡ length blocks → 0 < length blocks
    → Became (block_table es ns ks) (block_table es' ns ks') c (class_after_push_batch (class_in es ns c (list_at ks c)) blocks)
unfolding pushing_in
pushing-end es es' ns ks ks' c blocks n last p e some =
    let k = class_in es ns c (list_at ks c) in
    let up : (length blocks - 1) + 1 ≡ length blocks = omega arith in
    let size : grown k.sizes (length blocks) ≡ length blocks ∷ k.sizes = ap (grown k.sizes) (sym up) ∙ grown-suc k.sizes (length blocks - 1) ∙ ap (λ t. t ∷ k.sizes) up in
    let all : take n blocks ≡ blocks = take_all n blocks (omega arith) in
    became-is es es' ns ks ks' c _ _ ((λ i. record { pages = k.pages; stack = reverse (all i) ++ k.stack; sizes = grown k.sizes (e i); marks = k.marks })
    ∙ ap (λ t. record { pages = k.pages; stack = reverse blocks ++ k.stack; sizes = t; marks = k.marks }) size) p.became
