-- New blocks put on a class's list, from the highest to the lowest.
use Rattle.std.proofs.Common.{◌≡◌, ◌≢◌, ℕ, zero, suc, ◌+◌, ◌-◌, ◌*◌, ◌/◌, ◌^◌, ◌<◌, ◌≤◌, Bool, true, false, List, [], ◌∷◌, ◌++◌, length, take, replicate, set, refl, sym, ap, subst, ◌∙◌, arith}
use Rattle.std.proofs.lemmas.List.{append-nil, take_all}
use Rattle.scudo_header.specs.Classes.{size_of}
use Rattle.scudo_header.specs.Regions.{region_of}
use Rattle.scudo_primary.specs.Blocks.{carved_count, block_at, number_of, blocks_from, IsBlock}
use Rattle.scudo_primary.specs.Batches.{max_count_of}
use Rattle.scudo_primary.specs.Pools.{ClassState, is_member}
use Rattle.scudo_primary.specs.Inner.{block_table, Each, sizes_after_push, is_last_at, list_at, class_in, class_after_link, class_after_link_new, IsTable, Became}
use Rattle.scudo_primary.specs.Blocks.{IsClass}
use Rattle.scudo_primary.specs.declared.lists.BlockEntry.{BlockEntry}
use Rattle.scudo_primary.specs.declared.lists.ClassList.{ClassList}
use Rattle.scudo_primary.proofs.BlockLemmas.{number_of-block_at, block_at-IsBlock}
use Rattle.scudo_primary.proofs.ListLemmas.{Each-map, not-member, max_count-low}
use Rattle.scudo_primary.proofs.TableLemmas.{length-marks}
use Rattle.scudo_primary.proofs.LinkLemmas.{block-below}
use Rattle.scudo_primary.proofs.CutLemmas.{cut, cut-zero, cut-all, cut-step, cut-below, Each-append}

-- ---- changes of one class in a row

pub became-same : (es : List BlockEntry) (ns : List ℕ) (ks : List ClassList) (c : ℕ) → IsTable (block_table es ns ks) → Became (block_table es ns ks) (block_table es ns ks) c (class_in es ns c (list_at ks c))
became-same es ns ks c h = record { table = h; class = refl; others = λ d hd n. refl; pages = λ d hd. refl; len = refl; numbers = refl }

pub became-is : (es es' : List BlockEntry) (ns : List ℕ) (ks ks' : List ClassList) (c : ℕ) (k k' : ClassState) → k ≡ k' → Became (block_table es ns ks) (block_table es' ns ks') c k → Became (block_table es ns ks) (block_table es' ns ks') c k'
became-is es es' ns ks ks' c k k' e b = subst (Became (block_table es ns ks) (block_table es' ns ks') c) e b

pub became-next : (es es' es'' : List BlockEntry) (ns : List ℕ) (ks ks' ks'' : List ClassList) (c : ℕ) (k k' : ClassState) → Became (block_table es ns ks) (block_table es' ns ks') c k → Became (block_table es' ns ks') (block_table es'' ns ks'') c k' → Became (block_table es ns ks) (block_table es'' ns ks'') c k'
became-next es es' es'' ns ks ks' ks'' c k k' a b = record {
  table = b.table;
  class = b.class;
  others = λ d hd n. b.others d hd n ∙ a.others d hd n;
  pages = λ d hd. b.pages d hd ∙ a.pages d hd;
  len = b.len ∙ a.len;
  numbers = b.numbers ∙ a.numbers;
}

-- ---- the blocks from n to below the last

half-pos : (c : ℕ) → 0 < max_count_of c / 2
half-pos c = let a = max_count-low c in omega arith

pub partial_in : ℕ → ClassState → ℕ → ℕ → ℕ → ClassState
partial_in c k from n to = record {
  pages = k.pages;
  stack = blocks_from c n (to - n) ++ k.stack;
  sizes = cut (max_count_of c / 2) (to - from) (to - n) ++ k.sizes;
  marks = take n k.marks ++ replicate (to - n) true;
}

marks-step : (marks : List Bool) (n : ℕ) (more : List Bool) → n < length marks → set (take (suc n) marks ++ more) n true ≡ take n marks ++ true ∷ more
marks-step [] n more l = absurd (omega arith)
marks-step (m ∷ ms) zero more l = refl
marks-step (m ∷ ms) (suc n) more l = ap (λ t. m ∷ t) (marks-step ms n more (omega arith))

pub partial-first : (c : ℕ) (k : ClassState) (from to : ℕ) → length k.marks ≡ to → k ≡ partial_in c k from to to
unfolding partial_in
partial-first c k from to l =
    let none : 0 ≡ to - to = omega arith in
    let all : k.marks ≡ take to k.marks ++ [] = sym (append-nil (take to k.marks) ∙ take_all to k.marks (omega arith)) in
    (λ i. record { pages = k.pages; stack = k.stack; sizes = (sym (ap (λ t. t ++ k.sizes) (cut-zero (max_count_of c / 2) (to - from)))) i; marks = all i })
    ∙ ap (λ r. record { pages = k.pages; stack = blocks_from c to r ++ k.stack; sizes = cut (max_count_of c / 2) (to - from) r ++ k.sizes; marks = take to k.marks ++ replicate r true }) none

pub partial-last : (c : ℕ) (k : ClassState) (from to : ℕ) → from ≤ to → partial_in c k from from to ≡ class_after_link_new c k from (to - from)
unfolding partial_in
partial-last c k from to l =
    ap (λ t. record { pages = k.pages; stack = blocks_from c from (to - from) ++ k.stack; sizes = t ++ k.sizes; marks = take from k.marks ++ replicate (to - from) true })
    (cut-all (max_count_of c / 2) (to - from) (half-pos c))

pub partial-next : (c : ℕ) (k : ClassState) (from n to : ℕ) → IsClass c → from ≤ n → n < to → length k.marks ≡ to
    → class_after_link c (partial_in c k from (n + 1) to) (block_at c n) (is_last_at (max_count_of c / 2) (to - from) (n - from)) ≡ partial_in c k from n to
unfolding partial_in
partial-next c k from n to h l u len =
    let half = max_count_of c / 2 in
    let r = to - (n + 1) in
    let more : to - n ≡ suc r = omega arith in
    let place : n - from ≡ (to - from) - suc r = omega arith in
    let sizes : sizes_after_push (is_last_at half (to - from) (n - from)) (cut half (to - from) r ++ k.sizes) ≡ cut half (to - from) (suc r) ++ k.sizes =
    ap (λ t. sizes_after_push (is_last_at half (to - from) t) (cut half (to - from) r ++ k.sizes)) place ∙ cut-step half (to - from) r k.sizes (half-pos c) (omega arith) in
    let one : n + 1 ≡ suc n = omega arith in
    let marks : set (take (n + 1) k.marks ++ replicate r true) (number_of c (block_at c n)) true ≡ take n k.marks ++ true ∷ replicate r true =
    ap (λ t. set (take (n + 1) k.marks ++ replicate r true) t true) (number_of-block_at c n h)
    ∙ ap (λ t. set (take t k.marks ++ replicate r true) n true) one ∙ marks-step k.marks n (replicate r true) (omega arith) in
    (λ i. record { pages = k.pages; stack = blocks_from c n (suc r) ++ k.stack; sizes = sizes i; marks = marks i })
    ∙ ap (λ r. record { pages = k.pages; stack = blocks_from c n r ++ k.stack; sizes = cut half (to - from) r ++ k.sizes; marks = take n k.marks ++ replicate r true }) (sym more)

-- the state of the loop, and what the next block asks for
pub record IsPartial (es es' : List BlockEntry) (ns : List ℕ) (ks ks' : List ClassList) (c from n to : ℕ) : Type 0 where
  pub low : from ≤ n
  pub high : n ≤ to
  pub became : Became (block_table es ns ks) (block_table es' ns ks') c (partial_in c (class_in es ns c (list_at ks c)) from n to)

pub partial-init : (es : List BlockEntry) (ns : List ℕ) (ks : List ClassList) (c from to : ℕ) → IsTable (block_table es ns ks) → from ≤ to → to ≡ carved_count c (list_at ks c).pages → IsPartial es es ns ks ks c from to to
partial-init es ns ks c from to h l e = record {
  low = l;
  high = omega arith;
  became = became-is es es ns ks ks c _ _ (partial-first c (class_in es ns c (list_at ks c)) from to (length-marks es ns c (list_at ks c).pages ∙ sym e)) (became-same es ns ks c h);
}

pub partial-step : (es es' es'' : List BlockEntry) (ns : List ℕ) (ks ks' ks'' : List ClassList) (c from n to b : ℕ) (last : Bool) → IsClass c → to ≡ carved_count c (list_at ks c).pages → IsPartial es es' ns ks ks' c from n to → from < n
    → b ≡ block_at c (n - 1) → last ≡ is_last_at (max_count_of c / 2) (to - from) (n - 1 - from)
    → Became (block_table es' ns ks') (block_table es'' ns ks'') c (class_after_link c (class_in es' ns c (list_at ks' c)) b last) → IsPartial es es'' ns ks ks'' c from (n - 1) to
partial-step es es' es'' ns ks ks' ks'' c from n to b last hc e p l eb el next =
    let h = p.high in
    let k = class_in es ns c (list_at ks c) in
    let up : n - 1 + 1 ≡ n = omega arith in
    let state : class_after_link c (class_in es' ns c (list_at ks' c)) b last ≡ partial_in c k from (n - 1) to =
    ap (λ t. class_after_link c t b last) p.became.class ∙ ap (λ t. class_after_link c (partial_in c k from n to) t last) eb ∙ ap (class_after_link c (partial_in c k from n to) (block_at c (n - 1))) el
    ∙ ap (λ t. class_after_link c (partial_in c k from t to) (block_at c (n - 1)) (is_last_at (max_count_of c / 2) (to - from) (n - 1 - from))) (sym up)
    ∙ partial-next c k from (n - 1) to hc (omega arith) (omega arith) (length-marks es ns c (list_at ks c).pages ∙ sym e) in
    record {
      low = omega arith;
      high = omega arith;
      became = became-next es es' es'' ns ks ks' ks'' c _ _ p.became (became-is es' es'' ns ks' ks'' c _ _ state next);
    }

pub partial-end : (es es' : List BlockEntry) (ns : List ℕ) (ks ks' : List ClassList) (c from n to : ℕ) → IsPartial es es' ns ks ks' c from n to → n ≤ from → Became (block_table es ns ks) (block_table es' ns ks') c (class_after_link_new c (class_in es ns c (list_at ks c)) from (to - from))
partial-end es es' ns ks ks' c from n to p l =
    let a = p.low in
    let b = p.high in
    let same : n ≡ from = omega arith in
    let k = class_in es ns c (list_at ks c) in
    became-is es es' ns ks ks' c _ _ (ap (λ t. partial_in c k from t to) same ∙ partial-last c k from to (omega arith)) p.became

-- the next block
pub partial-block : (es es' : List BlockEntry) (ns : List ℕ) (ks ks' : List ClassList) (c from n to b : ℕ) → IsClass c → to ≡ carved_count c (list_at ks c).pages → IsPartial es es' ns ks ks' c from n to → from < n → b ≡ block_at c (n - 1)
    → IsBlock c (list_at ks' c).pages b
partial-block es es' ns ks ks' c from n to b hc e p l eb =
    let h = p.high in
    subst (IsBlock c (list_at ks' c).pages) (sym eb)
    (subst (λ t. IsBlock c t (block_at c (n - 1))) (sym (p.became.pages c hc)) (block_at-IsBlock c (list_at ks c).pages (n - 1) hc (omega arith)))

blocks-above : (c m n k : ℕ) → IsClass c → k ≤ m → Each (λ b. k ≤ number_of c b) (blocks_from c m n)
blocks-above c m zero k h l = tt
blocks-above c m (suc n) k h l = (subst (λ t. k ≤ t) (sym (number_of-block_at c m h)) l, blocks-above c (m + 1) n k h (omega arith))

pub partial-unlisted : (es es' : List BlockEntry) (ns : List ℕ) (ks ks' : List ClassList) (c from n to b : ℕ) → IsClass c → IsPartial es es' ns ks ks' c from n to → from < n → b ≡ block_at c (n - 1)
    → Each (λ x. number_of c x < from) (class_in es ns c (list_at ks c)).stack → is_member (class_in es' ns c (list_at ks' c)).stack b ≡ false
unfolding partial_in
partial-unlisted es es' ns ks ks' c from n to b hc p l eb old =
    let k = class_in es ns c (list_at ks c) in
    let number : number_of c b ≡ n - 1 = ap (number_of c) eb ∙ number_of-block_at c (n - 1) hc in
    let all : Each (λ x. number_of c x ≢ n - 1) (blocks_from c n (to - n) ++ k.stack) =
    Each-append (blocks_from c n (to - n)) k.stack (λ x. number_of c x ≢ n - 1)
    (Each-map (blocks_from c n (to - n)) (λ x. n ≤ number_of c x) (λ x. number_of c x ≢ n - 1) (blocks-above c n (to - n) n hc (omega arith)) (λ x q s. omega arith))
    (Each-map k.stack (λ x. number_of c x < from) (λ x. number_of c x ≢ n - 1) old (λ x q s. omega arith)) in
    ap (λ (t : ClassState). is_member t.stack b) p.became.class ∙ not-member (blocks_from c n (to - n) ++ k.stack) (λ x. number_of c x ≢ n - 1) b all (λ q. q number)

pub partial-room : (es es' : List BlockEntry) (ns : List ℕ) (ks ks' : List ClassList) (c from n to : ℕ) (last : Bool) → IsClass c → IsTable (block_table es ns ks) → IsPartial es es' ns ks ks' c from n to → from < n
    → last ≡ is_last_at (max_count_of c / 2) (to - from) (n - 1 - from) → Each (λ m. m ≤ max_count_of c) (sizes_after_push last (class_in es' ns c (list_at ks' c)).sizes)
unfolding partial_in
partial-room es es' ns ks ks' c from n to last hc h p l el =
    let half = max_count_of c / 2 in
    let k = class_in es ns c (list_at ks c) in
    let a = p.high in
    let r = to - n in
    let place : n - 1 - from ≡ (to - from) - suc r = omega arith in
    let is : sizes_after_push last (class_in es' ns c (list_at ks' c)).sizes ≡ cut half (to - from) (suc r) ++ k.sizes =
    ap (λ (t : ClassState). sizes_after_push last t.sizes) p.became.class ∙ ap (λ t. sizes_after_push t (cut half (to - from) r ++ k.sizes)) (el ∙ ap (is_last_at half (to - from)) place)
    ∙ cut-step half (to - from) r k.sizes (half-pos c) (omega arith) in
    subst (Each (λ m. m ≤ max_count_of c)) (sym is)
    (Each-append (cut half (to - from) (suc r)) k.sizes (λ m. m ≤ max_count_of c)
    (Each-map (cut half (to - from) (suc r)) (λ m. m ≤ half) (λ m. m ≤ max_count_of c) (cut-below half (to - from) (suc r) (half-pos c) (omega arith)) (λ m q. omega arith))
    (h.linked c hc).batches)

-- the address as the code has it
pub block-sum : (c n s start : ℕ) → start ≡ region_of c → s ≡ size_of c → start + n * s ≡ block_at c n
block-sum c n s start e z = ap (λ t. t + n * s) e ∙ ap (λ t. region_of c + n * t) z

pub last-half : (c m n place : ℕ) (last : Bool) → m ≡ max_count_of c → last ≡ is_last_at (m / 2) n place → last ≡ is_last_at (max_count_of c / 2) n place
last-half c m n place last e l = l ∙ ap (λ t. is_last_at (t / 2) n place) e

pub partial-below : (es es' : List BlockEntry) (ns : List ℕ) (ks ks' : List ClassList) (c from n to b : ℕ) → IsClass c → to ≡ carved_count c (list_at ks c).pages → IsPartial es es' ns ks ks' c from n to → from < n → b ≡ block_at c (n - 1) → b < 2 ^ 30
partial-below es es' ns ks ks' c from n to b hc e p l eb = block-below c (list_at ks' c).pages b hc (p.became.table.numbered.few c hc) (partial-block es es' ns ks ks' c from n to b hc e p l eb)
