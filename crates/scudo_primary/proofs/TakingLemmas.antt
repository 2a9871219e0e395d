-- The top batch of a class's list taken, block by block.
use Rattle.std.proofs.Common.{◌≡◌, ℕ, zero, suc, ◌+◌, ◌-◌, ◌<◌, ◌≤◌, ◌==◌, ◌&&◌, not, nat_lt, Bool, true, false, List, [], ◌∷◌, ◌++◌, length, take, drop, reverse, get_or, set, refl, sym, ap, subst, ◌∙◌, arith, eqb}
use Rattle.std.proofs.lemmas.Bool.Decides.{nat_tests}
use Rattle.std.proofs.lemmas.List.{take_more_set, length-set, take_at, drop_at, length-take-le, drop-drop, drop-set-lt, append_assoc}
use Rattle.std.specs.List.{IsDistinct}
use Rattle.scudo_primary.specs.Blocks.{AreBlocks, IsBlock}
use Rattle.scudo_primary.specs.Batches.{max_count_of, first_size}
use Rattle.scudo_primary.specs.Pools.{batch_in, class_after_pop_batch}
use Rattle.scudo_primary.specs.Inner.{block_table, Each, follow, sizes_of_marks, sizes_after_push, one_more, place_of, no_entry, entry_at, list_at, next_in, last_in, free_in, stack_from, sizes_from, marks_in, class_in, IsLinked, IsTable, Became}
use Rattle.scudo_primary.specs.Blocks.{IsClass}
use Rattle.scudo_header.specs.declared.config.TheConstants.{MAX_COUNT}
use Rattle.scudo_primary.specs.declared.lists.BlockEntry.{BlockEntry}
use Rattle.scudo_primary.specs.declared.lists.ClassList.{ClassList}
use Rattle.scudo_primary.proofs.BlockLists.{each-block, blocks-behind}
use Rattle.scudo_primary.proofs.BlockLemmas.{IsCell, block-IsCell}
use Rattle.scudo_primary.proofs.ListLemmas.{distinct-tail, max_count-high}
use Rattle.scudo_primary.proofs.TableLemmas.{became, list-same, list-other}
use Rattle.scudo_primary.proofs.LinkLemmas.{stack-split, sizes-split}

Each-right : (xs ys : List ℕ) (P : ℕ → Type 0) → Each P (xs ++ ys) → Each P ys
Each-right [] ys P h = h
Each-right (x ∷ xs) ys P h = Each-right xs ys P h.1

distinct-right : (xs ys : List ℕ) → IsDistinct eqb (xs ++ ys) → IsDistinct eqb ys
distinct-right [] ys h = h
distinct-right (x ∷ xs) ys h = distinct-right xs ys (distinct-tail x (xs ++ ys) h)

pub first-more : (sizes : List ℕ) → first_size (one_more sizes) ≡ first_size sizes + 1
first-more [] = refl
first-more (n ∷ ns) = refl

drop-more : (sizes : List ℕ) → drop 1 (one_more sizes) ≡ drop 1 sizes
drop-more [] = refl
drop-more (n ∷ ns) = refl

pub first-pos : (last : Bool) (sizes : List ℕ) → 0 < first_size (sizes_after_push last sizes)
first-pos true sizes = omega arith
first-pos false sizes = let e = first-more sizes in omega arith

pub first-below : (sizes : List ℕ) (m : ℕ) → Each (λ n. n ≤ m) sizes → first_size sizes ≤ m
first-below [] m h = omega arith
first-below (n ∷ ns) m h = h.0

Each-drop : (sizes : List ℕ) (P : ℕ → Type 0) → Each P sizes → Each P (drop 1 sizes)
Each-drop [] P h = tt
Each-drop (n ∷ ns) P h = h.1

pub record IsTaking (es : List BlockEntry) (ns : List ℕ) (c n at : ℕ) (start buffer : List ℕ) (count next : ℕ) (more : Bool) : Type 0 where
  pub within : count ≤ n
  pub room : length buffer ≡ length start
  pub fits : count ≤ length buffer
  pub stack : stack_from es ns c n at ≡ take count buffer ++ stack_from es ns c (n - count) next
  pub rest : drop count buffer ≡ drop count start
  pub goes : more ≡ true → (count < n) × (first_size (sizes_from es ns c (n - count) next) + count ≡ first_size (sizes_from es ns c n at)) × (drop 1 (sizes_from es ns c (n - count) next) ≡ drop 1 (sizes_from es ns c n at))
  pub ends : more ≡ false → (count ≡ first_size (sizes_from es ns c n at)) × (sizes_from es ns c (n - count) next ≡ drop 1 (sizes_from es ns c n at))

sizes-none : (es : List BlockEntry) (ns : List ℕ) (c n at : ℕ) → n ≡ 0 → sizes_from es ns c n at ≡ []
unfolding sizes_from stack_from follow sizes_of_marks
sizes-none es ns c n at e = ap (λ t. sizes_from es ns c t at) e

pub taking-init : (es : List BlockEntry) (ns : List ℕ) (c n at : ℕ) (buffer : List ℕ) (more : Bool) → (more ≡ true → 0 < n) → (more ≡ false → n ≡ 0) → IsTaking es ns c n at buffer buffer 0 at more
taking-init es ns c n at buffer more some none =
    let all : n ≡ n - 0 = omega arith in
    record {
      within = omega arith;
      room = refl;
      fits = omega arith;
      stack = ap (λ t. stack_from es ns c t at) all;
      rest = refl;
      goes = λ e. (some e, (let f = ap (λ t. first_size (sizes_from es ns c t at)) (sym all) in omega arith), ap (λ t. drop 1 (sizes_from es ns c t at)) (sym all));
      ends = λ e.
          let z = sizes-none es ns c n at (none e) in
          let y = sizes-none es ns c (n - 0) at (sym all ∙ none e) in
          (sym (ap first_size z), y ∙ sym (ap (drop 1) z));
    }

-- the next block of the batch
pub record IsNext (es : List BlockEntry) (ns : List ℕ) (ks : List ClassList) (c : ℕ) (buffer : List ℕ) (count next : ℕ) : Type 0 where
  pub block : IsBlock c (list_at ks c).pages next
  pub cell : IsCell c (list_at ks c).pages next
  pub fits : count < MAX_COUNT

pub taking-next : (es : List BlockEntry) (ns : List ℕ) (ks : List ClassList) (c : ℕ) (start buffer : List ℕ) (count next : ℕ) (more : Bool) → IsTable (block_table es ns ks) → IsClass c
    → IsTaking es ns c (list_at ks c).count (list_at ks c).head start buffer count next more → more ≡ true → IsNext es ns ks c buffer count next
taking-next es ns ks c start buffer count next more h hc t e =
    let k = list_at ks c in
    let old = h.linked c hc in
    let g = t.goes e in
    let some : 0 < k.count - count = let l = g.0 in omega arith in
    let xs = stack_from es ns c (k.count - count - 1) (next_in es ns c next) in
    let is : stack_from es ns c (k.count - count) next ≡ next ∷ xs = stack-split es ns c (k.count - count) next some in
    let all : Each (IsBlock c k.pages) (next ∷ xs) = subst (Each (IsBlock c k.pages)) is (Each-right (take count buffer) _ (IsBlock c k.pages) (subst (Each (IsBlock c k.pages)) t.stack (each-block c k.pages (stack_from es ns c k.count k.head) old.blocks))) in
    let pos : 0 < first_size (sizes_from es ns c (k.count - count) next) =
    subst (λ s. 0 < first_size s) (sym (sizes-split es ns c (k.count - count) next some)) (first-pos (last_in es ns c next) _) in
    let up = first-below (sizes_from es ns c k.count k.head) (max_count_of c) old.batches in
    let high = max_count-high c in
    let sum = g.1 in
    record { block = all.0; cell = block-IsCell c k.pages next hc all.0; fits = omega arith }

drop-next : (count : ℕ) (xs ys : List ℕ) → drop count xs ≡ drop count ys → drop (count + 1) xs ≡ drop (count + 1) ys
drop-next count xs ys e = sym (drop-drop 1 count xs) ∙ ap (drop 1) e ∙ drop-drop 1 count ys

goes-on : (last : Bool) (below : List ℕ) (count n all : ℕ) (others : List ℕ) → (not last && nat_lt (count + 1) n) ≡ true → first_size (sizes_after_push last below) + count ≡ all → drop 1 (sizes_after_push last below) ≡ others
    → (count + 1 < n) × (first_size below + (count + 1) ≡ all) × (drop 1 below ≡ others)
goes-on true below count n all others m sum tail = cc
goes-on false below count n all others m sum tail =
    let low : count + 1 < n = grind (arith, nat_tests) in
    let f = first-more below in
    (low, omega arith, sym (drop-more below) ∙ tail)

ends-here : (last : Bool) (below : List ℕ) (count n all : ℕ) (others : List ℕ) → (not last && nat_lt (count + 1) n) ≡ false → first_size (sizes_after_push last below) + count ≡ all → drop 1 (sizes_after_push last below) ≡ others
    → (n ≤ count + 1 → below ≡ []) → (count + 1 ≡ all) × (below ≡ others)
ends-here true below count n all others m sum tail none = (omega arith, tail)
ends-here false below count n all others m sum tail none =
    let high : n ≤ count + 1 = grind (arith, nat_tests) in
    let z = none high in
    let f : first_size (one_more below) ≡ 1 = ap (λ t. first_size (one_more t)) z in
    (omega arith, z ∙ sym (ap (λ t. drop 1 (one_more t)) z) ∙ tail)

pub taking-step : (es : List BlockEntry) (ns : List ℕ) (c n at : ℕ) (start buffer : List ℕ) (count next place : ℕ) (more more' : Bool) → IsTaking es ns c n at start buffer count next more → more ≡ true → count < length buffer → place ≡ place_of ns c next
    → more' ≡ (not (get_or es place no_entry).last && nat_lt (count + 1) n) → IsTaking es ns c n at start (set buffer count next) (count + 1) (get_or es place no_entry).next more'
unfolding next_in last_in entry_at
taking-step es ns c n at start buffer count next place more more' t e fits is em =
    let g = t.goes e in
    let low = g.0 in
    let entry = get_or es place no_entry in
    let some : 0 < n - count = omega arith in
    let less : n - count - 1 ≡ n - (count + 1) = omega arith in
    let own : entry_at es ns c next ≡ entry = ap (λ p. get_or es p no_entry) (sym is) in
    let below = sizes_from es ns c (n - (count + 1)) entry.next in
    let split : stack_from es ns c (n - count) next ≡ next ∷ stack_from es ns c (n - (count + 1)) entry.next =
    stack-split es ns c (n - count) next some ∙ ap (λ p. next ∷ stack_from es ns c (n - count - 1) (get_or es p no_entry).next) (sym is) ∙ ap (λ m. next ∷ stack_from es ns c m entry.next) less in
    let sizes : sizes_from es ns c (n - count) next ≡ sizes_after_push entry.last below =
    sizes-split es ns c (n - count) next some ∙ ap (λ p. sizes_after_push (get_or es p no_entry).last (sizes_from es ns c (n - count - 1) (get_or es p no_entry).next)) (sym is)
    ∙ ap (λ m. sizes_after_push entry.last (sizes_from es ns c m entry.next)) less in
    let taken : take (count + 1) (set buffer count next) ≡ take count buffer ++ next ∷ [] = take_more_set buffer count next fits in
    let sum : first_size (sizes_after_push entry.last below) + count ≡ first_size (sizes_from es ns c n at) = ap (λ s. first_size s + count) (sym sizes) ∙ g.1 in
    let tail : drop 1 (sizes_after_push entry.last below) ≡ drop 1 (sizes_from es ns c n at) = ap (drop 1) (sym sizes) ∙ g.2 in
    record {
      within = omega arith;
      room = length-set buffer count next ∙ t.room;
      fits = let l = length-set buffer count next in omega arith;
      stack = t.stack ∙ ap (λ s. take count buffer ++ s) split ∙ sym (append_assoc (take count buffer) (next ∷ []) (stack_from es ns c (n - (count + 1)) entry.next)) ∙ ap (λ s. s ++ stack_from es ns c (n - (count + 1)) entry.next) (sym taken);
      rest = drop-set-lt (count + 1) buffer count next (omega arith) ∙ drop-next count buffer start t.rest;
      goes = λ m. goes-on entry.last below count n _ _ (sym em ∙ m) sum tail;
      ends = λ m. ends-here entry.last below count n _ _ (sym em ∙ m) sum tail (λ l. sizes-none es ns c (n - (count + 1)) entry.next (omega arith));
    }

-- ---- the batch is taken

abbrev pub below_list : ClassList → ℕ → ℕ → ClassList
below_list k count next = record { head = next; count = k.count - count; pages = k.pages }

taken-class : (es : List BlockEntry) (ns : List ℕ) (c : ℕ) (k : ClassList) (start buffer : List ℕ) (count next : ℕ) (more : Bool) → IsLinked es ns c k → IsTaking es ns c k.count k.head start buffer count next more → more ≡ false
    → IsLinked es ns c (below_list k count next) × (class_in es ns c (below_list k count next) ≡ class_after_pop_batch (class_in es ns c k))
taken-class es ns c k start buffer count next more old t e =
    let xs = stack_from es ns c (k.count - count) next in
    let g = t.ends e in
    let len : length (take count buffer) ≡ count = length-take-le count buffer t.fits in
    let dropped : drop count (stack_from es ns c k.count k.head) ≡ xs = ap (drop count) t.stack ∙ drop_at (take count buffer) xs count len in
    let stack : xs ≡ drop (first_size (sizes_from es ns c k.count k.head)) (stack_from es ns c k.count k.head) = sym dropped ∙ ap (λ m. drop m (stack_from es ns c k.count k.head)) g.0 in (
      record {
        blocks = blocks-behind c k.pages (take count buffer) xs (subst (AreBlocks c k.pages) t.stack old.blocks);
        marked = Each-right (take count buffer) xs (λ b. free_in es ns c b ≡ true) (subst (Each (λ b. free_in es ns c b ≡ true)) t.stack old.marked);
        batches = subst (Each (λ n. n ≤ max_count_of c)) (sym g.1) (Each-drop (sizes_from es ns c k.count k.head) (λ n. n ≤ max_count_of c) old.batches);
      },
      (λ i. record { pages = k.pages; stack = stack i; sizes = (g.1) i; marks = marks_in es ns c k.pages }),
    )

pub taken : (es : List BlockEntry) (ns : List ℕ) (ks : List ClassList) (c : ℕ) (start buffer : List ℕ) (count next : ℕ) (more : Bool) → IsTable (block_table es ns ks) → IsClass c
    → IsTaking es ns c (list_at ks c).count (list_at ks c).head start buffer count next more → more ≡ false
    → Became (block_table es ns ks) (block_table es ns (set ks (c - 1) (below_list (list_at ks c) count next))) c (class_after_pop_batch (class_in es ns c (list_at ks c)))
taken es ns ks c start buffer count next more h hc t e =
    let k = list_at ks c in
    let k' = below_list k count next in
    let new = taken-class es ns c k start buffer count next more (h.linked c hc) t e in
    became es es ns ks (set ks (c - 1) k') c k' (class_after_pop_batch (class_in es ns c k)) h hc refl (length-set ks (c - 1) k') (list-same ks c k' hc h.all) (λ d hd n. list-other ks c d k' hc hd n) refl
    (λ d x hd n q. refl) new.0 new.1

pub taken-buffer : (es : List BlockEntry) (ns : List ℕ) (c : ℕ) (k : ClassList) (start buffer : List ℕ) (count next : ℕ) (more : Bool) → IsTaking es ns c k.count k.head start buffer count next more → more ≡ false
    → reverse (take count buffer) ++ drop count buffer ≡ batch_in (class_in es ns c k) ++ drop count start
taken-buffer es ns c k start buffer count next more t e =
    let xs = stack_from es ns c (k.count - count) next in
    let g = t.ends e in
    let len : length (take count buffer) ≡ count = length-take-le count buffer t.fits in
    let same : take count buffer ≡ take (first_size (sizes_from es ns c k.count k.head)) (stack_from es ns c k.count k.head) =
    sym (ap (take count) t.stack ∙ take_at (take count buffer) xs count len) ∙ ap (λ m. take m (stack_from es ns c k.count k.head)) g.0 in
    ap (λ s. reverse s ++ drop count buffer) same ∙ ap (λ s. reverse (take (first_size (sizes_from es ns c k.count k.head)) (stack_from es ns c k.count k.head)) ++ s) t.rest

pub more-at-first : (n : ℕ) → (not (n == 0) ≡ true → 0 < n) × (not (n == 0) ≡ false → n ≡ 0)
more-at-first zero = ((λ e. cc), (λ e. refl))
more-at-first (suc n) = ((λ e. omega arith), (λ e. let t : (suc n == 0) ≡ false = grind (arith, nat_tests) in cc))
