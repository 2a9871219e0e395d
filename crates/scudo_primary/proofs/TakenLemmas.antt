-- What a batch that was taken tells of its blocks.
use Rattle.std.proofs.Common.{◌≡◌, ℕ, zero, suc, ◌-◌, ◌<◌, ◌≤◌, ◌↔◌, ◌==◌, ◌||◌, Bool, true, false, List, [], ◌∷◌, ◌++◌, length, map, take, drop, reverse, refl, sym, ap, subst, ◌∙◌, inl, inr, arith, eqb, eq-eqb}
use Rattle.std.proofs.lemmas.Bool.{cases_eq}
use Rattle.std.proofs.lemmas.Bool.Decides.{nat_tests}
use Rattle.std.proofs.lemmas.List.{take_at, length-take-le, length-reverse, reverse-reverse, take-append-drop, length-map}
use Rattle.std.proofs.lemmas.List.Sorted.{IsPermutation-reverse}
use Rattle.std.proofs.lemmas.Map.Keys.{IsDistinct-IsPermutation}
use Rattle.std.specs.List.{All, IsDistinct}
use Rattle.scudo_primary.specs.Blocks.{IsBlock}
use Rattle.scudo_primary.specs.Batches.{max_count_of, first_size}
use Rattle.scudo_primary.specs.Pools.{empty_class, ClassState, PoolState, IsLoose, is_member, batch_in, class_after_pop_batch, class_at, with_class, without_batch, top_batch}
use Rattle.scudo_primary.specs.Inner.{block_table, Each, sizes_of_marks, list_at, free_in, last_in, stack_from, sizes_from, class_in, state_of, capacities_in, pool_in, IsLinked, IsTable, IsPool, Became}
use Rattle.scudo_primary.specs.Blocks.{IsClass}
use Rattle.scudo_header.proofs.ByClassLaws.{value_of-with_value}
use Rattle.scudo_primary.specs.declared.lists.BlockEntry.{BlockEntry}
use Rattle.scudo_primary.specs.declared.lists.ClassList.{ClassList}
use Rattle.scudo_primary.specs.declared.pool.Primary.TheInside.{Inside}
use Rattle.scudo_primary.proofs.BlockLists.{each-block}
use Rattle.scudo_primary.proofs.ListLemmas.{Each-both, Each-map, distinct-head, distinct-tail, distinct-cons}
use Rattle.scudo_primary.proofs.TableLemmas.{mark-block}
use Rattle.scudo_primary.proofs.BatchLemmas.{Each-reverse}
use Rattle.scudo_primary.proofs.TakingLemmas.{first-pos, first-more, first-below}
use Rattle.scudo_primary.proofs.ModelLemmas.{class_at-slices, table-same, became-state}

Each-All : (xs : List ℕ) (P : ℕ → Type 0) → Each P xs → All P xs
Each-All [] P h k d l = absurd (omega arith)
Each-All (x ∷ xs) P h zero d l = h.0
Each-All (x ∷ xs) P h (suc k) d l = Each-All xs P h.1 k d (omega arith)

Each-left : (xs ys : List ℕ) (P : ℕ → Type 0) → Each P (xs ++ ys) → Each P xs
Each-left [] ys P h = tt
Each-left (x ∷ xs) ys P h = (h.0, Each-left xs ys P h.1)

or-false : (a b : Bool) → (a || b) ≡ false → (a ≡ false) × (b ≡ false)
or-false false b h = (refl, h)
or-false true b h = cc

member-append : (xs ys : List ℕ) (b : ℕ) → is_member (xs ++ ys) b ≡ false → (is_member xs b ≡ false) × (is_member ys b ≡ false)
member-append [] ys b h = (refl, h)
member-append (x ∷ xs) ys b h =
    let t = or-false (b == x) (is_member (xs ++ ys) b) h in
    let m = member-append xs ys b t.1 in
    (ap (λ v. v || is_member xs b) t.0 ∙ m.0, m.1)

distinct-left : (xs ys : List ℕ) → IsDistinct eqb (xs ++ ys) → IsDistinct eqb xs
unfolding IsDistinct
distinct-left [] ys h = tt
distinct-left (x ∷ xs) ys h = distinct-cons x xs (member-append xs ys x (distinct-head x (xs ++ ys) h)).0 (distinct-left xs ys (distinct-tail x (xs ++ ys) h))

distinct-across : (xs ys : List ℕ) → IsDistinct eqb (xs ++ ys) → Each (λ x. is_member ys x ≡ false) xs
distinct-across [] ys h = tt
distinct-across (x ∷ xs) ys h = ((member-append xs ys x (distinct-head x (xs ++ ys) h)).1, distinct-across xs ys (distinct-tail x (xs ++ ys) h))

first-length : (flags : List Bool) → first_size (sizes_of_marks flags) ≤ length flags
unfolding sizes_of_marks
first-length [] = omega arith
first-length (true ∷ more) = omega arith
first-length (false ∷ more) = let a = first-length more in let b = first-more (sizes_of_marks more) in omega arith

first-none : (f : ℕ → Bool) (xs : List ℕ) → (first_size (sizes_of_marks (map f xs)) ≡ 0) ↔ (xs ≡ [])
unfolding sizes_of_marks
first-none f [] = ((λ e. refl), (λ e. refl))
first-none f (x ∷ xs) = ((λ e. let p = first-pos (f x) (sizes_of_marks (map f xs)) in absurd (omega arith)), (λ e. cc))

eqb-flip : (x y : ℕ) → eqb x y ≡ eqb y x
eqb-flip x y = elim (cases_eq x y) [
  | inl e ↦ eq-eqb x y e ∙ sym (eq-eqb y x (sym e))
  | inr n ↦ (let a : eqb x y ≡ false = grind (arith, nat_tests) in let b : eqb y x ≡ false = grind (arith, nat_tests) in a ∙ sym b)
]

-- what holds of the top batch of a class
pub record IsBatch (c : ℕ) (k : ClassState) : Type 0 where
  pub most : first_size k.sizes ≤ max_count_of c
  pub empty : (first_size k.sizes ≡ 0) ↔ (k.stack ≡ [])
  pub len : length (batch_in k) ≡ first_size k.sizes
  pub loose : All (IsLoose (class_after_pop_batch k) c) (batch_in k)
  pub distinct : IsDistinct eqb (batch_in k)

batch-of : (es : List BlockEntry) (ns : List ℕ) (c : ℕ) (k : ClassList) → IsLinked es ns c k → IsBatch c (class_in es ns c k)
unfolding sizes_from
batch-of es ns c k h =
    let s = stack_from es ns c k.count k.head in
    let n = first_size (sizes_from es ns c k.count k.head) in
    let short : n ≤ length s = let a = first-length (map (last_in es ns c) s) in let b = length-map s (last_in es ns c) in omega arith in
    let cut : take n s ++ drop n s ≡ s = take-append-drop n s in
    let facts : Each (λ x. IsBlock c k.pages x × (free_in es ns c x ≡ true)) (take n s) =
    Each-left (take n s) (drop n s) _ (subst (Each (λ x. IsBlock c k.pages x × (free_in es ns c x ≡ true))) (sym cut) (Each-both s (IsBlock c k.pages) (λ x. free_in es ns c x ≡ true) (each-block c k.pages s h.blocks) h.marked)) in
    let distinct = subst (IsDistinct eqb) (sym cut) h.blocks.distinct in
    let loose : Each (IsLoose (class_after_pop_batch (class_in es ns c k)) c) (take n s) =
    Each-map (take n s) _ _ (Each-both (take n s) _ (λ x. is_member (drop n s) x ≡ false) facts (distinct-across (take n s) (drop n s) distinct))
    (λ x q. record { carved = q.0.0; marked = mark-block es ns c k.pages x false q.0.0 ∙ q.0.1; unlisted = q.1 }) in
    record {
      most = first-below (sizes_from es ns c k.count k.head) (max_count_of c) h.batches;
      empty = first-none (last_in es ns c) s;
      len = length-reverse (take n s) ∙ length-take-le n s short;
      loose = Each-All (reverse (take n s)) _ (Each-reverse (take n s) _ loose);
      distinct = IsDistinct-IsPermutation eqb eqb-flip (take n s) (reverse (take n s)) (IsPermutation-reverse (take n s)) (distinct-left (take n s) (drop n s) distinct);
    }

-- ---- the pool

abbrev pub inside_lists : Inside → List ClassList → Inside
inside_lists f ks = record { entries = f.entries; numbers = f.numbers; lists = ks; used = f.used; limit = f.limit }

pub record BatchDone (f : Inside) (v : PoolState) (ks' : List ClassList) (c n : ℕ) (buffer buffer' : List ℕ) : Type 0 where
  pub invariant : IsPool (inside_lists f ks')
  pub view : pool_in (inside_lists f ks') ≡ without_batch v c
  pub count : n ≡ first_size (class_at v c).sizes
  pub blocks : buffer' ≡ top_batch v c ++ drop n buffer
  pub most : n ≤ max_count_of c
  pub empty : (n ≡ 0) ↔ ((class_at v c).stack ≡ [])
  pub stack : (class_at v c).stack ≡ reverse (take n buffer') ++ (class_at (pool_in (inside_lists f ks')) c).stack
  pub cached : All (IsLoose (class_at (pool_in (inside_lists f ks')) c) c) (take n buffer')
  pub distinct : IsDistinct eqb (take n buffer')

pub batch-done : (f : Inside) (v : PoolState) (es : List BlockEntry) (ns : List ℕ) (ks' : List ClassList) (c n : ℕ) (buffer buffer' : List ℕ) → pool_in f ≡ v → IsPool f → IsClass c → es ≡ f.entries.items → ns ≡ f.numbers.items
    → n ≡ first_size (class_in es ns c (list_at f.lists c)).sizes → buffer' ≡ batch_in (class_in es ns c (list_at f.lists c)) ++ drop n buffer
    → Became (block_table es ns f.lists) (block_table es ns ks') c (class_after_pop_batch (class_in es ns c (list_at f.lists c))) → BatchDone f v ks' c n buffer buffer'
batch-done f v es ns ks' c n buffer buffer' e h hc ee en count blocks b =
    let K = class_in es ns c (list_at f.lists c) in
    let at : class_at v c ≡ K = class_at-slices f v es ns c e hc ee en in
    let t = table-same f es ns h ee en in
    let batch = batch-of es ns c (list_at f.lists c) (t.linked c hc) in
    let taken : take n buffer' ≡ batch_in K = ap (take n) blocks ∙ take_at (batch_in K) (drop n buffer) n (batch.len ∙ sym count) in
    let view : pool_in (inside_lists f ks') ≡ with_class v c (class_after_pop_batch (class_at v c)) =
    ap (λ t. state_of (f.limit - f.used) (capacities_in f) (block_table t f.numbers.items ks')) (sym ee) ∙ ap (λ t. state_of (f.limit - f.used) (capacities_in f) (block_table es t ks')) (sym en)
    ∙ became-state (f.limit - f.used) (capacities_in f) es es ns f.lists ks' c (class_after_pop_batch K) hc b
    ∙ ap (λ t. with_class (state_of (f.limit - f.used) (capacities_in f) (block_table t ns f.lists)) c (class_after_pop_batch K)) ee ∙ ap (λ t. with_class (state_of (f.limit - f.used) (capacities_in f) (block_table f.entries.items t f.lists)) c (class_after_pop_batch K)) en
    ∙ ap (λ t. with_class t c (class_after_pop_batch K)) e ∙ ap (λ (t : ClassState). with_class v c (class_after_pop_batch t)) (sym at) in
    let now : class_at (pool_in (inside_lists f ks')) c ≡ class_after_pop_batch K = ap (λ t. class_at t c) view ∙ value_of-with_value v.classes empty_class c (class_after_pop_batch (class_at v c)) ∙ ap (λ (t : ClassState). class_after_pop_batch t) at in
    record {
      invariant = record {
        table = subst (λ t. IsTable (block_table f.entries.items t ks')) en (subst (λ t. IsTable (block_table t ns ks')) ee b.table);
        counted = λ d i hd l. h.counted d i hd (subst (λ t. i < t) (b.pages d hd) l);
        few = λ d hd. subst (λ t. t ≤ f.used) (sym (b.pages d hd)) (h.few d hd);
        below = h.below;
        most = h.most;
        room = h.room;
        slots = h.slots;
      };
      view = view;
      count = count ∙ ap (λ (t : ClassState). first_size t.sizes) (sym at);
      blocks = blocks ∙ ap (λ (t : ClassState). batch_in t ++ drop n buffer) (sym at);
      most = subst (λ m. m ≤ max_count_of c) (sym count) batch.most;
      empty = subst (λ (t : ClassState). (n ≡ 0) ↔ (t.stack ≡ [])) (sym at) (subst (λ m. (m ≡ 0) ↔ (K.stack ≡ [])) (sym count) batch.empty);
      stack = ap (λ (t : ClassState). t.stack) at
          ∙ sym (take-append-drop (first_size K.sizes) K.stack)
          ∙ ap (λ s. s ++ drop (first_size K.sizes) K.stack) (sym (reverse-reverse (take (first_size K.sizes) K.stack)))
          ∙ ap (λ s. reverse s ++ drop (first_size K.sizes) K.stack) (sym taken)
          ∙ ap (λ (t : ClassState). reverse (take n buffer') ++ t.stack) (sym now);
      cached = subst (λ (t : ClassState). All (IsLoose t c) (take n buffer')) (sym now) (subst (All (IsLoose (class_after_pop_batch K) c)) (sym taken) batch.loose);
      distinct = subst (IsDistinct eqb) (sym taken) batch.distinct;
    }
