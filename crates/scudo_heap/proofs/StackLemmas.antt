-- The stacks, by class: one of them changes, and the others stay.
use Rattle.std.proofs.Common.{◌≡◌, ◌≢◌, ℕ, ◌-◌, ◌*◌, List, [], ◌∷◌, ◌++◌, length, drop, reverse, slice_get, Option, Some, None, refl, sym, ap, ◌∙◌, arith}
use Rattle.std.proofs.lemmas.List.{length-append, length-reverse}
use Rattle.std.specs.Option.{IsNone}
use Rattle.scudo_header.specs.declared.config.TheConstants.{CLASSES}
use Rattle.scudo_header.specs.Classes.{IsClass}
use Rattle.scudo_header.specs.ByClass.{ByClass, with_value}
use Rattle.scudo_header.proofs.ByClassLaws.{value_of-by_class, value_of-with_value, value_of-with_value_other, by_class-same, by_class-with_value}
use Rattle.scudo_primary.specs.Blocks.{carved_count, blocks_from}
use Rattle.scudo_primary.specs.Pools as primary
use Rattle.scudo_primary.specs.Pools.{ClassState, PoolState, class_after_carve, with_pages, new_count, empty_pool}
use Rattle.scudo_primary.specs.Caches.{CacheState, entries_of, with_entries, one_stack, empty_cache, KeepsRest, block_taken, class_after_take, class_after_put}
use Rattle.scudo_primary.proofs.CacheLaws.{one-stack-taken, one-stack-put}
use Rattle.scudo_heap.specs.Stacks.{ClassHeap, StackState, empty_class, empty_stacks, stacks_by, memory_for, class_at, with_class, with_stack, pages_of, stack_of, after_pop, after_push, carved_class, after_carve}
use Rattle.scudo_heap.specs.Inner.{class_in, capacities_in, stacks_in}
use Rattle.scudo_heap.specs.declared.stacks.Stacks.TheInside.{Inside}

-- ---- by class

pub class_at-stacks_by : (l : ℕ) (cs : List ℕ) (f : ℕ → ClassHeap) (c : ℕ) → IsClass c → class_at (stacks_by l cs f) c ≡ f c
unfolding class_at
class_at-stacks_by l cs f c h = value_of-by_class f empty_class c h

pub class_at-with_class : (s : StackState) (c : ℕ) (k : ClassHeap) → class_at (with_class s c k) c ≡ k
unfolding class_at with_class
class_at-with_class s c k = value_of-with_value s.classes empty_class c k

pub class_at-with_class_other : (s : StackState) (c d : ℕ) (k : ClassHeap) → d ≢ c → class_at (with_class s c k) d ≡ class_at s d
unfolding class_at with_class
class_at-with_class_other s c d k n = value_of-with_value_other s.classes empty_class c k d n

-- ---- the parts

abbrev stacks_with : ℕ → List ℕ → ByClass ClassHeap → StackState
stacks_with n cs m = record { left = n; capacities = cs; classes = m }

pub at-inside : (f : Inside) (v : StackState) (c : ℕ) → stacks_in f ≡ v → IsClass c → class_at v c ≡ class_in f c
at-inside f v c e h = ap (λ t. class_at t c) (sym e) ∙ class_at-stacks_by _ _ (class_in f) c h

abbrev class_with : ℕ → List ℕ → ClassHeap
class_with n s = record { pages = n; stack = s }

same-class : (n m : ℕ) (s t : List ℕ) → n ≡ m → s ≡ t → class_with n s ≡ class_with m t
same-class n m s t e f = λ i. record { pages = e i; stack = f i }

-- the cache's and the pool's lists have the memory that they had
same-memory : (xs ys : List ℕ) (m n : ℕ) → xs ≡ ys → m ≡ n → xs ++ m ∷ [] ≡ ys ++ n ∷ []
same-memory xs ys m n e f = ap (λ t. t ++ m ∷ []) e ∙ ap (λ t. ys ++ t ∷ []) f

-- after a call of the cache
view-changed : (f g : Inside) (v : StackState) (c : ℕ) (s : List ℕ) → stacks_in f ≡ v → IsClass c → KeepsRest c f.cache f.pool g.cache g.pool → g.cache.capacity ≡ f.cache.capacity
    → one_stack g.cache g.pool c ≡ s → stacks_in g ≡ with_stack v c s
unfolding with_class
view-changed f g v c s e h k m own =
    let pages = k.pages c ∙ ap (λ (t : ClassHeap). t.pages) (sym (at-inside f v c e h)) in
    ap (λ n. stacks_by n (capacities_in g) (class_in g)) k.left
    ∙ ap (λ xs. stacks_by f.pool.left xs (class_in g)) (same-memory _ _ _ _ k.capacities m)
    ∙ ap (stacks_with f.pool.left (capacities_in f))
    (by_class-with_value (class_in f) (class_in g) c (class_with (pages_of v c) s) h (same-class _ _ _ _ pages own) (λ d hd n. same-class _ _ _ _ (k.pages d) (k.others d hd.low n)))
    ∙ ap (λ t. with_class t c (class_with (pages_of v c) s)) e

-- by the clauses of a take and of a put
pub view-after-pop : (f g : Inside) (v : StackState) (c : ℕ) → stacks_in f ≡ v → IsClass c → KeepsRest c f.cache f.pool g.cache g.pool → block_taken f.cache f.pool c ≡ slice_get (one_stack f.cache f.pool c) 0
    → g.cache ≡ with_entries f.cache c (class_after_take f.cache f.pool c).entries → g.pool ≡ (class_after_take f.cache f.pool c).pool → stacks_in g ≡ after_pop v c
unfolding after_pop
view-after-pop f g v c e h k top ec ep =
    view-changed f g v c _ e h k (ap (λ (t : CacheState). t.capacity) ec)
    (ap (λ t. one_stack t g.pool c) ec ∙ ap (λ t. one_stack (with_entries f.cache c (class_after_take f.cache f.pool c).entries) t c) ep ∙ one-stack-taken f.cache f.pool c top
    ∙ ap (λ (t : ClassHeap). drop 1 t.stack) (sym (at-inside f v c e h)))

pub view-after-push : (f g : Inside) (v : StackState) (c block : ℕ) → stacks_in f ≡ v → IsClass c → KeepsRest c f.cache f.pool g.cache g.pool
    → g.cache ≡ with_entries f.cache c (class_after_put f.cache f.pool c block).entries → g.pool ≡ (class_after_put f.cache f.pool c block).pool → stacks_in g ≡ after_push v c block
unfolding after_push
view-after-push f g v c block e h k ec ep =
    view-changed f g v c _ e h k (ap (λ (t : CacheState). t.capacity) ec)
    (ap (λ t. one_stack t g.pool c) ec ∙ ap (λ t. one_stack (with_entries f.cache c (class_after_put f.cache f.pool c block).entries) t c) ep ∙ one-stack-put f.cache f.pool c block
    ∙ ap (λ (t : ClassHeap). block ∷ t.stack) (sym (at-inside f v c e h)))

-- more pages for a class without free blocks
none-cached : (xs ys : List ℕ) → reverse xs ++ ys ≡ [] → xs ≡ []
none-cached [] ys e = refl
none-cached (x ∷ xs) ys e = let l = ap length e ∙ refl in let m = length-append (reverse (x ∷ xs)) ys in let k = length-reverse (x ∷ xs) in absurd (omega arith)

pub no-entries : (f : Inside) (v : StackState) (c : ℕ) → stacks_in f ≡ v → IsClass c → stack_of v c ≡ [] → entries_of f.cache c ≡ []
no-entries f v c e h z = none-cached (entries_of f.cache c) (primary.stack_of f.pool c) (ap (λ (k : ClassHeap). k.stack) (sym (at-inside f v c e h)) ∙ z)

pub view-after-carve : (f : Inside) (q : PoolState) (v : StackState) (c n : ℕ) → stacks_in f ≡ v → IsClass c → stack_of v c ≡ [] → q ≡ with_pages f.pool c n → stacks_in (record { pool = q; cache = f.cache }) ≡ after_carve v c n
unfolding after_carve with_class
view-after-carve f q v c n e h z eq =
    let g : Inside = record { pool = with_pages f.pool c n; cache = f.cache } in
    let k = primary.class_at f.pool c in
    let more = class_after_carve c k n (new_count c k.pages n) in
    let new = value_of-with_value f.pool.classes primary.empty_class c more in
    let none = no-entries f v c e h z in
    let blocks = blocks_from c (carved_count c k.pages) (new_count c k.pages n) in
    let own : class_in g c ≡ carved_class c (class_at v c) n =
    same-class _ _ _ _ (ap (λ (t : ClassState). t.pages) new) (ap (λ (t : ClassState). reverse (entries_of f.cache c) ++ t.stack) new ∙ ap (λ xs. reverse xs ++ (blocks ++ k.stack)) none ∙ ap (λ xs. blocks ++ (reverse xs ++ k.stack)) (sym none))
    ∙ ap (λ t. carved_class c t n) (sym (at-inside f v c e h)) in
    let other : (d : ℕ) → d ≢ c → primary.class_at g.pool d ≡ primary.class_at f.pool d = λ d o. value_of-with_value_other f.pool.classes primary.empty_class c more d o in
    ap (λ t. stacks_in (record { pool = t; cache = f.cache })) eq
    ∙ ap (stacks_with (f.pool.left - n) (capacities_in f))
    (by_class-with_value (class_in f) (class_in g) c (carved_class c (class_at v c) n) h own
    (λ d hd o. same-class _ _ _ _ (ap (λ (t : ClassState). t.pages) (other d o)) (ap (λ (t : ClassState). reverse (entries_of f.cache d) ++ t.stack) (other d o))))
    ∙ ap (λ (t : StackState). stacks_with (t.left - n) t.capacities (with_value t.classes c (carved_class c (class_at v c) n))) e

-- at the start
pub view-new : (f : Inside) (n : ℕ) → f.pool ≡ empty_pool n (128 * n ∷ CLASSES * n ∷ []) → f.cache ≡ empty_cache CLASSES → stacks_in f ≡ empty_stacks n
unfolding empty_stacks
view-new f n e u =
    let cs = 128 * n ∷ CLASSES * n ∷ [] in
    let g : Inside = record { pool = empty_pool n cs; cache = empty_cache CLASSES } in
    ap (λ t. stacks_in (record { pool = t; cache = f.cache })) e ∙ ap (λ t. stacks_in (record { pool = empty_pool n cs; cache = t })) u
    ∙ ap (stacks_with n (memory_for n)) (by_class-same (class_in g) (λ _. empty_class) (λ c h.
    let at = value_of-by_class (λ _. primary.empty_class) primary.empty_class c h in
    let none : entries_of g.cache c ≡ [] = value_of-by_class (λ _. []) [] c h in
    same-class _ _ _ _ (ap (λ (t : ClassState). t.pages) at) (ap (λ (t : ClassState). reverse (entries_of g.cache c) ++ t.stack) at ∙ ap (λ xs. reverse xs ++ []) none)))

-- a pop of an empty stack
drop-none : (xs : List ℕ) → slice_get xs 0 ≡ None → drop 1 xs ≡ xs
drop-none [] e = refl
drop-none (x ∷ xs) e = cc

pub none-is : (o : Option ℕ) → IsNone o → o ≡ None
none-is None h = refl
none-is (Some x) h = cc

pub after-pop-none : (f : Inside) (v : StackState) (c : ℕ) → stacks_in f ≡ v → IsClass c → slice_get (stack_of v c) 0 ≡ None → after_pop v c ≡ v
unfolding after_pop with_class
after-pop-none f v c e h z =
    ap (with_stack v c) (drop-none (stack_of v c) z)
    ∙ ap (with_class v c) (at-inside f v c e h) ∙ ap (λ t. with_class t c (class_in f c)) (sym e)
    ∙ sym (ap (stacks_with f.pool.left (capacities_in f)) (by_class-with_value (class_in f) (class_in f) c (class_in f c) h refl (λ d hd n. refl))) ∙ e
