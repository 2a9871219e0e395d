-- What the table says of the value that callers see.
use Rattle.std.proofs.Common.{◌≡◌, ℕ, zero, suc, ◌-◌, ◌/◌, ◌<◌, ◌≤◌, Bool, true, false, List, [], ◌∷◌, length, get_or, set, slice_get, Some, refl, sym, ap, subst, ◌∙◌, arith}
use Rattle.std.proofs.lemmas.List.{with_items_is}
use Rattle.std.specs.Prelude.{vec_len}
use Rattle.std.specs.Vec.{with_items}
use Rattle.scudo_header.specs.Regions.{region_of}
use Rattle.scudo_header.specs.ByClass.{ByClass, by_class}
use Rattle.scudo_header.proofs.ByClassLaws.{value_of-by_class, value_of-with_value, by_class-same, by_class-with_value}
use Rattle.common.specs.declared.limits.TheConstants.{PAGE_SIZE}
use Rattle.scudo_primary.specs.Blocks.{number_of, IsBlock}
use Rattle.scudo_primary.specs.Pools.{ClassState, PoolState, empty_class, pool_by, class_at, with_class, after_pop, class_after_pop, class_with_mark, is_marked, is_member}
use Rattle.scudo_primary.specs.Inner.{block_table, list_at, class_in, state_of, capacities_in, pool_in, follow, free_in, stack_from, marks_in, slot_of, place_of, no_entry, entry_at, IsLinked, IsTable, IsPool, Became}
use Rattle.scudo_primary.specs.Blocks.{IsClass}
use Rattle.common.specs.declared.limits.TheConstants.{MAX_PAGES}
use Rattle.scudo_primary.specs.declared.lists.BlockEntry.{BlockEntry}
use Rattle.scudo_primary.specs.declared.lists.ClassList.{ClassList}
use Rattle.scudo_primary.specs.declared.pool.Primary.TheInside.{Inside}
use Rattle.scudo_primary.proofs.ListLemmas.{member-fact}
use Rattle.scudo_primary.proofs.BlockLemmas.{block-IsCell}
use Rattle.scudo_primary.proofs.TableLemmas.{mark-block, slot-in, place-in}
use Rattle.scudo_primary.proofs.LinkLemmas.{used_entry, marked}

abbrev pub pool_of : ℕ → List ℕ → ByClass ClassState → PoolState
pool_of left cs m = record { left = left; capacities = cs; classes = m }

-- two pools whose classes agree
pub pool_by-agree : (m n : ℕ) (cs : List ℕ) (f g : ℕ → ClassState) → m ≡ n → ((c : ℕ) → IsClass c → f c ≡ g c) → pool_by m cs f ≡ pool_by n cs g
pool_by-agree m n cs f g e h = ap (λ t. pool_of t cs (by_class f)) e ∙ ap (pool_of n cs) (by_class-same f g h)

-- ---- a pool's value

pub class_at-state : (left : ℕ) (cs : List ℕ) (es : List BlockEntry) (ns : List ℕ) (ks : List ClassList) (c : ℕ) → IsClass c → class_at (state_of left cs (block_table es ns ks)) c ≡ class_in es ns c (list_at ks c)
class_at-state left cs es ns ks c h = value_of-by_class (λ d. class_in es ns d (list_at ks d)) empty_class c h

pub class_at-value : (f : Inside) (v : PoolState) (c : ℕ) → pool_in f ≡ v → IsClass c → class_at v c ≡ class_in f.entries.items f.numbers.items c (list_at f.lists c)
class_at-value f v c e h = ap (λ p. class_at p c) (sym e) ∙ class_at-state (f.limit - f.used) (capacities_in f) f.entries.items f.numbers.items f.lists c h

pub became-state : (left : ℕ) (cs : List ℕ) (es es' : List BlockEntry) (ns : List ℕ) (ks ks' : List ClassList) (c : ℕ) (k : ClassState) → IsClass c → Became (block_table es ns ks) (block_table es' ns ks') c k
    → state_of left cs (block_table es' ns ks') ≡ with_class (state_of left cs (block_table es ns ks)) c k
became-state left cs es es' ns ks ks' c k h b =
    ap (pool_of left cs)
    (by_class-with_value (λ d. class_in es ns d (list_at ks d)) (λ d. class_in es' ns d (list_at ks' d)) c k h b.class b.others)

abbrev pub inside_with : Inside → List BlockEntry → List ClassList → Inside
inside_with f es ks = record { entries = with_items f.entries es; numbers = f.numbers; lists = ks; used = f.used; limit = f.limit }

-- what a change of one class makes of the pool
pub record PoolDone (f : Inside) (v : PoolState) (ns : List ℕ) (es' : List BlockEntry) (ks' : List ClassList) (c : ℕ) (F : ClassState → ClassState) : Type 0 where
  pub invariant : IsPool (inside_with f es' ks')
  pub view : pool_in (inside_with f es' ks') ≡ with_class v c (F (class_at v c))
  pub now : class_at (pool_in (inside_with f es' ks')) c ≡ class_in es' ns c (list_at ks' c)
  pub pages : (list_at ks' c).pages ≡ (list_at f.lists c).pages

pub pool-done : (f : Inside) (v : PoolState) (es : List BlockEntry) (ns : List ℕ) (es' : List BlockEntry) (ks' : List ClassList) (c : ℕ) (F : ClassState → ClassState) → pool_in f ≡ v → IsPool f → IsClass c
    → es ≡ f.entries.items → length es ≡ vec_len f.entries → ns ≡ f.numbers.items → Became (block_table es ns f.lists) (block_table es' ns ks') c (F (class_in es ns c (list_at f.lists c))) → PoolDone f v ns es' ks' c F
pool-done f v es ns es' ks' c F e h hc ee le en b =
    let xs = f.entries.items in
    let ys = f.numbers.items in
    let old : Became (block_table xs ys f.lists) (block_table es' ys ks') c (F (class_in xs ys c (list_at f.lists c))) =
    subst (λ t. Became (block_table xs t f.lists) (block_table es' t ks') c (F (class_in xs t c (list_at f.lists c)))) en
    (subst (λ t. Became (block_table t ns f.lists) (block_table es' ns ks') c (F (class_in t ns c (list_at f.lists c)))) ee b) in
    let items : (with_items f.entries es').items ≡ es' = with_items_is f.entries es' (b.len ∙ le) in
    let few = h.few in
    record {
      invariant = record {
        table = subst (λ t. IsTable (block_table t ys ks')) (sym items) old.table;
        counted = λ d i hd l. h.counted d i hd (subst (λ t. i < t) (old.pages d hd) l);
        few = λ d hd. subst (λ t. t ≤ f.used) (sym (old.pages d hd)) (h.few d hd);
        below = h.below;
        most = h.most;
        room = h.room;
        slots = h.slots;
      };
      view = ap (λ t. state_of (f.limit - f.used) (capacities_in f) (block_table t ys ks')) items
          ∙ became-state (f.limit - f.used) (capacities_in f) xs es' ys f.lists ks' c _ hc old
          ∙ ap (λ t. with_class t c (F (class_in xs ys c (list_at f.lists c)))) e
          ∙ ap (λ t. with_class v c (F t)) (sym (class_at-value f v c e hc));
      now = class_at-state (f.limit - f.used) (capacities_in f) (with_items f.entries es').items ys ks' c hc ∙ ap (λ t. class_in t ys c (list_at ks' c)) items ∙ ap (λ t. class_in es' t c (list_at ks' c)) (sym en);
      pages = old.pages c hc;
    }

-- a class put in as it stands
pub with_class-kept : (f : Inside) (v : PoolState) (c : ℕ) → pool_in f ≡ v → IsClass c → v ≡ with_class v c (class_at v c)
with_class-kept f v c e h =
    let own : ℕ → ClassState = λ d. class_in f.entries.items f.numbers.items d (list_at f.lists d) in
    sym e ∙ ap (pool_of (f.limit - f.used) (capacities_in f)) (by_class-with_value own own c (own c) h refl (λ d hd n. refl)) ∙ ap (λ t. with_class t c (own c)) e ∙ ap (with_class v c) (sym (class_at-value f v c e h))

pub empty-stack : (f : Inside) (v : PoolState) (c : ℕ) → pool_in f ≡ v → IsClass c → (list_at f.lists c).count ≡ 0 → (class_at v c).stack ≡ []
unfolding stack_from follow
empty-stack f v c e h z =
    ap (λ (t : ClassState). t.stack) (class_at-value f v c e h) ∙ ap (λ n. stack_from f.entries.items f.numbers.items c n (list_at f.lists c).head) z

pub after-pop-empty : (f : Inside) (v : PoolState) (c : ℕ) → pool_in f ≡ v → IsClass c → (list_at f.lists c).count ≡ 0 → v ≡ after_pop v c
after-pop-empty f v c e h z = with_class-kept f v c e h ∙ ap (λ t. with_class v c (class_after_pop c (class_at v c) t)) (sym (empty-stack f v c e h z))

cleared : (marks : List Bool) (n : ℕ) → get_or (set marks n false) n false ≡ false
cleared [] n = refl
cleared (m ∷ ms) zero = refl
cleared (m ∷ ms) (suc n) = cleared ms n

pop-cleared : (c : ℕ) (k : ClassState) (stack : List ℕ) (b : ℕ) → slice_get stack 0 ≡ Some b → get_or (class_after_pop c k stack).marks (number_of c b) false ≡ false
pop-cleared c k [] b e = cc
pop-cleared c k (x ∷ xs) b e =
    let same : x ≡ b = cc in
    ap (λ t. get_or (set k.marks (number_of c t) false) (number_of c b) false) same ∙ cleared k.marks (number_of c b)

-- a block that was popped is marked used
pub after-pop-used : (v v' : PoolState) (c b : ℕ) → v' ≡ with_class v c (class_after_pop c (class_at v c) (class_at v c).stack) → slice_get (class_at v c).stack 0 ≡ Some b → is_marked v' c b ≡ false
after-pop-used v v' c b e top =
    ap (λ (k : ClassState). get_or k.marks (number_of c b) false) (ap (λ p. class_at p c) e ∙ value_of-with_value v.classes empty_class c (class_after_pop c (class_at v c) (class_at v c).stack))
    ∙ pop-cleared c (class_at v c) (class_at v c).stack b top

-- the table of an open pool, as slices
pub table-same : (f : Inside) (es : List BlockEntry) (ns : List ℕ) → IsPool f → es ≡ f.entries.items → ns ≡ f.numbers.items → IsTable (block_table es ns f.lists)
table-same f es ns h ee en = subst (λ t. IsTable (block_table es t f.lists)) (sym en) (subst (λ t. IsTable (block_table t f.numbers.items f.lists)) (sym ee) h.table)

pub class_at-slices : (f : Inside) (v : PoolState) (es : List BlockEntry) (ns : List ℕ) (c : ℕ) → pool_in f ≡ v → IsClass c → es ≡ f.entries.items → ns ≡ f.numbers.items → class_at v c ≡ class_in es ns c (list_at f.lists c)
class_at-slices f v es ns c e h ee en =
    class_at-value f v c e h ∙ ap (λ t. class_in t f.numbers.items c (list_at f.lists c)) (sym ee) ∙ ap (λ t. class_in es t c (list_at f.lists c)) (sym en)

-- a block that is marked used is in no list
pub used-unlisted : (es : List BlockEntry) (ns : List ℕ) (c : ℕ) (k : ClassList) (b : ℕ) → IsLinked es ns c k → IsBlock c k.pages b → get_or (marks_in es ns c k.pages) (number_of c b) false ≡ false
    → is_member (stack_from es ns c k.count k.head) b ≡ false
used-unlisted es ns c k b h block u =
    let out : free_in es ns c b ≡ false = sym (mark-block es ns c k.pages b false block) ∙ u in
    elim (is_member (stack_from es ns c k.count k.head) b) as (λ t. is_member (stack_from es ns c k.count k.head) b ≡ t → t ≡ false) [
      | true ↦ λ m. let free = member-fact (stack_from es ns c k.count k.head) (λ x. free_in es ns c x ≡ true) b h.marked m in sym free ∙ out
      | false ↦ λ m. refl
    ] refl

pub pages-few : (f : Inside) (c : ℕ) → IsPool f → IsClass c → (list_at f.lists c).pages ≤ MAX_PAGES
pages-few f c h hc = let a = h.few c hc in let b = h.below in let m = h.most in omega arith

pub pages-value : (f : Inside) (v : PoolState) (c : ℕ) → pool_in f ≡ v → IsClass c → (class_at v c).pages ≡ (list_at f.lists c).pages
pages-value f v c e h = ap (λ (k : ClassState). k.pages) (class_at-value f v c e h)

-- where a carved block's entry stands
pub record IsPlaced (es : List BlockEntry) (ns : List ℕ) (c b : ℕ) : Type 0 where
  pub inside : region_of c ≤ b
  pub slot : slot_of c ((b - region_of c) / PAGE_SIZE) < length ns
  pub place : place_of ns c b < length es

pub placed : (f : Inside) (v : PoolState) (es : List BlockEntry) (ns : List ℕ) (c b : ℕ) → pool_in f ≡ v → IsPool f → IsClass c → es ≡ f.entries.items → ns ≡ f.numbers.items → IsBlock c (class_at v c).pages b
    → IsPlaced es ns c b
placed f v es ns c b e h hc ee en block =
    let k = subst (λ n. IsBlock c n b) (pages-value f v c e hc) block in
    let cell = block-IsCell c (list_at f.lists c).pages b hc k in
    let t = table-same f es ns h ee en in
    record { inside = cell.inside; slot = slot-in ns f.lists (length es) c b t.numbered hc cell; place = place-in ns f.lists (length es) c b t.numbered hc cell }

pub mark-done : (f : Inside) (v : PoolState) (es es' : List BlockEntry) (ns : List ℕ) (c b : ℕ) (free : Bool) → pool_in f ≡ v → IsPool f → IsClass c → es ≡ f.entries.items → length es ≡ vec_len f.entries → ns ≡ f.numbers.items
    → IsBlock c (class_at v c).pages b → (free ≡ false → is_member (class_at v c).stack b ≡ false) → es' ≡ set es (place_of ns c b) (used_entry es ns c b free)
    → PoolDone f v ns es' f.lists c (λ k. class_with_mark c k b free)
mark-done f v es es' ns c b free e h hc ee le en block out new =
    let at = class_at-slices f v es ns c e hc ee en in
    let done = marked es ns f.lists c b free (table-same f es ns h ee en) hc (subst (λ (k : ClassState). IsBlock c k.pages b) at block)
    (λ i. subst (λ (k : ClassState). is_member k.stack b ≡ false) at (out i)) in
    pool-done f v es ns es' f.lists c (λ k. class_with_mark c k b free) e h hc ee le en
    (subst (λ t. Became (block_table es ns f.lists) (block_table t ns f.lists) c (class_with_mark c (class_in es ns c (list_at f.lists c)) b free)) (sym new) done)

-- the mark of a carved block is its entry's
pub mark-entry : (f : Inside) (v : PoolState) (c b at : ℕ) (e : BlockEntry) → pool_in f ≡ v → IsClass c → IsBlock c (class_at v c).pages b → at ≡ place_of f.numbers.items c b → get_or f.entries.items at no_entry ≡ e → is_marked v c b ≡ e.free
unfolding free_in entry_at
mark-entry f v c b at e is h block ea ee =
    let k = subst (λ n. IsBlock c n b) (pages-value f v c is h) block in
    ap (λ (t : ClassState). get_or t.marks (number_of c b) false) (class_at-value f v c is h)
    ∙ mark-block f.entries.items f.numbers.items c (list_at f.lists c).pages b false k
    ∙ ap (λ t. (get_or f.entries.items t no_entry).free) (sym ea) ∙ ap (λ (t : BlockEntry). t.free) ee
