-- A pool whose lists got values at their ends: what an absent element is read as is what they got.
use Rattle.std.proofs.Common.{◌≡◌, ℕ, zero, suc, ◌+◌, ◌-◌, ◌*◌, ◌/◌, ◌%◌, ◌≤◌, List, [], ◌∷◌, ◌++◌, length, get_or, refl, sym, ap, ◌∙◌, arith}
use Rattle.std.specs.Prelude.{vec_capacity}
use Rattle.std.specs.declared.vec.Vec.{Vec}
use Rattle.std.specs.declared.alloc.Global.{Global}
use Rattle.scudo_header.specs.Regions.{region_of}
use Rattle.common.specs.declared.limits.TheConstants.{PAGE_SIZE}
use Rattle.scudo_primary.specs.Pools.{PoolState}
use Rattle.scudo_primary.specs.Inner.{block_table, page_number, slot_of, place_of, no_entry, entry_at, list_at, class_in, capacities_in, pool_in, IsFilledUp, IsTable, IsPool}
use Rattle.scudo_primary.specs.Blocks.{IsClass}
use Rattle.scudo_primary.specs.declared.lists.BlockEntry.{BlockEntry}
use Rattle.scudo_primary.specs.declared.lists.ClassList.{ClassList}
use Rattle.scudo_primary.specs.declared.pool.Primary.TheInside.{Inside}
use Rattle.scudo_primary.proofs.TableLemmas.{class-kept}
use Rattle.scudo_primary.proofs.ModelLemmas.{pool_by-agree}

pub one-more : {X : Type 0} (xs : List X) (d : X) (i : ℕ) → get_or (xs ++ d ∷ []) i d ≡ get_or xs i d
one-more [] d zero = refl
one-more [] d (suc i) = refl
one-more (x ∷ xs) d zero = refl
one-more (x ∷ xs) d (suc i) = one-more xs d i

abbrev IsReadAs : {X : Type 0} → List X → List X → X → Type 0
IsReadAs xs ys d = (i : ℕ) → get_or ys i d ≡ get_or xs i d

entry-filled : (es es' : List BlockEntry) (ns ns' : List ℕ) (c x : ℕ) → IsReadAs es es' no_entry → IsReadAs ns ns' 0 → entry_at es' ns' c x ≡ entry_at es ns c x
unfolding entry_at
entry-filled es es' ns ns' c x fe fn = fe (place_of ns' c x) ∙ ap (λ t. get_or es (t * 128 + (x - region_of c) % PAGE_SIZE / 32) no_entry) (fn _)

table-filled : (es es' : List BlockEntry) (ns ns' : List ℕ) (ks : List ClassList) → length es ≤ length es' → length ns ≤ length ns' → IsReadAs es es' no_entry → IsReadAs ns ns' 0 → IsTable (block_table es ns ks) → IsTable (block_table es' ns' ks)
table-filled es es' ns ns' ks le ln fe fn h =
    let same : (c i : ℕ) → page_number ns' c i ≡ page_number ns c i = λ c i. fn _ in
    record {
      numbered = record {
        slot = λ c i hc l. let s = h.numbered.slot c i hc l in omega arith;
        room = λ c i hc l. let s = h.numbered.room c i hc l in let e = same c i in omega arith;
        apart = λ c d i j hc hd li lj e. h.numbered.apart c d i j hc hd li lj (sym (same c i) ∙ e ∙ same d j);
        few = h.numbered.few;
      };
      all = h.all;
      linked = λ c hc. (class-kept es es' ns ns' c (list_at ks c) hc (h.linked c hc) (λ x b. entry-filled es es' ns ns' c x fe fn)).1;
    }

-- the pool with such lists instead of its own
abbrev pub filled : Inside → Vec BlockEntry Global → Vec ℕ Global → Inside
filled f entries numbers = record { entries = entries; numbers = numbers; lists = f.lists; used = f.used; limit = f.limit }

module _ (f : Inside) (entries : Vec BlockEntry Global) (numbers : Vec ℕ Global) (m n : ℕ) (fe : IsFilledUp f.entries entries m no_entry) (fn : IsFilledUp f.numbers numbers n 0) (h : IsPool f) where
  pub filled-pool : IsPool (filled f entries numbers)
  filled-pool =
      let er = fe.capacity in
      let nr = fn.capacity in
      let room = h.room in
      let slots = h.slots in
      record {
        table = table-filled f.entries.items entries.items f.numbers.items numbers.items f.lists (let a = f.entries.ok.0 in let b = entries.ok.0 in let l = fe.longer in omega arith) (let a = f.numbers.ok.0 in let b = numbers.ok.0 in let l = fn.longer in omega arith) fe.same fn.same h.table;
        counted = λ c i hc l. let e = fn.same (slot_of c i) in let s = h.counted c i hc l in omega arith;
        few = h.few;
        below = h.below;
        most = h.most;
        room = omega arith;
        slots = omega arith;
      }

  -- it is the same pool
  pub filled-view : (v : PoolState) → pool_in f ≡ v → pool_in (filled f entries numbers) ≡ v
  filled-view v e =
      let caps : capacities_in (filled f entries numbers) ≡ capacities_in f = ap (λ t. t ∷ vec_capacity numbers ∷ []) fe.capacity ∙ ap (λ t. vec_capacity f.entries ∷ t ∷ []) fn.capacity in
      let own : (c : ℕ) → IsClass c → class_in entries.items numbers.items c (list_at f.lists c) ≡ class_in f.entries.items f.numbers.items c (list_at f.lists c) =
      λ c hc. (class-kept f.entries.items entries.items f.numbers.items numbers.items c (list_at f.lists c) hc (h.table.linked c hc)
      (λ x b. entry-filled f.entries.items entries.items f.numbers.items numbers.items c x fe.same fn.same)).0 in
      pool_by-agree (f.limit - f.used) (f.limit - f.used) (capacities_in (filled f entries numbers)) _ _ refl own
      ∙ ap (λ t. record (pool_in f) { capacities = t }) caps ∙ e
