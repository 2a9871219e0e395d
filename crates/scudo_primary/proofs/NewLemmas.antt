-- A pool without pages.
use Rattle.std.proofs.Common.{◌≡◌, ℕ, ◌-◌, ◌*◌, ◌≤◌, List, [], length, map, get_or, replicate, sym, ap, subst, ◌∙◌, arith}
use Rattle.std.proofs.lemmas.List.{get_or-replicate, length-replicate}
use Rattle.std.proofs.Math.Nat.{zero-div}
use Rattle.std.specs.Prelude.{vec_capacity}
use Rattle.std.specs.List.{range_with_len, IsDistinct}
use Rattle.scudo_header.specs.Classes.{size_of}
use Rattle.scudo_header.specs.declared.config.TheConstants.{CLASSES}
use Rattle.scudo_primary.specs.Blocks.{carved_count, block_at}
use Rattle.scudo_primary.specs.Pools.{empty_class, empty_pool}
use Rattle.scudo_primary.specs.Inner.{capacities_in, follow, sizes_of_marks, no_list, list_at, free_in, stack_from, sizes_from, marks_in, class_in, pool_in, IsLinked, IsPool}
use Rattle.scudo_primary.specs.Blocks.{IsClass}
use Rattle.common.specs.declared.limits.TheConstants.{MAX_PAGES}
use Rattle.scudo_primary.specs.declared.lists.BlockEntry.{BlockEntry}
use Rattle.scudo_primary.specs.declared.lists.ClassList.{ClassList}
use Rattle.scudo_primary.specs.declared.pool.Primary.TheInside.{Inside}
use Rattle.scudo_primary.proofs.BlockLists.{no-blocks}
use Rattle.scudo_primary.proofs.ModelLemmas.{pool_by-agree}

none-carved : (c : ℕ) → carved_count c 0 ≡ 0
none-carved c = zero-div (size_of c)

class-empty : (es : List BlockEntry) (ns : List ℕ) (c : ℕ) → class_in es ns c no_list ≡ empty_class
unfolding stack_from sizes_from marks_in follow sizes_of_marks
class-empty es ns c = ap (λ n. record { pages = 0; stack = []; sizes = []; marks = map (λ m. free_in es ns c (block_at c m)) (range_with_len 0 n) }) (none-carved c)

linked-empty : (es : List BlockEntry) (ns : List ℕ) (c : ℕ) → IsLinked es ns c no_list
unfolding stack_from sizes_from follow sizes_of_marks IsDistinct
linked-empty es ns c = record { blocks = no-blocks c 0; marked = tt; batches = tt }

list-empty : (ks : List ClassList) (c : ℕ) → ks ≡ replicate CLASSES no_list → IsClass c → list_at ks c ≡ no_list
unfolding list_at
list-empty ks c e h = let a = h.low in let b = h.high in ap (λ t. get_or t (c - 1) no_list) e ∙ get_or-replicate CLASSES (c - 1) no_list no_list (omega arith)

pub new-invariant : (f : Inside) (n : ℕ) → f.lists ≡ replicate CLASSES no_list → f.used ≡ 0 → f.limit ≡ n → n ≤ MAX_PAGES → 128 * n ≤ vec_capacity f.entries → CLASSES * n ≤ vec_capacity f.numbers → IsPool f
new-invariant f n e u l m le ln =
    let none : (c : ℕ) → IsClass c → (list_at f.lists c).pages ≡ 0 = λ c h. ap (λ (k : ClassList). k.pages) (list-empty f.lists c e h) in
    record {
      table = record {
        numbered = record {
          slot = λ c i h q. let z = none c h in absurd (omega arith);
          room = λ c i h q. let z = none c h in absurd (omega arith);
          apart = λ c d i j hc hd q r s. let z = none c hc in absurd (omega arith);
          few = λ c h. let z = none c h in omega arith;
        };
        all = ap length e ∙ length-replicate CLASSES no_list;
        linked = λ c h. subst (IsLinked f.entries.items f.numbers.items c) (sym (list-empty f.lists c e h)) (linked-empty f.entries.items f.numbers.items c);
      };
      counted = λ c i h q. let z = none c h in absurd (omega arith);
      few = λ c h. let z = none c h in omega arith;
      below = omega arith;
      most = omega arith;
      room = subst (λ t. 128 * t ≤ vec_capacity f.entries) (sym l) le;
      slots = subst (λ t. CLASSES * t ≤ vec_capacity f.numbers) (sym l) ln;
    }

pub new-view : (f : Inside) (n : ℕ) → f.lists ≡ replicate CLASSES no_list → f.used ≡ 0 → f.limit ≡ n → pool_in f ≡ empty_pool n (capacities_in f)
new-view f n e u l =
    let left : f.limit - f.used ≡ n = omega arith in
    pool_by-agree (f.limit - f.used) n (capacities_in f) _ _ left (λ c h. ap (class_in f.entries.items f.numbers.items c) (list-empty f.lists c e h) ∙ class-empty f.entries.items f.numbers.items c)
