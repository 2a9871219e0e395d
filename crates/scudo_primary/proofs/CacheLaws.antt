-- What a caller needs beside the contracts: where a cache stands above a pool, at the start and after the pool's own calls, and which pages a pool has left.
use Rattle.std.proofs.Common.{◌≡◌, ℕ, ◌+◌, ◌<◌, ◌≤◌, true, false, [], ◌∷◌, length, drop, replicate, slice_get, Some, refl, sym, ap, subst, ◌∙◌, inl, inr, arith}
use Rattle.std.proofs.lemmas.Bool.{cases_eq, cases_lt}
use Rattle.std.proofs.lemmas.List.{get_or_append_left, get_or_past}
use Rattle.std.proofs.lemmas.List.Elements.{All-weaker, All-nil}
use Rattle.std.specs.List.{All}
use Rattle.scudo_header.specs.declared.config.TheConstants.{CLASSES}
use Rattle.scudo_header.specs.Classes.{IsClass}
use Rattle.scudo_header.specs.ByClass.{by_class, value_of}
use Rattle.scudo_header.proofs.ByClassLaws.{value_of-by_class, value_of-with_value, value_of-with_value_other}
use Rattle.scudo_primary.specs.Blocks.{carved_count, number_of, IsBlock, blocks_from}
use Rattle.scudo_primary.specs.Pools.{ClassState, PoolState, IsLoose, is_marked, empty_class, class_at, class_after_carve, with_mark, with_pages, new_count}
use Rattle.scudo_primary.proofs.BlockLists.{not-new}
use Rattle.scudo_primary.proofs.BlockLemmas.{IsBlock-more}
use Rattle.scudo_primary.specs.Caches.{CacheState, Class, entries_of, with_entries, stack_over, one_stack, IsAbove, newest, handed_out, after_take, block_taken, class_after_take, class_after_put}
use Rattle.scudo_primary.proofs.EntryLemmas.{member-both}
use Rattle.scudo_primary.proofs.ClassLemmas.{rest-taken, stack-put, taken-used}

pub above-new : (v : CacheState) (p : PoolState) → v.classes ≡ by_class (λ _. []) → IsAbove v p
above-new v p e = record {
  cached = λ d a b. subst (All (IsLoose (class_at p d) d)) (sym (ap (λ t. value_of t [] d) e ∙ value_of-by_class (λ _. []) [] d (record { low = a; high = b }))) (All-nil (IsLoose (class_at p d) d));
}

loose-carve : (k : ClassState) (c pages n b : ℕ) → IsClass c → IsLoose k c b → IsLoose (class_after_carve c k pages n) c b
loose-carve k c pages n b h l =
    let i = number_of c b in
    let within : i < length k.marks = elim (cases_lt i (length k.marks)) [
      | inl p ↦ p
      | inr q ↦ (let t = sym (get_or_past k.marks i false (omega arith)) ∙ l.marked in cc)
    ] in
    record {
      carved = IsBlock-more c k.pages (k.pages + pages) b h (omega arith) l.carved;
      marked = get_or_append_left k.marks (replicate n true) false i within ∙ l.marked;
      unlisted = member-both (blocks_from c (carved_count c k.pages) n) k.stack b (not-new c (carved_count c k.pages) n b h (let t : IsBlock c k.pages b = l.carved in t.carved)) l.unlisted;
    }

pub above-with_pages : (v : CacheState) (p : PoolState) (c pages : ℕ) → 0 < c → c ≤ CLASSES → IsAbove v p → IsAbove v (with_pages p c pages)
above-with_pages v p c pages low high h =
    let hc : IsClass c = record { low = low; high = high } in
    let k = class_at p c in
    let n = new_count c k.pages pages in
    let carved = class_after_carve c k pages n in
    record {
      cached = λ d a b. elim (cases_eq d c) [
        | inl s ↦ subst (λ t. All (IsLoose (class_at (with_pages p c pages) t) t) (entries_of v t)) (sym s)
            (subst (λ (t : ClassState). All (IsLoose t c) (entries_of v c)) (sym (value_of-with_value p.classes empty_class c carved))
            (All-weaker (IsLoose k c) (IsLoose carved c) (λ x l. loose-carve k c pages n x hc l) (entries_of v c) (h.cached c low high)))
        | inr o ↦ subst (λ (t : ClassState). All (IsLoose t d) (entries_of v d)) (sym (value_of-with_value_other p.classes empty_class c carved d o)) (h.cached d a b)
      ];
    }

pub ruleset above_laws = (above-new, above-with_pages)

-- ---- the one stack after the calls

pub one-stack-taken : (v : CacheState) (p : PoolState) (c : ℕ) → block_taken v p c ≡ slice_get (one_stack v p c) 0
    → one_stack (with_entries v c (class_after_take v p c).entries) (class_after_take v p c).pool c ≡ drop 1 (one_stack v p c)
one-stack-taken v p c e =
    let k = class_after_take v p c in
    ap (λ xs. stack_over xs k.pool c) (value_of-with_value v.classes [] c k.entries) ∙ rest-taken c (entries_of v c) p e

pub one-stack-put : (v : CacheState) (p : PoolState) (c b : ℕ) → one_stack (with_entries v c (class_after_put v p c b).entries) (class_after_put v p c b).pool c ≡ b ∷ one_stack v p c
one-stack-put v p c b =
    let k = class_after_put v p c b in
    ap (λ xs. stack_over xs k.pool c) (value_of-with_value v.classes [] c k.entries) ∙ stack-put c b (entries_of v c) p

pub used-taken : (c : ℕ) (k : Class) (b : ℕ) → newest k.entries ≡ Some b → is_marked (after_take c k).pool c b ≡ false
unfolding after_take
used-taken c k b e = ap (λ o. is_marked (handed_out c k.pool o) c b) e ∙ taken-used k.pool (with_mark k.pool c b false) c b refl
