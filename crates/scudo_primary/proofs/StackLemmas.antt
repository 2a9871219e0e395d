-- What keeps a class's stack: its blocks carved, none twice, and just those that are marked free.
use Rattle.std.proofs.Common.{◌≡◌, ◌≢◌, ℕ, zero, suc, ◌+◌, ◌-◌, ◌<◌, ◌≤◌, ◌||◌, Bool, true, false, List, [], ◌∷◌, ◌++◌, length, drop, reverse, get_or, set, replicate, slice_get, Option, Some, None, refl, sym, ap, subst, ◌∙◌, inl, inr, arith}
use Rattle.std.proofs.lemmas.Bool.{cases_eq, cases_lt}
use Rattle.std.proofs.lemmas.List.{get_or-set_other, get_or_append_left, get_or-replicate, length-set, length-append, length-replicate}
use Rattle.std.proofs.Math.Seq.{get_or-append_right}
use Rattle.std.specs.List.{All}
use Rattle.scudo_primary.specs.Blocks.{carved_count, number_of, IsBlock, blocks_from}
use Rattle.scudo_primary.specs.Pools.{ClassState, PoolState, IsLoose, is_member, empty_class, class_at, pages_of, new_count, class_with_mark, class_after_pop_batch, class_after_carve, with_mark, with_pages, empty_pool}
use Rattle.scudo_primary.specs.Blocks.{IsClass}
use Rattle.scudo_primary.proofs.BlockLists.{no-blocks, blocks-rest, blocks-more, blocks-carved, new-member, not-new, member-append}
use Rattle.scudo_primary.proofs.BlockLemmas.{size-pos, number-apart, block_at-number, carved_count-≤}
use Rattle.scudo_primary.proofs.ListLemmas.{member-other, member-first, distinct-head}
use Rattle.scudo_header.specs.ByClass.{by_class, value_of}
use Rattle.scudo_header.proofs.ByClassLaws.{value_of-by_class, value_of-with_value, value_of-with_value_other}
use Rattle.scudo_header.specs.declared.config.TheConstants.{CLASSES}
use Rattle.scudo_primary.specs.Caches.{CacheState, entries_of, with_entries, stack_over, one_stack, IsStack, IsAbove, AreStacks, KeepsRest, after_refill, newest, handed_out, after_take, with_room, after_put}
use Rattle.scudo_primary.proofs.ClassLemmas.{KeepsOthers, marks-room}

-- ---- the marks and pages of the class that a call is about

abbrev pub marks_after : ℕ → Option ℕ → List Bool → List Bool
marks_after c None ms = ms
marks_after c (Some b) ms = set ms (number_of c b) false

marks-refill : (c : ℕ) (xs : List ℕ) (p : PoolState) → (class_at (after_refill c xs p).pool c).marks ≡ (class_at p c).marks
unfolding after_refill
marks-refill c [] p = ap (λ (k : ClassState). k.marks) (value_of-with_value p.classes empty_class c (class_after_pop_batch (class_at p c)))
marks-refill c (x ∷ xs) p = refl

marks-mark : (c b : ℕ) (mark : Bool) (p : PoolState) → (class_at (with_mark p c b mark) c).marks ≡ set (class_at p c).marks (number_of c b) mark
marks-mark c b mark p = ap (λ (k : ClassState). k.marks) (value_of-with_value p.classes empty_class c (class_with_mark c (class_at p c) b mark))

marks-handed : (c : ℕ) (p : PoolState) (o : Option ℕ) → (class_at (handed_out c p o) c).marks ≡ marks_after c o (class_at p c).marks
marks-handed c p None = refl
marks-handed c p (Some b) = marks-mark c b false p

pub marks-taken : (c : ℕ) (xs : List ℕ) (p : PoolState) → (class_at (after_take c (after_refill c xs p)).pool c).marks ≡ marks_after c (newest (after_refill c xs p).entries) (class_at p c).marks
unfolding after_take
marks-taken c xs p = let o = newest (after_refill c xs p).entries in marks-handed c (after_refill c xs p).pool o ∙ ap (marks_after c o) (marks-refill c xs p)

pub marks-put : (c b : ℕ) (xs : List ℕ) (p : PoolState) → (class_at (after_put c b (with_room c xs p)).pool c).marks ≡ set (class_at p c).marks (number_of c b) true
unfolding after_put
marks-put c b xs p = marks-mark c b true (with_room c xs p).pool ∙ ap (λ ms. set ms (number_of c b) true) (marks-room c xs p)

-- ---- a stack without its top

cleared : (marks : List Bool) (n : ℕ) → get_or (set marks n false) n false ≡ false
cleared [] n = refl
cleared (m ∷ ms) zero = refl
cleared (m ∷ ms) (suc n) = cleared ms n

popped : (c pages : ℕ) (ms : List Bool) (x : ℕ) (s : List ℕ) → IsStack c pages ms (x ∷ s) → IsStack c pages (set ms (number_of c x) false) s
popped c pages ms x s h =
    let gone = distinct-head x s h.blocks.distinct in
    record {
      blocks = blocks-rest c pages x s h.blocks;
      marked = λ b k. elim (cases_eq (number_of c b) (number_of c x)) [
        | inl e ↦ (let own = number-apart c pages b x k (h.blocks.carved x (member-first x s)) e in
            ap (λ n. get_or (set ms (number_of c x) false) n false) e ∙ cleared ms (number_of c x) ∙ sym gone ∙ ap (is_member s) (sym own))
        | inr n ↦ get_or-set_other ms (number_of c x) (number_of c b) false false n ∙ h.marked b k ∙ member-other x s b (λ e. n (ap (number_of c) e))
      ];
      counted = length-set ms (number_of c x) false ∙ h.counted;
    }

pub stack-taken : (c pages : ℕ) (ms : List Bool) (o : Option ℕ) (s : List ℕ) → o ≡ slice_get s 0 → IsStack c pages ms s → IsStack c pages (marks_after c o ms) (drop 1 s)
stack-taken c pages ms None [] e h = h
stack-taken c pages ms None (x ∷ s) e h = cc
stack-taken c pages ms (Some b) [] e h = cc
stack-taken c pages ms (Some b) (x ∷ s) e h =
    let same : b ≡ x = cc in
    subst (λ t. IsStack c pages (set ms (number_of c t) false) s) (sym same) (popped c pages ms x s h)

-- ---- a stack with one block more

marked-there : (marks : List Bool) (n : ℕ) → n < length marks → get_or (set marks n true) n false ≡ true
marked-there [] n h = absurd (omega arith)
marked-there (m ∷ ms) zero h = refl
marked-there (m ∷ ms) (suc n) h = marked-there ms n (omega arith)

pub stack-pushed : (c pages : ℕ) (ms : List Bool) (b : ℕ) (s : List ℕ) → IsBlock c pages b → get_or ms (number_of c b) false ≡ false → IsStack c pages ms s → IsStack c pages (set ms (number_of c b) true) (b ∷ s)
stack-pushed c pages ms b s block used h =
    let out : is_member s b ≡ false = sym (h.marked b block) ∙ used in
    let len = h.counted in
    let there = block.carved in
    record {
      blocks = blocks-more c pages b s block out h.blocks;
      marked = λ d k. elim (cases_eq d b) [
        | inl e ↦ ap (λ t. get_or (set ms (number_of c b) true) (number_of c t) false) e ∙ marked-there ms (number_of c b) (omega arith) ∙ sym (ap (is_member (b ∷ s)) e ∙ member-first b s)
        | inr n ↦ get_or-set_other ms (number_of c b) (number_of c d) true false (λ e. n (number-apart c pages d b k block e)) ∙ h.marked d k ∙ sym (member-other b s d n)
      ];
      counted = length-set ms (number_of c b) true ∙ len;
    }

-- ---- a stack with the blocks of new pages

pub stack-carved : (c pages more : ℕ) (ms : List Bool) (s : List ℕ) → IsClass c → IsStack c pages ms s
    → IsStack c (pages + more) (ms ++ replicate (new_count c pages more) true) (blocks_from c (carved_count c pages) (new_count c pages more) ++ s)
stack-carved c pages more ms s hc h =
    let m = carved_count c pages in
    let n = new_count c pages more in
    let grows : m ≤ carved_count c (pages + more) = carved_count-≤ c pages (pages + more) hc (omega arith) in
    let len = h.counted in
    let all = length-replicate {A = Bool} n true in
    record {
      blocks = blocks-carved c pages more s hc h.blocks;
      marked = λ b k. let inside = k.carved in elim (cases_lt (number_of c b) m) [
        | inl l ↦ (get_or_append_left ms (replicate n true) false (number_of c b) (omega arith) ∙ h.marked b (record { inside = k.inside; start = k.start; carved = l })
            ∙ sym (member-append (blocks_from c m n) s b ∙ ap (λ t. t || is_member s b) (not-new c m n b hc l)))
        | inr l ↦ (get_or-append_right ms (replicate n true) (number_of c b) false (omega arith) ∙ get_or-replicate n (number_of c b - length ms) true false (omega arith)
            ∙ sym (member-append (blocks_from c m n) s b ∙ ap (λ t. t || is_member s b) (ap (is_member (blocks_from c m n)) (sym (block_at-number c (pages + more) b k)) ∙ new-member c m n (number_of c b) hc l (omega arith))))
      ];
      counted = length-append ms (replicate n true) ∙ (let e : length ms + length (replicate n true) ≡ carved_count c (pages + more) = omega arith in e);
    }

pub stack-none : (c : ℕ) → IsClass c → IsStack c 0 [] []
stack-none c hc =
    let pos = size-pos c hc in
    let none : carved_count c 0 ≡ 0 = omega arith in
    record {
      blocks = no-blocks c 0;
      marked = λ b k. let l = k.carved in absurd (omega arith);
      counted = sym none;
    }

-- ---- all classes

-- what a call leaves of all but the stack of its class, by what it leaves of that
pub keeps-rest : (v : CacheState) (p p' : PoolState) (c : ℕ) (ys : List ℕ) → IsAbove v p → KeepsOthers c p p' → All (IsLoose (class_at p' c) c) ys
    → (AreStacks v p → IsStack c (pages_of p' c) (class_at p' c).marks (stack_over ys p' c)) → KeepsRest c v p (with_entries v c ys) p'
keeps-rest v p p' c ys above kept loose own =
    let w = with_entries v c ys in
    let mine : entries_of w c ≡ ys = value_of-with_value v.classes [] c ys in
    let rest : (d : ℕ) → d ≢ c → entries_of w d ≡ entries_of v d = λ d n. value_of-with_value_other v.classes [] c ys d n in
    let others : (d : ℕ) → 0 < d → d ≢ c → one_stack w p' d ≡ one_stack v p d =
    λ d a n. ap (λ xs. stack_over xs p' d) (rest d n) ∙ ap (λ (k : ClassState). reverse (entries_of v d) ++ k.stack) (kept.others d n) in
    record {
      above = record {
        cached = λ d a b. elim (cases_eq d c) [
          | inl s ↦ subst (λ t. All (IsLoose (class_at p' t) t) (entries_of w t)) (sym s) (subst (All (IsLoose (class_at p' c) c)) (sym mine) loose)
          | inr n ↦ subst (All (IsLoose (class_at p' d) d)) (sym (rest d n)) (subst (λ (k : ClassState). All (IsLoose k d) (entries_of v d)) (sym (kept.others d n)) (above.cached d a b))
        ];
      };
      stacks = λ h. record {
        each = λ d a b. elim (cases_eq d c) [
          | inl s ↦ subst (λ t. IsStack t (pages_of p' t) (class_at p' t).marks (one_stack w p' t)) (sym s) (subst (λ xs. IsStack c (pages_of p' c) (class_at p' c).marks (stack_over xs p' c)) (sym mine) (own h))
          | inr n ↦ subst (λ (k : ClassState). IsStack d k.pages k.marks (one_stack w p' d)) (sym (kept.others d n)) (subst (IsStack d (pages_of p d) (class_at p d).marks) (sym (others d a n)) (h.each d a b))
        ];
      };
      others = others;
      pages = λ d. elim (cases_eq d c) [
        | inl s ↦ ap (pages_of p') s ∙ kept.pages ∙ ap (pages_of p) (sym s)
        | inr n ↦ ap (λ (k : ClassState). k.pages) (kept.others d n)
      ];
      left = kept.left;
      capacities = kept.capacities;
    }

-- a class's stack, by what it is
pub stack-is : (c : ℕ) (ms ms' : List Bool) (pages pages' : ℕ) (s s' : List ℕ) → ms' ≡ ms → pages' ≡ pages → s' ≡ s → IsStack c pages ms s → IsStack c pages' ms' s'
stack-is c ms ms' pages pages' s s' em ep es h =
    subst (IsStack c pages' ms') (sym es) (subst (λ t. IsStack c pages' t s) (sym em) (subst (λ n. IsStack c n ms s) (sym ep) h))

-- pages more for a class of which the cache holds no block
pub stacks-with_pages : (v : CacheState) (p : PoolState) (c more : ℕ) → 0 < c → c ≤ CLASSES → entries_of v c ≡ [] → AreStacks v p → AreStacks v (with_pages p c more)
stacks-with_pages v p c more low high none h =
    let hc : IsClass c = record { low = low; high = high } in
    let k = class_at p c in
    let n = new_count c k.pages more in
    let carved = class_after_carve c k more n in
    let old : IsStack c k.pages k.marks k.stack = subst (λ xs. IsStack c k.pages k.marks (reverse xs ++ k.stack)) none (h.each c low high) in
    let new : IsStack c carved.pages carved.marks carved.stack = stack-carved c k.pages more k.marks k.stack hc old in
    record {
      each = λ d a b. elim (cases_eq d c) [
        | inl s ↦ subst (λ t. IsStack t (class_at (with_pages p c more) t).pages (class_at (with_pages p c more) t).marks (one_stack v (with_pages p c more) t)) (sym s)
            (subst (λ (t : ClassState). IsStack c t.pages t.marks (reverse (entries_of v c) ++ t.stack)) (sym (value_of-with_value p.classes empty_class c carved))
            (subst (λ xs. IsStack c carved.pages carved.marks (reverse xs ++ carved.stack)) (sym none) new))
        | inr o ↦ subst (λ (t : ClassState). IsStack d t.pages t.marks (reverse (entries_of v d) ++ t.stack)) (sym (value_of-with_value_other p.classes empty_class c carved d o)) (h.each d a b)
      ];
    }

-- at the start
pub stacks-new : (v : CacheState) (p : PoolState) (pages : ℕ) (cs : List ℕ) → v.classes ≡ by_class (λ _. []) → p ≡ empty_pool pages cs → AreStacks v p
stacks-new v p pages cs ev ep = record {
  each = λ d a b.
      let hd : IsClass d = record { low = a; high = b } in
      let none : entries_of v d ≡ [] = ap (λ t. value_of t [] d) ev ∙ value_of-by_class (λ _. []) [] d hd in
      let at : class_at p d ≡ empty_class = ap (λ t. class_at t d) ep ∙ value_of-by_class (λ _. empty_class) empty_class d hd in
      subst (λ (t : ClassState). IsStack d t.pages t.marks (reverse (entries_of v d) ++ t.stack)) (sym at)
      (subst (λ xs. IsStack d 0 [] (reverse xs ++ [])) (sym none) (stack-none d hd));
}
