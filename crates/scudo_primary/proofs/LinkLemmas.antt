-- A block put on a list, the top of a list taken, a block marked.
use Rattle.std.proofs.Common.{◌≡◌, ◌≢◌, ℕ, suc, ◌+◌, ◌-◌, ◌<◌, ◌≤◌, ◌^◌, Bool, true, false, List, ◌∷◌, map, get_or, set, refl, sym, ap, subst, ◌∙◌, inl, inr, arith}
use Rattle.std.proofs.lemmas.Bool.{cases_eq}
use Rattle.std.proofs.lemmas.List.{length-set}
use Rattle.std.proofs.lemmas.Map.Steps.{length-le_from_distinct_below}
use Rattle.scudo_primary.specs.Blocks.{AreBlocks, number_of, IsBlock}
use Rattle.scudo_primary.specs.Batches.{max_count_of, one_less}
use Rattle.scudo_primary.specs.Pools.{ClassState, is_member, class_after_pop, class_with_mark}
use Rattle.scudo_primary.specs.Inner.{block_table, Each, sizes_after_push, sizes_of_marks, place_of, no_entry, entry_at, list_at, next_in, last_in, free_in, stack_from, sizes_from, marks_in, class_in, class_after_link, IsLinked, IsTable, Became}
use Rattle.scudo_primary.specs.Blocks.{IsClass}
use Rattle.common.specs.declared.limits.TheConstants.{MAX_PAGES}
use Rattle.scudo_primary.specs.declared.lists.BlockEntry.{BlockEntry}
use Rattle.scudo_primary.specs.declared.lists.ClassList.{ClassList}
use Rattle.scudo_primary.proofs.BlockLists.{each-block, blocks-more, blocks-rest}
use Rattle.scudo_primary.proofs.BlockLemmas.{IsCell, block-IsCell}
use Rattle.scudo_primary.proofs.ListLemmas.{member-first, follow-suc, length-follow, Each-map, Each-both, Each-other, distinct-head, sizes-of-marks-cons, one_less-sizes-after-push, Each-sizes-after-push}
use Rattle.scudo_primary.proofs.TableLemmas.{Writes, writes, writes-others, became, marks-set, stack-agree, sizes-agree, next-same, last-same, free-same, list-same, list-other}

stack-cons : (es : List BlockEntry) (ns : List ℕ) (c n at : ℕ) → stack_from es ns c (suc n) at ≡ at ∷ stack_from es ns c n (next_in es ns c at)
unfolding stack_from
stack-cons es ns c n at = follow-suc (next_in es ns c) n at

sizes-cons : (es : List BlockEntry) (ns : List ℕ) (c n at : ℕ) → sizes_from es ns c (suc n) at ≡ sizes_after_push (last_in es ns c at) (sizes_from es ns c n (next_in es ns c at))
unfolding sizes_from
sizes-cons es ns c n at = ap (λ t. sizes_of_marks (map (last_in es ns c) t)) (stack-cons es ns c n at) ∙ sizes-of-marks-cons _ _

-- a stack that isn't empty
pub stack-split : (es : List BlockEntry) (ns : List ℕ) (c n at : ℕ) → 0 < n → stack_from es ns c n at ≡ at ∷ stack_from es ns c (n - 1) (next_in es ns c at)
stack-split es ns c n at p = let e : n ≡ suc (n - 1) = omega arith in ap (λ t. stack_from es ns c t at) e ∙ stack-cons es ns c (n - 1) at

pub sizes-split : (es : List BlockEntry) (ns : List ℕ) (c n at : ℕ) → 0 < n → sizes_from es ns c n at ≡ sizes_after_push (last_in es ns c at) (sizes_from es ns c (n - 1) (next_in es ns c at))
sizes-split es ns c n at p = let e : n ≡ suc (n - 1) = omega arith in ap (λ t. sizes_from es ns c t at) e ∙ sizes-cons es ns c (n - 1) at

pub sizes-less : (es : List BlockEntry) (ns : List ℕ) (c n at : ℕ) (last : Bool) → one_less (sizes_after_push last (sizes_from es ns c n at)) ≡ sizes_from es ns c n at
unfolding sizes_from
sizes-less es ns c n at last = one_less-sizes-after-push last (map (last_in es ns c) (stack_from es ns c n at))

next-of : (es : List BlockEntry) (ns : List ℕ) (c x : ℕ) (e : BlockEntry) → entry_at es ns c x ≡ e → next_in es ns c x ≡ e.next
unfolding next_in
next-of es ns c x e p = ap (λ (t : BlockEntry). t.next) p

last-of : (es : List BlockEntry) (ns : List ℕ) (c x : ℕ) (e : BlockEntry) → entry_at es ns c x ≡ e → last_in es ns c x ≡ e.last
unfolding last_in
last-of es ns c x e p = ap (λ (t : BlockEntry). t.last) p

free-of : (es : List BlockEntry) (ns : List ℕ) (c x : ℕ) (e : BlockEntry) → entry_at es ns c x ≡ e → free_in es ns c x ≡ e.free
unfolding free_in
free-of es ns c x e p = ap (λ (t : BlockEntry). t.free) p

marked-kept : (es es' : List BlockEntry) (ns : List ℕ) (c : ℕ) (xs : List ℕ) (Q : ℕ → Type 0) → Each Q xs → Each (λ x. free_in es ns c x ≡ true) xs → ((x : ℕ) → Q x → entry_at es' ns c x ≡ entry_at es ns c x) → Each (λ x. free_in es' ns c x ≡ true) xs
marked-kept es es' ns c xs Q hq hm e = Each-map xs _ _ (Each-both xs Q (λ x. free_in es ns c x ≡ true) hq hm) (λ x t. free-same es es' ns ns c x (e x t.0) ∙ t.1)

-- ---- a block is put on top

abbrev pub link_entry : ClassList → Bool → BlockEntry
link_entry k last = record { next = k.head; free = true; last = last }

abbrev pub link_list : ClassList → ℕ → ClassList
link_list k b = record { head = b; count = k.count + 1; pages = k.pages }

link-class : (es es' : List BlockEntry) (ns : List ℕ) (c b : ℕ) (k : ClassList) (last : Bool) → IsClass c → IsLinked es ns c k → IsBlock c k.pages b → is_member (stack_from es ns c k.count k.head) b ≡ false
    → Each (λ n. n ≤ max_count_of c) (sizes_after_push last (sizes_from es ns c k.count k.head)) → Writes es es' ns c k.pages b (link_entry k last)
    → IsLinked es' ns c (link_list k b) × (class_in es' ns c (link_list k b) ≡ class_after_link c (class_in es ns c k) b last)
link-class es es' ns c b k last hc old block out room w =
    let xs = stack_from es ns c k.count k.head in
    let e = link_entry k last in
    let away = Each-both xs (IsBlock c k.pages) (λ x. x ≢ b) (each-block c k.pages xs old.blocks) (Each-other xs b out) in
    let stay : (x : ℕ) → IsBlock c k.pages x × (x ≢ b) → entry_at es' ns c x ≡ entry_at es ns c x = λ x q. w.other x q.0 q.1 in
    let below : stack_from es' ns c k.count k.head ≡ xs = stack-agree es es' ns ns c k.count k.head _ away (λ x q. next-same es es' ns ns c x (stay x q)) in
    let sizes_below : sizes_from es' ns c k.count k.head ≡ sizes_from es ns c k.count k.head =
    sizes-agree es es' ns ns c k.count k.head _ away below (λ x q. last-same es es' ns ns c x (stay x q)) in
    let n : k.count + 1 ≡ suc k.count = omega arith in
    let stack : stack_from es' ns c (k.count + 1) b ≡ b ∷ xs =
    ap (λ t. stack_from es' ns c t b) n ∙ stack-cons es' ns c k.count b ∙ ap (λ t. b ∷ stack_from es' ns c k.count t) (next-of es' ns c b e w.own) ∙ ap (λ t. b ∷ t) below in
    let sizes : sizes_from es' ns c (k.count + 1) b ≡ sizes_after_push last (sizes_from es ns c k.count k.head) =
    ap (λ t. sizes_from es' ns c t b) n ∙ sizes-cons es' ns c k.count b
    ∙ ap (λ t. sizes_after_push t (sizes_from es' ns c k.count (next_in es' ns c b))) (last-of es' ns c b e w.own)
    ∙ ap (λ t. sizes_after_push last (sizes_from es' ns c k.count t)) (next-of es' ns c b e w.own) ∙ ap (sizes_after_push last) sizes_below in
    let marks = marks-set es es' ns c k.pages b e hc block w in (
      record {
        blocks = subst (AreBlocks c k.pages) (sym stack) (blocks-more c k.pages b xs block out old.blocks);
        marked = subst (Each (λ x. free_in es' ns c x ≡ true)) (sym stack) (free-of es' ns c b e w.own, marked-kept es es' ns c xs _ away old.marked stay);
        batches = subst (Each (λ n. n ≤ max_count_of c)) (sym sizes) room;
      },
      (λ i. record { pages = k.pages; stack = stack i; sizes = sizes i; marks = marks i }),
    )

pub linked : (es : List BlockEntry) (ns : List ℕ) (ks : List ClassList) (c b at : ℕ) (last : Bool) → IsTable (block_table es ns ks) → IsClass c → IsBlock c (list_at ks c).pages b
    → is_member (stack_from es ns c (list_at ks c).count (list_at ks c).head) b ≡ false
    → Each (λ n. n ≤ max_count_of c) (sizes_after_push last (sizes_from es ns c (list_at ks c).count (list_at ks c).head)) → at ≡ place_of ns c b
    → Became (block_table es ns ks) (block_table (set es at (link_entry (list_at ks c) last)) ns (set ks (c - 1) (link_list (list_at ks c) b))) c (class_after_link c (class_in es ns c (list_at ks c)) b last)
linked es ns ks c b at last h hc block out room is =
    let k = list_at ks c in
    let e = link_entry k last in
    let new = link-class es (set es (place_of ns c b) e) ns c b k last hc (h.linked c hc) block out room (writes es ns ks c b e h hc block) in
    subst (λ t. Became (block_table es ns ks) (block_table (set es t e) ns (set ks (c - 1) (link_list k b))) c (class_after_link c (class_in es ns c k) b last)) (sym is)
    (became es (set es (place_of ns c b) e) ns ks (set ks (c - 1) (link_list k b)) c (link_list k b) (class_after_link c (class_in es ns c k) b last) h hc
    (length-set es (place_of ns c b) e) (length-set ks (c - 1) (link_list k b)) (list-same ks c (link_list k b) hc h.all) (λ d hd n. list-other ks c d (link_list k b) hc hd n) refl
    (writes-others es ns ks c b e h hc block) new.0 new.1)

-- ---- the top is taken

abbrev pub used_entry : List BlockEntry → List ℕ → ℕ → ℕ → Bool → BlockEntry
used_entry es ns c b free = record { next = (entry_at es ns c b).next; free = free; last = (entry_at es ns c b).last }

abbrev pub unlink_list : List BlockEntry → List ℕ → ℕ → ClassList → ClassList
unlink_list es ns c k = record { head = (entry_at es ns c k.head).next; count = k.count - 1; pages = k.pages }

unlink-class : (es es' : List BlockEntry) (ns : List ℕ) (c : ℕ) (k : ClassList) → IsClass c → IsLinked es ns c k → 0 < k.count → Writes es es' ns c k.pages k.head (used_entry es ns c k.head false)
    → IsLinked es' ns c (unlink_list es ns c k) × (class_in es' ns c (unlink_list es ns c k) ≡ class_after_pop c (class_in es ns c k) (class_in es ns c k).stack)
unfolding next_in
unlink-class es es' ns c k hc old some w =
    let b = k.head in
    let k' = unlink_list es ns c k in
    let e = used_entry es ns c b false in
    let xs = stack_from es ns c k'.count k'.head in
    let is : stack_from es ns c k.count k.head ≡ b ∷ xs = stack-split es ns c k.count b some in
    let cut : sizes_from es ns c k.count k.head ≡ sizes_after_push (last_in es ns c b) (sizes_from es ns c k'.count k'.head) = sizes-split es ns c k.count b some in
    let mine : AreBlocks c k.pages (b ∷ xs) = subst (AreBlocks c k.pages) is old.blocks in
    let marked : (free_in es ns c b ≡ true) × Each (λ x. free_in es ns c x ≡ true) xs = subst (Each (λ x. free_in es ns c x ≡ true)) is old.marked in
    let away = Each-both xs (IsBlock c k.pages) (λ x. x ≢ b) (each-block c k.pages (b ∷ xs) mine).1 (Each-other xs b (distinct-head b xs mine.distinct)) in
    let stay : (x : ℕ) → IsBlock c k.pages x × (x ≢ b) → entry_at es' ns c x ≡ entry_at es ns c x = λ x q. w.other x q.0 q.1 in
    let stack : stack_from es' ns c k'.count k'.head ≡ xs = stack-agree es es' ns ns c k'.count k'.head _ away (λ x q. next-same es es' ns ns c x (stay x q)) in
    let sizes : sizes_from es' ns c k'.count k'.head ≡ sizes_from es ns c k'.count k'.head =
    sizes-agree es es' ns ns c k'.count k'.head _ away stack (λ x q. last-same es es' ns ns c x (stay x q)) in
    let less : sizes_from es ns c k'.count k'.head ≡ one_less (sizes_from es ns c k.count k.head) =
    sym (ap one_less cut ∙ sizes-less es ns c k'.count k'.head (last_in es ns c b)) in
    let marks = marks-set es es' ns c k.pages b e hc (mine.carved b (member-first b xs)) w in
    let room = Each-sizes-after-push (last_in es ns c b) _ (max_count_of c) (subst (Each (λ n. n ≤ max_count_of c)) cut old.batches) in
    let after : ClassState = record { pages = k.pages; stack = xs; sizes = one_less (sizes_from es ns c k.count k.head); marks = set (marks_in es ns c k.pages) (number_of c b) false } in
    let done : class_in es' ns c k' ≡ after = λ i. record { pages = k.pages; stack = stack i; sizes = (sizes ∙ less) i; marks = marks i } in (
      record {
        blocks = subst (AreBlocks c k.pages) (sym stack) (blocks-rest c k.pages b xs mine);
        marked = subst (Each (λ x. free_in es' ns c x ≡ true)) (sym stack) (marked-kept es es' ns c xs _ away marked.1 stay);
        batches = subst (Each (λ n. n ≤ max_count_of c)) (sym sizes) room;
      },
      done ∙ sym (ap (class_after_pop c (class_in es ns c k)) is),
    )

-- what is known of the top
pub record IsTop (es : List BlockEntry) (ns : List ℕ) (ks : List ClassList) (c : ℕ) : Type 0 where
  pub block : IsBlock c (list_at ks c).pages (list_at ks c).head
  pub cell : IsCell c (list_at ks c).pages (list_at ks c).head
  pub stack : stack_from es ns c (list_at ks c).count (list_at ks c).head ≡ (list_at ks c).head ∷ stack_from es ns c ((list_at ks c).count - 1) (next_in es ns c (list_at ks c).head)
  pub unlisted : is_member (stack_from es ns c ((list_at ks c).count - 1) (next_in es ns c (list_at ks c).head)) (list_at ks c).head ≡ false

pub top-of : (es : List BlockEntry) (ns : List ℕ) (ks : List ClassList) (c : ℕ) → IsTable (block_table es ns ks) → IsClass c → 0 < (list_at ks c).count → IsTop es ns ks c
top-of es ns ks c h hc some =
    let k = list_at ks c in
    let old = h.linked c hc in
    let xs = stack_from es ns c (k.count - 1) (next_in es ns c k.head) in
    let is = stack-split es ns c k.count k.head some in
    let blocks : AreBlocks c k.pages (k.head ∷ xs) = subst (AreBlocks c k.pages) is old.blocks in
    let top : IsBlock c k.pages k.head = blocks.carved k.head (member-first k.head xs) in
    record {
      block = top;
      cell = block-IsCell c k.pages k.head hc top;
      stack = is;
      unlisted = distinct-head k.head xs blocks.distinct;
    }

pub unlinked : (es : List BlockEntry) (ns : List ℕ) (ks : List ClassList) (c : ℕ) → IsTable (block_table es ns ks) → IsClass c → 0 < (list_at ks c).count
    → Became (block_table es ns ks) (block_table (set es (place_of ns c (list_at ks c).head) (used_entry es ns c (list_at ks c).head false)) ns (set ks (c - 1) (unlink_list es ns c (list_at ks c)))) c
    (class_after_pop c (class_in es ns c (list_at ks c)) (class_in es ns c (list_at ks c)).stack)
unlinked es ns ks c h hc some =
    let k = list_at ks c in
    let k' = unlink_list es ns c k in
    let e = used_entry es ns c k.head false in
    let block = (top-of es ns ks c h hc some).block in
    let new = unlink-class es (set es (place_of ns c k.head) e) ns c k hc (h.linked c hc) some (writes es ns ks c k.head e h hc block) in
    became es (set es (place_of ns c k.head) e) ns ks (set ks (c - 1) k') c k' (class_after_pop c (class_in es ns c k) (class_in es ns c k).stack) h hc
    (length-set es (place_of ns c k.head) e) (length-set ks (c - 1) k') (list-same ks c k' hc h.all) (λ d hd n. list-other ks c d k' hc hd n) refl
    (writes-others es ns ks c k.head e h hc block) new.0 new.1

pub unlink-done : (es es' : List BlockEntry) (ns : List ℕ) (ks : List ClassList) (c at : ℕ) → IsTable (block_table es ns ks) → IsClass c → 0 < (list_at ks c).count → at ≡ place_of ns c (list_at ks c).head
    → es' ≡ set es (place_of ns c (list_at ks c).head) (used_entry es ns c (list_at ks c).head false)
    → Became (block_table es ns ks) (block_table es' ns (set ks (c - 1) (record { head = (get_or es at no_entry).next; count = (list_at ks c).count - 1; pages = (list_at ks c).pages }))) c
    (class_after_pop c (class_in es ns c (list_at ks c)) (class_in es ns c (list_at ks c)).stack)
unfolding entry_at
unlink-done es es' ns ks c at h hc some is new =
    let k = list_at ks c in
    let K = class_after_pop c (class_in es ns c k) (class_in es ns c k).stack in
    subst (λ t. Became (block_table es ns ks) (block_table t ns (set ks (c - 1) (record { head = (get_or es at no_entry).next; count = k.count - 1; pages = k.pages }))) c K) (sym new)
    (subst (λ t. Became (block_table es ns ks) (block_table (set es (place_of ns c k.head) (used_entry es ns c k.head false)) ns (set ks (c - 1) (record { head = (get_or es t no_entry).next; count = k.count - 1; pages = k.pages }))) c K) (sym is)
    (unlinked es ns ks c h hc some))

pub unlink-unlisted : (es es' : List BlockEntry) (ns : List ℕ) (ks ks' : List ClassList) (c : ℕ) → IsTable (block_table es ns ks) → IsClass c → 0 < (list_at ks c).count
    → Became (block_table es ns ks) (block_table es' ns ks') c (class_after_pop c (class_in es ns c (list_at ks c)) (class_in es ns c (list_at ks c)).stack)
    → is_member (class_in es' ns c (list_at ks' c)).stack (list_at ks c).head ≡ false
unlink-unlisted es es' ns ks ks' c h hc some b =
    let k = list_at ks c in
    let t = top-of es ns ks c h hc some in
    ap (λ (q : ClassState). is_member q.stack k.head) (b.class ∙ ap (class_after_pop c (class_in es ns c k)) t.stack) ∙ t.unlisted

-- ---- a block is marked

mark-class : (es es' : List BlockEntry) (ns : List ℕ) (c b : ℕ) (k : ClassList) (free : Bool) → IsClass c → IsLinked es ns c k → IsBlock c k.pages b → (free ≡ false → is_member (stack_from es ns c k.count k.head) b ≡ false)
    → Writes es es' ns c k.pages b (used_entry es ns c b free)
    → IsLinked es' ns c k × (class_in es' ns c k ≡ class_with_mark c (class_in es ns c k) b free)
unfolding next_in last_in free_in
mark-class es es' ns c b k free hc old block out w =
    let xs = stack_from es ns c k.count k.head in
    let e = used_entry es ns c b free in
    let nexts : (x : ℕ) → IsBlock c k.pages x → next_in es' ns c x ≡ next_in es ns c x = λ x q. elim (cases_eq x b) [
      | inl s ↦ ap (next_in es' ns c) s ∙ ap (λ (t : BlockEntry). t.next) w.own ∙ sym (ap (next_in es ns c) s)
      | inr n ↦ next-same es es' ns ns c x (w.other x q n)
    ] in
    let lasts : (x : ℕ) → IsBlock c k.pages x → last_in es' ns c x ≡ last_in es ns c x = λ x q. elim (cases_eq x b) [
      | inl s ↦ ap (last_in es' ns c) s ∙ ap (λ (t : BlockEntry). t.last) w.own ∙ sym (ap (last_in es ns c) s)
      | inr n ↦ last-same es es' ns ns c x (w.other x q n)
    ] in
    let blocks = each-block c k.pages xs old.blocks in
    let stack = stack-agree es es' ns ns c k.count k.head _ blocks nexts in
    let sizes = sizes-agree es es' ns ns c k.count k.head _ blocks stack lasts in
    let marks = marks-set es es' ns c k.pages b e hc block w in
    let keep : (f : Bool) → free ≡ f → Each (λ x. free_in es' ns c x ≡ true) xs = λ f. elim f as (λ f. free ≡ f → Each (λ x. free_in es' ns c x ≡ true) xs) [
      | true ↦ λ is. Each-map xs _ _ (Each-both xs (IsBlock c k.pages) (λ x. free_in es ns c x ≡ true) blocks old.marked) (λ x q. elim (cases_eq x b) [
        | inl s ↦ ap (free_in es' ns c) s ∙ ap (λ (t : BlockEntry). t.free) w.own ∙ is
        | inr n ↦ free-same es es' ns ns c x (w.other x q.0 n) ∙ q.1
      ])
      | false ↦ λ is. marked-kept es es' ns c xs _ (Each-both xs (IsBlock c k.pages) (λ x. x ≢ b) blocks (Each-other xs b (out is))) old.marked (λ x q. w.other x q.0 q.1)
    ] in (
      record {
        blocks = subst (AreBlocks c k.pages) (sym stack) old.blocks;
        marked = subst (Each (λ x. free_in es' ns c x ≡ true)) (sym stack) (keep free refl);
        batches = subst (Each (λ n. n ≤ max_count_of c)) (sym sizes) old.batches;
      },
      (λ i. record { pages = k.pages; stack = stack i; sizes = sizes i; marks = marks i }),
    )

pub marked : (es : List BlockEntry) (ns : List ℕ) (ks : List ClassList) (c b : ℕ) (free : Bool) → IsTable (block_table es ns ks) → IsClass c → IsBlock c (list_at ks c).pages b
    → (free ≡ false → is_member (stack_from es ns c (list_at ks c).count (list_at ks c).head) b ≡ false)
    → Became (block_table es ns ks) (block_table (set es (place_of ns c b) (used_entry es ns c b free)) ns ks) c (class_with_mark c (class_in es ns c (list_at ks c)) b free)
marked es ns ks c b free h hc block out =
    let k = list_at ks c in
    let e = used_entry es ns c b free in
    let new = mark-class es (set es (place_of ns c b) e) ns c b k free hc (h.linked c hc) block out (writes es ns ks c b e h hc block) in
    became es (set es (place_of ns c b) e) ns ks ks c k (class_with_mark c (class_in es ns c k) b free) h hc
    (length-set es (place_of ns c b) e) refl refl (λ d hd n. refl) refl (writes-others es ns ks c b e h hc block) new.0 new.1

-- ---- bounds

-- blocks lie below 2 ^ 30
pub block-below : (c pages b : ℕ) → IsClass c → pages ≤ MAX_PAGES → IsBlock c pages b → b < 2 ^ 30
block-below c pages b hc few k =
    let w = (block-IsCell c pages b hc k).within in
    let h = hc.high in
    let l = k.inside in
    omega arith

pub count-below : (es : List BlockEntry) (ns : List ℕ) (ks : List ClassList) (c : ℕ) → IsTable (block_table es ns ks) → IsClass c → (list_at ks c).count ≤ 2 ^ 30
unfolding stack_from
count-below es ns ks c h hc =
    let k = list_at ks c in
    let old = h.linked c hc in
    let xs = stack_from es ns c k.count k.head in
    let m = length-le_from_distinct_below xs (2 ^ 30) old.blocks.distinct
    (λ q t. block-below c k.pages q hc (h.numbered.few c hc) (old.blocks.carved q t)) in
    subst (λ t. t ≤ 2 ^ 30) (length-follow k.count (next_in es ns c) k.head) m
