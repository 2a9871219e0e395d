-- What a write to the table leaves of the classes' lists.
use Rattle.std.proofs.Common.{◌≡◌, ◌≢◌, ℕ, ◌-◌, ◌/◌, ◌<◌, ◌≤◌, Bool, true, false, List, [], ◌∷◌, length, map, get_or, set, refl, sym, ap, subst, ◌∙◌, inl, inr, arith}
use Rattle.std.proofs.lemmas.Bool.{cases_eq}
use Rattle.std.proofs.lemmas.List.{get_or-set_same, get_or-set_other, length-set, ext_get_or}
use Rattle.std.proofs.lemmas.List.FromFn.{length-map-range_with_len, get_or-map-range_with_len}
use Rattle.scudo_header.specs.Regions.{region_of}
use Rattle.scudo_header.specs.declared.config.TheConstants.{CLASSES}
use Rattle.common.specs.declared.limits.TheConstants.{PAGE_SIZE}
use Rattle.scudo_primary.specs.Blocks.{AreBlocks, carved_count, block_at, number_of, IsBlock}
use Rattle.scudo_primary.specs.Batches.{max_count_of}
use Rattle.scudo_primary.specs.Pools.{ClassState}
use Rattle.scudo_primary.specs.Inner.{block_table, Each, sizes_of_marks, place_of, page_number, slot_of, no_entry, no_list, entry_at, list_at, next_in, last_in, free_in, stack_from, sizes_from, marks_in, class_in, IsNumbered, IsLinked, IsTable, Became}
use Rattle.scudo_primary.specs.Blocks.{IsClass}
use Rattle.common.specs.declared.limits.TheConstants.{MAX_PAGES}
use Rattle.scudo_primary.specs.declared.lists.BlockEntry.{BlockEntry}
use Rattle.scudo_primary.specs.declared.lists.ClassList.{ClassList}
use Rattle.scudo_primary.proofs.BlockLists.{each-block}
use Rattle.scudo_primary.proofs.BlockLemmas.{IsCell, block-IsCell, block_at-IsBlock, number_of-block_at, block_at-number}
use Rattle.scudo_primary.proofs.ListLemmas.{follow-agree, map-agree}

-- ---- places

pub slot-in : (ns : List ℕ) (ks : List ClassList) (n c b : ℕ) → IsNumbered ns ks n → IsClass c → IsCell c (list_at ks c).pages b → slot_of c ((b - region_of c) / PAGE_SIZE) < length ns
slot-in ns ks n c b h k cell = let w = cell.within in h.slot c ((b - region_of c) / PAGE_SIZE) k (omega arith)

pub place-in : (ns : List ℕ) (ks : List ClassList) (n c b : ℕ) → IsNumbered ns ks n → IsClass c → IsCell c (list_at ks c).pages b → place_of ns c b < n
place-in ns ks n c b h k cell =
    let w = cell.within in
    let r = h.room c ((b - region_of c) / PAGE_SIZE) k (omega arith) in
    omega arith

-- two blocks have two entries
pub place-apart : (ns : List ℕ) (ks : List ClassList) (n c d b x : ℕ) → IsNumbered ns ks n → IsClass c → IsClass d → IsCell c (list_at ks c).pages b → IsCell d (list_at ks d).pages x
    → place_of ns c b ≡ place_of ns d x → (c ≡ d) × (b ≡ x)
place-apart ns ks n c d b x h kc kd cb cx e =
    let wb = cb.within in
    let wx = cx.within in
    let gb = cb.granule in
    let gx = cx.granule in
    let ib = cb.inside in
    let ix = cx.inside in
    let pb = (b - region_of c) / PAGE_SIZE in
    let px = (x - region_of d) / PAGE_SIZE in
    let same : page_number ns c pb ≡ page_number ns d px = omega arith in
    let a = h.apart c d pb px kc kd (omega arith) (omega arith) same in
    let ac = a.0 in
    let ap' = a.1 in
    (ac, omega arith)

pub entry-same : (es : List BlockEntry) (ns : List ℕ) (ks : List ClassList) (c b : ℕ) (e : BlockEntry) → IsNumbered ns ks (length es) → IsClass c → IsCell c (list_at ks c).pages b → entry_at (set es (place_of ns c b) e) ns c b ≡ e
unfolding entry_at
entry-same es ns ks c b e h k cell = get_or-set_same es (place_of ns c b) e no_entry (place-in ns ks (length es) c b h k cell)

pub entry-other : (es : List BlockEntry) (ns : List ℕ) (ks : List ClassList) (c d b x : ℕ) (e : BlockEntry) → IsNumbered ns ks (length es) → IsClass c → IsClass d
    → IsCell c (list_at ks c).pages b → IsCell d (list_at ks d).pages x → ((d ≡ c) × (x ≡ b) → ⊥) → entry_at (set es (place_of ns c b) e) ns d x ≡ entry_at es ns d x
unfolding entry_at
entry-other es ns ks c d b x e h kc kd cb cx n =
    get_or-set_other es (place_of ns c b) (place_of ns d x) e no_entry (λ s. n (place-apart ns ks (length es) d c x b h kd kc cx cb s))

-- ---- lists of a class whose entries agree

pub stack-agree : (es es' : List BlockEntry) (ns ns' : List ℕ) (c n at : ℕ) (Q : ℕ → Type 0) → Each Q (stack_from es ns c n at) → ((x : ℕ) → Q x → next_in es' ns' c x ≡ next_in es ns c x)
    → stack_from es' ns' c n at ≡ stack_from es ns c n at
unfolding stack_from
stack-agree es es' ns ns' c n at Q all e = sym (follow-agree n (next_in es ns c) (next_in es' ns' c) at Q all (λ x q. sym (e x q)))

pub sizes-agree : (es es' : List BlockEntry) (ns ns' : List ℕ) (c n at : ℕ) (Q : ℕ → Type 0) → Each Q (stack_from es ns c n at) → stack_from es' ns' c n at ≡ stack_from es ns c n at
    → ((x : ℕ) → Q x → last_in es' ns' c x ≡ last_in es ns c x) → sizes_from es' ns' c n at ≡ sizes_from es ns c n at
unfolding sizes_from
sizes-agree es es' ns ns' c n at Q all s e =
    ap (λ t. sizes_of_marks (map (last_in es' ns' c) t)) s ∙ ap sizes_of_marks (map-agree (last_in es' ns' c) (last_in es ns c) (stack_from es ns c n at) Q all e)

pub length-marks : (es : List BlockEntry) (ns : List ℕ) (c pages : ℕ) → length (marks_in es ns c pages) ≡ carved_count c pages
unfolding marks_in
length-marks es ns c pages = length-map-range_with_len (λ n. free_in es ns c (block_at c n)) 0 (carved_count c pages)

pub mark-at : (es : List BlockEntry) (ns : List ℕ) (c pages n : ℕ) (d : Bool) → n < carved_count c pages → get_or (marks_in es ns c pages) n d ≡ free_in es ns c (block_at c n)
unfolding marks_in
mark-at es ns c pages n d l = get_or-map-range_with_len (λ n. free_in es ns c (block_at c n)) 0 (carved_count c pages) n n d l (omega arith)

pub mark-block : (es : List BlockEntry) (ns : List ℕ) (c pages b : ℕ) (d : Bool) → IsBlock c pages b → get_or (marks_in es ns c pages) (number_of c b) d ≡ free_in es ns c b
mark-block es ns c pages b d k = mark-at es ns c pages (number_of c b) d k.carved ∙ ap (free_in es ns c) (block_at-number c pages b k)

pub marks-agree : (es es' : List BlockEntry) (ns ns' : List ℕ) (c pages : ℕ) → IsClass c → ((x : ℕ) → IsBlock c pages x → free_in es' ns' c x ≡ free_in es ns c x) → marks_in es' ns' c pages ≡ marks_in es ns c pages
marks-agree es es' ns ns' c pages h e =
    let la = length-marks es' ns' c pages in
    let lb = length-marks es ns c pages in
    ext_get_or false _ _ (la ∙ sym lb) (λ i l.
    let low : i < carved_count c pages = omega arith in
    mark-at es' ns' c pages i false low ∙ e (block_at c i) (block_at-IsBlock c pages i h low) ∙ sym (mark-at es ns c pages i false low))

pub next-same : (es es' : List BlockEntry) (ns ns' : List ℕ) (c x : ℕ) → entry_at es' ns' c x ≡ entry_at es ns c x → next_in es' ns' c x ≡ next_in es ns c x
unfolding next_in
next-same es es' ns ns' c x e = ap (λ (t : BlockEntry). t.next) e

pub last-same : (es es' : List BlockEntry) (ns ns' : List ℕ) (c x : ℕ) → entry_at es' ns' c x ≡ entry_at es ns c x → last_in es' ns' c x ≡ last_in es ns c x
unfolding last_in
last-same es es' ns ns' c x e = ap (λ (t : BlockEntry). t.last) e

pub free-same : (es es' : List BlockEntry) (ns ns' : List ℕ) (c x : ℕ) → entry_at es' ns' c x ≡ entry_at es ns c x → free_in es' ns' c x ≡ free_in es ns c x
unfolding free_in
free-same es es' ns ns' c x e = ap (λ (t : BlockEntry). t.free) e

-- a class whose entries stay
pub class-kept : (es es' : List BlockEntry) (ns ns' : List ℕ) (c : ℕ) (k : ClassList) → IsClass c → IsLinked es ns c k → ((x : ℕ) → IsBlock c k.pages x → entry_at es' ns' c x ≡ entry_at es ns c x)
    → (class_in es' ns' c k ≡ class_in es ns c k) × IsLinked es' ns' c k
class-kept es es' ns ns' c k h old e =
    let blocks = each-block c k.pages (stack_from es ns c k.count k.head) old.blocks in
    let stack = stack-agree es es' ns ns' c k.count k.head _ blocks (λ x q. next-same es es' ns ns' c x (e x q)) in
    let sizes = sizes-agree es es' ns ns' c k.count k.head _ blocks stack (λ x q. last-same es es' ns ns' c x (e x q)) in
    let marks = marks-agree es es' ns ns' c k.pages h (λ x q. free-same es es' ns ns' c x (e x q)) in (
      (λ i. record { pages = k.pages; stack = stack i; sizes = sizes i; marks = marks i }),
      record {
        blocks = subst (AreBlocks c k.pages) (sym stack) old.blocks;
        marked = subst (Each (λ b. free_in es' ns' c b ≡ true)) (sym stack)
            (both-map (stack_from es ns c k.count k.head) (IsBlock c k.pages) (λ b. free_in es ns c b ≡ true) (λ b. free_in es' ns' c b ≡ true) blocks old.marked (λ x q m. free-same es es' ns ns' c x (e x q) ∙ m));
        batches = subst (Each (λ n. n ≤ max_count_of c)) (sym sizes) old.batches;
      },
    )
  where
    both-map : (xs : List ℕ) (P Q R : ℕ → Type 0) → Each P xs → Each Q xs → ((x : ℕ) → P x → Q x → R x) → Each R xs
    both-map [] P Q R hp hq f = tt
    both-map (x ∷ xs) P Q R hp hq f = (f x hp.0 hq.0, both-map xs P Q R hp.1 hq.1 f)

pub numbered-pages : (ns : List ℕ) (ks ks' : List ClassList) (n m : ℕ) → IsNumbered ns ks n → m ≡ n → ((d : ℕ) → IsClass d → (list_at ks' d).pages ≡ (list_at ks d).pages) → IsNumbered ns ks' m
numbered-pages ns ks ks' n m h s e = record {
  slot = λ c i k l. h.slot c i k (subst (λ t. i < t) (e c k) l);
  room = λ c i k l. let r = h.room c i k (subst (λ t. i < t) (e c k) l) in omega arith;
  apart = λ c d i j kc kd li lj q. h.apart c d i j kc kd (subst (λ t. i < t) (e c kc) li) (subst (λ t. j < t) (e d kd) lj) q;
  few = λ c k. subst (λ t. t ≤ MAX_PAGES) (sym (e c k)) (h.few c k);
}

-- a change of one class alone
pub became : (es es' : List BlockEntry) (ns : List ℕ) (ks ks' : List ClassList) (c : ℕ) (k' : ClassList) (K : ClassState) → IsTable (block_table es ns ks) → IsClass c → length es' ≡ length es → length ks' ≡ length ks
    → list_at ks' c ≡ k' → ((d : ℕ) → IsClass d → d ≢ c → list_at ks' d ≡ list_at ks d) → k'.pages ≡ (list_at ks c).pages
    → ((d x : ℕ) → IsClass d → d ≢ c → IsBlock d (list_at ks d).pages x → entry_at es' ns d x ≡ entry_at es ns d x)
    → IsLinked es' ns c k' → class_in es' ns c k' ≡ K → Became (block_table es ns ks) (block_table es' ns ks') c K
became es es' ns ks ks' c k' K h hc le lk own other pages entries new is =
    let same : (d : ℕ) → IsClass d → (list_at ks' d).pages ≡ (list_at ks d).pages =
    λ d hd. elim (cases_eq d c) [
      | inl s ↦ ap (λ t. (list_at ks' t).pages) s ∙ ap (λ (t : ClassList). t.pages) own ∙ pages ∙ ap (λ t. (list_at ks t).pages) (sym s)
      | inr n ↦ ap (λ (t : ClassList). t.pages) (other d hd n)
    ] in
    let kept : (d : ℕ) → IsClass d → d ≢ c → (class_in es' ns d (list_at ks d) ≡ class_in es ns d (list_at ks d)) × IsLinked es' ns d (list_at ks d) =
    λ d hd n. class-kept es es' ns ns d (list_at ks d) hd (h.linked d hd) (λ x q. entries d x hd n q) in
    record {
      table = record {
        numbered = numbered-pages ns ks ks' (length es) (length es') h.numbered le same;
        all = lk ∙ h.all;
        linked = λ d hd. elim (cases_eq d c) [
          | inl s ↦ subst (λ t. IsLinked es' ns t (list_at ks' t)) (sym s) (subst (IsLinked es' ns c) (sym own) new)
          | inr n ↦ subst (IsLinked es' ns d) (sym (other d hd n)) (kept d hd n).1
        ];
      };
      class = ap (class_in es' ns c) own ∙ is;
      others = λ d hd n. ap (class_in es' ns d) (other d hd n) ∙ (kept d hd n).0;
      pages = same;
      len = le;
      numbers = refl;
    }

pub list-same : (ks : List ClassList) (c : ℕ) (k : ClassList) → IsClass c → length ks ≡ CLASSES → list_at (set ks (c - 1) k) c ≡ k
unfolding list_at
list-same ks c k h l = let a = h.low in let b = h.high in get_or-set_same ks (c - 1) k no_list (omega arith)

pub list-other : (ks : List ClassList) (c d : ℕ) (k : ClassList) → IsClass c → IsClass d → d ≢ c → list_at (set ks (c - 1) k) d ≡ list_at ks d
unfolding list_at
list-other ks c d k hc hd n =
    let a = hc.low in
    let b = hd.low in
    get_or-set_other ks (c - 1) (d - 1) k no_list (λ e. n (omega arith))

-- a change of one entry of the class
pub record Writes (es es' : List BlockEntry) (ns : List ℕ) (c pages b : ℕ) (e : BlockEntry) : Type 0 where
  pub own : entry_at es' ns c b ≡ e
  pub other : (x : ℕ) → IsBlock c pages x → x ≢ b → entry_at es' ns c x ≡ entry_at es ns c x

pub writes : (es : List BlockEntry) (ns : List ℕ) (ks : List ClassList) (c b : ℕ) (e : BlockEntry) → IsTable (block_table es ns ks) → IsClass c → IsBlock c (list_at ks c).pages b
    → Writes es (set es (place_of ns c b) e) ns c (list_at ks c).pages b e
writes es ns ks c b e h hc k =
    let cell = block-IsCell c (list_at ks c).pages b hc k in
    record {
      own = entry-same es ns ks c b e h.numbered hc cell;
      other = λ x q n. entry-other es ns ks c c b x e h.numbered hc hc cell (block-IsCell c (list_at ks c).pages x hc q) (λ t. n t.1);
    }

pub writes-others : (es : List BlockEntry) (ns : List ℕ) (ks : List ClassList) (c b : ℕ) (e : BlockEntry) → IsTable (block_table es ns ks) → IsClass c → IsBlock c (list_at ks c).pages b
    → (d x : ℕ) → IsClass d → d ≢ c → IsBlock d (list_at ks d).pages x → entry_at (set es (place_of ns c b) e) ns d x ≡ entry_at es ns d x
writes-others es ns ks c b e h hc k d x hd n q =
    entry-other es ns ks c d b x e h.numbered hc hd (block-IsCell c (list_at ks c).pages b hc k) (block-IsCell d (list_at ks d).pages x hd q) (λ t. n t.0)

free-of : (es : List BlockEntry) (ns : List ℕ) (c x : ℕ) (e : BlockEntry) → entry_at es ns c x ≡ e → free_in es ns c x ≡ e.free
unfolding free_in
free-of es ns c x e p = ap (λ (t : BlockEntry). t.free) p

pub marks-set : (es es' : List BlockEntry) (ns : List ℕ) (c pages b : ℕ) (e : BlockEntry) → IsClass c → IsBlock c pages b → Writes es es' ns c pages b e
    → marks_in es' ns c pages ≡ set (marks_in es ns c pages) (number_of c b) e.free
marks-set es es' ns c pages b e h k w =
    let la = length-marks es' ns c pages in
    let lb = length-marks es ns c pages in
    let carved = k.carved in
    let lc = length-set (marks_in es ns c pages) (number_of c b) e.free in
    ext_get_or false _ _ (la ∙ sym (lc ∙ lb)) (λ i l.
    let low : i < carved_count c pages = omega arith in
    let block = block_at-IsBlock c pages i h low in
    mark-at es' ns c pages i false low ∙ elim (cases_eq i (number_of c b)) [
      | inl s ↦
          (let same : block_at c i ≡ b = ap (block_at c) s ∙ block_at-number c pages b k in
          ap (free_in es' ns c) same ∙ free-of es' ns c b e w.own
          ∙ sym (ap (λ t. get_or (set (marks_in es ns c pages) (number_of c b) e.free) t false) s ∙ get_or-set_same (marks_in es ns c pages) (number_of c b) e.free false (omega arith)))
      | inr n ↦
          (let apart : block_at c i ≢ b = λ q. n (sym (number_of-block_at c i h) ∙ ap (number_of c) q) in
          free-same es es' ns ns c (block_at c i) (w.other (block_at c i) block apart) ∙ sym (mark-at es ns c pages i false low)
          ∙ sym (get_or-set_other (marks_in es ns c pages) (number_of c b) i e.free false n))
    ])
