-- A class gets pages, and what that leaves of the pool.
use Rattle.std.proofs.Common.{◌≡◌, ◌≢◌, ℕ, ◌+◌, ◌-◌, ◌*◌, ◌/◌, ◌%◌, ◌<◌, ◌≤◌, true, List, ◌++◌, length, take, replicate, get_or, set, sym, ap, subst, ◌∙◌, ◌⊎◌, inl, inr, arith}
use Rattle.std.proofs.lemmas.Bool.{cases_eq, cases_lt}
use Rattle.std.proofs.lemmas.List.{length-set, with_items_is}
use Rattle.std.proofs.lemmas.List.FromFn.{take-map-range_with_len}
use Rattle.std.specs.Prelude.{vec_len, vec_capacity}
use Rattle.std.specs.Vec.{with_items}
use Rattle.std.specs.declared.vec.Vec.{Vec}
use Rattle.std.specs.declared.alloc.Global.{Global}
use Rattle.scudo_header.specs.Classes.{size_of}
use Rattle.scudo_header.specs.Regions.{region_of}
use Rattle.scudo_header.specs.declared.config.TheConstants.{CLASSES}
use Rattle.common.specs.declared.limits.TheConstants.{PAGE_SIZE, MAX_PAGES}
use Rattle.scudo_primary.specs.Blocks.{carved_count, block_at, number_of, blocks_from, IsBlock}
use Rattle.scudo_primary.specs.Batches.{batch_sizes}
use Rattle.scudo_primary.specs.Pools.{ClassState, PoolState, class_at, with_class, with_pages, class_after_carve, new_count}
use Rattle.scudo_primary.specs.Inner.{block_table, Each, page_number, no_entry, entry_at, list_at, free_in, marks_in, class_in, class_after_link_new, state_of, capacities_in, pool_in, IsNumbered, IsNumberedOn, IsFilledUp, IsLinked, IsTable, IsPool, Became}
use Rattle.scudo_primary.specs.Blocks.{IsClass}
use Rattle.scudo_header.proofs.ByClassLaws.{by_class-with_value}
use Rattle.scudo_primary.specs.declared.lists.BlockEntry.{BlockEntry}
use Rattle.scudo_primary.specs.declared.lists.ClassList.{ClassList}
use Rattle.scudo_primary.specs.declared.pool.Primary.TheInside.{Inside}
use Rattle.scudo_primary.proofs.BlockLists.{each-block, blocks-wider}
use Rattle.scudo_primary.proofs.BlockLemmas.{block-IsCell, carved_count-≤}
use Rattle.scudo_primary.proofs.ListLemmas.{Each-map}
use Rattle.scudo_primary.proofs.TableLemmas.{class-kept, list-same, list-other}
use Rattle.scudo_primary.proofs.FillLemmas.{filled, filled-pool, filled-view}
use Rattle.scudo_primary.proofs.ModelLemmas.{pool_of, class_at-state, table-same}

abbrev pub wide : ClassList → ℕ → ClassList
wide k pages = record { head = k.head; count = k.count; pages = k.pages + pages }

-- what is asked of the pool's numbers
pub record IsRoomy (ns : List ℕ) (ks : List ClassList) (entries c pages used limit : ℕ) : Type 0 where
  pub class : IsClass c
  pub counted : (d i : ℕ) → IsClass d → i < (list_at ks d).pages → page_number ns d i < used
  pub few : (d : ℕ) → IsClass d → (list_at ks d).pages ≤ used
  pub below : used + pages ≤ limit
  pub most : limit ≤ MAX_PAGES
  pub room : 128 * (used + pages) ≤ entries
  pub slots : CLASSES * ((list_at ks c).pages + pages) ≤ length ns

pub wide-list : (ks : List ClassList) (c pages : ℕ) → length ks ≡ CLASSES → IsClass c → list_at (set ks (c - 1) (wide (list_at ks c) pages)) c ≡ wide (list_at ks c) pages
wide-list ks c pages l h = list-same ks c (wide (list_at ks c) pages) h l

pub wide-other : (ks : List ClassList) (c pages d : ℕ) → IsClass c → IsClass d → d ≢ c → list_at (set ks (c - 1) (wide (list_at ks c) pages)) d ≡ list_at ks d
wide-other ks c pages d h hd n = list-other ks c d (wide (list_at ks c) pages) h hd n

-- a page that a class has: an old one, or a new one
pub number-cases : (ns ns' : List ℕ) (ks : List ClassList) (n c pages used limit d i : ℕ) → length ks ≡ CLASSES → IsRoomy ns ks n c pages used limit → IsNumberedOn ns ns' c (list_at ks c).pages pages used → IsClass d
    → i < (list_at (set ks (c - 1) (wide (list_at ks c) pages)) d).pages
    → ((i < (list_at ks d).pages) × (page_number ns' d i ≡ page_number ns d i)) ⊎ ((d ≡ c) × ((list_at ks c).pages ≤ i) × (i < (list_at ks c).pages + pages) × (page_number ns' d i ≡ used + (i - (list_at ks c).pages)))
number-cases ns ns' ks n c pages used limit d i all r m hd l = elim (cases_eq d c) [
  | inr o ↦ inl (subst (λ (t : ClassList). i < t.pages) (wide-other ks c pages d r.class hd o) l, m.others d i hd o)
  | inl s ↦
      (let old = (list_at ks c).pages in
      let up : i < old + pages = subst (λ (t : ClassList). i < t.pages) (ap (list_at (set ks (c - 1) (wide (list_at ks c) pages))) s ∙ wide-list ks c pages all r.class) l in
      elim (cases_lt i old) [
        | inl q ↦ inl (subst (λ t. i < (list_at ks t).pages) (sym s) q, ap (λ t. page_number ns' t i) s ∙ m.before i q ∙ ap (λ t. page_number ns t i) (sym s))
        | inr q ↦
            (let at : old + (i - old) ≡ i = omega arith in
            inr (s, q, up, ap (λ t. page_number ns' t i) s ∙ ap (page_number ns' c) (sym at) ∙ m.numbered (i - old) (omega arith)))
      ])
]

pub numbered-wide : (ns ns' : List ℕ) (ks : List ClassList) (n c pages used limit : ℕ) → length ks ≡ CLASSES → IsNumbered ns ks n → IsRoomy ns ks n c pages used limit → IsNumberedOn ns ns' c (list_at ks c).pages pages used
    → IsNumbered ns' (set ks (c - 1) (wide (list_at ks c) pages)) n
numbered-wide ns ns' ks n c pages used limit all h r m =
    let fc = r.few c r.class in
    let lim = r.below in
    let most = r.most in
    let room = r.room in
    let slots = r.slots in
    let len = m.len in
    let hcl = r.class.low in
    let hch = r.class.high in
    let cases = λ (d i : ℕ) (hd : IsClass d) (l : i < (list_at (set ks (c - 1) (wide (list_at ks c) pages)) d).pages). number-cases ns ns' ks n c pages used limit d i all r m hd l in
    record {
      slot = λ d i hd l. let hl = hd.low in let hh = hd.high in elim (cases d i hd l) [
        | inl o ↦ (let s = h.slot d i hd o.0 in omega arith)
        | inr o ↦ (let u = o.2 in omega arith)
      ];
      room = λ d i hd l. elim (cases d i hd l) [
        | inl o ↦ (let s = h.room d i hd o.0 in let e = o.1 in omega arith)
        | inr o ↦ (let u = o.2 in let q = o.1 in let e = o.3 in omega arith)
      ];
      apart = λ d f i j hd hf li lj e. elim (cases d i hd li) [
        | inl a ↦ elim (cases f j hf lj) [
          | inl b ↦ h.apart d f i j hd hf a.0 b.0 (sym a.1 ∙ e ∙ b.1)
          | inr b ↦ (let x = r.counted d i hd a.0 in let y = a.1 in let z = b.3 in absurd (omega arith))
        ]
        | inr a ↦ elim (cases f j hf lj) [
          | inl b ↦ (let x = r.counted f j hf b.0 in let y = b.1 in let z = a.3 in absurd (omega arith))
          | inr b ↦ (a.0 ∙ sym b.0, (let x = a.3 in let y = b.3 in let p = a.1 in let q = b.1 in omega arith))
        ]
      ];
      few = λ d hd. elim (cases_eq d c) [
        | inl s ↦ (let e = ap (λ (t : ClassList). t.pages) (ap (list_at (set ks (c - 1) (wide (list_at ks c) pages))) s ∙ wide-list ks c pages all r.class) in omega arith)
        | inr o ↦ subst (λ (t : ClassList). t.pages ≤ MAX_PAGES) (sym (wide-other ks c pages d r.class hd o)) (h.few d hd)
      ];
    }

entry-kept : (es : List BlockEntry) (ns ns' : List ℕ) (ks : List ClassList) (c pages first d x : ℕ) → IsNumberedOn ns ns' c (list_at ks c).pages pages first → IsClass d → IsBlock d (list_at ks d).pages x → entry_at es ns' d x ≡ entry_at es ns d x
unfolding entry_at
entry-kept es ns ns' ks c pages first d x m hd b =
    let w = (block-IsCell d (list_at ks d).pages x hd b).within in
    let i = (x - region_of d) / PAGE_SIZE in
    let inside : i < (list_at ks d).pages = omega arith in
    let same : page_number ns' d i ≡ page_number ns d i = elim (cases_eq d c) [
      | inl s ↦ ap (λ t. page_number ns' t i) s ∙ m.before i (subst (λ t. i < (list_at ks t).pages) s inside) ∙ ap (λ t. page_number ns t i) (sym s)
      | inr o ↦ m.others d i hd o
    ] in
    ap (λ t. get_or es (t * 128 + (x - region_of d) % PAGE_SIZE / 32) no_entry) same

-- what the table is after that
pub record IsWide (es : List BlockEntry) (ns ns' : List ℕ) (ks : List ClassList) (c pages : ℕ) : Type 0 where
  pub table : IsTable (block_table es ns' (set ks (c - 1) (wide (list_at ks c) pages)))
  pub own : list_at (set ks (c - 1) (wide (list_at ks c) pages)) c ≡ wide (list_at ks c) pages
  pub old : class_in es ns' c (list_at ks c) ≡ class_in es ns c (list_at ks c)
  pub others : (d : ℕ) → IsClass d → d ≢ c → class_in es ns' d (list_at (set ks (c - 1) (wide (list_at ks c) pages)) d) ≡ class_in es ns d (list_at ks d)

pub widened : (es : List BlockEntry) (ns ns' : List ℕ) (ks : List ClassList) (c pages used limit : ℕ) → IsTable (block_table es ns ks) → IsRoomy ns ks (length es) c pages used limit → IsNumberedOn ns ns' c (list_at ks c).pages pages used
    → IsWide es ns ns' ks c pages
widened es ns ns' ks c pages used limit h r m =
    let k = list_at ks c in
    let ks' = set ks (c - 1) (wide k pages) in
    let kept : (d : ℕ) → IsClass d → (class_in es ns' d (list_at ks d) ≡ class_in es ns d (list_at ks d)) × IsLinked es ns' d (list_at ks d) =
    λ d hd. class-kept es es ns ns' d (list_at ks d) hd (h.linked d hd) (λ x b. entry-kept es ns ns' ks c pages used d x m hd b) in
    let mine = (kept c r.class).1 in
    let more : IsLinked es ns' c (wide k pages) = record {
      blocks = blocks-wider c k.pages (k.pages + pages) _ r.class (omega arith) mine.blocks;
      marked = mine.marked;
      batches = mine.batches;
    } in
    record {
      table = record {
        numbered = numbered-wide ns ns' ks (length es) c pages used limit h.all h.numbered r m;
        all = length-set ks (c - 1) (wide k pages) ∙ h.all;
        linked = λ d hd. elim (cases_eq d c) [
          | inl s ↦ subst (λ t. IsLinked es ns' t (list_at ks' t)) (sym s) (subst (IsLinked es ns' c) (sym (wide-list ks c pages h.all r.class)) more)
          | inr o ↦ subst (IsLinked es ns' d) (sym (wide-other ks c pages d r.class hd o)) (kept d hd).1
        ];
      };
      own = wide-list ks c pages h.all r.class;
      old = (kept c r.class).0;
      others = λ d hd o. ap (class_in es ns' d) (wide-other ks c pages d r.class hd o) ∙ (kept d hd).0;
    }

-- the class with its new blocks
pub carved-class : (es : List BlockEntry) (ns ns' : List ℕ) (ks : List ClassList) (c pages : ℕ) → IsClass c → IsWide es ns ns' ks c pages
    → class_after_link_new c (class_in es ns' c (list_at (set ks (c - 1) (wide (list_at ks c) pages)) c)) (carved_count c (list_at ks c).pages) (new_count c (list_at ks c).pages pages)
    ≡ class_after_carve c (class_in es ns c (list_at ks c)) pages (new_count c (list_at ks c).pages pages)
unfolding marks_in
carved-class es ns ns' ks c pages h w =
    let k = list_at ks c in
    let m = carved_count c k.pages in
    let n = new_count c k.pages pages in
    let up = carved_count-≤ c k.pages (k.pages + pages) h (omega arith) in
    let cut : take m (marks_in es ns' c (k.pages + pages)) ≡ marks_in es ns' c k.pages = take-map-range_with_len (λ i. free_in es ns' c (block_at c i)) 0 (carved_count c (k.pages + pages)) m up in
    ap (λ (t : ClassList). class_after_link_new c (class_in es ns' c t) m n) w.own
    ∙ ap (λ t. record { pages = k.pages + pages; stack = blocks_from c m n ++ (class_in es ns' c k).stack; sizes = batch_sizes c n ++ (class_in es ns' c k).sizes; marks = t ++ replicate n true }) cut
    ∙ ap (λ (t : ClassState). class_after_carve c t pages n) w.old

abbrev pub inside_carved : Inside → List BlockEntry → List ℕ → List ClassList → ℕ → Inside
inside_carved f es ns ks used = record { entries = with_items f.entries es; numbers = with_items f.numbers ns; lists = ks; used = used; limit = f.limit }

-- ---- the pool

-- the lists are as long as the pages to come want
pub record IsLong (f : Inside) (c pages : ℕ) : Type 0 where
  pub entries : 128 * (f.used + pages) ≤ vec_len f.entries
  pub numbers : CLASSES * ((list_at f.lists c).pages + pages) ≤ vec_len f.numbers

pub roomy : (f : Inside) (v : PoolState) (es : List BlockEntry) (ns : List ℕ) (c pages : ℕ) → pool_in f ≡ v → IsPool f → IsClass c → pages ≤ v.left → IsLong f c pages → length es ≡ vec_len f.entries → ns ≡ f.numbers.items → length ns ≡ vec_len f.numbers
    → IsRoomy ns f.lists (length es) c pages f.used f.limit
roomy f v es ns c pages e h hc l long le en ln =
    let left : f.limit - f.used ≡ v.left = ap (λ (p : PoolState). p.left) e in
    let b = h.below in
    record {
      class = hc;
      counted = λ d i hd q. subst (λ t. page_number t d i < f.used) (sym en) (h.counted d i hd q);
      few = h.few;
      below = omega arith;
      most = h.most;
      room = (let q = long.entries in omega arith);
      slots = (let q = long.numbers in omega arith);
    }

-- everything that stands before the new blocks are put on the list
pub record IsReady (f : Inside) (v : PoolState) (es : List BlockEntry) (ns ns' ns2 : List ℕ) (c pages : ℕ) : Type 0 where
  pub roomy : IsRoomy ns f.lists (length es) c pages f.used f.limit
  pub table : IsTable (block_table es ns f.lists)
  pub state : state_of (f.limit - f.used) (capacities_in f) (block_table es ns f.lists) ≡ v
  pub numbered : IsNumberedOn ns ns2 c (list_at f.lists c).pages pages f.used
  pub same : (with_items f.numbers ns').items ≡ ns2
  pub entries : length es ≡ vec_len f.entries

pub ready : (f : Inside) (v : PoolState) (es : List BlockEntry) (ns ns' ns2 : List ℕ) (c pages : ℕ) → pool_in f ≡ v → IsPool f → IsClass c → pages ≤ v.left → IsLong f c pages → es ≡ f.entries.items → length es ≡ vec_len f.entries
    → ns ≡ f.numbers.items → length ns ≡ vec_len f.numbers → ns2 ≡ (with_items f.numbers ns').items → IsNumberedOn ns ns' c (list_at f.lists c).pages pages f.used → IsReady f v es ns ns' ns2 c pages
ready f v es ns ns' ns2 c pages e h hc l long ee le en ln e2 m =
    let is : ns2 ≡ ns' = e2 ∙ with_items_is f.numbers ns' (m.len ∙ ln) in
    record {
      roomy = roomy f v es ns c pages e h hc l long le en ln;
      table = table-same f es ns h ee en;
      state = ap (λ t. state_of (f.limit - f.used) (capacities_in f) (block_table t ns f.lists)) ee ∙ ap (λ t. state_of (f.limit - f.used) (capacities_in f) (block_table f.entries.items t f.lists)) en ∙ e;
      numbered = subst (λ t. IsNumberedOn ns t c (list_at f.lists c).pages pages f.used) (sym is) m;
      same = sym e2;
      entries = le;
    }

-- the same, once the pool's lists were filled up
pub filled-ready : (f : Inside) (v : PoolState) (entries : Vec BlockEntry Global) (numbers : Vec ℕ Global) (es : List BlockEntry) (ns ns' ns2 : List ℕ) (c pages : ℕ) → pool_in f ≡ v → IsPool f → IsClass c → pages ≤ v.left
    → IsFilledUp f.entries entries (128 * (f.used + pages)) no_entry → IsFilledUp f.numbers numbers (CLASSES * ((list_at f.lists c).pages + pages)) 0 → es ≡ entries.items → length es ≡ vec_len entries
    → ns ≡ numbers.items → length ns ≡ vec_len numbers → ns2 ≡ (with_items numbers ns').items → IsNumberedOn ns ns' c (list_at f.lists c).pages pages f.used → IsReady (filled f entries numbers) v es ns ns' ns2 c pages
filled-ready f v entries numbers es ns ns' ns2 c pages e h hc l fe fn ee le en ln e2 m =
    let long : IsLong (filled f entries numbers) c pages = record { entries = fe.long; numbers = fn.long } in
    ready (filled f entries numbers) v es ns ns' ns2 c pages (filled-view f entries numbers _ _ fe fn h v e) (filled-pool f entries numbers _ _ fe fn h) hc l long ee le en ln e2 m

pub ready-wide : (f : Inside) (v : PoolState) (es : List BlockEntry) (ns ns' ns2 : List ℕ) (c pages : ℕ) → IsReady f v es ns ns' ns2 c pages → IsWide es ns ns2 f.lists c pages
ready-wide f v es ns ns' ns2 c pages r = widened es ns ns2 f.lists c pages f.used f.limit r.table r.roomy r.numbered

-- the old blocks lie below the new ones
pub old-below : (f : Inside) (v : PoolState) (es : List BlockEntry) (ns ns' ns2 : List ℕ) (c pages from : ℕ) → IsReady f v es ns ns' ns2 c pages → from ≡ carved_count c (list_at f.lists c).pages
    → Each (λ b. number_of c b < from) (class_in es ns2 c (list_at (set f.lists (c - 1) (wide (list_at f.lists c) pages)) c)).stack
old-below f v es ns ns' ns2 c pages from r e =
    let k = list_at f.lists c in
    let w = ready-wide f v es ns ns' ns2 c pages r in
    let same : (class_in es ns2 c (list_at (set f.lists (c - 1) (wide k pages)) c)).stack ≡ (class_in es ns c k).stack =
    ap (λ (t : ClassList). (class_in es ns2 c t).stack) w.own ∙ ap (λ (t : ClassState). t.stack) w.old in
    subst (Each (λ b. number_of c b < from)) (sym same)
    (Each-map (class_in es ns c k).stack (IsBlock c k.pages) (λ b. number_of c b < from) (each-block c k.pages (class_in es ns c k).stack (r.table.linked c r.roomy.class).blocks) (λ x b. subst (λ t. number_of c x < t) (sym e) b.carved))

pub record CarveDone (f : Inside) (v : PoolState) (es' : List BlockEntry) (ns' : List ℕ) (ks'' : List ClassList) (c pages : ℕ) : Type 0 where
  pub invariant : IsPool (inside_carved f es' ns' ks'' (f.used + pages))
  pub view : pool_in (inside_carved f es' ns' ks'' (f.used + pages)) ≡ with_pages v c pages

pub carve-invariant : (f : Inside) (v : PoolState) (es es' : List BlockEntry) (ns ns' ns2 : List ℕ) (ks'' : List ClassList) (c pages : ℕ) (k : ClassState) → IsReady f v es ns ns' ns2 c pages
    → IsPool f → Became (block_table es ns2 (set f.lists (c - 1) (wide (list_at f.lists c) pages))) (block_table es' ns2 ks'') c k → IsPool (inside_carved f es' ns' ks'' (f.used + pages))
carve-invariant f v es es' ns ns' ns2 ks'' c pages k r h b =
    let ks' = set f.lists (c - 1) (wide (list_at f.lists c) pages) in
    let items : (with_items f.entries es').items ≡ es' = with_items_is f.entries es' (b.len ∙ r.entries) in
    let hc = r.roomy.class in
    let all = r.table.all in
    let few = r.roomy.few c hc in
    record {
      table = subst (λ t. IsTable (block_table t (with_items f.numbers ns').items ks'')) (sym items) (subst (λ t. IsTable (block_table es' t ks'')) (sym r.same) b.table);
      counted = λ d i hd l. subst (λ t. page_number t d i < f.used + pages) (sym r.same)
          (elim (number-cases ns ns2 f.lists (length es) c pages f.used f.limit d i all r.roomy r.numbered hd (subst (λ t. i < t) (b.pages d hd) l)) [
            | inl o ↦ (let x = r.roomy.counted d i hd o.0 in let y = o.1 in omega arith)
            | inr o ↦ (let x = o.3 in let y = o.2 in let z = o.1 in omega arith)
          ]);
      few = λ d hd. elim (cases_eq d c) [
        | inl s ↦ (let x = b.pages c hc ∙ ap (λ (t : ClassList). t.pages) (wide-list f.lists c pages all hc) in subst (λ t. (list_at ks'' t).pages ≤ f.used + pages) (sym s) (omega arith))
        | inr o ↦ (let x = b.pages d hd ∙ ap (λ (t : ClassList). t.pages) (wide-other f.lists c pages d hc hd o) in let y = r.roomy.few d hd in omega arith)
      ];
      below = r.roomy.below;
      most = h.most;
      room = h.room;
      slots = h.slots;
    }

pub carve-view : (f : Inside) (v : PoolState) (es es' : List BlockEntry) (ns ns' ns2 : List ℕ) (ks'' : List ClassList) (c pages : ℕ) → IsReady f v es ns ns' ns2 c pages
    → Became (block_table es ns2 (set f.lists (c - 1) (wide (list_at f.lists c) pages))) (block_table es' ns2 ks'') c
    (class_after_link_new c (class_in es ns2 c (list_at (set f.lists (c - 1) (wide (list_at f.lists c) pages)) c)) (carved_count c (list_at f.lists c).pages) (new_count c (list_at f.lists c).pages pages))
    → pool_in (inside_carved f es' ns' ks'' (f.used + pages)) ≡ with_pages v c pages
carve-view f v es es' ns ns' ns2 ks'' c pages r b =
    let k = list_at f.lists c in
    let ks' = set f.lists (c - 1) (wide k pages) in
    let hc = r.roomy.class in
    let w = ready-wide f v es ns ns' ns2 c pages r in
    let left = f.limit - f.used in
    let left' = f.limit - (f.used + pages) in
    let K = class_after_carve c (class_in es ns c k) pages (new_count c k.pages pages) in
    let items : (with_items f.entries es').items ≡ es' = with_items_is f.entries es' (b.len ∙ r.entries) in
    let old : ℕ → ClassState = λ d. class_in es ns d (list_at f.lists d) in
    let new : ℕ → ClassState = λ d. class_in es' ns2 d (list_at ks'' d) in
    let own : new c ≡ K = b.class ∙ carved-class es ns ns2 f.lists c pages hc w in
    let others : (d : ℕ) → IsClass d → d ≢ c → new d ≡ old d = λ d hd n. b.others d hd n ∙ w.others d hd n in
    let at : class_at v c ≡ class_in es ns c k = ap (λ t. class_at t c) (sym r.state) ∙ class_at-state left (capacities_in f) es ns f.lists c hc in
    let less : left' ≡ v.left - pages = let q = ap (λ (p : PoolState). p.left) r.state in omega arith in
    ap (λ t. state_of left' (capacities_in f) (block_table t (with_items f.numbers ns').items ks'')) items ∙ ap (λ t. state_of left' (capacities_in f) (block_table es' t ks'')) r.same
    ∙ ap (pool_of left' (capacities_in f)) (by_class-with_value old new c K hc own others)
    ∙ ap (λ (t : PoolState). pool_of left' t.capacities (with_class t c K).classes) r.state
    ∙ ap (λ (t : ClassState). pool_of left' v.capacities (with_class v c (class_after_carve c t pages (new_count c t.pages pages))).classes) (sym at)
    ∙ ap (λ t. pool_of t v.capacities (with_class v c (class_after_carve c (class_at v c) pages (new_count c (class_at v c).pages pages))).classes) less

-- ---- as the code has it

pub record CarveBounds (f : Inside) (c pages : ℕ) : Type 0 where
  pub fits : (list_at f.lists c).pages + pages ≤ f.limit
  pub slots : CLASSES * f.limit ≤ vec_capacity f.numbers
  pub limit : f.limit ≤ MAX_PAGES

pub carve-bounds : (f : Inside) (v : PoolState) (c pages : ℕ) → pool_in f ≡ v → IsPool f → IsClass c → pages ≤ v.left → CarveBounds f c pages
carve-bounds f v c pages e h hc l =
    let left : f.limit - f.used ≡ v.left = ap (λ (p : PoolState). p.left) e in
    let b = h.below in
    let u = h.few c hc in
    record { fits = omega arith; slots = h.slots; limit = h.most }

pub carve-all : (f : Inside) (v : PoolState) (es : List BlockEntry) (ns ns' ns2 : List ℕ) (c pages s : ℕ) → IsReady f v es ns ns' ns2 c pages → s ≡ size_of c
    → PAGE_SIZE * ((list_at f.lists c).pages + pages) / s ≡ carved_count c (list_at (set f.lists (c - 1) (wide (list_at f.lists c) pages)) c).pages
carve-all f v es ns ns' ns2 c pages s r e =
    ap (λ t. PAGE_SIZE * ((list_at f.lists c).pages + pages) / t) e ∙ ap (λ (t : ClassList). carved_count c t.pages) (sym (ready-wide f v es ns ns' ns2 c pages r).own)

pub carve-end : (f : Inside) (v : PoolState) (es es' : List BlockEntry) (ns ns' ns2 : List ℕ) (ks'' : List ClassList) (c pages s : ℕ) → IsReady f v es ns ns' ns2 c pages → s ≡ size_of c
    → Became (block_table es ns2 (set f.lists (c - 1) (wide (list_at f.lists c) pages))) (block_table es' ns2 ks'') c
    (class_after_link_new c (class_in es ns2 c (list_at (set f.lists (c - 1) (wide (list_at f.lists c) pages)) c)) (PAGE_SIZE * (list_at f.lists c).pages / s)
    (PAGE_SIZE * ((list_at f.lists c).pages + pages) / s - PAGE_SIZE * (list_at f.lists c).pages / s))
    → Became (block_table es ns2 (set f.lists (c - 1) (wide (list_at f.lists c) pages))) (block_table es' ns2 ks'') c
    (class_after_link_new c (class_in es ns2 c (list_at (set f.lists (c - 1) (wide (list_at f.lists c) pages)) c)) (carved_count c (list_at f.lists c).pages) (new_count c (list_at f.lists c).pages pages))
carve-end f v es es' ns ns' ns2 ks'' c pages s r e b =
    subst (λ t. Became (block_table es ns2 (set f.lists (c - 1) (wide (list_at f.lists c) pages))) (block_table es' ns2 ks'') c
    (class_after_link_new c (class_in es ns2 c (list_at (set f.lists (c - 1) (wide (list_at f.lists c) pages)) c)) (PAGE_SIZE * (list_at f.lists c).pages / t)
    (PAGE_SIZE * ((list_at f.lists c).pages + pages) / t - PAGE_SIZE * (list_at f.lists c).pages / t))) e b
