-- The frames of the tenants' pages.
use Rattle.std.proofs.Common.{◌≡◌, ℕ, suc, ◌==◌, Bool, true, false, List, [], ◌∷◌, if◌then◌else◌}
use Rattle.std.proofs.Common.{Option, Some, None, option_map, refl, ap, sym, ◌∙◌}
use Rattle.std.specs.Prelude.{IfSome}
use Rattle.std.specs.FinMap.{get}
use Rattle.std.specs.List.{slice_get}
use Rattle.std.proofs.lemmas.Bool.{eqb-true}
use Rattle.mte_tags.specs.Memory.{Page}
use Rattle.mte_tags.specs.declared.attrs.Attrs.{Attrs}
use Rattle.mte_frames.specs.Pool.{Pool, IsHeldBy}
use Rattle.mte_translate.specs.Tables.{pages_of}
use Rattle.mte_translate.specs.declared.translation.Translation.{Translation}
use Rattle.mte_translate.proofs.KeptTables.{page-frame}
use Rattle.mte_space.specs.Spaces.{page_of}
use Rattle.mte_space.proofs.Memories.{page_at-space}
use Rattle.mte_sched.specs.declared.tenant.Tenant as code
use Rattle.mte_sched.specs.declared.tenant.Live.{Live}
use Rattle.mte_sched.specs.declared.tenant.Holding.{Holding}
use Rattle.mte_sched.specs.declared.tenant.Holding.TheVariants as kept
use Rattle.mte_sched.specs.Tenants.{state_of_holding, record_in, tenants_in}
use Rattle.mte_sched.specs.Sharing.{LiesAt, IsSharing}
use Rattle.mte_sched.specs.Views.{page_held, page_among, find_page_cases, found_among, HasSomeTable, Holds}
use Rattle.mte_sched.proofs.PlaceLists.{some_same}
use Rattle.mte_sched.proofs.TurnLemmas.{live_same}

-- ---- the page

page_by : (p : Pool) (q pages : ℕ) (o : Holding) → page_held q (state_of_holding p pages o) ≡ option_map (page_of p) (find_page_cases p q o)
page_by p q pages (kept.Gone r) = refl
page_by p q pages (kept.Live a) = page_at-space p a.memory.table pages a.memory.state q

page_if : (b : Bool) (p : Pool) (own others : Option Page) (x rest : Option (ℕ × Attrs)) → own ≡ option_map (page_of p) x → others ≡ option_map (page_of p) rest
    → (if b then own else others) ≡ option_map (page_of p) (if b then x else rest)
page_if true p own others x rest e f = e
page_if false p own others x rest e f = f

pub pages_found : (p : Pool) (id q : ℕ) (ts : List code.Tenant) → page_among id q (tenants_in p ts) ≡ option_map (page_of p) (found_among p id q ts)
pages_found p id q [] = refl
pages_found p id q (t ∷ ts) =
    page_if ((record_in t).id == id) p _ (page_among id q (tenants_in p ts)) (find_page_cases p q t.holding) (found_among p id q ts)
    (page_by p q t.pages t.holding) (pages_found p id q ts)

-- ---- whose it is

pub record Found (p : Pool) (id q : ℕ) (ts : List code.Tenant) (x : ℕ × Attrs) : Type 0 where
  pub at : ℕ
  pub tenant : code.Tenant
  pub live : Live
  pub lies : LiesAt ts at tenant live
  pub number : (record_in tenant).id ≡ id
  pub mapped : get (pages_of p live.memory.table.frame) q ≡ Some x

found_here : (p : Pool) (id q : ℕ) (ts : List code.Tenant) (t : code.Tenant) (x : ℕ × Attrs) (o : Holding) → t.holding ≡ o → (record_in t).id ≡ id → find_page_cases p q o ≡ Some x → Found p id q (t ∷ ts) x
found_here p id q ts t x (kept.Gone r) is same e = absurd cc
found_here p id q ts t x (kept.Live a) is same e = record { at = 0; tenant = t; live = a; lies = record { tenant = refl; live = is }; number = same; mapped = e }

found_next : (p : Pool) (id q : ℕ) (ts : List code.Tenant) (t : code.Tenant) (x : ℕ × Attrs) → Found p id q ts x → Found p id q (t ∷ ts) x
found_next p id q ts t x f = record { at = suc f.at; tenant = f.tenant; live = f.live; lies = record { tenant = f.lies.tenant; live = f.lies.live }; number = f.number; mapped = f.mapped }

found_in : (b : Bool) (p : Pool) (id q : ℕ) (ts : List code.Tenant) (t : code.Tenant) (x : ℕ × Attrs) → ((record_in t).id == id) ≡ b → (found_among p id q ts ≡ Some x → Found p id q ts x)
    → (if b then find_page_cases p q t.holding else found_among p id q ts) ≡ Some x → Found p id q (t ∷ ts) x
found_in true p id q ts t x same rest e = found_here p id q ts t x t.holding refl (eqb-true (record_in t).id id same) e
found_in false p id q ts t x same rest e = found_next p id q ts t x (rest e)

pub found_where : (p : Pool) (id q : ℕ) (ts : List code.Tenant) (x : ℕ × Attrs) → found_among p id q ts ≡ Some x → Found p id q ts x
found_where p id q [] x e = absurd cc
found_where p id q (t ∷ ts) x e = found_in ((record_in t).id == id) p id q ts t x refl (λ h. found_where p id q ts x h) e

module _ (p : Pool) (us : List Translation) (ts : List code.Tenant) (sharing : IsSharing p us ts) where
  pub some_table : (i : ℕ) (t : code.Tenant) (o : Holding) → slice_get ts i ≡ Some t → t.holding ≡ o → HasSomeTable p o
  some_table i t (kept.Gone r) at e = tt
  some_table i t (kept.Live a) at e = (a.memory.quota, (sharing.placed i t a (record { tenant = at; live = e })).space.table)

  out_of : (id q f : ℕ) (a : Attrs) (x : Found p id q ts (f, a)) → IsHeldBy p f x.live.memory.quota
  out_of id q f a x = (page-frame p x.live.memory.quota q f a x.live.memory.table (sharing.placed x.at x.tenant x.live x.lies).space.table x.mapped).1

  -- The tables of live tenants are whole.
  holds_by : (id q : ℕ) (x : Option (ℕ × Attrs)) → found_among p id q ts ≡ x → IfSome (option_map (λ y. y.0) x) (λ f. Holds p f (page_among id q (tenants_in p ts)))
  holds_by id q None e = tt
  holds_by id q (Some (f, a)) e =
      let found = found_where p id q ts (f, a) e in
      record { out = (found.live.memory.quota, out_of id q f a found); attrs = a; page_is = pages_found p id q ts ∙ ap (option_map (page_of p)) e }

  pub holds : (id q : ℕ) → IfSome (option_map (λ y. y.0) (found_among p id q ts)) (λ f. Holds p f (page_among id q (tenants_in p ts)))
  holds id q = holds_by id q (found_among p id q ts) refl

  none_by : (id q : ℕ) (x : Option (ℕ × Attrs)) → found_among p id q ts ≡ x → option_map {U = ℕ} (λ y. y.0) x ≡ None → page_among id q (tenants_in p ts) ≡ None
  none_by id q None e n = pages_found p id q ts ∙ ap (option_map (page_of p)) e
  none_by id q (Some x) e n = absurd cc

  pub none : (id q : ℕ) → option_map {U = ℕ} (λ y. y.0) (found_among p id q ts) ≡ None → page_among id q (tenants_in p ts) ≡ None
  none id q n = none_by id q (found_among p id q ts) refl n

  same_page : (id q j r f : ℕ) (a b : Attrs) → Found p id q ts (f, a) → Found p j r ts (f, b) → (j ≡ id) × (r ≡ q)
  same_page id q j r f a b x y =
      let quotas : y.live.memory.quota ≡ x.live.memory.quota = some_same y.live.memory.quota x.live.memory.quota (sym (out_of j r f b y) ∙ out_of id q f a x) in
      let at : y.at ≡ x.at = sharing.quotas y.at x.at y.tenant x.tenant y.live x.live y.lies x.lies quotas in
      let tenants : y.tenant ≡ x.tenant = some_same y.tenant x.tenant (sym y.lies.tenant ∙ ap (slice_get ts) at ∙ x.lies.tenant) in
      let lives : y.live ≡ x.live = live_same y.live x.live (sym y.lies.live ∙ ap (λ (t : code.Tenant). t.holding) tenants ∙ x.lies.live) in
      let mapped : get (pages_of p x.live.memory.table.frame) r ≡ Some (f, b) = ap (λ (o : Live). get (pages_of p o.memory.table.frame) r) (sym lives) ∙ y.mapped in
      (sym y.number ∙ ap (λ (t : code.Tenant). (record_in t).id) tenants ∙ x.number, (sharing.placed x.at x.tenant x.live x.lies).space.once r q f b a mapped x.mapped)

  apart_to : (id q j r f : ℕ) (a : Attrs) (y : Option (ℕ × Attrs)) → found_among p id q ts ≡ Some (f, a) → found_among p j r ts ≡ y → option_map (λ z. z.0) y ≡ Some f → (j ≡ id) × (r ≡ q)
  apart_to id q j r f a None e h k = absurd cc
  apart_to id q j r f a (Some (g, b)) e h k =
      let same : g ≡ f = some_same g f k in
      same_page id q j r f a b (found_where p id q ts (f, a) e) (found_where p j r ts (f, b) (h ∙ ap (λ n. Some (n, b)) same))

  apart_by : (id q : ℕ) (x : Option (ℕ × Attrs)) → found_among p id q ts ≡ x
      → IfSome (option_map (λ y. y.0) x) (λ f. (j r : ℕ) → option_map (λ y. y.0) (found_among p j r ts) ≡ Some f → (j ≡ id) × (r ≡ q))
  apart_by id q None e = tt
  apart_by id q (Some (f, a)) e = λ j r k. apart_to id q j r f a (found_among p j r ts) e refl k

  pub apart : (id q : ℕ) → IfSome (option_map (λ y. y.0) (found_among p id q ts)) (λ f. (j r : ℕ) → option_map (λ y. y.0) (found_among p j r ts) ≡ Some f → (j ≡ id) × (r ≡ q))
  apart id q = apart_by id q (found_among p id q ts) refl
