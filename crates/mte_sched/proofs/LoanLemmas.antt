-- A loan of the bytes of a page's frame.
use Rattle.std.proofs.Common.{◌≡◌, ◌≢◌, ℕ, suc, ◌==◌, Bool, true, false, List, [], ◌∷◌, map, length, if◌then◌else◌}
use Rattle.std.proofs.Common.{Option, Some, None, option_map, refl, ap, sym, subst, ◌∙◌, inl, inr}
use Rattle.std.specs.Prelude.{IfSome}
use Rattle.std.specs.Option.{OnSome, option_copied_mut}
use Rattle.std.specs.Borrow.{MutBor}
use Rattle.std.specs.FinMap.{get}
use Rattle.std.specs.List.{refill, slice_get}
use Rattle.std.proofs.lemmas.Bool.{cases_eq, eq-eqb, ne_eqb}
use Rattle.mte_svc.specs.declared.parts.TenantParts.{TenantParts}
use Rattle.mte_svc.specs.declared.record.Record.{Record}
use Rattle.mte_tags.specs.Memory.{Memory, Page, attrs_cases, attrs_at, pages_left}
use Rattle.mte_tags.specs.declared.attrs.Attrs.{Attrs}
use Rattle.mte_arena.specs.Frames.{Frame, make_frame, frame_at}
use Rattle.mte_frames.specs.Pool.{Pool, IsHeldBy, IsTaken, IsSound, KeepsOthers, with_bytes_at, with_bytes_at_cases}
use Rattle.mte_frames.proofs.Keeps.{keeps_written}
use Rattle.mte_translate.specs.Tables.{pages_of, Stays}
use Rattle.mte_translate.specs.declared.translation.Translation.{Translation}
use Rattle.mte_translate.proofs.KeptTables.{kept-others, kept-after-write-of, page-frame}
use Rattle.mte_space.specs.Remembered.{IsRemembered}
use Rattle.mte_space.specs.Spaces.{page_of}
use Rattle.mte_space.specs.KeptSpaces.{none_enters_same}
use Rattle.mte_space.proofs.Memories.{page_at-space, pages_left-space, page_found}
use Rattle.mte_space.proofs.SpaceSteps.{space_framed, cached_framed, memory_framed}
use Rattle.scudo_heap.proofs.FirstLemmas.{served-same}
use Rattle.mte_sched.specs.declared.tenant.Tenant as code
use Rattle.mte_sched.specs.declared.tenant.Live.{Live}
use Rattle.mte_sched.specs.declared.tenant.Holding.{Holding}
use Rattle.mte_sched.specs.declared.tenant.Holding.TheVariants as kept
use Rattle.mte_sched.specs.Contents.{Content, Tenant, with_bytes_of, with_page_bytes, state_after_write, tenant_after_write, after_write_of}
use Rattle.mte_sched.specs.Memories.{memory_at, IsTenantMemory}
use Rattle.mte_svc.specs.Ready.{IsReady}
use Rattle.mte_sched.specs.Tenants.{record_in, tenant_in, tenants_in}
use Rattle.mte_sched.specs.Sharing.{LiesAt, IsSharing}
use Rattle.mte_sched.specs.Views.{page_among, find_page_cases, found_among}
use Rattle.mte_sched.proofs.TenantLemmas.{tenant_by}
use Rattle.mte_sched.proofs.PlaceLists.{some_same, map_each}
use Rattle.mte_sched.proofs.SharingLemmas.{Turn, tenant_stays, sharing_after}
use Rattle.mte_sched.proofs.TurnLemmas.{held_if, by_live, live_record, live_same}
use Rattle.mte_sched.proofs.FrameLemmas.{Found, found_where, pages_found}

attrs_same : (p n : Pool) (o : Option (ℕ × Attrs)) → attrs_cases (option_map (page_of n) o) ≡ attrs_cases (option_map (page_of p) o)
attrs_same p n None = refl
attrs_same p n (Some x) = refl

written_tenant : (id q pages : ℕ) (ws : List ℕ) (parts : TenantParts) (m n : Memory) → (parts.history.id == id) ≡ true → n ≡ with_page_bytes m q ws
    → tenant_by parts n pages ≡ tenant_after_write id q ws (tenant_by parts m pages)
written_tenant id q pages ws parts m n same e = rw (same, e) refl

-- ---- where pages lie

found_if : (b : Bool) (x y z w : Option (ℕ × Attrs)) → x ≡ y → z ≡ w → (if b then x else z) ≡ (if b then y else w)
found_if true x y z w e f = e
found_if false x y z w e f = f

found_same_by : (p n : Pool) (r : ℕ) (o : Holding) → ((b : Live) → o ≡ kept.Live b → pages_of n b.memory.table.frame ≡ pages_of p b.memory.table.frame) → find_page_cases n r o ≡ find_page_cases p r o
found_same_by p n r (kept.Gone s) h = refl
found_same_by p n r (kept.Live b) h = ap (λ m. get m r) (h b refl)

found_same : (p n : Pool) (j r : ℕ) (ts : List code.Tenant) → ((i : ℕ) (t : code.Tenant) (b : Live) → LiesAt ts i t b → pages_of n b.memory.table.frame ≡ pages_of p b.memory.table.frame)
    → found_among n j r ts ≡ found_among p j r ts
found_same p n j r [] h = refl
found_same p n j r (t ∷ ts) h =
    found_if ((record_in t).id == j) _ _ _ _ (found_same_by p n r t.holding (λ b e. h 0 t b (record { tenant = refl; live = e })))
    (found_same p n j r ts (λ i u b l. h (suc i) u b (record { tenant = l.tenant; live = l.live })))

abbrev pub content_in : Pool → List code.Tenant → Content
content_in p ts = record { frames = length p.frames; tenants = tenants_in p ts }

-- ---- a page that was found

pub lent_out : (p : Pool) (us : List Translation) (ts : List code.Tenant) (sharing : IsSharing p us ts) (id q f : ℕ) (a : Attrs) (x : Found p id q ts (f, a)) → IsHeldBy p f x.live.memory.quota
lent_out p us ts sharing id q f a x = (page-frame p x.live.memory.quota q f a x.live.memory.table (sharing.placed x.at x.tenant x.live x.lies).space.table x.mapped).1

module _ (p : Pool) (us : List Translation) (ts : List code.Tenant) (sharing : IsSharing p us ts) (id q f : ℕ) (a : Attrs) (x : Found p id q ts (f, a)) (ws : List ℕ) where
  abbrev n : Pool
  n = with_bytes_at p f ws

  abbrev frame : Frame
  frame = make_frame (refill 4096 (frame_at p.frames f).bytes ws) (frame_at p.frames f).tags

  placed : IsTenantMemory p us x.at x.tenant.pages x.live.memory
  placed = sharing.placed x.at x.tenant x.live x.lies

  stays : Stays x.live.memory.quota x.live.memory.table p n
  stays = kept-after-write-of p x.live.memory.quota f (Some frame) x.live.memory.table (page-frame p x.live.memory.quota q f a x.live.memory.table placed.space.table x.mapped).2 placed.space.table

  others : KeepsOthers x.live.memory.quota p n
  others = keeps_written x.live.memory.quota f (Some frame) p (lent_out p us ts sharing id q f a x)

  turn : Turn p n us us x.live.memory.quota x.at
  turn = record { others = others; entries = none_enters_same x.at us }

  differs : (j : ℕ) (u : code.Tenant) (b : Live) → j ≢ x.at → LiesAt ts j u b → b.memory.quota ≢ x.live.memory.quota
  differs j u b d h = λ e. d (sharing.quotas j x.at u x.tenant b x.live h x.lies e)

  is_own : (j : ℕ) (u : code.Tenant) → j ≡ x.at → slice_get ts j ≡ Some u → x.tenant ≡ u
  is_own j u e h = some_same x.tenant u (sym x.lies.tenant ∙ ap (slice_get ts) (sym e) ∙ h)

  -- ---- what holds of all

  placed_lent : IsTenantMemory n us x.at x.tenant.pages x.live.memory
  placed_lent = record {
    space = space_framed p x.live.memory.quota x.live.memory.table x.tenant.pages q f a frame placed.space x.mapped;
    charged = placed.charged;
    counted = placed.counted;
    cached = cached_framed p x.live.memory.quota x.live.memory.table x.tenant.pages q f a frame placed.space x.mapped x.at us placed.cached;
    remembered = subst (λ m. IsRemembered m x.live.memory.remembered) (sym stays.pages) placed.remembered;
    some = placed.some;
    most = placed.most;
  }

  attrs_stay : (r : ℕ) → attrs_at (memory_at n x.live.memory x.tenant.pages) r ≡ attrs_at (memory_at p x.live.memory x.tenant.pages) r
  unfolding attrs_at
  attrs_stay r =
      ap attrs_cases (page_at-space n x.live.memory.table x.tenant.pages x.live.memory.state r)
      ∙ ap (λ m. attrs_cases (option_map (page_of n) (get m r))) stays.pages
      ∙ attrs_same p n (get (pages_of p x.live.memory.table.frame) r)
      ∙ sym (ap attrs_cases (page_at-space p x.live.memory.table x.tenant.pages x.live.memory.state r))

  left_stays : pages_left (memory_at n x.live.memory x.tenant.pages) ≡ pages_left (memory_at p x.live.memory x.tenant.pages)
  left_stays =
      pages_left-space n x.live.memory.table x.tenant.pages x.live.memory.state placed_lent.space.table.len_is
      ∙ sym (pages_left-space p x.live.memory.table x.tenant.pages x.live.memory.state placed.space.table.len_is)

  ready_lent : IsReady x.live.parts.value (memory_at n x.live.memory x.tenant.pages)
  ready_lent =
      let ready = sharing.ready x.at x.tenant x.live x.lies in
      record {
        heap = served-same (memory_at p x.live.memory x.tenant.pages) (memory_at n x.live.memory x.tenant.pages) x.live.parts.value.heap ready.heap attrs_stay left_stays;
        tag = ready.tag;
      }

  own : (b : Live) → x.tenant.holding ≡ kept.Live b → (b.memory.quota ≡ x.live.memory.quota) × IsTenantMemory n us x.at x.tenant.pages b.memory × IsReady b.parts.value (memory_at n b.memory x.tenant.pages)
  own b e =
      subst (λ (z : Live). (z.memory.quota ≡ x.live.memory.quota) × IsTenantMemory n us x.at x.tenant.pages z.memory × IsReady z.parts.value (memory_at n z.memory x.tenant.pages))
      (live_same x.live b (sym x.lies.live ∙ e)) (refl, placed_lent, ready_lent)

  pub lent_sharing : IsSharing (with_bytes_at p f ws) us ts
  lent_sharing =
      sharing_after p n us us ts ts x.live.memory.quota x.at x.tenant turn sharing (record { here = x.lies.tenant; other = λ j d. refl }) differs own
      (λ j u d at e. d (sharing.numbers j x.at u x.tenant at x.lies.tenant e)) sharing.cached sharing.reserved

  -- ---- the frames

  pages_lent : (i : ℕ) (t : code.Tenant) (b : Live) → LiesAt ts i t b → pages_of n b.memory.table.frame ≡ pages_of p b.memory.table.frame
  pages_lent i t b l = elim (cases_eq i x.at) [
    | inl e ↦
        let same : x.live ≡ b = live_same x.live b (sym x.lies.live ∙ ap (λ (w : code.Tenant). w.holding) (is_own i t e l.tenant) ∙ l.live) in
        subst (λ (z : Live). pages_of n z.memory.table.frame ≡ pages_of p z.memory.table.frame) same stays.pages
    | inr d ↦ (kept-others p n x.live.memory.quota b.memory.quota b.memory.table (differs i t b d l) others (sharing.placed i t b l).space.table).pages
  ]

  pub lent_frames : (j r : ℕ) → found_among (with_bytes_at p f ws) j r ts ≡ found_among p j r ts
  lent_frames j r = found_same p n j r ts pages_lent

  -- ---- the content

  module _ (sound : IsSound p) where
    memory_lent : memory_at n x.live.memory x.tenant.pages ≡ with_page_bytes (memory_at p x.live.memory x.tenant.pages) q ws
    unfolding with_page_bytes
    memory_lent =
        memory_framed p x.live.memory.quota x.live.memory.table x.tenant.pages q f a frame placed.space x.mapped x.live.memory.state sound
        ∙ sym (ap (with_bytes_of (memory_at p x.live.memory x.tenant.pages) q ws) (page_found p x.live.memory.table x.tenant.pages x.live.memory.state q f a x.mapped))

    tenant_lent : tenant_in n x.tenant ≡ tenant_after_write id q ws (tenant_in p x.tenant)
    tenant_lent =
        by_live n x.tenant x.live x.lies.live
        ∙ written_tenant id q x.tenant.pages ws x.live.parts.value (memory_at p x.live.memory x.tenant.pages) (memory_at n x.live.memory x.tenant.pages) (eq-eqb x.live.parts.value.history.id id (sym (ap (λ (r : Record). r.id) (live_record x.tenant x.live x.lies.live)) ∙ x.number)) memory_lent
        ∙ sym (ap (tenant_after_write id q ws) (by_live p x.tenant x.live x.lies.live))

    other_id : (j : ℕ) (u : code.Tenant) → j ≢ x.at → slice_get ts j ≡ Some u → ((record_in u).id == id) ≡ false
    other_id j u d at = ne_eqb (record_in u).id id (λ e. d (sharing.numbers j x.at u x.tenant at x.lies.tenant (e ∙ sym x.number)))

    lent_tenants : tenants_in n ts ≡ map (tenant_after_write id q ws) (tenants_in p ts)
    lent_tenants = map_each (tenant_in n) (tenant_in p) (tenant_after_write id q ws) ts (λ j u at. elim (cases_eq j x.at) [
      | inl e ↦ subst (λ (w : code.Tenant). tenant_in n w ≡ tenant_after_write id q ws (tenant_in p w)) (is_own j u e at) tenant_lent
      | inr d ↦
          tenant_stays p n us us ts x.live.memory.quota x.at j u turn sharing (λ b h. differs j u b d h) at
          ∙ sym (held_if ((record_in u).id == id) (tenant_in p u) (state_after_write q ws (tenant_in p u).held) (other_id j u d at))
    ])

    pub lent_content : content_in (with_bytes_at p f ws) ts ≡ after_write_of (content_in p ts) id q ws
    unfolding after_write_of
    lent_content =
        ap (λ (k : ℕ). let z : Content = record { frames = k; tenants = tenants_in n ts } in z) others.count
        ∙ ap (λ (l : List Tenant). let z : Content = record { frames = length p.frames; tenants = l } in z) lent_tenants

-- ---- whether one was found or not

module _ (p : Pool) (us : List Translation) (ts : List code.Tenant) (sharing : IsSharing p us ts) (id q : ℕ) (ws : List ℕ) where
  lent_by : (y : Option (ℕ × Attrs)) → found_among p id q ts ≡ y → IsSharing (with_bytes_at_cases p (option_map (λ z. z.0) y) ws) us ts
  lent_by None e = sharing
  lent_by (Some (f, a)) e = lent_sharing p us ts sharing id q f a (found_where p id q ts (f, a) e) ws

  pub sharing_lent : (o : Option ℕ) → o ≡ option_map (λ z. z.0) (found_among p id q ts) → IsSharing (with_bytes_at_cases p o ws) us ts
  sharing_lent o e = subst (λ z. IsSharing (with_bytes_at_cases p z ws) us ts) (sym e) (lent_by (found_among p id q ts) refl)

  content_by : (y : Option (ℕ × Attrs)) → found_among p id q ts ≡ y → (f : ℕ) → option_map {U = ℕ} (λ z. z.0) y ≡ Some f → IsSound p
      → content_in (with_bytes_at_cases p (option_map (λ z. z.0) y) ws) ts ≡ after_write_of (content_in p ts) id q ws
  content_by None e f k sound = absurd cc
  content_by (Some (g, a)) e f k sound = lent_content p us ts sharing id q g a (found_where p id q ts (g, a) e) ws sound

  pub content_lent : (o : Option ℕ) → o ≡ option_map (λ z. z.0) (found_among p id q ts) → (f : ℕ) → o ≡ Some f → IsSound p
      → content_in (with_bytes_at_cases p o ws) ts ≡ after_write_of (content_in p ts) id q ws
  content_lent o e f k sound =
      subst (λ z. content_in (with_bytes_at_cases p z ws) ts ≡ after_write_of (content_in p ts) id q ws) (sym e) (content_by (found_among p id q ts) refl f (sym e ∙ k) sound)

  frames_by : (y : Option (ℕ × Attrs)) → found_among p id q ts ≡ y → (j r : ℕ) → found_among (with_bytes_at_cases p (option_map (λ z. z.0) y) ws) j r ts ≡ found_among p j r ts
  frames_by None e j r = refl
  frames_by (Some (f, a)) e j r = lent_frames p us ts sharing id q f a (found_where p id q ts (f, a) e) ws j r

  pub frames_lent : (o : Option ℕ) → o ≡ option_map (λ z. z.0) (found_among p id q ts) → (j r : ℕ) → found_among (with_bytes_at_cases p o ws) j r ts ≡ found_among p j r ts
  frames_lent o e j r = subst (λ z. found_among (with_bytes_at_cases p z ws) j r ts ≡ found_among p j r ts) (sym e) (frames_by (found_among p id q ts) refl j r)

-- ---- what is lent

module _ (p : Pool) (us : List Translation) (ts : List code.Tenant) (sharing : IsSharing p us ts) (id q : ℕ) where
  taken_by_found : (y : Option (ℕ × Attrs)) → found_among p id q ts ≡ y → IfSome (option_map (λ z. z.0) y) (λ g. IsTaken p g)
  taken_by_found None e = tt
  taken_by_found (Some (f, a)) e = let x = found_where p id q ts (f, a) e in (x.live.memory.quota, lent_out p us ts sharing id q f a x)

  pub taken_lent : (o : Option ℕ) → o ≡ option_map (λ z. z.0) (found_among p id q ts) → IfSome o (λ g. IsTaken p g)
  taken_lent o e = subst (λ z. IfSome z (λ g. IsTaken p g)) (sym e) (taken_by_found (found_among p id q ts) refl)

bytes_by : (p : Pool) (y : Option (ℕ × Attrs)) → option_map (λ g. (frame_at p.frames g).bytes) (option_map (λ z. z.0) y) ≡ option_map (λ (r : Page). r.bytes) (option_map (page_of p) y)
bytes_by p None = refl
bytes_by p (Some x) = refl

pub bytes_lent : (p : Pool) (id q : ℕ) (ts : List code.Tenant) (o : Option ℕ) → o ≡ option_map (λ z. z.0) (found_among p id q ts)
    → option_map (λ g. (frame_at p.frames g).bytes) o ≡ option_map (λ (r : Page). r.bytes) (page_among id q (tenants_in p ts))
bytes_lent p id q ts o e =
    ap (option_map (λ g. (frame_at p.frames g).bytes)) e ∙ bytes_by p (found_among p id q ts) ∙ sym (ap (option_map (λ (r : Page). r.bytes)) (pages_found p id q ts))

pub where_lent : (X : Type 0) (r : Option (MutBor (List ℕ))) (o : Option ℕ) (g : ℕ → List ℕ) → option_copied_mut r ≡ option_map g o → ((f : ℕ) → o ≡ Some f → X) → OnSome r X
where_lent X None o g e h = tt
where_lent X (Some b) None g e h = absurd cc
where_lent X (Some b) (Some f) g e h = h f refl
