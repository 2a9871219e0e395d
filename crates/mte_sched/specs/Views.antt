-- The view of a tenant in a host: its record, its pages, and the frames that hold them.
use Rattle.std.specs.Prelude.{◌≡◌, ℕ, ◌==◌, List, [], ◌∷◌, Option, Some, None, option_map}
use Rattle.std.specs.Prelude.{if◌then◌else◌}
use Rattle.std.specs.FinMap.{get}
use Rattle.mte_svc.specs.declared.record.Record.{Record}
use Rattle.mte_tags.specs.Memory.{Page, page_at}
use Rattle.mte_tags.specs.declared.attrs.Attrs.{Attrs}
use Rattle.mte_frames.specs.Pool.{Pool, IsTaken}
use Rattle.mte_translate.specs.Tables.{pages_of, IsSomeTable}
use Rattle.mte_space.specs.Spaces.{page_of}
use Rattle.mte_sched.specs.declared.tenant.Tenant as code
use Rattle.mte_sched.specs.declared.tenant.Holding.{Holding}
use Rattle.mte_sched.specs.declared.tenant.Holding.TheVariants as kept
use Rattle.mte_sched.specs.Tenants.{record_in}
use Rattle.mte_sched.specs.Contents.{TenantState, Live, Gone, Tenant, record_of}
use Rattle.mte_sched.specs.Isolation.{tenant_among}

-- The record of the tenant that was admitted with a number.
abbrev pub record_among : ℕ → List Tenant → Option Record
record_among id ts = option_map (λ t. record_of t.held) (tenant_among id ts)

-- A page of a tenant's machine; one that was stopped has none.
abbrev pub page_held : ℕ → TenantState → Option Page
page_held q (Live m) = page_at m.memory q
page_held q (Gone r) = None

-- The page q of the tenant that was admitted with a number.
abbrev pub page_among : ℕ → ℕ → List Tenant → Option Page
page_among id q [] = None
page_among id q (t ∷ more) = if t.id == id then page_held q t.held else page_among id q more

-- The frame and the attributes of a page of what is kept of a tenant.
abbrev pub find_page_cases : Pool → ℕ → Holding → Option (ℕ × Attrs)
find_page_cases p q (kept.Live l) = get (pages_of p l.memory.table.frame) q
find_page_cases p q (kept.Gone r) = None

-- A live tenant has a table.
abbrev pub HasSomeTable : Pool → Holding → Type 0
HasSomeTable p (kept.Live l) = IsSomeTable p l.memory.table
HasSomeTable p (kept.Gone r) = Unit {0}

-- And of the page q of the tenant that was admitted with a number.
abbrev pub found_among : Pool → ℕ → ℕ → List code.Tenant → Option (ℕ × Attrs)
found_among p id q [] = None
found_among p id q (t ∷ more) =
    if (record_in t).id == id then find_page_cases p q t.holding else found_among p id q more

-- The frame f is out, and a page is what it holds.
pub record Holds (p : Pool) (f : ℕ) (page : Option Page) : Type 0 where
  pub out : IsTaken p f
  pub attrs : Attrs
  pub page_is : page ≡ Some (page_of p (f, attrs))
