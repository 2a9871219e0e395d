-- The content of the host.
use Rattle.std.specs.Prelude.{ℕ, Option, option_map, List, ◌∷◌, length, vec_capacity}
use Rattle.mte_frames.specs.Pool.{Pool}
use Rattle.mte_sched.specs.declared.host.Host.{Host}
use Rattle.mte_tenant.specs.Ledger.{LedgerEntry}
use Rattle.mte_sched.specs.Contents.{Content, ledger_of}
use Rattle.mte_sched.specs.Tenants.{tenants_in}
use Rattle.mte_sched.specs.Views.{found_among}

-- The frames that its tenants share.
abbrev pub pool_of : Host → Pool
pool_of h = h.pool

-- The content of a host.
abbrev pub content_of : Host → Content
content_of h =
    record { frames = length (pool_of h).frames; tenants = tenants_in (pool_of h) h.tenants.items }

-- The frame that holds the page q of the live tenant with a number.
abbrev pub frame_in : Host → ℕ → ℕ → Option ℕ
frame_in h id q = option_map (λ x. x.0) (found_among (pool_of h) id q h.tenants.items)

-- The ledger of a host.
abbrev pub ledger_in : Host → List LedgerEntry
ledger_in h = ledger_of (content_of h)

-- For how many elements the host's lists have memory: its tenants, their positions by number, and
-- its pool's four.
abbrev pub rooms_of : Host → List ℕ
rooms_of h =
    vec_capacity h.tenants ∷ vec_capacity h.index.positions ∷ (pool_of h).capacities
