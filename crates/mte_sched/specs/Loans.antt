-- A host after a loan of the bytes of a page has ended.
use Rattle.std.specs.Prelude.{◌≡◌, ℕ, List, Option}
use Rattle.std.specs.Option.{OnSome}
use Rattle.std.specs.Borrow.{Fml, MutBor, LendsSo, Array, u8}
use Rattle.mte_frames.specs.Pool.{with_bytes_at_cases}
use Rattle.mte_sched.specs.declared.host.Host.{Host}
use Rattle.mte_sched.specs.contracts.host.Host.{the_row}
use Rattle.mte_sched.specs.Contents.{after_write_of}
use Rattle.mte_sched.specs.Hosts.{pool_of, content_of, frame_in, rooms_of}

-- From h to n each page is in the frame in which it was.
abbrev pub KeepsFrames : Host → Host → Type 0
KeepsFrames h n = (id q : ℕ) → frame_in n id q ≡ frame_in h id q

-- The bytes ws were left after the loan of the page q of the tenant with a number: they are its
-- frame's, and that page's in the tenant's machine. All else is as it was, and no list took memory.
pub record Wrote (h n : Host) (id q : ℕ) (ws : List ℕ) : Type 0 where
  pub content : content_of n ≡ after_write_of (content_of h) id q ws
  pub pool : pool_of n ≡ with_bytes_at_cases (pool_of h) (frame_in h id q) ws
  pub frames : KeepsFrames h n
  pub rooms : rooms_of n ≡ rooms_of h

-- Nothing was lent.
pub record Stayed (h n : Host) : Type 0 where
  pub content : content_of n ≡ content_of h
  pub pool : pool_of n ≡ pool_of h
  pub frames : KeepsFrames h n
  pub rooms : rooms_of n ≡ rooms_of h

-- A loan of the bytes of a page of a tenant; afterwards the host has the page written.
abbrev pub lends_page : MutBor Host → ℕ → ℕ → Option (MutBor (List ℕ)) → Fml
lends_page s id q r = LendsSo the_row (Array u8 0) s r
    (λ n ws. OnSome r (Wrote s.now n id q ws)) (Stayed s.now)
