-- A live tenant's memory after what is done to it.
use Rattle.std.proofs.Common.{◌≡◌, ℕ, zero, suc, ◌+◌, ◌-◌, ◌<◌, ◌≤◌, List, [], ◌∷◌, length, sum, get_or, slice_set, Option, refl, ap, sym, ◌∙◌, arith, inl, inr}
use Rattle.std.proofs.lemmas.Bool.{cases_eq}
use Rattle.std.proofs.lemmas.Grind.{same_number_lists}
use Rattle.common.specs.declared.limits.TheConstants.{MAX_PAGES}
use Rattle.mte_frames.specs.Pool.{Pool, make_pool, IsSound, KeepsOthers, taken_by, reserved_by}
use Rattle.mte_frames.proofs.Counts.{sum-set, within_of}
use Rattle.mte_translate.specs.Tables.{Root, pages_of, IsTable, IsCached}
use Rattle.mte_translate.specs.declared.translation.Translation.{Translation}
use Rattle.mte_translate.proofs.TableLemmas.{leaves-len}
use Rattle.mte_space.specs.Remembered.{IsRemembered}
use Rattle.mte_space.specs.Spaces.{IsSpace, KeepsRest}
use Rattle.mte_sched.specs.declared.memory.TenantMemory.{TenantMemory}
use Rattle.mte_tenant.specs.Ledger.{charge_of}
use Rattle.mte_sched.specs.Memories.{IsTenantMemory}

pub placed_after : (p n : Pool) (us vs : List Translation) (i pages : ℕ) (a b : TenantMemory) → IsTenantMemory p us i pages a
    → KeepsRest a.quota p n a.table b.table → b.quota ≡ a.quota → IsSpace n b.quota b.table pages → IsCached (pages_of n b.table.frame) i vs
    → IsRemembered (pages_of n b.table.frame) b.remembered → IsTenantMemory n vs i pages b
placed_after p n us vs i pages a b h rest same space cached remembered = record {
  space = space;
  charged = ap (reserved_by n) same ∙ rest.reserved ∙ h.charged;
  counted = ap (taken_by n) same ∙ rest.taken 1 h.counted;
  cached = cached;
  remembered = remembered;
  some = h.some;
  most = h.most;
}

-- What is reserved stays where the turn's own reservation does.
pub reserved_stays : (p n : Pool) (k : ℕ) → IsSound p → IsSound n → KeepsOthers k p n → reserved_by n k ≡ reserved_by p k → n.reserved ≡ p.reserved
reserved_stays p n k was is others own =
    same_number_lists n.reserved p.reserved (is.reserved_len ∙ others.count ∙ sym was.reserved_len)
    (λ j l. elim (cases_eq j k) [
      | inl e ↦ ap (reserved_by n) e ∙ own ∙ ap (reserved_by p) (sym e)
      | inr d ↦ (others.counts j d).0
    ])

-- ---- a memory that ends

zeroed : (ts : List ℕ) (k : ℕ) → get_or (slice_set ts k 0) k 0 ≡ 0
zeroed [] k = refl
zeroed (t ∷ ts) zero = refl
zeroed (t ∷ ts) (suc k) = zeroed ts k

-- Once no page is mapped, the root alone is out.
pub root_left : (p n : Pool) (us : List Translation) (i pages : ℕ) (a : TenantMemory) (u : Root) → IsTenantMemory p us i pages a
    → KeepsRest a.quota p n a.table u → IsTable n a.quota u → u.len ≡ 0 → taken_by n a.quota ≡ 1
root_left p n us i pages a u h rest table none =
    let few : u.leaves ≤ u.len = leaves-len n a.quota u table in
    let counted : taken_by n a.quota ≡ 1 + u.len + u.leaves = rest.taken 1 h.counted in
    omega (arith, few, counted, none)

pub none_left : (n m : Pool) (k : ℕ) (os : List (Option ℕ)) → taken_by n k ≡ 1 → m ≡ make_pool n.capacities n.frames os n.reserved (slice_set n.taken k (taken_by n k - 1)) → taken_by m k ≡ 0
none_left n m k os one e =
    let less : taken_by n k - 1 ≡ 0 = omega (arith, one) in
    ap (λ (x : Pool). taken_by x k) e ∙ ap (λ c. get_or (slice_set n.taken k c) k 0) less ∙ zeroed n.taken k

-- What is reserved after a release, and after a reservation.
pub sum_less : (p n m : Pool) (k c : ℕ) → 0 < c → reserved_by p k ≡ c → n.reserved ≡ p.reserved → m.reserved ≡ slice_set n.reserved k 0 → sum m.reserved + c ≡ sum p.reserved
sum_less p n m k c some own same e =
    let there : get_or n.reserved k 0 ≡ c = ap (λ l. get_or l k 0) same ∙ own in
    let inside : k < length n.reserved = within_of n.reserved k (omega (arith, there, some)) in
    omega (arith, sum-set n.reserved k 0 inside, there, ap sum e, ap sum same)

pub sum_more : (p m : Pool) (k c : ℕ) → k < length p.frames → IsSound p → reserved_by p k ≡ 0 → m.reserved ≡ slice_set p.reserved k c → sum m.reserved ≡ sum p.reserved + c
sum_more p m k c inside sound none e =
    let within : k < length p.reserved = omega (arith, inside, sound.reserved_len) in
    omega (arith, sum-set p.reserved k c within, none, ap sum e)

-- ---- a memory that begins

pub first_placed : (p n : Pool) (vs : List Translation) (i pages : ℕ) (a b : TenantMemory) → taken_by p a.quota ≡ 1 → reserved_by p a.quota ≡ charge_of pages
    → a.table.len ≡ 0 → a.table.leaves ≡ 0 → KeepsRest a.quota p n a.table b.table → b.quota ≡ a.quota → IsSpace n b.quota b.table pages → IsCached (pages_of n b.table.frame) i vs
    → IsRemembered (pages_of n b.table.frame) b.remembered → 0 < pages → pages ≤ MAX_PAGES → IsTenantMemory n vs i pages b
first_placed p n vs i pages a b taken charged len leaves rest same space cached remembered some most = record {
  space = space;
  charged = ap (reserved_by n) same ∙ rest.reserved ∙ charged;
  counted = ap (taken_by n) same ∙ rest.taken 1 (omega (arith, taken, len, leaves));
  cached = cached;
  remembered = remembered;
  some = some;
  most = most;
}
