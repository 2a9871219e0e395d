-- The state that a call keeps besides the memory: no call keeps it, and one call after another
-- does.
use Rattle.std.specs.Prelude.{Contains}
use Rattle.std.proofs.Common.{◌≢◌, ◌∙◌, ℕ, List, subst, refl}
use Rattle.std.proofs.lemmas.List.Elements.{All-weaker, All-contains, All-contains_itself}
use Rattle.mte_frames.specs.Pool.{Pool}
use Rattle.mte_frames.proofs.Keeps.{keeps_self, keeps_on}
use Rattle.mte_translate.specs.Tables.{Root}
use Rattle.mte_translate.specs.declared.translation.Translation.{Translation}
use Rattle.mte_space.specs.Spaces.{KeepsRest, NoneEnters}
use Rattle.mte_space.specs.SpaceMemory.{IsKept, SameBorrows}
use Rattle.mte_space.specs.declared.space.Space.{Space}

-- A call that does nothing leaves the rest.
pub rest_same : (k : ℕ) (p : Pool) (t : Root) → KeepsRest k p p t t
rest_same k p t =
    record {
      others = keeps_self k p;
      reserved = refl;
      capacities = refl;
      root = refl;
      taken = λ x e. e;
    }

-- Two calls that leave the rest leave it together.
pub rest_on :
    (k : ℕ) (p n m : Pool) (t u v : Root) → KeepsRest k p n t u → KeepsRest k n m u v
    → KeepsRest k p m t v
rest_on k p n m t u v a b = record {
  others = keeps_on k p n m a.others b.others;
  reserved = b.reserved ∙ a.reserved;
  capacities = b.capacities ∙ a.capacities;
  root = b.root ∙ a.root;
  taken = λ x e. b.taken x (a.taken x e);
}

-- No translation comes into a buffer that stays.
pub none_enters_same : (asid : ℕ) (ts : List Translation) → NoneEnters asid ts ts
none_enters_same asid ts =
    All-weaker (Contains ts) (λ u. u.asid ≢ asid → Contains ts u) (λ u c d. c) ts
    (All-contains_itself ts)

-- No translation comes in by two calls by which none does.
pub none_enters_on :
    (asid : ℕ) (ts us vs : List Translation) → NoneEnters asid ts us → NoneEnters asid us vs
    → NoneEnters asid ts vs
none_enters_on asid ts us vs h k =
    All-weaker (λ v. v.asid ≢ asid → Contains us v) (λ v. v.asid ≢ asid → Contains ts v)
    (λ v c d. All-contains (λ u. u.asid ≢ asid → Contains ts u) us v h (c d) d) vs k

-- The borrows are those that they are.
pub same_borrows : (a : Space) → SameBorrows a a
same_borrows a =
    record {
      pool = refl;
      table = refl;
      quota = refl;
      tlb = refl;
      state = refl;
      remembered = refl;
    }

-- A call that does nothing keeps a space.
pub kept_same : (a : Space) → IsKept a a
kept_same a = record {
  borrows = same_borrows a;
  asid = refl;
  limit = refl;
  quota = refl;
  rest = rest_same a.quota.now a.pool.now a.table.now;
  entries = none_enters_same a.asid a.tlb.now;
}

-- Two calls that keep a space keep it together.
pub kept_on : (a b c : Space) → IsKept a b → IsKept b c → IsKept a c
kept_on a b c h k = record {
  borrows = record {
    pool = k.borrows.pool ∙ h.borrows.pool;
    table = k.borrows.table ∙ h.borrows.table;
    quota = k.borrows.quota ∙ h.borrows.quota;
    tlb = k.borrows.tlb ∙ h.borrows.tlb;
    state = k.borrows.state ∙ h.borrows.state;
    remembered = k.borrows.remembered ∙ h.borrows.remembered;
  };
  asid = k.asid ∙ h.asid;
  limit = k.limit ∙ h.limit;
  quota = k.quota ∙ h.quota;
  rest =
      rest_on a.quota.now a.pool.now b.pool.now c.pool.now a.table.now b.table.now c.table.now
      h.rest
      (subst (λ q. KeepsRest q b.pool.now c.pool.now b.table.now c.table.now) h.quota k.rest);
  entries = none_enters_on a.asid a.tlb.now b.tlb.now c.tlb.now h.entries
      (subst (λ i. NoneEnters i b.tlb.now c.tlb.now) h.asid k.entries);
}
