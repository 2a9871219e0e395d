-- Whether the pages of a run of bytes are mapped, one byte at a time.
use Rattle.std.proofs.Common.{◌≡◌, ℕ, zero, suc, ◌+◌, ◌-◌, ◌<◌, ◌/◌, ◌%◌, ◌^◌, ◌∙◌, ◌&&◌, List, [], ◌∷◌, ap, sym, arith, true, false, is_some}
use Rattle.mte_tags.specs.Memory.{Memory, page_at}
use Rattle.mte_script.proofs.ScriptLemmas.{both_true}
use Rattle.mte_tags.specs.Accesses.{addresses, AreMapped}
use Rattle.tombolopan_c.specs.MemoryCodes.{all_mapped}

pub mapped_next :
    (m : Memory) (a n : ℕ) → 0 < n → is_some (page_at m (a / 4096)) ≡ true
    → all_mapped m (addresses a n) ≡ all_mapped m (addresses ((a + 1) % 2 ^ 56) (n - 1))
unfolding addresses
mapped_next m a zero h e = absurd (omega arith)
mapped_next m a (suc n) h e =
    let k : suc n - 1 ≡ n = omega arith in
    ap (λ b. b && all_mapped m (addresses ((a + 1) % 2 ^ 56) n)) e
    ∙ ap (λ j. all_mapped m (addresses ((a + 1) % 2 ^ 56) j)) (sym k)

pub mapped_not :
    (m : Memory) (a n : ℕ) → 0 < n → is_some (page_at m (a / 4096)) ≡ false
    → all_mapped m (addresses a n) ≡ false
unfolding addresses
mapped_not m a zero h e = absurd (omega arith)
mapped_not m a (suc n) h e = ap (λ b. b && all_mapped m (addresses ((a + 1) % 2 ^ 56) n)) e

pub mapped_none : (m : Memory) (a n : ℕ) → n ≡ 0 → all_mapped m (addresses a n) ≡ true
unfolding addresses
mapped_none m a n e = ap (λ k. all_mapped m (addresses a k)) e

-- of a list of addresses
pub are_all : (m : Memory) (at : List ℕ) → all_mapped m at ≡ true → AreMapped m at
are_all m [] e = tt
are_all m (a ∷ more) e =
    let both = both_true (is_some (page_at m (a / 4096))) (all_mapped m more) e in
    (both.0, are_all m more both.1)
