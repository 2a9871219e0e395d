-- A read that compares no tags leaves the memory as it was.
use Rattle.std.proofs.Common.{◌≡◌, ℕ, List, [], ◌∷◌, Option, Some, None, Bool, true, false, refl, ◌∙◌, ◌/◌, if◌then◌else◌}
use Rattle.mte_tags.specs.declared.state.TagMode.{TagMode}
use Rattle.mte_tags.specs.declared.state.TagMode.TheVariants.{Sync, Async}
use Rattle.mte_tags.specs.Memory.{Memory, Page, page_at}
use Rattle.mte_tags.specs.Accesses.{differs_cases, has_mismatch, access_cases, after_access, after_read, read_access}

differs-unchecked : (need a b : ℕ) (w : Bool) (p : Option Page)
    → differs_cases (record { need = need; write = w; checked = false; tag = a }) p b ≡ false
differs-unchecked need a b w None = refl
differs-unchecked need a b w (Some p) = refl

mismatch-unchecked : (m : Memory) (need a : ℕ) (w : Bool) (xs : List ℕ)
    → has_mismatch m (record { need = need; write = w; checked = false; tag = a }) xs ≡ false
unfolding has_mismatch
mismatch-unchecked m need a w [] = refl
mismatch-unchecked m need a w (x ∷ xs) =
    rw (differs-unchecked need a x w (page_at m (x / 4096))) (mismatch-unchecked m need a w xs)

pending-unchecked : (mode : TagMode) (m : Memory) (a : ℕ) (xs : List ℕ) → (access_cases mode m (read_access a false) xs).pending ≡ false
pending-unchecked Sync m a xs = refl
pending-unchecked Async m a xs = mismatch-unchecked m _ _ _ xs

after_read-without-check : (m : Memory) (a n : ℕ) → after_read m a n false ≡ m
unfolding after_read after_access
after_read-without-check m a n = rw (pending-unchecked m.state.mode m a _) refl

pub kept : (m n : Memory) (a count : ℕ) (b : Bool) → n ≡ (if b then after_read m a count false else m) → n ≡ m
kept m n a count true e = e ∙ after_read-without-check m a count
kept m n a count false e = e
