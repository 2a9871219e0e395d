-- Lists of granules: an access to tags that is made in runs is the access to the list of its granules.
use Rattle.std.proofs.Common.{◌≡◌, ℕ, suc, zero, ◌+◌, ◌-◌, ◌*◌, ◌/◌, ◌%◌, ◌^◌, ◌<◌, ◌≤◌, Bool, true, false, cond, Option, Some, None, List, ◌∷◌, ◌++◌, refl, sym, ap, subst, ◌∙◌, arith}
use Rattle.mte_tags.specs.Memory.{Memory, Page, page_at, has, with_granule_cases, with_granule, with_granules, tag_at, tag_cases}
use Rattle.mte_tags.specs.Accesses.{addresses, granules, byte_fault, first_fault, or_else, fault, page_fault, fault_cases, AreMapped}
use Rattle.mte_tags.specs.declared.fault.FaultKind.TheVariants.{Permission}
use Rattle.mte_tags.specs.declared.fault.MemFault.{MemFault}
use Rattle.mte_tags.specs.declared.access.Access.{Access}
use Rattle.mte_tags.proofs.AddressLists.{first_fault-append, AreMapped-append, AreMapped-with_page}

wrap_zero : (a : ℕ) → a < 2 ^ 56 → (a + 16 * 0) % 2 ^ 56 ≡ a
wrap_zero a h = omega arith

wrap_one : (a n : ℕ) → ((a + 16) % 2 ^ 56 + 16 * n) % 2 ^ 56 ≡ (a + 16 * suc n) % 2 ^ 56
wrap_one a n = omega arith

wrap_low : (a : ℕ) → (a + 16) % 2 ^ 56 < 2 ^ 56
wrap_low a = omega arith

-- the granules of two runs
pub granules-append : (a n k : ℕ) → a < 2 ^ 56 → granules a (n + k) ≡ granules a n ++ granules ((a + 16 * n) % 2 ^ 56) k
unfolding granules
granules-append a zero k h = rw (wrap_zero a h) (ap (granules a) (let e : 0 + k ≡ k = omega arith in e))
granules-append a (suc n) k h =
    let e : suc n + k ≡ suc (n + k) = omega arith in
    ap (granules a) e ∙ ap (λ l. a ∷ l) (granules-append ((a + 16) % 2 ^ 56) n k (wrap_low a) ∙ ap (λ b. granules ((a + 16) % 2 ^ 56) n ++ granules b k) (wrap_one a n))

pub granules_run : (a n left : ℕ) → a < 2 ^ 56 → n ≤ left → granules a left ≡ granules a n ++ granules ((a + 16 * n) % 2 ^ 56) (left - n)
granules_run a n left h l = let e : left ≡ n + (left - n) = omega arith in ap (granules a) e ∙ granules-append a n (left - n) h

pub first_fault_granules : (m : Memory) (x : Access) (a n left : ℕ) → a < 2 ^ 56 → n ≤ left
    → first_fault m x (granules a left) ≡ or_else (first_fault m x (granules a n)) (first_fault m x (granules ((a + 16 * n) % 2 ^ 56) (left - n)))
first_fault_granules m x a n left h l = ap (first_fault m x) (granules_run a n left h l) ∙ first_fault-append m x (granules a n) _

pub AreMapped_granules : (m : Memory) (a n left : ℕ) → a < 2 ^ 56 → n ≤ left → AreMapped m (granules a left)
    → AreMapped m (granules a n) × AreMapped m (granules ((a + 16 * n) % 2 ^ 56) (left - n))
AreMapped_granules m a n left h l k = AreMapped-append m (granules a n) _ (subst (AreMapped m) (granules_run a n left h l) k)

without_check : (x : Access) (p : Page) (a : ℕ) → x.checked ≡ false → page_fault x p a ≡ cond (has p.attrs x.need) None (Some (fault Permission x a 0))
without_check x p a u = rw u refl

refused_alike : (h : Bool) (f g : MemFault) → cond h None (Some f) ≡ None → cond h None (Some g) ≡ None
refused_alike true f g e = refl
refused_alike false f g e = cc

-- without a tag check the places of one page fail alike
passes_alike : (x : Access) (p : Option Page) (a b : ℕ) → x.checked ≡ false → fault_cases x p a ≡ None → fault_cases x p b ≡ None
passes_alike x None a b u e = cc
passes_alike x (Some p) a b u e = without_check x p b u ∙ refused_alike (has p.attrs x.need) (fault Permission x a 0) (fault Permission x b 0) (sym (without_check x p a u) ∙ e)

byte_passes_alike : (m : Memory) (x : Access) (a b : ℕ) → x.checked ≡ false → b / 4096 ≡ a / 4096 → byte_fault m x a ≡ None → byte_fault m x b ≡ None
unfolding byte_fault
byte_passes_alike m x a b u q e = ap (λ k. fault_cases x (page_at m k) b) q ∙ passes_alike x (page_at m (a / 4096)) a b u e

granules_pass : (m : Memory) (x : Access) (a b n : ℕ) → x.checked ≡ false → byte_fault m x a ≡ None → 0 < n → b / 4096 ≡ a / 4096 → b % 16 ≡ 0 → b % 4096 + 16 * n ≤ 4096 → b < 2 ^ 56
    → first_fault m x (granules b n) ≡ None
unfolding first_fault granules
granules_pass m x a b zero u e s q g h t = refl
granules_pass m x a b (suc zero) u e s q g h t = ap (λ f. or_else f None) (byte_passes_alike m x a b u q e)
granules_pass m x a b (suc (suc n)) u e s q g h t =
    let next : (b + 16) % 2 ^ 56 ≡ b + 16 = omega arith in
    ap (λ f. or_else f (first_fault m x (granules ((b + 16) % 2 ^ 56) (suc n)))) (byte_passes_alike m x a b u q e)
    ∙ ap (λ c. first_fault m x (granules c (suc n))) next
    ∙ granules_pass m x a (b + 16) (suc n) u e (omega arith) (omega arith) (omega arith) (omega arith) (omega arith)

or_else_decides : (f g : Option MemFault) → (f ≡ None → g ≡ None) → or_else f g ≡ f
or_else_decides None g h = h refl
or_else_decides (Some f) g h = refl

or_else_none : (f : Option MemFault) → or_else f None ≡ f
or_else_none None = refl
or_else_none (Some f) = refl

-- a run of granules in one page fails as its first granule
pub first_fault_in_run : (m : Memory) (x : Access) (a n : ℕ) → x.checked ≡ false → 0 < n → a % 16 ≡ 0 → a % 4096 + 16 * n ≤ 4096 → a < 2 ^ 56
    → first_fault m x (granules a n) ≡ byte_fault m x a
unfolding first_fault granules
first_fault_in_run m x a zero u s g h t = absurd (omega arith)
first_fault_in_run m x a (suc zero) u s g h t = or_else_none (byte_fault m x a)
first_fault_in_run m x a (suc (suc n)) u s g h t =
    let next : (a + 16) % 2 ^ 56 ≡ a + 16 = omega arith in
    or_else_decides (byte_fault m x a) _ (λ e. ap (λ c. first_fault m x (granules c (suc n))) next ∙ granules_pass m x a (a + 16) (suc n) u e (omega arith) (omega arith) (omega arith) (omega arith) (omega arith))

pub first_fault_one : (m : Memory) (x : Access) (a : ℕ) → first_fault m x (addresses a 1) ≡ byte_fault m x a
unfolding first_fault addresses
first_fault_one m x a = or_else_none (byte_fault m x a)

-- the tags of two runs
pub with_granules-append : (m : Memory) (a n k t : ℕ) (z : Bool) → a < 2 ^ 56 → with_granules m a (n + k) t z ≡ with_granules (with_granules m a n t z) ((a + 16 * n) % 2 ^ 56) k t z
unfolding with_granules
with_granules-append m a zero k t z h = rw (wrap_zero a h) (ap (λ j. with_granules m a j t z) (let e : 0 + k ≡ k = omega arith in e))
with_granules-append m a (suc n) k t z h =
    let e : suc n + k ≡ suc (n + k) = omega arith in
    ap (λ j. with_granules m a j t z) e
    ∙ with_granules-append (with_granule m a t z) ((a + 16) % 2 ^ 56) n k t z (wrap_low a)
    ∙ ap (λ b. with_granules (with_granules (with_granule m a t z) ((a + 16) % 2 ^ 56) n t z) b k t z) (wrap_one a n)

pub with_granules_run : (m : Memory) (a n left t : ℕ) (z : Bool) → a < 2 ^ 56 → n ≤ left
    → with_granules m a left t z ≡ with_granules (with_granules m a n t z) ((a + 16 * n) % 2 ^ 56) (left - n) t z
with_granules_run m a n left t z h l = let e : left ≡ n + (left - n) = omega arith in ap (λ j. with_granules m a j t z) e ∙ with_granules-append m a n (left - n) t z h

kept_mapped : (m : Memory) (q g t : ℕ) (z : Bool) (p : Option Page) (ys : List ℕ) → AreMapped m ys → AreMapped (with_granule_cases m q g t z p) ys
kept_mapped m q g t z None ys h = h
kept_mapped m q g t z (Some p) ys h = AreMapped-with_page m q _ ys h

pub AreMapped-with_granules : (n : ℕ) (m : Memory) (a t : ℕ) (z : Bool) (ys : List ℕ) → AreMapped m ys → AreMapped (with_granules m a n t z) ys
unfolding with_granules with_granule
AreMapped-with_granules zero m a t z ys h = h
AreMapped-with_granules (suc n) m a t z ys h =
    AreMapped-with_granules n (with_granule m a t z) ((a + 16) % 2 ^ 56) t z ys (kept_mapped m (a / 4096) (a % 4096 / 16) t z (page_at m (a / 4096)) ys h)

-- the tag of a granule is that of each of its addresses
pub tag_at_granule : (m : Memory) (a : ℕ) → tag_at m (a / 16 * 16) ≡ tag_at m a
unfolding tag_at
tag_at_granule m a =
    let q : a / 16 * 16 / 4096 ≡ a / 4096 = omega arith in
    let g : a / 16 * 16 % 4096 / 16 ≡ a % 4096 / 16 = omega arith in
    ap (λ k. tag_cases (page_at m k) (a / 16 * 16 % 4096 / 16)) q ∙ ap (λ k. tag_cases (page_at m (a / 4096)) k) g

-- where granules that a page holds are asked at the first of them alone, the rest answers for all
pub first_fault_by_run : (m k : Memory) (x : Access) (a n left : ℕ) (f : Option MemFault) → f ≡ first_fault k x (addresses a 1) → k ≡ m
    → x.checked ≡ false → 0 < n → n ≤ left → a % 16 ≡ 0 → a % 4096 + 16 * n ≤ 4096 → a < 2 ^ 56
    → first_fault m x (granules a left) ≡ or_else f (first_fault m x (granules ((a + 16 * n) % 2 ^ 56) (left - n)))
first_fault_by_run m k x a n left f e s u h l g w t =
    let first : f ≡ first_fault m x (granules a n) =
    e ∙ ap (λ j. first_fault j x (addresses a 1)) s ∙ first_fault_one m x a ∙ sym (first_fault_in_run m x a n u h g w t) in
    first_fault_granules m x a n left t l ∙ ap (λ o. or_else o (first_fault m x (granules ((a + 16 * n) % 2 ^ 56) (left - n)))) (sym first)
