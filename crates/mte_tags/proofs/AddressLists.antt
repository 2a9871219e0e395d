-- Lists of addresses: an access that is made in runs is the access of the list of its bytes.
use Rattle.std.proofs.Common.{◌≡◌, ℕ, suc, zero, ◌+◌, ◌/◌, ◌%◌, ◌^◌, ◌<◌, ◌≤◌, Option, Some, None, Ok, Err, IsSome, List, [], ◌∷◌, ◌++◌, length, refl, sym, ap, ◌∙◌, inl, inr, arith}
use Rattle.std.proofs.lemmas.Bool.{cases_eq}
use Rattle.std.specs.List.{range_with_len}
use Rattle.mte_tags.specs.Memory.{Memory, Page, page_at, with_page, with_byte}
use Rattle.mte_tags.specs.Accesses.{addresses, byte_fault, first_fault, or_else, fault_cases, result_of, with_bytes, AreMapped}
use Rattle.mte_tags.specs.declared.fault.MemFault.{MemFault}
use Rattle.mte_tags.specs.declared.access.Access.{Access}
use Rattle.mte_tags.proofs.Pages.{page_at-with_page_same, page_at-with_page_other}

wrap_zero : (a : ℕ) → a < 2 ^ 56 → (a + 0) % 2 ^ 56 ≡ a
wrap_zero a h = omega arith

wrap_one : (a n : ℕ) → ((a + 1) % 2 ^ 56 + n) % 2 ^ 56 ≡ (a + suc n) % 2 ^ 56
wrap_one a n = omega arith

wrap_low : (a : ℕ) → (a + 1) % 2 ^ 56 < 2 ^ 56
wrap_low a = omega arith

-- the addresses of two runs
pub addresses-append : (a n k : ℕ) → a < 2 ^ 56 → addresses a (n + k) ≡ addresses a n ++ addresses ((a + n) % 2 ^ 56) k
unfolding addresses
addresses-append a zero k h = rw (wrap_zero a h) (ap (addresses a) (let e : 0 + k ≡ k = omega arith in e))
addresses-append a (suc n) k h =
    let e : suc n + k ≡ suc (n + k) = omega arith in
    ap (addresses a) e ∙ ap (λ l. a ∷ l) (addresses-append ((a + 1) % 2 ^ 56) n k (wrap_low a) ∙ ap (λ b. addresses ((a + 1) % 2 ^ 56) n ++ addresses b k) (wrap_one a n))

pub length-addresses : (a n : ℕ) → length (addresses a n) ≡ n
unfolding addresses
length-addresses a zero = refl
length-addresses a (suc n) = ap suc (length-addresses ((a + 1) % 2 ^ 56) n)

-- up to the last address they are consecutive numbers
pub addresses_flat : (a n : ℕ) → a + n ≤ 2 ^ 56 → addresses a n ≡ range_with_len a n
unfolding addresses
addresses_flat a zero h = refl
addresses_flat a (suc zero) h = refl
addresses_flat a (suc (suc n)) h =
    let e : (a + 1) % 2 ^ 56 ≡ a + 1 = omega arith in
    let l : a + 1 + suc n ≤ 2 ^ 56 = omega arith in
    ap (λ b. a ∷ addresses b (suc n)) e ∙ ap (λ l. a ∷ l) (addresses_flat (a + 1) (suc n) l)

pub addresses_in_page : (a n : ℕ) → a < 2 ^ 56 → a % 4096 + n ≤ 4096 → addresses a n ≡ range_with_len a n
addresses_in_page a n h p = addresses_flat a n (omega arith)

or_else_assoc : (f g h : Option MemFault) → or_else (or_else f g) h ≡ or_else f (or_else g h)
or_else_assoc None g h = refl
or_else_assoc (Some f) g h = refl

pub first_fault-append : (m : Memory) (x : Access) (xs ys : List ℕ) → first_fault m x (xs ++ ys) ≡ or_else (first_fault m x xs) (first_fault m x ys)
unfolding first_fault
first_fault-append m x [] ys = refl
first_fault-append m x (a ∷ xs) ys = ap (or_else (byte_fault m x a)) (first_fault-append m x xs ys) ∙ sym (or_else_assoc (byte_fault m x a) (first_fault m x xs) (first_fault m x ys))

-- where no byte fails each is mapped
mapped_of : (x : Access) (p : Option Page) (a : ℕ) → fault_cases x p a ≡ None → IsSome p
mapped_of x None a e = cc
mapped_of x (Some p) a e = refl

pub first_none : (f g : Option MemFault) → or_else f g ≡ None → (f ≡ None) × (g ≡ None)
first_none None g e = (refl, e)
first_none (Some f) g e = cc

pub AreMapped-from_first_fault : (m : Memory) (x : Access) (xs : List ℕ) → first_fault m x xs ≡ None → AreMapped m xs
unfolding first_fault byte_fault
AreMapped-from_first_fault m x [] e = tt
AreMapped-from_first_fault m x (a ∷ xs) e =
    let both = first_none (byte_fault m x a) (first_fault m x xs) e in
    (mapped_of x (page_at m (a / 4096)) a both.0, AreMapped-from_first_fault m x xs both.1)

pub AreMapped-append : (m : Memory) (xs ys : List ℕ) → AreMapped m (xs ++ ys) → AreMapped m xs × AreMapped m ys
AreMapped-append m [] ys h = (tt, h)
AreMapped-append m (a ∷ xs) ys h = let both = AreMapped-append m xs ys h.1 in ((h.0, both.0), both.1)

-- a page that is put in leaves each page mapped
pub AreMapped-with_page : (m : Memory) (q : ℕ) (p : Page) (xs : List ℕ) → AreMapped m xs → AreMapped (with_page m q p) xs
AreMapped-with_page m q p [] h = tt
AreMapped-with_page m q p (a ∷ xs) h = (
  elim (cases_eq (a / 4096) q) [
    | inl e ↦ rw (e, page_at-with_page_same m q p) refl
    | inr n ↦ rw (page_at-with_page_other m q p (a / 4096) n) h.0
  ],
  AreMapped-with_page m q p xs h.1,
)

pub with_bytes-append : (m : Memory) (xs ys bs cs : List ℕ) → length xs ≡ length bs → with_bytes m (xs ++ ys) (bs ++ cs) ≡ with_bytes (with_bytes m xs bs) ys cs
unfolding with_bytes
with_bytes-append m [] ys [] cs e = refl
with_bytes-append m [] ys (b ∷ bs) cs e = absurd (omega arith)
with_bytes-append m (x ∷ xs) ys [] cs e = absurd (omega arith)
with_bytes-append m (x ∷ xs) ys (b ∷ bs) cs e = with_bytes-append (with_byte m x b) xs ys bs cs (omega arith)

pub none_from_ok : (u : Unit {0}) (o : Option MemFault) → Ok u ≡ result_of o → o ≡ None
none_from_ok u None e = refl
none_from_ok u (Some f) e = cc

pub some_from_err : (f : MemFault) (o : Option MemFault) → Err f ≡ result_of o → o ≡ Some f
some_from_err f None e = cc
some_from_err f (Some g) e = cc
