-- One step of a loop over an access by runs.
use Rattle.std.proofs.Common.{◌≡◌, ℕ, ◌+◌, ◌-◌, ◌/◌, ◌%◌, ◌^◌, ◌<◌, ◌≤◌, true, false, Option, Some, None, IsSome, List, [], ◌∷◌, ◌++◌, length, take, drop, set, refl, sym, ap, subst, ◌∙◌, arith, append_assoc, eq-eqb}
use Rattle.std.proofs.lemmas.List.{map-append, length-take-le, length-drop, take-append-drop, drop-drop}
use Rattle.std.proofs.lemmas.Slice.{take-put_mid}
use borrow.Rule.Slice.PartMut.{put_mid}
use Rattle.std.specs.List.{slice_range}
use Rattle.std.specs.Int.Bits.{and_zero_r}
use Rattle.mte_tags.specs.Memory.{Memory, Page, page_at, with_byte_cases, with_byte, has}
use Rattle.mte_tags.specs.Accesses.{addresses, first_fault, byte_fault, fault_cases, or_else, bytes_at, with_bytes, AreMapped}
use Rattle.mte_tags.specs.declared.access.Access.{Access}
use Rattle.mte_tags.proofs.AddressLists.{addresses-append, length-addresses, first_fault-append, AreMapped-append, with_bytes-append, AreMapped-with_page}

-- an access is its first run and the rest
pub addresses_run : (a n left : ℕ) → a < 2 ^ 56 → n ≤ left → addresses a left ≡ addresses a n ++ addresses ((a + n) % 2 ^ 56) (left - n)
addresses_run a n left h l = let e : left ≡ n + (left - n) = omega arith in ap (addresses a) e ∙ addresses-append a n (left - n) h

pub first_fault_run : (m : Memory) (x : Access) (a n left : ℕ) → a < 2 ^ 56 → n ≤ left
    → first_fault m x (addresses a left) ≡ or_else (first_fault m x (addresses a n)) (first_fault m x (addresses ((a + n) % 2 ^ 56) (left - n)))
first_fault_run m x a n left h l = ap (first_fault m x) (addresses_run a n left h l) ∙ first_fault-append m x (addresses a n) _

pub bytes_at_run : (m : Memory) (a n left : ℕ) → a < 2 ^ 56 → n ≤ left
    → bytes_at m (addresses a left) ≡ bytes_at m (addresses a n) ++ bytes_at m (addresses ((a + n) % 2 ^ 56) (left - n))
unfolding bytes_at
bytes_at_run m a n left h l = ap (bytes_at m) (addresses_run a n left h l) ∙ map-append _ (addresses a n) _

pub AreMapped_run : (m : Memory) (a n left : ℕ) → a < 2 ^ 56 → n ≤ left → AreMapped m (addresses a left)
    → AreMapped m (addresses a n) × AreMapped m (addresses ((a + n) % 2 ^ 56) (left - n))
AreMapped_run m a n left h l k = AreMapped-append m (addresses a n) _ (subst (AreMapped m) (addresses_run a n left h l) k)

-- an access that asks for nothing but a mapped page has no fault where the pages are mapped
no_fault_in : (x : Access) (p : Option Page) (a : ℕ) → ((attrs : ℕ) → has attrs x.need ≡ true) → x.checked ≡ false → IsSome p → fault_cases x p a ≡ None
no_fault_in x None a n u h = cc
no_fault_in x (Some p) a n u h = rw (n p.attrs, u) refl

pub no_fault_mapped : (m : Memory) (x : Access) (xs : List ℕ) → ((attrs : ℕ) → has attrs x.need ≡ true) → x.checked ≡ false → AreMapped m xs → first_fault m x xs ≡ None
unfolding first_fault byte_fault
no_fault_mapped m x [] n u h = refl
no_fault_mapped m x (a ∷ xs) n u h =
    ap (λ f. or_else f (first_fault m x xs)) (no_fault_in x (page_at m (a / 4096)) a n u h.0) ∙ no_fault_mapped m x xs n u h.1

pub no_fault_where_mapped : (m : Memory) (x : Access) (xs : List ℕ) → x ≡ record { need = 0; write = false; checked = false; tag = 0 } → AreMapped m xs → first_fault m x xs ≡ None
no_fault_where_mapped m x xs e h =
    no_fault_mapped m x xs (λ attrs. ap (λ (y : Access). has attrs y.need) e ∙ eq-eqb _ _ (and_zero_r attrs)) (ap (λ (y : Access). y.checked) e) h

-- a run was copied out
pub copied_out : (m : Memory) (buffer piece : List ℕ) (done n total place : ℕ) → place < 2 ^ 56 → done + n ≤ total → length buffer ≡ total → length piece ≡ n → piece ≡ bytes_at m (addresses place n)
    → take (done + n) (put_mid done (done + n - done) buffer piece) ++ bytes_at m (addresses ((place + n) % 2 ^ 56) (total - (done + n))) ≡ take done buffer ++ bytes_at m (addresses place (total - done))
copied_out m buffer piece done n total place h l b k e =
    let t : total - (done + n) ≡ total - done - n = omega arith in
    let next = bytes_at m (addresses ((place + n) % 2 ^ 56) (total - done - n)) in
    ap (λ j. take (done + n) (put_mid done (done + n - done) buffer piece) ++ bytes_at m (addresses ((place + n) % 2 ^ 56) j)) t
    ∙ ap (λ xs. xs ++ next) (take-put_mid done (done + n - done) buffer piece (done + n) (omega arith) (omega arith))
    ∙ append_assoc (take done buffer) piece next
    ∙ ap (λ xs. take done buffer ++ (xs ++ next)) e
    ∙ ap (λ xs. take done buffer ++ xs) (sym (bytes_at_run m place n (total - done) h (omega arith)))

-- a run was copied in
pub copied_in : (m m' : Memory) (bytes : List ℕ) (done n place : ℕ) → place < 2 ^ 56 → done + n ≤ length bytes
    → m' ≡ with_bytes m (addresses place n) (slice_range bytes done (done + n))
    → with_bytes m' (addresses ((place + n) % 2 ^ 56) (length bytes - (done + n))) (drop (done + n) bytes) ≡ with_bytes m (addresses place (length bytes - done)) (drop done bytes)
copied_in m m' bytes done n place h l e =
    let t : length bytes - (done + n) ≡ length bytes - done - n = omega arith in
    let k : done + n - done ≡ n = omega arith in
    let rest = addresses ((place + n) % 2 ^ 56) (length bytes - done - n) in
    let room : n ≤ length (drop done bytes) = omega (arith, length-drop done bytes) in
    ap (λ j. with_bytes m' (addresses ((place + n) % 2 ^ 56) j) (drop (done + n) bytes)) t
    ∙ ap (λ r. with_bytes r rest (drop (done + n) bytes)) e
    ∙ ap (λ j. with_bytes (with_bytes m (addresses place n) (take j (drop done bytes))) rest (drop (done + n) bytes)) k
    ∙ ap (λ xs. with_bytes (with_bytes m (addresses place n) (take n (drop done bytes))) rest xs) (sym (drop-drop n done bytes))
    ∙ sym (with_bytes-append m (addresses place n) rest (take n (drop done bytes)) (drop n (drop done bytes)) (length-addresses place n ∙ sym (length-take-le n (drop done bytes) room)))
    ∙ ap (λ xs. with_bytes m (addresses place n ++ rest) xs) (take-append-drop n (drop done bytes))
    ∙ ap (λ xs. with_bytes m xs (drop done bytes)) (sym (addresses_run place n (length bytes - done) h (omega arith)))

pub length_range : (xs : List ℕ) (o n : ℕ) → o + n ≤ length xs → length (slice_range xs o (o + n)) ≡ n
length_range xs o n h =
    let k : o + n - o ≡ n = omega arith in
    ap (λ j. length (take j (drop o xs))) k ∙ length-take-le n (drop o xs) (omega (arith, length-drop o xs))

kept_mapped : (m : Memory) (q o b : ℕ) (p : Option Page) (ys : List ℕ) → AreMapped m ys → AreMapped (with_byte_cases m q o b p) ys
kept_mapped m q o b None ys h = h
kept_mapped m q o b (Some p) ys h = AreMapped-with_page m q (record p { bytes = set p.bytes o b }) ys h

pub AreMapped-with_bytes : (m : Memory) (xs ys bs : List ℕ) → AreMapped m ys → AreMapped (with_bytes m xs bs) ys
unfolding with_bytes with_byte
AreMapped-with_bytes m [] ys bs h = h
AreMapped-with_bytes m (x ∷ xs) ys [] h = h
AreMapped-with_bytes m (x ∷ xs) ys (b ∷ bs) h = AreMapped-with_bytes (with_byte m x b) xs ys bs (kept_mapped m (x / 4096) (x % 4096) b (page_at m (x / 4096)) ys h)
