-- What bytes and tags a memory has after bytes or tags of it were changed, and that faults see only attributes and tags.
use Rattle.std.proofs.Common.{◌≡◌, ◌≢◌, ℕ, suc, zero, ◌+◌, ◌/◌, ◌%◌, ◌^◌, ◌<◌, ◌≤◌, Option, Some, None, IsSome, List, [], ◌∷◌, length, set, get_or, slice_index, map, refl, sym, ap, ◌∙◌, inl, inr, arith, get_or-set_same, get_or-set_other}
use Rattle.std.proofs.lemmas.Bool.{cases_eq}
use Rattle.std.proofs.lemmas.List.{ext_get_or}
use Rattle.a64_bits.specs.Addresses.{plain}
use Rattle.mte_tags.specs.Memory.{Memory, Page, page_at, with_page, byte_cases, byte_at, with_byte_cases, with_byte, tag_cases, tag_at}
use Rattle.mte_tags.specs.Accesses.{addresses, bytes_at, read_bytes, with_bytes, with_bytes_at, AreMapped, IsMapped}
use Rattle.mte_tags.proofs.Pages.{page_at-with_page_same, page_at-with_page_other}
use Rattle.mte_tags.specs.Whole.{IsWhole}
use Rattle.mte_tags.proofs.Whole.{whole-with_byte}

-- one byte
byte_other_in : (m : Memory) (a b c : ℕ) (p : Option Page) → page_at m (a / 4096) ≡ p → c ≢ a → byte_cases (page_at (with_byte_cases m (a / 4096) (a % 4096) b p) (c / 4096)) (c % 4096) ≡ byte_cases (page_at m (c / 4096)) (c % 4096)
byte_other_in m a b c None e n = refl
byte_other_in m a b c (Some p) e n = elim (cases_eq (c / 4096) (a / 4096)) [
  | inl q ↦
      let new : Page = record p { bytes = set p.bytes (a % 4096) b } in
      let o : c % 4096 ≢ a % 4096 = λ f. n (omega arith) in
      ap (λ k. byte_cases (page_at (with_page m (a / 4096) new) k) (c % 4096)) q
      ∙ ap (λ r. byte_cases r (c % 4096)) (page_at-with_page_same m (a / 4096) new)
      ∙ get_or-set_other p.bytes (a % 4096) (c % 4096) b 0 o
      ∙ sym (ap (λ k. byte_cases (page_at m k) (c % 4096)) q ∙ ap (λ r. byte_cases r (c % 4096)) e)
  | inr q ↦ ap (λ r. byte_cases r (c % 4096)) (page_at-with_page_other m (a / 4096) _ (c / 4096) q)
]

pub byte_at-with_byte_other : (m : Memory) (a b c : ℕ) → c ≢ a → byte_at (with_byte m a b) c ≡ byte_at m c
unfolding byte_at with_byte
byte_at-with_byte_other m a b c n = byte_other_in m a b c (page_at m (a / 4096)) refl n

byte_same_in : (m : Memory) (a b : ℕ) (p : Option Page) → page_at m (a / 4096) ≡ p → IsSome p → IsWhole m → byte_cases (page_at (with_byte_cases m (a / 4096) (a % 4096) b p) (a / 4096)) (a % 4096) ≡ b
byte_same_in m a b None e s h = cc
byte_same_in m a b (Some p) e s h =
    let w = h.pages (a / 4096) p e in
    ap (λ r. byte_cases r (a % 4096)) (page_at-with_page_same m (a / 4096) _) ∙ get_or-set_same p.bytes (a % 4096) b 0 (omega (arith, w.bytes))

pub byte_at-with_byte_same : (m : Memory) (a b : ℕ) → IsSome (page_at m (a / 4096)) → IsWhole m → byte_at (with_byte m a b) a ≡ b
unfolding byte_at with_byte
byte_at-with_byte_same m a b s h = byte_same_in m a b (page_at m (a / 4096)) refl s h

-- a page that is mapped stays mapped
mapped_in : (m : Memory) (q o b r : ℕ) (p : Option Page) → IsSome (page_at m r) → IsSome (page_at (with_byte_cases m q o b p) r)
mapped_in m q o b r None h = h
mapped_in m q o b r (Some p) h = elim (cases_eq r q) [
  | inl e ↦ rw (e, page_at-with_page_same m q) refl
  | inr n ↦ rw (page_at-with_page_other m q _ r n) h
]

pub mapped-with_byte : (m : Memory) (a b r : ℕ) → IsSome (page_at m r) → IsSome (page_at (with_byte m a b) r)
unfolding with_byte
mapped-with_byte m a b r h = mapped_in m (a / 4096) (a % 4096) b r (page_at m (a / 4096)) h

AreMapped-with_byte : (m : Memory) (a b : ℕ) (xs : List ℕ) → AreMapped m xs → AreMapped (with_byte m a b) xs
AreMapped-with_byte m a b [] h = tt
AreMapped-with_byte m a b (x ∷ xs) h = (mapped-with_byte m a b (x / 4096) h.0, AreMapped-with_byte m a b xs h.1)

-- bytes that were written leave the others
others_kept : (bs : List ℕ) (m : Memory) (a c : ℕ) → a < 2 ^ 56 → ((i : ℕ) → i < length bs → c ≢ (a + i) % 2 ^ 56) → byte_at (with_bytes m (addresses a (length bs)) bs) c ≡ byte_at m c
unfolding with_bytes addresses
others_kept [] m a c u n = refl
others_kept (b ∷ bs) m a c u n =
    let first : c ≢ a = λ e. n 0 (omega arith) (e ∙ omega arith) in
    others_kept bs (with_byte m a b) ((a + 1) % 2 ^ 56) c (omega arith) (λ i l e. n (i + 1) (omega arith) (e ∙ omega arith))
    ∙ byte_at-with_byte_other m a b c first

pub byte_at-written_other : (m : Memory) (a : ℕ) (bs : List ℕ) (c : ℕ) → ((i : ℕ) → i < length bs → c ≢ (plain a + i) % 2 ^ 56) → byte_at (with_bytes_at m a bs) c ≡ byte_at m c
unfolding with_bytes_at
byte_at-written_other m a bs c n = others_kept bs m (plain a) c (omega arith) n

-- bytes that were written are there
written_there : (bs : List ℕ) (m : Memory) (a i : ℕ) → a < 2 ^ 56 → length bs ≤ 2 ^ 56 → i < length bs → AreMapped m (addresses a (length bs)) → IsWhole m
    → byte_at (with_bytes m (addresses a (length bs)) bs) ((a + i) % 2 ^ 56) ≡ slice_index bs i
unfolding with_bytes addresses
written_there [] m a i u v l h w = absurd (omega arith)
written_there (b ∷ bs) m a zero u v l h w =
    let at : (a + 0) % 2 ^ 56 ≡ a = omega arith in
    ap (byte_at (with_bytes (with_byte m a b) (addresses ((a + 1) % 2 ^ 56) (length bs)) bs)) at
    ∙ others_kept bs (with_byte m a b) ((a + 1) % 2 ^ 56) a (omega arith) (λ i k e. omega arith)
    ∙ byte_at-with_byte_same m a b h.0 w
written_there (b ∷ bs) m a (suc i) u v l h w =
    let at : (a + suc i) % 2 ^ 56 ≡ ((a + 1) % 2 ^ 56 + i) % 2 ^ 56 = omega arith in
    ap (byte_at (with_bytes (with_byte m a b) (addresses ((a + 1) % 2 ^ 56) (length bs)) bs)) at
    ∙ written_there bs (with_byte m a b) ((a + 1) % 2 ^ 56) i (omega arith) (omega arith) (omega arith) (AreMapped-with_byte m a b _ h.1) (whole-with_byte m a b w)

pub byte_at-written_same : (m : Memory) (a : ℕ) (bs : List ℕ) (i : ℕ) → length bs ≤ 2 ^ 56 → i < length bs → IsMapped m a (length bs) → IsWhole m → byte_at (with_bytes_at m a bs) ((plain a + i) % 2 ^ 56) ≡ slice_index bs i
unfolding with_bytes_at
byte_at-written_same m a bs i v l h w = written_there bs m (plain a) i (omega arith) v l h w

length_bytes : (m : Memory) (a n : ℕ) → length (map (byte_at m) (addresses a n)) ≡ n
unfolding addresses
length_bytes m a zero = refl
length_bytes m a (suc n) = ap suc (length_bytes m ((a + 1) % 2 ^ 56) n)

byte_of : (m : Memory) (a n i : ℕ) → a < 2 ^ 56 → i < n → get_or (map (byte_at m) (addresses a n)) i 0 ≡ byte_at m ((a + i) % 2 ^ 56)
unfolding addresses
byte_of m a zero i u l = absurd (omega arith)
byte_of m a (suc n) zero u l = let at : a ≡ (a + 0) % 2 ^ 56 = omega arith in ap (byte_at m) at
byte_of m a (suc n) (suc i) u l = let at : ((a + 1) % 2 ^ 56 + i) % 2 ^ 56 ≡ (a + suc i) % 2 ^ 56 = omega arith in byte_of m ((a + 1) % 2 ^ 56) n i (omega arith) (omega arith) ∙ ap (byte_at m) at

pub length-read_bytes : (m : Memory) (a n : ℕ) → length (read_bytes m a n) ≡ n
unfolding read_bytes bytes_at
length-read_bytes m a n = length_bytes m (plain a) n

-- each byte that is read
pub read_bytes-at : (m : Memory) (a n i : ℕ) → i < n → slice_index (read_bytes m a n) i ≡ byte_at m ((plain a + i) % 2 ^ 56)
unfolding read_bytes bytes_at
read_bytes-at m a n i l = byte_of m (plain a) n i (omega arith) l

-- what was written is read
pub read_bytes-with-bytes-at : (m : Memory) (a : ℕ) (bs : List ℕ) → length bs ≤ 2 ^ 56 → IsMapped m a (length bs) → IsWhole m → read_bytes (with_bytes_at m a bs) a (length bs) ≡ bs
read_bytes-with-bytes-at m a bs v h w =
    let long = length-read_bytes (with_bytes_at m a bs) a (length bs) in
    ext_get_or 0 _ _ long
    (λ i l. let k : i < length bs = omega arith in read_bytes-at (with_bytes_at m a bs) a (length bs) i k ∙ byte_at-written_same m a bs i v k h w)

-- two reads of the same bytes
pub read_bytes-same : (m m' : Memory) (a n : ℕ) → ((i : ℕ) → i < n → byte_at m ((plain a + i) % 2 ^ 56) ≡ byte_at m' ((plain a + i) % 2 ^ 56)) → read_bytes m a n ≡ read_bytes m' a n
read_bytes-same m m' a n h =
    let long = length-read_bytes m a n in
    ext_get_or 0 _ _ (long ∙ sym (length-read_bytes m' a n))
    (λ i l. let k : i < n = omega arith in read_bytes-at m a n i k ∙ h i k ∙ sym (read_bytes-at m' a n i k))

-- a tag after a byte was written
tag_kept_in : (m : Memory) (q o b c : ℕ) (p : Option Page) → page_at m q ≡ p → tag_cases (page_at (with_byte_cases m q o b p) (c / 4096)) (c % 4096 / 16) ≡ tag_cases (page_at m (c / 4096)) (c % 4096 / 16)
tag_kept_in m q o b c None e = refl
tag_kept_in m q o b c (Some p) e =
    let new : Page = record p { bytes = set p.bytes o b } in
    elim (cases_eq (c / 4096) q) [
      | inl f ↦
          ap (λ k. tag_cases (page_at (with_page m q new) k) (c % 4096 / 16)) f ∙ ap (λ r. tag_cases r (c % 4096 / 16)) (page_at-with_page_same m q new)
          ∙ sym (ap (λ k. tag_cases (page_at m k) (c % 4096 / 16)) f ∙ ap (λ r. tag_cases r (c % 4096 / 16)) e)
      | inr n ↦ ap (λ r. tag_cases r (c % 4096 / 16)) (page_at-with_page_other m q new (c / 4096) n)
    ]

pub tag_at-with_bytes : (xs bs : List ℕ) (m : Memory) (c : ℕ) → tag_at (with_bytes m xs bs) c ≡ tag_at m c
unfolding with_bytes with_byte tag_at
tag_at-with_bytes (a ∷ more) (b ∷ bs) m c = tag_at-with_bytes more bs (with_byte m a b) c ∙ tag_kept_in m (a / 4096) (a % 4096) b c (page_at m (a / 4096)) refl
tag_at-with_bytes [] bs m c = refl
tag_at-with_bytes (a ∷ more) [] m c = refl

pub tag_at-with-bytes-at : (m : Memory) (a : ℕ) (bs : List ℕ) (c : ℕ) → tag_at (with_bytes_at m a bs) c ≡ tag_at m c
unfolding with_bytes_at
tag_at-with-bytes-at m a bs c = tag_at-with_bytes _ bs m c
