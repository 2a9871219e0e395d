-- A header of which one byte was changed has not its checksum.
use Rattle.std.proofs.Common.{◌≡◌, ◌≢◌, ℕ, zero, suc, ◌+◌, ◌-◌, ◌*◌, ◌/◌, ◌%◌, ◌^◌, ◌<◌, ◌≤◌, ◌==◌, ◌&&◌, nat_le, Bool, true, false, cond, List, [], ◌∷◌, Option, Some, None, Ok, Err, refl, sym, ap, ◌∙◌, inl, inr, arith}
use Rattle.std.proofs.lemmas.Bool.{cond-true, cond-false, cases_lt}
use Rattle.std.proofs.lemmas.Bool.Decides.{nat_tests}
use Rattle.std.proofs.lemmas.List.Sums.{fold-append}
use Rattle.std.specs.Int.{to_le_bytes, w64}
use Rattle.std.specs.List.{fold}
use Rattle.a64_bits.specs.Addresses.{plain}
use Rattle.a64_bits.specs.Fields.{field_of}
use Rattle.mte_tags.specs.Memory.{Memory, page_has, has_cases}
use Rattle.common.specs.declared.limits.TheConstants.{PAGE_SIZE}
use Rattle.scudo_header.specs.Headers.{with_byte, checksum_of, header_of, unpacked_header}
use Rattle.scudo_header.specs.declared.headers.Header.{Header}
use Rattle.scudo_heap.specs.declared.abort.HeapAbort.TheVariants.{HeaderCorrupt, Unmapped, Misaligned}
use Rattle.scudo_heap.specs.declared.chunk.Found.{Found}
use Rattle.scudo_heap.specs.Heaps.{HeapState}
use Rattle.scudo_heap.specs.Checks.{header_at, is_mapped, check_header, check_pointer}
use Rattle.mte_laws.specs.CarefulRuns.{State, found_at, IsQuiet}
use Rattle.mte_laws.specs.ChangedHeaders.{byte_of, DifferInOneByte, header_word_at, ChangedHeadersAreRefused}
use Rattle.mte_laws.proofs.Frees.{aborted-by}

-- ---- sums that differ stay different

rotated : (s t b : ℕ) → s < 2 ^ 16 → t < 2 ^ 16 → with_byte s b ≡ with_byte t b → s ≡ t
rotated s t b u v e = omega arith

added : (s a b : ℕ) → a < 256 → b < 256 → with_byte s a ≡ with_byte s b → a ≡ b
added s a b u v e = omega arith

small : (s b : ℕ) → with_byte s b < 2 ^ 16
small s b = omega arith

apart : (s t : ℕ) (bytes : List ℕ) → s < 2 ^ 16 → t < 2 ^ 16 → fold with_byte s bytes ≡ fold with_byte t bytes → s ≡ t
apart s t [] u v e = e
apart s t (b ∷ more) u v e = rotated s t b u v (apart (with_byte s b) (with_byte t b) more (small s b) (small t b) e)

-- another byte, and then the same ones
byte-apart : (s a b : ℕ) (bytes : List ℕ) → a < 256 → b < 256 → fold with_byte (with_byte s a) bytes ≡ fold with_byte (with_byte s b) bytes → a ≡ b
byte-apart s a b bytes u v e = added s a b u v (apart (with_byte s a) (with_byte s b) bytes (small s a) (small s b) e)

-- ---- the checksum of a word, by its six lowest bytes

abbrev sum_of : ℕ → ℕ → ℕ → ℕ → ℕ → ℕ → ℕ → ℕ
sum_of s a b c d e f = fold with_byte s (a ∷ b ∷ c ∷ d ∷ e ∷ f ∷ 0 ∷ 0 ∷ [])

abbrev start_of : ℕ → ℕ → ℕ
start_of cookie pointer = fold with_byte (cookie % 2 ^ 16) (to_le_bytes w64 (plain pointer))

bytes-are : (s word : ℕ) → fold with_byte s (to_le_bytes w64 (word % 2 ^ 48)) ≡ sum_of s (byte_of word 0) (byte_of word 1) (byte_of word 2) (byte_of word 3) (byte_of word 4) (byte_of word 5)
bytes-are s word =
    let w = word % 2 ^ 48 in
    let a : w % 256 ≡ word / 1 % 256 = omega arith in
    let b : w / 256 % 256 ≡ word / 256 % 256 = omega arith in
    let c : w / 65536 % 256 ≡ word / 65536 % 256 = omega arith in
    let d : w / 16777216 % 256 ≡ word / 16777216 % 256 = omega arith in
    let e : w / 4294967296 % 256 ≡ word / 4294967296 % 256 = omega arith in
    let f : w / 1099511627776 % 256 ≡ word / 1099511627776 % 256 = omega arith in
    let g : w / 281474976710656 % 256 ≡ 0 = omega arith in
    let h : w / 72057594037927936 % 256 ≡ 0 = omega arith in
    λ i. with_byte (with_byte (with_byte (with_byte (with_byte (with_byte (with_byte (with_byte s (a i)) (b i)) (c i)) (d i)) (e i)) (f i)) (g i)) (h i)

checksum-is : (cookie pointer word : ℕ) → checksum_of cookie pointer word ≡ sum_of (start_of cookie pointer) (byte_of word 0) (byte_of word 1) (byte_of word 2) (byte_of word 3) (byte_of word 4) (byte_of word 5)
unfolding checksum_of
checksum-is cookie pointer word =
    fold-append with_byte (cookie % 2 ^ 16) (to_le_bytes w64 (plain pointer)) (to_le_bytes w64 (word % 2 ^ 48)) ∙ bytes-are (start_of cookie pointer) word

byte-small : (word i : ℕ) → byte_of word i < 256
byte-small word i = omega arith

top-is : (word : ℕ) → field_of 48 16 word ≡ byte_of word 6 + 256 * byte_of word 7
top-is word = omega arith

-- ---- the place of the byte

abbrev AreSame : ℕ → ℕ → ℕ → Type 0
AreSame v w place = (i : ℕ) → i < 8 → i ≢ place → byte_of v i ≡ byte_of w i

-- one of the six bytes that are summed
summed : (s v w place : ℕ) → place < 6 → AreSame v w place
    → sum_of s (byte_of v 0) (byte_of v 1) (byte_of v 2) (byte_of v 3) (byte_of v 4) (byte_of v 5) ≡ sum_of s (byte_of w 0) (byte_of w 1) (byte_of w 2) (byte_of w 3) (byte_of w 4) (byte_of w 5) → byte_of v place ≡ byte_of w place
summed s v w zero low same =
    let b = same 1 (omega arith) (omega arith) in
    let c = same 2 (omega arith) (omega arith) in
    let d = same 3 (omega arith) (omega arith) in
    let f = same 4 (omega arith) (omega arith) in
    let g = same 5 (omega arith) (omega arith) in
    λ e. byte-apart s (byte_of v 0) (byte_of w 0) (byte_of w 1 ∷ byte_of w 2 ∷ byte_of w 3 ∷ byte_of w 4 ∷ byte_of w 5 ∷ 0 ∷ 0 ∷ []) (byte-small v 0) (byte-small w 0)
    ((λ i. sum_of s (byte_of v 0) (sym b i) (sym c i) (sym d i) (sym f i) (sym g i)) ∙ e)
summed s v w (suc zero) low same =
    let a = same 0 (omega arith) (omega arith) in
    let c = same 2 (omega arith) (omega arith) in
    let d = same 3 (omega arith) (omega arith) in
    let f = same 4 (omega arith) (omega arith) in
    let g = same 5 (omega arith) (omega arith) in
    λ e. byte-apart (with_byte s (byte_of w 0)) (byte_of v 1) (byte_of w 1) (byte_of w 2 ∷ byte_of w 3 ∷ byte_of w 4 ∷ byte_of w 5 ∷ 0 ∷ 0 ∷ []) (byte-small v 1) (byte-small w 1)
    ((λ i. sum_of s (sym a i) (byte_of v 1) (sym c i) (sym d i) (sym f i) (sym g i)) ∙ e)
summed s v w (suc (suc zero)) low same =
    let a = same 0 (omega arith) (omega arith) in
    let b = same 1 (omega arith) (omega arith) in
    let d = same 3 (omega arith) (omega arith) in
    let f = same 4 (omega arith) (omega arith) in
    let g = same 5 (omega arith) (omega arith) in
    λ e. byte-apart (with_byte (with_byte s (byte_of w 0)) (byte_of w 1)) (byte_of v 2) (byte_of w 2) (byte_of w 3 ∷ byte_of w 4 ∷ byte_of w 5 ∷ 0 ∷ 0 ∷ []) (byte-small v 2) (byte-small w 2)
    ((λ i. sum_of s (sym a i) (sym b i) (byte_of v 2) (sym d i) (sym f i) (sym g i)) ∙ e)
summed s v w (suc (suc (suc zero))) low same =
    let a = same 0 (omega arith) (omega arith) in
    let b = same 1 (omega arith) (omega arith) in
    let c = same 2 (omega arith) (omega arith) in
    let f = same 4 (omega arith) (omega arith) in
    let g = same 5 (omega arith) (omega arith) in
    λ e. byte-apart (with_byte (with_byte (with_byte s (byte_of w 0)) (byte_of w 1)) (byte_of w 2)) (byte_of v 3) (byte_of w 3) (byte_of w 4 ∷ byte_of w 5 ∷ 0 ∷ 0 ∷ []) (byte-small v 3) (byte-small w 3)
    ((λ i. sum_of s (sym a i) (sym b i) (sym c i) (byte_of v 3) (sym f i) (sym g i)) ∙ e)
summed s v w (suc (suc (suc (suc zero)))) low same =
    let a = same 0 (omega arith) (omega arith) in
    let b = same 1 (omega arith) (omega arith) in
    let c = same 2 (omega arith) (omega arith) in
    let d = same 3 (omega arith) (omega arith) in
    let g = same 5 (omega arith) (omega arith) in
    λ e. byte-apart (with_byte (with_byte (with_byte (with_byte s (byte_of w 0)) (byte_of w 1)) (byte_of w 2)) (byte_of w 3)) (byte_of v 4) (byte_of w 4) (byte_of w 5 ∷ 0 ∷ 0 ∷ []) (byte-small v 4) (byte-small w 4)
    ((λ i. sum_of s (sym a i) (sym b i) (sym c i) (sym d i) (byte_of v 4) (sym g i)) ∙ e)
summed s v w (suc (suc (suc (suc (suc zero))))) low same =
    let a = same 0 (omega arith) (omega arith) in
    let b = same 1 (omega arith) (omega arith) in
    let c = same 2 (omega arith) (omega arith) in
    let d = same 3 (omega arith) (omega arith) in
    let f = same 4 (omega arith) (omega arith) in
    λ e. byte-apart (with_byte (with_byte (with_byte (with_byte (with_byte s (byte_of w 0)) (byte_of w 1)) (byte_of w 2)) (byte_of w 3)) (byte_of w 4)) (byte_of v 5) (byte_of w 5) (0 ∷ 0 ∷ []) (byte-small v 5) (byte-small w 5)
    ((λ i. sum_of s (sym a i) (sym b i) (sym c i) (sym d i) (sym f i) (byte_of v 5)) ∙ e)
summed s v w (suc (suc (suc (suc (suc (suc n)))))) low same = absurd (omega arith)

-- one of the two bytes of the checksum
kept : (s v w place : ℕ) → 6 ≤ place → AreSame v w place
    → sum_of s (byte_of v 0) (byte_of v 1) (byte_of v 2) (byte_of v 3) (byte_of v 4) (byte_of v 5) ≡ sum_of s (byte_of w 0) (byte_of w 1) (byte_of w 2) (byte_of w 3) (byte_of w 4) (byte_of w 5)
kept s v w place high same =
    let a = same 0 (omega arith) (omega arith) in
    let b = same 1 (omega arith) (omega arith) in
    let c = same 2 (omega arith) (omega arith) in
    let d = same 3 (omega arith) (omega arith) in
    let f = same 4 (omega arith) (omega arith) in
    let g = same 5 (omega arith) (omega arith) in
    λ i. sum_of s (a i) (b i) (c i) (d i) (f i) (g i)

two-bytes : (a b c d : ℕ) → a < 256 → c < 256 → a + 256 * b ≡ c + 256 * d → (a ≡ c) × (b ≡ d)
two-bytes a b c d u v e = (omega arith, omega arith)

topped : (v w place : ℕ) → 6 ≤ place → place < 8 → byte_of v 6 ≡ byte_of w 6 → byte_of v 7 ≡ byte_of w 7 → byte_of v place ≡ byte_of w place
topped v w place high below = elim (cases_lt place 7) [
  | inl l ↦ (let q : place ≡ 6 = omega arith in λ six seven. ap (byte_of v) q ∙ six ∙ ap (byte_of w) (sym q))
  | inr l ↦ (let q : place ≡ 7 = omega arith in λ six seven. ap (byte_of v) q ∙ seven ∙ ap (byte_of w) (sym q))
]

-- ---- so the checksum is another one than the word has

unless-true : (b : Bool) → (b ≡ true → ⊥) → b ≡ false
unless-true true n = absurd (n refl)
unless-true false n = refl

right : (cookie pointer word : ℕ) (b : Bool) (h : Header) → cond b (Some (header_of word)) None ≡ Some h → b ≡ true
right cookie pointer word true h e = refl
right cookie pointer word false h e = cc

low-place : (v w place : ℕ) → place < 6 → AreSame v w place → field_of 48 16 v ≡ field_of 48 16 w
low-place v w place low same =
    let six = same 6 (omega arith) (omega arith) in
    let seven = same 7 (omega arith) (omega arith) in
    top-is v ∙ (λ i. six i + 256 * seven i) ∙ sym (top-is w)

differs : (cookie pointer word changed : ℕ) (d : DifferInOneByte word changed) → field_of 48 16 word ≡ checksum_of cookie pointer word → field_of 48 16 changed ≡ checksum_of cookie pointer changed → byte_of changed d.place ≡ byte_of word d.place
differs cookie pointer word changed d = elim (cases_lt d.place 6) [
  | inl low ↦ (
      let top = low-place changed word d.place low d.same in
      λ e f. summed (start_of cookie pointer) changed word d.place low d.same (sym (checksum-is cookie pointer changed) ∙ sym f ∙ top ∙ e ∙ checksum-is cookie pointer word))
  | inr high ↦ λ e f. (
      let top : field_of 48 16 changed ≡ field_of 48 16 word = f ∙ checksum-is cookie pointer changed ∙ kept (start_of cookie pointer) changed word d.place high d.same ∙ sym (checksum-is cookie pointer word) ∙ sym e in
      let both = two-bytes (byte_of changed 6) (byte_of changed 7) (byte_of word 6) (byte_of word 7) (byte-small changed 6) (byte-small word 6) (sym (top-is changed) ∙ top ∙ top-is word) in
      topped changed word d.place high d.below both.0 both.1)
]

words-refused : (cookie pointer word changed : ℕ) (h : Header) → unpacked_header cookie pointer word ≡ Some h → DifferInOneByte word changed → unpacked_header cookie pointer changed ≡ None
unfolding unpacked_header
words-refused cookie pointer word changed h e d =
    let t : (field_of 48 16 word == checksum_of cookie pointer word) ≡ true = right cookie pointer word (field_of 48 16 word == checksum_of cookie pointer word) h e in
    let is : field_of 48 16 word ≡ checksum_of cookie pointer word = grind (arith, nat_tests) in
    let no : (field_of 48 16 changed == checksum_of cookie pointer changed) ≡ false =
    unless-true (field_of 48 16 changed == checksum_of cookie pointer changed) (λ f. d.other (differs cookie pointer word changed d is (let z : field_of 48 16 changed ≡ checksum_of cookie pointer changed = grind (arith, nat_tests) in z))) in
    cond-false _ _ _ no

-- ---- the checks of a pointer

record Passes (m : Memory) (h : HeapState) (u : ℕ) : Type 0 where
  aligned : (u % 16 == 0) ≡ true
  mapped : is_mapped m u ≡ true
  header : Header
  unpacked : header_at m h.cookie u ≡ Some header

passes-by : (m : Memory) (h : HeapState) (u : ℕ) (f : Found) (a b : Bool) (o : Option Header) → (u % 16 == 0) ≡ a → is_mapped m u ≡ b → header_at m h.cookie u ≡ o
    → cond a (cond b (check_header h u o) (Err Unmapped)) (Err Misaligned) ≡ Ok f → Passes m h u
passes-by m h u f true true (Some header) x y z e = record { aligned = x; mapped = y; header = header; unpacked = z }
passes-by m h u f true true None x y z e = cc
passes-by m h u f true false o x y z e = cc
passes-by m h u f false b o x y z e = cc

passes : (m : Memory) (h : HeapState) (u : ℕ) (f : Found) → check_pointer m h u ≡ Ok f → Passes m h u
unfolding check_pointer
passes m h u f e = passes-by m h u f (u % 16 == 0) (is_mapped m u) (header_at m h.cookie u) refl refl refl e

corrupt : (m : Memory) (h : HeapState) (u : ℕ) → (u % 16 == 0) ≡ true → is_mapped m u ≡ true → header_at m h.cookie u ≡ None → check_pointer m h u ≡ Err HeaderCorrupt
unfolding check_pointer
corrupt m h u a b e = cond-true _ _ _ a ∙ cond-true _ _ _ b ∙ ap (check_header h u) e

mapped-low : (m : Memory) (u : ℕ) → is_mapped m u ≡ true → 16 ≤ u
mapped-low m u e = elim (nat_le 16 u) as (λ b. nat_le 16 u ≡ b → (b && page_has m ((u - 16) / PAGE_SIZE) 3) ≡ true → 16 ≤ u) [
  | true ↦ λ t f. grind (arith, nat_tests)
  | false ↦ λ t f. cc
] refl e

quiet-refused : (s t : State) (pointer : ℕ) (f : Found) → found_at s.world pointer ≡ Ok f → IsQuiet s t → DifferInOneByte (header_word_at s.world.memory (plain pointer)) (header_word_at t.world.memory (plain pointer)) → found_at t.world pointer ≡ Err HeaderCorrupt
unfolding header_at page_has
quiet-refused s t pointer f e q d =
    let u = plain pointer in
    let p = passes s.world.memory s.world.heap u f e in
    let mapped : is_mapped t.world.memory u ≡ true = ap (λ x. nat_le 16 u && has_cases x 3) (q.attrs ((u - 16) / PAGE_SIZE)) ∙ p.mapped in
    let cookie : t.world.heap.cookie ≡ s.world.heap.cookie = ap (λ (h : HeapState). h.cookie) q.heap in
    corrupt t.world.memory t.world.heap u p.aligned mapped
    (ap (λ c. unpacked_header c u (header_word_at t.world.memory u)) cookie
    ∙ words-refused s.world.heap.cookie u (header_word_at s.world.memory u) (header_word_at t.world.memory u) p.header p.unpacked d)

pub changed-refused : ChangedHeadersAreRefused
changed-refused = record {
  words = words-refused;
  calls = λ s t pointer f e q d.
      let low = mapped-low s.world.memory (plain pointer) (passes s.world.memory s.world.heap (plain pointer) f e).mapped in
      aborted-by HeaderCorrupt t.world pointer (λ z. omega arith) (quiet-refused s t pointer f e q d);
}
