-- The chains of a lookaside buffer: none, one translation more, the oldest dropped.
use Rattle.std.proofs.Common.{cond, inl, inr, min, ◌⊎◌, ◌≡◌, ℕ, zero, suc, ◌+◌, ◌-◌, ◌<◌, ◌≤◌, Bool, true, false, List, [], ◌∷◌, ◌++◌, length, drop, replicate, get_or, Some, None, refl, sym, ap, subst, ◌∙◌, arith}
use Rattle.std.specs.Prelude.{find, slice_index, option_map}
use Rattle.std.proofs.lemmas.List.{length-append, length-drop, length-map, get_or-drop, get_or-map, get_or_default, get_or_push, map-append}
use Rattle.std.proofs.lemmas.Bool.{cases_lt, cases_eq, false_from_ne_true}
use Rattle.mte_translate.specs.declared.translation.Translation.{Translation}
use Rattle.mte_translate.specs.Translations.{is_for, lookup}
use Rattle.mte_translate.proofs.TlbLemmas.{same-left, same-right}
use Rattle.mte_translate.specs.Whole.{hash_of, hashes_of, IsChained}
use Rattle.mte_translate.specs.Windows.{IsHeadWithout, IsGapWithout}
use Rattle.std.specs.List.{remove}
use Rattle.std.proofs.lemmas.List.Edits.{length-remove, get_or-remove_below, get_or-remove_above}

-- nothing stands in a list of zeros
zero_at : (n k : ℕ) → slice_index (replicate n 0) k ≡ 0
zero_at zero k = refl
zero_at (suc n) zero = refl
zero_at (suc n) (suc k) = zero_at n k

pub chained-none : (n : ℕ) (gaps : List ℕ) → IsChained 0 (replicate n 0) gaps []
chained-none n gaps =
    record {
      most = λ h. let z = zero_at n h in omega (arith, z);
      newest = λ i l. absurd (omega (arith, l));
      own = λ h i s. absurd (let z = zero_at n h in omega (arith, z, s));
      between = λ i j l m s. absurd (omega (arith, m));
      older = λ i j m s. absurd (omega (arith, m));
    }

-- the oldest is dropped
pub chained-drop : (first : ℕ) (heads gaps hs : List ℕ) → IsChained first heads gaps hs → 0 < length hs → IsChained (first + 1) heads gaps (drop 1 hs)
chained-drop first heads gaps hs c some =
    record {
      most = λ h. let b = c.most h in let d = length-drop 1 hs in omega (arith, b, d, some);
      newest = λ i l.
          let d = length-drop 1 hs in
          let at : slice_index (drop 1 hs) i ≡ slice_index hs (1 + i) = get_or-drop 1 hs i 0 in
          let a = c.newest (1 + i) (omega (arith, l, d)) in
          rw at (omega (arith, a));
      own = λ h i s.
          let at : slice_index (drop 1 hs) i ≡ slice_index hs (1 + i) = get_or-drop 1 hs i 0 in
          at ∙ c.own h (1 + i) (omega (arith, s));
      between = λ i j l m s.
          let d = length-drop 1 hs in
          let ai : slice_index (drop 1 hs) i ≡ slice_index hs (1 + i) = get_or-drop 1 hs i 0 in
          let aj : slice_index (drop 1 hs) j ≡ slice_index hs (1 + j) = get_or-drop 1 hs j 0 in
          let g = gap_at j in
          let a = c.between (1 + i) (1 + j) (omega (arith, l)) (omega (arith, m, d)) (sym ai ∙ s ∙ aj) in
          omega (arith, a, g);
      older = λ i j m s.
          let d = length-drop 1 hs in
          let ai : slice_index (drop 1 hs) i ≡ slice_index hs (1 + i) = get_or-drop 1 hs i 0 in
          let aj : slice_index (drop 1 hs) j ≡ slice_index hs (1 + j) = get_or-drop 1 hs j 0 in
          let g = gap_at j in
          ai ∙ c.older (1 + i) (1 + j) (omega (arith, m, d)) (omega (arith, s, g)) ∙ sym aj;
    }
  where
    gap_at : (j : ℕ) → slice_index gaps (first + 1 + j) ≡ slice_index gaps (first + (1 + j))
    gap_at j = ap (slice_index gaps) (omega arith)

-- all move to the front of the row
pub chained-front : (first : ℕ) (heads gaps hs news left : List ℕ) → IsChained first heads gaps hs
    → ((j : ℕ) → j < length hs → slice_index left j ≡ slice_index gaps (first + j))
    → ((k : ℕ) → slice_index news k ≡ slice_index heads k - first) → IsChained 0 news left hs
chained-front first heads gaps hs news left c gap_at less =
    record {
      most = λ h. let a = less h in let b = c.most h in omega (arith, a, b);
      newest = λ i l. let a = c.newest i l in let b = less (slice_index hs i) in omega (arith, a, b);
      own = λ h i s. let b = less h in c.own h i (omega (arith, b, s));
      between = λ i j l m s.
          let g = zero_gap j m in
          let a = c.between i j l m s in
          omega (arith, a, g);
      older = λ i j m s. let g = zero_gap j m in c.older i j m (omega (arith, s, g));
    }
  where
    zero_gap : (j : ℕ) → j < length hs → slice_index left (0 + j) ≡ slice_index gaps (first + j)
    zero_gap j m = ap (slice_index left) (omega arith) ∙ gap_at j m

head-cases : {place end old new : ℕ} → IsHeadWithout place end old new → ((place + 1 < old) × (new ≡ old - 1)) ⊎ ((old ≡ place + 1) × (new ≡ end)) ⊎ ((old ≤ place) × (new ≡ old))
head-cases {place} {end} {old} {new} w = elim (cases_lt (place + 1) old) [
  | inl above ↦ inl (above, w.above above)
  | inr under ↦ elim (cases_eq old (place + 1)) [
    | inl here ↦ inr (inl (here, w.here here))
    | inr other ↦ let below : old ≤ place = omega (arith, under, other) in inr (inr (below, w.below below))
  ]
]

gap-cases : {between older_gap old new : ℕ} → IsGapWithout between older_gap old new → ((between < old) × (new ≡ old - 1)) ⊎ ((old ≡ between) × (new ≡ min (old + older_gap) 255)) ⊎ ((old < between) × (new ≡ old))
gap-cases {between} {older_gap} {old} {new} w = elim (cases_lt between old) [
  | inl past ↦ inl (past, w.past past)
  | inr least ↦ elim (cases_eq old between) [
    | inl here ↦ inr (inl (here, w.here here))
    | inr other ↦ let before : old < between = omega (arith, least, other) in inr (inr (before, w.before before))
  ]
]

-- one goes, and all younger ones move down by one place
module _ (first i : ℕ) (heads gaps hs news left : List ℕ) (c : IsChained first heads gaps hs) (inside : i < length hs) (few : length hs ≤ 64)
    (head_at : (h : ℕ) → IsHeadWithout (first + i) (first + i - slice_index gaps (first + i)) (slice_index heads h) (slice_index news h))
    (gap_low : (k : ℕ) → k < first + i → slice_index left k ≡ slice_index gaps k)
    (gap_high : (k : ℕ) → first + i ≤ k → k + 1 < first + length hs → IsGapWithout (k - (first + i)) (slice_index gaps (first + i)) (slice_index gaps (k + 1)) (slice_index left k)) where
  shorter : length (remove hs i) + 1 ≡ length hs
  shorter = length-remove hs i inside

  low : (k : ℕ) → k < i → slice_index (remove hs i) k ≡ slice_index hs k
  low k l = get_or-remove_below hs i 0 k l inside

  high : (k : ℕ) → i ≤ k → slice_index (remove hs i) k ≡ slice_index hs (k + 1)
  high k l = get_or-remove_above hs i 0 k l inside

  most_left : (h : ℕ) → slice_index news h ≤ first + length (remove hs i)
  most_left h = let w = head-cases (head_at h) in omega (arith, w, c.most h, shorter, inside)

  -- the gap of the one that is the j-th now, and was the j + 1-th
  gap_of : (j : ℕ) → i ≤ j → j < length (remove hs i) → IsGapWithout (j - i) (slice_index gaps (first + i)) (slice_index gaps (first + (j + 1))) (slice_index left (first + j))
  gap_of j l m =
      let h = gap_high (first + j) (omega (arith, l)) (omega (arith, m, shorter)) in
      let between : first + j - (first + i) ≡ j - i = omega arith in
      let next : first + j + 1 ≡ first + (j + 1) = omega arith in
      subst (λ n. IsGapWithout n (slice_index gaps (first + i)) (slice_index gaps (first + (j + 1))) (slice_index left (first + j))) between
      (subst (λ n. IsGapWithout (first + j - (first + i)) (slice_index gaps (first + i)) (slice_index gaps n) (slice_index left (first + j))) next h)

  newest_left : (k : ℕ) → k < length (remove hs i) → first + k < slice_index news (slice_index (remove hs i) k)
  newest_left k l = elim (cases_lt k i) [
    | inl older ↦
        let at = low k older in
        let a = c.newest k (omega (arith, older, inside)) in
        let w = head-cases (head_at (slice_index hs k)) in
        rw at (elim (cases_eq (slice_index heads (slice_index hs k)) (first + i + 1)) [
          | inl here ↦
              let same = c.own (slice_index hs k) i here in
              let b = c.between k i older inside (sym same) in
              omega (arith, w, a, b, here)
          | inr other ↦ omega (arith, w, a, other)
        ])
    | inr younger ↦
        let at = high k (omega (arith, younger)) in
        let a = c.newest (k + 1) (omega (arith, l, shorter)) in
        let w = head-cases (head_at (slice_index hs (k + 1))) in
        rw at (omega (arith, w, a, younger))
  ]

  own_left : (h k : ℕ) → slice_index news h ≡ first + k + 1 → slice_index (remove hs i) k ≡ h
  own_left h k s =
      let w = head-cases (head_at h) in
      elim (cases_lt (first + i + 1) (slice_index heads h)) [
        | inl above ↦ high k (omega (arith, w, above, s)) ∙ c.own h (k + 1) (omega (arith, w, above, s))
        | inr under ↦ elim (cases_eq (slice_index heads h) (first + i + 1)) [
          | inl here ↦
              let older : k < i = omega (arith, w, here, s) in
              low k older ∙ c.older k i inside (omega (arith, w, here, s)) ∙ c.own h i here
          | inr below ↦
              let older : k < i = omega (arith, w, under, below, s) in
              low k older ∙ c.own h k (omega (arith, w, under, below, s))
        ]
      ]

  between_left : (k j : ℕ) → k < j → j < length (remove hs i) → slice_index (remove hs i) k ≡ slice_index (remove hs i) j → k + slice_index left (first + j) < j
  between_left k j l m s = elim (cases_lt j i) [
    | inl older ↦
        let g = gap_low (first + j) (omega (arith, older)) in
        let a = c.between k j l (omega (arith, older, inside)) (sym (low k (omega (arith, l, older))) ∙ s ∙ low j older) in
        omega (arith, a, g)
    | inr younger ↦
        let w = gap-cases (gap_of j (omega (arith, younger)) m) in
        let aj = high j (omega (arith, younger)) in
        elim (cases_lt k i) [
          | inl before ↦
              let same = sym (low k before) ∙ s ∙ aj in
              let a = c.between k (j + 1) (omega (arith, l)) (omega (arith, m, shorter)) same in
              elim (cases_eq (slice_index gaps (first + (j + 1))) (j - i)) [
                | inl here ↦
                    let through = c.older i (j + 1) (omega (arith, m, shorter)) (omega (arith, here, younger)) in
                    let b = c.between k i before inside (same ∙ sym through) in
                    omega (arith, w, a, b, here, younger)
                | inr other ↦ omega (arith, w, a, other, younger, before)
              ]
          | inr behind ↦
              let same = sym (high k (omega (arith, behind))) ∙ s ∙ aj in
              let a = c.between (k + 1) (j + 1) (omega (arith, l)) (omega (arith, m, shorter)) same in
              omega (arith, w, a, younger, behind)
        ]
  ]

  older_left : (k j : ℕ) → j < length (remove hs i) → k + 1 + slice_index left (first + j) ≡ j → slice_index (remove hs i) k ≡ slice_index (remove hs i) j
  older_left k j m s = elim (cases_lt j i) [
    | inl older ↦
        let g = gap_low (first + j) (omega (arith, older)) in
        low k (omega (arith, s, older)) ∙ c.older k j (omega (arith, older, inside)) (omega (arith, s, g)) ∙ sym (low j older)
    | inr younger ↦
        let w = gap-cases (gap_of j (omega (arith, younger)) m) in
        let aj = high j (omega (arith, younger)) in
        let within : j + 1 < length hs = omega (arith, m, shorter) in
        elim (cases_lt (j - i) (slice_index gaps (first + (j + 1)))) [
          | inl past ↦
              low k (omega (arith, w, past, s, younger)) ∙ c.older k (j + 1) within (omega (arith, w, past, s)) ∙ sym aj
          | inr least ↦ elim (cases_eq (slice_index gaps (first + (j + 1))) (j - i)) [
            | inl here ↦
                let on : k + 1 + slice_index gaps (first + i) ≡ i = omega (arith, w, here, s, within, few, younger) in
                low k (omega (arith, on)) ∙ c.older k i inside on ∙ c.older i (j + 1) within (omega (arith, here, younger)) ∙ sym aj
            | inr before ↦
                high k (omega (arith, w, least, before, s, younger)) ∙ c.older (k + 1) (j + 1) within (omega (arith, w, least, before, s)) ∙ sym aj
          ]
        ]
  ]

  chained-without : IsChained first news left (remove hs i)
  chained-without = record { most = most_left; newest = newest_left; own = own_left; between = between_left; older = older_left }

-- the same where the places are given
pub chained-remove :
    (first i place end : ℕ) (heads gaps hs news left : List ℕ) → IsChained first heads gaps hs → i < length hs → length hs ≤ 64
    → first + i ≡ place → first + length hs ≡ end
    → ((h : ℕ) → IsHeadWithout place (place - slice_index gaps place) (slice_index heads h) (slice_index news h))
    → ((k : ℕ) → k < place → slice_index left k ≡ slice_index gaps k)
    → ((k : ℕ) → place ≤ k → k + 1 < end → IsGapWithout (k - place) (slice_index gaps place) (slice_index gaps (k + 1)) (slice_index left k))
    → IsChained first news left (remove hs i)
chained-remove first i place end heads gaps hs news left c inside few at last =
    let Moved : ℕ → ℕ → Type 0 = λ p e.
    ((h : ℕ) → IsHeadWithout p (p - slice_index gaps p) (slice_index heads h) (slice_index news h))
    → ((k : ℕ) → k < p → slice_index left k ≡ slice_index gaps k)
    → ((k : ℕ) → p ≤ k → k + 1 < e → IsGapWithout (k - p) (slice_index gaps p) (slice_index gaps (k + 1)) (slice_index left k))
    → IsChained first news left (remove hs i) in
    subst (λ p. Moved p end) at (subst (Moved (first + i)) last (chained-without first i heads gaps hs news left c inside few))

-- What a lookup has passed: no translation from a place on is that of the page, and the one before
-- has its hash.
pub record IsPassed (asid page first : ℕ) (ts : List Translation) (end : ℕ) : Type 0 where
  pub within : end ≤ first + length ts
  pub others : (i : ℕ) (d : Translation) → end ≤ first + i → i < length ts → is_for asid page (get_or ts i d) ≡ false
  pub own : (i : ℕ) → end ≡ first + i + 1 → slice_index (hashes_of ts) i ≡ hash_of asid page

hash_for : (asid page : ℕ) (ts : List Translation) (i : ℕ) (d : Translation) → i < length ts → is_for asid page (get_or ts i d) ≡ true → slice_index (hashes_of ts) i ≡ hash_of asid page
hash_for asid page ts i d l e =
    let t = get_or ts i d in
    let a : t.asid ≡ asid = same-left t.asid asid t.page page e in
    let b : t.page ≡ page = same-right t.asid asid t.page page e in
    get_or-map (λ (u : Translation). hash_of u.asid u.page) ts i d 0 l ∙ ap (λ n. hash_of n t.page) a ∙ ap (hash_of asid) b

pub hashes_long : (ts : List Translation) → length (hashes_of ts) ≡ length ts
hashes_long ts = length-map ts (λ (u : Translation). hash_of u.asid u.page)

-- the head of a page's hash is after the newest translation where that is the page's
pub newest-head : (asid page first : ℕ) (heads gaps : List ℕ) (ts old : List Translation) (t : Translation) → IsChained first heads gaps (hashes_of ts)
    → ts ≡ old ++ t ∷ [] → is_for asid page t ≡ true
    → (slice_index heads (hash_of asid page) ≡ first + length old + 1) × (length ts ≡ length old + 1) × (get_or ts (length old) t ≡ t)
newest-head asid page first heads gaps ts old t c e is =
    let long = hashes_long ts in
    let all : length ts ≡ length old + 1 = ap length e ∙ length-append old (t ∷ []) in
    let here : get_or ts (length old) t ≡ t = ap (λ l. get_or l (length old) t) e ∙ get_or_push old t t (length old) refl in
    let same : slice_index (hashes_of ts) (length old) ≡ hash_of asid page = hash_for asid page ts (length old) t (omega (arith, all)) (ap (is_for asid page) here ∙ is) in
    let past = c.newest (length old) (omega (arith, all, long)) in
    let above : first + length old < slice_index heads (hash_of asid page) = subst (λ h. first + length old < slice_index heads h) same past in
    let most = c.most (hash_of asid page) in
    (omega (arith, above, most, long, all), all, here)

pub passed-none : (asid page first : ℕ) (heads gaps : List ℕ) (ts : List Translation) (end : ℕ) → IsChained first heads gaps (hashes_of ts) → end ≡ slice_index heads (hash_of asid page) → IsPassed asid page first ts end
passed-none asid page first heads gaps ts end c e =
    record {
      within = let a = c.most (hash_of asid page) in let b = hashes_long ts in omega (arith, a, b, e);
      others = λ i d past l. false_from_ne_true _ (λ is.
          let same = hash_for asid page ts i d l is in
          let a = c.newest i (let b = hashes_long ts in omega (arith, l, b)) in
          let here : first + i < slice_index heads (hash_of asid page) = subst (λ h. first + i < slice_index heads h) same a in
          omega (arith, here, past, e));
      own = λ i s. c.own (hash_of asid page) i (sym e ∙ s);
    }

pub passed-more : (asid page first : ℕ) (heads gaps : List ℕ) (ts : List Translation) (end next k : ℕ) (d : Translation) → IsChained first heads gaps (hashes_of ts) → IsPassed asid page first ts end
    → end ≡ first + k + 1 → is_for asid page (get_or ts k d) ≡ false → next ≡ (end - 1) - slice_index gaps (end - 1) → IsPassed asid page first ts next
passed-more asid page first heads gaps ts end next k d c p at not e =
    let long = hashes_long ts in
    let here : slice_index (hashes_of ts) k ≡ hash_of asid page = p.own k at in
    let place : slice_index gaps (end - 1) ≡ slice_index gaps (first + k) = ap (slice_index gaps) (omega (arith, at)) in
    let is : next ≡ first + k - slice_index gaps (first + k) = omega (arith, e, place, at) in
    record {
      within = omega (arith, p.within, is, at);
      others = λ i f past l. elim (cases_lt k i) [
        | inl newer ↦ p.others i f (omega (arith, newer, at)) l
        | inr below ↦ elim (cases_eq i k) [
          | inl same ↦ ap (is_for asid page) (ap (λ n. get_or ts n f) same ∙ get_or_default ts k f d (omega (arith, p.within, at))) ∙ not
          | inr other ↦ false_from_ne_true _ (λ yes.
              let same = hash_for asid page ts i f l yes in
              let before : i < k = omega (arith, below, other) in
              let a = c.between i k before (omega (arith, p.within, long, at)) (same ∙ sym here) in
              omega (arith, a, past, is))
        ]
      ];
      own = λ i s. c.older i k (omega (arith, p.within, long, at)) (omega (arith, s, is)) ∙ here;
    }

-- where none is that of the page, none is found
none_found : {X : Type 0} (p : X → Bool) (xs : List X) → ((i : ℕ) (d : X) → i < length xs → p (get_or xs i d) ≡ false) → find p xs ≡ None
none_found p [] h = refl
none_found p (x ∷ xs) h =
    let first : p x ≡ false = h 0 x (omega arith) in
    let rest = none_found p xs (λ i d l. h (suc i) d (omega (arith, l))) in
    ap (λ b. cond b (Some x) (find p xs)) first ∙ rest

pub passed-all : (asid page first : ℕ) (ts : List Translation) (end : ℕ) → IsPassed asid page first ts end → end ≤ first → lookup asid page ts ≡ None
passed-all asid page first ts end p e =
    ap (option_map (λ (t : Translation). (t.frame, t.attrs))) (none_found (is_for asid page) ts (λ i d l. p.others i d (omega (arith, e)) l))

pub chained-same : (first now : ℕ) (heads gaps hs ks : List ℕ) → IsChained first heads gaps hs → now ≡ first → ks ≡ hs → IsChained now heads gaps ks
chained-same first now heads gaps hs ks c at e = subst (λ f. IsChained f heads gaps ks) (sym at) (subst (IsChained first heads gaps) (sym e) c)

pub hashes-push : (ts us : List Translation) (t : Translation) → us ≡ ts ++ t ∷ [] → hashes_of us ≡ hashes_of ts ++ hash_of t.asid t.page ∷ []
hashes-push ts us t e = ap hashes_of e ∙ map-append (λ (u : Translation). hash_of u.asid u.page) ts (t ∷ [])

pub hashes-drop : (ts us : List Translation) → us ≡ drop 1 ts → hashes_of us ≡ drop 1 (hashes_of ts)
hashes-drop ts us e = ap hashes_of e ∙ first ts
  where
    first : (xs : List Translation) → hashes_of (drop 1 xs) ≡ drop 1 (hashes_of xs)
    first [] = refl
    first (x ∷ xs) = refl

pub hashes-remove : (ts us : List Translation) (i : ℕ) → us ≡ remove ts i → hashes_of us ≡ remove (hashes_of ts) i
hashes-remove ts us i e = ap hashes_of e ∙ at ts i
  where
    at : (xs : List Translation) (k : ℕ) → hashes_of (remove xs k) ≡ remove (hashes_of xs) k
    at [] zero = refl
    at [] (suc k) = refl
    at (x ∷ xs) zero = refl
    at (x ∷ xs) (suc k) = ap (λ hs. hash_of x.asid x.page ∷ hs) (at xs k)
