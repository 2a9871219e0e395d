-- The least place, by one pass over the mappings.
use Rattle.std.proofs.Common.{◌≡◌, ℕ, zero, suc, ◌+◌, ◌-◌, ◌*◌, ◌/◌, ◌%◌, ◌<◌, ◌≤◌, ◌==◌, ◌&&◌, ◌||◌, ◌⊎◌, Bool, true, false, cond, nat_le, List, [], ◌∷◌, length, get_or, drop, drop-cons, Option, IfSome, IfNone, Some, None, refl, sym, ap, subst, ◌∙◌, inl, inr, arith}
use Rattle.std.specs.List.{find, list_all}
use Rattle.std.proofs.lemmas.Bool.{cases_lt, cond-true, cond-false}
use Rattle.std.proofs.lemmas.Bool.Decides.{nat_tests}
use Rattle.common.specs.declared.limits.TheConstants.{PAGE_SIZE}
use Rattle.common.specs.declared.ranges.TheConstants.{SECONDARY_START, SECONDARY_END}
use Rattle.scudo_secondary.specs.declared.mappings.Mapping.{Mapping}
use Rattle.scudo_secondary.specs.Mappings.{end_of, is_apart, is_place, page_starts, place_of, with_mapping, AreFrom, AreMappings}
use Rattle.scudo_secondary.proofs.MappingLemmas.{IsApart, start_at, end_below, bool_cases, AreMappings-with_mapping}

-- ---- what the test of a place says

and_left : (a b : Bool) → (a && b) ≡ true → a ≡ true
and_left true b h = refl
and_left false b h = h

and_right : (a b : Bool) → (a && b) ≡ true → b ≡ true
and_right true b h = h
and_right false b h = cc

both : (a b : Bool) → a ≡ true → b ≡ true → (a && b) ≡ true
both true b h k = k
both false b h k = h

pub apart_true : (pages start : ℕ) (m : Mapping) → is_apart pages start m ≡ true → (end_of m + PAGE_SIZE ≤ start) ⊎ (start + PAGE_SIZE * pages + PAGE_SIZE ≤ m.start)
apart_true pages start m h = elim (cases_lt start (end_of m + PAGE_SIZE)) [
  | inl b ↦
      let f : nat_le (end_of m + PAGE_SIZE) start ≡ false = grind (arith, nat_tests) in
      let g : nat_le (start + PAGE_SIZE * pages + PAGE_SIZE) m.start ≡ true = ap (λ x. x || nat_le (start + PAGE_SIZE * pages + PAGE_SIZE) m.start) (sym f) ∙ h in
      inr (grind (arith, nat_tests))
  | inr b ↦ inl b
]

or_right : (a b : Bool) → b ≡ true → (a || b) ≡ true
or_right true b h = refl
or_right false b h = h

true_apart : (pages start : ℕ) (m : Mapping) → (end_of m + PAGE_SIZE ≤ start) ⊎ (start + PAGE_SIZE * pages + PAGE_SIZE ≤ m.start) → is_apart pages start m ≡ true
true_apart pages start m (inl h) =
    let f : nat_le (end_of m + PAGE_SIZE) start ≡ true = grind (arith, nat_tests) in
    ap (λ x. x || nat_le (start + PAGE_SIZE * pages + PAGE_SIZE) m.start) f
true_apart pages start m (inr h) = or_right _ _ (let g : nat_le (start + PAGE_SIZE * pages + PAGE_SIZE) m.start ≡ true = grind (arith, nat_tests) in g)

all_at : (p : Mapping → Bool) (ms : List Mapping) → list_all p ms ≡ true → (k : ℕ) (d : Mapping) → k < length ms → p (get_or ms k d) ≡ true
all_at p [] h k d l = absurd (omega arith)
all_at p (m ∷ more) h zero d l = and_left (p m) (list_all p more) h
all_at p (m ∷ more) h (suc k) d l = all_at p more (and_right (p m) (list_all p more) h) k d (omega arith)

at_all : (p : Mapping → Bool) (ms : List Mapping) → ((k : ℕ) (d : Mapping) → k < length ms → p (get_or ms k d) ≡ true) → list_all p ms ≡ true
at_all p [] h = refl
at_all p (m ∷ more) h = both (p m) (list_all p more) (h 0 m (omega arith)) (at_all p more (λ k d l. h (suc k) d (omega arith)))

-- a start where pages fit
pub record Fits (ms : List Mapping) (pages start : ℕ) : Type 0 where
  pub below : start + PAGE_SIZE * pages + PAGE_SIZE ≤ SECONDARY_END
  pub apart : IsApart ms start (start + PAGE_SIZE * pages)

pub record IsPlace (ms : List Mapping) (pages start : ℕ) : Type 0 where
  pub aligned : start % PAGE_SIZE ≡ 0
  pub above : SECONDARY_START + PAGE_SIZE ≤ start
  pub fits : Fits ms pages start

pub place-facts : (ms : List Mapping) (pages start : ℕ) → is_place ms pages start ≡ true → IsPlace ms pages start
unfolding is_place
place-facts ms pages start h =
    let abc = and_left _ (list_all (is_apart pages start) ms) h in
    let d = and_right _ (list_all (is_apart pages start) ms) h in
    let ab = and_left _ (nat_le (start + PAGE_SIZE * pages + PAGE_SIZE) SECONDARY_END) abc in
    let c : nat_le (start + PAGE_SIZE * pages + PAGE_SIZE) SECONDARY_END ≡ true = and_right _ (nat_le (start + PAGE_SIZE * pages + PAGE_SIZE) SECONDARY_END) abc in
    let a : (start % PAGE_SIZE == 0) ≡ true = and_left _ (nat_le (SECONDARY_START + PAGE_SIZE) start) ab in
    let b : nat_le (SECONDARY_START + PAGE_SIZE) start ≡ true = and_right _ (nat_le (SECONDARY_START + PAGE_SIZE) start) ab in
    record {
      aligned = grind (arith, nat_tests);
      above = grind (arith, nat_tests);
      fits = record { below = grind (arith, nat_tests); apart = λ k e l. apart_true pages start (get_or ms k e) (all_at (is_apart pages start) ms d k e l) };
    }

pub facts-place : (ms : List Mapping) (pages start : ℕ) → IsPlace ms pages start → is_place ms pages start ≡ true
unfolding is_place
facts-place ms pages start p =
    let x = p.aligned in
    let y = p.above in
    let z = p.fits.below in
    let a : (start % PAGE_SIZE == 0) ≡ true = grind (arith, nat_tests) in
    let b : nat_le (SECONDARY_START + PAGE_SIZE) start ≡ true = grind (arith, nat_tests) in
    let c : nat_le (start + PAGE_SIZE * pages + PAGE_SIZE) SECONDARY_END ≡ true = grind (arith, nat_tests) in
    both _ _ (both _ _ (both _ _ a b) c) (at_all (is_apart pages start) ms (λ k e l. true_apart pages start (get_or ms k e) (p.fits.apart k e l)))

-- ---- one pass

-- the first address, from one on, above which pages and one more are left before the next mapping
unfoldable pub gap_from : ℕ → ℕ → List Mapping → Option ℕ
gap_from from pages [] = cond (nat_le (from + PAGE_SIZE * pages + PAGE_SIZE) SECONDARY_END) (Some from) None
gap_from from pages (m ∷ more) = cond (nat_le (from + PAGE_SIZE * pages + PAGE_SIZE) m.start) (Some from) (gap_from (end_of m + PAGE_SIZE) pages more)

record IsLeast (from pages : ℕ) (ms : List Mapping) (s : ℕ) : Type 0 where
  above : from ≤ s
  aligned : s % PAGE_SIZE ≡ 0
  fits : Fits ms pages s
  least : (lower : ℕ) → from ≤ lower → Fits ms pages lower → s ≤ lower

-- the least of all that fit from an address on
abbrev LeastFrom : ℕ → ℕ → List Mapping → Option ℕ → Type 0
LeastFrom from pages ms (Some s) = IsLeast from pages ms s
LeastFrom from pages ms None = (lower : ℕ) → from ≤ lower → Fits ms pages lower → ⊥

apart_cons : (m : Mapping) (more : List Mapping) (start end : ℕ) → (end_of m + PAGE_SIZE ≤ start) ⊎ (end + PAGE_SIZE ≤ m.start) → IsApart more start end → IsApart (m ∷ more) start end
apart_cons m more start end h r zero d l = h
apart_cons m more start end h r (suc k) d l = r k d (omega arith)

-- where pages fit among a mapping and more, they fit among these
fits_more : (m : Mapping) (more : List Mapping) (pages s : ℕ) → Fits (m ∷ more) pages s → Fits more pages s
fits_more m more pages s f = record { below = f.below; apart = λ k d l. f.apart (suc k) d (omega arith) }

-- and not below the first one's end, where they don't fit before it
fits_after : (m : Mapping) (more : List Mapping) (from pages s : ℕ) → m.start < from + PAGE_SIZE * pages + PAGE_SIZE → from ≤ s → Fits (m ∷ more) pages s → end_of m + PAGE_SIZE ≤ s
fits_after m more from pages s t h f = elim (f.apart 0 m (omega arith)) [ inl x ↦ x | inr y ↦ absurd (omega arith) ]

before_first : (m : Mapping) (more : List Mapping) (from pages : ℕ) → from % PAGE_SIZE ≡ 0 → AreFrom from (m ∷ more) → from + PAGE_SIZE * pages + PAGE_SIZE ≤ m.start → IsLeast from pages (m ∷ more) from
before_first m more from pages e a h =
    let z : end_of m + PAGE_SIZE ≤ SECONDARY_END = end_below more (end_of m + PAGE_SIZE) a.1 in
    record {
      above = omega arith;
      aligned = e;
      fits = record {
        below = omega arith;
        apart = apart_cons m more from (from + PAGE_SIZE * pages) (inr h)
            (λ k d l. inr (let r : end_of m + PAGE_SIZE ≤ (get_or more k d).start = start_at more (end_of m + PAGE_SIZE) a.1 k d l in omega arith));
      };
      least = λ lower b f. b;
    }

after_first : (m : Mapping) (more : List Mapping) (from pages : ℕ) (o : Option ℕ) → from ≤ m.start → m.start < from + PAGE_SIZE * pages + PAGE_SIZE
    → LeastFrom (end_of m + PAGE_SIZE) pages more o → LeastFrom from pages (m ∷ more) o
after_first m more from pages None b t r = λ lower h f. r lower (fits_after m more from pages lower t h f) (fits_more m more pages lower f)
after_first m more from pages (Some s) b t r =
    let l = r.above in
    record {
      above = omega arith;
      aligned = r.aligned;
      fits = record { below = r.fits.below; apart = apart_cons m more s (s + PAGE_SIZE * pages) (inl l) r.fits.apart };
      least = λ lower h f. r.least lower (fits_after m more from pages lower t h f) (fits_more m more pages lower f);
    }

gap_least : (ms : List Mapping) (from pages : ℕ) → from % PAGE_SIZE ≡ 0 → AreFrom from ms → LeastFrom from pages ms (gap_from from pages ms)
unfolding gap_from
gap_least [] from pages e a = elim (cases_lt SECONDARY_END (from + PAGE_SIZE * pages + PAGE_SIZE)) [
  | inl b ↦
      let f : nat_le (from + PAGE_SIZE * pages + PAGE_SIZE) SECONDARY_END ≡ false = grind (arith, nat_tests) in
      subst (LeastFrom from pages []) (sym (cond-false _ _ _ f)) (λ lower h g. let x = g.below in omega arith)
  | inr b ↦
      let f : nat_le (from + PAGE_SIZE * pages + PAGE_SIZE) SECONDARY_END ≡ true = grind (arith, nat_tests) in
      let r : IsLeast from pages [] from = record {
        above = omega arith;
        aligned = e;
        fits = record { below = b; apart = λ k d l. absurd (omega arith) };
        least = λ lower h g. h;
      } in
      subst (LeastFrom from pages []) (sym (cond-true _ _ _ f)) r
]
gap_least (m ∷ more) from pages e a = elim (cases_lt m.start (from + PAGE_SIZE * pages + PAGE_SIZE)) [
  | inl b ↦
      let f : nat_le (from + PAGE_SIZE * pages + PAGE_SIZE) m.start ≡ false = grind (arith, nat_tests) in
      let z = a.0.aligned in
      let z' : (end_of m + PAGE_SIZE) % PAGE_SIZE ≡ 0 = omega arith in
      let r : LeastFrom (end_of m + PAGE_SIZE) pages more (gap_from (end_of m + PAGE_SIZE) pages more) = gap_least more (end_of m + PAGE_SIZE) pages z' a.1 in
      subst (LeastFrom from pages (m ∷ more)) (sym (cond-false _ _ _ f)) (after_first m more from pages (gap_from (end_of m + PAGE_SIZE) pages more) a.0.above b r)
  | inr b ↦
      let f : nat_le (from + PAGE_SIZE * pages + PAGE_SIZE) m.start ≡ true = grind (arith, nat_tests) in
      subst (LeastFrom from pages (m ∷ more)) (sym (cond-true _ _ _ f)) (before_first m more from pages e a b)
]

-- ---- the least of all page-aligned addresses

starts_none : (p : ℕ → Bool) (from n : ℕ) → ((i : ℕ) → i < n → p (from + PAGE_SIZE * i) ≡ false) → find p (page_starts from n) ≡ None
unfolding page_starts
starts_none p from zero h = refl
starts_none p from (suc n) h =
    let e : from + PAGE_SIZE * 0 ≡ from = omega arith in
    cond-false _ _ _ (ap p (sym e) ∙ h 0 (omega arith))
    ∙ starts_none p (from + PAGE_SIZE) n (λ i l. let f : from + PAGE_SIZE + PAGE_SIZE * i ≡ from + PAGE_SIZE * suc i = omega arith in ap p f ∙ h (suc i) (omega arith))

starts_found : (p : ℕ → Bool) (from n j : ℕ) → j < n → p (from + PAGE_SIZE * j) ≡ true → ((i : ℕ) → i < j → p (from + PAGE_SIZE * i) ≡ false) → find p (page_starts from n) ≡ Some (from + PAGE_SIZE * j)
unfolding page_starts
starts_found p from zero j l t h = absurd (omega arith)
starts_found p from (suc n) zero l t h =
    let e : from + PAGE_SIZE * 0 ≡ from = omega arith in
    cond-true _ _ _ (ap p (sym e) ∙ t) ∙ ap Some (sym e)
starts_found p from (suc n) (suc j) l t h =
    let e : from + PAGE_SIZE * 0 ≡ from = omega arith in
    let f : from + PAGE_SIZE + PAGE_SIZE * j ≡ from + PAGE_SIZE * suc j = omega arith in
    cond-false _ _ _ (ap p (sym e) ∙ h 0 (omega arith))
    ∙ starts_found p (from + PAGE_SIZE) n j (omega arith) (ap p f ∙ t)
    (λ i b. let g : from + PAGE_SIZE + PAGE_SIZE * i ≡ from + PAGE_SIZE * suc i = omega arith in ap p g ∙ h (suc i) (omega arith))
    ∙ ap Some f

no_place : (ms : List Mapping) (pages start : ℕ) → (IsPlace ms pages start → ⊥) → is_place ms pages start ≡ false
no_place ms pages start h = elim (bool_cases (is_place ms pages start)) [ inl t ↦ absurd (h (place-facts ms pages start t)) | inr f ↦ f ]

least_of_all : (ms : List Mapping) (pages n : ℕ) (o : Option ℕ) → n ≡ (SECONDARY_END - SECONDARY_START) / PAGE_SIZE → LeastFrom (SECONDARY_START + PAGE_SIZE) pages ms o
    → find (is_place ms pages) (page_starts SECONDARY_START n) ≡ o
least_of_all ms pages n None e r = starts_none (is_place ms pages) SECONDARY_START n (λ i l. no_place ms pages _ (λ p. r _ p.above p.fits))
least_of_all ms pages n (Some s) e r =
    let a = r.above in
    let b = r.aligned in
    let c = r.fits.below in
    let j = (s - SECONDARY_START) / PAGE_SIZE in
    let q : SECONDARY_START + PAGE_SIZE * j ≡ s = omega arith in
    let t : is_place ms pages s ≡ true = facts-place ms pages s (record { aligned = b; above = a; fits = r.fits }) in
    starts_found (is_place ms pages) SECONDARY_START n j (omega arith) (ap (is_place ms pages) q ∙ t)
    (λ i l. no_place ms pages (SECONDARY_START + PAGE_SIZE * i) (λ p. let x : s ≤ SECONDARY_START + PAGE_SIZE * i = r.least _ p.above p.fits in omega arith))
    ∙ ap Some q

pub place_of-gap : (ms : List Mapping) (pages : ℕ) → AreMappings ms → gap_from (SECONDARY_START + PAGE_SIZE) pages ms ≡ place_of ms pages
unfolding AreMappings place_of
place_of-gap ms pages a = sym (least_of_all ms pages ((SECONDARY_END - SECONDARY_START) / PAGE_SIZE) (gap_from (SECONDARY_START + PAGE_SIZE) pages ms) refl (gap_least ms (SECONDARY_START + PAGE_SIZE) pages (omega arith) a))

-- ---- the code's pass

pub record Passed (ms : List Mapping) (i start pages : ℕ) (m : Mapping) : Type 0 where
  pub above : start ≤ m.start
  pub end : end_of m + PAGE_SIZE ≤ SECONDARY_END
  pub more : AreFrom (end_of m + PAGE_SIZE) (drop (i + 1) ms)
  pub gap : gap_from start pages (drop i ms) ≡ cond (nat_le (start + PAGE_SIZE * pages + PAGE_SIZE) m.start) (Some start) (gap_from (end_of m + PAGE_SIZE) pages (drop (i + 1) ms))

-- at the mapping i
pub passed : (ms : List Mapping) (i start pages : ℕ) (d : Mapping) → AreFrom start (drop i ms) → i < length ms → Passed ms i start pages (get_or ms i d)
unfolding gap_from
passed ms i start pages d a l =
    let n : suc i ≡ i + 1 = omega arith in
    let e : drop i ms ≡ get_or ms i d ∷ drop (i + 1) ms = drop-cons ms i d l ∙ ap (λ k. get_or ms i d ∷ drop k ms) n in
    let r : AreFrom start (get_or ms i d ∷ drop (i + 1) ms) = subst (AreFrom start) e a in
    record {
      above = r.0.above;
      end = end_below (drop (i + 1) ms) (end_of (get_or ms i d) + PAGE_SIZE) r.1;
      more = r.1;
      gap = ap (gap_from start pages) e;
    }

pub gap_here : (ms : List Mapping) (i start pages : ℕ) (m : Mapping) (b : Bool) → AreMappings ms → Passed ms i start pages m → gap_from start pages (drop i ms) ≡ gap_from (SECONDARY_START + PAGE_SIZE) pages ms
    → b ≡ nat_le (start + PAGE_SIZE * pages + PAGE_SIZE) m.start → b ≡ true → Some start ≡ place_of ms pages
gap_here ms i start pages m b a p r e t = sym (cond-true _ _ _ (sym e ∙ t)) ∙ sym p.gap ∙ r ∙ place_of-gap ms pages a

pub gap_later : (ms : List Mapping) (i start pages : ℕ) (m : Mapping) (b : Bool) → Passed ms i start pages m → gap_from start pages (drop i ms) ≡ gap_from (SECONDARY_START + PAGE_SIZE) pages ms
    → b ≡ nat_le (start + PAGE_SIZE * pages + PAGE_SIZE) m.start → b ≡ false → gap_from (end_of m + PAGE_SIZE) pages (drop (i + 1) ms) ≡ gap_from (SECONDARY_START + PAGE_SIZE) pages ms
gap_later ms i start pages m b p r e t = sym (cond-false _ _ _ (sym e ∙ t)) ∙ sym p.gap ∙ r

none_dropped : (i : ℕ) → drop {A = Mapping} i [] ≡ []
none_dropped zero = refl
none_dropped (suc i) = refl

all_dropped : (ms : List Mapping) (i : ℕ) → length ms ≤ i → drop i ms ≡ []
all_dropped [] i l = none_dropped i
all_dropped (m ∷ more) zero l = absurd (omega arith)
all_dropped (m ∷ more) (suc i) l = all_dropped more i (omega arith)

pub start_below : (ms : List Mapping) (i start : ℕ) → AreFrom start (drop i ms) → start ≤ SECONDARY_END
start_below ms i start a = end_below (drop i ms) start a

pub gap_at_end : (ms : List Mapping) (i start pages : ℕ) (b : Bool) → AreMappings ms → length ms ≤ i → gap_from start pages (drop i ms) ≡ gap_from (SECONDARY_START + PAGE_SIZE) pages ms
    → b ≡ nat_le (start + PAGE_SIZE * pages + PAGE_SIZE) SECONDARY_END → cond b (Some start) None ≡ place_of ms pages
unfolding gap_from
gap_at_end ms i start pages b a l r e =
    ap (λ x. cond x (Some start) None) e ∙ ap (gap_from start pages) (sym (all_dropped ms i l)) ∙ r ∙ place_of-gap ms pages a

-- ---- a place that is taken

pub AreMappings-added : (ms : List Mapping) (start pages user : ℕ) → AreMappings ms → 0 < pages → is_place ms pages start ≡ true → start ≤ user → user < start + PAGE_SIZE * pages
    → AreMappings (with_mapping ms (record { start = start; pages = pages; user = user }))
AreMappings-added ms start pages user a s p first last =
    let f = place-facts ms pages start p in
    AreMappings-with_mapping ms _ a (record { above = f.above; aligned = f.aligned; some = s; first = first; last = last }) f.fits.below f.fits.apart

found_passes : (p : ℕ → Bool) (xs : List ℕ) → IfSome (find p xs) (λ s. p s ≡ true)
found_passes p [] = tt
found_passes p (x ∷ xs) = elim (bool_cases (p x)) [
  | inl t ↦ subst (λ o. IfSome o (λ s. p s ≡ true)) (sym (cond-true _ _ _ t)) t
  | inr f ↦ subst (λ o. IfSome o (λ s. p s ≡ true)) (sym (cond-false _ _ _ f)) (found_passes p xs)
]

pub place_of-fits : (ms : List Mapping) (pages : ℕ) (o : Option ℕ) → o ≡ place_of ms pages → IfSome o (λ s. is_place ms pages s ≡ true)
unfolding place_of
place_of-fits ms pages o e = subst (λ x. IfSome x (λ s. is_place ms pages s ≡ true)) (sym e) (found_passes (is_place ms pages) (page_starts SECONDARY_START ((SECONDARY_END - SECONDARY_START) / PAGE_SIZE)))

least_by : (ms : List Mapping) (pages : ℕ) (o : Option ℕ) → LeastFrom (SECONDARY_START + PAGE_SIZE) pages ms o → IfSome o (λ s. (lower : ℕ) → is_place ms pages lower ≡ true → s ≤ lower)
least_by ms pages None r = tt
least_by ms pages (Some s) r = λ lower t. let f = place-facts ms pages lower t in r.least lower f.above f.fits

none_by : (ms : List Mapping) (pages : ℕ) (o : Option ℕ) → LeastFrom (SECONDARY_START + PAGE_SIZE) pages ms o → IfNone o ((start : ℕ) → is_place ms pages start ≡ false)
none_by ms pages None r = λ start. no_place ms pages start (λ p. r start p.above p.fits)
none_by ms pages (Some s) r = tt

least_of : (ms : List Mapping) (pages : ℕ) → AreMappings ms → LeastFrom (SECONDARY_START + PAGE_SIZE) pages ms (place_of ms pages)
unfolding AreMappings
least_of ms pages a = subst (LeastFrom (SECONDARY_START + PAGE_SIZE) pages ms) (place_of-gap ms pages a) (gap_least ms (SECONDARY_START + PAGE_SIZE) pages (omega arith) a)

pub place_of-least : (ms : List Mapping) (pages : ℕ) (o : Option ℕ) → AreMappings ms → o ≡ place_of ms pages → IfSome o (λ s. (lower : ℕ) → is_place ms pages lower ≡ true → s ≤ lower)
place_of-least ms pages o a e = least_by ms pages o (subst (LeastFrom (SECONDARY_START + PAGE_SIZE) pages ms) (sym e) (least_of ms pages a))

pub place_of-none : (ms : List Mapping) (pages : ℕ) (o : Option ℕ) → AreMappings ms → o ≡ place_of ms pages → IfNone o ((start : ℕ) → is_place ms pages start ≡ false)
place_of-none ms pages o a e = none_by ms pages o (subst (LeastFrom (SECONDARY_START + PAGE_SIZE) pages ms) (sym e) (least_of ms pages a))
