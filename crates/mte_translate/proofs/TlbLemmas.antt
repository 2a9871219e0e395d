-- What a filter leaves of lists in which one translation stands for each ASID and page.
use Rattle.std.proofs.Common.{◌≡◌, ℕ, zero, suc, ◌+◌, ◌-◌, ◌<◌, ◌≤◌, ◌==◌, Bool, true, false, not, cond, List, [], ◌∷◌, ◌++◌, length, drop, filter, get_or, Option, Some, None, refl, sym, ap, subst, ◌∙◌, length-append, arith}
use Rattle.std.specs.Prelude.{find, ◌&&◌, option_map}
use Rattle.std.specs.List.{remove}
use Rattle.std.proofs.lemmas.List.Elements.{filter-append}
use Rattle.mte_tags.specs.declared.attrs.Attrs.{Attrs}
use Rattle.mte_translate.specs.declared.translation.Translation.{Translation}
use Rattle.mte_translate.specs.Translations.{is_for, lookup, without, newest, IsOneEach}

module _ {X : Type 0} where
  pub fewer-filter : (p q : X → Bool) (xs : List X) → length (filter p (filter q xs)) ≤ length (filter p xs)
  fewer-filter p q [] = omega arith
  fewer-filter p q (x ∷ xs) = grind (arith, fewer-filter p q xs)

  pub fewer-drop : (p : X → Bool) (n : ℕ) (xs : List X) → length (filter p (drop n xs)) ≤ length (filter p xs)
  fewer-drop p zero xs = omega arith
  fewer-drop p (suc n) [] = omega arith
  fewer-drop p (suc n) (x ∷ xs) = grind (arith, fewer-drop p n xs)

  pub none-left : (p : X → Bool) (xs : List X) → filter p (filter (λ x. not (p x)) xs) ≡ []
  none-left p [] = refl
  none-left p (x ∷ xs) = grind (arith, none-left p xs)

  pub none-found : (p : X → Bool) (xs : List X) → find p (filter (λ x. not (p x)) xs) ≡ None
  none-found p [] = refl
  none-found p (x ∷ xs) = grind (arith, none-found p xs)

  -- where none is found, all are others
  pub others-none : (p : X → Bool) (xs : List X) → find p xs ≡ None → filter (λ x. not (p x)) xs ≡ xs
  others-none p [] e = refl
  others-none p (x ∷ xs) e = grind (arith, others-none p xs)

  at-least-one : (p : X → Bool) (xs : List X) (i : ℕ) (d : X) → i < length xs → p (get_or xs i d) ≡ true → 0 < length (filter p xs)
  at-least-one p [] i d l e = absurd (omega (arith, l))
  at-least-one p (x ∷ xs) zero d l e = grind (arith, e)
  at-least-one p (x ∷ xs) (suc i) d l e =
      let some = at-least-one p xs i d (omega (arith, l)) e in
      grind (arith, some)

  -- where one passes at most, the one that passes is the one that is found
  pub the-one : (p : X → Bool) (xs : List X) (i : ℕ) (d : X) → length (filter p xs) ≤ 1 → i < length xs → p (get_or xs i d) ≡ true → find p xs ≡ Some (get_or xs i d)
  the-one p [] i d one l e = absurd (omega (arith, l))
  the-one p (x ∷ xs) zero d one l e = ap (λ b. cond b (Some x) (find p xs)) e
  the-one p (x ∷ xs) (suc i) d one l e =
      let inside : i < length xs = omega (arith, l) in
      let some = at-least-one p xs i d inside e in
      let few : length (filter p xs) ≤ 1 = grind (arith, one) in
      let rest = the-one p xs i d few inside e in
      grind (arith, one, some, rest)

  -- where one passes at most, all others stand but for it
  none-passes : (p : X → Bool) (xs : List X) → length (filter p xs) ≤ 0 → filter (λ x. not (p x)) xs ≡ xs
  none-passes p [] e = refl
  none-passes p (x ∷ xs) e = grind (arith, none-passes p xs)

  pub others-of : (p : X → Bool) (xs : List X) (i : ℕ) (d : X) → length (filter p xs) ≤ 1 → i < length xs → p (get_or xs i d) ≡ true → filter (λ x. not (p x)) xs ≡ remove xs i
  others-of p [] i d one l e = absurd (omega (arith, l))
  others-of p (x ∷ xs) zero d one l e =
      let none : length (filter p xs) ≤ 0 = grind (arith, one, e) in
      let rest = none-passes p xs none in
      grind (arith, e, rest)
  others-of p (x ∷ xs) (suc i) d one l e =
      let inside : i < length xs = omega (arith, l) in
      let some = at-least-one p xs i d inside e in
      let few : length (filter p xs) ≤ 1 = grind (arith, one) in
      let rest = others-of p xs i d few inside e in
      grind (arith, one, some, rest)

pub one-each-filter : (q : Translation → Bool) (ts us : List Translation) → IsOneEach ts → us ≡ filter q ts → IsOneEach us
one-each-filter q ts us one e asid page =
    let less = fewer-filter (is_for asid page) q ts in
    let most = one asid page in
    rw e (omega (arith, less, most))

pub one-each-drop : (n : ℕ) (ts us : List Translation) → IsOneEach ts → us ≡ drop n ts → IsOneEach us
one-each-drop n ts us one e asid page =
    let less = fewer-drop (is_for asid page) n ts in
    let most = one asid page in
    rw e (omega (arith, less, most))

-- where none stands, all are others
pub others-all : (asid page : ℕ) (ts : List Translation) → lookup asid page ts ≡ None → without asid page ts ≡ ts
others-all asid page ts none = found (find (is_for asid page) ts) refl none
  where
    found : (o : Option Translation) → find (is_for asid page) ts ≡ o → option_map {U = ℕ × Attrs} (λ (t : Translation). (t.frame, t.attrs)) o ≡ None → without asid page ts ≡ ts
    found None e h = others-none (is_for asid page) ts e
    found (Some t) e h = absurd (grind (arith, h))

-- No translation stands for a page whose translation was dropped.
pub none-without : (asid page : ℕ) (ts : List Translation) → lookup asid page (without asid page ts) ≡ None
none-without asid page ts = ap (option_map (λ (t : Translation). (t.frame, t.attrs))) (none-found (is_for asid page) ts)

pub same-left : (a b c d : ℕ) → ((a == b) && (c == d)) ≡ true → a ≡ b
same-left a b c d e = grind arith

pub same-right : (a b c d : ℕ) → ((a == b) && (c == d)) ≡ true → c ≡ d
same-right a b c d e = grind arith

-- a translation put after those of other pages
pub one-each-push : (t : Translation) (old ts us : List Translation) → IsOneEach ts → ts ≡ newest 63 (without t.asid t.page old) → us ≡ ts ++ t ∷ [] → IsOneEach us
one-each-push t old ts us one others e asid page = rw e (split (is_for asid page t) refl)
  where
    none : length (filter (is_for t.asid t.page) ts) ≤ 0
    none =
        let less = fewer-drop (is_for t.asid t.page) (length (without t.asid t.page old) - 63) (without t.asid t.page old) in
        let zero_left = ap length (none-left (is_for t.asid t.page) old) in
        rw others (omega (arith, less, zero_left))

    one_more : (b : Bool) → is_for asid page t ≡ b → length (filter (is_for asid page) ts) + length (cond b (t ∷ []) []) ≤ 1
    one_more false h = let most = one asid page in omega (arith, most)
    one_more true h =
        let a : t.asid ≡ asid = same-left t.asid asid t.page page h in
        let b : t.page ≡ page = same-right t.asid asid t.page page h in
        let left : length (filter (is_for asid page) ts) ≤ 0 = subst (λ x. length (filter (is_for x page) ts) ≤ 0) a (subst (λ y. length (filter (is_for t.asid y) ts) ≤ 0) b none) in
        omega (arith, left)

    split : (b : Bool) → is_for asid page t ≡ b → length (filter (is_for asid page) (ts ++ t ∷ [])) ≤ 1
    split b h =
        let parts = filter-append (is_for asid page) ts (t ∷ []) in
        let last : filter (is_for asid page) (t ∷ []) ≡ cond b (t ∷ []) [] = ap (λ x. cond x (t ∷ []) []) h in
        let long = ap length parts ∙ length-append (filter (is_for asid page) ts) (filter (is_for asid page) (t ∷ [])) in
        let last_long = ap length last in
        let more = one_more b h in
        omega (arith, long, last_long, more)

-- the translation that a hint names
pub lookup-at : (asid page : ℕ) (old ts : List Translation) (i : ℕ) (t : Translation) → IsOneEach ts → ts ≡ old → i < length ts → t ≡ get_or ts i t → is_for asid page t ≡ true → lookup asid page old ≡ Some (t.frame, t.attrs)
lookup-at asid page old ts i t one same l here e =
    let found = the-one (is_for asid page) ts i t (one asid page) l (sym (ap (is_for asid page) here) ∙ e) in
    ap (lookup asid page) (sym same) ∙ ap (option_map (λ (u : Translation). (u.frame, u.attrs))) (found ∙ ap Some (sym here))
