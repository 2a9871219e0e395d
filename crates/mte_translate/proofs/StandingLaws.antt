-- What stands after each call.
use Rattle.std.proofs.Common.{◌≡◌, ◌≢◌, ◌⊎◌, ℕ, ◌-◌, ◌≤◌, ◌==◌, Bool, true, false, not, cond, List, [], ◌∷◌, ◌++◌, length, filter, Option, Some, None, refl, ap, subst, inl, inr, arith}
use Rattle.std.specs.Prelude.{find, option_map, All, Contains}
use Rattle.std.proofs.lemmas.List.Elements.{All-push, All-drop, All-filter, All-weaker, All-contains_itself, filter_passes, Contains-append_right}
use Rattle.mte_tags.specs.declared.attrs.Attrs.{Attrs}
use Rattle.mte_translate.specs.declared.translation.Translation.{Translation}
use Rattle.mte_translate.specs.Translations.{is_for, lookup, with_translation, without, without_asid, newest}
use Rattle.mte_translate.proofs.TlbLemmas.{fewer-drop, none-left, same-left, same-right}

pub fill-stands : (t : Translation) (ts : List Translation) → All (λ u. Contains ts u ⊎ (t ≡ u)) (with_translation t ts)
fill-stands t ts =
    let old = All-weaker (Contains ts) (λ u. Contains ts u ⊎ (t ≡ u)) (λ u h. inl h) ts (All-contains_itself ts) in
    let others = All-filter (λ u. not (is_for t.asid t.page u)) (λ u. Contains ts u ⊎ (t ≡ u)) ts old in
    All-push (λ u. Contains ts u ⊎ (t ≡ u)) (newest 63 (without t.asid t.page ts)) t (All-drop (λ u. Contains ts u ⊎ (t ≡ u)) (length (without t.asid t.page ts) - 63) (without t.asid t.page ts) others) (inr refl)

find-last : {X : Type 0} (p : X → Bool) (xs : List X) (y : X) → length (filter p xs) ≤ 0 → p y ≡ true → find p (xs ++ y ∷ []) ≡ Some y
find-last p [] y none is = ap (λ b. cond b (Some y) None) is
find-last p (x ∷ xs) y none is = grind (arith, find-last p xs y)

is-own : (t : Translation) → is_for t.asid t.page t ≡ true
is-own t = grind arith

pub fill-found : (t : Translation) (ts : List Translation) → lookup t.asid t.page (with_translation t ts) ≡ Some (t.frame, t.attrs)
fill-found t ts =
    let less = fewer-drop (is_for t.asid t.page) (length (without t.asid t.page ts) - 63) (without t.asid t.page ts) in
    let zero_left = ap length (none-left (is_for t.asid t.page) ts) in
    let none : length (filter (is_for t.asid t.page) (newest 63 (without t.asid t.page ts))) ≤ 0 = omega (arith, less, zero_left) in
    ap (option_map (λ (u : Translation). (u.frame, u.attrs))) (find-last (is_for t.asid t.page) (newest 63 (without t.asid t.page ts)) t none (is-own t))

not-true : (b : Bool) → not b ≡ true → b ≡ false
not-true true e = grind (arith, e)
not-true false e = refl

other-number : (a b : ℕ) → not (a == b) ≡ true → a ≢ b
other-number a b e = λ same. absurd (grind (arith, e, same))

pub forget-page : (asid page : ℕ) (ts : List Translation) → All (λ u. Contains ts u × (is_for asid page u ≡ false)) (without asid page ts)
forget-page asid page ts =
    let old = All-filter (λ u. not (is_for asid page u)) (Contains ts) ts (All-contains_itself ts) in
    let other = filter_passes (λ u. not (is_for asid page u)) ts in
    λ k d l. (old k d l, not-true _ (other k d l))

pub forget-asid : (asid : ℕ) (ts : List Translation) → All (λ u. Contains ts u × (u.asid ≢ asid)) (without_asid asid ts)
forget-asid asid ts =
    let old = All-filter (λ (u : Translation). not (u.asid == asid)) (Contains ts) ts (All-contains_itself ts) in
    let other = filter_passes (λ (u : Translation). not (u.asid == asid)) ts in
    λ k d l. (old k d l, other-number _ asid (other k d l))

find-passes : {X : Type 0} (p : X → Bool) (xs : List X) (y : X) → find p xs ≡ Some y → p y ≡ true
find-passes p [] y e = grind (arith, e)
find-passes p (x ∷ xs) y e = grind (arith, e, find-passes p xs y)

some-same : {X : Type 0} (x y : X) → Some x ≡ Some y → x ≡ y
some-same x y e = grind (arith, e)

find-stands : {X : Type 0} (p : X → Bool) (xs : List X) (y : X) → find p xs ≡ Some y → Contains xs y
find-stands p [] y e = absurd (grind (arith, e))
find-stands {X} p (x ∷ xs) y e = at (find-stands p xs y) (p x) e
  where
    at : (find p xs ≡ Some y → Contains xs y) → (b : Bool) → cond b (Some x) (find p xs) ≡ Some y → Contains (x ∷ xs) y
    at later true h = (0, omega arith, some-same x y h)
    at later false h = Contains-append_right (x ∷ []) xs y (later h)

pub lookup-stands : (asid page frame : ℕ) (attrs : Attrs) (ts : List Translation) → lookup asid page ts ≡ Some (frame, attrs) → Contains ts (record { asid = asid; page = page; frame = frame; attrs = attrs })
lookup-stands asid page frame attrs ts e = found (find (is_for asid page) ts) refl e
  where
    found : (o : Option Translation) → find (is_for asid page) ts ≡ o → option_map {U = ℕ × Attrs} (λ (t : Translation). (t.frame, t.attrs)) o ≡ Some (frame, attrs) → Contains ts (record { asid = asid; page = page; frame = frame; attrs = attrs })
    found None h e2 = absurd (grind (arith, e2))
    found (Some u) h e2 =
        let is : is_for asid page u ≡ true = find-passes (is_for asid page) ts u h in
        let a : u.asid ≡ asid = same-left u.asid asid u.page page is in
        let b : u.page ≡ page = same-right u.asid asid u.page page is in
        let both : (u.frame, u.attrs) ≡ (frame, attrs) = some-same _ _ e2 in
        let same : u ≡ record { asid = asid; page = page; frame = frame; attrs = attrs } = λ i. record { asid = a i; page = b i; frame = (both i).0; attrs = (both i).1 } in
        subst (Contains ts) same (find-stands (is_for asid page) ts u h)
