-- Lists by position: one element changes, or one more comes.
use Rattle.std.proofs.Common.{◌≡◌, ◌≢◌, ℕ, zero, suc, ◌+◌, ◌<◌, List, [], ◌∷◌, ◌++◌, map, length, slice_set, sum_by}
use Rattle.std.proofs.Common.{Some, refl, ap, sym, ◌∙◌, ◌-◌, arith, get_or, take, inl, inr, length-append}
use Rattle.std.specs.Prelude.{swap_remove}
use Rattle.std.specs.List.{slice_get}
use Rattle.std.proofs.lemmas.Bool.{cases_eq}
use Rattle.std.proofs.lemmas.List.{length-set, length-take-le, get_or-take, get_or-set_same, get_or-set_other, get_or_append_left, get_or_push, get_or_default, ext_get_or}
use Rattle.std.proofs.lemmas.List.Sums.{sum_by-cons}

pub some_same : {X : Type 0} (x y : X) → Some x ≡ Some y → x ≡ y
some_same x y e = cc

pub get-set-same : {X : Type 0} (xs : List X) (i : ℕ) (x : X) → i < length xs → slice_get (slice_set xs i x) i ≡ Some x
get-set-same [] i x h = absurd (omega (arith, h))
get-set-same (y ∷ ys) zero x h = refl
get-set-same (y ∷ ys) (suc i) x h = get-set-same ys i x (omega (arith, h))

pub get-set-other : {X : Type 0} (xs : List X) (i j : ℕ) (x : X) → j ≢ i → slice_get (slice_set xs i x) j ≡ slice_get xs j
get-set-other [] i j x d = refl
get-set-other (y ∷ ys) zero zero x d = absurd (d refl)
get-set-other (y ∷ ys) zero (suc j) x d = refl
get-set-other (y ∷ ys) (suc i) zero x d = refl
get-set-other (y ∷ ys) (suc i) (suc j) x d = get-set-other ys i j x (λ e. d (ap suc e))

pub get-last : {X : Type 0} (xs : List X) (x : X) → slice_get (xs ++ x ∷ []) (length xs) ≡ Some x
get-last [] x = refl
get-last (y ∷ ys) x = get-last ys x

pub get-before : {X : Type 0} (xs : List X) (x : X) (i : ℕ) → i ≢ length xs → slice_get (xs ++ x ∷ []) i ≡ slice_get xs i
get-before [] x zero d = absurd (d refl)
get-before [] x (suc i) d = refl
get-before (y ∷ ys) x zero d = refl
get-before (y ∷ ys) x (suc i) d = get-before ys x i (λ e. d (ap suc e))

pub get-append : {X : Type 0} (xs ys : List X) (i : ℕ) (x : X) → slice_get xs i ≡ Some x → slice_get (xs ++ ys) i ≡ Some x
get-append [] ys i x h = absurd cc
get-append (z ∷ zs) ys zero x h = h
get-append (z ∷ zs) ys (suc i) x h = get-append zs ys i x h

-- ys is xs with x at the place i, which may be a new one.
pub record HasAt {X : Type 0} (xs ys : List X) (i : ℕ) (x : X) : Type 0 where
  pub here : slice_get ys i ≡ Some x
  pub other : (j : ℕ) → j ≢ i → slice_get ys j ≡ slice_get xs j

pub has_set : {X : Type 0} (xs : List X) (i : ℕ) (x : X) → i < length xs → HasAt xs (slice_set xs i x) i x
has_set xs i x h = record { here = get-set-same xs i x h; other = λ j d. get-set-other xs i j x d }

pub has_more : {X : Type 0} (xs : List X) (x : X) → HasAt xs (xs ++ x ∷ []) (length xs) x
has_more xs x = record { here = get-last xs x; other = λ j d. get-before xs x j d }

-- An element is taken out, the last taking its place, and another is put back in that place.
pub put_back : {X : Type 0} (xs ys zs : List X) (i n : ℕ) (x y : X) → i < length xs → length xs ≡ n + 1 → ys ≡ swap_remove xs i x
    → zs ≡ slice_set (slice_set (ys ++ y ∷ []) i (get_or (ys ++ y ∷ []) n y)) n (get_or (ys ++ y ∷ []) i y) → zs ≡ slice_set xs i y
put_back {X} xs ys zs i n x y l len taken back =
    let more : List X = ys ++ y ∷ [] in
    let m : length xs - 1 ≡ n = omega arith in
    let lset : length (slice_set xs i (get_or xs (length xs - 1) x)) ≡ length xs = length-set xs i _ in
    let rest : length ys ≡ n = ap length taken ∙ length-take-le (length xs - 1) (slice_set xs i (get_or xs (length xs - 1) x)) (omega arith) ∙ m in
    let lmore : length more ≡ n + 1 = length-append ys (y ∷ []) ∙ omega (arith, rest) in
    let last : get_or more n y ≡ y = get_or_push ys y y n rest in
    let at : (k : ℕ) → k < n → get_or more k y ≡ get_or (slice_set xs i (get_or xs n x)) k y = λ k h.
    get_or_append_left ys (y ∷ []) y k (omega arith) ∙ ap (λ t. get_or t k y) (taken ∙ ap (λ t. take t (slice_set xs i (get_or xs t x))) m) ∙ get_or-take n (slice_set xs i (get_or xs n x)) k y h in
    let lz : length zs ≡ length xs = ap length back ∙ length-set (slice_set more i _) n _ ∙ length-set more i _ ∙ lmore ∙ sym len in
    let lw : length (slice_set xs i y) ≡ length xs = length-set xs i y in
    ext_get_or y zs (slice_set xs i y) (lz ∙ sym lw) (λ k h.
    ap (λ t. get_or t k y) back ∙ elim (cases_eq k n) [
      | inl e ↦
          ap (λ t. get_or (slice_set (slice_set more i (get_or more n y)) n (get_or more i y)) t y) e
          ∙ get_or-set_same (slice_set more i (get_or more n y)) n (get_or more i y) y (let q = length-set more i (get_or more n y) in omega arith)
          ∙ elim (cases_eq i n) [
            | inl f ↦ ap (λ t. get_or more t y) f ∙ last ∙ sym (ap (λ t. get_or (slice_set xs t y) k y) (f ∙ sym e) ∙ get_or-set_same xs k y y (omega arith))
            | inr d ↦ at i (omega arith) ∙ get_or-set_same xs i (get_or xs n x) y l ∙ get_or_default xs n x y (omega arith) ∙ sym (get_or-set_other xs i k y y (λ q. d (sym q ∙ e)) ∙ ap (λ t. get_or xs t y) e)
          ]
      | inr d ↦
          get_or-set_other (slice_set more i (get_or more n y)) n k (get_or more i y) y d
          ∙ elim (cases_eq k i) [
            | inl e ↦ ap (λ t. get_or (slice_set more i (get_or more n y)) t y) e ∙ get_or-set_same more i (get_or more n y) y (omega arith) ∙ last ∙ sym (ap (λ t. get_or (slice_set xs i y) t y) e ∙ get_or-set_same xs i y y l)
            | inr f ↦ get_or-set_other more i k (get_or more n y) y f ∙ at k (omega arith) ∙ get_or-set_other xs i k (get_or xs n x) y f ∙ sym (get_or-set_other xs i k y y f)
          ]
    ])

-- ---- maps

pub map_same : {X Y : Type 0} (f g : X → Y) (xs : List X) → ((j : ℕ) (u : X) → slice_get xs j ≡ Some u → f u ≡ g u) → map f xs ≡ map g xs
map_same f g [] h = refl
map_same f g (x ∷ xs) h = ap (λ y. y ∷ map f xs) (h 0 x refl) ∙ ap (λ l. g x ∷ l) (map_same f g xs (λ j u e. h (suc j) u e))

pub map_each : {X Y : Type 0} (f g : X → Y) (act : Y → Y) (zs : List X) → ((j : ℕ) (u : X) → slice_get zs j ≡ Some u → f u ≡ act (g u)) → map f zs ≡ map act (map g zs)
map_each f g act [] h = refl
map_each f g act (z ∷ zs) h = ap (λ w. w ∷ map f zs) (h 0 z refl) ∙ ap (λ l. act (g z) ∷ l) (map_each f g act zs (λ j u e. h (suc j) u e))

pub map_turn : {X Y : Type 0} (f g : X → Y) (act : Y → Y) (xs : List X) (i : ℕ) (x : X)
    → ((j : ℕ) (u : X) → j ≢ i → slice_get xs j ≡ Some u → f u ≡ act (g u))
    → ((u : X) → slice_get xs i ≡ Some u → f x ≡ act (g u))
    → map f (slice_set xs i x) ≡ map act (map g xs)
map_turn f g act [] i x others own = refl
map_turn f g act (y ∷ ys) zero x others own =
    ap (λ z. z ∷ map f ys) (own y refl) ∙ ap (λ l. act (g y) ∷ l) (map_each f g act ys (λ j u e. others (suc j) u (λ s. let z : suc j ≡ 0 = s in omega (arith, z)) e))
map_turn f g act (y ∷ ys) (suc i) x others own =
    ap (λ z. z ∷ map f (slice_set ys i x)) (others 0 y (λ s. let z : 0 ≡ suc i = s in omega (arith, z)) refl)
    ∙ ap (λ l. act (g y) ∷ l) (map_turn f g act ys i x (λ j u d e. others (suc j) u (λ s. d (let z : suc j ≡ suc i = s in omega (arith, z))) e) own)

pub map-set_same : {X Y : Type 0} (f : X → Y) (xs : List X) (i : ℕ) (x : X) → ((u : X) → slice_get xs i ≡ Some u → f x ≡ f u) → map f (slice_set xs i x) ≡ map f xs
map-set_same f [] i x own = refl
map-set_same f (y ∷ ys) zero x own = ap (λ z. z ∷ map f ys) (own y refl)
map-set_same f (y ∷ ys) (suc i) x own = ap (λ l. f y ∷ l) (map-set_same f ys i x own)

pub sum_turn : {X Y : Type 0} (w : Y → ℕ) (f : X → Y) (xs : List X) (i : ℕ) (x u : X) → slice_get xs i ≡ Some u → sum_by w (map f (slice_set xs i x)) + w (f u) ≡ sum_by w (map f xs) + w (f x)
sum_turn w f [] i x u e = absurd cc
sum_turn w f (y ∷ ys) zero x u e =
    let same : y ≡ u = some_same y u e in
    let was : w (f y) ≡ w (f u) = ap (λ z. w (f z)) same in
    omega (arith, was, sum_by-cons w (f x) (map f ys), sum_by-cons w (f y) (map f ys))
sum_turn w f (y ∷ ys) (suc i) x u e =
    omega (arith, sum_turn w f ys i x u e, sum_by-cons w (f y) (map f (slice_set ys i x)), sum_by-cons w (f y) (map f ys))
