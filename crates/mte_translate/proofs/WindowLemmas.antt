-- The window of a row in which translations stand.
use Rattle.std.proofs.Common.{◌≡◌, ◌∙◌, ℕ, ◌+◌, ◌-◌, ◌<◌, ◌≤◌, List, [], ◌∷◌, ◌++◌, length, take, drop, get_or, set, inl, inr, sym, ap, arith}
use Rattle.std.specs.List.{remove}
use Rattle.std.proofs.lemmas.List.{length-take-le, length-drop, get_or-take, get_or-drop, drop-drop, drop-take, drop-set-add, take_more_set, same_lists}
use Rattle.std.proofs.lemmas.List.Edits.{length-remove, get_or-remove_below, get_or-remove_above}
use Rattle.std.proofs.lemmas.Bool.{cases_lt}

module _ {X : Type 0} where
  pub window-long : (xs : List X) (first end : ℕ) → first ≤ end → end ≤ length xs → length (take (end - first) (drop first xs)) ≡ end - first
  window-long xs first end l m = length-take-le (end - first) (drop first xs) (let d = length-drop first xs in omega (arith, d, m))

  window-at : (xs : List X) (first end k : ℕ) (d : X) → first + k < end → get_or (take (end - first) (drop first xs)) k d ≡ get_or xs (first + k) d
  window-at xs first end k d l = get_or-take (end - first) (drop first xs) k d (omega (arith, l)) ∙ get_or-drop first xs k d

  pub window-front : (xs : List X) (first end : ℕ) → first ≡ 0 → take (end - first) (drop first xs) ≡ take end xs
  window-front xs first end e =
      let all : end - 0 ≡ end = omega arith in
      ap (λ n. take (end - n) (drop n xs)) e ∙ ap (λ n. take n xs) all

  pub window-drop : (xs : List X) (first end : ℕ) → first < end → take (end - (first + 1)) (drop (first + 1) xs) ≡ drop 1 (take (end - first) (drop first xs))
  window-drop xs first end l =
      let one : end - first ≡ 1 + (end - (first + 1)) = omega (arith, l) in
      sym (ap (λ n. drop 1 (take n (drop first xs))) one ∙ drop-take 1 (end - (first + 1)) (drop first xs) ∙ ap (take (end - (first + 1))) (drop-drop 1 first xs))

  pub window-push : (xs : List X) (first end : ℕ) (x : X) → first ≤ end → end < length xs → take (end + 1 - first) (drop first (set xs end x)) ≡ take (end - first) (drop first xs) ++ x ∷ []
  window-push xs first end x l m =
      let one : end + 1 - first ≡ end - first + 1 = omega (arith, l) in
      let at : end ≡ first + (end - first) = omega (arith, l) in
      let long = length-drop first xs in
      ap (λ n. take n (drop first (set xs end x))) one ∙ ap (λ n. take (end - first + 1) (drop first (set xs n x))) at
      ∙ ap (take (end - first + 1)) (drop-set-add first xs (end - first) x) ∙ take_more_set (drop first xs) (end - first) x (omega (arith, long, l, m))

  pub window-remove :
      (xs ys : List X) (first end place i : ℕ) → first + i ≡ place → place < end → end ≤ length xs → length ys ≡ length xs
      → ((k : ℕ) (d : X) → k < place → get_or ys k d ≡ get_or xs k d)
      → ((k : ℕ) (d : X) → place ≤ k → k < place + (end - (place + 1)) → get_or ys k d ≡ get_or xs (place + 1 + (k - place)) d)
      → take (end - 1 - first) (drop first ys) ≡ remove (take (end - first) (drop first xs)) i
  window-remove xs ys first end place i at l m same low high =
      let zs : List X = take (end - first) (drop first xs) in
      let long : length zs ≡ end - first = window-long xs first end (omega (arith, at, l)) m in
      let inside : i < length zs = omega (arith, long, at, l) in
      let less : length (take (end - 1 - first) (drop first ys)) ≡ end - 1 - first = window-long ys first (end - 1) (omega (arith, at, l)) (omega (arith, m, same)) in
      let fewer = length-remove zs i inside in
      same_lists _ _ (omega (arith, less, fewer, long, at, l)) (λ k d h.
      let here : get_or (take (end - 1 - first) (drop first ys)) k d ≡ get_or ys (first + k) d = window-at ys first (end - 1) k d (omega (arith, h, less)) in
      elim (cases_lt k i) [
        | inl older ↦
            here ∙ low (first + k) d (omega (arith, older, at)) ∙ sym (get_or-remove_below zs i d k older inside ∙ window-at xs first end k d (omega (arith, h, less)))
        | inr younger ↦
            let next : place + 1 + (first + k - place) ≡ first + (k + 1) = omega (arith, younger, at) in
            here ∙ high (first + k) d (omega (arith, younger, at)) (omega (arith, h, less, at))
            ∙ ap (λ n. get_or xs n d) next
            ∙ sym (get_or-remove_above zs i d k (omega (arith, younger)) inside ∙ window-at xs first end (k + 1) d (omega (arith, h, less)))
      ])
