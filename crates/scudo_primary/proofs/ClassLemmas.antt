-- One class: the blocks that the cache holds of it, the pool, and their one stack.
use Rattle.std.proofs.Common.{◌≡◌, ◌≢◌, ℕ, zero, suc, ◌-◌, ◌/◌, ◌<◌, ◌≤◌, Bool, true, false, List, [], ◌∷◌, ◌++◌, length, take, drop, reverse, get_or, set, slice_get, Option, Some, None, refl, sym, ap, subst, ◌∙◌, arith, nat_eq, eqb, cond, eq-eqb}
use Rattle.std.proofs.lemmas.Bool.{cond-true, cond-false}
use Rattle.std.proofs.lemmas.Bool.Decides.{nat_tests}
use Rattle.std.proofs.lemmas.List.{reverse-append, reverse-reverse, append_assoc, take-append-drop, take_all, length-drop, length-append, take_at}
use Rattle.std.proofs.Math.Seq.{take-suc}
use Rattle.std.proofs.lemmas.List.Elements.{All-take, All-get_or, All-push}
use Rattle.std.specs.List.{All, IsDistinct}
use Rattle.scudo_primary.specs.Blocks.{number_of, IsBlock}
use Rattle.scudo_primary.specs.Batches.{max_count_of, first_size}
use Rattle.scudo_header.proofs.ByClassLaws.{value_of-with_value, value_of-with_value_other}
use Rattle.scudo_primary.specs.Pools.{ClassState, PoolState, IsLoose, is_marked, empty_class, class_at, pages_of, with_class, class_with_mark, class_after_pop_batch, class_after_push_batch, with_mark, with_batch, without_batch, top_batch}
use Rattle.scudo_primary.specs.Caches.{Class, KeepsLists, stack_over, after_refill, newest, handed_out, after_take, with_room, after_put}
use Rattle.scudo_primary.specs.CacheInner.{IsHeld, class_with}
use Rattle.scudo_primary.proofs.EntryLemmas.{others-before, distinct-take, distinct-drop, all-loose-mark, used-other, distinct-new, loose-rest}

pub class-same : (k : Class) (xs : List ℕ) (p : PoolState) → xs ≡ k.entries → p ≡ k.pool → class_with xs p ≡ k
class-same k xs p ex ep = ap (λ t. class_with t p) ex ∙ ap (class_with k.entries) ep

-- ---- an empty list of entries gets the top batch

pub after-refill-some : (c : ℕ) (xs : List ℕ) (p : PoolState) → 0 < length xs → class_with xs p ≡ after_refill c xs p
unfolding after_refill
after-refill-some c [] p h = absurd (omega arith)
after-refill-some c (x ∷ xs) p h = refl

pub after-refill-none : (c : ℕ) (xs : List ℕ) (p : PoolState) → length xs ≡ 0 → class_with (top_batch p c) (without_batch p c) ≡ after_refill c xs p
unfolding after_refill
after-refill-none c [] p h = refl
after-refill-none c (x ∷ xs) p h = absurd (omega arith)

-- the front of a buffer of m places, which was written
pub front : (m n : ℕ) (xs b b' : List ℕ) → length b ≡ m → length b' ≡ m → n ≤ m → b' ≡ xs ++ drop n b → take n b' ≡ xs
front m n xs b b' l l' h e =
    let d = length-drop n b in
    let a = length-append xs (drop n b) in
    let t = ap length e in
    let len : length xs ≡ n = omega arith in
    ap (take n) e ∙ take_at xs (drop n b) n len

-- ---- full entries give their oldest half

abbrev pub halved_class : ℕ → List ℕ → PoolState → Class
halved_class c xs p = record { entries = drop (max_count_of c / 2) xs; pool = with_batch p c (take (max_count_of c / 2) xs) }

pub room-full : (c : ℕ) (xs : List ℕ) (p : PoolState) → length xs ≡ max_count_of c → halved_class c xs p ≡ with_room c xs p
unfolding with_room
room-full c xs p h =
    let t : eqb (length xs) (max_count_of c) ≡ true = eq-eqb _ _ h in
    sym (cond-true _ _ _ t)

pub room-left : (c : ℕ) (xs : List ℕ) (p : PoolState) → length xs < max_count_of c → class_with xs p ≡ with_room c xs p
unfolding with_room
room-left c xs p h =
    let t : eqb (length xs) (max_count_of c) ≡ false = grind (arith, nat_tests) in
    sym (cond-false _ _ _ t)

-- ---- what no step changes

-- at most this class of the pool is changed, and how many pages it has stays
pub record KeepsOthers (c : ℕ) (p p' : PoolState) : Type 0 where
  pub others : (d : ℕ) → d ≢ c → class_at p' d ≡ class_at p d
  pub pages : pages_of p' c ≡ pages_of p c
  pub left : p'.left ≡ p.left
  pub capacities : p'.capacities ≡ p.capacities

keeps-all : (c : ℕ) (p : PoolState) → KeepsOthers c p p
keeps-all c p = record { others = λ d n. refl; pages = refl; left = refl; capacities = refl }

keeps-class : (c : ℕ) (p : PoolState) (k : ClassState) → k.pages ≡ pages_of p c → KeepsOthers c p (with_class p c k)
keeps-class c p k e = record {
  others = λ d n. value_of-with_value_other p.classes empty_class c k d n;
  pages = ap (λ (t : ClassState). t.pages) (value_of-with_value p.classes empty_class c k) ∙ e;
  left = refl;
  capacities = refl;
}

keeps-both : (c : ℕ) (p q r : PoolState) → KeepsOthers c p q → KeepsOthers c q r → KeepsOthers c p r
keeps-both c p q r h k = record {
  others = λ d n. k.others d n ∙ h.others d n;
  pages = k.pages ∙ h.pages;
  left = k.left ∙ h.left;
  capacities = k.capacities ∙ h.capacities;
}

keeps-mark : (c b : ℕ) (mark : Bool) (p : PoolState) → KeepsOthers c p (with_mark p c b mark)
keeps-mark c b mark p = keeps-class c p (class_with_mark c (class_at p c) b mark) refl

keeps-refill : (c : ℕ) (xs : List ℕ) (p : PoolState) → KeepsOthers c p (after_refill c xs p).pool
unfolding after_refill
keeps-refill c [] p = keeps-class c p (class_after_pop_batch (class_at p c)) refl
keeps-refill c (x ∷ xs) p = keeps-all c p

keeps-handed : (c : ℕ) (p : PoolState) (o : Option ℕ) → KeepsOthers c p (handed_out c p o)
keeps-handed c p None = keeps-all c p
keeps-handed c p (Some b) = keeps-mark c b false p

pub keeps-taken : (c : ℕ) (xs : List ℕ) (p : PoolState) → KeepsOthers c p (after_take c (after_refill c xs p)).pool
unfolding after_take
keeps-taken c xs p = let k = after_refill c xs p in keeps-both c p k.pool _ (keeps-refill c xs p) (keeps-handed c k.pool (newest k.entries))

pub keeps-room : (c : ℕ) (xs : List ℕ) (p : PoolState) → KeepsOthers c p (with_room c xs p).pool
unfolding with_room
keeps-room c xs p = elim (eqb (length xs) (max_count_of c)) as (λ t. KeepsOthers c p (cond t (halved_class c xs p) (class_with xs p)).pool) [
  | true ↦ keeps-class c p (class_after_push_batch (class_at p c) (take (max_count_of c / 2) xs)) refl
  | false ↦ keeps-all c p
]

pub keeps-put : (c b : ℕ) (xs : List ℕ) (p : PoolState) → KeepsOthers c p (after_put c b (with_room c xs p)).pool
unfolding after_put
keeps-put c b xs p = let k = with_room c xs p in keeps-both c p k.pool _ (keeps-room c xs p) (keeps-mark c b true k.pool)

-- ---- the pool's lists

lists-mark : (c b : ℕ) (mark : Bool) (p : PoolState) → KeepsLists c p (with_mark p c b mark)
lists-mark c b mark p =
    let at = value_of-with_value p.classes empty_class c (class_with_mark c (class_at p c) b mark) in
    record { stack = ap (λ (k : ClassState). k.stack) at; sizes = ap (λ (k : ClassState). k.sizes) at }

lists-handed : (c : ℕ) (p : PoolState) (o : Option ℕ) → KeepsLists c p (handed_out c p o)
lists-handed c p None = record { stack = refl; sizes = refl }
lists-handed c p (Some b) = lists-mark c b false p

pub lists-taken : (c : ℕ) (xs : List ℕ) (p : PoolState) → xs ≢ [] → KeepsLists c p (after_take c (after_refill c xs p)).pool
unfolding after_take after_refill
lists-taken c [] p n = absurd (n refl)
lists-taken c (x ∷ xs) p n = lists-handed c p (newest (x ∷ xs))

pub lists-put : (c b : ℕ) (xs : List ℕ) (p : PoolState) → length xs < max_count_of c → KeepsLists c p (after_put c b (with_room c xs p)).pool
unfolding after_put
lists-put c b xs p l = subst (λ (k : Class). KeepsLists c p (with_mark k.pool c b true)) (room-left c xs p l) (lists-mark c b true p)

-- ---- the one stack

stack-refill : (c : ℕ) (xs : List ℕ) (p : PoolState) → stack_over (after_refill c xs p).entries (after_refill c xs p).pool c ≡ stack_over xs p c
unfolding after_refill
stack-refill c [] p =
    let k = class_at p c in
    let n = first_size k.sizes in
    ap (λ (t : ClassState). reverse (top_batch p c) ++ t.stack) (value_of-with_value p.classes empty_class c (class_after_pop_batch k))
    ∙ ap (λ t. t ++ drop n k.stack) (reverse-reverse (take n k.stack)) ∙ take-append-drop n k.stack
stack-refill c (x ∷ xs) p = refl

rest-none : (s : List ℕ) → None ≡ slice_get s 0 → s ≡ drop 1 s
rest-none [] e = refl
rest-none (x ∷ s) e = cc

-- the newest is after the others
newest-last : (x : ℕ) (xs : List ℕ) → x ∷ xs ≡ take (length xs) (x ∷ xs) ++ get_or (x ∷ xs) (length xs) 0 ∷ []
newest-last x xs = sym (take_all (suc (length xs)) (x ∷ xs) (omega arith)) ∙ take-suc (x ∷ xs) (length xs) 0 (omega arith)

rest-handed : (c : ℕ) (xs : List ℕ) (p : PoolState) → newest xs ≡ slice_get (stack_over xs p c) 0 → stack_over (take (length xs - 1) xs) (handed_out c p (newest xs)) c ≡ drop 1 (stack_over xs p c)
rest-handed c [] p e = rest-none (class_at p c).stack e
rest-handed c (x ∷ xs) p e =
    let last = get_or (x ∷ xs) (length xs) 0 in
    let front = take (length xs) (x ∷ xs) in
    let len : length (x ∷ xs) - 1 ≡ length xs = omega arith in
    let all = newest-last x xs in
    ap (λ s. reverse (take (length (x ∷ xs) - 1) (x ∷ xs)) ++ s) (lists-handed c p (newest (x ∷ xs))).stack
    ∙ ap (λ n. reverse (take n (x ∷ xs)) ++ (class_at p c).stack) len
    ∙ ap (λ t. drop 1 (t ++ (class_at p c).stack)) (sym (ap reverse all ∙ reverse-append front (last ∷ [])))

pub rest-taken : (c : ℕ) (xs : List ℕ) (p : PoolState) → newest (after_refill c xs p).entries ≡ slice_get (stack_over xs p c) 0
    → stack_over (after_take c (after_refill c xs p)).entries (after_take c (after_refill c xs p)).pool c ≡ drop 1 (stack_over xs p c)
unfolding after_take
rest-taken c xs p e =
    let k = after_refill c xs p in
    let s = stack-refill c xs p in
    rest-handed c k.entries k.pool (e ∙ ap (λ t. slice_get t 0) (sym s)) ∙ ap (drop 1) s

-- the top is the newest of what is at hand, after a refill too
pub top-refilled : (c : ℕ) (xs : List ℕ) (p : PoolState) (k : Class) (o : Option ℕ) → k ≡ after_refill c xs p → o ≡ slice_get (stack_over k.entries k.pool c) 0 → o ≡ slice_get (stack_over xs p c) 0
top-refilled c xs p k o e t = t ∙ ap (λ (j : Class). slice_get (stack_over j.entries j.pool c) 0) e ∙ ap (λ s. slice_get s 0) (stack-refill c xs p)

stack-room : (c : ℕ) (xs : List ℕ) (p : PoolState) → stack_over (with_room c xs p).entries (with_room c xs p).pool c ≡ stack_over xs p c
unfolding with_room
stack-room c xs p =
    let n = max_count_of c / 2 in
    let s = (class_at p c).stack in
    elim (eqb (length xs) (max_count_of c)) as (λ t. let k = cond t (halved_class c xs p) (class_with xs p) in stack_over k.entries k.pool c ≡ stack_over xs p c) [
      | true ↦ ap (λ (k : ClassState). reverse (drop n xs) ++ k.stack) (value_of-with_value p.classes empty_class c (class_after_push_batch (class_at p c) (take n xs)))
          ∙ sym (append_assoc (reverse (drop n xs)) (reverse (take n xs)) s)
          ∙ ap (λ t. t ++ s) (sym (reverse-append (take n xs) (drop n xs)) ∙ ap reverse (take-append-drop n xs))
      | false ↦ refl
    ]

pub stack-put : (c b : ℕ) (xs : List ℕ) (p : PoolState) → stack_over (after_put c b (with_room c xs p)).entries (after_put c b (with_room c xs p)).pool c ≡ b ∷ stack_over xs p c
unfolding after_put
stack-put c b xs p =
    let k = with_room c xs p in
    ap (λ s. reverse (k.entries ++ b ∷ []) ++ s) (lists-mark c b true k.pool).stack
    ∙ ap (λ t. t ++ (class_at k.pool c).stack) (reverse-append k.entries (b ∷ [])) ∙ ap (λ s. b ∷ s) (stack-room c xs p)

-- ---- the newest entry is handed out

pub taken-state : (p p' : PoolState) (c : ℕ) (o : Option ℕ) (xs ys : List ℕ) → p' ≡ handed_out c p o → ys ≡ take (length xs - 1) xs → o ≡ newest xs → class_with ys p' ≡ after_take c (class_with xs p)
unfolding after_take
taken-state p p' c o xs ys ep ey eo = class-same (after_take c (class_with xs p)) ys p' ey (ep ∙ ap (handed_out c p) eo)

at-place : (xs : List ℕ) (b n : ℕ) → Some b ≡ slice_get xs n → (n < length xs) × (get_or xs n 0 ≡ b)
at-place [] b n e = cc
at-place (x ∷ xs) b zero e = (omega arith, cc)
at-place (x ∷ xs) b (suc n) e = let r = at-place xs b n e in let l = r.0 in (omega arith, r.1)

pub taken-loose : (p p' : PoolState) (c b : ℕ) (xs ys : List ℕ) → p' ≡ with_mark p c b false → ys ≡ take (length xs - 1) xs → Some b ≡ newest xs → IsDistinct nat_eq xs → All (IsLoose (class_at p c) c) xs
    → All (IsLoose (class_at p' c) c) ys
taken-loose p p' c b xs ys ep ey e u h =
    let n = length xs - 1 in
    let r = at-place xs b n e in
    let loose = subst (IsLoose (class_at p c) c) r.1 (All-get_or (IsLoose (class_at p c) c) xs n 0 r.0 h) in
    subst (λ t. All (IsLoose (class_at t c) c) ys) (sym ep)
    (subst (λ (k : ClassState). All (IsLoose k c) ys) (sym (value_of-with_value p.classes empty_class c (class_with_mark c (class_at p c) b false)))
    (subst (All (IsLoose (class_with_mark c (class_at p c) b false) c)) (sym ey)
    (all-loose-mark (class_at p c) c b false (take n xs) loose.carved (others-before n xs b r.0 r.1 u) (All-take (IsLoose (class_at p c) c) n xs h))))

-- it is carved, and marked used
pub taken-block : (p p' : PoolState) (c b : ℕ) (xs : List ℕ) → p' ≡ with_mark p c b false → Some b ≡ newest xs → All (IsLoose (class_at p c) c) xs → IsBlock c (class_at p' c).pages b
taken-block p p' c b xs ep e h =
    let r = at-place xs b (length xs - 1) e in
    let loose = subst (IsLoose (class_at p c) c) r.1 (All-get_or (IsLoose (class_at p c) c) xs (length xs - 1) 0 r.0 h) in
    subst (λ (k : ClassState). IsBlock c k.pages b) (sym (ap (λ t. class_at t c) ep ∙ value_of-with_value p.classes empty_class c (class_with_mark c (class_at p c) b false))) loose.carved

unmarked : (ms : List Bool) (i : ℕ) → get_or (set ms i false) i false ≡ false
unmarked [] i = refl
unmarked (m ∷ ms) zero = refl
unmarked (m ∷ ms) (suc i) = unmarked ms i

pub taken-used : (p p' : PoolState) (c b : ℕ) → p' ≡ with_mark p c b false → is_marked p' c b ≡ false
taken-used p p' c b ep =
    ap (λ t. is_marked t c b) ep ∙ ap (λ (k : ClassState). get_or k.marks (number_of c b) false) (value_of-with_value p.classes empty_class c (class_with_mark c (class_at p c) b false))
    ∙ unmarked (class_at p c).marks (number_of c b)

pub taken-distinct : (xs ys : List ℕ) → ys ≡ take (length xs - 1) xs → IsDistinct nat_eq xs → IsDistinct nat_eq ys
taken-distinct xs ys e u = subst (IsDistinct nat_eq) (sym e) (distinct-take (length xs - 1) xs (omega arith) u)

pub taken-top : (b : ℕ) (xs ys s : List ℕ) → xs ≡ ys ++ b ∷ [] → Some b ≡ slice_get (reverse xs ++ s) 0
taken-top b xs ys s ex = sym (ap (λ t. slice_get (reverse t ++ s) 0) ex ∙ ap (λ t. slice_get (t ++ s) 0) (reverse-append ys (b ∷ [])))

-- ---- after the oldest half went

pub marks-room : (c : ℕ) (xs : List ℕ) (p : PoolState) → (class_at (with_room c xs p).pool c).marks ≡ (class_at p c).marks
unfolding with_room
marks-room c xs p = elim (eqb (length xs) (max_count_of c)) as (λ t. (class_at (cond t (halved_class c xs p) (class_with xs p)).pool c).marks ≡ (class_at p c).marks) [
  | true ↦ ap (λ (k : ClassState). k.marks) (value_of-with_value p.classes empty_class c (class_after_push_batch (class_at p c) (take (max_count_of c / 2) xs)))
  | false ↦ refl
]

pub block-still : (c b : ℕ) (xs : List ℕ) (p q : PoolState) → q ≡ (with_room c xs p).pool → IsBlock c (class_at p c).pages b → IsBlock c (class_at q c).pages b
block-still c b xs p q e h = subst (λ n. IsBlock c n b) (sym (ap (λ t. (class_at t c).pages) e ∙ (keeps-room c xs p).pages)) h

pub used-still : (c b : ℕ) (xs : List ℕ) (p q : PoolState) → q ≡ (with_room c xs p).pool → is_marked p c b ≡ false → is_marked q c b ≡ false
used-still c b xs p q e h = ap (λ t. is_marked t c b) e ∙ ap (λ ms. get_or ms (number_of c b) false) (marks-room c xs p) ∙ h

-- what is left of the entries after the first n went
held-dropped : (p p' : PoolState) (c n : ℕ) (xs ys : List ℕ) → n ≤ length xs → p' ≡ with_batch p c (take n xs) → ys ≡ drop n xs → IsHeld c xs p → IsHeld c ys p'
held-dropped p p' c n xs ys l ep ey h =
    let at : class_at p' c ≡ class_after_push_batch (class_at p c) (take n xs) = ap (λ t. class_at t c) ep ∙ value_of-with_value p.classes empty_class c (class_after_push_batch (class_at p c) (take n xs)) in
    let len = length-drop n xs in
    let most : length xs ≤ max_count_of c = h.most in
    record {
      cached = subst (λ (k : ClassState). All (IsLoose k c) ys) (sym at) (subst (All (IsLoose (class_after_push_batch (class_at p c) (take n xs)) c)) (sym ey) (loose-rest (class_at p c) c n xs l h.distinct h.cached));
      distinct = subst (IsDistinct nat_eq) (sym ey) (distinct-drop n xs h.distinct);
      most = subst (λ (t : List ℕ). length t ≤ max_count_of c) (sym ey) (omega arith);
    }

pub held-room : (p p' : PoolState) (c : ℕ) (xs ys : List ℕ) → length xs ≡ max_count_of c → class_with ys p' ≡ with_room c xs p → IsHeld c xs p → IsHeld c ys p'
held-room p p' c xs ys f e h =
    let t = e ∙ sym (room-full c xs p f) in
    held-dropped p p' c (max_count_of c / 2) xs ys (omega arith) (ap (λ (k : Class). k.pool) t) (ap (λ (k : Class). k.entries) t) h

-- ---- a block after the others

pub put-state : (p p' : PoolState) (c b : ℕ) (xs ys : List ℕ) → p' ≡ with_mark p c b true → ys ≡ xs ++ b ∷ [] → class_with ys p' ≡ after_put c b (class_with xs p)
unfolding after_put
put-state p p' c b xs ys ep ey = class-same (after_put c b (class_with xs p)) ys p' ey ep

pub put-loose : (p p' : PoolState) (c b : ℕ) (xs ys : List ℕ) → p' ≡ with_mark p c b true → ys ≡ xs ++ b ∷ [] → IsBlock c (class_at p c).pages b → is_marked p c b ≡ false → IsLoose (class_at p' c) c b
    → All (IsLoose (class_at p c) c) xs → All (IsLoose (class_at p' c) c) ys
put-loose p p' c b xs ys ep ey block u new h =
    let at : class_at p' c ≡ class_with_mark c (class_at p c) b true = ap (λ t. class_at t c) ep ∙ value_of-with_value p.classes empty_class c (class_with_mark c (class_at p c) b true) in
    subst (All (IsLoose (class_at p' c) c)) (sym ey) (All-push (IsLoose (class_at p' c) c) xs b
    (subst (λ (k : ClassState). All (IsLoose k c) xs) (sym at) (all-loose-mark (class_at p c) c b true xs block (used-other (class_at p c) c b xs u h) h)) new)

pub put-distinct : (p : PoolState) (c b : ℕ) (xs ys : List ℕ) → ys ≡ xs ++ b ∷ [] → is_marked p c b ≡ false → All (IsLoose (class_at p c) c) xs → IsDistinct nat_eq xs → IsDistinct nat_eq ys
put-distinct p c b xs ys ey u h k = subst (IsDistinct nat_eq) (sym ey) (distinct-new xs b (used-other (class_at p c) c b xs u h) k)
