-- All classes: the value of a cache, and one list of it that is read and written back.
use Rattle.std.proofs.Common.{◌≡◌, ◌≢◌, ℕ, ◌-◌, ◌≤◌, List, [], length, get_or, replicate, sym, ap, subst, ◌∙◌, inl, inr, arith, nat_eq}
use Rattle.std.proofs.lemmas.Bool.{cases_eq}
use Rattle.std.proofs.lemmas.List.{get_or-set_same, get_or-set_other, get_or_default, get_or-replicate, length-set, length-replicate}
use Rattle.std.specs.List.{All, IsDistinct}
use Rattle.std.specs.Vec.{with_item}
use Rattle.std.specs.Prelude.{vec_capacity}
use Rattle.scudo_header.specs.declared.config.TheConstants.{CLASSES}
use Rattle.scudo_header.specs.ByClass.{ByClass}
use Rattle.scudo_header.specs.Classes.{IsClass}
use Rattle.scudo_header.proofs.ByClassLaws.{value_of-by_class, by_class-same, by_class-with_value}
use Rattle.scudo_primary.specs.Batches.{max_count_of}
use Rattle.scudo_primary.specs.Pools.{PoolState, IsLoose, class_at}
use Rattle.scudo_primary.specs.Caches.{CacheState, entries_of, with_entries, empty_cache, IsAbove}
use Rattle.scudo_primary.specs.CacheInner.{list_in, cache_of, IsCache, IsHeld}
use Rattle.scudo_primary.specs.declared.cache.Cache.TheInside.{Inside}

abbrev cache_with : ℕ → ByClass (List ℕ) → CacheState
cache_with n m = record { classes = m; capacity = n }

-- the list of a class that is read
pub at-class : (f : Inside) (v : CacheState) (c : ℕ) (r : List ℕ) → IsCache f → cache_of f ≡ v → IsClass c → r ≡ get_or f.entries.items (c - 1) r → r ≡ list_in f c
at-class f v c r h e hc er = let a = hc.low in let b = hc.high in let l = h.all in er ∙ get_or_default f.entries.items (c - 1) r [] (omega arith)

pub entries-in : (f : Inside) (v : CacheState) (c : ℕ) → cache_of f ≡ v → IsClass c → list_in f c ≡ entries_of v c
entries-in f v c e hc = sym (value_of-by_class (list_in f) [] c hc) ∙ ap (λ t. entries_of t c) e

-- what the cache holds of a class
pub held-at : (f : Inside) (v : CacheState) (p : PoolState) (c : ℕ) (r : List ℕ) → IsCache f → cache_of f ≡ v → IsClass c → IsAbove v p → r ≡ list_in f c → IsHeld c r p
held-at f v p c r h e hc above er = record {
  cached = subst (All (IsLoose (class_at p c) c)) (sym (er ∙ entries-in f v c e hc)) (above.cached c hc.low hc.high);
  distinct = subst (IsDistinct nat_eq) (sym er) (h.distinct c hc);
  most = subst (λ (t : List ℕ). length t ≤ max_count_of c) (sym er) (h.most c hc);
}

-- the list of a class that is written back
abbrev pub inside_with : Inside → ℕ → List ℕ → Inside
inside_with f c x = record { entries = with_item f.entries (c - 1) x }

list-own : (f : Inside) (c : ℕ) (x : List ℕ) → IsCache f → IsClass c → list_in (inside_with f c x) c ≡ x
list-own f c x h hc = let a = hc.low in let b = hc.high in let l = h.all in get_or-set_same f.entries.items (c - 1) x [] (omega arith)

list-other : (f : Inside) (c d : ℕ) (x : List ℕ) → IsClass c → IsClass d → d ≢ c → list_in (inside_with f c x) d ≡ list_in f d
list-other f c d x hc hd n = let a = hc.low in let b = hd.low in get_or-set_other f.entries.items (c - 1) (d - 1) x [] (λ e. n (omega arith))

pub view-with : (f : Inside) (v : CacheState) (c : ℕ) (x : List ℕ) → IsCache f → cache_of f ≡ v → IsClass c → cache_of (inside_with f c x) ≡ with_entries v c x
view-with f v c x h e hc =
    ap (cache_with (vec_capacity f.entries)) (by_class-with_value (list_in f) (list_in (inside_with f c x)) c x hc (list-own f c x h hc) (λ d hd n. list-other f c d x hc hd n))
    ∙ ap (λ t. with_entries t c x) e

pub put-back : (f : Inside) (c : ℕ) (x : List ℕ) → IsCache f → IsClass c → length x ≤ max_count_of c → IsDistinct nat_eq x → IsCache (inside_with f c x)
put-back f c x h hc m u =
    let own = list-own f c x h hc in
    record {
      all = length-set f.entries.items (c - 1) x ∙ h.all;
      most = λ d hd. elim (cases_eq d c) [
        | inl s ↦ subst (λ t. length (list_in (inside_with f c x) t) ≤ max_count_of t) (sym s) (subst (λ (t : List ℕ). length t ≤ max_count_of c) (sym own) m)
        | inr n ↦ subst (λ (t : List ℕ). length t ≤ max_count_of d) (sym (list-other f c d x hc hd n)) (h.most d hd)
      ];
      distinct = λ d hd. elim (cases_eq d c) [
        | inl s ↦ subst (λ t. IsDistinct nat_eq (list_in (inside_with f c x) t)) (sym s) (subst (IsDistinct nat_eq) (sym own) u)
        | inr n ↦ subst (IsDistinct nat_eq) (sym (list-other f c d x hc hd n)) (h.distinct d hd)
      ];
    }

-- ---- at the start

none-yet : (f : Inside) (d : ℕ) → f.entries.items ≡ replicate CLASSES [] → IsClass d → list_in f d ≡ []
none-yet f d e hd = let a = hd.low in let b = hd.high in ap (λ t. get_or t (d - 1) []) e ∙ get_or-replicate CLASSES (d - 1) [] [] (omega arith)

pub new-cache : (f : Inside) → f.entries.items ≡ replicate CLASSES [] → IsCache f
unfolding IsDistinct
new-cache f e = record {
  all = ap length e ∙ length-replicate {A = List ℕ} CLASSES [];
  most = λ d hd. subst (λ (t : List ℕ). length t ≤ max_count_of d) (sym (none-yet f d e hd)) (omega arith);
  distinct = λ d hd. subst (IsDistinct nat_eq) (sym (none-yet f d e hd)) tt;
}

pub new-view : (f : Inside) (n : ℕ) → f.entries.items ≡ replicate CLASSES [] → vec_capacity f.entries ≡ n → cache_of f ≡ empty_cache n
new-view f n e m = ap (cache_with (vec_capacity f.entries)) (by_class-same (list_in f) (λ _. []) (λ d hd. none-yet f d e hd)) ∙ ap (λ t. empty_cache t) m
