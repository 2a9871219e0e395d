-- A tenant stands where the index has its number, and nowhere else.
use Rattle.std.proofs.Common.{◌≡◌, ◌≢◌, ℕ, zero, suc, ◌+◌, ◌-◌, ◌<◌, ◌≤◌, ◌==◌, ◌||◌, Bool, true, false, List, [], ◌∷◌, ◌++◌, map, length}
use Rattle.std.proofs.Common.{IfSome, is_some, option_copied, eqb, get_or, slice_set, Option, Some, None, option_map, if◌then◌else◌, refl, ap, sym, subst, ◌∙◌, arith, inl, inr, length-append, replicate}
use Rattle.std.specs.Borrow.{Bor}
use Rattle.std.specs.Slice.{IsItemAt}
use Rattle.std.specs.List.{list_any, slice_get, IsDistinct, AllByRecursion}
use Rattle.std.proofs.lemmas.Bool.{cases_eq, eqb-true, eq-eqb, ne_eqb}
use Rattle.std.proofs.lemmas.List.{length-set, length-map, length-replicate}
use Rattle.std.proofs.lemmas.Map.Steps.{length-le_from_distinct_below}
use Rattle.std.proofs.lemmas.Option.{slice_get_within, slice_get_past, slice_get_read, slice_get-map, get_or_from_slice_get}
use Rattle.mte_frames.specs.Pool.{Pool}
use Rattle.mte_sched.specs.declared.index.TheConstants.{NUMBERS}
use Rattle.mte_sched.specs.declared.tenant.Tenant as code
use Rattle.mte_tenant.specs.Ledger.{LedgerEntry, has_id, without_live, numbers_of}
use Rattle.mte_sched.specs.Contents.{machine, entry_of, tenant_after_slice, tenant_after_stop}
use Rattle.mte_sched.specs.Tenants.{record_in, tenants_in, entry_in, entries_in}
use Rattle.mte_sched.specs.Sharing.{HasId, IsIndexed, positions_for}
use Rattle.mte_sched.proofs.PlaceLists.{some_same, get-set-same, get-set-other, get-last, get-before, get-append}
use Rattle.mte_sched.proofs.EachLemmas.{or_left, or_right, id_there, ledger_is}
use Rattle.mte_sched.proofs.BehaviourLemmas.{ledger_sliced, ledger_stopped}

-- ---- a tenant that passes a test

pub record Passing (f : LedgerEntry → Bool) (ts : List code.Tenant) : Type 0 where
  pub at : ℕ
  pub tenant : code.Tenant
  pub stands : slice_get ts at ≡ Some tenant
  pub passes : f (entry_in tenant) ≡ true

passing_in : (b : Bool) (f : LedgerEntry → Bool) (t : code.Tenant) (ts : List code.Tenant) → f (entry_in t) ≡ b → (list_any f (entries_in ts) ≡ true → Passing f ts)
    → (b || list_any f (entries_in ts)) ≡ true → Passing f (t ∷ ts)
passing_in true f t ts same rest e = record { at = 0; tenant = t; stands = refl; passes = same }
passing_in false f t ts same rest e = let x = rest e in record { at = suc x.at; tenant = x.tenant; stands = x.stands; passes = x.passes }

passing : (f : LedgerEntry → Bool) (ts : List code.Tenant) → list_any f (entries_in ts) ≡ true → Passing f ts
passing f [] e = absurd cc
passing f (t ∷ ts) e = passing_in (f (entry_in t)) f t ts refl (λ h. passing f ts h) e

not_true : (b : Bool) → b ≢ true → b ≡ false
not_true true h = absurd (h refl)
not_true false h = refl

number_at : (ts : List code.Tenant) (i : ℕ) (t : code.Tenant) → slice_get ts i ≡ Some t → slice_get (numbers_of (entries_in ts)) i ≡ Some (record_in t).id
number_at ts i t at =
    slice_get-map (λ (e : LedgerEntry). e.id) (entries_in ts) i ∙ ap (option_map (λ (e : LedgerEntry). e.id)) (slice_get-map entry_in ts i ∙ ap (option_map entry_in) at)

-- A test that only a tenant with the number passes, and that the one at its position doesn't pass.
pub none_at : (positions : List ℕ) (ts : List code.Tenant) (id : ℕ) (f : LedgerEntry → Bool) → IsIndexed positions (numbers_of (entries_in ts)) → ((e : LedgerEntry) → f e ≡ true → e.id ≡ id)
    → ((t : code.Tenant) → slice_get ts (get_or positions id 0) ≡ Some t → f (entry_in t) ≡ false) → list_any f (entries_in ts) ≡ false
none_at positions ts id f indexed own here = not_true (list_any f (entries_in ts)) (λ any.
    let x = passing f ts any in
    let number : slice_get (numbers_of (entries_in ts)) x.at ≡ Some id = number_at ts x.at x.tenant x.stands ∙ ap (λ k. Some k) (own (entry_in x.tenant) x.passes) in
    let position : get_or positions id 0 ≡ x.at = get_or_from_slice_get positions id x.at 0 (indexed.position x.at id number) in
    let z : true ≡ false = sym x.passes ∙ here x.tenant (ap (slice_get ts) position ∙ x.stands) in cc)

-- What a slice has at an index.
pub lent_at : {X : Type 0} (xs : List X) (i : ℕ) (r : Option (Bor X)) → IsItemAt xs i r → option_copied r ≡ slice_get xs i
lent_at xs i None h = sym (slice_get_past xs i h.3)
lent_at xs i (Some b) h = sym (slice_get_read xs (length xs) i b.now refl h.3.0 h.1)

module _ (positions : List ℕ) (ts : List code.Tenant) (id : ℕ) (f : LedgerEntry → Bool) (indexed : IsIndexed positions (numbers_of (entries_in ts))) (own : (e : LedgerEntry) → f e ≡ true → e.id ≡ id)
    (i : ℕ) (position : i ≡ get_or positions id 0) where
  pub none_past : IsItemAt {X = code.Tenant} ts i None → list_any f (entries_in ts) ≡ false
  none_past h = none_at positions ts id f indexed own (λ t at.
      let z : None ≡ Some t = lent_at ts i None h ∙ ap (slice_get ts) position ∙ at in absurd cc)

  pub none_other : (b : Bor code.Tenant) → IsItemAt ts i (Some b) → f (entry_in b.now) ≡ false → list_any f (entries_in ts) ≡ false
  none_other b h other = none_at positions ts id f indexed own (λ t at.
      let same : b.now ≡ t = some_same b.now t (lent_at ts i (Some b) h ∙ ap (slice_get ts) position ∙ at) in
      subst (λ (u : code.Tenant). f (entry_in u) ≡ false) same other)

pub knows_by : (ts : List code.Tenant) (id : ℕ) (o : Option (Bor code.Tenant)) → IfSome o (λ t. HasId ts id t.now) → (o ≡ None → list_any (has_id id) (entries_in ts) ≡ false)
    → is_some o ≡ list_any (has_id id) (entries_in ts)
knows_by ts id None some none = sym (none refl)
knows_by ts id (Some b) some none = sym (id_there id ts some.at b.now some.stands (eq-eqb (record_in b.now).id id some.number))

-- ---- one more number

fresh_at : (id : ℕ) (ts : List code.Tenant) → list_any (has_id id) (entries_in ts) ≡ false → (i : ℕ) → slice_get (numbers_of (entries_in ts)) i ≢ Some id
fresh_at id [] none i = λ e. absurd cc
fresh_at id (t ∷ ts) none zero = λ e.
    let no : ((record_in t).id == id) ≡ false = or_left ((record_in t).id == id) _ none in
    let yes : ((record_in t).id == id) ≡ true = eq-eqb (record_in t).id id (some_same (record_in t).id id e) in
    let z : true ≡ false = sym yes ∙ no in cc
fresh_at id (t ∷ ts) none (suc i) = fresh_at id ts (or_right ((record_in t).id == id) _ none) i

more_index : (positions ids : List ℕ) (id : ℕ) → IsIndexed positions ids → id < NUMBERS → ((i : ℕ) → slice_get ids i ≢ Some id) → IsIndexed (slice_set (positions_for positions (id + 1)) id (length ids)) (ids ++ id ∷ [])
more_index positions ids id h within fresh =
    let more : List ℕ = positions_for positions (id + 1) in
    let long : length more ≡ length positions + (id + 1 - length positions) =
    length-append positions (replicate (id + 1 - length positions) 0) ∙ ap (λ n. length positions + n) (length-replicate (id + 1 - length positions) 0) in
    record {
      numbers = omega (arith, length-set more id (length ids), long, h.numbers, within);
      position = λ i k e. elim (cases_eq i (length ids)) [
        | inl last ↦
            let same : id ≡ k = some_same id k (sym (get-last ids id) ∙ ap (slice_get (ids ++ id ∷ [])) (sym last) ∙ e) in
            subst (λ z. slice_get (slice_set more id (length ids)) z ≡ Some i) same (get-set-same more id (length ids) (omega (arith, long)) ∙ ap (λ z. Some z) (sym last))
        | inr d ↦
            let was : slice_get ids i ≡ Some k = sym (get-before ids id i d) ∙ e in
            get-set-other more id k (length ids) (λ s. fresh i (was ∙ ap (λ z. Some z) s)) ∙ get-append positions (replicate (id + 1 - length positions) 0) k i (h.position i k was)
      ];
    }

-- ---- there are at least as many positions as tenants

all_apart : (x : ℕ) (xs : List ℕ) → ((j : ℕ) → slice_get xs j ≢ Some x) → AllByRecursion (λ y. eqb x y ≡ false) xs
all_apart x [] h = tt
all_apart x (y ∷ ys) h = (ne_eqb x y (λ e. h 0 (ap (λ z. Some z) (sym e))), all_apart x ys (λ j. h (suc j)))

distinct : (xs : List ℕ) → ((i j x : ℕ) → slice_get xs i ≡ Some x → slice_get xs j ≡ Some x → i ≡ j) → IsDistinct eqb xs
unfolding IsDistinct
distinct [] h = tt
distinct (x ∷ xs) h = (
  all_apart x xs (λ j e. let z : 0 ≡ suc j = h 0 (suc j) x refl e in absurd (omega (arith, z))),
  distinct xs (λ i j y e f. let z : suc i ≡ suc j = h (suc i) (suc j) y e f in omega (arith, z)),
)

any_in : (b : Bool) (q x : ℕ) (xs : List ℕ) → eqb q x ≡ b → (list_any (eqb q) xs ≡ true → (i : ℕ) × (slice_get xs i ≡ Some q)) → (b || list_any (eqb q) xs) ≡ true
    → (i : ℕ) × (slice_get (x ∷ xs) i ≡ Some q)
any_in true q x xs same rest e = (0, ap (λ z. Some z) (sym (eqb-true q x same)))
any_in false q x xs same rest e = let r = rest e in (suc r.0, r.1)

any_at : (q : ℕ) (xs : List ℕ) → list_any (eqb q) xs ≡ true → (i : ℕ) × (slice_get xs i ≡ Some q)
any_at q [] e = absurd cc
any_at q (x ∷ xs) e = any_in (eqb q x) q x xs refl (λ h. any_at q xs h) e

few : (positions ids : List ℕ) → IsIndexed positions ids → length ids ≤ length positions
few positions ids h =
    length-le_from_distinct_below ids (length positions) (distinct ids (λ i j k e f. some_same i j (sym (h.position i k e) ∙ h.position j k f)))
    (λ q any. let x = any_at q ids any in slice_get_within positions q x.0 (h.position x.0 q x.1))

-- ---- an admission

module _ (positions : List ℕ) (ts : List code.Tenant) (id : ℕ) (indexed : IsIndexed positions (numbers_of (entries_in ts))) (within : id < NUMBERS)
    (none : list_any (has_id id) (entries_in ts) ≡ false) where
  many : length (numbers_of (entries_in ts)) ≡ length ts
  many = length-map (entries_in ts) (λ (e : LedgerEntry). e.id) ∙ length-map ts entry_in

  more : IsIndexed (slice_set (positions_for positions (id + 1)) id (length ts)) (numbers_of (entries_in ts) ++ id ∷ [])
  more = subst (λ k. IsIndexed (slice_set (positions_for positions (id + 1)) id k) (numbers_of (entries_in ts) ++ id ∷ [])) many (more_index positions (numbers_of (entries_in ts)) id indexed within (fresh_at id ts none))

  pub entered_position : length ts < NUMBERS
  entered_position =
      let all = few (slice_set (positions_for positions (id + 1)) id (length ts)) (numbers_of (entries_in ts) ++ id ∷ []) more in
      omega (arith, all, many, length-append (numbers_of (entries_in ts)) (id ∷ []), more.numbers)

  pub entered_index : (t : code.Tenant) → (record_in t).id ≡ id → IsIndexed (slice_set (positions_for positions (id + 1)) id (length ts)) (numbers_of (entries_in (ts ++ t ∷ [])))
  entered_index t number =
      let numbers : numbers_of (entries_in (ts ++ t ∷ [])) ≡ numbers_of (entries_in ts) ++ id ∷ [] = numbers_more ts ∙ ap (λ k. numbers_of (entries_in ts) ++ k ∷ []) number in
      subst (IsIndexed (slice_set (positions_for positions (id + 1)) id (length ts))) (sym numbers) more
    where
      numbers_more : (us : List code.Tenant) → numbers_of (entries_in (us ++ t ∷ [])) ≡ numbers_of (entries_in us) ++ (record_in t).id ∷ []
      numbers_more [] = refl
      numbers_more (u ∷ us) = ap (λ l. (record_in u).id ∷ l) (numbers_more us)

-- ---- a slice and a stop

pub sliced_entries : (p n : Pool) (ts us : List code.Tenant) (id steps : ℕ) → tenants_in n us ≡ map (tenant_after_slice id steps) (tenants_in p ts) → entries_in us ≡ entries_in ts
sliced_entries p n ts us id steps e = sym (ledger_is n us) ∙ ap (map entry_of) e ∙ ledger_sliced machine id steps (tenants_in p ts) ∙ ledger_is p ts

ended_number : (b : Bool) (e : LedgerEntry) → (if b then (let u : LedgerEntry = record e { live = false } in u) else e).id ≡ e.id
ended_number true e = refl
ended_number false e = refl

ended_numbers : (id : ℕ) (es : List LedgerEntry) → numbers_of (map (without_live id) es) ≡ numbers_of es
ended_numbers id [] = refl
ended_numbers id (e ∷ es) = ap (λ k. k ∷ numbers_of (map (without_live id) es)) (ended_number (e.id == id) e) ∙ ap (λ l. e.id ∷ l) (ended_numbers id es)

pub stopped_numbers : (p n : Pool) (ts us : List code.Tenant) (id : ℕ) → tenants_in n us ≡ map (tenant_after_stop id) (tenants_in p ts) → numbers_of (entries_in us) ≡ numbers_of (entries_in ts)
stopped_numbers p n ts us id e =
    ap numbers_of (sym (ledger_is n us) ∙ ap (map entry_of) e ∙ ledger_stopped machine id (tenants_in p ts) ∙ ap (map (without_live id)) (ledger_is p ts)) ∙ ended_numbers id (entries_in ts)
