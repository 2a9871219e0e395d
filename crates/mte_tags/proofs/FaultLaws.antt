-- A fault depends on attributes and tags alone.
use Rattle.std.proofs.Common.{◌≡◌, ℕ, ◌/◌, ◌%◌, ◌==◌, ◌&&◌, Bool, true, false, cond, Option, Some, None, is_none, List, [], ◌∷◌, refl, sym, ap, ◌∙◌, eq-eqb}
use Rattle.std.proofs.lemmas.Bool.{cond-true}
use Rattle.a64_bits.specs.Addresses.{plain}
use Rattle.mte_tags.specs.Memory.{Memory, Page, page_at, has, has_cases, attrs_at, attrs_cases, page_has, tag_at, tag_cases}
use Rattle.mte_tags.specs.Accesses.{addresses, granules, byte_fault, first_fault, or_else, fault, fault_cases, granule_tag, without_check, access_cases, access_fault, read_fault, write_fault, tags_fault, store_access, with_bytes_at}
use Rattle.mte_tags.specs.declared.fault.MemFault.{MemFault}
use Rattle.mte_tags.specs.declared.access.Access.{Access}
use Rattle.mte_tags.specs.declared.fault.FaultKind.TheVariants.{Translation, Permission, TagCheck, Alignment}
use Rattle.mte_tags.specs.declared.state.TagMode.{TagMode}
use Rattle.mte_tags.specs.declared.state.TagMode.TheVariants.{Sync, Async}
use Rattle.mte_tags.specs.declared.state.TagState.{TagState}
use Rattle.mte_tags.proofs.PageLaws.{attrs_at-with-bytes-at}
use Rattle.mte_tags.proofs.StateLaws.{state-with-bytes-at}
use Rattle.mte_tags.proofs.ByteLaws.{tag_at-with-bytes-at}

-- how a byte fails, by its page's attributes and its granule's tag
pub fault_by : Access → ℕ → Option ℕ → ℕ → Option MemFault
fault_by x a None t = Some (fault Translation x a 0)
fault_by x a (Some attrs) t =
    cond (has attrs x.need)
    (cond (x.checked && has attrs 8) (cond (t == x.tag) None (Some (fault TagCheck x a t))) None)
    (Some (fault Permission x a 0))

tagged_case : (c h : Bool) (f : ℕ → Option MemFault) (t : ℕ) → cond (c && h) (f t) None ≡ cond (c && h) (f (cond h t 0)) None
tagged_case true true f t = refl
tagged_case true false f t = refl
tagged_case false h f t = refl

in_page : (x : Access) (o : Option Page) (a : ℕ) → fault_cases x o a ≡ fault_by x a (attrs_cases o) (tag_cases o (a % 4096 / 16))
unfolding fault_by
in_page x None a = refl
in_page x (Some p) a =
    ap (λ k. cond (has p.attrs x.need) k (Some (fault Permission x a 0)))
    (tagged_case x.checked (has p.attrs 8) (λ t. cond (t == x.tag) None (Some (fault TagCheck x a t))) (granule_tag p a))

pub byte_fault-by : (m : Memory) (x : Access) (a : ℕ) → byte_fault m x a ≡ fault_by x a (attrs_at m (a / 4096)) (tag_at m a)
unfolding byte_fault attrs_at tag_at
byte_fault-by m x a = in_page x (page_at m (a / 4096)) a

-- memories with the same attributes and tags have the same faults
pub first_fault-same : (m m' : Memory) (x : Access) (xs : List ℕ) → ((q : ℕ) → attrs_at m q ≡ attrs_at m' q) → ((a : ℕ) → tag_at m a ≡ tag_at m' a) → first_fault m x xs ≡ first_fault m' x xs
unfolding first_fault
first_fault-same m m' x [] e f = refl
first_fault-same m m' x (a ∷ xs) e f =
    ap (λ g. or_else g (first_fault m x xs)) (byte_fault-by m x a ∙ ap (λ k. fault_by x a k (tag_at m a)) (e (a / 4096)) ∙ ap (fault_by x a (attrs_at m' (a / 4096))) (f a) ∙ sym (byte_fault-by m' x a))
    ∙ ap (or_else (byte_fault m' x a)) (first_fault-same m m' x xs e f)

-- a write changes no fault
pub first_fault-with-bytes-at : (m : Memory) (a : ℕ) (bs : List ℕ) (x : Access) (xs : List ℕ) → first_fault (with_bytes_at m a bs) x xs ≡ first_fault m x xs
first_fault-with-bytes-at m a bs x xs = first_fault-same (with_bytes_at m a bs) m x xs (attrs_at-with-bytes-at m a bs) (tag_at-with-bytes-at m a bs)

ending-with-bytes-at : (mode : TagMode) (m : Memory) (a : ℕ) (bs : List ℕ) (x : Access) (xs : List ℕ) → (access_cases mode (with_bytes_at m a bs) x xs).fault ≡ (access_cases mode m x xs).fault
ending-with-bytes-at Sync m a bs x xs = first_fault-with-bytes-at m a bs x xs
ending-with-bytes-at Async m a bs x xs = first_fault-with-bytes-at m a bs (without_check x) xs

pub access_fault-with-bytes-at : (m : Memory) (a : ℕ) (bs : List ℕ) (x : Access) (xs : List ℕ) → access_fault (with_bytes_at m a bs) x xs ≡ access_fault m x xs
unfolding access_fault
access_fault-with-bytes-at m a bs x xs =
    ap (λ (s : TagState). (access_cases s.mode (with_bytes_at m a bs) x xs).fault) (state-with-bytes-at m a bs) ∙ ending-with-bytes-at m.state.mode m a bs x xs

pub read_fault-with-bytes-at : (m : Memory) (a : ℕ) (bs : List ℕ) (b n : ℕ) (check : Bool) → read_fault (with_bytes_at m a bs) b n check ≡ read_fault m b n check
unfolding read_fault
read_fault-with-bytes-at m a bs b n check = access_fault-with-bytes-at m a bs _ _

pub write_fault-with-bytes-at : (m : Memory) (a : ℕ) (bs : List ℕ) (b n : ℕ) (check : Bool) → write_fault (with_bytes_at m a bs) b n check ≡ write_fault m b n check
unfolding write_fault
write_fault-with-bytes-at m a bs b n check = access_fault-with-bytes-at m a bs _ _

pub tags_fault-with-bytes-at : (m : Memory) (a : ℕ) (bs : List ℕ) (b n : ℕ) → tags_fault (with_bytes_at m a bs) b n ≡ tags_fault m b n
unfolding tags_fault
tags_fault-with-bytes-at m a bs b n = ap (λ f. cond (b % 16 == 0) f (Some (fault Alignment (store_access b) (plain b) 0))) (first_fault-with-bytes-at m a bs (store_access b) (granules (plain b) n))

-- an access has no fault where each byte's page has what it needs, and its tag where tags are after_access
fits_tag : (F : MemFault) (c : Bool) (b : Bool) → (c ≡ true → b ≡ true) → cond c (cond b None (Some F)) None ≡ None
fits_tag F true b h = cond-true _ _ _ (h refl)
fits_tag F false b h = refl

-- each address of a list has these attributes, and the access's tag where tags are after_access
abbrev pub AllAt : Memory → Access → ℕ → List ℕ → Type 0
AllAt m x attrs [] = Unit {0}
AllAt m x attrs (a ∷ xs) = (attrs_at m (a / 4096) ≡ Some attrs) × ((x.checked && has attrs 8) ≡ true → tag_at m a ≡ x.tag) × AllAt m x attrs xs

fits : (x : Access) (a attrs t : ℕ) → has attrs x.need ≡ true → ((x.checked && has attrs 8) ≡ true → t ≡ x.tag) → fault_by x a (Some attrs) t ≡ None
unfolding fault_by
fits x a attrs t e f = cond-true _ _ _ e ∙ fits_tag (fault TagCheck x a t) (x.checked && has attrs 8) (t == x.tag) (λ u. eq-eqb t x.tag (f u))

pub first_fault-none : (m : Memory) (x : Access) (xs : List ℕ) (attrs : ℕ) → has attrs x.need ≡ true → AllAt m x attrs xs → first_fault m x xs ≡ None
unfolding first_fault
first_fault-none m x [] attrs e h = refl
first_fault-none m x (a ∷ xs) attrs e h =
    ap (λ g. or_else g (first_fault m x xs)) (byte_fault-by m x a ∙ ap (λ k. fault_by x a k (tag_at m a)) h.0 ∙ fits x a attrs (tag_at m a) e h.1)
    ∙ first_fault-none m x xs attrs e h.2

-- an access that needs attributes alone has no fault exactly where its page has them
needing : ℕ → Access
needing need = record { need = need; write = false; checked = false; tag = 0 }

needing_fault : (need a : ℕ) (o : Option Page) → is_none (or_else (fault_cases (needing need) o a) None) ≡ has_cases (attrs_cases o) need
unfolding needing
needing_fault need a None = refl
needing_fault need a (Some p) = elim (has p.attrs need) as (λ b. is_none (or_else (cond b None (Some (fault Permission (needing need) a 0))) None) ≡ b) [ true ↦ refl | false ↦ refl ]

pub first_fault-needing : (m : Memory) (need a : ℕ) → is_none (first_fault m (record { need = need; write = false; checked = false; tag = 0 }) (addresses a 1)) ≡ page_has m (a / 4096) need
unfolding first_fault addresses byte_fault page_has attrs_at needing
first_fault-needing m need a = needing_fault need a (page_at m (a / 4096))
