-- What the tag mode does to an access: how it fails, and when the flag is set.
use Rattle.std.proofs.Common.{◌≡◌, ◌≢◌, ℕ, ◌/◌, ◌==◌, ◌&&◌, ◌||◌, not, Bool, true, false, cond, Option, Some, None, is_some, IsSome, List, [], ◌∷◌, refl, sym, ap, subst, ◌∙◌}
use Rattle.a64_bits.specs.Addresses.{plain}
use Rattle.mte_tags.specs.Memory.{Memory, Page, page_at, byte_at, has, with_pending}
use Rattle.mte_tags.specs.Accesses.{read_access, read_fault, after_read, write_fault, with_bytes_at, after_write, addresses, bytes_at, AreMapped, byte_fault, first_fault, or_else, fault, fault_cases, granule_tag, without_check, access_cases, access_fault, differs_cases, has_mismatch, after_access}
use Rattle.mte_tags.specs.declared.state.TagMode.{TagMode}
use Rattle.mte_tags.specs.declared.state.TagMode.TheVariants.{Sync, Async}
use Rattle.mte_tags.specs.declared.fault.MemFault.{MemFault}
use Rattle.mte_tags.specs.declared.access.Access.{Access}
use Rattle.mte_tags.specs.declared.fault.FaultKind.TheVariants.{Permission, TagCheck}
use Rattle.mte_tags.proofs.AddressLists.{first_none, AreMapped-from_first_fault}

-- a byte without a fault has no tag that differs
clean_case : (h d t : Bool) (F G : MemFault) → cond h (cond d (cond t None (Some G)) None) (Some F) ≡ None → (d && not t) ≡ false
clean_case true true true F G e = refl
clean_case true true false F G e = cc
clean_case true false t F G e = refl
clean_case false d t F G e = cc

clean_byte : (x : Access) (p : Option Page) (a : ℕ) → fault_cases x p a ≡ None → differs_cases x p a ≡ false
clean_byte x None a e = refl
clean_byte x (Some p) a e = clean_case (has p.attrs x.need) (x.checked && has p.attrs 8) (granule_tag p a == x.tag) (fault Permission x a 0) (fault TagCheck x a (granule_tag p a)) e

or_false : (b c : Bool) → b ≡ false → c ≡ false → (b || c) ≡ false
or_false b c e f = rw (e, f) refl

pub no_mismatch : (m : Memory) (x : Access) (xs : List ℕ) → first_fault m x xs ≡ None → has_mismatch m x xs ≡ false
unfolding first_fault byte_fault has_mismatch
no_mismatch m x [] e = refl
no_mismatch m x (a ∷ xs) e =
    let both = first_none (fault_cases x (page_at m (a / 4096)) a) (first_fault m x xs) e in
    or_false _ _ (clean_byte x (page_at m (a / 4096)) a both.0) (no_mismatch m x xs both.1)

-- a byte that does not fail in Sync doesn't in Async
free_case : (h d t : Bool) (F G H : MemFault) → cond h (cond d (cond t None (Some G)) None) (Some F) ≡ None → cond h None (Some H) ≡ None
free_case true d t F G H e = refl
free_case false d t F G H e = cc

free_byte : (x : Access) (p : Option Page) (a : ℕ) → fault_cases x p a ≡ None → fault_cases (without_check x) p a ≡ None
free_byte x None a e = cc
free_byte x (Some p) a e = free_case (has p.attrs x.need) (x.checked && has p.attrs 8) (granule_tag p a == x.tag) (fault Permission x a 0) (fault TagCheck x a (granule_tag p a)) (fault Permission (without_check x) a 0) e

or_none : (f g : Option MemFault) → f ≡ None → g ≡ None → or_else f g ≡ None
or_none f g e h = rw (e, h) refl

pub first_fault-free : (m : Memory) (x : Access) (xs : List ℕ) → first_fault m x xs ≡ None → first_fault m (without_check x) xs ≡ None
unfolding first_fault byte_fault
first_fault-free m x [] e = refl
first_fault-free m x (a ∷ xs) e =
    let both = first_none (fault_cases x (page_at m (a / 4096)) a) (first_fault m x xs) e in
    or_none _ _ (free_byte x (page_at m (a / 4096)) a both.0) (first_fault-free m x xs both.1)

-- an access without a fault in Sync has none in any mode, and sets no flag
fault_in_each : (m : Memory) (x : Access) (xs : List ℕ) (mode : TagMode) → first_fault m x xs ≡ None → (access_cases mode m x xs).fault ≡ None
fault_in_each m x xs Sync e = e
fault_in_each m x xs Async e = first_fault-free m x xs e

pub access_fault-none : (m : Memory) (x : Access) (xs : List ℕ) → first_fault m x xs ≡ None → access_fault m x xs ≡ None
unfolding access_fault
access_fault-none m x xs e = fault_in_each m x xs m.state.mode e

flag_in_each : (m : Memory) (x : Access) (xs : List ℕ) (mode : TagMode) → first_fault m x xs ≡ None → (access_cases mode m x xs).pending ≡ false
flag_in_each m x xs Sync e = refl
flag_in_each m x xs Async e = no_mismatch m x xs e

pub after_access-none : (m : Memory) (x : Access) (xs : List ℕ) → first_fault m x xs ≡ None → after_access m x xs ≡ m
unfolding after_access
after_access-none m x xs e = ap (λ b. cond b (with_pending m) m) (flag_in_each m x xs m.state.mode e)

-- what an access that fails in Sync has in Async
async_case : (h d t : Bool) (F G H : MemFault) → cond h None (Some H) ≡ None → is_some (cond h (cond d (cond t None (Some G)) None) (Some F)) ≡ (d && not t)
async_case true true true F G H e = refl
async_case true true false F G H e = refl
async_case true false t F G H e = refl
async_case false d t F G H e = cc

async_byte : (x : Access) (p : Option Page) (a : ℕ) → fault_cases (without_check x) p a ≡ None → is_some (fault_cases x p a) ≡ differs_cases x p a
async_byte x None a e = cc
async_byte x (Some p) a e = async_case (has p.attrs x.need) (x.checked && has p.attrs 8) (granule_tag p a == x.tag) (fault Permission x a 0) (fault TagCheck x a (granule_tag p a)) (fault Permission (without_check x) a 0) e

some_or : (f g : Option MemFault) → is_some (or_else f g) ≡ (is_some f || is_some g)
some_or (Some f) g = refl
some_or None g = refl

pub mismatch_is : (m : Memory) (x : Access) (xs : List ℕ) → first_fault m (without_check x) xs ≡ None → is_some (first_fault m x xs) ≡ has_mismatch m x xs
unfolding first_fault byte_fault has_mismatch
mismatch_is m x [] e = refl
mismatch_is m x (a ∷ xs) e =
    let both = first_none (fault_cases (without_check x) (page_at m (a / 4096)) a) (first_fault m (without_check x) xs) e in
    some_or (fault_cases x (page_at m (a / 4096)) a) (first_fault m x xs)
    ∙ ap (λ b. b || is_some (first_fault m x xs)) (async_byte x (page_at m (a / 4096)) a both.0)
    ∙ ap (λ b. differs_cases x (page_at m (a / 4096)) a || b) (mismatch_is m x xs both.1)

pub after_access-some : (m : Memory) (x : Access) (xs : List ℕ) (f : MemFault) → m.state.mode ≡ Async → first_fault m x xs ≡ Some f → first_fault m (without_check x) xs ≡ None → after_access m x xs ≡ with_pending m
unfolding after_access
after_access-some m x xs f s e u =
    ap (λ k. cond (access_cases k m x xs).pending (with_pending m) m) s ∙ ap (λ b. cond b (with_pending m) m) (sym (mismatch_is m x xs u) ∙ ap is_some e)

pub access_fault-sync : (m : Memory) (x : Access) (xs : List ℕ) → m.state.mode ≡ Sync → access_fault m x xs ≡ first_fault m x xs
unfolding access_fault
access_fault-sync m x xs e = ap (λ k. (access_cases k m x xs).fault) e

pub access_fault-async : (m : Memory) (x : Access) (xs : List ℕ) → m.state.mode ≡ Async → access_fault m x xs ≡ first_fault m (without_check x) xs
unfolding access_fault
access_fault-async m x xs e = ap (λ k. (access_cases k m x xs).fault) e

-- In Sync an access leaves the memory as it is.
pub after_access-sync : (m : Memory) (x : Access) (xs : List ℕ) → m.state.mode ≡ Sync → after_access m x xs ≡ m
unfolding after_access
after_access-sync m x xs e = ap (λ k. cond (access_cases k m x xs).pending (with_pending m) m) e

-- an access that compares no tag sets no flag
unchecked_byte : (x : Access) (p : Option Page) (a : ℕ) → x.checked ≡ false → differs_cases x p a ≡ false
unchecked_byte x None a u = refl
unchecked_byte x (Some p) a u = rw u refl

unchecked_mismatch : (m : Memory) (x : Access) (xs : List ℕ) → x.checked ≡ false → has_mismatch m x xs ≡ false
unfolding has_mismatch
unchecked_mismatch m x [] u = refl
unchecked_mismatch m x (a ∷ xs) u = or_false _ _ (unchecked_byte x (page_at m (a / 4096)) a u) (unchecked_mismatch m x xs u)

unchecked_flag : (m : Memory) (x : Access) (xs : List ℕ) (mode : TagMode) → x.checked ≡ false → (access_cases mode m x xs).pending ≡ false
unchecked_flag m x xs Sync u = refl
unchecked_flag m x xs Async u = unchecked_mismatch m x xs u

pub after_access-without-check : (m : Memory) (x : Access) (xs : List ℕ) → x.checked ≡ false → after_access m x xs ≡ m
unfolding after_access
after_access-without-check m x xs u = ap (λ b. cond b (with_pending m) m) (unchecked_flag m x xs m.state.mode u)

-- In Async a fault is never TagCheck.
kind_case : (h : Bool) (x : Access) (a : ℕ) (f : MemFault) → cond h None (Some (fault Permission x a 0)) ≡ Some f → f.kind ≢ TagCheck
kind_case true x a f e = cc
kind_case false x a f e = λ k. cc

kind_byte : (x : Access) (p : Option Page) (a : ℕ) (f : MemFault) → fault_cases (without_check x) p a ≡ Some f → f.kind ≢ TagCheck
kind_byte x None a f e = λ k. cc
kind_byte x (Some p) a f e = kind_case (has p.attrs x.need) (without_check x) a f e

kind_or : (g h : Option MemFault) (f : MemFault) → ((k : MemFault) → g ≡ Some k → k.kind ≢ TagCheck) → ((k : MemFault) → h ≡ Some k → k.kind ≢ TagCheck) → or_else g h ≡ Some f → f.kind ≢ TagCheck
kind_or (Some g) h f p q e = p f e
kind_or None h f p q e = q f e

async_kind : (m : Memory) (x : Access) (xs : List ℕ) (f : MemFault) → first_fault m (without_check x) xs ≡ Some f → f.kind ≢ TagCheck
unfolding first_fault byte_fault
async_kind m x [] f e = cc
async_kind m x (a ∷ xs) f e =
    kind_or (fault_cases (without_check x) (page_at m (a / 4096)) a) (first_fault m (without_check x) xs) f (kind_byte x (page_at m (a / 4096)) a) (async_kind m x xs) e

pub access_fault-kind : (m : Memory) (x : Access) (xs : List ℕ) (f : MemFault) → m.state.mode ≡ Async → access_fault m x xs ≡ Some f → f.kind ≢ TagCheck
access_fault-kind m x xs f n e = async_kind m x xs f (sym (access_fault-async m x xs n) ∙ e)

-- the flag is in no page
flag_bytes : (b : Bool) (m : Memory) (ys : List ℕ) → bytes_at (cond b (with_pending m) m) ys ≡ bytes_at m ys
unfolding bytes_at byte_at page_at with_pending
flag_bytes true m ys = refl
flag_bytes false m ys = refl

pub bytes_at-after_access : (m : Memory) (x : Access) (xs ys : List ℕ) → bytes_at (after_access m x xs) ys ≡ bytes_at m ys
unfolding after_access
bytes_at-after_access m x xs ys = flag_bytes (access_cases m.state.mode m x xs).pending m ys

flag_page : (b : Bool) (m : Memory) (q : ℕ) → page_at (cond b (with_pending m) m) q ≡ page_at m q
unfolding page_at with_pending
flag_page true m q = refl
flag_page false m q = refl

pub page_at-after_access : (m : Memory) (x : Access) (xs : List ℕ) (q : ℕ) → page_at (after_access m x xs) q ≡ page_at m q
unfolding after_access
page_at-after_access m x xs q = flag_page (access_cases m.state.mode m x xs).pending m q

pub AreMapped-after_access : (m : Memory) (x : Access) (xs ys : List ℕ) → AreMapped m ys → AreMapped (after_access m x xs) ys
AreMapped-after_access m x xs [] h = tt
AreMapped-after_access m x xs (a ∷ ys) h = (subst IsSome (sym (page_at-after_access m x xs (a / 4096))) h.0, AreMapped-after_access m x xs ys h.1)

-- an access without a fault is of mapped pages
mapped_in_each : (m : Memory) (x : Access) (xs : List ℕ) (mode : TagMode) → (access_cases mode m x xs).fault ≡ None → AreMapped m xs
mapped_in_each m x xs Sync e = AreMapped-from_first_fault m x xs e
mapped_in_each m x xs Async e = AreMapped-from_first_fault m (without_check x) xs e

pub AreMapped-from_access : (m : Memory) (x : Access) (xs : List ℕ) → access_fault m x xs ≡ None → AreMapped (after_access m x xs) xs
unfolding access_fault
AreMapped-from_access m x xs e = AreMapped-after_access m x xs xs (mapped_in_each m x xs m.state.mode e)

-- an access that was quick
same_none : (m : Memory) (x y : Access) (a b n : ℕ) → x ≡ y → a ≡ b → first_fault m x (addresses a n) ≡ None → first_fault m y (addresses b n) ≡ None
same_none m x y a b n e f h = ap (λ k. first_fault m k (addresses b n)) (sym e) ∙ ap (λ k. first_fault m x (addresses k n)) (sym f) ∙ h

pub quick_fault : (m : Memory) (x y : Access) (a b n : ℕ) → x ≡ y → a ≡ b → first_fault m x (addresses a n) ≡ None → access_fault m y (addresses b n) ≡ None
quick_fault m x y a b n e f h = access_fault-none m y (addresses b n) (same_none m x y a b n e f h)

pub quick_after_access : (m : Memory) (x y : Access) (a b n : ℕ) → x ≡ y → a ≡ b → first_fault m x (addresses a n) ≡ None → after_access m y (addresses b n) ≡ m
quick_after_access m x y a b n e f h = after_access-none m y (addresses b n) (same_none m x y a b n e f h)

-- an access in Async, whose tags were not after_access
pub async_answer : (m k : Memory) (x u : Access) (xs : List ℕ) → k ≡ m → u ≡ without_check x → m.state.mode ≡ Async → first_fault k u xs ≡ access_fault m x xs
async_answer m k x u xs e f n = ap (λ l. first_fault l u xs) e ∙ ap (λ y. first_fault m y xs) f ∙ sym (access_fault-async m x xs n)

pub after_read-without-check : (m : Memory) (a n : ℕ) → after_read m a n false ≡ m
unfolding after_read
after_read-without-check m a n = after_access-without-check m (read_access a false) (addresses (plain a) n) refl

-- In Async no read and no write fails by a tag.
pub read_fault-kind : (m : Memory) (a n : ℕ) (check : Bool) (f : MemFault) → m.state.mode ≡ Async → read_fault m a n check ≡ Some f → f.kind ≢ TagCheck
unfolding read_fault
read_fault-kind m a n check f s e = access_fault-kind m _ _ f s e

pub write_fault-kind : (m : Memory) (a n : ℕ) (check : Bool) (f : MemFault) → m.state.mode ≡ Async → write_fault m a n check ≡ Some f → f.kind ≢ TagCheck
unfolding write_fault
write_fault-kind m a n check f s e = access_fault-kind m _ _ f s e

-- In Sync no read and no write sets the flag.
pub after_read-sync : (m : Memory) (a n : ℕ) (check : Bool) → m.state.mode ≡ Sync → after_read m a n check ≡ m
unfolding after_read
after_read-sync m a n check s = after_access-sync m _ _ s

pub after_write-sync : (m : Memory) (a : ℕ) (bs : List ℕ) (check : Bool) → m.state.mode ≡ Sync → after_write m a bs check ≡ with_bytes_at m a bs
unfolding after_write
after_write-sync m a bs check s = ap (λ k. with_bytes_at k a bs) (after_access-sync m _ _ s)
