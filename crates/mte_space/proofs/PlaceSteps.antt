-- What stands in the places of a space, and a space whose frame in a place is written.
use Rattle.std.proofs.Common.{◌≡◌, ◌∙◌, ℕ, ◌<◌, ◌*◌, ◌/◌, ◌%◌, ◌^◌, List, true, Some, length, get_or, slice_set, get_or-set_same, sym, ap, subst, arith}
use Rattle.std.specs.FinMap as finite
use Rattle.a64_bits.specs.Addresses.{plain}
use Rattle.mte_tags.specs.Memory.{page_at, with_page, has}
use Rattle.mte_arena.specs.Frames.{Frame}
use Rattle.mte_frames.specs.Pool.{Pool, IsTaken, IsHeldBy, IsSound, KeepsOthers}
use Rattle.mte_translate.specs.Tables.{Pages, pages_of, IsCached}
use Rattle.mte_translate.specs.declared.translation.Translation.{Translation}
use Rattle.mte_space.specs.Spaces.{page_of, space_memory, IsSpace, KeepsRest}
use Rattle.mte_space.specs.SpaceMemory.{memory_of}
use Rattle.mte_space.specs.Remembered.{attrs_of, IsKey, IsUpToDate, IsRemembered, no_page}
use Rattle.mte_space.specs.Writes.{with_frame}
use Rattle.mte_space.specs.Places.{IsPlace, remembered_in, number_in, page_in}
use Rattle.mte_space.specs.declared.remembered.RememberedPage.{RememberedPage}
use Rattle.mte_space.specs.declared.space.Space.{Space}
use Rattle.mte_space.proofs.Taken.{within_frames, frame_at-set}
use Rattle.mte_space.proofs.RememberedSteps.{pages_stay_up_to_date}
use Rattle.mte_space.proofs.SpaceSteps.{found_taken, found_out, page_found, space_framed, cached_framed, memory_framed, rest_framed, page_with}

pub found_in : (s : Space) (i : ℕ) → IsPlace s i
    → finite.get (pages_of s.pool.now s.table.now.frame) (number_in s i) ≡ Some ((remembered_in s i).frame, (attrs_of (remembered_in s i)))
found_in s i h = (s.up_to_date.pages i no_page h.0).page h.1

pub taken_in : (s : Space) (i : ℕ) → IsPlace s i → IsTaken s.pool.now (remembered_in s i).frame
taken_in s i h = found_taken s.pool.now s.quota.now s.table.now s.limit (number_in s i) (Some ((remembered_in s i).frame, (attrs_of (remembered_in s i)))) s.space (sym (found_in s i h))

pub out_in : (s : Space) (i : ℕ) → IsPlace s i → IsHeldBy s.pool.now (remembered_in s i).frame s.quota.now
out_in s i h = found_out s.pool.now s.quota.now s.table.now s.limit (number_in s i) (Some ((remembered_in s i).frame, (attrs_of (remembered_in s i)))) s.space (sym (found_in s i h))

-- the page of a place
pub page_of_place : (s : Space) (q i : ℕ) → IsPlace s i → number_in s i ≡ q → page_at (memory_of s) q ≡ Some (page_in s i)
page_of_place s q i h same =
    subst (λ k. page_at (memory_of s) k ≡ Some (page_in s i)) same
    (page_found s.pool.now s.table.now s.limit s.state.now (number_in s i) (remembered_in s i).frame (attrs_of (remembered_in s i)) (found_in s i h))

-- the page that was found is in its place
pub page_in_place : (s : Space) (q i : ℕ) (r : RememberedPage) → i < length s.remembered.now.pages.value → IsUpToDate (pages_of s.pool.now s.table.now.frame) r → r.address ≡ q * 4096 → q < 2 ^ 44
    → page_at (memory_of s) q ≡ Some (page_of s.pool.now ((get_or (slice_set s.remembered.now.pages.value i r) i no_page).frame, attrs_of (get_or (slice_set s.remembered.now.pages.value i r) i no_page)))
page_in_place s q i r l is same low =
    let place : r.address / 4096 ≡ q = omega (arith, same) in
    let found = ap (λ k. finite.get (pages_of s.pool.now s.table.now.frame) k) (sym place) ∙ is.page (omega (arith, same, low)) in
    page_found s.pool.now s.table.now s.limit s.state.now q r.frame (attrs_of r) found
    ∙ ap (λ (x : RememberedPage). Some (page_of s.pool.now (x.frame, attrs_of x))) (sym (get_or-set_same s.remembered.now.pages.value i r no_page l))

-- what a key of a place says of an address: where the page is, and what may be done with it
pub record KeySays (p : RememberedPage) (attr addr size : ℕ) : Type 0 where
  pub low : p.address < 2 ^ 56
  pub page : p.address / 4096 ≡ plain addr / 4096
  pub aligned : addr % size ≡ 0
  pub permitted : has (attrs_of p).0 attr ≡ true

pub key_says :
    (m : Pages) (p : RememberedPage) (attr key addr size : ℕ) → IsUpToDate m p → IsKey p attr key → key < 2 ^ 56
    → (key % 4096 ≡ 0 → key / 4096 ≡ plain addr / 4096) → (key % 4096 ≡ 0 → addr % size ≡ 0)
    → KeySays p attr addr size
key_says m p attr key addr size is says low page aligned =
    let same : key ≡ p.address = (says low).0 in
    let below : p.address < 2 ^ 56 = omega (arith, same, low) in
    let multiple : key % 4096 ≡ 0 = ap (λ k. k % 4096) same ∙ is.aligned below in
    record {
      low = below;
      page = ap (λ k. k / 4096) (sym same) ∙ page multiple;
      aligned = aligned multiple;
      permitted = (says low).1;
    }

-- a space whose frame in a place is written
module _ (s : Space) (i : ℕ) (x : Frame) (n : Pool) (h : IsPlace s i) (new : n ≡ with_frame s.pool.now (remembered_in s i).frame x) where
  pub space_in : IsSpace n s.quota.now s.table.now s.limit
  space_in =
      subst (λ p. IsSpace p s.quota.now s.table.now s.limit) (sym new)
      (space_framed s.pool.now s.quota.now s.table.now s.limit (number_in s i) (remembered_in s i).frame (attrs_of (remembered_in s i)) x s.space (found_in s i h))

  pub cached_in : (asid : ℕ) (ts : List Translation) → IsCached (pages_of s.pool.now s.table.now.frame) asid ts → IsCached (pages_of n s.table.now.frame) asid ts
  cached_in asid ts c =
      subst (λ p. IsCached (pages_of p s.table.now.frame) asid ts) (sym new)
      (cached_framed s.pool.now s.quota.now s.table.now s.limit (number_in s i) (remembered_in s i).frame (attrs_of (remembered_in s i)) x s.space (found_in s i h) asid ts c)

  pub up_to_date_in : IsRemembered (pages_of n s.table.now.frame) s.remembered.now
  up_to_date_in = pages_stay_up_to_date (pages_of s.pool.now s.table.now.frame) (pages_of n s.table.now.frame) s.remembered.now cached_in s.up_to_date

  pub memory_in : IsSound s.pool.now
      → space_memory n s.table.now s.limit s.state.now
      ≡ with_page (memory_of s) (number_in s i) (page_with (attrs_of (remembered_in s i)) x)
  memory_in sound =
      ap (λ p. space_memory p s.table.now s.limit s.state.now) new
      ∙ memory_framed s.pool.now s.quota.now s.table.now s.limit (number_in s i) (remembered_in s i).frame (attrs_of (remembered_in s i)) x s.space (found_in s i h) s.state.now sound

  -- what the place holds then
  pub page_in_new : IsSound s.pool.now
      → page_of n ((remembered_in s i).frame, (attrs_of (remembered_in s i)))
      ≡ page_with (attrs_of (remembered_in s i)) x
  page_in_new sound =
      ap (λ p. page_of p ((remembered_in s i).frame, (attrs_of (remembered_in s i)))) new
      ∙ ap (page_with (attrs_of (remembered_in s i)))
      (frame_at-set s.pool.now.frames (remembered_in s i).frame x (within_frames s.pool.now (remembered_in s i).frame s.quota.now sound (out_in s i h)))

  pub rest_in : ((k : ℕ) → IsHeldBy s.pool.now (remembered_in s i).frame k → KeepsOthers k s.pool.now n) → KeepsRest s.quota.now s.pool.now n s.table.now s.table.now
  rest_in others =
      subst (λ p. KeepsRest s.quota.now s.pool.now p s.table.now s.table.now) (sym new)
      (rest_framed s.pool.now s.quota.now s.table.now s.limit (number_in s i) (remembered_in s i).frame (attrs_of (remembered_in s i)) x s.space (found_in s i h)
      (subst (λ p. KeepsOthers s.quota.now s.pool.now p) new (others s.quota.now (out_in s i h))))
