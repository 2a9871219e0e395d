-- A pool stays sound where a quota comes or goes, and where a frame is taken, given back or written.
use Rattle.std.proofs.lemmas.List.{length-set, length-replicate}
use Rattle.std.specs.List.{refill}
use Rattle.std.specs.Prelude.{◌≢◌, sum, get_or, slice_set}
use Rattle.std.proofs.Common.{◌≡◌, ℕ, zero, suc, ◌+◌, ◌-◌, ◌<◌, ◌≤◌, List, [], ◌∷◌, ◌++◌, length, replicate, Option, Some, None, refl, sym, ap, ◌∙◌, subst, arith, inl, inr, get_or-set_same, get_or-set_other}
use Rattle.common.specs.declared.limits.TheConstants.{MAX_FRAMES}
use Rattle.mte_arena.specs.Frames.{Frame, IsLive, zero_frame, make_frame, frame_at, with_bytes_cases}
use Rattle.mte_frames.specs.Pool.{Pool, make_pool, frames_left, reserved_by, taken_by, IsHeldBy, IsSound, is_owned, owned_by}
use Rattle.mte_frames.specs.Whole.{times, vacant, pool_of, IsPool}
use Rattle.mte_frames.specs.declared.pool.FramePool.TheInside.{Inside}
use Rattle.mte_frames.proofs.Counts.{same_or_not, times-push, once, never, owned_by-set, owned_by-some, self_owned, owner_within, vacant_within, any_default, within_of, sum-set, sum-less, sum-zeros, vacant_none, zero_at, none_owned, none_at}

pub no_owner : (k : ℕ) → ◌≡◌ {A = Option ℕ} None (Some k) → ⊥
no_owner k e = cc

pub written_live : (fs : List (Option Frame)) (f g : ℕ) (p : Frame) → IsLive fs g → IsLive (slice_set fs f (Some p)) g
written_live [] f g p l = cc
written_live (c ∷ fs) zero zero p l = (p, refl)
written_live (c ∷ fs) zero (suc g) p l = l
written_live (c ∷ fs) (suc f) zero p l = l
written_live (c ∷ fs) (suc f) (suc g) p l = written_live fs f g p l

-- ---- lists in which one number changes
set_le : (ts rs : List ℕ) (q v : ℕ) → q < length ts → ((k : ℕ) → get_or ts k 0 ≤ get_or rs k 0) → v ≤ get_or rs q 0 → (k : ℕ) → get_or (slice_set ts q v) k 0 ≤ get_or rs k 0
set_le ts rs q v within le fits k = elim (same_or_not k q) [
  | inl e ↦ omega (arith, fits, ap (λ j. get_or (slice_set ts q v) j 0) e, get_or-set_same ts q v 0 within, ap (λ j. get_or rs j 0) e)
  | inr d ↦ omega (arith, le k, get_or-set_other ts q k v 0 d)
]

le_set : (ts rs : List ℕ) (q v : ℕ) → q < length rs → ((k : ℕ) → get_or ts k 0 ≤ get_or rs k 0) → get_or ts q 0 ≤ v → (k : ℕ) → get_or ts k 0 ≤ get_or (slice_set rs q v) k 0
le_set ts rs q v within le fits k = elim (same_or_not k q) [
  | inl e ↦ omega (arith, fits, ap (λ j. get_or (slice_set rs q v) j 0) e, get_or-set_same rs q v 0 within, ap (λ j. get_or ts j 0) e)
  | inr d ↦ omega (arith, le k, get_or-set_other rs q k v 0 d)
]

-- the frame f changes its owner, and q's count follows
set_count : (ts : List ℕ) (os : List (Option ℕ)) (q f v : ℕ) (old new : Option ℕ) → q < length ts → f < length os → get_or os f (Some 0) ≡ old → ((k : ℕ) → get_or ts k 0 ≡ owned_by k os)
    → v + is_owned q old ≡ get_or ts q 0 + is_owned q new → ((k : ℕ) → k ≢ q → is_owned k old ≡ is_owned k new) → (k : ℕ) → get_or (slice_set ts q v) k 0 ≡ owned_by k (slice_set os f new)
set_count ts os q f v old new within inside was count fits others k = let moved = owned_by-set k os f new inside in elim (same_or_not k q) [
  | inl e ↦ omega (arith, moved, ap (is_owned k) was, ap (λ j. is_owned j old) e, ap (λ j. is_owned j new) e, fits, ap (λ j. get_or (slice_set ts q v) j 0) e, get_or-set_same ts q v 0 within, count q, ap (λ j. owned_by j os) e)
  | inr d ↦ omega (arith, moved, ap (is_owned k) was, others k d, get_or-set_other ts q k v 0 d, count k)
]

other_owned : (k q : ℕ) → k ≢ q → is_owned k None ≡ is_owned k (Some q)
other_owned k q d = sym (never k q d)

module _ (p : Pool) (h : IsSound p) (q : ℕ) where
  pub reserve_sound : (count : ℕ) → q < length p.reserved → reserved_by p q ≡ 0 → count ≤ frames_left p → IsSound (make_pool p.capacities p.frames p.owners (slice_set p.reserved q count) p.taken)
  reserve_sound count within unused fits = record {
    few = h.few;
    owners_len = h.owners_len;
    reserved_len = length-set p.reserved q count ∙ h.reserved_len;
    taken_len = h.taken_len;
    reserved_all = omega (arith, fits, unused, h.reserved_all, sum-set p.reserved q count within);
    taken_within = le_set p.taken p.reserved q count within h.taken_within (omega (arith, unused, h.taken_within q));
    taken_count = h.taken_count;
    live = h.live;
  }

  pub release_sound : q < length p.reserved → taken_by p q ≡ 0 → IsSound (make_pool p.capacities p.frames p.owners (slice_set p.reserved q 0) p.taken)
  release_sound within none = record {
    few = h.few;
    owners_len = h.owners_len;
    reserved_len = length-set p.reserved q 0 ∙ h.reserved_len;
    taken_len = h.taken_len;
    reserved_all = omega (arith, h.reserved_all, sum-set p.reserved q 0 within);
    taken_within = le_set p.taken p.reserved q 0 within h.taken_within (omega (arith, none));
    taken_count = h.taken_count;
    live = h.live;
  }

  -- a quota with something left has a number
  pub numbered : taken_by p q < reserved_by p q → q < length p.taken
  numbered left = omega (arith, within_of p.reserved q (omega (arith, left)), h.taken_len, h.reserved_len)

  pub take_sound : (f : ℕ) → get_or p.owners f (Some 0) ≡ None → taken_by p q < reserved_by p q
      → IsSound (make_pool p.capacities (slice_set p.frames f (Some zero_frame)) (slice_set p.owners f (Some q)) p.reserved (slice_set p.taken q (taken_by p q + 1)))
  take_sound f was left =
      let within = numbered left in let inside = vacant_within p.owners f was in let long = length-set p.frames f (Some zero_frame) in
      record {
        few = omega (arith, h.few, long);
        owners_len = length-set p.owners f (Some q) ∙ h.owners_len ∙ sym long;
        reserved_len = h.reserved_len ∙ sym long;
        taken_len = length-set p.taken q (taken_by p q + 1) ∙ h.taken_len ∙ sym long;
        reserved_all = omega (arith, h.reserved_all, long);
        taken_within = set_le p.taken p.reserved q (taken_by p q + 1) within h.taken_within (omega (arith, left));
        taken_count = set_count p.taken p.owners q f (taken_by p q + 1) None (Some q) within inside was h.taken_count (omega (arith, self_owned q)) (λ k d. other_owned k q d);
        live = λ g k out. elim (same_or_not g f) [
          | inl e ↦ (zero_frame, ap (λ j. get_or (slice_set p.frames f (Some zero_frame)) j None) e ∙ get_or-set_same p.frames f (Some zero_frame) None (omega (arith, inside, h.owners_len)))
          | inr d ↦ written_live p.frames f g zero_frame (h.live g k (sym (get_or-set_other p.owners f g (Some q) None d) ∙ out))
        ];
      }

  module _ (f : ℕ) (out : IsHeldBy p f q) where
    held : f < length p.owners
    held = owner_within p.owners f q out

    pub held_is : get_or p.owners f (Some 0) ≡ Some q
    held_is = any_default p.owners f (Some 0) None held ∙ out

    pub one_taken : 0 < taken_by p q
    one_taken = omega (arith, h.taken_count q, owned_by-some q p.owners f out)

    pub give_numbered : q < length p.taken
    give_numbered = within_of p.taken q one_taken

    pub give_sound : IsSound (make_pool p.capacities p.frames (slice_set p.owners f None) p.reserved (slice_set p.taken q (taken_by p q - 1)))
    give_sound = record {
      few = h.few;
      owners_len = length-set p.owners f None ∙ h.owners_len;
      reserved_len = h.reserved_len;
      taken_len = length-set p.taken q (taken_by p q - 1) ∙ h.taken_len;
      reserved_all = h.reserved_all;
      taken_within = set_le p.taken p.reserved q (taken_by p q - 1) give_numbered h.taken_within (omega (arith, h.taken_within q));
      taken_count = set_count p.taken p.owners q f (taken_by p q - 1) (Some q) None give_numbered held held_is h.taken_count (omega (arith, one_taken, self_owned q)) (λ k d. sym (other_owned k q d));
      live = λ g k o. elim (same_or_not g f) [
        | inl e ↦ absurd (no_owner k (sym (get_or-set_same p.owners f None None held) ∙ ap (λ j. get_or (slice_set p.owners f None) j None) (sym e) ∙ o))
        | inr d ↦ h.live g k (sym (get_or-set_other p.owners f g None None d) ∙ o)
      ];
    }

-- a frame is written
pub written_sound : (p : Pool) (f : ℕ) (c : Frame) → IsSound p → IsSound (make_pool p.capacities (slice_set p.frames f (Some c)) p.owners p.reserved p.taken)
written_sound p f c h = let long = length-set p.frames f (Some c) in record {
  few = omega (arith, h.few, long);
  owners_len = h.owners_len ∙ sym long;
  reserved_len = h.reserved_len ∙ sym long;
  taken_len = h.taken_len ∙ sym long;
  reserved_all = omega (arith, h.reserved_all, long);
  taken_within = h.taken_within;
  taken_count = h.taken_count;
  live = λ g k o. written_live p.frames f g c (h.live g k o);
}

-- ---- the free list
-- what comes off the list is out under no quota
pub popped_vacant : (free rest : List ℕ) (os : List (Option ℕ)) (f : ℕ) → ((g : ℕ) → times g free ≡ vacant (get_or os g (Some 0))) → free ≡ rest ++ f ∷ [] → get_or os f (Some 0) ≡ None
popped_vacant free rest os f are e = vacant_none (get_or os f (Some 0)) (omega (arith, are f, ap (times f) e, times-push f f rest, once f f refl))

-- while a quota has something left, not all frames are out
pub some_free : (p : Pool) (q : ℕ) → IsSound p → taken_by p q < reserved_by p q → sum p.taken < length p.frames
some_free p q h left = omega (arith, sum-less p.taken p.reserved q h.taken_within left, h.reserved_all)

pub take_free : (free rest : List ℕ) (os : List (Option ℕ)) (f q : ℕ) → ((g : ℕ) → times g free ≡ vacant (get_or os g (Some 0))) → free ≡ rest ++ f ∷ [] → get_or os f (Some 0) ≡ None
    → (g : ℕ) → times g rest ≡ vacant (get_or (slice_set os f (Some q)) g (Some 0))
take_free free rest os f q are e was g = let gone = ap (times g) e ∙ times-push g f rest in elim (same_or_not g f) [
  | inl same ↦ omega (
    arith,
    gone,
    are g,
    ap (λ j. vacant (get_or os j (Some 0))) same,
    ap vacant was,
    once g f same,
    ap (λ j. vacant (get_or (slice_set os f (Some q)) j (Some 0))) same,
    ap vacant (get_or-set_same os f (Some q) (Some 0) (vacant_within os f was)),
  )
  | inr d ↦ omega (arith, gone, are g, never g f d, ap vacant (get_or-set_other os f g (Some q) (Some 0) d))
]

pub give_free : (free : List ℕ) (os : List (Option ℕ)) (f q : ℕ) → ((g : ℕ) → times g free ≡ vacant (get_or os g (Some 0))) → f < length os → get_or os f (Some 0) ≡ Some q
    → (g : ℕ) → times g (free ++ f ∷ []) ≡ vacant (get_or (slice_set os f None) g (Some 0))
give_free free os f q are within was g = let more = times-push g f free in elim (same_or_not g f) [
  | inl same ↦ omega (
    arith,
    more,
    are g,
    ap (λ j. vacant (get_or os j (Some 0))) same,
    ap vacant was,
    once g f same,
    ap (λ j. vacant (get_or (slice_set os f None) j (Some 0))) same,
    ap vacant (get_or-set_same os f None (Some 0) within),
  )
  | inr d ↦ omega (arith, more, are g, never g f d, ap vacant (get_or-set_other os f g None (Some 0) d))
]

-- ---- the fields
pub written_pool : (a : Inside) (f : ℕ) (c : Frame) → IsPool a → IsPool (record a { arena = slice_set a.arena f (Some c) })
written_pool a f c h = let long = length-set a.arena f (Some c) in record {
  sound = written_sound (pool_of a) f c h.sound;
  free_are = h.free_are;
  free_count = h.free_count ∙ sym long;
  unreserved_count = h.unreserved_count ∙ sym long;
  room = omega (arith, h.room, long);
}

-- the same where the bytes of the frame in f are written, if any
pub written_pool_if : (a : Inside) (f : Option ℕ) (w : List ℕ) → IsPool a → IsPool (record a { arena = with_bytes_cases a.arena f w })
written_pool_if a None w h = h
written_pool_if a (Some f) w h = written_pool a f (make_frame (refill 4096 (frame_at a.arena f).bytes w) (frame_at a.arena f).tags) h

-- a condition on a pool and a quota's number, as one on the fields
pub of_fields : (P : Pool → ℕ → Type 0) (a : Inside) (p : Pool) (q k : ℕ) → pool_of a ≡ p → k ≡ q → P p q → P (pool_of a) k
of_fields P a p q k e d h = subst (λ j. P (pool_of a) j) (sym d) (subst (λ x. P x q) (sym e) h)

pub fresh_sound : (cs : List ℕ) (fs : List (Option Frame)) → length fs ≤ MAX_FRAMES → let n : ℕ = length fs in IsSound (make_pool cs fs (replicate n None) (replicate n 0) (replicate n 0))
fresh_sound cs fs few = let n = length fs in record {
  few = few;
  owners_len = length-replicate n None;
  reserved_len = length-replicate {A = ℕ} n 0;
  taken_len = length-replicate {A = ℕ} n 0;
  reserved_all = omega (arith, sum-zeros n);
  taken_within = λ q. omega (arith, zero_at n q);
  taken_count = λ q. zero_at n q ∙ sym (none_owned q n);
  live = λ f q o. absurd (no_owner q (sym (none_at n f) ∙ o));
}
