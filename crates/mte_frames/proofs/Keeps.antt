-- The laws of `KeepsOthers`: a pool keeps all quotas of itself, one step after another keeps what both keep,
-- and a write of one frame, of one owner or of one quota's counts is such a step.
use Rattle.std.proofs.lemmas.List.{length-set}
use Rattle.std.specs.List.{refill}
use Rattle.std.specs.Prelude.{◌≢◌, IfSome}
use Rattle.std.proofs.Common.{◌≡◌, ℕ, ◌<◌, List, length, get_or, slice_set, Option, Some, None, refl, sym, ap, ◌∙◌, inl, inr, get_or-set_same, get_or-set_other}
use Rattle.mte_arena.specs.Frames.{Frame, make_frame, frame_at}
use Rattle.mte_frames.specs.Pool.{Pool, make_pool, with_bytes_at_cases, IsHeldBy, KeepsOthers}
use Rattle.mte_frames.proofs.Counts.{same_or_not, any_default}

pub keeps_self : (q : ℕ) (p : Pool) → KeepsOthers q p p
keeps_self q p = record { count = refl; counts = λ k n. (refl, refl); out = λ f k n. (λ o. o, λ o. o); frames = λ f k n o. refl }

pub keeps_on : (q : ℕ) (p n m : Pool) → KeepsOthers q p n → KeepsOthers q n m → KeepsOthers q p m
keeps_on q p n m a b = record {
  count = b.count ∙ a.count;
  counts = λ k d. ((b.counts k d).0 ∙ (a.counts k d).0, (b.counts k d).1 ∙ (a.counts k d).1);
  out = λ f k d. (λ o. (b.out f k d).0 ((a.out f k d).0 o), λ o. (a.out f k d).1 ((b.out f k d).1 o));
  frames = λ f k d o. b.frames f k d ((a.out f k d).0 o) ∙ a.frames f k d o;
}

some_same : (a b : ℕ) → Some a ≡ Some b → a ≡ b
some_same a b e = cc

no_some : (k : ℕ) → ◌≡◌ {A = Option ℕ} None (Some k) → ⊥
no_some k e = cc

-- the counts of q alone change
pub keeps_counts : (q r t : ℕ) (p : Pool) → KeepsOthers q p (make_pool p.capacities p.frames p.owners (slice_set p.reserved q r) (slice_set p.taken q t))
keeps_counts q r t p = record {
  count = refl;
  counts = λ k n. (get_or-set_other p.reserved q k r 0 n, get_or-set_other p.taken q k t 0 n);
  out = λ f k n. (λ o. o, λ o. o);
  frames = λ f k n o. refl;
}

-- a frame that is out under q is written
pub keeps_written : (q f : ℕ) (c : Option Frame) (p : Pool) → IsHeldBy p f q → KeepsOthers q p (make_pool p.capacities (slice_set p.frames f c) p.owners p.reserved p.taken)
keeps_written q f c p out = record {
  count = length-set p.frames f c;
  counts = λ k n. (refl, refl);
  out = λ g k n. (λ o. o, λ o. o);
  frames = λ g k n o. get_or-set_other p.frames f g c None (λ e. n (sym (some_same q k (sym out ∙ ap (λ j. get_or p.owners j None) (sym e) ∙ o))));
}

-- the same where the bytes of the frame in f are written, if any
pub keeps_written_if : (q : ℕ) (f : Option ℕ) (w : List ℕ) (p : Pool) → IfSome f (λ g. IsHeldBy p g q) → KeepsOthers q p (with_bytes_at_cases p f w)
keeps_written_if q None w p out = keeps_self q p
keeps_written_if q (Some f) w p out = keeps_written q f (Some (make_frame (refill 4096 (frame_at p.frames f).bytes w) (frame_at p.frames f).tags)) p out

-- the frame f, which is out under no other quota than q before and after, changes its owner and its content
pub keeps_owner : (q f t : ℕ) (c : Option Frame) (old new : Option ℕ) (p : Pool) → f < length p.owners → get_or p.owners f None ≡ old
    → ((k : ℕ) → k ≢ q → (old ≡ Some k → ⊥) × (new ≡ Some k → ⊥)) → (fs : List (Option Frame)) → length fs ≡ length p.frames → ((g : ℕ) → g ≢ f → get_or fs g None ≡ get_or p.frames g None)
    → KeepsOthers q p (make_pool p.capacities fs (slice_set p.owners f new) p.reserved (slice_set p.taken q t))
keeps_owner q f t c old new p within was apart fs long same = record {
  count = long;
  counts = λ k n. (refl, get_or-set_other p.taken q k t 0 n);
  out = λ g k n. elim (same_or_not g f) [
    | inl e ↦ (
      λ o. absurd ((apart k n).0 (sym was ∙ ap (λ j. get_or p.owners j None) (sym e) ∙ o)),
      λ o. absurd ((apart k n).1 (sym (get_or-set_same p.owners f new None within) ∙ ap (λ j. get_or (slice_set p.owners f new) j None) (sym e) ∙ o)),
    )
    | inr d ↦ (λ o. get_or-set_other p.owners f g new None d ∙ o, λ o. sym (get_or-set_other p.owners f g new None d) ∙ o)
  ];
  frames = λ g k n o. elim (same_or_not g f) [
    | inl e ↦ absurd ((apart k n).0 (sym was ∙ ap (λ j. get_or p.owners j None) (sym e) ∙ o))
    | inr d ↦ same g d
  ];
}

-- the frame f, which is out under no quota, is taken under q
pub keeps_taken : (q f t : ℕ) (c : Option Frame) (p : Pool) → f < length p.owners → get_or p.owners f (Some 0) ≡ None
    → KeepsOthers q p (make_pool p.capacities (slice_set p.frames f c) (slice_set p.owners f (Some q)) p.reserved (slice_set p.taken q t))
keeps_taken q f t c p within was = keeps_owner q f t c None (Some q) p within (any_default p.owners f None (Some 0) within ∙ was)
    (λ k n. (no_some k, λ e. n (sym (some_same q k e)))) (slice_set p.frames f c) (length-set p.frames f c) (λ g d. get_or-set_other p.frames f g c None d)

-- what was out stays out where a frame that was out under no quota is taken
pub still_taken : (os : List (Option ℕ)) (f q g k : ℕ) → get_or os f (Some 0) ≡ None → f < length os → get_or os g None ≡ Some k → get_or (slice_set os f (Some q)) g None ≡ Some k
still_taken os f q g k was within out = elim (same_or_not g f) [
  | inl e ↦ absurd (no_some k (sym (any_default os f None (Some 0) within ∙ was) ∙ ap (λ j. get_or os j None) (sym e) ∙ out))
  | inr d ↦ get_or-set_other os f g (Some q) None d ∙ out
]
