use Rattle.std.proofs.Common.{◌≡◌, ℕ, Option, Some, None, List, ◌∷◌, refl, ap, ◌∙◌}
use Rattle.std.specs.Prelude.{option_map, vec_capacity}
use Rattle.mte_arena.specs.Frames.{frame_at}
use Rattle.mte_frames.specs.Pool.{Pool, with_bytes_at_cases}
use Rattle.mte_sched.proofs.LoanLemmas.{sharing_lent, content_lent, frames_lent, taken_lent, bytes_lent, where_lent}
use Rattle.mte_sched.proofs.host.Host.page_mut.Goals as goal

-- a loan of a frame keeps the capacities of the pool's lists
rooms_lent : (p : Pool) (o : Option ℕ) (w : List ℕ) (tenants positions : ℕ) → tenants ∷ positions ∷ (with_bytes_at_cases p o w).capacities ≡ tenants ∷ positions ∷ p.capacities
rooms_lent p None w tenants positions = refl
rooms_lent p (Some f) w tenants positions = refl

pub data_mut_if-requires : goal.data_mut_if-requires
data_mut_if-requires c =
    let h = c.args.self.now in
    taken_lent h.pool h.caches.tlb h.tenants.items h.sharing c.args.id c.args.page c.find_frame-frame.result c.find_frame-frame.ensures

pub invariant_of-self-lent : goal.invariant_of-self-lent
invariant_of-self-lent c = λ r.
    let h = c.args.self.now in (
      λ w. (sharing_lent h.pool h.caches.tlb h.tenants.items h.sharing c.args.id c.args.page w c.find_frame-frame.result c.find_frame-frame.ensures, (h.indexed, (h.counted, tt))),
      (h.sharing, (h.indexed, (h.counted, tt))),
    )

pub returns : goal.returns
returns c =
    let h = c.args.self.now in
    let o = c.find_frame-frame.result in
    let e = c.find_frame-frame.ensures in
    let id = c.args.id in
    let q = c.args.page in (
      (
        refl,
        λ w. where_lent _ c.data_mut_if.result o (λ g. (frame_at h.pool.frames g).bytes) c.data_mut_if.ensures.value (λ f k. record {
          content = content_lent h.pool h.caches.tlb h.tenants.items h.sharing id q w o e f k c.recall.ensures.sound;
          pool = ap (λ x. with_bytes_at_cases h.pool x w) e;
          frames = λ j r. ap (option_map (λ x. x.0)) (frames_lent h.pool h.caches.tlb h.tenants.items h.sharing id q w o e j r);
          rooms = rooms_lent h.pool o w (vec_capacity h.tenants) (vec_capacity h.index.positions);
        }),
        record { content = refl; pool = refl; frames = λ j r. refl; rooms = refl },
      ),
      record {
        writes_back = tt;
        value = c.data_mut_if.ensures.value ∙ bytes_lent h.pool id q h.tenants.items o e;
      },
    )
