use Rattle.std.proofs.Common.{◌≡◌, ◌-◌, [], ◌∷◌, length, get_or, get_or-set_other, None, ap, ◌∙◌, arith, length-append}
use Rattle.mte_frames.specs.Pool.{IsHeldBy}
use Rattle.mte_frames.specs.Whole.{pool_of}
use Rattle.mte_frames.proofs.Counts.{any_default, owner_within, some_sum, sum-set}
use Rattle.mte_frames.proofs.Moves.{of_fields, held_is, one_taken, give_numbered, give_sound, give_free}
use Rattle.mte_frames.proofs.pool.FramePool.give.Goals as goal

pub index_mut-requires-2 : goal.index_mut-requires-2
index_mut-requires-2 c = let a = c.self.inside in let q = c.quota.inside.number in
    let out = of_fields (λ n k. IsHeldBy n c.args.f k) a c.args.self.now c.args.quota.now q c.self.view_is c.quota.view_is c.requires in
    omega (arith, give_numbered (pool_of a) c.self.invariant.sound q c.args.f out, a.taken.ok.0)

pub overflow_sub-index_mut : goal.overflow_sub-index_mut
overflow_sub-index_mut c = let a = c.self.inside in let q = c.quota.inside.number in
    let out = of_fields (λ n k. IsHeldBy n c.args.f k) a c.args.self.now c.args.quota.now q c.self.view_is c.quota.view_is c.requires in let h = c.self.invariant.sound in
    omega (arith, one_taken (pool_of a) h q c.args.f out, c.index_mut-2.ensures.value, any_default a.taken.items q c.index_mut-2.result.now 0 (give_numbered (pool_of a) h q c.args.f out))

pub push_reserved-requires : goal.push_reserved-requires
push_reserved-requires c = let a = c.self.inside in let q = c.quota.inside.number in let h = c.self.invariant in
    let out = of_fields (λ n k. IsHeldBy n c.args.f k) a c.args.self.now c.args.quota.now q c.self.view_is c.quota.view_is c.requires in
    omega (arith, h.free_count, h.room, some_sum a.taken.items q (one_taken (pool_of a) h.sound q c.args.f out), a.free.ok.0)

pub invariant_of-self : goal.invariant_of-self
invariant_of-self c =
    let a = c.self.inside in let h = c.self.invariant in let q = c.quota.inside.number in let f = c.args.f in let p = pool_of a in
    let out = of_fields (λ n k. IsHeldBy n f k) a c.args.self.now c.args.quota.now q c.self.view_is c.quota.view_is c.requires in
    let within = give_numbered p h.sound q f out in let push = c.push_reserved.ensures in
    let same : c.index_mut-2.result.now ≡ get_or a.taken.items q 0 = c.index_mut-2.ensures.value ∙ any_default a.taken.items q c.index_mut-2.result.now 0 within in
    record {
      sound = rw (same, push.capacity) (give_sound p h.sound q f out);
      free_are = rw push.items (give_free a.free.items a.owners.items f q h.free_are (owner_within a.owners.items f q out) (held_is p h.sound q f out));
      free_count = omega (arith, h.free_count, ap length push.items, length-append a.free.items (f ∷ []), same, one_taken p h.sound q f out, sum-set a.taken.items q (c.index_mut-2.result.now - 1) within);
      unreserved_count = h.unreserved_count;
      room = omega (arith, h.room, push.capacity);
    }

pub returns-clause-still_out : goal.returns-clause-still_out
returns-clause-still_out c = rw (← c.self.view_is) (λ g k d o. get_or-set_other c.self.inside.owners.items c.args.f g None None d ∙ o)
