use Rattle.std.proofs.lemmas.List.{length-set}
use Rattle.std.proofs.Common.{◌≡◌, ◌+◌, ◌<◌, [], ◌∷◌, length, get_or, get_or-set_same, None, Some, sym, ap, ◌∙◌, arith, length-append}
use Rattle.mte_arena.specs.Frames.{zero_frame}
use Rattle.mte_frames.specs.Pool.{taken_by, reserved_by}
use Rattle.mte_frames.specs.Whole.{pool_of}
use Rattle.mte_frames.proofs.Counts.{any_default, vacant_within, sum-set}
use Rattle.mte_frames.proofs.Keeps.{keeps_taken, still_taken}
use Rattle.mte_frames.proofs.Moves.{of_fields, popped_vacant, some_free, numbered, take_sound, take_free}
use Rattle.mte_frames.proofs.pool.FramePool.take.Goals as goal

pub unreachable-requires : goal.unreachable-requires
unreachable-requires c = let p = c.args.self.now in let q = c.args.quota.now in let a = c.self.inside in
    let left = of_fields (λ n k. taken_by n k < reserved_by n k) a p q q c.self.view_is (λ i. q) c.requires in
    absurd (omega (arith, some_free (pool_of a) q c.self.invariant.sound left, c.self.invariant.free_count, a.free.ok.0, c.in_default.ensures.cases.0))

pub scrub-requires : goal.scrub-requires
scrub-requires c = let a = c.self.inside in let f = c.in-Some.f in let was = popped_vacant a.free.items c.pop.new.self.items a.owners.items f c.self.invariant.free_are c.in-Some.ensures.items in
    omega (arith, vacant_within a.owners.items f was, c.self.invariant.sound.owners_len)

pub index_mut-requires : goal.index_mut-requires
index_mut-requires c = let a = c.self.inside in let f = c.in-Some.f in let was = popped_vacant a.free.items c.pop.new.self.items a.owners.items f c.self.invariant.free_are c.in-Some.ensures.items in
    omega (arith, vacant_within a.owners.items f was, a.owners.ok.0)

pub returns-clause-vacant : goal.returns-clause-vacant
returns-clause-vacant c = let a = c.self.inside in
    rw (← c.self.view_is) (popped_vacant a.free.items c.pop.new.self.items a.owners.items c.in-Some.f c.self.invariant.free_are c.in-Some.ensures.items)

pub invariant_of-self : goal.invariant_of-self
invariant_of-self c =
    let a = c.self.inside in let h = c.self.invariant in let f = c.in-Some.f in let q = c.quota.inside.number in let rest = c.pop.new.self.items in let e = c.in-Some.ensures.items in
    let was = popped_vacant a.free.items rest a.owners.items f h.free_are e in
    let left = of_fields (λ n k. taken_by n k < reserved_by n k) a c.args.self.now c.args.quota.now q c.self.view_is c.quota.view_is c.requires in
    let within = numbered (pool_of a) h.sound q left in
    let same : c.index_mut-2.result.now ≡ get_or a.taken.items q 0 = c.index_mut-2.ensures.value ∙ any_default a.taken.items q c.index_mut-2.result.now 0 within in
    let long = ap length c.scrub.ensures ∙ length-set a.arena f (Some zero_frame) in
    record {
      sound = rw (c.scrub.ensures, same, c.pop.ensures.capacity) (take_sound (pool_of a) h.sound q f was left);
      free_are = take_free a.free.items rest a.owners.items f q h.free_are e was;
      free_count = omega (arith, h.free_count, ap length e, length-append rest (f ∷ []), long, same, sum-set a.taken.items q (c.index_mut-2.result.now + 1) within);
      unreserved_count = h.unreserved_count ∙ sym long;
      room = omega (arith, h.room, long, c.pop.ensures.capacity);
    }

pub returns-clause-others : goal.returns-clause-others
returns-clause-others c =
    let a = c.self.inside in let f = c.in-Some.f in let was = popped_vacant a.free.items c.pop.new.self.items a.owners.items f c.self.invariant.free_are c.in-Some.ensures.items in
    rw (← c.self.view_is, ← c.quota.view_is, c.scrub.ensures, c.pop.ensures.capacity) (keeps_taken c.quota.inside.number f (c.index_mut-2.result.now + 1) (Some zero_frame) (pool_of a) (vacant_within a.owners.items f was) was)

pub returns-clause-within : goal.returns-clause-within
returns-clause-within c = let a = c.self.inside in let f = c.in-Some.f in let was = popped_vacant a.free.items c.pop.new.self.items a.owners.items f c.self.invariant.free_are c.in-Some.ensures.items in
    rw (← c.self.view_is) (let within : f < length a.arena = omega (arith, vacant_within a.owners.items f was, c.self.invariant.sound.owners_len) in within)

pub returns-clause-out : goal.returns-clause-out
returns-clause-out c = let a = c.self.inside in let f = c.in-Some.f in let was = popped_vacant a.free.items c.pop.new.self.items a.owners.items f c.self.invariant.free_are c.in-Some.ensures.items in
    rw (← c.quota.view_is) (get_or-set_same a.owners.items f (Some c.quota.inside.number) None (vacant_within a.owners.items f was))

pub returns-clause-still_out : goal.returns-clause-still_out
returns-clause-still_out c = let a = c.self.inside in let f = c.in-Some.f in let was = popped_vacant a.free.items c.pop.new.self.items a.owners.items f c.self.invariant.free_are c.in-Some.ensures.items in
    rw (← c.self.view_is) (λ g k o. still_taken a.owners.items f c.quota.inside.number g k was (vacant_within a.owners.items f was) o)
