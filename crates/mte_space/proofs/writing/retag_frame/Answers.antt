use Rattle.std.proofs.Common.{◌≡◌, ◌*◌, ◌∙◌, sym, ap, None, get_or, arith, take, drop, replicate, ◌++◌, ◌+◌}
use Rattle.mte_tags.proofs.PageRuns.{filled}
use Rattle.mte_arena.specs.Frames.{Frame, frame_at}
use Rattle.mte_frames.specs.Pool.{Pool, IsHeldBy}
use Rattle.mte_frames.proofs.Keeps.{keeps_on}
use Rattle.mte_space.specs.Writes.{with_frame, retagged_frame}
use Rattle.mte_space.proofs.Taken.{within_frames, is_frame, frame_at-set}
use Rattle.mte_space.proofs.Zeroing.{zeroed_after}
use Rattle.mte_space.proofs.writing.retag_frame.Goals as goal

pub returns-then-zero-clause-pool : goal.returns-then-zero-clause-pool
returns-then-zero-clause-pool c =
    let p = c.args.pool.now in
    let f = c.args.frame in
    let x = frame_at p.frames f in
    let l = within_frames p f c.requires.out.0 c.recall.ensures.sound c.requires.out.1 in
    let long = (is_frame p f c.requires.out c.recall.ensures.sound c.recall.ensures.sized).bytes in
    let same : c.data_mut.result.now ≡ x.bytes = c.data_mut.ensures.value ∙ ap (λ (m : Pool). (frame_at m.frames f).bytes) c.set_tags.ensures.pool ∙ ap (λ (y : Frame). y.bytes) (frame_at-set p.frames f _ l) in
    let zeros = filled c.data_mut.result.now c.fill.new.self (16 * c.args.first) (16 * c.args.count) 0 (omega (arith, c.data_mut.ensures.len, c.requires.inside)) (c.fill.ensures.after (λ y e. e)) in
    zeroed_after p c.set_tags.new.self f c.args.first c.args.count c.args.tag _ l (omega (arith, long, c.requires.inside)) long c.set_tags.ensures.pool (zeros ∙ ap (λ bs. take (16 * c.args.first) bs ++ (replicate (16 * c.args.count) 0 ++ drop (16 * c.args.first + 16 * c.args.count) bs)) same)
    ∙ ap (λ z. with_frame p f (retagged_frame x c.args.first c.args.count c.args.tag z)) (sym c.if-zero.true)

pub returns-then-zero-clause-others : goal.returns-then-zero-clause-others
returns-then-zero-clause-others c = λ k out.
    let p = c.args.pool.now in
    let still : IsHeldBy c.set_tags.new.self c.args.frame k = ap (λ (m : Pool). get_or m.owners c.args.frame None) c.set_tags.ensures.pool ∙ out in
    keeps_on k p c.set_tags.new.self _ (c.set_tags.ensures.others k out) (c.data_mut.ensures.others k _ still)
