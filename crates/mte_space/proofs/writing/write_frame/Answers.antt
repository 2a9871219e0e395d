use Rattle.std.proofs.Common.{◌≡◌, ◌%◌, ◌∙◌, ap, length}
use Rattle.mte_tags.specs.Runs.{with_bytes_run}
use Rattle.mte_arena.specs.Frames.{frame_at, make_frame}
use Rattle.mte_arena.proofs.Parts.{refill-same}
use Rattle.mte_space.specs.Writes.{with_frame}
use Rattle.mte_space.proofs.writing.write_frame.Goals as goal

pub returns-clause-pool : goal.returns-clause-pool
returns-clause-pool c =
    let p = c.args.pool.now in
    let x = frame_at p.frames c.args.frame in
    let long : length c.copy_in.new.page ≡ 4096 = c.copy_in.auto.page ∙ c.data_mut.ensures.len in
    ap (λ ws. with_frame p c.args.frame (make_frame ws x.tags))
    (refill-same 4096 x.bytes c.copy_in.new.page long ∙ c.copy_in.ensures ∙ ap (λ bs. with_bytes_run bs (c.args.at % 4096) c.args.bytes.now) c.data_mut.ensures.value)
