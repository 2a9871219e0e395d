use Rattle.std.proofs.Common.{◌≡◌, rules, get_or, drop, ◌∷◌, ◌≤◌, length, ℕ, Vec}
use Rattle.std.specs.declared.alloc.Global.{Global}
use Rattle.mte_session.specs.Files.{contents}
use Rattle.mte_session.specs.Outcomes.{Failed}
use Rattle.mte_session.specs.Reads.{names_of, ReadInOrder}
use Rattle.mte_session.proofs.FileLemmas.{with_first, not_empty, rest_whole, ran_failed}
use Rattle.mte_session.proofs.running.run_program.Goals as goal

pub returns : goal.returns
returns g c =
    let value : c.as_slice.result.now ≡ c.args.program.now.names.items = c.as_slice.ensures.value in
    let all : ReadInOrder (names_of c.args.program.now.names.items) (contents c.in-Ok.whole.items) (g.F.Files.log c.args.files.now) (g.F.Files.log c.read_files.new.files) = rw value at c.in-Ok.ensures.all in
    let some : 1 ≤ length c.args.program.now.names.items = c.args.program.now.script in
    let long : 1 ≤ length c.in-Ok.whole.items = not_empty _ c.in-Ok.whole.items _ c.args.program.now.names.items all.count some in
    let t : Vec ℕ Global = get_or c.in-Ok.whole.items 0 c.index.result.now in
    let parts : contents c.in-Ok.whole.items ≡ t.items ∷ contents (drop 1 c.in-Ok.whole.items) = with_first (λ f. f.items) c.in-Ok.whole.items c.index.result.now long in
    let first : c.as_slice-script.result.now ≡ t.items = search rules in
    let read : ReadInOrder (names_of c.args.program.now.names.items) (c.as_slice-script.result.now ∷ contents (drop 1 c.in-Ok.whole.items)) (g.F.Files.log c.args.files.now) (g.F.Files.log c.read_files.new.files) = rw (first, ← parts) all in
    let rest = rest_whole c.in-Ok.whole.items c.as_slice-2.result.now c.as_slice-2.ensures.value in
    let failed : Failed (record { frames = c.args.program.now.frames; files = contents (drop 1 c.in-Ok.whole.items); script = c.as_slice-script.result.now }) (g.W.Sink.log c.args.out.now) (g.W.Sink.log c.run_session_with_blocks.new.out) c.in-Err-run_session_with_blocks.error = rw rest at c.in-Err-run_session_with_blocks.ensures.failed in
    rw c.from.ensures (ran_failed c.args.program.now _ _ _ _ c.as_slice-script.result.now (contents (drop 1 c.in-Ok.whole.items)) c.in-Err-run_session_with_blocks.error read failed)
