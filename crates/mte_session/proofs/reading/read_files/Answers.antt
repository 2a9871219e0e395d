use Rattle.std.proofs.Common.{◌≡◌, rules, arith, get_or, map, ◌+◌, ◌++◌, ◌∷◌, [], inr, string_bytes, take}
use Rattle.std.specs.declared.string.String.{String}
use Rattle.std.specs.declared.alloc.Global.{Global}
use Rattle.std.proofs.lemmas.List.{map-append}
use Rattle.mte_session.specs.Files.{contents}
use Rattle.mte_session.specs.Reads.{ReadInOrder, StoppedAt}
use Rattle.mte_session.proofs.FileLemmas.{read_none, read_more, read_some, stopped_next, stopped_by}
use Rattle.mte_session.proofs.reading.read_files.Goals as goal

pub loop-name-init : goal.loop-name-init
loop-name-init g c = rw c.new-whole.ensures.items (read_none _)

pub returns-in-Err-clause-stopped : goal.returns-in-Err-clause-stopped
returns-in-Err-clause-stopped g c =
    let t : String Global = c.name-item.result in
    let same : get_or c.args.names.now c.loop-name.name-index t ≡ t = search rules in
    let next : StoppedAt (map string_bytes c.args.names.now) c.in-Err.fault (string_bytes (get_or c.args.names.now c.loop-name.name-index t)) (g.F.Files.log c.args.files.now) (g.F.Files.log c.read_file.new.self) =
    stopped_next (g.F.Files.log c.args.files.now) (g.F.Files.log c.loop-name.files) (g.F.Files.log c.read_file.new.self) string_bytes c.args.names.now c.loop-name.name-index t (contents c.loop-name.whole.items) c.in-Err.fault (omega arith) c.loop-name.invariant (rw same (search rules)) in
    let name : c.as_str-in-Err.result.now ≡ string_bytes t = search rules in
    rw c.of_read.ensures (stopped_by _ _ _ c.in-Err.fault c.as_str-in-Err.result (rw name (rw same at next)))

pub returns-then-is_err-clause-stopped : goal.returns-then-is_err-clause-stopped
returns-then-is_err-clause-stopped g c =
    let t : String Global = c.name-item.result in
    let same : get_or c.args.names.now c.loop-name.name-index t ≡ t = search rules in
    let next : ReadInOrder (map string_bytes (take (c.loop-name.name-index + 1) c.args.names.now)) (contents c.loop-name.whole.items ++ c.in-Ok.bytes.items ∷ []) (g.F.Files.log c.args.files.now) (g.F.Files.log c.read_file.new.self) =
    read_more (g.F.Files.log c.args.files.now) (g.F.Files.log c.loop-name.files) (g.F.Files.log c.read_file.new.self) string_bytes c.args.names.now c.loop-name.name-index t (contents c.loop-name.whole.items) c.in-Ok.bytes (omega arith) c.loop-name.invariant (rw same (search rules)) in
    inr (read_some _ _ string_bytes c.args.names.now (c.loop-name.name-index + 1) _ next)

pub loop-name-preserved : goal.loop-name-preserved
loop-name-preserved g c =
    let t : String Global = c.name-item.result in
    let same : get_or c.args.names.now c.loop-name.name-index t ≡ t = search rules in
    let pushed : c.push.new.self.items ≡ c.loop-name.whole.items ++ c.in-Ok.bytes ∷ [] = search rules in
    let next : ReadInOrder (map string_bytes (take (c.loop-name.name-index + 1) c.args.names.now)) (contents c.loop-name.whole.items ++ c.in-Ok.bytes.items ∷ []) (g.F.Files.log c.args.files.now) (g.F.Files.log c.read_file.new.self) =
    read_more (g.F.Files.log c.args.files.now) (g.F.Files.log c.loop-name.files) (g.F.Files.log c.read_file.new.self) string_bytes c.args.names.now c.loop-name.name-index t (contents c.loop-name.whole.items) c.in-Ok.bytes (omega arith) c.loop-name.invariant (rw same (search rules)) in
    rw (pushed, map-append (λ f. f.items) c.loop-name.whole.items (c.in-Ok.bytes ∷ [])) next
