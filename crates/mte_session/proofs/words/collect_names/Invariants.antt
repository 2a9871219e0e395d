use Rattle.std.proofs.Common.{◌≡◌, ◌∷◌, ◌≤◌, map, take, length}
use Rattle.mte_session.specs.Reads.{names_of}
use Rattle.mte_session.proofs.words.collect_names.Given as goal

abbrev pub invariant-loop-name : goal.invariant-loop-name
invariant-loop-name l = record {
  same : names_of l.names.items ≡ l.fn.script ∷ map (λ f. f.now) (take l.name-index l.files);
  some : 1 ≤ length l.names.items;
}
