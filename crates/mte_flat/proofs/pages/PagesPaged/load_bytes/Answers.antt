use Rattle.std.proofs.Common.{◌∙◌, ap, length}
use Rattle.mte_tags.specs.Accesses.{addresses, with_bytes_at, with_bytes}
use Rattle.mte_flat.specs.Inner.Places.{memory_of}
use Rattle.mte_flat.proofs.pages.PagesPaged.load_bytes.Goals as goal

pub returns-clause-memory : goal.returns-clause-memory
unfolding with_bytes_at
returns-clause-memory c = c.replace_bytes.ensures.memory ∙ ap (λ a. with_bytes (memory_of c.args.self.now) (addresses a (length c.args.bytes.now)) c.args.bytes.now) c.plain.ensures
