use Rattle.std.proofs.Common.{rules, tests, ◌==◌, List, ℕ, is_some}
use Rattle.std.proofs.lemmas.Iterator.Search.{all_from_yields_List}
use Rattle.std.proofs.lemmas.Iterator.Splits.{YieldsList-from_slice_split}
use Rattle.gdb_packets.specs.Commands.{thread_action}
use Rattle.gdb_packets.proofs.queries.are_actions.Goals as goal

pub returns : goal.returns
returns c =
    all_from_yields_List (λ (piece : List ℕ). is_some (thread_action piece)) _ _ c.all.result c.all.ensures.ran
    (YieldsList-from_slice_split _ (λ b. b == 59) c.args.text.now c.split.ensures.rest c.split.ensures.done c.split.ensures.closure
    (λ x b q k. search (rules, tests)))
    (λ x b q k. search (rules, tests))
