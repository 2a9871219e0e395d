use Rattle.std.proofs.Common.{◌≡◌, cond, false, rules, arith}
use Rattle.tombolopan_c.specs.LentPages.{mode_for}
use Rattle.tombolopan_c.proofs.Changes.{lent_none, mode_from}
use Rattle.tombolopan_c.proofs.page_calls.tb_memory_init.Goals as goal

pub returns : goal.returns
returns c =
    let number : c.from-state.result ≡ cond c.args.asynchronous 1 0 = search rules in
    let mode = mode_from c.args.asynchronous c.from-state.result number in
    lent_none _ c.loop-page.pages _ (mode_for c.args.asynchronous) c.loop-page.invariant.0 (λ i. record { mode = mode i; pending = false }) (λ k d l. c.loop-page.invariant.1 k d (omega arith))
