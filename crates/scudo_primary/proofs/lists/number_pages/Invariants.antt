use Rattle.std.proofs.Common.{◌≡◌, ◌≢◌, ◌+◌, ◌<◌, ℕ}
use Rattle.scudo_primary.specs.Inner.{page_number}
use Rattle.scudo_primary.specs.Blocks.{IsClass}
use Rattle.scudo_primary.proofs.lists.number_pages.Given as goal

abbrev pub invariant-loop-i : goal.invariant-loop-i
invariant-loop-i l = record {
  numbered : (j : ℕ) → j < l.i → page_number l.numbers l.class (l.from + j) ≡ l.first + j;
  before : (j : ℕ) → j < l.from → page_number l.numbers l.class j ≡ page_number l.fn.numbers l.class j;
  others : (other j : ℕ) → IsClass other → other ≢ l.class → page_number l.numbers other j ≡ page_number l.fn.numbers other j;
}
