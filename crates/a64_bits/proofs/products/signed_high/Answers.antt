use Rattle.std.proofs.Common.{arith}
use Rattle.a64_bits.proofs.ProductLemmas.{high_product-positive, high_product-second, high_product-first, high_product-negative}
use Rattle.a64_bits.proofs.products.signed_high.Goals as goal

pub returns-in-true-true : goal.returns-in-true-true
returns-in-true-true c =
    rw c.requires (high_product-positive c.args.x c.args.y c.in-true-true.is-0 c.in-true-true.is-1)

pub returns-in-true-false : goal.returns-in-true-false
returns-in-true-false c =
    rw c.requires (high_product-second c.args.x c.args.y c.in-true-false.is-0 c.in-true-false.is-1 (omega arith))

pub returns-in-false-true : goal.returns-in-false-true
returns-in-false-true c =
    rw c.requires (high_product-first c.args.x c.args.y c.in-false-true.is-0 (omega arith) c.in-false-true.is-1)

pub returns-in-false-false : goal.returns-in-false-false
returns-in-false-false c =
    rw c.requires (high_product-negative c.args.x c.args.y c.in-false-false.is-0 (omega arith) c.in-false-false.is-1 (omega arith))
