use Rattle.std.proofs.Common.{arith}
use Rattle.scudo_header.proofs.ClassLemmas.{multiple_test, product_fits}
use Rattle.scudo_header.proofs.classes.is_multiple.Goals as goal

pub overflow_mul-number : goal.overflow_mul-number
overflow_mul-number c = let f = product_fits c.args.class c.args.distance c.requires.class.low c.requires.class.high c.requires.near in let a = f.0 in omega arith

pub overflow_mul-result : goal.overflow_mul-result
overflow_mul-result c = let f = product_fits c.args.class c.args.distance c.requires.class.low c.requires.class.high c.requires.near in let a = f.1 in omega arith

pub returns : goal.returns
returns c = multiple_test c.args.class c.args.distance c.requires.class.low c.requires.class.high c.requires.near
