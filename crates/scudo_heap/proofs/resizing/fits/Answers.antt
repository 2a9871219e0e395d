use Rattle.std.proofs.Common.{arith}
use Rattle.scudo_heap.proofs.ClassLemmas.{user-near}
use Rattle.scudo_heap.proofs.resizing.fits.Goals as goal

pub overflow_add-result : goal.overflow_add-result
overflow_add-result c =
    let near = user-near c.args.place c.requires.place in
    let size = c.granules.ensures in
    let most = c.requires.size.most in
    omega arith
