use Rattle.std.proofs.Common.{sym}
use Rattle.scudo_header.proofs.ClassLemmas.{class_for-some, class_for-none}
use Rattle.scudo_header.proofs.classes.class_of.Goals as goal

pub returns-then-need-gt-LARGEST_CLASS_SIZE-clause-class : goal.returns-then-need-gt-LARGEST_CLASS_SIZE-clause-class
returns-then-need-gt-LARGEST_CLASS_SIZE-clause-class c = sym (class_for-none c.args.need c.if-need-gt-LARGEST_CLASS_SIZE.true)

pub returns-then-need-le-MIDDLE_SIZE-clause-class : goal.returns-then-need-le-MIDDLE_SIZE-clause-class
returns-then-need-le-MIDDLE_SIZE-clause-class c = sym (class_for-some _ _ c.class_by_units.ensures)

pub returns-else-need-le-MIDDLE_SIZE-clause-class : goal.returns-else-need-le-MIDDLE_SIZE-clause-class
returns-else-need-le-MIDDLE_SIZE-clause-class c = sym (class_for-some _ _ c.class_by_quarters.ensures)
