use Rattle.scudo_header.proofs.ClassLemmas.{size_of-table, table-IsSize}
use Rattle.scudo_header.proofs.classes.size_of_class.Goals as goal

pub returns-clause-size : goal.returns-clause-size
returns-clause-size c = size_of-table c.args.class c.requires.class.high

pub returns-clause-least : goal.returns-clause-least
returns-clause-least c = (table-IsSize c.args.class c.requires.class.low c.requires.class.high).least

pub returns-clause-most : goal.returns-clause-most
returns-clause-most c = (table-IsSize c.args.class c.requires.class.low c.requires.class.high).most

pub returns-clause-multiple : goal.returns-clause-multiple
returns-clause-multiple c = (table-IsSize c.args.class c.requires.class.low c.requires.class.high).multiple
