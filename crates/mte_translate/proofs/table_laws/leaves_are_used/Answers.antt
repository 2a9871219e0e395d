use Rattle.mte_translate.proofs.TableLemmas.{leaves-len, len-few}
use Rattle.mte_translate.proofs.KeptTables.{leaf-where}
use Rattle.mte_translate.proofs.table_laws.leaves_are_used.Goals as goal

pub returns-clause-leaf : goal.returns-clause-leaf
returns-clause-leaf c = leaf-where

pub returns-clause-few : goal.returns-clause-few
returns-clause-few c = leaves-len

pub returns-clause-most : goal.returns-clause-most
returns-clause-most c = len-few
