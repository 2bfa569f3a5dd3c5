use Rattle.idl_parse.proofs.Trees.NestingLaws.{nested}
use Rattle.idl_parse.proofs.Parsing.Stopping.OneFault.{one_fault}
use Rattle.idl_parse.proofs.Parsing.Stopping.ParseSteps.{some_tree, one_file}
use Rattle.idl_parse.proofs.ast.one_tree.Goals as goal

pub returns-clause-some : goal.returns-clause-some
returns-clause-some c = some_tree

pub returns-clause-tree : goal.returns-clause-tree
returns-clause-tree c = one_file

pub returns-clause-fault : goal.returns-clause-fault
returns-clause-fault c = one_fault 16

pub returns-clause-not_both : goal.returns-clause-not_both
returns-clause-not_both c = λ end tokens entries at why file fault. fault.no_file entries file

pub returns-clause-nested : goal.returns-clause-nested
returns-clause-nested c = nested
