use Rattle.idl_parse.proofs.Trees.NestingLaws.{file_spans}
use Rattle.idl_parse.proofs.Trees.TypeNesting.{file_nests}
use Rattle.idl_parse.proofs.ast.Ast.entries.Goals as goal

pub returns-clause-spans : goal.returns-clause-spans
returns-clause-spans c =
    let file = c.self.invariant.file in
    rw (← c.self.view_is) (file_spans 16 c.self.inside.text file.tokens c.self.inside.entries file.are file.derived)

pub returns-clause-nested : goal.returns-clause-nested
returns-clause-nested c =
    let file = c.self.invariant.file in
    rw (← c.self.view_is) (file_nests 16 file.tokens c.self.inside.entries file.derived)
