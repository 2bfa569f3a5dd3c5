use Rattle.std.proofs.Common.{sym}
use Rattle.idl_parse.proofs.Trees.IncludeLaws.{spelled_at, none_at}
use Rattle.idl_parse.proofs.ast.Ast.include.Goals as goal

pub returns-in_err-name : goal.returns-in_err-name
returns-in_err-name c =
    rw (c.from_residual.ensures, ← c.self.view_is) (none_at c.self.inside.text _ c.self.inside.includes c.args.k c.self.invariant.names c.in_err-name.ensures.value)

pub returns : goal.returns
returns c =
    rw (c.as_slice.ensures, ← c.self.view_is) (spelled_at c.self.inside.text _ c.self.inside.includes c.args.k c.in_ok-name.name.now c.self.invariant.names (sym c.in_ok-name.ensures.value))
