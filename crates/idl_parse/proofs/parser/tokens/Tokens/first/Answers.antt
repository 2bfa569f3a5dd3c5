use Rattle.std.proofs.Common.{◌∙◌, sym}
use Rattle.idl_lex.specs.declared.kind.Kind.TheVariants.{Ident}
use Rattle.idl_parse.proofs.Parsing.Repeating.TokenSteps.{some_first}
use Rattle.idl_parse.proofs.parser.tokens.Tokens.first.Goals as goal

pub returns-in-len1-up : goal.returns-in-len1-up
returns-in-len1-up c =
    let p = some_first (record { kind = Ident; start = 0; end = 0 }) c.self.inside.left.now c.in-len1-up.len_at_least in
    (p.0, sym c.self.view_is ∙ p.1)
