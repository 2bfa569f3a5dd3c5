use Rattle.std.proofs.Common.{rules, ◌≡◌, IsTrue, ◌↔◌}
use Rattle.idl_parse.proofs.Parsing.Combining.KindLaws.{same_kind_told}
use Rattle.idl_parse.proofs.parser.tokens.same_kind.Goals as goal

pub returns : goal.returns
returns c =
    let told : IsTrue c.eq.result ↔ (c.args.kind ≡ c.args.wanted) = search rules in
    same_kind_told c.eq.result c.args.kind c.args.wanted told
