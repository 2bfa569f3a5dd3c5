use Rattle.std.proofs.Common.{map, string_bytes}
use Rattle.clap.specs.Words.{app_of}
use Rattle.command_words.proofs.WordLaws.{matches_taken}
use Rattle.command_words.proofs.words.takes.Goals as goal

pub returns-clause-taken : goal.returns-clause-taken
returns-clause-taken c =
    matches_taken _ (app_of c.in_ok-app.app) (map string_bytes c.args.words.now) c.try_get_matches_from.result c.map_err.result c.in_ok-app.ensures c.try_get_matches_from.ensures.matches c.try_get_matches_from.ensures.kinds c.map_err.ensures.cases
