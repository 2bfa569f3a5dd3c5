use Rattle.std.proofs.Common.{rules, true, false, map, string_bytes}
use Rattle.clap.specs.Words.{subcommand_rows_of}
use Rattle.command_words.specs.Asked.{asked_by}
use Rattle.command_words.proofs.WordLaws.{texts_are, no_form_of_others, not_others, request_is, usage_failed, asked_found, usage_found, no_form_found}
use Rattle.command_words.proofs.words.request_of.Goals as goal

pub returns-then-not-are_words-clause-usage : goal.returns-then-not-are_words-clause-usage
returns-then-not-are_words-clause-usage c =
    let others = texts_are string_bytes c.args.words.now c.are_words.result false c.are_words.ensures (search rules) in
    λ same. no_form_of_others (map string_bytes c.args.words.now) others

pub returns-in_err-matches-clause-usage : goal.returns-in_err-matches-clause-usage
returns-in_err-matches-clause-usage c =
    usage_failed asked_by (map string_bytes c.args.words.now) c.in_err-matches.field-0.0 c.from_residual.result c.from_residual.ensures c.in_err-matches.ensures.usage

pub returns-clause-asked : goal.returns-clause-asked
returns-clause-asked c =
    let texts = map string_bytes c.args.words.now in
    let all = texts_are string_bytes c.args.words.now c.are_words.result true c.are_words.ensures (search rules) in
    let matched = request_is asked_by texts (subcommand_rows_of c.in_ok-matches.matches) c.request_in.result all c.in_ok-matches.ensures.taken c.request_in.ensures in
    asked_found asked_by texts c.request_in.result c.ok_or.result c.ok_or.ensures.value matched

pub returns-clause-usage : goal.returns-clause-usage
returns-clause-usage c =
    let texts = map string_bytes c.args.words.now in
    let all = texts_are string_bytes c.args.words.now c.are_words.result true c.are_words.ensures (search rules) in
    let matched = request_is asked_by texts (subcommand_rows_of c.in_ok-matches.matches) c.request_in.result all c.in_ok-matches.ensures.taken c.request_in.ensures in
    usage_found asked_by texts c.request_in.result c.ok_or.result c.ok_or.ensures.value matched

pub returns-clause-no_form : goal.returns-clause-no_form
returns-clause-no_form c =
    let texts = map string_bytes c.args.words.now in
    let all = texts_are string_bytes c.args.words.now c.are_words.result true c.are_words.ensures (search rules) in
    let matched = request_is asked_by texts (subcommand_rows_of c.in_ok-matches.matches) c.request_in.result all c.in_ok-matches.ensures.taken c.request_in.ensures in
    no_form_found asked_by texts c.request_in.result c.ok_or.result c.ok_or.ensures.value matched

pub returns-in_err-matches-clause-no_word : goal.returns-in_err-matches-clause-no_word
returns-in_err-matches-clause-no_word c =
    not_others _ (map string_bytes c.args.words.now) (texts_are string_bytes c.args.words.now c.are_words.result true c.are_words.ensures (search rules))

pub returns-clause-no_word : goal.returns-clause-no_word
returns-clause-no_word c =
    not_others _ (map string_bytes c.args.words.now) (texts_are string_bytes c.args.words.now c.are_words.result true c.are_words.ensures (search rules))
