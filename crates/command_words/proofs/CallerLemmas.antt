-- For the crates above: words ask for one thing, or are no form of a command.
pub use Rattle.command_words.proofs.WordLaws.{Either, asked_or_no_form, one_asked, not_none}
