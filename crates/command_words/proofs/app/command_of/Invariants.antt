use Rattle.std.proofs.Common.{◌≡◌, false, take}
use Rattle.clap.specs.Walk.{texts}
use Rattle.clap.specs.Words.{shape_of}
use Rattle.clap.specs.declared.builder.command.Command.TheViews.{out-Command}
use Rattle.command_words.specs.FormSteps.{shape_named}
use Rattle.command_words.proofs.app.command_of.Given as goal

abbrev pub invariant-loop-word : goal.invariant-loop-word
invariant-loop-word l = (shape_of l.command ≡ shape_named l.name (texts (take l.word-index l.words))) × ((out-Command l.command).has_globals ≡ false)
