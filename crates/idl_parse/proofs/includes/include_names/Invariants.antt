use Rattle.std.proofs.Common.{take}
use Rattle.idl_parse.specs.Files.{include_spans, AllSpell}
use Rattle.idl_parse.proofs.includes.include_names.Given as goal

abbrev pub invariant-loop-entry : goal.invariant-loop-entry
invariant-loop-entry l = AllSpell l.text (include_spans (take l.entry-index l.entries)) l.names
