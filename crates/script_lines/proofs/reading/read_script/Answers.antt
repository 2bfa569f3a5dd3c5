use Rattle.script_lines.proofs.ReadLaws.{read_is, limits_are, fault_is, only_is, refused_is}
use Rattle.script_lines.proofs.reading.read_script.Goals as goal

pub returns-clause-read : goal.returns-clause-read
returns-clause-read c = read_is c.args.text.now c.read_text.result c.read_text.ensures

pub returns-clause-only : goal.returns-clause-only
returns-clause-only c = only_is c.args.text.now c.read_text.result c.read_text.ensures

pub returns-clause-fault : goal.returns-clause-fault
returns-clause-fault c = fault_is c.args.text.now c.read_text.result c.read_text.ensures

pub returns-clause-refused : goal.returns-clause-refused
returns-clause-refused c = refused_is c.args.text.now c.read_text.result c.read_text.ensures

pub returns-clause-limits : goal.returns-clause-limits
returns-clause-limits c = limits_are c.args.text.now c.read_text.result c.read_text.ensures
