use Rattle.std.proofs.Common.{◌≡◌, true, drop}
use Rattle.std.specs.List.{list_all}
use Rattle.value_text.specs.Printed.{has_bytes}
use Rattle.script_values.proofs.Leads.{Leads}
use Rattle.script_values.proofs.args.read_args.Given as goal

-- what was read and what is left lead to all arguments, and the texts of what was read are bytes
abbrev pub invariant-loop-member : goal.invariant-loop-member
invariant-loop-member l = record {
  leads : Leads l.schema l.members (drop l.member-index l.members) l.text l.rest l.values;
  bytes : list_all has_bytes l.values ≡ true;
}
