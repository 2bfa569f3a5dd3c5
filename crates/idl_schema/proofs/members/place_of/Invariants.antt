use Rattle.std.proofs.Common.{◌≡◌, ◌+◌, drop}
use Rattle.std.specs.List.{position_or_len}
use Rattle.std.specs.Prelude.{nat_lt}
use Rattle.tars_model.specs.declared.member.Member.{Member}
use Rattle.idl_schema.proofs.members.place_of.Given as goal

abbrev pub invariant-loop-m : goal.invariant-loop-m
invariant-loop-m l = record {
  counted : l.at ≡ l.m-index;
  same : position_or_len (λ (m : Member). nat_lt l.tag m.tag) l.members ≡ l.m-index + position_or_len (λ (m : Member). nat_lt l.tag m.tag) (drop l.m-index l.members);
}
