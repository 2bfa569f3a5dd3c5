use Rattle.std.proofs.Common.{◌≡◌, take}
use Rattle.session_service.specs.Made.{all_members}
use Rattle.session_service.proofs.func_members.members_of_all.Given as goal

abbrev pub invariant-loop-func : goal.invariant-loop-func
invariant-loop-func l = l.members.items ≡ all_members (take l.func-index l.funcs)
