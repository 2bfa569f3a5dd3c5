-- What a servant is after calls.
use Rattle.std.proofs.Common.{List, ◌++◌, sym, ap, subst, ◌∙◌, append_assoc}
use Rattle.servant_core.specs.Servants.{Always, Handled, IsAfter, Meaning}
use Rattle.servant_core.specs.declared.replies.Reply.{Reply}

-- after calls and then more of them
pub after_on : (start middle now : Meaning) (calls more : List Handled) → IsAfter start calls middle → IsAfter middle more now → IsAfter start (calls ++ more) now
after_on start middle now calls more first second earlier last =
    second earlier last ∙ first (more ++ earlier) last ∙ ap (λ cs. start cs last) (sym (append_assoc calls more earlier))

-- what always holds of its replies holds after any calls
pub always_after : (start now : Meaning) (calls : List Handled) (IsFit : Handled → Reply → Type 0) → IsAfter start calls now → Always IsFit start → Always IsFit now
always_after start now calls IsFit after always earlier last = subst (IsFit last) (sym (after earlier last)) (always (calls ++ earlier) last)
