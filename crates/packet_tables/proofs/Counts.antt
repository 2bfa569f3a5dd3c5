-- What a counter replies, and what it is after a call.
use Rattle.std.proofs.Common.{◌≡◌, ◌+◌, ℕ, pos, Bool, true, false, cond, List, [], ◌∷◌, length, refl}
use Rattle.std.specs.Prelude.{slice_get}
use Rattle.std.proofs.lemmas.Bool.{and_from}
use Rattle.packet_tables.specs.Servants.{counted, counted_by, one_more}
use Rattle.servant_core.specs.Rules.{UNKNOWN}
use Rattle.servant_core.specs.Servants.{Always, IsReplyUnder, IsSuited}
use Rattle.servant_core.specs.declared.replies.Reply.TheVariants.{Values, Code}
use Rattle.tars_model.specs.Declarations.{Declared}
use Rattle.tars_model.specs.Members.{reply_members_of}
use Rattle.tars_model.specs.Values.{fits}
use Rattle.tars_model.specs.declared.func_desc.FuncDesc.{FuncDesc}
use Rattle.tars_model.specs.declared.member.Member.{Member}
use Rattle.tars_model.specs.declared.value.Value.{Num}

-- it is the value of the one member, or a code other than 0
counted_fits : (d : Declared) (members : List Member) (n : ℕ) → IsReplyUnder d members (counted d members n)
counted_fits d [] n = λ e. cc
counted_fits d (m ∷ []) n = by_test (fits d m.ty (Num (pos n))) refl
  where
    by_test : (b : Bool) → fits d m.ty (Num (pos n)) ≡ b → IsReplyUnder d (m ∷ []) (cond b (Values (Num (pos n) ∷ [])) (Code UNKNOWN))
    by_test true fit = and_from _ _ fit refl
    by_test false fit = λ e. cc
counted_fits d (m ∷ k ∷ members) n = λ e. cc

-- so it fits, whatever was handled before
pub counts_suit : (d : Declared) (funcs : List FuncDesc) (handled : ℕ)
    → Always (IsSuited d funcs) (λ earlier last. counted_by d (slice_get funcs last.func) (one_more (handled + length earlier)))
counts_suit d funcs handled earlier last func found fit =
    rw found (counted_fits d (reply_members_of func) (one_more (handled + length earlier)))
