-- The functions of a session in the caller's version.
use Rattle.std.proofs.Common.{◌≡◌, ◌<◌, ℕ, length, slice_index_or, Some, sym, subst}
use Rattle.std.specs.Prelude.{slice_get}
use Rattle.tars_model.specs.Members.{arguments_of, reply_members_of}
use Rattle.tars_model.specs.Schemas.{IsSchema}
use Rattle.tars_model.specs.declared.interface_desc.InterfaceDesc.{InterfaceDesc}
use Rattle.tars_decode.specs.Decoding.{MembersFit}
use Rattle.servant_core.proofs.Functions.{IsInterfaceOver, funcs_over}
use Rattle.servant_core.proofs.FuncsAt.{arguments_at_fit, reply_at_fit}
use Rattle.script_session.specs.Judged.{IsJudged}
use Rattle.script_session.specs.Sessions.{client_funcs, func_of}
use Rattle.script_session.specs.declared.session.Session.{Session}
use Rattle.session_service.proofs.Lists.{found_or}

pub interface_over : (s : Session) → IsJudged s → IsSchema s.client → (i : InterfaceDesc) → i ≡ slice_index_or s.client.interfaces s.client_interface i
    → IsInterfaceOver (length s.client.enums) (length s.client.structs) i
interface_over s judged schema i is = subst (IsInterfaceOver (length s.client.enums) (length s.client.structs)) (sym is) (funcs_over schema s.client_interface i judged.client)

module _ (s : Session) (schema : IsSchema s.client) (k : ℕ) (within : k < length (client_funcs s)) where
  func_there : slice_get (client_funcs s) k ≡ Some (func_of s k)
  func_there = found_or (client_funcs s) k _ within

  pub call_arguments_fit : MembersFit s.client (arguments_of (func_of s k))
  call_arguments_fit = arguments_at_fit schema s.client_interface k (func_of s k) func_there

  pub call_reply_fit : MembersFit s.client (reply_members_of (func_of s k))
  call_reply_fit = reply_at_fit schema s.client_interface k (func_of s k) func_there
