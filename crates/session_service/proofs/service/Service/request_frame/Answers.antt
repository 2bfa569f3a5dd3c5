use Rattle.std.proofs.Common.{sym, subst}
use Rattle.rpc_packet.specs.Outcomes.{IsSendable}
use Rattle.script_session.specs.Sessions.{request_of}
use Rattle.rpc_packet.proofs.CallerLemmas.{no_texts, within_sendable}
use Rattle.session_service.proofs.service.Service.request_frame.Goals as goal

pub write_request-requires : goal.write_request-requires
write_request-requires c = record {
  sendable =
      subst IsSendable (sym c.in_ok-request.ensures)
      (within_sendable (request_of c.args.self.now c.args.spec.now c.args.id) no_texts no_texts (c.requires.call.within c.args.id c.requires.id));
}
