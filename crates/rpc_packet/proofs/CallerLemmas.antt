-- For the crates above: how long the frames of requests and responses are, and that those within the limit are packets.
pub use Rattle.rpc_packet.proofs.Lengths.{request_length, response_length}
pub use Rattle.rpc_packet.proofs.TextMaps.{no_texts}
pub use Rattle.rpc_packet.proofs.Within.{within_sendable, within_answerable, response_body_within, request_packet, response_packet}
