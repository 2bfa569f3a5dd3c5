-- For the crates above: what stands for a value of one level, and of each kind.
pub use Rattle.tars_codec.proofs.Layers.{wire_value_at, bool_wire, num_wire, text_wire, blob_wire, list_wire, map_wire, struct_wire}
