-- For the crates above: the reading of a stream, how it goes on, what was given of it, and that it gets shorter by that.
pub use Rattle.tars_frames.proofs.Readings.{joined-append, the_reading, same_reading, packets_are, rest_is, carried_on}
pub use Rattle.tars_frames.proofs.BadLengths.{refused_bad, bad_refused, refused_stays}
pub use Rattle.tars_frames.proofs.Histories.{packets_follow, rest_same}
pub use Rattle.tars_frames.proofs.Cuts.{shorter}
