-- For the crates above: how numbers are tested for an int, and when a value of each kind is one of a type.
pub use Rattle.tars_model.proofs.Ints.{int_test, int_passes}
pub use Rattle.tars_model.proofs.ToldLaws.{told_out, told_fits_text, told_fits_blob, told_fits_list, told_fits_map, told_fits_struct, all_entries, list_told, map_told, entry_fits_is}
