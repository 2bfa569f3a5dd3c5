-- For the crates above. Tokens have one tree or one fault, which is the public law `one_tree`; and how types nest by their
-- level.
pub use Rattle.idl_parse.proofs.Parsing.Stopping.ParseSteps.{some_tree, one_file}
pub use Rattle.idl_parse.proofs.Parsing.Stopping.OneFault.{one_fault}
pub use Rattle.idl_parse.proofs.Trees.TypeNesting.{nests_basic, nests_named, nests_vector, nests_map}
