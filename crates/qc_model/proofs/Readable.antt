-- For crates above that take these words from here.
pub use Rattle.qc_model.proofs.Conjunctions.{first, second}
