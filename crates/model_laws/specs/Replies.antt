-- Counterstrategies that answer each tuple once.
pub use Rattle.qc_model.specs.Counter.{AnswersOnce, EachAnswersOnce}
