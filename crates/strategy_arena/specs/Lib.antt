pub mod Certificate
pub mod Short
