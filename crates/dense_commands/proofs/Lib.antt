mod Before
mod Completeness
mod Feeding
mod Formulas
mod Heads
