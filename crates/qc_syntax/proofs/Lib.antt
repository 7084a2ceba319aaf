pub mod OneThing
pub mod EachText
pub mod Words
pub mod CaseWords
pub mod Cases
pub mod CasesOfItems
