pub mod RankedLists
pub mod Answering
