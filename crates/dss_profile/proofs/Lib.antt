pub mod FormRanges
pub mod ClassRanges
pub mod ElementRanges
pub mod CallerLemmas
