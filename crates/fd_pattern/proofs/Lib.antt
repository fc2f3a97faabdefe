pub mod Order
pub mod Inside
pub mod DrawnSizes
pub mod CallerLemmas
