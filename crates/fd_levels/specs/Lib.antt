pub mod Feeds
pub mod Levels
pub mod LevelLaws
pub mod Marking
pub mod Order
pub mod Grouping
pub mod Once
pub use Rattle.fd_ladder.specs as fd_ladder
pub use Rattle.fd_triangles.specs as fd_triangles
