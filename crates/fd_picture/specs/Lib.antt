pub mod Bases
pub mod Drafts
pub mod Fields
pub mod Laws
pub mod Lines
pub mod Marks
pub mod Numbers
pub mod Pages
pub mod Panels
pub mod Readers
pub mod Reading
pub mod Scales
pub mod Strips
pub mod Texts
pub mod Units
pub use Rattle.fd_outside.specs as fd_outside
