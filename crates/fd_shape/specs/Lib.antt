pub mod Column
pub mod Left
pub mod Text
pub mod TextLaws
pub use Rattle.fd_decimal.specs as fd_decimal
