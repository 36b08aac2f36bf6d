-- Headers as plain numbers.
pub mod Headers
