pub mod Order
pub mod TextTests
pub mod Views
