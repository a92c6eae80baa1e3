pub mod Books
pub mod ReadingBooks
pub mod Makings
