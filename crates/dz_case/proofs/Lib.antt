pub mod NewValues
