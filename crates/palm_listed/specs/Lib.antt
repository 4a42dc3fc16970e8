pub mod Lists
pub mod Store
