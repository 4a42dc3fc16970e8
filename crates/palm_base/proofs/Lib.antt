pub mod cited
