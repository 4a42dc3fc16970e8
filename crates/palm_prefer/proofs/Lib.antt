pub mod cited
mod Joining
mod Moving
mod Naming
mod Ordering
mod Weighing
