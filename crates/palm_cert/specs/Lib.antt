pub mod Accepted
pub mod Certificate
pub mod Moved
pub mod Needs
pub mod Readable
pub mod SameClaim
