mod Found
mod TwoConnected
