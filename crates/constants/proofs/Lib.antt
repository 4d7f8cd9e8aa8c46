pub mod Decide
pub mod Primes
pub mod Rule
