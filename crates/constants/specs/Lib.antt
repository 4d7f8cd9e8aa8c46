pub mod Primes
pub mod Constants
