pub mod Tables
pub mod Greatest
pub mod Lengths
pub mod Lambdas
pub mod Qps
pub mod Rates
pub mod Vectors
