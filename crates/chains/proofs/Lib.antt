pub mod ChainMeasure
pub mod Relaxing
pub mod Cutting
pub mod Linking
