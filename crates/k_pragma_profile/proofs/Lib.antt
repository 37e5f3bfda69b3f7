pub mod Annotations
