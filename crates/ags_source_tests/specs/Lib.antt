pub mod Tiny
