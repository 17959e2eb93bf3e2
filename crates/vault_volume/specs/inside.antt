pub mod MemVolume
