pub mod ThroughC
