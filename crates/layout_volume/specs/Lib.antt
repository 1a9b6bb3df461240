-- What the 2,048 bytes of a volume descriptor say.
pub mod Descriptor
