-- What the contracts of `keystream` cite: the ChaCha20 block of RFC 8439, and the mask.
pub mod Chacha
pub mod Mask
