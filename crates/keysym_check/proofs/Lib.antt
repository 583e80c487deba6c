pub mod NoKeysym
