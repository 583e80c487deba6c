pub mod BadByte
