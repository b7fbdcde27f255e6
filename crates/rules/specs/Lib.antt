-- The rules: loxcraft's compiler (src/vm/compiler.rs, chunk.rs, op.rs) and the files around it as definitions that compute, from a tree file's
-- bytes to an image's. Each file says which Rust file it stands beside. Read in this order.
pub mod Base
pub mod Limits
pub mod Answer
pub mod Tree
pub mod Reader
pub mod TreeFile
pub mod Op
pub mod Chunk
pub mod Compiler
pub mod Image
pub mod TreeEncode
pub mod Entry
pub mod Division
pub mod ImageFile
pub mod Checker
pub mod Touch
