-- Laws of the walk.
mod Blocks
mod Fors
mod Functions
mod Ifs
mod Methods
mod Ones
mod Walks
mod Whiles
