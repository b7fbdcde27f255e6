-- Laws about the jumps of a code.
mod Ring
mod Landing
mod Jumping
