-- Laws about the whole judgement of a code.
mod Walked
