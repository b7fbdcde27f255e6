-- Laws of the rules' reader. Whole says where it gets to in a file, SoundFile what stands in a file that it read, for a walk over the same
-- bytes.
pub mod Whole
pub mod SoundFile
