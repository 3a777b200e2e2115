-- The laws of bytes put into the buffer, and of a chunk of lines.
mod Filling
mod Chunk
