-- The law of the merge's answer that lending the result asks for, and those of the verdict's line.
-- Assumes nothing.
mod Fits
mod Lines
