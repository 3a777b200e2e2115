-- Laws of the command: an index that is made fits its buffer; what a look-up finds, case by case.
-- Assumes nothing.
mod Fits
mod Looking
