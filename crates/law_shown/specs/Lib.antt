-- What a report shows of the figures of allowed times: all of them, exactly and in whole ticks; and on which side of the mean a record's limits and
-- slots lie.
pub mod Shown
pub mod Sides
pub mod Slots
