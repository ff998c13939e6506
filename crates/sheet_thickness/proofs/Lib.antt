-- The laws on the thickness of a sheet. Other crates cite these:
-- SizeLaws: thickness_bounds              the thickness, the thinnest and the thickest are of a reading's size, where a reading is kept
-- KeptLaws: still_ordered, still-read, still_stands        what stands after `measure` and `put_off_faces`
-- ReadingLaws: kept_below                 the readings that are kept are readings
-- The others are the steps of the functions here:
-- ListLaws: numbers that pass, put one by one; weights added
-- DistanceLaws: the distances; ReadingLaws: the tests by what stands; MiddleLaws: the median; MeasureLaws: the whole; FaceLaws: the marks
pub mod ListLaws
pub mod KeptLaws
pub mod DistanceLaws
pub mod ReadingLaws
pub mod MiddleLaws
pub mod MeasureLaws
pub mod FaceLaws
pub mod SizeLaws
