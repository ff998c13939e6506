-- The laws behind the probes: the steps of the functions here.
-- Each: the roots of many numbers
-- RaysLaws: the cells of the answers to many rays, one after another; CastLaws, OpenLaws: one ray more, and each return
-- TreeLaws: each return where the tree of boxes alone is put
-- ScratchLaws: what stands in the scratch; RowLaws: rows of cells in a list; SampleLaws: one reading more, and each return
pub mod Each
pub mod RaysLaws
pub mod CastLaws
pub mod OpenLaws
pub mod TreeLaws
pub mod ScratchLaws
pub mod RowLaws
pub mod SampleLaws
