-- The laws on the faces of a line:
-- TextLaws     ids as text, one after another
-- SomeLaws     whether some number below n passes a test
-- SearchLaws   the next wanted place of a row of cells
-- LinkLaws     the polygons of each body as a chain
-- MarkLaws     marks, one face after another
-- CellLaws     the marks of what a flaw names and of a line, by the cells of the scratch
-- IdsLaws      the ids of the faces that pass a test, by rank
-- NameLaws     the faces that a flaw names, by the cells and by the part
-- LineLaws     the faces of a line
pub mod TextLaws
pub mod SomeLaws
pub mod SearchLaws
pub mod LinkLaws
pub mod MarkLaws
pub mod CellLaws
pub mod IdsLaws
pub mod NameLaws
pub mod LineLaws
