-- The laws on the rules of sheet metal.
-- MaterialLaws: the material, and what is said of it; the bend ratio
-- ReadyLaws: readings, rounds and edges, put one after the other
-- TightLaws: tight bends, one after the other
-- SheetLaws: all rules, one after the other
pub mod MaterialLaws
pub mod ReadyLaws
pub mod TightLaws
pub mod SheetLaws
