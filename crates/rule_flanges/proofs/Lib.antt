-- The laws on the flanges of a sheet, by what they are on:
-- ReachLaws: how far a face reaches from a line, one corner and one polygon after the other
-- LegLaws: whether a face runs on, the legs that stand in cells, those that are seen, one leg taken
-- WalkLaws: the legs that a tour of a face's neighbours takes, and those of a bend's two faces
-- SizeLaws: the numbers that a short flange's message prints are accepted
-- FlangeLaws: the faults of a leg, of the legs of a bend, of all bends
pub mod ReachLaws
pub mod LegLaws
pub mod WalkLaws
pub mod SizeLaws
pub mod FlangeLaws
