-- The laws on the rules of printing.
-- ClosedLaws: open keys and the fault of them; open_alone, alone_open: with no counting, the side that alone has its key; open_pair: by its pair
-- HoleLaws: small holes, one after the other
-- HollowLaws: hollows, one after the other
-- OverhangLaws: what hangs over, and what it is held against
-- RuleLaws: all rules, one after the other
pub mod ClosedLaws
pub mod HoleLaws
pub mod HollowLaws
pub mod OverhangLaws
pub mod RuleLaws
