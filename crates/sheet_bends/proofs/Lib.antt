-- The laws on the bends of a sheet. Other crates cite these:
-- BendLaws
--   bend_faces              the two faces of a bend are rounds of the part
--   no_bend, some_bend      what the outside of a face's bend says; outside_below: it is a face of the part
--   bend_none, bend_some    what the cell of a face says; bend_is: of a number that was read and is not 0
--   order_standing, order_rounds        body and rounds still stand after changes of the order's cells alone
--   sheet_stands            after `put_bends` all stands that the rules on bends and holes ask for
-- RadiusLaws: radius_nonneg, radius_within        the largest inside radius of a checked file: finite, not negative, at most 10,000
-- AroundLaws, KindLaws, StepLaws: the steps of the functions here
pub mod BendLaws
pub mod RadiusLaws
pub mod AroundLaws
pub mod KindLaws
pub mod StepLaws
