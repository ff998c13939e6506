-- What a finding costs the buyer, document 02's items 5 and 9. Read in this order:
-- the rules by their ranks
pub mod Names
-- the rates of item 5, and what a workshop's own have to be
pub mod Rates
-- the file that brings these
pub mod RateFile
-- the price of a line
pub mod Price
-- the printed quotation and its total
pub mod Quotation
pub mod Work
