-- Laws of prices and quotations.
-- the rule of a rank (`rule_at_rank`)
pub mod NameLaws
-- the list has each rule's rate (`table_rate_lem`); what an accepted rate is (`good_fair`, `half_exact`, `unlisted_free`)
pub mod RateLaws
-- any good rates have a file, which is taken and gives them back (`file_accepted`, `file_read`); with item 5's the quotation is item 5's (`old_quotation`)
pub mod FileLaws
-- the nearest cent, halves up (`to_the_cent_lem`, `only_cent`); an Error has no price (`error_unpriced`); a bound (`priced_bound`)
pub mod PriceLaws
-- the total is the sum over the priced lines (`total_priced`), printed as it is (`printed_cents`, `printed_dash`, `no_lines`), and fits (`total_fits`); one
-- line more, for a loop that prints them
pub mod TotalLaws
-- small quotations, computed
pub mod Readings
