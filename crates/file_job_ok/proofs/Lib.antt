-- The laws on jobs.
-- JobLaws: good_job        a job within the rules has the bounds of `GoodJob`
pub mod JobLaws
