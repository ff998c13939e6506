-- VolumeLaws: the sums of the volumes as the code adds them, for the proofs here.
pub mod VolumeLaws
