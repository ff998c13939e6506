-- The laws on ranks. Other crates cite these:
-- RankLaws
--   rank-less, rank-below, rank_apart   ranks are ordered as ids, below the number of faces, each one face's only
--   before_rank                         ids are ordered as ranks
--   face_of_rank_lem, rank_of_face          the face of a rank
-- KeptLaws: what sorts leave as it was
--   sorts_only, only-then               a sort that puts no ranks; one sort after another
--   only_standing                       the body still stands
--   ranked_kept                         the ranks, where their cells are as they were
--   kinds-kept, measures_kept             the parts that the rounds stand in
-- StageLaws: faces_known                the faces of a body that stands, as `solid_ids` asks for them
-- KeyLaws, SortLaws, StageLaws: the steps of `put_ranks`
pub mod RankLaws
pub mod KeyLaws
pub mod SortLaws
pub mod KeptLaws
pub mod StageLaws
