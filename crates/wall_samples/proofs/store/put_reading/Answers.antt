-- `wall_samples::store::put_reading` meets its contract.
use mathlib.Core.Path.{refl}
use lib.ListN.{length-set}
use lib.Seq.{lt-length-set}
use Rattle.wall_samples.specs.Work.{put_polygons, put_measures}
use native.Mathlib.Omega.{arith}
use Rattle.wall_samples.proofs.store.put_reading.Goals as goal

pub overflow_add-area : goal.overflow_add-area
overflow_add-area c = omega (arith, c.requires.laid_1, c.requires.laid_2, c.requires.laid_3, c.requires.k_lt_polygons_1, c.requires.k_lt_polygons_2, c.requires.k_lt_polygons_3)

pub offset_bounds-reals-at : goal.offset_bounds-reals-at
offset_bounds-reals-at c = omega (arith, c.requires.laid_1, c.requires.laid_2, c.requires.laid_3, c.requires.k_lt_polygons_1, c.requires.k_lt_polygons_2, c.requires.k_lt_polygons_3)

pub bounds-reals-at : goal.bounds-reals-at
bounds-reals-at c = omega (arith, c.requires.laid_1, c.requires.laid_2, c.requires.laid_3, c.requires.k_lt_polygons_1, c.requires.k_lt_polygons_2, c.requires.k_lt_polygons_3)

pub overflow_cast-words : goal.overflow_cast-words
overflow_cast-words c = omega (arith, c.requires.laid_1, c.requires.laid_2, c.requires.laid_3, c.requires.k_lt_polygons_1, c.requires.k_lt_polygons_2, c.requires.k_lt_polygons_3)

pub overflow_add-words : goal.overflow_add-words
overflow_add-words c = omega (arith, c.requires.laid_1, c.requires.laid_2, c.requires.laid_3, c.requires.k_lt_polygons_1, c.requires.k_lt_polygons_2, c.requires.k_lt_polygons_3)

pub offset_bounds-words-at : goal.offset_bounds-words-at
offset_bounds-words-at c = omega (arith, c.requires.laid_1, c.requires.laid_2, c.requires.laid_3, c.requires.k_lt_polygons_1, c.requires.k_lt_polygons_2, c.requires.k_lt_polygons_3)

pub bounds-words-at : goal.bounds-words-at
bounds-words-at c = omega (arith, c.requires.laid_1, c.requires.laid_2, c.requires.laid_3, c.requires.k_lt_polygons_1, c.requires.k_lt_polygons_2, c.requires.k_lt_polygons_3)

pub overflow_cast-words-2 : goal.overflow_cast-words-2
overflow_cast-words-2 c = omega (arith, c.requires.laid_1, c.requires.laid_2, c.requires.laid_3, c.requires.k_lt_polygons_1, c.requires.k_lt_polygons_2, c.requires.k_lt_polygons_3)

pub overflow_add-words-2 : goal.overflow_add-words-2
overflow_add-words-2 c = omega (arith, c.requires.laid_1, c.requires.laid_2, c.requires.laid_3, c.requires.k_lt_polygons_1, c.requires.k_lt_polygons_2, c.requires.k_lt_polygons_3)

pub offset_bounds-words-at-2 : goal.offset_bounds-words-at-2
offset_bounds-words-at-2 c = omega (arith, c.requires.laid_1, c.requires.laid_2, c.requires.laid_3, c.requires.k_lt_polygons_1, c.requires.k_lt_polygons_2, c.requires.k_lt_polygons_3)

pub bounds-words-at-2 : goal.bounds-words-at-2
bounds-words-at-2 c =
    lt-length-set c.args.words.now _ _ (omega (arith, c.requires.laid_1, c.requires.laid_2, c.requires.laid_3, c.requires.k_lt_polygons_1, c.requires.k_lt_polygons_2, c.requires.k_lt_polygons_3))

pub overflow_add-reals : goal.overflow_add-reals
overflow_add-reals c = omega (arith, c.requires.laid_1, c.requires.laid_2, c.requires.laid_3, c.requires.k_lt_polygons_1, c.requires.k_lt_polygons_2, c.requires.k_lt_polygons_3)

pub offset_bounds-reals-at-2 : goal.offset_bounds-reals-at-2
offset_bounds-reals-at-2 c = omega (arith, c.requires.laid_1, c.requires.laid_2, c.requires.laid_3, c.requires.k_lt_polygons_1, c.requires.k_lt_polygons_2, c.requires.k_lt_polygons_3)

pub bounds-reals-at-2 : goal.bounds-reals-at-2
bounds-reals-at-2 c = omega (arith, c.requires.laid_1, c.requires.laid_2, c.requires.laid_3, c.requires.k_lt_polygons_1, c.requires.k_lt_polygons_2, c.requires.k_lt_polygons_3)

pub overflow_add-reals-2 : goal.overflow_add-reals-2
overflow_add-reals-2 c = omega (arith, c.requires.laid_1, c.requires.laid_2, c.requires.laid_3, c.requires.k_lt_polygons_1, c.requires.k_lt_polygons_2, c.requires.k_lt_polygons_3)

pub offset_bounds-reals-at-3 : goal.offset_bounds-reals-at-3
offset_bounds-reals-at-3 c = omega (arith, c.requires.laid_1, c.requires.laid_2, c.requires.laid_3, c.requires.k_lt_polygons_1, c.requires.k_lt_polygons_2, c.requires.k_lt_polygons_3)

pub bounds-reals-at-3 : goal.bounds-reals-at-3
bounds-reals-at-3 c =
    lt-length-set c.args.reals.now _ _ (omega (arith, c.requires.laid_1, c.requires.laid_2, c.requires.laid_3, c.requires.k_lt_polygons_1, c.requires.k_lt_polygons_2, c.requires.k_lt_polygons_3))

pub shape_of-words : goal.shape_of-words
shape_of-words c = simp length-set

pub shape_of-reals : goal.shape_of-reals
shape_of-reals c = simp length-set

pub returns : goal.returns
unfolding put_polygons put_measures
returns c =
    record {
      words_after = refl;
      reals_after = refl;
    }
