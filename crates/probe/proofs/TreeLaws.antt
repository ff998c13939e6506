-- The tree of boxes alone, return by return.
use mathlib.Core.Path.{◌≡◌, refl, sym, subst, ◌∙◌}
use mathlib.Core.List.{List}
use Prim.Native.Nat.{ℕ, ◌-◌, ◌*◌, ◌≤◌}
use native.Mathlib.Omega.{arith}
use lib.Dec.{ltb}
use lib.ListN.{length}
use lib.Ieee.{Float, nan}
use borrow.Rule.Slice.PartMut.{put_mid}
use borrow.Author.Tests.{ltb-false}
use Rattle.num_float.proofs.Tests.{or_false_left, or_false_right}
use Rattle.list_laws.specs.Region.{part}
use Rattle.list_laws.proofs.Regions.{part_put}
use Rattle.list_laws.proofs.Outside.{outside_put}
use Rattle.file_part.specs.Layout.{vertex_count_of, polygon_count_of}
use Rattle.file_part.specs.Part.{part_of}
use Rattle.file_ok.specs.Verdict.{number}
use Rattle.file_ok.proofs.RefusalLaws.{passed}
use Rattle.file_ok.proofs.ReadableLaws.{readable_counts}
use Rattle.solid_faces.specs.Faces.{body_verdict}
use Rattle.solid_faces.proofs.BodyLaws.{checked_readable}
use Rattle.solid_boxes.specs.Tree.{tree_reals, tree_words, PartTree}
use Rattle.scratch.specs.Regions.{words_needed, reals_needed}
use Rattle.scratch.specs.Refusal.{too_little, body_refusal_of}
use Rattle.scratch.proofs.RefusalLaws.{refusal_numbers, put_checked}
use Rattle.probe.specs.Tree.{TreePut}

module _ (s words : List ℕ) (reals : List Float) (r : ℕ) (e : r ≡ body_refusal_of s (length words) (length reals)) where
  pub tree_refused : (r ≡ 0 → ⊥) → TreePut s words words reals reals r
  tree_refused other =
      record {
        answer = e;
        refused = λ _. (refl, refl);
        tree = λ z. absurd (other z);
        words_kept = λ z. absurd (other z);
        reals_kept = λ z. absurd (other z);
      }

  module _ (z : r ≡ 0) where
    -- the cells that a tree needs are a part of those that the body needs
    pub tree_room : (tree_words (polygon_count_of s) ≤ length words) × (tree_reals (polygon_count_of s) ≤ length reals)
    unfolding too_little
    tree_room =
        let few_words = ltb (length words) (words_needed (polygon_count_of s) (vertex_count_of s)) in
        let few-reals = ltb (length reals) (reals_needed (polygon_count_of s) (vertex_count_of s)) in
        let t = (passed (number (body_verdict s)) (too_little s (length words) (length reals)) (sym (refusal_numbers s (length words) (length reals)) ∙ sym e ∙ z)).1 in
        let w : words_needed (polygon_count_of s) (vertex_count_of s) ≤ length words = ltb-false _ _ (or_false_left few_words few-reals t) in
        let f : reals_needed (polygon_count_of s) (vertex_count_of s) ≤ length reals = ltb-false _ _ (or_false_right few_words few-reals t) in
        (omega (arith, w), omega (arith, f))

    pub tree_few : polygon_count_of s ≤ 4096
    tree_few = (readable_counts s (checked_readable s (put_checked s (length words) (length reals) (sym e ∙ z)))).1

    -- x and y: what the tree's two parts hold at the end
    at_count : (x : List Float) (y : List ℕ) → length x ≡ tree_reals (polygon_count_of s) - 0 → length y ≡ tree_words (polygon_count_of s) - 0 → PartTree (part_of s) x y →
        TreePut s words (put_mid 0 (tree_words (polygon_count_of s) - 0) words y) reals (put_mid 0 (tree_reals (polygon_count_of s) - 0) reals x) 0
    at_count x y lx ly h =
        record {
          answer = sym z ∙ e;
          refused = λ other. absurd (other refl);
          tree = λ _.
              subst (λ (b : List Float). PartTree (part_of s) b (part 0 (tree_words (polygon_count_of s)) (put_mid 0 (tree_words (polygon_count_of s) - 0) words y)))
              (sym (part_put 0 (tree_reals (polygon_count_of s)) reals x (omega arith) lx))
              (subst (PartTree (part_of s) x) (sym (part_put 0 (tree_words (polygon_count_of s)) words y (omega arith) ly)) h);
          words_kept = λ _. outside_put 0 0 (tree_words (polygon_count_of s)) words y (omega arith) tree_room.0 ly;
          reals_kept = λ _. outside_put nan 0 (tree_reals (polygon_count_of s)) reals x (omega arith) tree_room.1 lx;
        }

    pub tree_answered : (n : ℕ) → n ≡ polygon_count_of s → (x : List Float) (y : List ℕ) → length x ≡ 8 * n - 0 → length y ≡ 4 * n - 0 → PartTree (part_of s) x y →
        TreePut s words (put_mid 0 (4 * n - 0) words y) reals (put_mid 0 (8 * n - 0) reals x) 0
    tree_answered n en x y lx ly h =
        subst (λ (q : ℕ). TreePut s words (put_mid 0 (4 * q - 0) words y) reals (put_mid 0 (8 * q - 0) reals x) 0) (sym en)
        (at_count x y (omega (arith, lx, en)) (omega (arith, ly, en)) h)
