-- `solid_edges::edge::edge_at` meets its contract.
use native.Mathlib.Omega.{arith}
use Rattle.solid_edges.proofs.ScanLaws.{few_vertices}
use Rattle.solid_ids.proofs.KnownLaws.{trailer}
use Rattle.solid_edges.proofs.EdgeLaws.{edge_low, edge_many, edge_inside, edge_two}
use Rattle.solid_edges.proofs.edge.edge_at.Goals as goal

pub overflow_add-s : goal.overflow_add-s
overflow_add-s c = omega (arith, few_vertices c.requires.fact_1, c.requires.fact_2)

pub returns-then-pair-s : goal.returns-then-pair-s
returns-then-pair-s c = edge_low _ _ _ c.pair_at-pair.ensures c.if-pair-s.true

pub vertex_count-requires : goal.vertex_count-requires
vertex_count-requires c = trailer c.requires.fact_1.faced

pub returns-then-vertex_count-pair : goal.returns-then-vertex_count-pair
returns-then-vertex_count-pair c = edge_many _ _ _ _ c.vertex_count.ensures c.pair_at-pair.ensures c.if-vertex_count-pair.true

pub returns-then-near-beyond : goal.returns-then-near-beyond
returns-then-near-beyond c =
    edge_inside _ _ _ _ _ _ c.vertex_count.ensures c.pair_at-pair.ensures c.if-pair-s.false c.if-vertex_count-pair.false
    c.face_at-near.ensures c.face_at-beyond.ensures c.if-near-beyond.true

pub returns : goal.returns
returns c =
    edge_two _ _ _ _ _ _ c.vertex_count.ensures c.pair_at-pair.ensures c.if-pair-s.false c.if-vertex_count-pair.false
    c.face_at-near.ensures c.face_at-beyond.ensures c.if-near-beyond.false
