-- Small texts, computed.
use Rattle.std.proofs.Common.{Ok, Err}
use mathlib.Core.Path.{◌≡◌, refl}
use mathlib.Core.List.{List, [], ◌∷◌}
use Prim.Native.Nat.{ℕ}
use lib.Ieee.{binary64, round, to_bits}
use Rattle.num_text.specs.Put.{bytes}
use Rattle.file_ok.specs.Verdict.{too_large}
use Rattle.obj_number.specs.Cut.{before, after}
use Rattle.obj_number.specs.Whole.{is_digit, all_digits, value_from, value_of, is_whole}
use Rattle.obj_number.specs.Decimal.{is_sign, is_minus, unsigned, digits_of, is_unsigned, is_decimal, nearest_of, decimal_of}
use Rattle.obj_line.specs.Split.{piece, split, lines_of, squeeze, separate, fields_of}
use Rattle.obj_line.specs.Form.{vertex_form, is_positive, all_positive, face_form, group_form, fields_form, form_of, largest}
use Rattle.refusal.specs.declared.Refusal.TheVariants.{BadJob, BadLine, UndefinedVertex, OutputTooShort}
use Rattle.obj_text.specs.Text.{forms_of, refusal_from, line_refusal, vertices_from, vertices_of, faces_from, faces_of, corners_from, corners_of, vertex_of}
use Rattle.obj_part.specs.File.{obj_refusal}
use Rattle.obj_laws.specs.Found.{face_of}

-- a triangle of face index 7, in a file of 296 bytes
triangle : List ℕ
triangle = bytes "# a triangle\nv 0 0 -0\nv 1 0 0\nv 0 +.5 0\n\ng 7\nf 1 02  3"

-- none; one byte of room too few; a job of 127 bytes; a number not yet defined, before a line of no form; a line of no form, before such a number
refusals :
    (obj_refusal triangle 128 296 ≡ Ok tt)
    × (obj_refusal triangle 128 295 ≡ Err OutputTooShort)
    × (obj_refusal triangle 127 295 ≡ Err BadJob)
    × (obj_refusal (bytes "v 0 0 0\nf 1 1 2\nv 0 0") 128 296 ≡ Err UndefinedVertex)
    × (obj_refusal (bytes "v 0 0 0 \nf 1 1 2") 128 296 ≡ Err BadLine)
unfolding triangle obj_refusal too_large line_refusal forms_of refusal_from faces_of faces_from corners_of corners_from lines_of split piece squeeze separate fields_of form_of fields_form vertex_form face_form group_form all_positive is_positive largest is_decimal is_unsigned unsigned is_sign digits_of before after all_digits is_digit is_whole value_of value_from
refusals = (refl, refl, refl, refl, refl)

-- its one face; 0.5; a zero with its sign
content :
    (face_of triangle 0 ≡ record { index = 7; numbers = 1 ∷ 2 ∷ 3 ∷ [] })
    × (to_bits binary64 (vertex_of triangle 3).y ≡ 0x3fe0_0000_0000_0000)
    × (to_bits binary64 (vertex_of triangle 1).z ≡ 0x8000_0000_0000_0000)
unfolding triangle face_of vertex_of vertices_of vertices_from decimal_of nearest_of is_minus round to_bits forms_of faces_of faces_from lines_of split piece squeeze separate fields_of form_of fields_form vertex_form face_form group_form all_positive is_positive is_decimal is_unsigned unsigned is_sign digits_of before after all_digits is_digit is_whole value_of value_from
content = (refl, refl, refl)
