-- The numbers of the refusals, each below its condition; 0 is none, and stands as 0. Definitions only.
-- They are `abbrev`s: what is proved of an answer compares numbers, and sees them.
use Rattle.std.specs.Prelude.{ℕ}
use Rattle.refusal.specs.declared.Refusal.{Refusal}
use Rattle.refusal.specs.declared.Refusal.TheVariants.{TooShort, WrongEdition, TooLarge, WrongLength, BadJob, BadVertex, BadPolygon, FlatPolygon, TooManyFaces, TooLittleScratch, TooManyFaults, ReportTooLong, NoDecimal, BadLine, UndefinedVertex, OutputTooShort}

-- ---- of a part file, by its bytes
-- shorter than 144 bytes
abbrev pub too_short_of : ℕ
too_short_of = 1

-- edition not 1
abbrev pub wrong_edition : ℕ
wrong_edition = 2

-- over 16,384 vertices or over 4,096 polygons
abbrev pub too_large : ℕ
too_large = 3

-- length not 24V + 80P + 144, or `back` wrong
abbrev pub wrong_length : ℕ
wrong_length = 4

-- job out of the rules
abbrev pub bad_job_of : ℕ
bad_job_of = 5

-- coordinate not finite or out of range
abbrev pub bad_vertex_of : ℕ
bad_vertex_of = 6

-- polygon entry out of the rules, or vertices left after the last run
abbrev pub bad_polygon : ℕ
bad_polygon = 7

-- ---- by its planes and faces
-- a polygon without a plane: its normal sum is shorter than 1e-14
abbrev pub flat_polygon_of : ℕ
flat_polygon_of = 8

-- over 1,024 faces
abbrev pub too_many_faces_of : ℕ
too_many_faces_of = 9

-- ---- by what is lent, and by what is found
-- f64 scratch under 24P + 8V + 2,048 or u32 scratch under 12P + 8V + 1,024
abbrev pub too_little_scratch : ℕ
too_little_scratch = 10

-- more faults than fault rows lent, or over 2,048
abbrev pub too_many_faults : ℕ
too_many_faults = 11

-- report longer than its buffer
abbrev pub report_too_long : ℕ
report_too_long = 12

-- ---- of the decimal writer
-- decimal text: number not finite, below 0, or 2^60 and more; places over 3; buffer under 24 bytes
abbrev pub no_decimal : ℕ
no_decimal = 13

-- ---- of OBJ text, which 3 and 5 turn back too
-- OBJ text: a line of any other form
abbrev pub bad_line : ℕ
bad_line = 14

-- OBJ text: a vertex number not yet defined
abbrev pub undefined_vertex : ℕ
undefined_vertex = 15

-- OBJ text: output buffer shorter than the part file
abbrev pub output_too_short : ℕ
output_too_short = 16

-- ---- the number of a refusal
abbrev pub number : Refusal → ℕ
number TooShort = too_short_of
number WrongEdition = wrong_edition
number TooLarge = too_large
number WrongLength = wrong_length
number BadJob = bad_job_of
number BadVertex = bad_vertex_of
number BadPolygon = bad_polygon
number FlatPolygon = flat_polygon_of
number TooManyFaces = too_many_faces_of
number TooLittleScratch = too_little_scratch
number TooManyFaults = too_many_faults
number ReportTooLong = report_too_long
number NoDecimal = no_decimal
number BadLine = bad_line
number UndefinedVertex = undefined_vertex
number OutputTooShort = output_too_short
