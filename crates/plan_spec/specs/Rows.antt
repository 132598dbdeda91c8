-- The layout of a row: how many words it has, and the name of each word by its place.
use Rattle.std.specs.Prelude.{ℕ, List, [], ◌∷◌, get_or}

-- ---- how many words

-- the words of a step, of a rotation's row and of a measurement's row
abbrev pub step_words : ℕ
step_words = 2

abbrev pub rotation_words : ℕ
rotation_words = 21

abbrev pub measurement_words : ℕ
measurement_words = 19

-- the words that a rotation's and a measurement's row begin with: of the join, and up to the action
abbrev pub join_words : ℕ
join_words = 3

abbrev pub action_words : ℕ
action_words = 11

-- ---- the kinds of steps

-- "kind (0 None, 1 IgnoredGlobalPhase, 2 Rotation, 3 Promotion, 4 Measurement)"
abbrev pub no_kind : ℕ
no_kind = 0

abbrev pub ignored_kind : ℕ
ignored_kind = 1

abbrev pub rotation_kind : ℕ
rotation_kind = 2

abbrev pub promotion_kind : ℕ
promotion_kind = 3

abbrev pub measurement_kind : ℕ
measurement_kind = 4

-- ---- a step

-- "Steps: two a record, kind and payload"
abbrev pub step_row : ℕ → ℕ → List ℕ
step_row kind payload = kind ∷ payload ∷ []

abbrev pub step_kind : List ℕ → ℕ
step_kind row = get_or row 0 0

abbrev pub step_payload : List ℕ → ℕ
step_payload row = get_or row 1 0

-- ---- a rotation's and a measurement's row: the same first eleven words

-- the join: its component, and which part of the merge list has its sources
abbrev pub row_component : List ℕ → ℕ
row_component row = get_or row 0 0

abbrev pub row_merge_offset : List ℕ → ℕ
row_merge_offset row = get_or row 1 0

abbrev pub row_merge_count : List ℕ → ℕ
row_merge_count row = get_or row 2 0

-- the action: local width, X and Z, both phases, and whether X and Z overlap oddly
abbrev pub row_width : List ℕ → ℕ
row_width row = get_or row 3 0

abbrev pub row_x : List ℕ → ℕ
row_x row = get_or row 4 0

abbrev pub row_z : List ℕ → ℕ
row_z row = get_or row 5 0

abbrev pub row_even_re : List ℕ → ℕ
row_even_re row = get_or row 6 0

abbrev pub row_even_im : List ℕ → ℕ
row_even_im row = get_or row 7 0

abbrev pub row_odd_re : List ℕ → ℕ
row_odd_re row = get_or row 8 0

abbrev pub row_odd_im : List ℕ → ℕ
row_odd_im row = get_or row 9 0

abbrev pub row_overlap : List ℕ → ℕ
row_overlap row = get_or row 10 0

-- ---- the words of a rotation's row behind them

abbrev pub rotation_diagonal : List ℕ → ℕ
rotation_diagonal row = get_or row 11 0

abbrev pub rotation_uniform : List ℕ → ℕ
rotation_uniform row = get_or row 12 0

abbrev pub rotation_flip : List ℕ → ℕ
rotation_flip row = get_or row 13 0

abbrev pub rotation_pair_bit : List ℕ → ℕ
rotation_pair_bit row = get_or row 14 0

abbrev pub rotation_pair_count : List ℕ → ℕ
rotation_pair_count row = get_or row 15 0

abbrev pub rotation_angle : List ℕ → ℕ
rotation_angle row = get_or row 16 0

abbrev pub rotation_cosine : List ℕ → ℕ
rotation_cosine row = get_or row 17 0

abbrev pub rotation_sine : List ℕ → ℕ
rotation_sine row = get_or row 18 0

abbrev pub rotation_coefficient_re : List ℕ → ℕ
rotation_coefficient_re row = get_or row 19 0

abbrev pub rotation_coefficient_im : List ℕ → ℕ
rotation_coefficient_im row = get_or row 20 0

-- ---- the words of a measurement's row behind them

abbrev pub measurement_pivot : List ℕ → ℕ
measurement_pivot row = get_or row 11 0

abbrev pub measurement_diagonal : List ℕ → ℕ
measurement_diagonal row = get_or row 12 0

abbrev pub measurement_phase_bit : List ℕ → ℕ
measurement_phase_bit row = get_or row 13 0

abbrev pub measurement_without_pivot : List ℕ → ℕ
measurement_without_pivot row = get_or row 14 0

abbrev pub measurement_out_dimension : List ℕ → ℕ
measurement_out_dimension row = get_or row 15 0

abbrev pub measurement_coefficient_re : List ℕ → ℕ
measurement_coefficient_re row = get_or row 16 0

abbrev pub measurement_coefficient_im : List ℕ → ℕ
measurement_coefficient_im row = get_or row 17 0

abbrev pub measurement_deactivated : List ℕ → ℕ
measurement_deactivated row = get_or row 18 0
