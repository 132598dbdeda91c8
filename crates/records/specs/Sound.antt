-- What follows from the record pass's answer: of each record that it lets through (01, "Where planning stops", refusals 5 to 9; 02, CR 5,
-- refusal 25), of the coordinates (refusal 10), and of a refusal.
use Rattle.std.specs.Prelude.{ℕ, ◌≤◌, ◌<◌, ◌≡◌, not, ◌&&◌, ◌⊎◌, List, [], ◌∷◌, Bool, T, pos, Float}
use Rattle.std.specs.Float.{fin}
use Rattle.std.specs.Float.Ieee.{is_nan, le, eq}
use Rattle.std.specs.Float.Ieee.Scale.{finite}
use Rattle.records.specs.Record.{record_count, kind, width, phase, angle, sine, cosine, flag}
use Rattle.records.specs.Pass.{most_width, most_phase, one, minus_one, least_sum, most_sum, square_sum, coordinates_after}

-- a number in -1 to 1 (refusal 8)
pub record IsInUnitRange (x : Float) : Type 0 where
  pub no_nan : T (not (is_nan x))
  pub from : T (le minus_one x)
  pub to : T (le x one)

-- zero of either sign, as `-0 = 0`
abbrev pub is_zero : Float → Bool
is_zero x = eq x (fin Bool.false 0 (pos 0))

-- sine and cosine of one angle, as far as their squares tell (refusal 25)
pub record IsUnitPair (s c : Float) : Type 0 where
  pub from : T (le least_sum (square_sum s c))
  pub to : T (le (square_sum s c) most_sum)
  pub not_both_zero : T (not (is_zero s && is_zero c))

-- refusals 6 and 7
pub record IsSoundAction (r : List ℕ) : Type 0 where
  pub width_small : width r ≤ most_width
  pub phase_small : phase r ≤ most_phase

-- refusals 6 to 8 and 25, of a rotation
pub record IsSoundRotation (r : List ℕ) : Type 0 where
  pub action : IsSoundAction r
  pub angle_finite : T (finite (angle r))
  pub sine_range : IsInUnitRange (sine r)
  pub cosine_range : IsInUnitRange (cosine r)
  pub unit : IsUnitPair (sine r) (cosine r)

-- refusals 9, 6 and 7, of a measurement; flag 1 leaves width and phase unread (01, section 2)
pub record IsSoundMeasurement (r : List ℕ) : Type 0 where
  pub flag_small : flag r ≤ 1
  pub action : flag r ≡ 0 → IsSoundAction r

-- refusal 5, and the others by kind
pub record IsSound (r : List ℕ) : Type 0 where
  pub kind_small : kind r ≤ 5
  pub rotation : kind r ≡ 0 → IsSoundRotation r
  pub measurement : kind r ≡ 4 → IsSoundMeasurement r

-- how many coordinates there are after the records (refusal 10)
abbrev pub coordinates_through : (coordinates : ℕ) → List (List ℕ) → ℕ
coordinates_through coordinates [] = coordinates
coordinates_through coordinates (r ∷ rs) = coordinates_through (coordinates_after coordinates r) rs

-- the pass's numbers: 5 to 10, and 25
abbrev pub IsPassNumber : ℕ → Type 0
IsPassNumber number = ((5 ≤ number) × (number ≤ 10)) ⊎ (number ≡ 25)

-- a refusal of the words, by its number and its record's index
pub record IsPassRefusal (ws : List ℕ) (number index : ℕ) : Type 0 where
  pub number_of_pass : IsPassNumber number
  pub index_below : index < record_count ws
