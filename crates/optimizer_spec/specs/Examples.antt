-- Calls with the whole answer beside each: list, map and counts as the Rust gives them, and refusals as 02, CR 6, has them.
use Rattle.std.specs.Prelude.{ℕ, suc, ◌-◌, ◌*◌, ◌^◌, List, [], ◌∷◌, length, set}
use Rattle.refusals.specs.Answer.{Outcome, completed, refused_at}
use Rattle.pending.specs.Operation.{Operation}
use Rattle.pending.specs.Examples.{sign, plain, opposite, none, some, rotation, measurement, classical, words_of, half, quarter, eighth, most, minus}
use Rattle.optimizer_spec.specs.Optimizing.{Optimized, outcome_of}

pub record Call : Type 0 where
  pub width : ℕ
  pub operations : List Operation
  pub prefixes : List ℕ
  pub optimized_len : ℕ
  pub map_len : ℕ
  pub answer : (Outcome Optimized)

-- the Rust's -1 in a map
abbrev unset : ℕ
unset = 2 ^ 64 - 1

abbrev call_with : (optimized_len map_len width : ℕ) → (prefixes : List ℕ) → List Operation → (Outcome Optimized) → Call
call_with optimized_len map_len width prefixes os answer =
    record { width = width; operations = os; prefixes = prefixes; optimized_len = optimized_len; map_len = map_len; answer = answer }

-- with outputs that are just long enough
abbrev call : (width : ℕ) → (prefixes : List ℕ) → List Operation → (Outcome Optimized) → Call
call width prefixes os answer = call_with (32 * length os) (suc (length os)) width prefixes os answer

abbrev gives : (map counts : List ℕ) → List Operation → (Outcome Optimized)
gives map counts os = completed (record { operations = os; map = map; counts = counts })

unfoldable pub answer_of : Call → (Outcome Optimized)
unfolding outcome_of
answer_of c = outcome_of c.width (words_of c.operations) c.prefixes c.optimized_len c.map_len

-- pairs and chains
unfoldable pub fusing : List Call
fusing =
    -- X Z Z X: the two Z cancel, and the two X that then meet are both left: one turn, no second
    call 1 []
    (rotation half 1 0 0 plain ∷ rotation quarter 0 1 0 plain ∷ rotation (minus quarter) 0 1 0 plain ∷ rotation half 1 0 0 plain ∷ [])
    (gives (0 ∷ unset ∷ unset ∷ unset ∷ 2 ∷ []) (4 ∷ 2 ∷ 1 ∷ 1 ∷ 0 ∷ [])
    (rotation half 1 0 0 plain ∷ rotation half 1 0 0 plain ∷ []))
    -- a chain of three, each fused into the next; 0.3 + (0.2 + 0.1) by two roundings
    ∷ call 1 []
    (rotation 0x3FB9_9999_9999_999A 1 0 0 plain ∷ rotation 0x3FC9_9999_9999_999A 1 0 0 plain ∷ rotation 0x3FD3_3333_3333_3333 1 0 0 plain ∷ [])
    (gives (0 ∷ unset ∷ unset ∷ 1 ∷ []) (3 ∷ 1 ∷ 2 ∷ 0 ∷ 0 ∷ [])
    (rotation 0x3FE3_3333_3333_3334 1 0 0 plain ∷ []))
    -- the pair stands where the later one stood
    ∷ call 2 []
    (rotation half 1 0 0 plain ∷ rotation eighth 0 2 0 plain ∷ rotation quarter 1 0 0 plain ∷ rotation quarter 0 2 0 plain
    ∷ rotation eighth 3 0 0 plain ∷ [])
    (gives (0 ∷ unset ∷ unset ∷ unset ∷ unset ∷ 3 ∷ []) (5 ∷ 3 ∷ 2 ∷ 0 ∷ 0 ∷ [])
    (rotation 0x3FE8_0000_0000_0000 1 0 0 plain ∷ rotation 0x3FD8_0000_0000_0000 0 2 0 plain ∷ rotation eighth 3 0 0 plain ∷ []))
    -- a cancelled pair is gone for the third
    ∷ call 1 []
    (rotation half 1 0 0 plain ∷ rotation (minus half) 1 0 0 plain ∷ rotation quarter 1 0 0 plain ∷ [])
    (gives (0 ∷ unset ∷ unset ∷ 1 ∷ []) (3 ∷ 1 ∷ 1 ∷ 1 ∷ 0 ∷ [])
    (rotation quarter 1 0 0 plain ∷ []))
    -- a sum above 2^20
    ∷ call 1 []
    (rotation most 1 0 0 plain ∷ rotation most 1 0 0 plain ∷ [])
    (gives (0 ∷ unset ∷ 1 ∷ []) (2 ∷ 1 ∷ 1 ∷ 0 ∷ 0 ∷ [])
    (rotation 0x4140_0000_0000_0000 1 0 0 plain ∷ []))
    -- other conditions do not fuse: the first with the third, across the second
    ∷ call 1 []
    (rotation half 1 0 0 (sign 0 (1 ∷ 2 ∷ [])) ∷ rotation quarter 1 0 0 (sign 0 (1 ∷ 3 ∷ [])) ∷ rotation eighth 1 0 0 (sign 0 (1 ∷ 2 ∷ []))
    ∷ rotation eighth 1 0 0 (sign 0 (1 ∷ [])) ∷ rotation half 1 0 0 plain ∷ [])
    (gives (0 ∷ unset ∷ unset ∷ unset ∷ unset ∷ 4 ∷ []) (5 ∷ 4 ∷ 1 ∷ 0 ∷ 0 ∷ [])
    (rotation quarter 1 0 0 (sign 0 (1 ∷ 3 ∷ [])) ∷ rotation 0x3FE4_0000_0000_0000 1 0 0 (sign 0 (1 ∷ 2 ∷ []))
    ∷ rotation eighth 1 0 0 (sign 0 (1 ∷ [])) ∷ rotation half 1 0 0 plain ∷ []))
    ∷ []

-- directions, and what becomes of signs
unfoldable pub signs : List Call
signs =
    -- opposite signs by the constant: the later angle less the earlier
    call 1 []
    (rotation half 1 0 0 plain ∷ rotation eighth 1 0 0 opposite ∷ [])
    (gives (0 ∷ unset ∷ 1 ∷ []) (2 ∷ 1 ∷ 1 ∷ 0 ∷ 0 ∷ [])
    (rotation (minus 0x3FD8_0000_0000_0000) 1 0 0 opposite ∷ []))
    -- and by the phase, which goes into the constant: Xs, and Ys
    ∷ call 2 []
    (rotation half 1 0 0 (sign 0 (3 ∷ [])) ∷ rotation eighth 1 0 2 (sign 0 (3 ∷ [])) ∷ rotation half 2 2 3 plain ∷ rotation eighth 2 2 1 plain
    ∷ rotation half 3 3 0 (sign 1 (4 ∷ 7 ∷ [])) ∷ rotation eighth 3 3 2 (sign 0 (4 ∷ 7 ∷ [])) ∷ [])
    (gives (0 ∷ unset ∷ unset ∷ unset ∷ unset ∷ unset ∷ 3 ∷ []) (6 ∷ 3 ∷ 3 ∷ 0 ∷ 0 ∷ [])
    (rotation (minus 0x3FD8_0000_0000_0000) 1 0 0 (sign 1 (3 ∷ [])) ∷ rotation (minus 0x3FD8_0000_0000_0000) 2 2 1 plain
    ∷ rotation 0x3FE4_0000_0000_0000 3 3 2 (sign 0 (4 ∷ 7 ∷ [])) ∷ []))
    -- signs along a chain: each is met by what the earlier two became
    ∷ call 1 []
    (rotation half 1 0 2 plain ∷ rotation eighth 1 0 0 plain ∷ rotation quarter 1 0 2 plain ∷ rotation quarter 1 0 2 opposite ∷ [])
    (gives (0 ∷ unset ∷ unset ∷ unset ∷ 1 ∷ []) (4 ∷ 1 ∷ 3 ∷ 0 ∷ 0 ∷ [])
    (rotation (minus 0x3FD8_0000_0000_0000) 1 0 0 plain ∷ []))
    -- both opposite is the same; two Ys have phase 2, three 3
    ∷ call 3 []
    (rotation half 3 3 2 opposite ∷ rotation eighth 3 3 0 plain ∷ rotation half 7 7 3 plain ∷ rotation eighth 7 7 1 opposite ∷ [])
    (gives (0 ∷ unset ∷ unset ∷ unset ∷ 2 ∷ []) (4 ∷ 2 ∷ 2 ∷ 0 ∷ 0 ∷ [])
    (rotation 0x3FE4_0000_0000_0000 3 3 2 opposite ∷ rotation 0x3FE4_0000_0000_0000 7 7 3 plain ∷ []))
    ∷ []

-- cancelling exactly
unfoldable pub zeros : List Call
zeros =
    -- sums 0 and -0 cancel, and angles 0 and -0 alone stay
    call 2 []
    (rotation (minus 0) 1 0 0 plain ∷ rotation (minus 0) 1 0 0 plain ∷ rotation 0 0 2 0 plain ∷ rotation 0 0 2 0 opposite ∷ rotation 0 2 0 0 plain
    ∷ rotation (minus 0) 1 0 2 (sign 1 (5 ∷ [])) ∷ [])
    (gives (0 ∷ unset ∷ unset ∷ unset ∷ unset ∷ unset ∷ 2 ∷ []) (6 ∷ 2 ∷ 2 ∷ 2 ∷ 0 ∷ [])
    (rotation 0 2 0 0 plain ∷ rotation (minus 0) 1 0 2 (sign 1 (5 ∷ [])) ∷ []))
    -- what is almost 0 is left
    ∷ call 1 []
    (rotation half 1 0 0 plain ∷ rotation (minus 0x3FDF_FFFF_FFFF_FFFF) 1 0 0 plain ∷ rotation 0x0000_0000_0000_0002 0 1 0 plain
    ∷ rotation 0x0000_0000_0000_0003 0 1 0 opposite ∷ [])
    (gives (0 ∷ unset ∷ unset ∷ unset ∷ 2 ∷ []) (4 ∷ 2 ∷ 2 ∷ 0 ∷ 0 ∷ [])
    (rotation 0x3C90_0000_0000_0000 1 0 0 plain ∷ rotation 0x0000_0000_0000_0001 0 1 0 opposite ∷ []))
    ∷ []

-- what is crossed
unfoldable pub crossing : List Call
crossing =
    -- a rotation that does not commute stops
    call 1 []
    (rotation half 1 0 0 plain ∷ rotation quarter 0 1 0 plain ∷ rotation half 1 0 0 plain ∷ [])
    (gives (0 ∷ unset ∷ unset ∷ 3 ∷ []) (3 ∷ 3 ∷ 0 ∷ 0 ∷ 0 ∷ [])
    (rotation half 1 0 0 plain ∷ rotation quarter 0 1 0 plain ∷ rotation half 1 0 0 plain ∷ []))
    -- and a measurement that does not; one that commutes is crossed, and so is a classical record
    ∷ call 2 []
    (rotation half 1 0 0 plain ∷ measurement 0 1 0 plain (some 1) none none ∷ rotation quarter 1 0 0 plain
    ∷ measurement 3 2 1 plain (some 2) none none ∷ classical (sign 0 (3 ∷ [])) (some 3) none ∷ measurement 0 2 0 plain (some 4) none none
    ∷ rotation quarter 1 0 0 plain ∷ [])
    (gives (0 ∷ unset ∷ unset ∷ unset ∷ unset ∷ unset ∷ unset ∷ 6 ∷ []) (7 ∷ 6 ∷ 1 ∷ 0 ∷ 0 ∷ [])
    (rotation half 1 0 0 plain ∷ measurement 0 1 0 plain (some 1) none none ∷ measurement 3 2 1 plain (some 2) none none
    ∷ classical (sign 0 (3 ∷ [])) (some 3) none ∷ measurement 0 2 0 plain (some 4) none none ∷ rotation half 1 0 0 plain ∷ []))
    -- what has another string is crossed, XX across ZZ and YY
    ∷ call 2 []
    (rotation half 3 0 0 plain ∷ rotation quarter 0 3 0 plain ∷ rotation eighth 3 3 2 plain ∷ rotation quarter 3 0 0 plain ∷ [])
    (gives (0 ∷ unset ∷ unset ∷ unset ∷ 3 ∷ []) (4 ∷ 3 ∷ 1 ∷ 0 ∷ 0 ∷ [])
    (rotation quarter 0 3 0 plain ∷ rotation eighth 3 3 2 plain ∷ rotation 0x3FE8_0000_0000_0000 3 0 0 plain ∷ []))
    ∷ []

-- measurements
unfoldable pub moving : List Call
moving =
    -- with slack a measurement moves to the farthest of the rotations in front of it that commute with it
    call 3 []
    (rotation half 4 0 0 plain ∷ rotation quarter 1 0 0 plain ∷ rotation half 0 1 0 plain ∷ rotation half 0 2 0 plain ∷ rotation quarter 4 0 0 plain
    ∷ rotation half 0 4 0 plain ∷ measurement 0 3 0 plain (some 1) none none ∷ [])
    (gives (0 ∷ unset ∷ unset ∷ unset ∷ unset ∷ unset ∷ unset ∷ 6 ∷ []) (7 ∷ 6 ∷ 1 ∷ 0 ∷ 4 ∷ [])
    (rotation quarter 1 0 0 plain ∷ measurement 0 3 0 plain (some 1) none none ∷ rotation half 0 1 0 plain ∷ rotation half 0 2 0 plain
    ∷ rotation 0x3FE8_0000_0000_0000 4 0 0 plain ∷ rotation half 0 4 0 plain ∷ []))
    -- without, to the nearest about its own string
    ∷ call 2 []
    (rotation quarter 0 2 0 (sign 0 (1 ∷ [])) ∷ rotation quarter 0 1 0 plain ∷ rotation half 0 2 0 plain ∷ rotation half 0 3 0 plain
    ∷ measurement 0 2 2 (sign 1 (6 ∷ [])) (some 8) (some 9) none ∷ [])
    (gives (0 ∷ unset ∷ unset ∷ unset ∷ unset ∷ 5 ∷ []) (5 ∷ 5 ∷ 0 ∷ 0 ∷ 2 ∷ [])
    (rotation quarter 0 2 0 (sign 0 (1 ∷ [])) ∷ rotation quarter 0 1 0 plain ∷ measurement 0 2 2 (sign 1 (6 ∷ [])) (some 8) (some 9) none
    ∷ rotation half 0 2 0 plain ∷ rotation half 0 3 0 plain ∷ []))
    -- or not at all: none about its string, or none behind one that does not commute
    ∷ call 2 []
    (rotation half 0 1 0 plain ∷ rotation half 0 2 0 plain ∷ measurement 0 3 0 plain (some 1) none none ∷ rotation quarter 0 2 0 (sign 0 (1 ∷ []))
    ∷ rotation quarter 2 0 0 plain ∷ measurement 0 2 0 plain (some 2) none none ∷ [])
    (gives (0 ∷ unset ∷ unset ∷ unset ∷ unset ∷ unset ∷ 6 ∷ []) (6 ∷ 6 ∷ 0 ∷ 0 ∷ 0 ∷ [])
    (rotation half 0 1 0 plain ∷ rotation half 0 2 0 plain ∷ measurement 0 3 0 plain (some 1) none none ∷ rotation quarter 0 2 0 (sign 0 (1 ∷ []))
    ∷ rotation quarter 2 0 0 plain ∷ measurement 0 2 0 plain (some 2) none none ∷ []))
    -- measurements pass neither measurements nor classical records
    ∷ call 2 []
    (rotation half 1 0 0 plain ∷ rotation half 1 0 0 plain ∷ rotation quarter 0 2 0 plain ∷ measurement 0 2 0 plain (some 1) none none
    ∷ measurement 0 2 0 plain (some 2) none none ∷ rotation quarter 0 2 0 plain ∷ classical (sign 0 (3 ∷ [])) (some 3) none
    ∷ measurement 0 2 0 plain (some 4) none none ∷ [])
    (gives (0 ∷ unset ∷ unset ∷ unset ∷ unset ∷ unset ∷ unset ∷ unset ∷ 6 ∷ []) (8 ∷ 6 ∷ 2 ∷ 0 ∷ 2 ∷ [])
    (measurement 0 2 0 plain (some 1) none none ∷ measurement 0 2 0 plain (some 2) none none ∷ rotation 0x3FF0_0000_0000_0000 1 0 0 plain
    ∷ rotation half 0 2 0 plain ∷ classical (sign 0 (3 ∷ [])) (some 3) none ∷ measurement 0 2 0 plain (some 4) none none ∷ []))
    -- the first measurement moves, and then the second, up to it
    ∷ call 2 []
    (rotation half 0 1 0 plain ∷ rotation half 0 2 0 plain ∷ measurement 0 1 0 plain (some 1) none none
    ∷ measurement 0 2 0 plain (some 2) none none ∷ [])
    (gives (0 ∷ unset ∷ unset ∷ unset ∷ 4 ∷ []) (4 ∷ 4 ∷ 0 ∷ 0 ∷ 3 ∷ [])
    (measurement 0 1 0 plain (some 1) none none ∷ rotation half 0 1 0 plain ∷ measurement 0 2 0 plain (some 2) none none
    ∷ rotation half 0 2 0 plain ∷ []))
    ∷ []

-- segments and the map
unfoldable pub prefixes : List Call
prefixes =
    -- slack is only that of the own segment: the first has none, the second has some, and the third none again
    call 2 (2 ∷ 6 ∷ [])
    (rotation quarter 0 1 0 plain ∷ measurement 0 2 0 plain (some 1) none none ∷ rotation half 2 0 0 plain ∷ rotation (minus half) 2 0 0 plain
    ∷ rotation quarter 0 1 0 plain ∷ measurement 0 2 0 plain (some 2) none none ∷ rotation half 0 1 0 plain
    ∷ measurement 0 2 0 plain (some 3) none none ∷ [])
    (gives (0 ∷ unset ∷ 2 ∷ unset ∷ unset ∷ unset ∷ 4 ∷ unset ∷ 6 ∷ []) (8 ∷ 6 ∷ 1 ∷ 1 ∷ 1 ∷ [])
    (rotation quarter 0 1 0 plain ∷ measurement 0 2 0 plain (some 1) none none ∷ measurement 0 2 0 plain (some 2) none none
    ∷ rotation quarter 0 1 0 plain ∷ rotation half 0 1 0 plain ∷ measurement 0 2 0 plain (some 3) none none ∷ []))
    -- nothing is fused across a preserved prefix, and nothing moves
    ∷ call 2 (1 ∷ 3 ∷ [])
    (rotation half 1 0 0 plain ∷ rotation half 1 0 0 plain ∷ rotation quarter 0 2 0 plain ∷ measurement 0 2 0 plain (some 1) none none ∷ [])
    (gives (0 ∷ 1 ∷ unset ∷ 3 ∷ 4 ∷ []) (4 ∷ 4 ∷ 0 ∷ 0 ∷ 0 ∷ [])
    (rotation half 1 0 0 plain ∷ rotation half 1 0 0 plain ∷ rotation quarter 0 2 0 plain ∷ measurement 0 2 0 plain (some 1) none none ∷ []))
    -- the map: prefixes in any order, repeated, 0 and all
    ∷ call 1 (5 ∷ 2 ∷ 4 ∷ 0 ∷ 2 ∷ [])
    (rotation half 1 0 0 plain ∷ rotation half 1 0 0 plain ∷ rotation quarter 0 1 0 plain ∷ rotation half 1 0 0 plain
    ∷ rotation (minus half) 1 0 0 plain ∷ [])
    (gives (0 ∷ unset ∷ 1 ∷ unset ∷ 3 ∷ 4 ∷ []) (5 ∷ 4 ∷ 1 ∷ 0 ∷ 0 ∷ [])
    (rotation 0x3FF0_0000_0000_0000 1 0 0 plain ∷ rotation quarter 0 1 0 plain ∷ rotation half 1 0 0 plain ∷ rotation (minus half) 1 0 0 plain ∷ []))
    -- a segment of which nothing is left
    ∷ call 1 (2 ∷ [])
    (rotation half 1 0 0 plain ∷ rotation (minus half) 1 0 0 plain ∷ rotation quarter 0 1 0 plain ∷ [])
    (gives (0 ∷ unset ∷ 0 ∷ 1 ∷ []) (3 ∷ 1 ∷ 1 ∷ 1 ∷ 0 ∷ [])
    (rotation quarter 0 1 0 plain ∷ []))
    -- no operations
    ∷ call 1 (0 ∷ 0 ∷ [])
    []
    (gives (0 ∷ []) (0 ∷ 0 ∷ 0 ∷ 0 ∷ 0 ∷ [])
    [])
    -- no prefixes
    ∷ call 64 []
    (rotation half (2 ^ 63) 0 0 plain ∷ rotation quarter 0 (2 ^ 63) 0 plain ∷ rotation half 0 1 0 plain ∷ [])
    (gives (0 ∷ unset ∷ unset ∷ 3 ∷ []) (3 ∷ 3 ∷ 0 ∷ 0 ∷ 0 ∷ [])
    (rotation half (2 ^ 63) 0 0 plain ∷ rotation quarter 0 (2 ^ 63) 0 plain ∷ rotation half 0 1 0 plain ∷ []))
    ∷ []

-- the shortcut, and refusals in order
unfoldable pub judging : List Call
judging =
    -- an expectation value, 0 too, leaves the list as it is, with any prefixes and rotations
    call 1 (9 ∷ 2 ∷ [])
    (rotation half 1 0 0 plain ∷ rotation half 1 0 0 plain ∷ rotation half 1 0 1 plain ∷ measurement 0 1 0 plain none none (some 0) ∷ [])
    (gives (0 ∷ 1 ∷ 2 ∷ 3 ∷ 4 ∷ []) (4 ∷ 4 ∷ 0 ∷ 0 ∷ 0 ∷ [])
    (rotation half 1 0 0 plain ∷ rotation half 1 0 0 plain ∷ rotation half 1 0 1 plain ∷ measurement 0 1 0 plain none none (some 0) ∷ []))
    -- 27: a prefix beyond the list
    ∷ call 1 (1 ∷ 2 ∷ [])
    (rotation half 1 0 0 plain ∷ [])
    (refused_at 27 0)
    -- before 28
    ∷ call 1 (2 ∷ [])
    (rotation half 1 0 1 plain ∷ [])
    (refused_at 27 0)
    -- 28: the first rotation that is not Hermitian, by its place in the whole list
    ∷ call 1 (2 ∷ [])
    (rotation half 1 0 0 plain ∷ measurement 1 1 1 plain (some 1) none none ∷ rotation half 0 1 0 plain ∷ rotation half 1 1 0 plain
    ∷ rotation half 1 0 3 plain ∷ [])
    (refused_at 28 3)
    -- 26, before the shortcut
    ∷ call 1 []
    (set (measurement 0 1 0 plain none none (some 0)) 3 4 ∷ [])
    (refused_at 26 0)
    -- and before 27 and 28
    ∷ call 1 (9 ∷ [])
    (set (rotation half 1 0 1 (sign 0 (2 ∷ []))) 14 1 ∷ [])
    (refused_at 26 0)
    -- a width of 0, and of 65
    ∷ call 0 []
    []
    (refused_at 26 0)
    ∷ call 65 []
    []
    (refused_at 26 0)
    -- outputs that are just long enough, longer, and too short for the list and for the map
    ∷ call_with 32 2 1 []
    (rotation half 1 0 0 plain ∷ [])
    (gives (0 ∷ 1 ∷ []) (1 ∷ 1 ∷ 0 ∷ 0 ∷ 0 ∷ [])
    (rotation half 1 0 0 plain ∷ []))
    ∷ call_with 40 9 1 []
    (rotation half 1 0 0 plain ∷ [])
    (gives (0 ∷ 1 ∷ []) (1 ∷ 1 ∷ 0 ∷ 0 ∷ 0 ∷ [])
    (rotation half 1 0 0 plain ∷ []))
    ∷ call_with 31 2 1 []
    (rotation half 1 0 0 plain ∷ [])
    (refused_at 26 0)
    ∷ call_with 32 1 1 []
    (rotation half 1 0 0 plain ∷ [])
    (refused_at 26 0)
    ∷ []
