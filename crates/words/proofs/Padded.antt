-- Words with zeros behind them: every entry and every part among the words is the words' own, and past them each entry is 0.
use mathlib.Core.Path.{◌≡◌, refl, ap, ◌∙◌}
use mathlib.Core.List.{List, [], ◌∷◌, ◌++◌}
use Prim.Native.Nat.{ℕ, zero, suc, ◌+◌, ◌-◌, ◌≤◌}
use native.Mathlib.Omega.{arith}
use lib.ListN.{length, get_or, take, drop, replicate, length-append, length-drop, length-replicate}
use lib.Seq.{take-append-le, take-length, drop-append-le}
use Rattle.words.specs.Lists.{padded}

-- the words and zeros are as many as they should be, or as the words where these are more
pub padded_length : (n : ℕ) (ws : List ℕ) → length (padded n ws) ≡ length ws + (n - length ws)
padded_length n ws = length-append ws (replicate (n - length ws) 0) ∙ ap (λ (k : ℕ). length ws + k) (length-replicate (n - length ws) 0)

-- n words of a buffer that holds n and zeros
pub front_of_padded : (m n : ℕ) (ws after : List ℕ) → n ≡ length ws → after ≡ padded m ws → take n after ≡ ws
front_of_padded m n ws after count e =
    ap (λ (k : ℕ). take k after) count
    ∙ ap (λ (l : List ℕ). take (length ws) l) e
    ∙ take-append-le (length ws) ws (replicate (m - length ws) 0) (omega arith)
    ∙ take-length ws

-- the words, followed by zeros
abbrev pub Zeroed : List ℕ → List ℕ → Type 0
Zeroed ws held = (n : ℕ) × (held ≡ padded n ws)

-- an entry of zeros
pub zeros_at : (n i : ℕ) → get_or {A = ℕ} (replicate n 0) i 0 ≡ 0
zeros_at zero i = refl
zeros_at (suc n) zero = refl
zeros_at (suc n) (suc i) = zeros_at n i

-- an entry of words and zeros
pub then_zeros_at : (ws : List ℕ) (n i : ℕ) → get_or (ws ++ replicate n 0) i 0 ≡ get_or ws i 0
then_zeros_at [] n i = zeros_at n i
then_zeros_at (a ∷ ws) n zero = refl
then_zeros_at (a ∷ ws) n (suc i) = then_zeros_at ws n i

-- every entry is the same
pub zeroed_at : (ws held : List ℕ) (i : ℕ) → Zeroed ws held → get_or held i 0 ≡ get_or ws i 0
zeroed_at ws held i z = ap (λ (l : List ℕ). get_or l i 0) z.1 ∙ then_zeros_at ws (z.0 - length ws) i

-- no word is lost
pub zeroed_length : (ws held : List ℕ) → Zeroed ws held → length ws ≤ length held
zeroed_length ws held z = let e = ap length z.1 ∙ length-append ws (replicate (z.0 - length ws) 0) in omega arith

-- and every part that lies among the words
pub zeroed_part : (ws held : List ℕ) (at size : ℕ) → at + size ≤ length ws → Zeroed ws held → take size (drop at held) ≡ take size (drop at ws)
zeroed_part ws held at size h z =
    let zeros : List ℕ = replicate (z.0 - length ws) 0 in
    let l = length-drop at ws in
    ap (λ (xs : List ℕ). take size (drop at xs)) z.1
    ∙ ap (take size) (drop-append-le at ws zeros (omega arith))
    ∙ take-append-le size (drop at ws) zeros (omega arith)
