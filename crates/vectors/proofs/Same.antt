-- Whether two lists of words are the same, as a flag.
use Rattle.std.proofs.Common.{◌≡◌, refl, sym, ℕ, List, Bool, true, false}
use Rattle.std.specs.Cmp.Lexicographic.{bytes_decides}
use Rattle.vectors.specs.Reading.{same_words}

-- lists that are equal are the same words
pub same : (xs ys : List ℕ) → xs ≡ ys → true ≡ same_words xs ys
same xs ys e = sym ((bytes_decides xs ys).1 e)

-- and lists that are not are not
pub other : (xs ys : List ℕ) → (xs ≡ ys → ⊥) → false ≡ same_words xs ys
other xs ys n = told (same_words xs ys) (λ e. n ((bytes_decides xs ys).0 e))
  where
    told : (b : Bool) → (b ≡ true → ⊥) → false ≡ b
    told true f = absurd (f refl)
    told false f = refl
