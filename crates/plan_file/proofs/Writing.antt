-- Sections written one behind the other: each is put where those before it end, so that what stands in front of the next place is the file so far. Behind the
-- trailer stand zeros.
use mathlib.Core.Path.{◌≡◌, refl, sym, ap, ap₂, ◌∙◌}
use mathlib.Core.List.{List, [], ◌∷◌, ◌++◌, append_assoc, append-nil}
use Prim.Native.Nat.{ℕ, ◌+◌, ◌-◌, ◌*◌, ◌≤◌}
use native.Mathlib.Nat.{zero-add}
use native.Mathlib.Omega.{arith}
use lib.ListN.{length, take, replicate, length-append}
use Rattle.words.specs.Lists.{padded, patch}
use Rattle.words.specs.File.{word_bytes}
use Rattle.words.proofs.Bytes.{length_bytes, bytes_append}
use Rattle.words.proofs.Patches.{length_patch, front_patch}
use Rattle.plan_spec.specs.Lists.{concat}
use Rattle.stored_plan.specs.Stored.{Kept, sections_of, trailer_of, words_of, bytes_of}
use Rattle.stored_plan.specs.Reading.{counts_of}
use Rattle.stored_plan.proofs.Plans.{sections_length}
use Rattle.plan_file.specs.Writing.{words_for, trailer_for}

-- the bytes of these words stand in front of word `at`, in a file of n bytes
pub record Front (done : List ℕ) (at n : ℕ) (file : List ℕ) : Type 0 where
  pub bytes : take (8 * at) file ≡ word_bytes done
  pub count : length done ≡ at
  pub size : length file ≡ n

-- nothing written yet
pub none_written : (file : List ℕ) → Front [] 0 (length file) file
none_written file = record { bytes = refl; count = refl; size = refl }

-- one section more
pub section_written : {done : List ℕ} {at n : ℕ} {file : List ℕ} (ws after : List ℕ) → Front done at n file → 8 * (at + length ws) ≤ n
    → after ≡ patch (8 * at) (word_bytes ws) file → Front (done ++ ws) (at + length ws) n after
section_written {done} {at} {n} {file} ws after f room e =
    let size = f.size in
    let long = length_bytes ws in record {
      bytes =
          ap (take (8 * (at + length ws))) e
          ∙ front_patch (8 * at) (word_bytes ws) file (8 * (at + length ws)) (omega arith) (omega arith)
          ∙ ap (λ (l : List ℕ). l ++ word_bytes ws) f.bytes
          ∙ sym (bytes_append done ws);
      count = length-append done ws ∙ ap (λ (k : ℕ). k + length ws) f.count;
      size = ap length e ∙ length_patch (8 * at) (word_bytes ws) file (omega arith) ∙ size;
    }

-- and zeros behind the last
pub rest_cleared : {done : List ℕ} {at n : ℕ} {file : List ℕ} (after : List ℕ) → Front done at n file
    → after ≡ take (8 * at) file ++ replicate (length file - 8 * at) 0 → after ≡ padded n (word_bytes done)
rest_cleared {done} {at} {n} {file} after f e =
    let count = f.count in
    let size = f.size in
    let long = length_bytes done in
    let zeros : length file - 8 * at ≡ n - length (word_bytes done) = omega arith in
    e ∙ ap₂ (λ (l : List ℕ) (k : ℕ). l ++ replicate k 0) f.bytes zeros

-- ---- the trailer, and the words of a file

-- sections and trailer have 24 words more than the six outputs
sections_count : (k : Kept) → length k.scalars ≡ 8 → length (concat (sections_of k)) + 16 ≡ words_for (counts_of k)
sections_count k e = let s = sections_length k in omega arith

-- so has the file
pub words_count : (k : Kept) → length k.scalars ≡ 8 → length (words_of k) ≡ words_for (counts_of k)
words_count k e = length-append (concat (sections_of k)) (trailer_of (sections_of k)) ∙ sections_count k e

-- and its bytes are eight times as many
pub bytes_count : (k : Kept) → length k.scalars ≡ 8 → length (bytes_of k) ≡ 8 * words_for (counts_of k)
bytes_count k e = length_bytes (words_of k) ∙ ap (λ (n : ℕ). 8 * n) (words_count k e)

-- the trailer by the counts alone
pub trailer_is : (k : Kept) → length k.scalars ≡ 8 → trailer_for (counts_of k) ≡ trailer_of (sections_of k)
trailer_is k e i =
    let c = counts_of k in
    let merges : ℕ = sym (zero-add c.steps) i in
    let sizes = merges + c.merges in
    let rotations = sizes + c.sizes in
    let promotions = rotations + c.rotations in
    let measurements = promotions + c.promotions in
    0 ∷ c.steps ∷ merges ∷ c.merges ∷ sizes ∷ c.sizes ∷ rotations ∷ c.rotations ∷ promotions ∷ c.promotions ∷ measurements ∷ c.measurements
    ∷ (measurements + c.measurements) ∷ sym e i ∷ 8 * sym (sections_count k e) i ∷ 1 ∷ []

-- the sections in the order of writing, with the trailer behind them, are the file's words
pub words_written : (k : Kept)
    → ([] ++ k.steps ++ k.merges ++ k.sizes ++ k.rotations ++ k.promotions ++ k.measurements ++ k.scalars) ++ trailer_of (sections_of k) ≡ words_of k
words_written k =
    let flat : [] ++ k.steps ++ k.merges ++ k.sizes ++ k.rotations ++ k.promotions ++ k.measurements ++ k.scalars ≡ concat (sections_of k) =
    simp (append_assoc, append-nil) in
    ap (λ (l : List ℕ). l ++ trailer_of (sections_of k)) flat
