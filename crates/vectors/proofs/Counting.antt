-- One more vector is replayed, or none can be read.
use Rattle.std.proofs.Common.{◌≡◌, ℕ, zero, suc, ◌+◌, refl, ap, ◌∙◌, ◌≤◌, arith, List, [], ◌∷◌, Bool, true, false, cond, Ok, Err}
use Rattle.std.specs.Prelude.{not, Option, Some, None, IfSome}
use Rattle.std.specs.List.{count_by}
use Rattle.std.proofs.lemmas.List.Sums.{sum_by-cons}
use Rattle.vectors.specs.Reading.{Read, word_in}
use Rattle.vectors.specs.Replaying.{agreements, agreements_in, counts_of}
use Rattle.vectors.specs.declared.Counts.{Counts}
use Rattle.vectors.specs.declared.Flaw.{Flaw}

-- what is counted so far of all words and what is to come of the rest, with `left` vectors still to
-- come, are what there is to count
pub record Replayed (f : List ℕ → Read Bool) (words rest : List ℕ) (all left : ℕ) (counts : Counts) : Type 0 where
  pub agree : counts.agree + count_by (λ (b : Bool). b) (agreements f left rest) ≡ count_by (λ (b : Bool). b) (agreements f all words)
  pub differ : counts.differ + count_by not (agreements f left rest) ≡ count_by not (agreements f all words)

-- the first of n vectors is the one at the front
pub one_more : (f : List ℕ → Read Bool) (n m : ℕ) (ws behind : List ℕ) (b : Bool)
    → n ≡ suc m → f ws ≡ Ok (b, behind) → agreements f n ws ≡ b ∷ agreements f m behind
one_more f n m ws behind b many e =
    ap (λ k. agreements f k ws) many
    ∙ ap (λ (r : Read Bool). elim r [ Ok x ↦ x.0 ∷ agreements f m x.1 | Err flaw ↦ [] ]) e

-- where none can be read no more are counted
pub no_more : (f : List ℕ → Read Bool) (n : ℕ) (ws : List ℕ) (flaw : Flaw) → f ws ≡ Err flaw → agreements f n ws ≡ []
no_more f zero ws flaw e = refl
no_more f (suc n) ws flaw e = ap (λ (r : Read Bool). elim r [ Ok x ↦ x.0 ∷ agreements f n x.1 | Err flaw ↦ [] ]) e

-- counts of all
pub all_counted : (counts : Counts) (bs : List Bool) → counts.agree ≡ count_by (λ (b : Bool). b) bs → counts.differ ≡ count_by not bs → counts ≡ counts_of bs
all_counted counts bs agree differ i = record { agree = agree i; differ = differ i }

-- one more of those that differ
pub one_differs : (b : Bool) (bs : List Bool) → count_by not (b ∷ bs) ≡ cond b 0 1 + count_by not bs
one_differs b bs = sum_by-cons (λ (x : Bool). cond (not x) 1 0) b bs ∙ ap (λ (n : ℕ). n + count_by not bs) (flag b)
  where
    flag : (x : Bool) → cond (not x) 1 0 ≡ cond {A = ℕ} x 0 1
    flag true = refl
    flag false = refl

-- one more of those that agree
pub one_agrees : (b : Bool) (bs : List Bool) → count_by (λ (x : Bool). x) (b ∷ bs) ≡ cond b 1 0 + count_by (λ (x : Bool). x) bs
one_agrees b bs = sum_by-cons (λ (x : Bool). cond x 1 0) b bs

-- a vector adds at most one to either count
pub one_at_most : (b : Bool) → (cond b 1 0 ≤ 1) × (cond b 0 1 ≤ 1)
one_at_most true = (omega arith, omega arith)
one_at_most false = (omega arith, omega arith)

-- of no words no vector is counted
pub none_counted : (f : List ℕ → Read Bool) (ws : List ℕ) (flaw : Flaw) → word_in ws ≡ Err flaw → ◌≡◌ {A = Counts} (record { agree = 0; differ = 0 }) (counts_of (agreements_in f ws))
none_counted f [] flaw e = refl
none_counted f (w ∷ ws) flaw e = let z : ◌≡◌ {A = ℕ} 0 1 = cc in absurd (omega arith)

-- what holds of each known value that is so holds of the known value
pub of_known : (known : Option (List ℕ)) (P Q : List ℕ → Type 0) → ((bytes : List ℕ) → P bytes → Q bytes) → IfSome known P → IfSome known Q
of_known None P Q h p = tt
of_known (Some bytes) P Q h p = h bytes p

-- a vector at the front that is replayed and counted leaves those behind it to come
pub one_counted : (f : List ℕ → Read Bool) (words rest behind : List ℕ) (all left more : ℕ) (counts next : Counts) (b : Bool)
    → left ≡ suc more → f rest ≡ Ok (b, behind)
    → next.agree ≡ counts.agree + cond b 1 0 → next.differ ≡ counts.differ + cond b 0 1
    → Replayed f words rest all left counts → Replayed f words behind all more next
one_counted f words rest behind all left more counts next b many front agree differ was =
    let one = one_more f left more rest behind b many front in
    let agrees = ap (count_by (λ (x : Bool). x)) one ∙ one_agrees b (agreements f more behind) in
    let differs = ap (count_by not) one ∙ one_differs b (agreements f more behind) in
    record {
      agree = omega (arith, agrees, was.agree, agree);
      differ = omega (arith, differs, was.differ, differ);
    }
