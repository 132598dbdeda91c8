-- Every accepted plan is read back from its file: its words are below 2 ^ 64, its counts are whole, and a file of so few words has a length that a word holds. So
-- plans with the same file are the same in all that is stored, the works as floats too, since binary64 holds them.
use mathlib.Core.Path.{◌≡◌, refl, sym, ap, ap₂, ◌∙◌}
use mathlib.Core.Bool.{Bool, true, false, not, ◌||◌}
use mathlib.Core.List.{List, [], ◌++◌}
use Prim.Native.Nat.{ℕ, ◌+◌, ◌*◌, ◌/◌, ◌%◌, ◌^◌, ◌≤◌, ◌<◌}
use native.Mathlib.Omega.{arith}
use lib.Dec.{T, eqb, ltb}
use lib.ListN.{length, get_or, length-append}
use lib.Ieee.{Float, binary64, fits, of_bits}
use lib.Ieee.Bits.{of_bits-to_bits}
use Rattle.refusals.specs.Answer.{completed, given}
use borrow.Author.Tests.{eq-eqb, le-ltb}
use Rattle.words.specs.Words.{flag_word, bits_word, AreWords}
use Rattle.words.proofs.Words.{words_append, flag_word_lem}
use Rattle.words.proofs.Bytes.{length_bytes}
use Rattle.records.specs.declared.Head.{Head}
use Rattle.plan_spec.specs.Lists.{concat}
use Rattle.plan_spec.specs.Plan.{Lengths, Plan, plan_of}
use Rattle.plan_spec.proofs.Words.{plan_words, works_fit, plan_counts}
use Rattle.plan_buffers.specs.declared.WordCounts.{WordCounts}
use Rattle.plan_buffers.specs.SixOutputs.{outputs_short}
use Rattle.stored_plan.specs.Stored.{Kept, kept_of, scalars_of, sections_of, trailer_of, words_of, file_of}
use Rattle.stored_plan.specs.Reading.{trailer_word, counts_of, odd_counts, counts_refused, read_file}
use Rattle.stored_plan.specs.Laws.{IsLongEnough, IsSamePlan}
use Rattle.stored_plan.specs.Loading.{number_of}
use Rattle.stored_plan.proofs.Accepting.{accepted}
use Rattle.stored_plan.proofs.RoundTrip.{read_back, restored_same}

-- ---- how many words

-- the seven sections in number
pub sections_length : (k : Kept) → length (concat (sections_of k))
    ≡ length k.steps + length k.merges + length k.sizes + length k.rotations + length k.promotions + length k.measurements + length k.scalars
sections_length k =
    let a = length-append k.scalars [] in
    let b = length-append k.measurements (k.scalars ++ []) in
    let c = length-append k.promotions (k.measurements ++ (k.scalars ++ [])) in
    let d = length-append k.rotations (k.promotions ++ (k.measurements ++ (k.scalars ++ []))) in
    let e = length-append k.sizes (k.rotations ++ (k.promotions ++ (k.measurements ++ (k.scalars ++ [])))) in
    let f = length-append k.merges (k.sizes ++ (k.rotations ++ (k.promotions ++ (k.measurements ++ (k.scalars ++ []))))) in
    let g = length-append k.steps (k.merges ++ (k.sizes ++ (k.rotations ++ (k.promotions ++ (k.measurements ++ (k.scalars ++ [])))))) in
    omega arith

-- a file has 24 words more than the six outputs
pub file_length : (p : Plan) → length (file_of p)
    ≡ 8 * (length p.steps + length p.merges + length p.sizes + length p.rotations + length p.promotions + length p.measurements + 24)
file_length p =
    let k = kept_of p in
    let s = sections_length k in
    let b = length_bytes (words_of k) in
    let w = length-append (concat (sections_of k)) (trailer_of (sections_of k)) in
    omega arith

module _ (h : Head) (ws : List ℕ) (l : Lengths) (p : Plan) (small : h.initial_k < 2 ^ 64) (e : plan_of h ws l ≡ completed p) where
  -- so many bytes are enough for n records
  pub file_most : length (file_of p) ≤ 8 * (24 * (length ws / 8) + 1047)
  file_most = let c = (plan_counts h ws l p e).most in let f = file_length p in omega arith

  -- ---- words

  scalar_words_lem : AreWords (scalars_of p)
  scalar_words_lem =
      let w = plan_words h ws l p small e in
      (flag_word_lem p.selected, (w.initial_components, (w.component_count, (w.dense_work, (w.component_work, (w.dense_peak, (w.peak, (w.allocated, tt))))))))

  section_words : AreWords (concat (sections_of (kept_of p)))
  section_words =
      let w = plan_words h ws l p small e in
      words_append p.steps _ w.steps
      (words_append p.merges _ w.merges
      (words_append p.sizes _ w.sizes
      (words_append p.rotations _ w.rotations
      (words_append p.promotions _ w.promotions
      (words_append p.measurements _ w.measurements
      (words_append (scalars_of p) [] scalar_words_lem tt))))))

  trailer_words : AreWords (trailer_of (sections_of (kept_of p)))
  trailer_words =
      let c = (plan_counts h ws l p e).few in
      let s = sections_length (kept_of p) in
      (omega arith, (omega arith, (omega arith, (omega arith, (omega arith, (omega arith, (omega arith, (omega arith, (omega arith, (omega arith, (omega arith, (omega arith, (omega arith, (omega arith, (omega arith, (omega arith, tt))))))))))))))))

  -- ---- counts

  whole_counts : (lent : WordCounts) → IsLongEnough p lent → counts_refused lent (kept_of p) ≡ false
  whole_counts lent long =
      let c = plan_counts h ws l p e in
      let odd : odd_counts (counts_of (kept_of p)) p.component_count ≡ false =
      ap₂ (λ (a b : Bool). a || b || not (eqb (length p.rotations % 21) 0) || not (eqb (length p.measurements % 19) 0))
      (ap not (eq-eqb _ 0 c.steps)) (ap not (eq-eqb _ _ c.sizes))
      ∙ ap₂ (λ (a b : Bool). a || b) (ap not (eq-eqb _ 0 c.rotations)) (ap not (eq-eqb _ 0 c.measurements)) in
      let short : outputs_short lent (counts_of (kept_of p)) ≡ false =
      ap₂ (λ (a b : Bool). a || b || ltb lent.sizes (length p.sizes) || ltb lent.rotations (length p.rotations) || ltb lent.promotions (length p.promotions) || ltb lent.measurements (length p.measurements))
      (le-ltb _ _ long.steps) (le-ltb _ _ long.merges)
      ∙ ap₂ (λ (a b : Bool). a || b || ltb lent.promotions (length p.promotions) || ltb lent.measurements (length p.measurements))
      (le-ltb _ _ long.sizes) (le-ltb _ _ long.rotations)
      ∙ ap₂ (λ (a b : Bool). a || b) (le-ltb _ _ long.promotions) (le-ltb _ _ long.measurements) in
      ap₂ (λ (a b : Bool). a || b) odd short

  -- every written file passes all checks, and "reading a written plan restores these fields and every row"
  pub plan_restored : (lent : WordCounts) → IsLongEnough p lent → read_file (file_of p) lent ≡ given (kept_of p)
  plan_restored lent long = read_back (kept_of p) (words_append (concat (sections_of (kept_of p))) (trailer_of (sections_of (kept_of p))) section_words trailer_words) lent (whole_counts lent long)

  -- the length in the trailer is the file's
  pub own_length : trailer_word (file_of p) 14 ≡ length (file_of p)
  own_length =
      let lent = counts_of (kept_of p) in
      let long : IsLongEnough p lent = record { steps = omega arith; merges = omega arith; sizes = omega arith; rotations = omega arith; promotions = omega arith; measurements = omega arith } in
      (accepted (file_of p) lent (ap number_of (plan_restored lent long))).is_whole.length_word

-- ---- plans with the same file

flag_same : (a b : Bool) → flag_word a ≡ flag_word b → a ≡ b
flag_same true true e = refl
flag_same true false e = absurd (omega arith)
flag_same false true e = absurd (omega arith)
flag_same false false e = refl

float_same : (x y : Float) → T (fits binary64 x) → T (fits binary64 y) → bits_word x ≡ bits_word y → x ≡ y
float_same x y f g e = sym (of_bits-to_bits binary64 x f) ∙ ap (of_bits binary64) e ∙ of_bits-to_bits binary64 y g

-- what is kept is the same, and so are the fields
kept_same : (p q : Plan) → T (fits binary64 p.dense_work) × T (fits binary64 p.component_work) → T (fits binary64 q.dense_work) × T (fits binary64 q.component_work)
    → kept_of p ≡ kept_of q → IsSamePlan p q
kept_same p q f g e =
    let word : (i : ℕ) → get_or (scalars_of p) i 0 ≡ get_or (scalars_of q) i 0 = λ i. ap (λ (k : Kept). get_or k.scalars i 0) e in record {
      selected = flag_same p.selected q.selected (word 0);
      initial_components = word 1;
      component_count = word 2;
      dense_work = float_same p.dense_work q.dense_work f.0 g.0 (word 3);
      component_work = float_same p.component_work q.component_work f.1 g.1 (word 4);
      dense_peak = word 5;
      peak = word 6;
      allocated = word 7;
      steps = ap (λ (k : Kept). k.steps) e;
      merges = ap (λ (k : Kept). k.merges) e;
      sizes = ap (λ (k : Kept). k.sizes) e;
      rotations = ap (λ (k : Kept). k.rotations) e;
      promotions = ap (λ (k : Kept). k.promotions) e;
      measurements = ap (λ (k : Kept). k.measurements) e;
    }

-- plans with the same file have the same fields and rows
pub same_file : (h : Head) (ws : List ℕ) (l : Lengths) (p : Plan) → h.initial_k < 2 ^ 64 → plan_of h ws l ≡ completed p
    → (h' : Head) (ws' : List ℕ) (l' : Lengths) (q : Plan) → h'.initial_k < 2 ^ 64 → plan_of h' ws' l' ≡ completed q
    → file_of p ≡ file_of q → IsSamePlan p q
same_file h ws l p small e h' ws' l' q small' e' same =
    let lent : WordCounts = record {
      steps = length p.steps + length q.steps;
      merges = length p.merges + length q.merges;
      sizes = length p.sizes + length q.sizes;
      rotations = length p.rotations + length q.rotations;
      promotions = length p.promotions + length q.promotions;
      measurements = length p.measurements + length q.measurements;
    } in
    let one = plan_restored h ws l p small e lent (record { steps = omega arith; merges = omega arith; sizes = omega arith; rotations = omega arith; promotions = omega arith; measurements = omega arith }) in
    let other = plan_restored h' ws' l' q small' e' lent (record { steps = omega arith; merges = omega arith; sizes = omega arith; rotations = omega arith; promotions = omega arith; measurements = omega arith }) in
    kept_same p q (works_fit h ws l p e) (works_fit h' ws' l' q e')
    (restored_same (kept_of p) (kept_of q) (sym one ∙ ap (λ (f : List ℕ). read_file f lent) same ∙ other))
