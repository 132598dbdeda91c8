-- What the replies of a storing and of a loading call tell is what the definition gives: the file of a plan, and what reading a file gives.
use Rattle.std.specs.Prelude.{Some, Option, Ok}
use mathlib.Core.Path.{◌≡◌, refl, sym, ap, ap₂, ◌∙◌, subst}
use mathlib.Core.Bool.{Bool, true, false}
use mathlib.Core.List.{List, [], ◌∷◌, ◌++◌, map}
use Prim.Native.Nat.{ℕ, suc, ◌+◌, ◌≤◌, ◌<◌}
use native.Mathlib.Omega.{arith}
use lib.Dec.{ltb}
use lib.ListN.{length, get_or, take}
use Rattle.std.proofs.lemmas.List.{get_or_append_left}
use lib.Seq.{get_or-append-add}
use Rattle.refusals.specs.Answer.{completed, refused_at, given, refused}
use Rattle.words.specs.Lists.{padded}
use Rattle.words.proofs.Padded.{front_of_padded}
use Rattle.words.proofs.Bytes.{length_words}
use Rattle.records.specs.declared.Head.{Head}
use Rattle.refusals.specs.Numbers as Reasons
use Rattle.plan_spec.specs.Plan.{Plan, Result, refuse_all, plan_of}
use Rattle.plan_spec.proofs.Claims.{map_entries}
use Rattle.plan_buffers.specs.declared.WordCounts.{WordCounts}
use Rattle.plan_buffers.specs.SevenBuffers.{Buffers, lengths_of}
use Rattle.plan_buffers.specs.SixOutputs.{Outputs, word_counts_of}
use Rattle.stored_plan.specs.Stored.{Kept, file_of}
use Rattle.stored_plan.specs.Reading.{Read, counts_of, counts_refused, kept_in, file_refused, places_refused, read_file}
use Rattle.stored_plan.specs.Loading as Loading
use Rattle.stored_plan.specs.Loading.{Loaded, loaded, number_of, scalar_list, Restored}
use Rattle.stored_plan.proofs.RoundTrip.{restored_same}
use Rattle.stored_plan.proofs.Accepting.{refuse, accepted}
use Rattle.store.specs.Storing as Storing
use Rattle.store.specs.Storing.{Stores, fitting, store_of}
use Rattle.midvokt.specs.Reply.{laid_out}
use Rattle.midvokt.specs.Stored.{store_number, store_words, load_number, load_words}
use Rattle.guarantees.specs.Calls.{LeavesFile, LeavesKept, kept_told, scalars_told, words_told}
use Rattle.guarantees.proofs.Leaving.{word_there}
use Rattle.guarantees.proofs.Numbers.{refused_number}

-- ---- storing

-- a plan that fits its file, or a refusal with a number
record Fitted (result : Result) : Type 0 where
  plan : Plan
  is : result ≡ completed plan

-- a number of 0 is that of a plan that fits
fitted : (size : ℕ) (result : Result) → ((n i : ℕ) → result ≡ refused_at n i → 0 < n) → 0 ≡ store_number (Storing.outcome_in (fitting size result)) → Fitted (fitting size result)
fitted size (refused_at n i) numbered z = let some = numbered n i refl in absurd (omega arith)
fitted size (completed p) numbered z = go (ltb size (length (file_of p))) z
  where
    go : (t : Bool) → 0 ≡ store_number (Storing.outcome_in (refuse_all t 23 (completed p))) → Fitted (refuse_all t 23 (completed p))
    go true z = absurd (omega arith)
    go false z = record { plan = p; is = refl }

-- what a call leaves is what an answer says
pub file_answer : (h : Head) (ws : List ℕ) (before after : Buffers) (file filed : List ℕ) (n : ℕ) → LeavesFile h ws before after file filed n
    → Stores h ws before after file filed (Ok n)
file_answer h ws before after file filed n (LeavesFile.answer m a) = a
file_answer h ws before after file filed n (LeavesFile.reply res words room a) =
    let l = lengths_of before in
    let found = fitted (length file) (plan_of h ws l) (refused_number h ws l) a.number in
    let told = store_words (Storing.outcome_in (completed found.plan)) in
    let same : get_or words 1 0 ≡ length (file_of found.plan) =
    ap (λ (l : List ℕ). get_or l 1 0) (a.result ∙ ap (λ (x : Result). laid_out (length res) (store_words (Storing.outcome_in x))) found.is)
    ∙ word_there (length res) told 1 (omega arith) in
    record {
      answer = ap completed same ∙ sym (ap Storing.outcome_in found.is);
      held = a.held;
      bytes = a.bytes;
    }

-- ---- loading

-- outputs that hold sections, by their counts
kept_held : (k : Kept) (before after : Outputs) → Restored (given k) before after → kept_told k.scalars (counts_of k) after ≡ k
kept_held k before after held =
    let front : (m : ℕ) (ws xs : List ℕ) → xs ≡ padded m ws → take (length ws) xs ≡ ws = λ m ws xs e. front_of_padded m (length ws) ws xs refl e in
    λ j. record {
      steps = front (length before.steps) k.steps after.steps held.steps j;
      merges = front (length before.merges) k.merges after.merges held.merges j;
      sizes = front (length before.sizes) k.sizes after.sizes held.sizes j;
      rotations = front (length before.rotations) k.rotations after.rotations held.rotations j;
      promotions = front (length before.promotions) k.promotions after.promotions held.promotions j;
      measurements = front (length before.measurements) k.measurements after.measurements held.measurements j;
      scalars = k.scalars;
    }

-- what a file that is read keeps has eight scalar words
eight_scalars : (file : List ℕ) (lent : WordCounts) (k : Kept) → read_file file lent ≡ given k → length k.scalars ≡ 8
eight_scalars file lent k e =
    let a = accepted file lent (ap number_of e) in
    let same = restored_same (kept_in file) k (sym a.read ∙ e) in
    sym (ap (λ (x : Kept). length x.scalars) same) ∙ length_words file _ _ ∙ a.eight

-- the words of its reply
module _ (k : Kept) (eight : length k.scalars ≡ 8) (n : ℕ) (room : 15 ≤ n) where
  abbrev told : List ℕ
  told = laid_out n (load_words (Loading.outcome_in (given k)))

  abbrev counts : List ℕ
  counts = length k.steps ∷ length k.merges ∷ length k.sizes ∷ length k.rotations ∷ length k.promotions ∷ length k.measurements ∷ []

  scalar_back : (i : ℕ) → i < 8 → get_or told (suc i) 0 ≡ get_or k.scalars i 0
  scalar_back i h =
      word_there n (load_words (Loading.outcome_in (given k))) (suc i) (omega arith)
      ∙ get_or_append_left k.scalars counts 0 i (omega arith)

  scalars_back : scalars_told told ≡ k.scalars
  scalars_back =
      (λ j. scalar_back 0 (omega arith) j ∷ scalar_back 1 (omega arith) j ∷ scalar_back 2 (omega arith) j ∷ scalar_back 3 (omega arith) j
      ∷ scalar_back 4 (omega arith) j ∷ scalar_back 5 (omega arith) j ∷ scalar_back 6 (omega arith) j ∷ scalar_back 7 (omega arith) j ∷ [])
      ∙ map_entries (λ w. w) k.scalars 8 eight
      ∙ map_same k.scalars
    where
      map_same : (ws : List ℕ) → map (λ w. w) ws ≡ ws
      map_same [] = refl
      map_same (w ∷ ws) = ap (λ (l : List ℕ). w ∷ l) (map_same ws)

  count_back : (i : ℕ) → i < 6 → get_or told (suc (8 + i)) 0 ≡ get_or counts i 0
  count_back i h =
      word_there n (load_words (Loading.outcome_in (given k))) (suc (8 + i)) (omega arith)
      ∙ ap (λ (m : ℕ). get_or (k.scalars ++ counts) (m + i) 0) (sym eight)
      ∙ get_or-append-add k.scalars counts i 0

  counts_back : words_told told ≡ counts_of k
  counts_back j = record {
    steps = count_back 0 (omega arith) j;
    merges = count_back 1 (omega arith) j;
    sizes = count_back 2 (omega arith) j;
    rotations = count_back 3 (omega arith) j;
    promotions = count_back 4 (omega arith) j;
    measurements = count_back 5 (omega arith) j;
  }

-- answers that say the same of a file say the same words and counts
loaded_same : {a b : Loaded} → given a ≡ given b → a ≡ b
loaded_same e = cc

module _ (file : List ℕ) (before after : Outputs) where
  -- a file that is read: every call says what it keeps
  pub kept_read : (k : Kept) (o : Option Kept) → read_file file (word_counts_of before) ≡ given k → LeavesKept file before after o
      → (o ≡ Some k) × Restored (given k) before after
  kept_read k o e (LeavesKept.answer s a) =
      let held = subst (λ (x : Read). Restored x before after) e a.held in
      let same_answer : given (loaded (scalar_list s.scalars) s.counts) ≡ given (loaded k.scalars (counts_of k)) = a.answer ∙ ap Loading.outcome_in e in
      let same = loaded_same same_answer in
      let scalars : scalar_list s.scalars ≡ k.scalars = ap (λ (l : Loaded). l.scalars) same in
      let counts : s.counts ≡ counts_of k = ap (λ (l : Loaded). l.counts) same in
      (ap Some (ap₂ (λ (x : List ℕ) (y : WordCounts). kept_told x y after) scalars counts ∙ kept_held k before after held), held)
  kept_read k o e (LeavesKept.refusal r a) =
      let same_answer : refused (Reasons.number_of r) ≡ given (loaded k.scalars (counts_of k)) = a.answer ∙ ap Loading.outcome_in e in
      let z : ◌≡◌ {A = ℕ} 0 1 = cc in absurd (omega arith)
  kept_read k o e (LeavesKept.reply res words room a) =
      let held = subst (λ (x : Read). Restored x before after) e a.held in
      let eight = eight_scalars file (word_counts_of before) k e in
      let result = a.result ∙ ap (λ (x : Read). laid_out (length res) (load_words (Loading.outcome_in x))) e in
      let scalars = ap scalars_told result ∙ scalars_back k eight (length res) room in
      let counts = ap words_told result ∙ counts_back k eight (length res) room in
      (ap Some (ap₂ (λ (x : List ℕ) (y : WordCounts). kept_told x y after) scalars counts ∙ kept_held k before after held), held)
  kept_read k o e (LeavesKept.number res words n some a) =
      let z : n ≡ 0 = a.number ∙ ap (λ (x : Read). load_number (Loading.outcome_in x)) e in absurd (omega arith)

  -- what a file that is not read is refused for
  not_zero : (m : ℕ) → read_file file (word_counts_of before) ≡ refused m → 0 < m
  not_zero m e = go (file_refused file) (places_refused file) (counts_refused (word_counts_of before) (kept_in file)) e
    where
      go : (a b c : Bool) → refuse a 21 (refuse b 22 (refuse c 23 (given (kept_in file)))) ≡ refused m → 0 < m
      go true b c e = let z : 21 ≡ m = cc in omega arith
      go false true c e = let z : 22 ≡ m = cc in omega arith
      go false false true e = let z : 23 ≡ m = cc in omega arith
      go false false false e = let z : ◌≡◌ {A = ℕ} 0 1 = cc in absurd (omega arith)

  -- no call says that a file keeps something that is refused
  none_kept : (m : ℕ) (k : Kept) → read_file file (word_counts_of before) ≡ refused m → LeavesKept file before after (Some k) → ⊥
  none_kept m k e (LeavesKept.answer s a) =
      let same_answer : given (loaded (scalar_list s.scalars) s.counts) ≡ refused m = a.answer ∙ ap Loading.outcome_in e in
      let z : ◌≡◌ {A = ℕ} 0 1 = cc in absurd (omega arith)
  none_kept m k e (LeavesKept.reply res words room a) =
      let some = not_zero m e in
      let z : 0 ≡ m = a.number ∙ ap (λ (x : Read). load_number (Loading.outcome_in x)) e in absurd (omega arith)

  -- so what a call says that a file keeps is what reading gives
  pub kept_is : (k : Kept) → LeavesKept file before after (Some k) → read_file file (word_counts_of before) ≡ given k
  kept_is k leaves = go (read_file file (word_counts_of before)) refl
    where
      go : (x : Read) → read_file file (word_counts_of before) ≡ x → read_file file (word_counts_of before) ≡ given k
      go (given l) e = let both = (kept_read l (Some k) e leaves).0 in let same : k ≡ l = cc in e ∙ ap given (sym same)
      go (refused m) e = absurd (none_kept m k e leaves)
