-- The words of bytes, and what is read and left of them.
use Rattle.std.proofs.Common.{◌≡◌, ◌≤◌, ◌<◌, ◌+◌, ◌-◌, ◌*◌, ◌/◌, zero, suc, refl, sym, ap, ap₂, ◌∙◌, arith, ℕ, List, [], ◌∷◌, ◌++◌, length, take, drop, Option, Some, None, Ok, Err, Bool, cond, append_assoc, append-nil, length-append, subst, take_all}
use Rattle.std.specs.Prelude.{IsSome}
use Rattle.std.proofs.Math.Seq.{drop-append-add, take-append-add}
use Rattle.std.proofs.lemmas.List.{take-append-le, length-take-le}
use Rattle.std.specs.Io.KnownBytes.{Consumes, IsAtEnd}
use Rattle.std.proofs.KnownBytes.{Consumes-trans}
use borrow.Rule.Slice.PartMut.{put_mid, post_of}
use Rattle.words.specs.File.{number_of, word_at, words_at}
use Rattle.vectors.specs.Reading.{Read, words_of, left_of, word_in}
use Rattle.vectors.specs.declared.Flaw.TheVariants.{CutShort}

-- ---- bytes

-- n bytes more are read into what lies behind the first
pub read_more : (a b c : Option (List ℕ)) (xs ys : List ℕ) (at next n : ℕ)
    → at ≤ length xs → n ≤ length ys → next ≡ at + n → Consumes a b (take at xs) → Consumes b c (take n ys)
    → Consumes a c (take next (put_mid at (length xs - at) xs ys))
read_more a b c xs ys at next n within fits more before now =
    let rest = ys ++ post_of at (length xs - at) xs in
    let front : length (take at xs) ≡ at = length-take-le at xs within in
    let place : next ≡ length (take at xs) + n = omega (arith, front, more) in
    let same : take next (take at xs ++ rest) ≡ take at xs ++ take n ys =
    ap (λ (k : ℕ). take k (take at xs ++ rest)) place ∙ take-append-add (take at xs) rest n
    ∙ ap (λ (l : List ℕ). take at xs ++ l) (take-append-le n ys (post_of at (length xs - at) xs) fits) in
    subst (Consumes a c) (sym same) (Consumes-trans a b c (take at xs) (take n ys) before now)

-- ---- words

-- words behind the first eight bytes are words of what comes behind those
behind : (bs ys : List ℕ) (at n : ℕ) → length bs ≡ 8 → words_at (bs ++ ys) (suc at) n ≡ words_at ys at n
behind bs ys at zero long = refl
behind bs ys at (suc n) long =
    let place : 8 * suc at ≡ length bs + 8 * at = omega (arith, long) in
    let same : drop (8 * suc at) (bs ++ ys) ≡ drop (8 * at) ys =
    ap (λ (k : ℕ). drop k (bs ++ ys)) place ∙ drop-append-add bs ys (8 * at) in
    ap₂ (λ (w : ℕ) (ws : List ℕ). w ∷ ws) (ap (λ (l : List ℕ). number_of (take 8 l)) same) (behind bs ys (suc at) n long)

-- eight bytes are a word, and what comes behind them are the words behind it
words_cons : (bs ys : List ℕ) → length bs ≡ 8 → words_of (bs ++ ys) ≡ word_at bs 0 ∷ words_of ys
words_cons bs ys long =
    let whole : length (bs ++ ys) ≡ length bs + length ys = length-append bs ys in
    let many : length (bs ++ ys) / 8 ≡ suc (length ys / 8) = omega (arith, whole, long) in
    let first : take 8 (bs ++ ys) ≡ take 8 bs = take-append-le 8 bs ys (omega (arith, long)) in
    ap (words_at (bs ++ ys) 0) many
    ∙ ap₂ (λ (w : ℕ) (ws : List ℕ). w ∷ ws) (ap number_of first) (behind bs ys 0 (length ys / 8) long)

-- fewer bytes are no word
words_none : (bs : List ℕ) → length bs < 8 → words_of bs ≡ []
words_none bs short = let none : length bs / 8 ≡ 0 = omega (arith, short) in ap (words_at bs 0) none

-- no bytes are known of an input of which none are
none_known : IsSome {T = List ℕ} None → ⊥
none_known e = let z : ◌≡◌ {A = ℕ} 0 1 = ap (λ (b : Bool). cond {A = ℕ} b 1 0) e in absurd (omega arith)

-- eight bytes that were read are the first word
pub word_read : (a b : Option (List ℕ)) (bs : List ℕ) (n : ℕ) → length bs ≡ 8 → 8 ≤ n → Consumes a b (take n bs) → IsSome a
    → IsSome b × (word_in (left_of a) ≡ Ok (word_at bs 0, left_of b))
word_read None b bs n long whole took known = absurd (none_known known)
word_read (Some xs) None bs n long whole took known = absurd took
word_read (Some xs) (Some ys) bs n long whole took known =
    let all : take n bs ≡ bs = take_all n bs (omega (arith, long, whole)) in
    (refl, ap word_in (ap words_of (took ∙ ap (λ (l : List ℕ). l ++ ys) all) ∙ words_cons bs ys long))

-- an input that ends within eight bytes has no word
pub word_cut : (a b : Option (List ℕ)) (bs : List ℕ) (n : ℕ) → n ≤ length bs → n < 8 → Consumes a b (take n bs) → IsAtEnd b → IsSome a
    → word_in (left_of a) ≡ Err CutShort
word_cut None b bs n within short took end known = absurd (none_known known)
word_cut (Some xs) None bs n within short took end known = absurd took
word_cut (Some xs) (Some ys) bs n within short took end known =
    let all : xs ≡ take n bs = took ∙ ap (λ (l : List ℕ). take n bs ++ l) end ∙ append-nil (take n bs) in
    let long : length xs ≡ n = ap (λ (l : List ℕ). length l) all ∙ length-take-le n bs within in
    ap word_in (words_none xs (omega (arith, long, short)))

-- ---- several words

abbrev listed : Read ℕ → List ℕ
listed (Ok x) = x.0 ∷ x.1
listed (Err flaw) = []

-- a word that can be read stands in front
word_front : (ws behind : List ℕ) (w : ℕ) → word_in ws ≡ Ok (w, behind) → ws ≡ w ∷ behind
word_front [] behind w e = ap listed e
word_front (v ∷ ws) behind w e = ap listed e

-- words that were read, one more, and what is left
pub word_added : (all xs rest behind : List ℕ) (w : ℕ) → all ≡ xs ++ rest → word_in rest ≡ Ok (w, behind) → all ≡ (xs ++ w ∷ []) ++ behind
word_added all xs rest behind w e more =
    e ∙ ap (λ (l : List ℕ). xs ++ l) (word_front rest behind w more) ∙ sym (append_assoc xs (w ∷ []) behind)

-- and they are one more
pub one_longer : (xs : List ℕ) (w n : ℕ) → length xs ≡ n → length (xs ++ w ∷ []) ≡ n + 1
one_longer xs w n many = length-append xs (w ∷ []) ∙ ap (λ (k : ℕ). k + 1) many
