-- Pairs are fused in turn: no later pair is fused into an operation that is left or gone by then, so each operation that is left is what the pairs made of its place,
-- and each pair found at its two places what the pairs before it made of them.
use mathlib.Core.Path.{◌≡◌, refl, sym, ap, ◌∙◌, subst}
use mathlib.Core.Bool.{Bool, false}
use mathlib.Core.List.{List, [], ◌∷◌, ◌++◌}
use Prim.Native.Nat.{ℕ, ◌<◌}
use native.Mathlib.Omega.{arith}
use lib.ListN.{length, get_or, set}
use Rattle.std.specs.List.{AllByRecursion as Each}
use Rattle.std.proofs.lemmas.List.{get_or-set_same, get_or-set_other, length-set}
use Rattle.pending.specs.Operation.{Operation}
use Rattle.optimizer_spec.specs.Passes.{Placed, Pair, Fused, cancels, fused}
use Rattle.optimizer_spec.specs.Further.{fuse_pair, fuse_pairs}
use Rattle.optimizer_spec.proofs.Lists.{Each_both, Each_weaker, Pairs}
use Rattle.optimizer_spec.proofs.Carrying.{Met, joins, annuls, crosses, met_each}
use Rattle.optimizer_spec.proofs.Fusing.{Fuses, ends, keeps, fuses, fuses_each}

abbrev pub Rising : List Placed → Type 0
Rising os = Pairs (λ a b. a.place < b.place) os

-- an operation is what stands at its place
abbrev pub Now : List Operation → Placed → Type 0
Now now o = (o.place < length now) × (o.operation ≡ get_or now o.place [])

now_other : (now : List Operation) (l : ℕ) (v : Operation) (o : Placed) → (o.place ≡ l → ⊥) → Now now o → Now (set now l v) o
now_other now l v o n h = (let e = length-set now l v in omega (arith, h.0), h.1 ∙ sym (get_or-set_other now l o.place v [] n))

-- what pairs behind it leave alone
pub pairs_other : (ps : List Pair) (now : List Operation) (o : Placed) → Each (λ p. o.place ≡ p.later → ⊥) ps → Now now o → Now (fuse_pairs ps now) o
pairs_other [] now o e h = h
pairs_other (p ∷ ps) now o e h = pairs_other ps (fuse_pair p now) o e.1 (now_other now p.later _ o e.0 h)

pub fuse_pairs-append : (ps qs : List Pair) (now : List Operation) → fuse_pairs (ps ++ qs) now ≡ fuse_pairs qs (fuse_pairs ps now)
fuse_pairs-append [] qs now = refl
fuse_pairs-append (p ∷ ps) qs now = fuse_pairs-append ps qs (fuse_pair p now)

-- ---- one carrying

module _ {a : Operation} where
  met_rising : {rest : List Placed} {later : ℕ} {cancelled : Bool} {after : List Placed} → Met a rest later cancelled after → Rising rest → Rising after
  met_rising (joins b rest h f c) r = r
  met_rising (annuls b rest h f c) r = r.1
  met_rising (crosses b h m) r = ((met_each (λ p. b.place < p) m r.0).0, met_rising m r.1)

  met_exact : (now : List Operation) {rest : List Placed} {later : ℕ} {cancelled : Bool} {after : List Placed} → Met a rest later cancelled after
      → Each (Now now) rest → cancelled ≡ cancels a (get_or now later [])
  met_exact now (joins b rest h f c) e = sym c ∙ ap (cancels a) e.0.1
  met_exact now (annuls b rest h f c) e = sym c ∙ ap (cancels a) e.0.1
  met_exact now (crosses b h m) e = met_exact now m e.1

  met_now : (now : List Operation) {rest : List Placed} {later : ℕ} {cancelled : Bool} {after : List Placed} → Met a rest later cancelled after
      → Rising rest → Each (Now now) rest → Each (Now (set now later (fused a (get_or now later [])))) after
  met_now now (joins b rest h f c) r e =
      let v = fused a (get_or now b.place []) in (
        (let n = length-set now b.place v in omega (arith, e.0.0), ap (fused a) e.0.1 ∙ sym (get_or-set_same now b.place v [] e.0.0)),
        Each_both (λ o. b.place < o.place) (Now now) (Now (set now b.place v)) (λ o l n. now_other now b.place v o (λ q. omega arith) n) rest r.0 e.1,
      )
  met_now now (annuls b rest h f c) r e =
      let v = fused a (get_or now b.place []) in
      Each_both (λ o. b.place < o.place) (Now now) (Now (set now b.place v)) (λ o l n. now_other now b.place v o (λ q. omega arith) n) rest r.0 e.1
  met_now now (crosses b {later = later} h m) r e =
      let l = (met_each (λ p. b.place < p) m r.0).1 in
      (now_other now later (fused a (get_or now later [])) b (λ q. omega arith) e.0, met_now now m r.1 e.1)

  -- one that was cancelled is gone
  met_gone : {rest : List Placed} {later : ℕ} {cancelled : Bool} {after : List Placed} → Met a rest later cancelled after → Rising rest
      → Each (λ o. later ≡ o.place → cancelled ≡ false) after
  met_gone (joins b rest h f c) r = (λ q. refl, Each_weaker (λ o. b.place < o.place) _ (λ o l q. refl) rest r.0)
  met_gone (annuls b rest h f c) r = Each_weaker (λ o. b.place < o.place) _ (λ o l q. absurd (omega arith)) rest r.0
  met_gone (crosses b h m) r = (λ q. absurd (let l = (met_each (λ p. b.place < p) m r.0).1 in omega arith), met_gone m r.1)

-- ---- all carryings of a segment

-- both places of each pair are places of the list
pub fuses_pairs : (P : ℕ → Type 0) {os : List Placed} {f : Fused} → Fuses os f → Each (λ o. P o.place) os → Each (λ p. P p.earlier × P p.later) f.pairs
fuses_pairs P ends h = tt
fuses_pairs P (keeps o k) h = fuses_pairs P k h.1
fuses_pairs P (fuses o e m k) h = let r = met_each P m h.1 in ((h.0, r.1), fuses_pairs P k r.0)

pub fuses_rising : {os : List Placed} {f : Fused} → Fuses os f → Rising os → Rising f.left
fuses_rising ends r = tt
fuses_rising (keeps o k) r = (fuses_each (λ p. o.place < p) k r.0, fuses_rising k r.1)
fuses_rising (fuses o e m k) r = fuses_rising k (met_rising m r.1)

-- each pair cancels as the angles say that stand at its places in its turn
abbrev pub Exactly : List Operation → List Pair → Type 0
Exactly now [] = Unit {0}
Exactly now (p ∷ ps) = (p.cancelled ≡ cancels (get_or now p.earlier []) (get_or now p.later [])) × Exactly (fuse_pair p now) ps

pub Exactly-append : (ps qs : List Pair) (now : List Operation) → Exactly now ps → Exactly (fuse_pairs ps now) qs → Exactly now (ps ++ qs)
Exactly-append [] qs now h k = k
Exactly-append (p ∷ ps) qs now h k = (h.0, Exactly-append ps qs (fuse_pair p now) h.1 k)

abbrev pub InTurn : Pair → Pair → Type 0
InTurn a b = (a.earlier < b.earlier) × (a.later ≡ b.later → a.cancelled ≡ false)

pub record Turned (now : List Operation) (left : List Placed) (pairs : List Pair) : Type 0 where
  pub values : Each (Now (fuse_pairs pairs now)) left
  pub exact : Exactly now pairs
  pub in_turn : Pairs InTurn pairs

pub fuses_turned : (now : List Operation) {os : List Placed} {f : Fused} → Fuses os f → Rising os → Each (Now now) os → Turned now f.left f.pairs
fuses_turned now ends r e = record { values = tt; exact = tt; in_turn = tt }
fuses_turned now (keeps o {f = f} k) r e =
    let t = fuses_turned now k r.1 e.1 in record {
      values = (
        pairs_other f.pairs now o
            (Each_weaker (λ p. (o.place < p.earlier) × (o.place < p.later)) _ (λ p l q. let g = l.1 in omega arith) f.pairs (fuses_pairs (λ p. o.place < p) k r.0))
            e.0,
        t.values,
      );
      exact = t.exact;
      in_turn = t.in_turn;
    }
fuses_turned now (fuses o {later = later} {cancelled = cancelled} {after = after} {f = f} h m k) r e =
    let p : Pair = record { earlier = o.place; later = later; cancelled = cancelled } in
    let placed : Each (Now (fuse_pair p now)) after =
    subst (λ (v : Operation). Each (Now (set now later (fused v (get_or now later [])))) after) e.0.1 (met_now now m r.1 e.1) in
    let t = fuses_turned (fuse_pair p now) k (met_rising m r.1) placed in record {
      values = t.values;
      exact = (met_exact now m e.1 ∙ ap (λ (v : Operation). cancels v (get_or now later [])) e.0.1, t.exact);
      in_turn = (
        Each_both (λ q. (o.place < q.earlier) × (o.place < q.later))
            (λ q. (later ≡ q.earlier → cancelled ≡ false) × (later ≡ q.later → cancelled ≡ false)) (InTurn p)
            (λ q l g. (l.0, g.1)) f.pairs
            (fuses_pairs (λ n. o.place < n) k (met_each (λ n. o.place < n) m r.0).0)
            (fuses_pairs (λ n. later ≡ n → cancelled ≡ false) k (met_gone m r.1)),
        t.in_turn,
      );
    }
