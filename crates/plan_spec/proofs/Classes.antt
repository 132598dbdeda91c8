-- A support merges classes exactly as links join: it gives all classes that it touches one number and leaves the others, so two coordinates have one class
-- just where a chain of supports joins them.
use mathlib.Core.Path.{◌≡◌, refl, sym, ap, ◌∙◌, subst}
use mathlib.Core.Logic.{◌⊎◌, inl, inr, ⊎_elim, ◌↔◌}
use mathlib.Core.Bool.{Bool, cond}
use mathlib.Core.List.{List, [], ◌∷◌, ◌++◌, map, Memᴰ}
use Prim.Native.Nat.{ℕ, ◌≤◌, ◌<◌}
use native.Mathlib.Omega.{arith}
use Rattle.plan_spec.specs.Lists.{is_in}
use Rattle.plan_spec.specs.Connectivity.{Member, Linked, itself, link, back, chain, merged, class_from, class_of}
use Rattle.plan_spec.proofs.Counting.{member_or_not, member_cons, member_head, member_tail, member_is_in, absent_is_in}

-- ---- one support

-- some entry of s has a's class
abbrev pub Touches : (ℕ → ℕ) → List ℕ → ℕ → Type 0
Touches f s a = (c : ℕ) × Member c s × (f a ≡ f c)

-- a member's number is among the numbers
pub member_map : (f : ℕ → ℕ) (c : ℕ) (s : List ℕ) → Member c s → Member (f c) (map f s)
member_map f c [] h = absurd (omega arith)
member_map f c (b ∷ s) h =
    ⊎_elim
    (λ e. subst (λ (n : ℕ). Member (f n) (map f (b ∷ s))) (sym e) (member_head (f b) (map f s)))
    (λ m. member_tail (f c) (f b) (map f s) (member_map f c s m))
    (member_cons c b s h)

-- and each of the numbers is a member's
pub map_member : (f : ℕ → ℕ) (v : ℕ) (s : List ℕ) → Member v (map f s) → (c : ℕ) × Member c s × (v ≡ f c)
map_member f v [] h = absurd (omega arith)
map_member f v (b ∷ s) h =
    ⊎_elim
    (λ e. (b, member_head b s, e))
    (λ m. let r = map_member f v s m in (r.0, member_tail r.0 b s r.1, r.2))
    (member_cons v (f b) (map f s) h)

-- a class is touched if its number is among the support's
pub touches_member : (f : ℕ → ℕ) (s : List ℕ) (a : ℕ) → Touches f s a → Member (f a) (map f s)
touches_member f s a t = subst (λ (n : ℕ). Member n (map f s)) (sym t.2) (member_map f t.0 s t.1)

-- so whether one is touched can be told
pub touches_or_not : (f : ℕ → ℕ) (s : List ℕ) (a : ℕ) → Touches f s a ⊎ (Touches f s a → ⊥)
touches_or_not f s a =
    ⊎_elim
    (λ m. inl (map_member f (f a) s m))
    (λ e. inr (λ t. let m = touches_member f s a t in omega arith))
    (member_or_not (f a) (map f s))

-- a touched class becomes that of the support's first entry
pub merged_touched : (f : ℕ → ℕ) (x : ℕ) (s : List ℕ) (a : ℕ) → Touches f (x ∷ s) a → merged f (x ∷ s) a ≡ f x
merged_touched f x s a t =
    ap (λ (b : Bool). cond b (f x) (f a)) (member_is_in (f a) (map f (x ∷ s)) (touches_member f (x ∷ s) a t))

-- any other stays
pub merged_untouched : (f : ℕ → ℕ) (s : List ℕ) (a : ℕ) → (Touches f s a → ⊥) → merged f s a ≡ f a
merged_untouched f [] a n = refl
merged_untouched f (x ∷ s) a n =
    ⊎_elim
    (λ m. absurd (n (map_member f (f a) (x ∷ s) m)))
    (λ e. ap (λ (b : Bool). cond b (f x) (f a)) (absent_is_in (f a) (map f (x ∷ s)) e))
    (member_or_not (f a) (map f (x ∷ s)))

-- coordinates of one class stay in one class
pub merged_keeps : (f : ℕ → ℕ) (s : List ℕ) (a b : ℕ) → f a ≡ f b → merged f s a ≡ merged f s b
merged_keeps f [] a b e = e
merged_keeps f (x ∷ s) a b e = ap (λ (v : ℕ). cond (is_in v (map f (x ∷ s))) (f x) v) e

-- two coordinates that the support touches come into one class
pub merged_joins : (f : ℕ → ℕ) (s : List ℕ) (a b : ℕ) → Touches f s a → Touches f s b → merged f s a ≡ merged f s b
merged_joins f [] a b t u = absurd (let m = t.1 in omega arith)
merged_joins f (x ∷ s) a b t u = merged_touched f x s a t ∙ sym (merged_touched f x s b u)

-- and no others do
pub merged_splits : (f : ℕ → ℕ) (s : List ℕ) (a b : ℕ) → merged f s a ≡ merged f s b → (f a ≡ f b) ⊎ (Touches f s a × Touches f s b)
merged_splits f [] a b e = inl e
merged_splits f (x ∷ s) a b e =
    ⊎_elim
    (λ t. ⊎_elim
    (λ u. inr (t, u))
    (λ n. absurd (n (x, member_head x s, sym (merged_untouched f (x ∷ s) b n) ∙ sym e ∙ merged_touched f x s a t)))
    (touches_or_not f (x ∷ s) b))
    (λ n. ⊎_elim
    (λ u. absurd (n (x, member_head x s, sym (merged_untouched f (x ∷ s) a n) ∙ e ∙ merged_touched f x s b u)))
    (λ o. inl (sym (merged_untouched f (x ∷ s) a n) ∙ e ∙ merged_untouched f (x ∷ s) b o))
    (touches_or_not f (x ∷ s) b))
    (touches_or_not f (x ∷ s) a)

-- so a support joins exactly the classes that it touches
pub merged_same : (f : ℕ → ℕ) (s : List ℕ) (a b : ℕ) → (merged f s a ≡ merged f s b) ↔ ((f a ≡ f b) ⊎ (Touches f s a × Touches f s b))
merged_same f s a b = (merged_splits f s a b, λ h. ⊎_elim (merged_keeps f s a b) (λ t. merged_joins f s a b t.0 t.1) h)

-- ---- all supports

-- a support appended is merged last, whatever the numbers at the start
pub class_from_append : (f : ℕ → ℕ) (links : List (List ℕ)) (s : List ℕ) (c : ℕ) → class_from f (links ++ (s ∷ [])) c ≡ merged (class_from f links) s c
class_from_append f [] s c = refl
class_from_append f (l ∷ links) s c = class_from_append (merged f l) links s c

-- the same from each coordinate's own number on
pub class_append : (links : List (List ℕ)) (s : List ℕ) (c : ℕ) → class_of (links ++ (s ∷ [])) c ≡ merged (class_of links) s c
unfolding class_of
class_append links s c = class_from_append (λ a. a) links s c

-- equal classes stay equal under later supports
pub class_keeps : (f : ℕ → ℕ) (ss : List (List ℕ)) (a b : ℕ) → f a ≡ f b → class_from f ss a ≡ class_from f ss b
class_keeps f [] a b e = e
class_keeps f (s ∷ ss) a b e = class_keeps (merged f s) ss a b (merged_keeps f s a b e)

-- all entries of a support have one class in the end
pub class_joins : {s : List ℕ} (f : ℕ → ℕ) {ss : List (List ℕ)} (a b : ℕ) → Memᴰ s ss → Member a s → Member b s → class_from f ss a ≡ class_from f ss b
class_joins f a b (Memᴰ.head {x} {xs} e) ma mb =
    class_keeps (merged f x) xs a b
    (merged_joins f x a b (a, subst (λ (l : List ℕ). Member a l) e ma, refl) (b, subst (λ (l : List ℕ). Member b l) e mb, refl))
class_joins f a b (Memᴰ.tail {x} m) ma mb = class_joins (merged f x) a b m ma mb

-- so linked coordinates have one class
pub linked_class : {links : List (List ℕ)} {a b : ℕ} → Linked links a b → class_of links a ≡ class_of links b
unfolding class_of
linked_class (itself a) = refl
linked_class (link s a b m ma mb) = class_joins (λ c. c) a b m ma mb
linked_class (back l) = sym (linked_class l)
linked_class (chain l k) = linked_class l ∙ linked_class k

-- where equal numbers mean linked coordinates, merging links of the list keeps it so
pub class_from_linked : (links : List (List ℕ)) (f : ℕ → ℕ) (ss : List (List ℕ)) → ((s : List ℕ) → Memᴰ s ss → Memᴰ s links)
    → ((a b : ℕ) → f a ≡ f b → Linked links a b) → (a b : ℕ) → class_from f ss a ≡ class_from f ss b → Linked links a b
class_from_linked links f [] among h a b e = h a b e
class_from_linked links f (s ∷ ss) among h a b e =
    class_from_linked links (merged f s) ss (λ l m. among l (Memᴰ.tail m))
    (λ c d q. ⊎_elim
    (h c d)
    (λ t. chain (h c t.0.0 t.0.2)
    (chain (link s t.0.0 t.1.0 (among s (Memᴰ.head refl)) t.0.1 t.1.1) (back (h d t.1.0 t.1.2))))
    (merged_splits f s c d q))
    a b e

-- two coordinates have one class just where links join them
pub class_linked : (links : List (List ℕ)) (a b : ℕ) → (class_of links a ≡ class_of links b) ↔ Linked links a b
unfolding class_of
class_linked links a b = (
  class_from_linked links (λ c. c) links (λ s m. m) (λ c d e. subst (λ (n : ℕ). Linked links c n) e (itself c)) a b,
  λ l. linked_class l,
)

-- ---- bounds

-- every entry of a support is below n
abbrev pub Below : ℕ → List (List ℕ) → Type 0
Below n links = (s : List ℕ) → Memᴰ s links → (a : ℕ) → Member a s → a < n

-- numbers below n have classes below n, and the others are alone in theirs
pub record Bounded (n : ℕ) (f : ℕ → ℕ) : Type 0 where
  pub inside : (c : ℕ) → c < n → f c < n
  pub outside : (c : ℕ) → n ≤ c → f c ≡ c

-- a support with entries below n keeps this
pub merged_bounded : (n : ℕ) (f : ℕ → ℕ) (s : List ℕ) → Bounded n f → ((a : ℕ) → Member a s → a < n) → Bounded n (merged f s)
merged_bounded n f [] h below = h
merged_bounded n f (x ∷ s) h below = record {
  inside = λ c l. ⊎_elim
      (λ t. subst (λ (v : ℕ). v < n) (sym (merged_touched f x s c t)) (h.inside x (below x (member_head x s))))
      (λ u. subst (λ (v : ℕ). v < n) (sym (merged_untouched f (x ∷ s) c u)) (h.inside c l))
      (touches_or_not f (x ∷ s) c);
  outside = λ c l. merged_untouched f (x ∷ s) c
      (λ t. let e = h.outside c l in let i = h.inside t.0 (below t.0 t.1) in omega (arith, t.2)) ∙ h.outside c l;
}

-- and so do all supports
pub class_bounded : (n : ℕ) (f : ℕ → ℕ) (ss : List (List ℕ)) → Bounded n f → Below n ss → Bounded n (class_from f ss)
class_bounded n f [] h below = h
class_bounded n f (s ∷ ss) h below =
    class_bounded n (merged f s) ss (merged_bounded n f s h (below s (Memᴰ.head refl))) (λ l m. below l (Memᴰ.tail m))

-- the class of a number below n is below n
pub class_below : (links : List (List ℕ)) (n : ℕ) → Below n links → (c : ℕ) → c < n → class_of links c < n
unfolding class_of
class_below links n below = (class_bounded n (λ c. c) links (record { inside = λ c l. l; outside = λ c l. refl }) below).inside

-- that of any other is itself
pub class_above : (links : List (List ℕ)) (n : ℕ) → Below n links → (c : ℕ) → n ≤ c → class_of links c ≡ c
unfolding class_of
class_above links n below = (class_bounded n (λ c. c) links (record { inside = λ c l. l; outside = λ c l. refl }) below).outside
