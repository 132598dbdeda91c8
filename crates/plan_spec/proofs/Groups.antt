-- 02, CR 7: the group list goes through the components in the order of their numbers and passes over those without members. So the numbers of its groups ascend, and as
-- the components are looked through one after the other, the reader's place in the words and the count of live components go along.
use mathlib.Core.Path.{◌≡◌, refl, sym, ap, ap₂, ◌∙◌, subst, subst₂}
use mathlib.Core.Logic.{⊎_elim}
use mathlib.Core.List.{List, [], ◌∷◌, ◌++◌, map, append_assoc, append-nil}
use Prim.Native.Nat.{ℕ, zero, suc, ◌+◌, ◌-◌, ◌≤◌}
use native.Mathlib.Omega.{arith}
use lib.ListN.{length, get_or, take, drop, replicate}
use lib.Seq.{get_or-drop, drop-drop, take-append_seam, drop-append_seam}
use Rattle.refusals.specs.Answer.{completed}
use Rattle.words.proofs.Numbers.{same_or_not}
use Rattle.words.proofs.Padded.{zeros_at}
use Rattle.records.specs.Record.{instructions_of}
use Rattle.records.specs.declared.Head.{Head}
use Rattle.records.specs.declared.Instruction.{Instruction}
use Rattle.plan_spec.specs.Lists.{concat}
use Rattle.plan_spec.specs.Components.{members_of}
use Rattle.plan_spec.specs.Walk.{Walk, start}
use Rattle.plan_spec.specs.Plan.{Lengths, Plan, groups_of, plan_from, plan_of}
use Rattle.plan_spec.specs.Connectivity.{Member, Replayed, active_start, replay_after}
use Rattle.plan_spec.specs.Sources.{IsAscending, none, more}
use Rattle.plan_spec.specs.Groups.{IsLive, group_of, group_start, group_count, group_members, live_count, live_below, GroupsListed}
use Rattle.plan_spec.proofs.Counting.{member_head, member_tail, member_cons}
use Rattle.plan_spec.proofs.Ascending.{ascending_same}
use Rattle.plan_spec.proofs.Steps.{Run}
use Rattle.plan_spec.proofs.Growth.{grown_refl}
use Rattle.plan_spec.proofs.Tracking.{start_tracked}
use Rattle.plan_spec.proofs.Replay.{run_replay, start_replay}
use Rattle.plan_spec.proofs.Accepted.{Accepted, accepted}
use Rattle.plan_spec.proofs.Connected.{rotations_wide, measurements_wide, start_steps, read_head}
use Rattle.plan_spec.proofs.Padded.{Pads, accepted_names, after_same}

-- ---- the numbers of the components that have members

-- those of the list's components, the first of which has the number n
abbrev numbers_of : ℕ → List (List ℕ) → List ℕ
numbers_of n [] = []
numbers_of n ([] ∷ cs) = numbers_of (suc n) cs
numbers_of n ((a ∷ m) ∷ cs) = n ∷ numbers_of (suc n) cs

-- the components from n on are the list's
abbrev From : Replayed → ℕ → List (List ℕ) → Type 0
From b n cs = (i : ℕ) → b (n + i) ≡ members_of cs i

from_here : (b : Replayed) (n : ℕ) (m : List ℕ) (cs : List (List ℕ)) → From b n (m ∷ cs) → b n ≡ m
from_here b n m cs same = ap b (omega arith) ∙ same 0

from_next : (b : Replayed) (n : ℕ) (m : List ℕ) (cs : List (List ℕ)) → From b n (m ∷ cs) → From b (suc n) cs
from_next b n m cs same i = ap b (omega arith) ∙ same (suc i)

-- a number that is listed is that of a component with members
number_live : (b : Replayed) (n : ℕ) (cs : List (List ℕ)) → From b n cs → (c : ℕ) → Member c (numbers_of n cs) → (n ≤ c) × IsLive b c
number_live b n [] same c h = absurd (omega arith)
number_live b n ([] ∷ cs) same c h = let r = number_live b (suc n) cs (from_next b n [] cs same) c h in (omega (arith, r.0), r.1)
number_live b n ((a ∷ m) ∷ cs) same c h =
    ⊎_elim
    (λ e. let l = ap length (ap b e ∙ from_here b n (a ∷ m) cs same) in (omega arith, omega arith))
    (λ k. let r = number_live b (suc n) cs (from_next b n (a ∷ m) cs same) c k in (omega (arith, r.0), r.1))
    (member_cons c n (numbers_of (suc n) cs) h)

-- and that of each from n on is listed
live_number : (b : Replayed) (n : ℕ) (cs : List (List ℕ)) → From b n cs → (c : ℕ) → n ≤ c → IsLive b c → Member c (numbers_of n cs)
live_number b n [] same c h live =
    let e : b c ≡ [] = ap b (omega arith) ∙ same (c - n) in let l = ap length e in absurd (omega arith)
live_number b n ([] ∷ cs) same c h live =
    ⊎_elim
    (λ e. let l = ap length (ap b e ∙ from_here b n [] cs same) in absurd (omega arith))
    (λ k. live_number b (suc n) cs (from_next b n [] cs same) c (omega (arith, k)) live)
    (same_or_not c n)
live_number b n ((a ∷ m) ∷ cs) same c h live =
    ⊎_elim
    (λ e. subst (λ (k : ℕ). Member k (n ∷ numbers_of (suc n) cs)) (sym e) (member_head n (numbers_of (suc n) cs)))
    (λ k. member_tail c n (numbers_of (suc n) cs) (live_number b (suc n) cs (from_next b n (a ∷ m) cs same) c (omega (arith, k)) live))
    (same_or_not c n)

numbers_ascend : (b : Replayed) (n : ℕ) (cs : List (List ℕ)) → From b n cs → IsAscending (numbers_of n cs)
numbers_ascend b n [] same = none
numbers_ascend b n ([] ∷ cs) same = numbers_ascend b (suc n) cs (from_next b n [] cs same)
numbers_ascend b n ((a ∷ m) ∷ cs) same =
    let next = from_next b n (a ∷ m) cs same in
    more (λ c h. let r = number_live b (suc n) cs next c h in omega (arith, r.0)) (numbers_ascend b (suc n) cs next)

-- the group list has a group for each of them
groups_are : (b : Replayed) (n : ℕ) (cs : List (List ℕ)) → From b n cs → groups_of cs ≡ concat (map (λ c. group_of (b c)) (numbers_of n cs))
groups_are b n [] same = refl
groups_are b n ([] ∷ cs) same = groups_are b (suc n) cs (from_next b n [] cs same)
groups_are b n ((a ∷ m) ∷ cs) same =
    ap₂ (λ (here rest : List ℕ). group_of here ++ rest) (sym (from_here b n (a ∷ m) cs same)) (groups_are b (suc n) cs (from_next b n (a ∷ m) cs same))

-- ---- the list as it is read

-- one more live component, or none
live_empty : (b : Replayed) (n : ℕ) → b n ≡ [] → live_below b (suc n) ≡ live_below b n
live_empty b n e =
    let f : live_below b (suc n) ≡ live_below b n + 0 = ap (λ (m : List ℕ). live_below b n + live_count m) e in omega arith

live_one : (b : Replayed) (n a : ℕ) (m : List ℕ) → b n ≡ a ∷ m → live_below b (suc n) ≡ suc (live_below b n)
live_one b n a m e =
    let f : live_below b (suc n) ≡ live_below b n + 1 = ap (λ (l : List ℕ). live_below b n + live_count l) e in omega arith

-- the group at a place is read there
group_here : (words m rest : List ℕ) (i : ℕ) → drop (group_start words i) words ≡ group_of m ++ rest
    → (group_count words i ≡ length m) × (group_members words i ≡ m) × (drop (group_start words (suc i)) words ≡ rest)
group_here words m rest i e =
    let at = group_start words i in
    let first : get_or words (at + 0) 0 ≡ length m = sym (get_or-drop at words 0 0) ∙ ap (λ (l : List ℕ). get_or l 0 0) e in
    let count : get_or words at 0 ≡ length m = ap (λ (k : ℕ). get_or words k 0) {x = at} {y = at + 0} (omega arith) ∙ first in
    let second : drop (at + 1) words ≡ m ++ rest = sym (drop-drop 1 at words) ∙ ap (drop 1) e in
    let behind : drop (suc at) words ≡ m ++ rest = ap (λ (k : ℕ). drop k words) {x = suc at} {y = at + 1} (omega arith) ∙ second in
    let next : at + suc (get_or words at 0) ≡ suc at + length m = omega arith in (
      count,
      ap₂ (λ (n : ℕ) (l : List ℕ). take n l) count behind ∙ take-append_seam m rest,
      ap (λ (k : ℕ). drop k words) next ∙ sym (drop-drop (length m) (suc at) words) ∙ ap (drop (length m)) behind ∙ drop-append_seam m rest,
    )

-- each component with members is read at its count of live ones below it
component_read : (b : Replayed) (words rest : List ℕ) (n : ℕ) (cs : List (List ℕ)) → From b n cs
    → drop (group_start words (live_below b n)) words ≡ groups_of cs ++ rest
    → (c : ℕ) → n ≤ c → IsLive b c → (group_count words (live_below b c) ≡ length (b c)) × (group_members words (live_below b c) ≡ b c)
component_read b words rest n [] same at c h live =
    let e : b c ≡ [] = ap b (omega arith) ∙ same (c - n) in let l = ap length e in absurd (omega arith)
component_read b words rest n ([] ∷ cs) same at c h live =
    let here = from_here b n [] cs same in
    ⊎_elim
    (λ e. let l = ap length (ap b e ∙ here) in absurd (omega arith))
    (λ k. component_read b words rest (suc n) cs (from_next b n [] cs same)
    (ap (λ (i : ℕ). drop (group_start words i) words) (live_empty b n here) ∙ at) c (omega (arith, k)) live)
    (same_or_not c n)
component_read b words rest n ((a ∷ m) ∷ cs) same at c h live =
    let here = from_here b n (a ∷ m) cs same in
    let read = group_here words (a ∷ m) (groups_of cs ++ rest) (live_below b n) (at ∙ append_assoc (group_of (a ∷ m)) (groups_of cs) rest) in
    ⊎_elim
    (λ e. subst (λ (k : ℕ). (group_count words (live_below b k) ≡ length (b k)) × (group_members words (live_below b k) ≡ b k)) (sym e)
    (read.0 ∙ sym (ap length here), read.1 ∙ sym here))
    (λ k. component_read b words rest (suc n) cs (from_next b n (a ∷ m) cs same)
    (ap (λ (i : ℕ). drop (group_start words i) words) (live_one b n a m here) ∙ read.2) c (omega (arith, k)) live)
    (same_or_not c n)

-- where zeros follow, the count that is read is zero, and zeros follow the next one
zeros_here : (words : List ℕ) (n i : ℕ) → drop (group_start words i) words ≡ replicate n 0
    → (group_count words i ≡ 0) × (drop (group_start words (suc i)) words ≡ replicate (n - 1) 0)
zeros_here words n i at =
    let start = group_start words i in
    let count : get_or words (start + 0) 0 ≡ 0 = sym (get_or-drop start words 0 0) ∙ ap (λ (l : List ℕ). get_or l 0 0) at ∙ zeros_at n 0 in
    let here : get_or words start 0 ≡ 0 = ap (λ (k : ℕ). get_or words k 0) {x = start} {y = start + 0} (omega arith) ∙ count in
    let next : start + suc (get_or words start 0) ≡ start + 1 = omega arith in
    (here, ap (λ (k : ℕ). drop k words) next ∙ sym (drop-drop 1 start words) ∙ ap (drop 1) at ∙ one_less n)
  where
    one_less : (n : ℕ) → drop 1 (replicate {A = ℕ} n 0) ≡ replicate (n - 1) 0
    one_less zero = refl
    one_less (suc n) = ap (λ (k : ℕ). replicate k 0) {x = n} {y = suc n - 1} (omega arith)

-- so every further count is zero
zeros_read : (words : List ℕ) (n i k : ℕ) → drop (group_start words i) words ≡ replicate n 0 → group_count words (i + k) ≡ 0
zeros_read words n i zero at = ap (group_count words) {x = i + 0} {y = i} (omega arith) ∙ (zeros_here words n i at).0
zeros_read words n i (suc k) at =
    ap (group_count words) {x = i + suc k} {y = suc i + k} (omega arith) ∙ zeros_read words (n - 1) (suc i) k (zeros_here words n i at).1

-- and behind the last group there is none
none_behind : (b : Replayed) (words : List ℕ) (zeros n : ℕ) (cs : List (List ℕ)) → From b n cs
    → drop (group_start words (live_below b n)) words ≡ groups_of cs ++ replicate zeros 0
    → (i : ℕ) → live_below b n + length (numbers_of n cs) ≤ i → group_count words i ≡ 0
none_behind b words left n [] same at i h =
    let now = live_below b n in ap (group_count words) {x = i} {y = now + (i - now)} (omega arith) ∙ zeros_read words left now (i - now) at
none_behind b words left n ([] ∷ cs) same at i h =
    let e = live_empty b n (from_here b n [] cs same) in
    none_behind b words left (suc n) cs (from_next b n [] cs same) (ap (λ (j : ℕ). drop (group_start words j) words) e ∙ at) i (omega (arith, e, h))
none_behind b words left n ((a ∷ m) ∷ cs) same at i h =
    let e = live_one b n a m (from_here b n (a ∷ m) cs same) in
    let read = group_here words (a ∷ m) (groups_of cs ++ replicate left 0) (live_below b n) (at ∙ append_assoc (group_of (a ∷ m)) (groups_of cs) (replicate left 0)) in
    none_behind b words left (suc n) cs (from_next b n (a ∷ m) cs same) (ap (λ (j : ℕ). drop (group_start words j) words) e ∙ read.2) i (omega (arith, e, h))

-- ---- the claim

-- the group list of components that are listed by their numbers, with zeros behind it
groups_listed : (b : Replayed) (cs : List (List ℕ)) (zeros : ℕ) → ((c : ℕ) → b c ≡ members_of cs c) → GroupsListed b zeros (groups_of cs ++ replicate zeros 0)
groups_listed b cs n same =
    let words = groups_of cs ++ replicate n 0 in
    let from : From b 0 cs = λ i. ap b (omega arith) ∙ same i in record {
      numbers = numbers_of 0 cs;
      live = λ c. (λ h. (number_live b 0 cs from c h).1, λ h. live_number b 0 cs from c (omega arith) h);
      ascending = numbers_ascend b 0 cs from;
      listed = ap (λ (l : List ℕ). l ++ replicate n 0) (groups_are b 0 cs from);
      counted = λ c h. (component_read b words (replicate n 0) 0 cs from refl c (omega arith) h).0;
      same = λ c h. (component_read b words (replicate n 0) 0 cs from refl c (omega arith) h).1;
      ends = λ i h. none_behind b words n 0 cs from refl i (omega arith);
    }

-- of a run's plan: the replay comes to the walk's last components
run_groups : (limit k dense_peak : ℕ) (is : List Instruction) (u : Walk) → Run limit (start k) is u → (zeros : ℕ)
    → GroupsListed (replay_after (plan_from k dense_peak u) (length is)) zeros ((plan_from k dense_peak u).groups ++ replicate zeros 0)
unfolding plan_from
run_groups limit k dense_peak is u run n =
    let wide = rotations_wide limit k dense_peak is u run in
    let long = measurements_wide limit k dense_peak is u run in
    let steps = start_steps limit k dense_peak is u run in
    let replay = run_replay k dense_peak u wide long 0 (active_start k) run (grown_refl u.written) steps (start_tracked k) (start_replay k dense_peak u wide long) in
    groups_listed (replay_after (plan_from k dense_peak u) (length is)) u.components n
    (λ c. ap (λ (m : ℕ). replay_after (plan_from k dense_peak u) m c) {x = length is} {y = 0 + length is} (omega arith) ∙ replay c)

-- of an accepted plan, with any number of zeros behind its groups
accepted_groups : (h : Head) (ws : List ℕ) (l : Lengths) (p : Plan) → Accepted h ws l p → (zeros : ℕ)
    → GroupsListed (replay_after p (length (instructions_of ws))) zeros (p.groups ++ replicate zeros 0)
accepted_groups h ws l p a n =
    subst (λ (q : Plan). GroupsListed (replay_after q (length (instructions_of ws))) n (q.groups ++ replicate n 0)) (sym a.plan_is)
    (run_groups h.ceiling h.initial_k a.dense_peak (instructions_of ws) a.last a.run n)

-- CR 7 for every accepted program that was read
pub groups_in_order : (h : Head) (ws : List ℕ) (l : Lengths) (p : Plan) → plan_of h ws l ≡ completed p → 8 ≤ h.max_k → h.nexpvals ≡ 0
    → GroupsListed (replay_after p (length (instructions_of ws))) 0 p.groups
groups_in_order h ws l p e wide none_read =
    subst (λ (words : List ℕ). GroupsListed (replay_after p (length (instructions_of ws))) 0 words) (append-nil p.groups)
    (accepted_groups h ws l p (accepted h ws l p (read_head h wide none_read) e) 0)

-- and for its words followed by zeros
pub groups_padded : (h : Head) (ws : List ℕ) (l : Lengths) (p q : Plan) → Accepted h ws l p → Pads p q → (zeros : ℕ) → q.groups ≡ p.groups ++ replicate zeros 0
    → GroupsListed (replay_after q (length (instructions_of ws))) zeros q.groups
groups_padded h ws l p q a pads n e =
    subst₂ (λ (b : Replayed) (words : List ℕ). GroupsListed b n words) (sym (after_same p q pads (length (instructions_of ws)) (accepted_names a))) (sym e)
    (accepted_groups h ws l p a n)

-- one list only is the group list of these components
pub groups_unique : (b : Replayed) (zeros : ℕ) (xs ys : List ℕ) → GroupsListed b zeros xs → GroupsListed b zeros ys → xs ≡ ys
groups_unique b n xs ys g f =
    let numbers : g.numbers ≡ f.numbers =
    ascending_same g.numbers f.numbers g.ascending f.ascending (λ c h. (f.live c).1 ((g.live c).0 h)) (λ c h. (g.live c).1 ((f.live c).0 h)) in
    g.listed ∙ ap (λ (l : List ℕ). concat (map (λ c. group_of (b c)) l) ++ replicate n 0) numbers ∙ sym f.listed
