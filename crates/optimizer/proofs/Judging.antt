-- What a call gives is decided by four answers in turn: the form, an expectation value, a prefix beyond the list, and the first odd rotation.
use Rattle.std.proofs.Common.{◌≡◌, ℕ, ◌*◌, ◌/◌, ◌%◌, Bool, true, cond, List, length, refl, sym}
use Rattle.std.specs.Prelude.{not, leb, ltb, eqb, Option}
use Rattle.std.specs.List.{list_any, position_from}
use borrow.Author.Tests.{eqb-true, leb-true, ltb-true}
use mathlib.Core.Path.{◌∙◌}
use Rattle.refusals.specs.Answer.{Outcome, completed, refused_at}
use Rattle.pending.specs.Operation.{operations_of, is_expectation}
use Rattle.pending.specs.Form.{form_fits}
use Rattle.optimizer_spec.specs.Optimizing.{Optimized, refuse_at, as_it_is, in_segments, is_odd_rotation, outcome_of}
use Rattle.optimizer.specs.declared.checks.Verdict.{Verdict}
use Rattle.optimizer.proofs.Laws.{both_front, both_behind}
use Rattle.optimizer.specs.Answer.{PrefixesInside, Sound}

-- the outcome by the four answers
abbrev pub decided : (words prefixes : List ℕ) → (form expectation beyond : Bool) → (odd : Option ℕ) → (Outcome Optimized)
decided words prefixes form expectation beyond odd =
    let os = operations_of words in
    cond (not form) (refused_at 26 0)
    (cond expectation (completed (as_it_is os))
    (cond beyond (refused_at 27 0)
    (refuse_at odd 28
    (completed (in_segments os prefixes)))))

module _ (width : ℕ) (words prefixes : List ℕ) (optimized_len map_len : ℕ) where
  abbrev pub form : Bool
  form = form_fits width words prefixes optimized_len map_len

  abbrev pub expectation : Bool
  expectation = list_any is_expectation (operations_of words)

  abbrev pub beyond : Bool
  beyond = list_any (ltb (length (operations_of words))) prefixes

  abbrev pub odd : Option ℕ
  odd = position_from is_odd_rotation 0 (operations_of words)

  pub is_decided : outcome_of width words prefixes optimized_len map_len ≡ decided words prefixes form expectation beyond odd
  unfolding outcome_of
  is_decided = refl

  pub by_answers : (f e b : Bool) (o : Option ℕ) → form ≡ f → expectation ≡ e → beyond ≡ b → odd ≡ o →
      decided words prefixes f e b o ≡ outcome_of width words prefixes optimized_len map_len
  by_answers f e b o form_is expectation_is beyond_is odd_is =
      sym (is_decided ∙ λ i. decided words prefixes (form_is i) (expectation_is i) (beyond_is i) (odd_is i))

  -- what the form says
  pub sound : (verdict : Verdict) → form ≡ true → PrefixesInside verdict (length words / 32) prefixes → Sound width words prefixes optimized_len map_len verdict
  unfolding form_fits
  sound verdict form_is inside =
      let no_wider = both_behind (leb 1 width) _ form_is in
      let whole = both_behind (leb width 64) _ no_wider in
      let few = both_behind (eqb (length words % 32) 0) _ whole in
      let few_prefixes = both_behind (leb (length words) (32 * 1024)) _ few in
      let room = both_behind (leb (length prefixes) 1024) _ few_prefixes in
      let map_room = both_behind (leb (length words) optimized_len) _ room in
      let fit = both_behind (ltb (length words / 32) map_len) _ map_room in
      record {
        whole = eqb-true (length words % 32) 0 (both_front _ _ whole);
        few = leb-true (length words) (32 * 1024) (both_front _ _ few);
        room = leb-true (length words) optimized_len (both_front _ _ room);
        map_room = ltb-true (length words / 32) map_len (both_front _ _ map_room);
        fit = fit;
        inside = inside;
      }
