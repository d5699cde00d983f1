-- A p line by the tests of its bytes one after another, from the place where it begins.
use mathlib.Core.Bool.{Bool, true, false, ◌&&◌}
use mathlib.Core.List.{List, [], ◌∷◌}
use mathlib.Core.Logic.{⊎_elim}
use mathlib.Core.Path.{◌≡◌, refl, sym, ap, ◌∙◌}
use Prim.Native.Nat.{ℕ, ◌+◌, ◌-◌, ◌≤◌}
use native.Mathlib.Omega.{arith}
use borrow.Author.Tests.{eq-eqb, eqb-true, ne_eqb, leb-true, leb-false}
use lib.Dec.{eqb, leb}
use lib.ListN.{length, get_or, take, drop, length-drop, get_or-eq_default}
use lib.Seq.{drop-drop, take_all}
use Rattle.std.specs.Prelude.{nat_eq}
use Rattle.std.specs.Cmp.Lexicographic.{pointwise}
use Rattle.std.specs.List.{starts_with}
use Rattle.common_lists.proofs.Lent.{lent_part}
use Rattle.model.specs.Base.{same_list}
use Rattle.texts.specs.Decimals.{is_decimal}
use Rattle.theory_forms.specs.Logic.{either, same_test}
use Rattle.theory_forms.specs.Placed.{same_list_is}
use Rattle.theory_texts.specs.Figures.{run}
use Rattle.theory_texts.specs.WordKinds.{digits_of, past_digits}
use Rattle.theory_texts.specs.PLines.{ends_line, first_number, second_number, has_p_line}
use Rattle.theory_texts.specs.FromPlaces.{digits_between, rest_after}
use Rattle.import_bytes.proofs.Places.{first_here}
use Rattle.import_head.specs.Heads.{rest_good}

abbrev pub p_cnf : List ℕ
p_cnf = 112 ∷ 32 ∷ 99 ∷ 110 ∷ 102 ∷ 32 ∷ []

and_false : (b : Bool) → (b && false) ≡ false
and_false true = refl
and_false false = refl

-- Whether a list is what another one begins with, as `starts_with` tells it.
eqb_sym : (x y : ℕ) → eqb x y ≡ eqb y x
eqb_sym x y = same_test (eqb x y) (eqb y x) (λ e. eq-eqb y x (sym (eqb-true x y e))) (λ e. eq-eqb x y (sym (eqb-true y x e)))

pointwise_same : (p b : List ℕ) → pointwise nat_eq p b ≡ same_list b p
unfolding same_list
pointwise_same [] [] = refl
pointwise_same [] (y ∷ b) = refl
pointwise_same (x ∷ p) [] = refl
pointwise_same (x ∷ p) (y ∷ b) = rw (eqb_sym x y, pointwise_same p b)

module _ (l : List ℕ) (at : ℕ) where
  abbrev pub front : Bool
  front = same_list (take 6 (drop at l)) p_cnf

  -- The bytes that a p line begins with, in what is lent of the text.
  pub lent_front : starts_with nat_eq (take (length l - at) (drop at l)) p_cnf ≡ front
  lent_front = ap (λ b. starts_with nat_eq b p_cnf) (lent_part at l) ∙ pointwise_same p_cnf (take 6 (drop at l))

  pub front_within : at ≤ length l → front ≡ true → at + 6 ≤ length l
  front_within h e =
      let six = ap length ((same_list_is (take 6 (drop at l)) p_cnf).0 e) in
      let left = length-drop at l in
      ⊎_elim
      (λ k. let m = leb-true 6 (length (drop at l)) k in omega arith)
      (λ k.
      let m = leb-false 6 (length (drop at l)) k in
      absurd (omega (arith, six, ap length (take_all 6 (drop at l) (omega arith)))))
      (either (leb 6 (length (drop at l))))

  module _ (end : ℕ) (far : end ≡ at + 6 + run (drop (at + 6) l)) where
    options_here : first_number (drop at l) ≡ drop (at + 6) l
    unfolding first_number
    options_here = drop-drop 6 at l

    after_options : past_digits (first_number (drop at l)) ≡ drop end l
    after_options = ap past_digits options_here ∙ sym (rest_after l (at + 6) end far)

    clauses_here : second_number (drop at l) ≡ drop (end + 1) l
    unfolding second_number
    clauses_here = ap (drop 1) after_options ∙ drop-drop 1 end l

    -- All tests, at their places.
    pub options_there : digits_of (drop (at + 6) l) ≡ take (end - (at + 6)) (drop (at + 6) l)
    options_there = sym (digits_between l (at + 6) end far)

    all_tests : has_p_line (drop at l) ≡ (front && (is_decimal (digits_of (drop (at + 6) l)) && rest_good l end))
    unfolding has_p_line rest_good
    all_tests =
        let space : get_or (past_digits (drop (at + 6) l)) 0 0 ≡ get_or l end 0 =
        ap (λ b. get_or b 0 0) (sym (rest_after l (at + 6) end far)) ∙ first_here l end in
        rw (options_here, clauses_here, space)

    pub no_options : is_decimal (take (end - (at + 6)) (drop (at + 6) l)) ≡ false → has_p_line (drop at l) ≡ false
    no_options e = all_tests ∙ rw (options_there, e) (and_false front)

    pub by_rest :
        front ≡ true →
        is_decimal (take (end - (at + 6)) (drop (at + 6) l)) ≡ true →
        has_p_line (drop at l) ≡ rest_good l end
    by_rest f e = all_tests ∙ rw (f, options_there, e)

  pub no_front : front ≡ false → has_p_line (drop at l) ≡ false
  no_front e = all_tests (at + 6 + run (drop (at + 6) l)) refl ∙ rw e

-- What stands after V's digits, by its tests.
module _ (l : List ℕ) (space : ℕ) where
  pub no_space : (get_or l space 0 ≡ 32 → ⊥) → rest_good l space ≡ false
  unfolding rest_good
  no_space n = rw (ne_eqb (get_or l space 0) 32 n)

  pub no_more : length l ≤ space → rest_good l space ≡ false
  no_more h = no_space (λ e. let z = get_or-eq_default l 0 {n = space} h in absurd (omega (arith, e, z)))

  module _ (s : get_or l space 0 ≡ 32) (last : ℕ) (far : last ≡ space + 1 + run (drop (space + 1) l)) where
    pub clauses_there : digits_of (drop (space + 1) l) ≡ take (last - (space + 1)) (drop (space + 1) l)
    clauses_there = sym (digits_between l (space + 1) last far)

    pub no_clauses : is_decimal (take (last - (space + 1)) (drop (space + 1) l)) ≡ false → rest_good l space ≡ false
    unfolding rest_good
    no_clauses e = rw (eq-eqb (get_or l space 0) 32 s, clauses_there, e)

    pub by_end : is_decimal (take (last - (space + 1)) (drop (space + 1) l)) ≡ true → rest_good l space ≡ ends_line (drop last l)
    unfolding rest_good
    by_end e = rw (eq-eqb (get_or l space 0) 32 s, clauses_there, e, rest_after l (space + 1) last far)
