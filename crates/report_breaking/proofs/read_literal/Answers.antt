-- `report_breaking::read_literal` meets its contract, by whether the literal and its complement fail.
use mathlib.Core.Bool.{Bool, or-false}
use mathlib.Core.List.{List, [], ◌∷◌, ◌++◌}
use mathlib.Core.Logic.{⊎_elim}
use mathlib.Core.Path.{◌≡◌, refl, sym, subst, ◌∙◌}
use Prim.Native.Nat.{ℕ, ◌+◌, ◌*◌, ◌<◌}
use native.Mathlib.Numerals.{add-one}
use native.Mathlib.Omega.{arith}
use borrow.Author.Tests.{eqb-true}
use lib.Dec.{eqb}
use lib.ListN.{length, get_or, take, drop, set, length-append, drop_of_length-le}
use lib.Seq.{length-take-le, take-take, take-suc-set, take_at, drop_at}
use Rattle.model.specs.Limits.{most_literals}
use Rattle.theory_forms.specs.Logic.{or_split}
use Rattle.report_breaking.specs.Breaking.{opposite}
use Rattle.report_breaking.specs.Stacks.{among, InTable, bottom, tried, Made}
use Rattle.report_breaking.proofs.Among.{among_last}
use Rattle.report_breaking.proofs.Groups.{makes_failing, makes_standing}
use Rattle.report_breaking.proofs.Tried.{opposite_below, fails_anyway, never_asked, asked}
use Rattle.report_breaking.proofs.read_literal.Goals as goal

module _ (places t : List ℕ) (p end : ℕ) (room : end < length places) (inside : InTable (take end places))
    (small : p < most_literals) (wide : length t ≡ most_literals) where
  -- Whether the literal fails, where another one does.
  abbrev value : ℕ → Bool
  value q = eqb (get_or (tried t q) p 0) 1

  long : length (take end places) ≡ end
  long = length-take-le end places (omega arith)

  base_is : end ≡ bottom (length (take end places)) []
  unfolding bottom
  base_is = sym long

  falls : get_or t p 0 ≡ 1 → Made value (take end places) [] (take end places) (2 * end + 1)
  falls h =
      subst (λ l. Made value (take end places) [] l (2 * end + 1)) (take-take end end places (omega arith))
      (makes_failing value (take end places) [] tt inside base_is (λ q. fails_anyway t q p (omega arith) h))

  unasked : (get_or t p 0 ≡ 1 → ⊥) → get_or t (opposite p) 0 ≡ 1 → Made value (take end places) [] (take end places) (2 * end)
  unfolding among
  unasked d h =
      let none : drop end (take end places) ≡ [] = drop_of_length-le (take end places) {i = end} (omega (arith, long)) in
      makes_standing value (take end places) [] tt inside base_is (take end places) (omega (arith, long)) refl inside
      (λ q. rw none (sym (never_asked t q p (omega arith) d h)))

  -- The literal is put after those before it.
  more : take (end + 1) (set places end p) ≡ take end places ++ (p ∷ [])
  more = rw (add-one end) (take-suc-set places end p room)

  more_inside : InTable (take end places ++ (p ∷ []))
  more_inside x h = ⊎_elim
      (inside x)
      (λ e. rw (eqb-true x p e) small)
      (or_split (among x (take end places)) (eqb x p) (sym (among_last x p (take end places)) ∙ h))

  added : (get_or t p 0 ≡ 1 → ⊥) → (get_or t (opposite p) 0 ≡ 1 → ⊥) →
      Made value (take end places) [] (take (end + 1) (set places end p)) (2 * end)
  unfolding among
  added d h =
      rw more
      (makes_standing value (take end places) [] tt inside base_is (take end places ++ (p ∷ []))
      (omega (arith, long, length-append (take end places) (p ∷ [])))
      (take_at (take end places) (p ∷ []) end long ∙ sym (take-take end end places (omega arith)))
      more_inside
      (λ q. rw (drop_at (take end places) (p ∷ []) end long) (or-false (eqb q p) ∙ sym (asked t q p (omega arith) d h))))

pub returns-then-failed-place-eq1 : goal.returns-then-failed-place-eq1
returns-then-failed-place-eq1 c =
    let l = c.requires.place_lt_most_literals in
    let e = c.requires.end_in_bounds in
    let g = c.args in
    rw (c.failing.ensures.0, c.failing.ensures.1)
    record {
      made = falls g.places.now g.failed.now g.place g.end e.0 e.2 l.0 l.1 c.if-failed-place-eq1.true;
      end_bound = omega arith;
    }

pub bounds-failed-opposite_of : goal.bounds-failed-opposite_of
bounds-failed-opposite_of c =
    let p = c.requires in
    omega (arith, c.opposite_of.ensures, opposite_below c.args.place p.place_lt_most_literals.0)

pub returns-then-failed-opposite_of-eq1 : goal.returns-then-failed-opposite_of-eq1
returns-then-failed-opposite_of-eq1 c =
    let l = c.requires.place_lt_most_literals in
    let e = c.requires.end_in_bounds in
    let g = c.args in
    let o = c.opposite_of.ensures in
    rw (c.standing.ensures.0, c.standing.ensures.1)
    record {
      made = unasked g.places.now g.failed.now g.place g.end e.0 e.2 l.0 l.1 c.if-failed-place-eq1.false (rw o at c.if-failed-opposite_of-eq1.true);
      end_bound = omega arith;
    }

pub returns-else-failed-opposite_of-eq1 : goal.returns-else-failed-opposite_of-eq1
returns-else-failed-opposite_of-eq1 c =
    let l = c.requires.place_lt_most_literals in
    let e = c.requires.end_in_bounds in
    let g = c.args in
    let o = c.opposite_of.ensures in
    let tree = c.standing-else-failed-opposite_of-eq1 in
    rw (tree.ensures.0, tree.ensures.1)
    record {
      made = added g.places.now g.failed.now g.place g.end e.0 e.2 l.0 l.1 c.if-failed-place-eq1.false (rw o at c.if-failed-opposite_of-eq1.false);
      end_bound = omega arith;
    }
