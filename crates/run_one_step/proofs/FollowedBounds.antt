-- The bounds after a step: the table renewed, and under rules 9 and 10 set back where a child is a constant.
use mathlib.Core.List.{List}
use mathlib.Core.Logic.{◌⊎◌, inl, inr, ⊎_elim}
use mathlib.Core.Path.{◌≡◌, ap, ◌∙◌}
use Prim.Native.Nat.{ℕ, ◌+◌, ◌≤◌, ◌<◌}
use native.Mathlib.Omega.{arith}
use borrow.Author.Tests.{eqb-true, eqb-false}
use lib.Dec.{eqb}
use lib.ListN.{get_or}
use Rattle.model.specs.Code.{Node}
use Rattle.theory_forms.specs.Logic.{either}
use Rattle.run_bounds_after.specs.declared.Plan.{Plan}
use Rattle.run_bounds_after.specs.Renewed.{Planned, Apart, Renewed}
use Rattle.run_bounds_after.specs.SetBack.{SetBack}
use Rattle.run_one_step.specs.Followed.{Spared, Followed}

-- A table renewed with the whole zone has followed by any rule.
pub followed_whole : (rule : ℕ) (ms : List Node) {p : Plan} {t u : List ℕ} → Renewed p t u → Followed rule p ms t u
followed_whole rule ms n = record { moved = n.moved; zone = λ q a b. inl (n.zone q a b) }

-- The same step without a zone.
abbrev pub no_zone : Plan → Plan
no_zone p =
    record {
      zone = record { from = p.zone.new; old = p.zone.old; new = p.zone.new };
      place = p.place;
      inner = p.inner;
      outer = p.outer;
    }

-- By rules 9 and 10 so has a table renewed without a zone, and then set back in the tree after its head.
module _ (rule : ℕ) (nine : 9 ≤ rule) (ten : rule ≤ 10) (ms : List Node) (p : Plan) (ok : Planned p) (t v u : List ℕ)
    (n : Renewed (no_zone p) t v) (b : SetBack (p.place + 1) p.zone.new ms v u) (tree : p.zone.from ≡ p.place) (inside : p.place < p.zone.new) where
  -- The places up to the step's own stay as they were renewed.
  upto : (q : ℕ) → q ≤ p.place → get_or u q 0 ≡ get_or v q 0
  upto q l = b.outside q (inl (omega arith))

  renewed_apart : (q : ℕ) → Apart p q → Apart (no_zone p) q
  renewed_apart q a = record { place = a.place; inner = a.inner; outer = a.outer }

  -- Those after it, within the tree, are set back, or nothing has changed them.
  later : (q : ℕ) → p.place < q → q < p.zone.new → (get_or u q 0 ≡ 1) ⊎ Spared rule p.place q ms t u
  later q l m =
      let other : Apart (no_zone p) q = record { place = λ e. omega arith; inner = λ e. omega (arith, ok); outer = λ e. omega (arith, ok) } in
      ⊎_elim
      (λ e. inl e)
      (λ e. inr (record { nine = nine; ten = ten; later = l; free = e.1; same = e.0 ∙ n.moved.before q m other }))
      (b.inside q (omega arith) m)

  pub followed_spread : Followed rule p ms t u
  followed_spread =
      let here : get_or u p.place 0 ≡ 1 = upto p.place (omega arith) ∙ n.moved.at_place in
      record {
        moved = record {
          at_place = here;
          at_inner = upto p.inner ok.inner_before ∙ n.moved.at_inner;
          at_outer = upto p.outer (omega (arith, ok)) ∙ n.moved.at_outer;
          before = λ q l a. upto q (omega arith) ∙ n.moved.before q (omega arith) (renewed_apart q a);
          after = λ q l m a. b.outside q (inr l) ∙ n.moved.after q l m (renewed_apart q a);
        };
        zone = λ q l m. ⊎_elim
            (λ e. inl (ap (λ k. get_or u k 0) (eqb-true q p.place e) ∙ here))
            (λ e. later q (omega (arith, eqb-false q p.place e)) m)
            (either (eqb q p.place));
      }
