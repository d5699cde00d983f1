-- `report_marks::is_missing` meets its contract: an option that is named and whose mark is 0.
use mathlib.Core.Bool.{not, ◌&&◌}
use mathlib.Core.List.{List}
use mathlib.Core.Path.{◌≡◌, ap, ◌∙◌}
use Prim.Native.Nat.{ℕ}
use borrow.Author.Tests.{eq-eqb, ne_eqb}
use lib.Dec.{eqb}
use lib.ListN.{get_or}
use Rattle.theory_meaning.specs.FailedLiterals.{mark_in, is_marked, open_mark}
use Rattle.report_marks.specs.Noted.{is_noted}
use Rattle.report_marks.proofs.is_missing.Goals as goal

module _ (t named : List ℕ) (v : ℕ) where
  open_one : {m : ℕ} → get_or named v 0 ≡ 1 → m ≡ mark_in t v → eqb m 0 ≡ (is_noted named v && not (is_marked t v))
  unfolding is_noted
  open_one h e = rw (eq-eqb (get_or named v 0) 1 h) (ap (λ m. eqb m 0) e ∙ open_mark t v)

  unnamed : (get_or named v 0 ≡ 1 → ⊥) → eqb (get_or named v 0) 1 ≡ (is_noted named v && not (is_marked t v))
  unfolding is_noted
  unnamed h = rw (ne_eqb (get_or named v 0) 1 h)

pub returns-then-named-v-eq1 : goal.returns-then-named-v-eq1
returns-then-named-v-eq1 c = open_one _ _ _ c.if-named-v-eq1.true c.mark_of.ensures

pub returns-else-named-v-eq1 : goal.returns-else-named-v-eq1
returns-else-named-v-eq1 c = unnamed _ _ _ c.if-named-v-eq1.false
