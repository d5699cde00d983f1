-- `report_marks::is_complete` meets its contract: the table has the report once all is known.
use mathlib.Core.Bool.{Bool, true, false, not, ◌||◌}
use mathlib.Core.List.{List}
use mathlib.Core.Path.{◌≡◌, sym, ap, ◌∙◌}
use Prim.Native.Nat.{ℕ}
use native.Mathlib.Omega.{arith}
use lib.Dec.{eqb}
use Rattle.model.specs.Base.{all}
use Rattle.model.specs.Propagation.{count_from}
use Rattle.model.specs.Sheet.{options_in, report_in}
use Rattle.calls.specs.Named.{is_decided, complete_among}
use Rattle.theory_forms.specs.Lists.{all_counted}
use Rattle.theory_meaning.specs.FailedLiterals.{HasReport, is_marked, report_mark}
use Rattle.report_marks.proofs.is_complete.Goals as goal

module _ (s : List ℕ) (named : ℕ → Bool) where
  contradictory : (report_in s).contradictory ≡ true → false ≡ complete_among named (options_in s) (report_in s)
  unfolding complete_among
  contradictory e = rw e

  consistent :
      (t : List ℕ) →
      HasReport s t →
      (report_in s).contradictory ≡ false →
      all (λ v. not (named v) || is_marked t v) (count_from 0 (options_in s)) ≡ complete_among named (options_in s) (report_in s)
  unfolding complete_among is_decided is_marked
  consistent t h e =
      rw e
      (all_counted _ _ (options_in s)
      (λ v l. ap (λ m. not (named v) || (eqb m 1 || eqb m 2)) (sym (report_mark s t h e v l))))

pub all_marked-requires : goal.all_marked-requires
unfolding options_in
all_marked-requires c = omega (arith, c.from.ensures, c.requires.options)

pub returns-then-not-propagate : goal.returns-then-not-propagate
unfolding options_in
returns-then-not-propagate c =
    let call = c.propagate in
    let stands = sym call.ensures.value ∙ c.if-not-propagate.true in
    c.all_marked.ensures ∙ rw c.from.ensures (consistent _ _ _ call.ensures.has_report stands)

pub returns-else-not-propagate : goal.returns-else-not-propagate
returns-else-not-propagate c =
    let yes = c.if-not-propagate.false in
    rw yes (contradictory _ _ (sym c.propagate.ensures.value ∙ yes))
