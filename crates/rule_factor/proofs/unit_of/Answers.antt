-- `rule_factor::unit_of` meets its contract, by the tests on the child's number and the place of its first copy.
use Rattle.std.specs.Prelude.{is_ok}
use mathlib.Core.Bool.{not}
use mathlib.Core.Option.{some}
use mathlib.Core.Path.{◌≡◌, sym, ap, ◌∙◌}
use Prim.Native.Nat.{◌+◌, ◌<◌}
use native.Mathlib.Omega.{arith}
use lib.ListN.{length, get_or, drop, length-drop}
use Rattle.common_lists.proofs.Lent.{lent_part}
use Rattle.model.specs.Code.{children}
use Rattle.theory_forms.specs.Numbers.{children_small}
use Rattle.theory_forms.specs.Scan.{is_literal}
use Rattle.theory_reading.specs.Spans.{span, child_at}
use Rattle.rule_factor.specs.Walks.{among}
use Rattle.rule_factor.proofs.Here.{none_past, none_inner, none_again, some_new}
use Rattle.rule_factor.proofs.unit_of.Goals as goal
use Rattle.rule_factor.proofs.unit_of.Goals.{else-is_literal-via-then-is_literal+else-is_err, else-is_literal-via-else-is_literal}
use Rattle.rule_factor.proofs.unit_of.Goals.{After-children_of, After-is_literal, After-span_of-before, After-unit_place}

-- The number of children.
counted : (c : goal.After-children_of) → c.children_of.result ≡ children (get_or c.args.part.now 0 0)
counted c = c.children_of.ensures ∙ ap children c.from.ensures

-- Child j is there; where it stands, what is read there, and where its first copy stands.
there : (c : goal.After-span_of-before) → let a = c.args in a.j < children (get_or a.part.now 0 0)
there c = omega (arith, (c.children_of.ensures ∙ ap children c.from.ensures))

before : (c : goal.After-span_of-before) → let a = c.args in c.span_of-before.result ≡ span a.j (drop 1 a.part.now)
before c = rw (lent_part 1 c.args.part.now) at c.span_of-before.ensures.0

seen : (c : goal.After-is_literal) → let a = c.args in
    c.is_literal.result ≡ is_literal (get_or a.part.now (child_at a.j a.part.now) 0)
seen c =
    c.is_literal.ensures
    ∙ ap is_literal (c.from-2.ensures
    ∙ ap (λ n. get_or c.args.part.now (1 + n) 0) (rw (lent_part 1 c.args.part.now) at c.span_of-before.ensures.0))

placed : (c : goal.After-unit_place) → let a = c.args in
    is_ok c.unit_place.result ≡ among (get_or a.part.now (child_at a.j a.part.now) 0) a.j (drop 1 a.part.now)
placed c = rw ((rw (lent_part 1 c.args.part.now) at c.span_of-before.ensures.0), lent_part 1 c.args.part.now) at c.unit_place.ensures.found

pub returns-then-children_of-j : goal.returns-then-children_of-j
returns-then-children_of-j c = sym (none_past _ _ (omega (arith, counted (goal.at.returns-then-children_of-j c).After-children_of)))

pub span_of-before-requires : goal.span_of-before-requires
span_of-before-requires c =
    let l = c.args.part.now in
    omega (
      arith,
      counted (goal.at.span_of-before-requires c).After-children_of,
      children_small (get_or l 0 0),
      ap length (lent_part 1 l),
      length-drop 1 l,
    )

pub bounds-part-before : goal.bounds-part-before
bounds-part-before c =
    omega (
      arith,
      before (goal.at.bounds-part-before c).After-span_of-before,
      c.requires.part_in_bounds (there (goal.at.bounds-part-before c).After-span_of-before),
    )

pub returns-else-is_literal : goal.returns-else-is_literal
returns-else-is_literal c =
    let l = c.args.part.now in
    let far = before (goal.at.returns-else-is_literal c).After-span_of-before in
    let inner = there (goal.at.returns-else-is_literal c).After-span_of-before in
    let read = seen (goal.at.returns-else-is_literal c).After-is_literal in
    elim c.else-is_literal.branch [
      | else-is_literal-via-then-is_literal+else-is_err w ↦
          let again = rw (far, lent_part 1 l) at w.unit_place.ensures.found in
          sym (none_again _ l inner (sym read ∙ w.if-is_literal.true) (sym again ∙ w.is_err.ensures.negation ∙ ap not w.if-is_err.false))
      | else-is_literal-via-else-is_literal w ↦ sym (none_inner _ l inner (sym read ∙ w.if-is_literal.false))
    ]

pub returns-then-is_err : goal.returns-then-is_err
returns-then-is_err c =
    let l = c.args.part.now in
    let read = seen (goal.at.returns-then-is_err c).After-is_literal in
    let again = placed (goal.at.returns-then-is_err c).After-unit_place in
    ap (λ n. some (get_or l (1 + n) 0)) (before (goal.at.returns-then-is_err c).After-span_of-before)
    ∙ sym (some_new _ l (there (goal.at.returns-then-is_err c).After-span_of-before) (sym read ∙ c.if-is_literal.true)
    (sym again ∙ c.is_err.ensures.negation ∙ ap not c.if-is_err.true))
