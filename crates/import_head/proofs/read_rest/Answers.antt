-- `import_head::read_rest` meets its contract: a space, a decimal, and a line end, one test after another.
use mathlib.Core.Path.{sym, ◌∙◌}
use Prim.Native.Nat.{◌+◌}
use Rattle.theory_texts.specs.FromPlaces.{all_between}
use Rattle.import_head.proofs.HeadTests.{no_space, no_more, no_clauses, by_end}
use Rattle.import_head.proofs.read_rest.Goals as goal
use Rattle.import_head.proofs.read_rest.Goals.{then-text-space-via-then-text-space, then-text-space-via-else-text-space+then-text-space-ne32, then-not-is_decimal-via-then-not-is_decimal, then-not-is_decimal-via-else-not-is_decimal+then-not-ends_line_at}

pub returns-then-text-space-clause-found : goal.returns-then-text-space-clause-found
returns-then-text-space-clause-found c =
    let text = c.args.text.now in
    elim c.then-text-space.branch [
      | then-text-space-via-then-text-space w ↦ sym (no_more text c.args.space w.if-text-space.true)
      | then-text-space-via-else-text-space+then-text-space-ne32 w ↦ sym (no_space text c.args.space w.if-text-space-ne32.true)
    ]

pub is_decimal-requires : goal.is_decimal-requires
is_decimal-requires c =
    let far = c.past_digits-body in all_between c.args.text.now (c.args.space + 1) far.result far.ensures.0

pub returns-then-not-is_decimal-clause-found : goal.returns-then-not-is_decimal-clause-found
returns-then-not-is_decimal-clause-found c =
    let text = c.args.text.now in
    let space = c.args.space in
    let here = c.if-text-space-ne32.false in
    let far = c.past_digits-body in
    let call = c.is_decimal in
    elim c.then-not-is_decimal.branch [
      | then-not-is_decimal-via-then-not-is_decimal w ↦
          sym (no_clauses text space here far.result far.ensures.0 (sym call.ensures ∙ w.if-not-is_decimal.true))
      | then-not-is_decimal-via-else-not-is_decimal+then-not-ends_line_at w ↦
          sym (by_end text space here far.result far.ensures.0 (sym call.ensures ∙ w.if-not-is_decimal.false)
          ∙ sym w.ends_line_at.ensures
          ∙ w.if-not-ends_line_at.true)
    ]

pub returns-clause-found : goal.returns-clause-found
returns-clause-found c =
    let far = c.past_digits-body in
    sym (by_end c.args.text.now c.args.space c.if-text-space-ne32.false far.result far.ensures.0 (sym c.is_decimal.ensures ∙ c.if-not-is_decimal.false)
    ∙ sym c.ends_line_at.ensures
    ∙ c.if-not-ends_line_at.false)
