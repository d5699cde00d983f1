-- `import_head::read_head` meets its contract: what a p line begins with, V, and the rest.
use mathlib.Core.Path.{sym, ◌∙◌}
use Prim.Native.Nat.{◌+◌}
use Rattle.theory_texts.specs.FromPlaces.{all_between}
use Rattle.import_head.proofs.HeadTests.{lent_front, no_front, no_options, by_rest}
use Rattle.import_head.proofs.read_head.Goals as goal

pub returns-then-not-starts_with-clause-found : goal.returns-then-not-starts_with-clause-found
returns-then-not-starts_with-clause-found c =
    let text = c.args.text.now in
    let front = c.starts_with.ensures.value ∙ lent_front text c.args.at in
    sym (no_front text c.args.at (sym front ∙ c.if-not-starts_with.true))

pub is_decimal-requires : goal.is_decimal-requires
is_decimal-requires c =
    let far = c.past_digits-space in all_between c.args.text.now (c.args.at + 6) far.result far.ensures.0

pub returns-then-not-is_decimal-clause-found : goal.returns-then-not-is_decimal-clause-found
returns-then-not-is_decimal-clause-found c =
    let far = c.past_digits-space in
    sym (no_options c.args.text.now c.args.at far.result far.ensures.0 (sym c.is_decimal.ensures ∙ c.if-not-is_decimal.true))

pub returns-clause-found : goal.returns-clause-found
returns-clause-found c =
    let text = c.args.text.now in
    let far = c.past_digits-space in
    let front = c.starts_with.ensures.value ∙ lent_front text c.args.at in
    c.read_rest.ensures.found
    ∙ sym (by_rest text c.args.at far.result far.ensures.0 (sym front ∙ c.if-not-starts_with.false) (sym c.is_decimal.ensures ∙ c.if-not-is_decimal.false))
