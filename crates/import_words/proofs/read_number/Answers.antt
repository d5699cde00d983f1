-- `import_words::read_number` meets its contract: the digits from a place on, and whether a word ends after them.
use mathlib.Core.Path.{sym, ◌∙◌}
use Rattle.theory_texts.specs.FromPlaces.{all_between}
use Rattle.import_words.proofs.WordTests.{not_ended, kind_ended}
use Rattle.import_words.proofs.read_number.Goals as goal

pub returns-then-not-breaks_at : goal.returns-then-not-breaks_at
returns-then-not-breaks_at c =
    let far = c.past_digits-end in (
      not_ended c.args.text.now c.args.from far.result far.ensures.0 _ _ (sym c.breaks_at.ensures ∙ c.if-not-breaks_at.true),
      far.ensures.0,
      far.ensures.1,
    )

pub kind_of-kind-requires : goal.kind_of-kind-requires
kind_of-kind-requires c =
    let far = c.past_digits-end in
    (all_between c.args.text.now c.args.from far.result far.ensures.0, c.requires.1)

pub returns : goal.returns
returns c =
    let far = c.past_digits-end in (
      c.kind_of-kind.ensures
          ∙ kind_ended c.args.text.now c.args.from far.result far.ensures.0 _ _
          (sym c.breaks_at.ensures ∙ c.if-not-breaks_at.false),
      far.ensures.0,
      far.ensures.1,
    )
