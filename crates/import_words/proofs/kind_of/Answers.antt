-- `import_words::kind_of` meets its contract: no decimal, a zero, at most V, over it.
use mathlib.Core.Bool.{true}
use mathlib.Core.Path.{◌≡◌, sym, ◌∙◌}
use Rattle.texts.specs.Decimals.{is_decimal}
use Rattle.import_words.proofs.WordTests.{no_number, zero_alone, mark_here, over_here, some_digit}
use Rattle.import_words.proofs.kind_of.Goals as goal
use Rattle.import_words.proofs.kind_of.Goals.{Else-not-is_decimal}

-- Past the first test the digits are a decimal.
decimal : (c : goal.Else-not-is_decimal) → is_decimal c.args.digits.now ≡ true
decimal c = let call = c.is_decimal in sym call.ensures ∙ c.if-not-is_decimal.false

pub returns-then-not-is_decimal : goal.returns-then-not-is_decimal
returns-then-not-is_decimal c =
    let call = c.is_decimal in no_number _ _ _ (sym call.ensures ∙ c.if-not-is_decimal.true)

pub returns-then-digits-eq48 : goal.returns-then-digits-eq48
returns-then-digits-eq48 c = zero_alone _ _ _ (decimal (goal.at.returns-then-digits-eq48 c).Else-not-is_decimal) c.if-digits-eq48.true

pub is_at_most-requires : goal.is_at_most-requires
is_at_most-requires c = (decimal (goal.at.is_at_most-requires c).Else-not-is_decimal, c.requires.1)

pub returns-then-is_at_most : goal.returns-then-is_at_most
returns-then-is_at_most c =
    mark_here _ _ _ (decimal (goal.at.returns-then-is_at_most c).Else-not-is_decimal) c.if-digits-eq48.false
    (sym c.is_at_most.ensures ∙ c.if-is_at_most.true)

pub returns-else-is_at_most : goal.returns-else-is_at_most
returns-else-is_at_most c =
    over_here _ _ _ (decimal (goal.at.returns-else-is_at_most c).Else-not-is_decimal) c.if-digits-eq48.false
    (sym c.is_at_most.ensures ∙ c.if-is_at_most.false)

pub bounds-digits-0 : goal.bounds-digits-0
bounds-digits-0 c = some_digit _ (decimal (goal.at.bounds-digits-0 c).Else-not-is_decimal)
