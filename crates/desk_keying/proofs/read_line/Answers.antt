-- `desk_keying::read_line` meets its contract: an empty line, one without a sign, and else the code behind it.
use mathlib.Core.Path.{sym, ap, ◌∙◌}
use borrow.Author.Rules.{part_to_end}
use Rattle.calls.specs.Calls.{lookup_of}
use Rattle.desk_keying.proofs.KeyedLines.{asked_nothing, asked_unsigned, asked_code}
use Rattle.desk_keying.proofs.read_line.Goals as goal

pub returns-then-line-eq0 : goal.returns-then-line-eq0
returns-then-line-eq0 c = let a = c.args in asked_nothing a.book.now a.line.now c.if-line-eq0.true

pub returns-then-not-is_sign : goal.returns-then-not-is_sign
returns-then-not-is_sign c =
    let a = c.args in
    asked_unsigned a.book.now a.line.now (sym c.is_sign.ensures ∙ c.if-not-is_sign.true)

pub returns : goal.returns
returns c =
    let a = c.args in
    c.lookup.ensures
    ∙ ap (lookup_of a.book.now) (part_to_end a.line.now 1)
    ∙ asked_code a.book.now a.line.now
    (sym c.is_sign.ensures ∙ c.if-not-is_sign.false)
