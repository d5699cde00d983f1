-- `report_breaking::base_of` meets its contract: the last entry says where its tree's literals begin.
use mathlib.Core.List.{List}
use mathlib.Core.Path.{◌≡◌, sym, ap, ◌∙◌}
use Prim.Native.Nat.{ℕ, suc, ◌-◌, ◌/◌, ◌<◌}
use native.Mathlib.Omega.{arith}
use borrow.Author.Tests.{ltb-false}
use lib.ListN.{length, get_or}
use lib.Seq.{take_all}
use Rattle.report_breaking.specs.Stacks.{begin, bottom}
use Rattle.report_breaking.proofs.Entries.{bottom_empty, bottom_last}
use Rattle.report_breaking.proofs.base_of.Goals as goal

-- The last of some entries.
last_says : (n : ℕ) (fs : List ℕ) → 0 < length fs → bottom n fs ≡ begin (get_or fs (length fs - 1) 0)
last_says n fs h =
    ap (bottom n) (sym (take_all (suc (length fs - 1)) fs (omega arith))) ∙ bottom_last n (length fs - 1) fs (omega arith)

pub returns-in-None : goal.returns-in-None
returns-in-None c =
    let a = c.args in
    let none = c.in-None.ensures.item.0 in
    sym (bottom_empty a.end a.children.now (omega (arith, ltb-false 0 (length a.children.now) (sym none))))

pub returns-in-Some : goal.returns-in-Some
unfolding begin
returns-in-Some c =
    let a = c.args in
    let there = c.in-Some.ensures.item.3 in
    ap (λ n. n / 2) (c.from.ensures ∙ there.1 0) ∙ sym (last_says a.end a.children.now there.0)
