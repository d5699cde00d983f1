-- `report_breaking::count_standing` meets its contract: the entries that are even.
use mathlib.Core.Path.{◌≡◌, sym, ◌∙◌}
use Prim.Native.Nat.{◌%◌}
use native.Mathlib.Omega.{arith}
use lib.Dec.{eqb}
use Rattle.std.proofs.Common.{rules, count_by}
use Rattle.report_breaking.proofs.Entries.{standing_count, standing_most}
use Rattle.report_breaking.proofs.count_standing.Goals as goal

pub returns : goal.returns
returns c =
    let fs = c.args.children.now in
    let e : c.count.result ≡ count_by (λ f. eqb (f % 2) 0) fs = search rules in
    (e ∙ sym (standing_count fs), omega (arith, e, standing_count fs, standing_most fs))
