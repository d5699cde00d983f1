-- `common_members::join` meets its contract: each answer is that of the definition, by the node's kind.
use mathlib.Core.List.{List}
use mathlib.Core.Option.{some}
use mathlib.Core.Path.{◌≡◌, sym, ap, ◌∙◌}
use Prim.Native.Nat.{ℕ, ◌+◌, ◌<◌}
use native.Mathlib.Numerals.{add-one}
use native.Mathlib.Omega.{arith}
use lib.ListN.{length, get_or, drop, length-drop}
use lib.Seq.{drop-cons}
use Rattle.model.specs.Code.{children}
use Rattle.common_lists.specs.Given.{given}
use Rattle.common_members.specs.Tested.{tested}
use Rattle.common_members.proofs.Joining.{Before, joined_other, joined_lacking, joined_least, enough, nodes, few}
use Rattle.common_members.proofs.join.Goals as goal

-- The numbers from a place on, their first, and the rest.
before :
    {n x t : ℕ} (i : ℕ) (ns : List ℕ) →
    i < length ns →
    x ≡ get_or ns i 0 →
    tested n (drop (i + 1) ns) ≡ some t →
    Before n x t (drop i ns) (drop (i + 1) ns)
before i ns h e k = record { first = drop-cons ns i 0 h ∙ rw (e, add-one); rest = k }

pub join-requires : goal.join-requires
join-requires g c =
    let ns = g.N.Numbers.numbers c.args.numbers in
    let b = before c.args.i ns c.requires.in_bounds.0 c.number-x.ensures c.requires.rest in
    omega (arith, few b, length-drop (c.args.i + 1) ns, c.requires.in_bounds.1)

pub returns-in_err-u : goal.returns-in_err-u
returns-in_err-u g c =
    let b = before c.args.i (g.N.Numbers.numbers c.args.numbers) c.requires.in_bounds.0 c.number-x.ensures c.requires.rest in
    ap given c.from_residual.ensures ∙ joined_lacking b c.in_err-u.ensures

pub returns-then-kind_of-ne-LEAST_KIND : goal.returns-then-kind_of-ne-LEAST_KIND
returns-then-kind_of-ne-LEAST_KIND g c =
    let b = before c.args.i (g.N.Numbers.numbers c.args.numbers) c.requires.in_bounds.0 c.number-x.ensures c.requires.rest in
    joined_other b c.in_ok-u.ensures (λ e. c.if-kind_of-ne-LEAST_KIND.true (c.kind_of.ensures ∙ e))

pub are_members-requires : goal.are_members-requires
are_members-requires g c =
    let ns = g.N.Numbers.numbers c.args.numbers in
    let b = before c.args.i ns c.requires.in_bounds.0 c.number-x.ensures c.requires.rest in
    let six = sym c.kind_of.ensures ∙ c.if-kind_of-ne-LEAST_KIND.false in
    let fit = enough b six c.in_ok-u.ensures in
    let after = length-drop (c.args.i + 1) ns in
    rw c.children_of.ensures record {
      in_bounds = (omega (arith, fit, after, c.requires.in_bounds.0), omega (arith, fit, after, c.requires.in_bounds));
      nodes = nodes b c.requires.in_bounds.2 (children c.number-x.result);
    }

pub returns : goal.returns
returns g c =
    let b = before c.args.i (g.N.Numbers.numbers c.args.numbers) c.requires.in_bounds.0 c.number-x.ensures c.requires.rest in
    let six = sym c.kind_of.ensures ∙ c.if-kind_of-ne-LEAST_KIND.false in
    ap given c.then_some.ensures
    ∙ joined_least b six c.in_ok-u.ensures c.are_members.result (rw c.children_of.ensures at c.are_members.ensures)
