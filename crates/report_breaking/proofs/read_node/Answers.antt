-- `report_breaking::read_node` meets its contract: the entry of the literal, or of the tree that its children make, is put on the stack.
use mathlib.Core.Bool.{Bool, true, false}
use mathlib.Core.List.{List, ◌∷◌}
use mathlib.Core.Path.{◌≡◌, sym, ◌∙◌}
use Prim.Native.Nat.{ℕ, suc, ◌+◌, ◌-◌, ◌≤◌, ◌<◌}
use native.Mathlib.Omega.{arith}
use lib.Dec.{eqb}
use lib.ListN.{length, get_or, take, drop}
use Rattle.model.specs.Code.{children}
use Rattle.theory_forms.specs.Scan.{is_literal}
use Rattle.theory_meaning.specs.Evaluation.{fails_all}
use Rattle.theory_reading.specs.Leaves.{place_at}
use Rattle.theory_meaning.specs.NumberTrees.{conn_at, with_node}
use Rattle.theory_meaning.specs.TreeValues.{with_literal, with_inner}
use Rattle.report_breaking.specs.Stacks.{broken, tried}
use Rattle.report_breaking.proofs.Entries.{broken_take}
use Rattle.report_breaking.proofs.Pushing.{pushed}
use Rattle.report_breaking.proofs.read_node.Goals as goal
use Rattle.report_breaking.proofs.read_node.Goals.{After-children_of, Else-is_literal, Then-is_literal}

-- A node's value, at a literal and at a connective.
module _ (t : List ℕ) (x : ℕ) (bs : List Bool) where
  at_literal : {p : ℕ} → p ≡ place_at x → is_literal x ≡ true → eqb (get_or t p 0) 1 ∷ bs ≡ with_node t x bs
  at_literal e l = rw e (sym (with_literal t x bs l))

at_inner : (t : List ℕ) (x q : ℕ) (ls fs : List ℕ) → is_literal x ≡ false →
    fails_all (conn_at x) (broken q ls (take (children x) fs)) ∷ drop (children x) (broken q ls fs) ≡ with_node t x (broken q ls fs)
at_inner t x q ls fs l = rw (broken_take q (children x) ls fs) (sym (with_inner t x (broken q ls fs) l))

literal : (c : goal.Then-is_literal) → is_literal c.args.x ≡ true
literal c = sym c.is_literal.ensures ∙ c.if-is_literal.true

inner : (c : goal.Else-is_literal) → is_literal c.args.x ≡ false
inner c = sym c.is_literal.ensures ∙ c.if-is_literal.false

-- A connective's children are on the stack.
enough :
    (c : goal.After-children_of) →
    let a = c.args in
    a.top + c.children_of.result ≤ length a.stack.now
enough c =
    omega (arith, c.children_of.ensures, c.requires.le_top.2 (sym c.is_literal.ensures ∙ c.if-is_literal.false))

pub returns-then-is_literal : goal.returns-then-is_literal
returns-then-is_literal c =
    let r = c.read_literal-tree in
    let p = c.requires in
    let g = c.args in
    let h = p.end_lt_sheet_room.3 in
    let at : suc (g.top - 1) ≡ g.top + 0 = omega (arith, p.le_top.0) in
    let low : g.top - 1 < length g.stack.now = omega (arith, h.low, p.le_top.0) in
    let room : r.result.end ≤ length r.new.places = omega (arith, r.ensures.end_bound, r.auto.places, p.end_lt_sheet_room.0, p.end_lt_sheet_room.1) in
    let w = pushed h 0 (g.top - 1) r.result.first r.new.places r.result.end at low room r.ensures.made in
    record {
      end_bound = (r.ensures.end_bound, w.0, p.failed_len.1);
      by_index = λ q. w.1 q
          ∙ at_literal (tried g.failed.now q) g.x _ c.place_of.ensures (literal (goal.at.returns-then-is_literal c).Then-is_literal);
    }

pub returns-else-is_literal : goal.returns-else-is_literal
returns-else-is_literal c =
    let r = c.read_group-tree in
    let p = c.requires in
    let g = c.args in
    let h = p.end_lt_sheet_room.3 in
    let i : ℕ = g.top + c.children_of.result - 1 in
    let at : suc i ≡ g.top + children g.x = omega (arith, c.children_of.ensures, p.le_top.0) in
    let low : i < length g.stack.now = omega (arith, enough (goal.at.returns-else-is_literal c).After-children_of, p.le_top.0) in
    let room : r.result.end ≤ length r.new.places =
    omega (arith, r.ensures.end_le_end.0, r.auto.places, p.end_lt_sheet_room.0, p.end_lt_sheet_room.1) in
    let w = pushed h (children g.x) i r.result.first r.new.places r.result.end at low room r.ensures.made in
    record {
      end_bound = (omega (arith, r.ensures.end_le_end.0), w.0, r.ensures.end_le_end.1);
      by_index = λ q. w.1 q
          ∙ at_inner (tried g.failed.now q) g.x q (take g.end g.places.now) (drop g.top g.stack.now) (inner (goal.at.returns-else-is_literal c).Else-is_literal);
    }
