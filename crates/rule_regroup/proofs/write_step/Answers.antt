-- `rule_regroup::write_step` meets its contract: the tree, and then the live numbers after the old one.
use mathlib.Core.Path.{◌≡◌, ap, ◌∙◌}
use Prim.Native.Nat.{◌-◌}
use native.Mathlib.Omega.{arith}
use lib.ListN.{length, get_or, take, drop, length-append}
use Rattle.model.specs.Code.{children}
use Rattle.theory_forms.specs.Numbers.{children_small}
use Rattle.theory_reading.specs.Spans.{child_at}
use Rattle.theory_reading.specs.Stretches.{live, live_short}
use Rattle.rule_factor.proofs.Asking.{stretch_some}
use Rattle.rule_regroup.specs.Regrouped.{tree_after, step_after}
use Rattle.rule_regroup.proofs.Append.{appended_both}
use Rattle.rule_regroup.proofs.Turning.{rule_found, ends_live, step_room}
use Rattle.rule_regroup.proofs.write_step.Goals as goal
use Rattle.rule_regroup.proofs.write_step.Goals.{After-child_at-end, After-children_of-k, After-write_tree-to, Start}

-- The number of children, and where the last one ends.
counted : (c : goal.After-children_of-k) → c.children_of-k.result ≡ children (get_or c.args.part.now 0 0)
counted c = c.children_of-k.ensures ∙ ap children c.from.ensures

ended : (c : goal.After-child_at-end) → let l = c.args.part.now in c.child_at-end.result ≡ child_at (children (get_or l 0 0)) l
ended c = rw (c.children_of-k.ensures ∙ ap children c.from.ensures) at c.child_at-end.ensures.0

pub bounds-part-0 : goal.bounds-part-0
bounds-part-0 c = stretch_some c.requires.stretch c.requires.headed

pub child_at-end-requires : goal.child_at-end-requires
child_at-end-requires c = (
  stretch_some c.requires.stretch c.requires.headed,
  c.requires.stretch.short,
  omega (arith, counted (goal.at.child_at-end-requires c).After-children_of-k, children_small (get_or c.args.part.now 0 0)),
)

pub slice_bounds-copy-count : goal.slice_bounds-copy-count
slice_bounds-copy-count c =
    omega (
      arith,
      ended (goal.at.slice_bounds-copy-count c).After-child_at-end,
      c.live_count-used.ensures,
      ends_live c.requires.stretch c.requires.headed,
    )

pub slice_bounds-copy-start : goal.slice_bounds-copy-start
slice_bounds-copy-start c =
    omega (
      arith,
      ended (goal.at.slice_bounds-copy-start c).After-child_at-end,
      ends_live c.requires.stretch c.requires.headed,
      live_short c.args.part.now,
    )

pub slice_bounds-copy-end : goal.slice_bounds-copy-end
slice_bounds-copy-end c =
    omega (
      arith,
      ended (goal.at.slice_bounds-copy-end c).After-child_at-end,
      c.live_count-used.ensures,
      ends_live c.requires.stretch c.requires.headed,
      live_short
          c.args.part.now,
    )

pub copy-requires : goal.copy-requires
unfolding step_after
copy-requires c =
    let a = c.args in
    let l = a.part.now in
    let e = child_at (children (get_or l 0 0)) l in
    let w = c.write_tree-to in
    let room = step_room c.requires.stretch c.requires.headed (rule_found c.requires.stretch c.requires.headed a.i a.j c.requires.part_value) in
    rw (ended (goal.at.copy-requires c).After-child_at-end, c.live_count-used.ensures)
    (omega (
      arith,
      room,
      length-append (tree_after a.i a.j l) (take (length (live l) - e) (drop e l)),
      w.ensures.end,
      w.auto.out,
      c.requires.part_in_bounds,
    ))

pub returns : goal.returns
unfolding step_after
returns c =
    rw (ended (goal.at.returns c).After-child_at-end, c.live_count-used.ensures)
    at (appended_both c.write_tree-to.ensures c.copy.ensures)
