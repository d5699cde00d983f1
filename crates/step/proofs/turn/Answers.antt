-- `step::turn` meets its contract: the rule's number says which family turns the stretch.
use mathlib.Core.Bool.{true}
use mathlib.Core.List.{List}
use mathlib.Core.Path.{◌≡◌, sym, subst}
use Prim.Native.Nat.{ℕ, ◌≤◌}
use native.Mathlib.Omega.{arith}
use Rattle.model.specs.Base.{is_some}
use Rattle.model.specs.Rules.{rewrite}
use Rattle.theory_rewriting.specs.Heads.{Headed, rewritten_to}
use Rattle.theory_reading.specs.Stretches.{Stretch, forest_in}
use Rattle.step.proofs.turn.Goals as goal
use Rattle.step.proofs.turn.Goals.{In_default}
use Rattle.step.proofs.turn.Goals.{in_default-via-then-rule-lt1, in_default-via-else-rule-lt1+else-rule-lt9+else-rule-lt11+else-rule-lt14}

-- What a family asks that is for one rule alone, and what it leaves.
asked :
    (l : List ℕ) (i j : ℕ) {r n : ℕ} →
    r ≡ n →
    Stretch l →
    Headed r l →
    is_some (rewrite r i j (forest_in l)) ≡ true →
    Stretch l × Headed n l × (is_some (rewrite n i j (forest_in l)) ≡ true)
asked l i j e s h t =
    (s, subst (λ r. Headed r l) e h, subst (λ r. is_some (rewrite r i j (forest_in l)) ≡ true) e t)

left : (l : List ℕ) (i j : ℕ) {r n : ℕ} {out : List ℕ} → r ≡ n → out ≡ rewritten_to n i j l → out ≡ rewritten_to r i j l
left l i j {out = out} e h = subst (λ r. out ≡ rewritten_to r i j l) (sym e) h

-- Past the ranges the rule is 16 or 17.
last : (c : goal.In_default) → 16 ≤ c.args.rule
last c =
    elim c.in_default.branch [
      | in_default-via-then-rule-lt1 w ↦ omega arith
      | in_default-via-else-rule-lt1+else-rule-lt9+else-rule-lt11+else-rule-lt14 w ↦ omega arith
    ]

pub turn-requires : goal.turn-requires
turn-requires c =
    let q = asked c.args.part.now c.args.i c.args.j c.in-14.is c.requires.stretch c.requires.headed c.requires.part_value in
    record { stretch = q.0; headed = q.1; part_value = q.2 }

pub drop_member-requires : goal.drop_member-requires
drop_member-requires c =
    let q = asked c.args.part.now c.args.i c.args.j c.in-15.is c.requires.stretch c.requires.headed c.requires.part_value in
    record { stretch = q.0; headed = q.1; part_value = q.2 }

pub end-requires : goal.end-requires
end-requires c = record {
  le_rule = (last (goal.at.end-requires c).In_default, c.requires.le_rule.1);
  stretch = c.requires.stretch;
  headed = c.requires.headed;
  part_value = c.requires.part_value;
}

pub returns-in-14 : goal.returns-in-14
returns-in-14 c =
    let a = c.args in left a.part.now a.i a.j c.in-14.is c.turn.ensures

pub returns-in-15 : goal.returns-in-15
returns-in-15 c =
    let a = c.args in left a.part.now a.i a.j c.in-15.is c.drop_member.ensures
