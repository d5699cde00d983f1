-- No step raises the count of any option's marks, whatever its rule and place.
use Rattle.std.specs.Prelude.{Bool, ◌||◌, List, ◌++◌, ◌≡◌, ℕ, ◌+◌, ◌*◌, ◌≤◌, eqb}
use Rattle.std.proofs.Math.Bool.{true, false}
use Rattle.std.proofs.Math.Option.{some}
use Rattle.std.proofs.Math.Path.{refl, ap}
use Rattle.std.proofs.Common.{sym, ◌∙◌}
use Rattle.std.proofs.Math.Nat.{mul-le-mul_right}
use native.Mathlib.Omega.{arith}
use Rattle.model.specs.Base.{pick}
use Rattle.model.specs.Literal.{Literal, option, same}
use Rattle.model.specs.Forest.{Conn, and, or, root, at_least, Forest, nil, lit, node, ◌⊕◌, has_unit}
use Rattle.model.specs.Code.{Node, encode}
use Rattle.model.specs.Rules.{assigned, without_unit, shares, units, groups_without, groups, step}
use Rattle.calls.specs.Index.{names, mark_count}
use Rattle.theory_forms.specs.Logic.{true_false, and_split}
use Rattle.theory_forms.specs.Literals.{same_is}
use Rattle.theory_forms.specs.Forests.{assigned_lit}
use Rattle.theory_forms.specs.Ended.{Ended, none_asked, too_many, one_asked, all_asked}
use Rattle.theory_forms.specs.Shape.{Shaped, shaped_trees}
use Rattle.theory_rewriting.specs.Changes.{Change, absorbed, omitted, unwrapped, spreaded, lifted, merged, factored, lowered, ended}
use Rattle.theory_rewriting.specs.ShapeKept.{Changed, step_changed, step_shaped}
use Rattle.theory_rewriting.specs.Steps.{Steps, done, more}
use Rattle.theory_index.specs.Entries.{count_append}

module _ (v : ℕ) where
  -- The option's marks in trees: each literal of it counts one.
  unfoldable one : Literal → ℕ
  one l = pick (eqb v (option l)) 1 0

  unfoldable marks : Forest → ℕ
  marks nil = 0
  marks (lit l f) = one l + marks f
  marks (node c k f) = marks k + marks f

  marks-⊕ : (f g : Forest) → marks (f ⊕ g) ≡ marks f + marks g
  unfolding marks ◌⊕◌
  marks-⊕ nil g = omega arith
  marks-⊕ (lit l f) g = let h = marks-⊕ f g in omega arith
  marks-⊕ (node c k f) g = let h = marks-⊕ f g in omega arith

  -- They are what is counted on the trees' code.
  count_code : (f : Forest) → mark_count v (encode f) ≡ marks f
  unfolding mark_count names encode marks one pick
  count_code nil = refl
  count_code (lit l f) = let h = count_code f in omega arith
  count_code (node c k f) = let p = count_code k in let q = count_code f in omega (arith, count_append v (encode k) (encode f))

  count_after : (ms : List Node) (f : Forest) → mark_count v (ms ++ encode f) ≡ mark_count v ms + marks f
  count_after ms f = count_append v ms (encode f) ∙ ap (λ n. mark_count v ms + n) (count_code f)

  -- Constants in place of literals.
  marks_assigned : (c : Conn) (l : Literal) (f : Forest) → marks (assigned c l f) ≤ marks f
  unfolding marks assigned
  marks_assigned c l nil = omega arith
  marks_assigned c l (lit x f) =
      let r = marks_assigned c l f in
      assigned_lit (λ g. marks g ≤ one x + marks f) c l x f (λ e. omega arith) (λ e. omega arith) (λ e o. omega arith)
  marks_assigned c l (node d k f) = let p = marks_assigned c l k in let q = marks_assigned c l f in omega arith

  -- One copy of a literal fewer.
  marks_without : (a : Literal) (f : Forest) → has_unit a f ≡ true → marks (without_unit a f) + one a ≡ marks f
  unfolding marks without_unit has_unit pick
  marks_without a nil h = true_false (sym h)
  marks_without a (lit x f) h = go (same a x) refl h (marks_without a f)
    where
      go :
          (b : Bool) →
          same a x ≡ b →
          (b || has_unit a f) ≡ true →
          (has_unit a f ≡ true → marks (without_unit a f) + one a ≡ marks f) →
          marks (pick b f (lit x (without_unit a f))) + one a ≡ one x + marks f
      go true e h r = omega (arith, ap one (same_is a x e))
      go false e h r = let s = r h in omega arith
  marks_without a (node c k f) h = let r = marks_without a f h in omega arith

  -- Units, and groups each without a shared literal, have the marks of all less that literal once a group.
  marks_shared :
      (a : Literal) (f : Forest) →
      shares a f ≡ true →
      marks (units f) + marks (groups_without a f) + groups f * one a ≡ marks f
  unfolding marks units groups_without groups shares
  marks_shared a nil s = omega arith
  marks_shared a (lit x f) s = let r = marks_shared a f s in omega arith
  marks_shared a (node and k f) s =
      let t = and_split (has_unit a k) (shares a f) s in
      let p = marks_without a k t.0 in
      let q = marks_shared a f t.1 in
      omega arith
  marks_shared a (node or k f) s = true_false (sym s)
  marks_shared a (node root k f) s = true_false (sym s)
  marks_shared a (node (at_least b) k f) s = true_false (sym s)

  ended_marks : {a : ℕ} {k m : Forest} {d : Conn} → Ended a k d m → marks m ≤ marks k
  unfolding marks
  ended_marks (none_asked e) = omega arith
  ended_marks (too_many e) = omega arith
  ended_marks (one_asked e) = omega arith
  ended_marks (all_asked e) = omega arith

  -- No change raises them: rule 14 takes one literal out of at least two groups and puts it back once.
  change_marks : {c : Conn} {k g : Forest} → Change c k g → marks g ≤ marks k
  unfolding marks ◌⊕◌
  change_marks (absorbed p q o e t r) = omega (arith, ap marks r)
  change_marks (omitted p q e r) = omega (arith, simp marks-⊕ at (ap marks r), simp marks-⊕ at (ap marks e))
  change_marks (unwrapped o d t r) = omega (arith, ap marks r)
  change_marks {c} (spreaded p q l o d e m r) =
      omega (arith, simp marks-⊕ at (ap marks r), simp marks-⊕ at (ap marks e), marks_assigned c l p, marks_assigned c l q)
  change_marks (lifted p a b q l o d e r) = omega (arith, simp marks-⊕ at (ap marks r), simp marks-⊕ at (ap marks e))
  change_marks (merged p a q d e r) = omega (arith, simp marks-⊕ at (ap marks r), simp marks-⊕ at (ap marks e))
  change_marks {c} {k} (factored a d s g r) =
      omega (arith, simp marks-⊕ at (ap marks r), marks_shared a k s, mul-le-mul_right (one a) g)
  change_marks (lowered p q a d e r) = omega (arith, simp marks-⊕ at (ap marks r), simp marks-⊕ at (ap marks e))
  change_marks (ended a d m t e r) = omega (arith, ap marks r, ended_marks e)

  changed_marks : {ns ms : List Node} → Changed ns ms → mark_count v ms ≤ mark_count v ns
  unfolding marks
  changed_marks {ns} {ms} w =
      let old : mark_count v ns ≡ mark_count v w.before + (marks w.children + marks w.rest) =
      rw w.was (count_after w.before (node w.conn w.children w.rest)) in
      let now : mark_count v ms ≡ mark_count v w.before + marks (w.new ⊕ w.rest) =
      rw w.became (count_after w.before (w.new ⊕ w.rest)) in
      omega (arith, change_marks w.done, marks-⊕ w.new w.rest)

  -- "No step raises any option's count."
  pub step_mentions :
      (r p i j : ℕ) {n : ℕ} {ns ms : List Node} →
      Shaped n ns →
      step r p i j ns ≡ some ms →
      mark_count v ms ≤ mark_count v ns
  step_mentions r p i j {n} {ns} s e = changed_marks (step_changed r p i j ns (shaped_trees s) e)

  pub steps_mentions : {n k : ℕ} {ns ms : List Node} → Shaped n ns → Steps k ns ms → mark_count v ms ≤ mark_count v ns
  steps_mentions s done = omega arith
  steps_mentions s (more r p i j e t) =
      omega (arith, step_mentions r p i j s e, steps_mentions (step_shaped r p i j s e) t)
