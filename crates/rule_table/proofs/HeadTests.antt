-- What the test of a head tells.
use mathlib.Core.Bool.{Bool, true, false, ◌&&◌}
use mathlib.Core.List.{List}
use mathlib.Core.Logic.{◌⊎◌, inl, inr, ⊎_elim}
use mathlib.Core.Option.{Option, none, some}
use mathlib.Core.Path.{◌≡◌, refl, sym, ap, ◌∙◌}
use Prim.Native.Nat.{ℕ, ◌≤◌, ◌<◌}
use native.Mathlib.Omega.{arith}
use borrow.Author.Tests.{eqb-true, eqb-false, leb-true, leb-false}
use lib.Dec.{eqb, leb}
use lib.ListN.{get_or}
use Rattle.model.specs.Base.{is_some, maybe, then}
use Rattle.model.specs.Forest.{Forest, nil, lit, node, size, kids}
use Rattle.model.specs.Code.{kind, children}
use Rattle.model.specs.Limits.{kind_factor}
use Rattle.model.specs.Rules.{Row, row_of, rewrite}
use Rattle.rule_table.specs.Columns.{kind_for, fewest_for}
use Rattle.theory_forms.specs.Logic.{true_false, either, and_split}
use Rattle.theory_rewriting.specs.Bounds.{past_last}
use Rattle.theory_forms.specs.Numbers.{children_small}
use Rattle.theory_reading.specs.Stretches.{Stretch, forest_in}
use Rattle.theory_rewriting.specs.Heads.{Headed, head_test, head_fails}
use Rattle.theory_rewriting.specs.Children.{headed_group, group_children}
use Rattle.rule_table.specs.Headings.{headed}

and_fails : (a b : Bool) → (a && b) ≡ false → (a ≡ false) ⊎ (b ≡ false)
and_fails true b e = inr e
and_fails false b e = inl refl

-- A number without a row applies nowhere.
rowless : (r i j : ℕ) → row_of r ≡ none → (f : Forest) → rewrite r i j f ≡ none
unfolding rewrite then
rowless r i j e nil = refl
rowless r i j e (lit l f) = refl
rowless r i j e (node c k f) = rw e

-- What the test of the head tells.
module _ (r : ℕ) {l : List ℕ} (s : Stretch l) where
  pub head_right : headed r l ≡ true → Headed r l
  unfolding headed kind_for fewest_for maybe
  head_right h = go (row_of r) refl
    where
      x : ℕ
      x = get_or l 0 0

      go : (o : Option Row) → row_of r ≡ o → Headed r l
      go none e =
          let t : (eqb (kind x) 0 && leb kind_factor (children x)) ≡ true = rw e at h in
          absurd (omega (arith, leb-true kind_factor (children x) (and_split (eqb (kind x) 0) _ t).1, children_small x))
      go (some w) e =
          let t : (eqb (kind x) w.kind && leb w.fewest (children x)) ≡ true = rw e at h in
          let p = and_split (eqb (kind x) w.kind) _ t in
          head_test r w e l s (eqb-true (kind x) w.kind p.0) (leb-true w.fewest (children x) p.1)

  pub head_wrong : headed r l ≡ false → (i j : ℕ) → false ≡ is_some (rewrite r i j (forest_in l))
  unfolding headed kind_for fewest_for maybe is_some
  head_wrong h i j = go (row_of r) refl
    where
      x : ℕ
      x = get_or l 0 0

      go : (o : Option Row) → row_of r ≡ o → false ≡ is_some (rewrite r i j (forest_in l))
      go none e = sym (ap is_some (rowless r i j e (forest_in l)))
      go (some w) e =
          let t : (eqb (kind x) w.kind && leb w.fewest (children x)) ≡ false = rw e at h in
          let bad : (kind x ≡ w.kind → ⊥) ⊎ (children x < w.fewest) =
          ⊎_elim (λ a. inl (eqb-false (kind x) w.kind a)) (λ b. inr (leb-false w.fewest (children x) b)) (and_fails (eqb (kind x) w.kind) _ t) in
          sym (ap is_some (head_fails r w e l s bad i j))

-- A rule that applies finds its head.
pub applied_headed : (r i j : ℕ) {l : List ℕ} → Stretch l → is_some (rewrite r i j (forest_in l)) ≡ true → Headed r l
applied_headed r i j {l} s t =
    ⊎_elim
    (λ h. head_right r s h)
    (λ h. true_false (sym t ∙ sym (head_wrong r s h i j)))
    (either (headed r l))

-- Past the last child no rule applies that names one.
pub past_children :
    (r i j : ℕ) {l : List ℕ} →
    Stretch l →
    Headed r l →
    r ≤ 15 →
    children (get_or l 0 0) ≤ i →
    false ≡ is_some (rewrite r i j (forest_in l))
unfolding kids is_some
past_children r i j {l} s h low past =
    let count : children (get_or l 0 0) ≡ size h.children = group_children (headed_group s h) in
    let few : size (kids (forest_in l)) ≡ size h.children = ap (λ f. size (kids f)) h.forest in
    sym (ap is_some (past_last r i j (forest_in l) low (omega arith)))
