-- The first tree of a stretch whose head is right for rule 9 or 10: where it ends, and with which children the rule applies.
use mathlib.Core.List.{List}
use mathlib.Core.Option.{Option}
use mathlib.Core.Path.{◌≡◌, refl, ap, ◌∙◌}
use Prim.Native.Nat.{ℕ, ◌≤◌, ◌<◌}
use native.Mathlib.Omega.{arith}
use lib.ListN.{length, get_or, drop}
use Rattle.model.specs.Base.{is_some}
use Rattle.model.specs.Code.{children}
use Rattle.model.specs.Forest.{size}
use Rattle.model.specs.Rules.{rewrite}
use Rattle.theory_reading.specs.Flat.{fits_tree}
use Rattle.theory_reading.specs.Spans.{child_at, span, arity, arity_head}
use Rattle.theory_reading.specs.Stretches.{Stretch, forest_in}
use Rattle.theory_rewriting.specs.Heads.{Headed}
use Rattle.theory_rewriting.specs.Children.{Group, headed_group, group_first, group_children, group_long, child_room}
use Rattle.search_sizes.specs.TreeHops.{span_tree}
use Rattle.rule_spread.specs.Assigning.{spreads_from}
use Rattle.theory_rewriting.specs.Children.{child_inside}
use Rattle.rule_spread.proofs.Spreading.{applies_around}
use Rattle.search_sizes.specs.FirstApplying.{FirstChild, first_same}
use Rattle.search_recurring.specs.Recurring.{EndsAt, FirstAgain}

module _ {r : ℕ} {l : List ℕ} (s : Stretch l) (h : Headed r l) where
  group : Group l h.conn h.children h.rest h.zeros
  group = headed_group s h

  pub first_number : 0 < length l
  first_number = group_long group

  -- A tree is its head and then its children, so it ends where they do.
  head_arity : arity (get_or l 0 0) ≡ size h.children
  head_arity =
      let c = h.conn in
      ap arity (group_first group) ∙ arity_head c (size h.children) (fits_tree c h.children h.rest group.fitting).0

  module _ {end : ℕ} (tree : end ≡ span 1 (drop 0 l)) where
    end_place : end ≡ child_at (size h.children) l
    end_place = tree ∙ omega (arith, span_tree 0 l first_number) ∙ ap (λ k. child_at k l) head_arity

    pub tree_ends : EndsAt end l
    tree_ends =
        record {
          some_head = omega (arith, end_place);
          within = omega (arith, end_place, child_room group (size h.children) (omega arith));
          short = s.short;
          children = λ i m. omega (arith, end_place, child_inside group i (omega (arith, group_children group)));
        }

    -- The rule applies with the children that are literals whose option occurs again.
    module _ (lo : 9 ≤ r) (hi : r ≤ 10) where
      applies : (i : ℕ) → i < children (get_or l 0 0) → spreads_from (child_at i l) end l ≡ is_some (rewrite r i 0 (forest_in l))
      applies i m = rw end_place (applies_around s h i 0 lo hi refl (omega (arith, group_children group)))

      pub again_applies : (o : Option ℕ) → FirstAgain end o l → FirstChild r o l
      again_applies = first_same applies
