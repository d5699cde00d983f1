-- A rule on a stretch, by the family that its number says.
use Rattle.std.specs.Prelude.{true, List, [], ◌∷◌, map, ◌≡◌, refl, ℕ, zero, suc, ◌+◌, ◌≤◌, leb, length}
use Rattle.std.proofs.Math.Option.{some}
use Rattle.std.proofs.Common.{sym, ap, ◌∙◌, add-zero, arith, le-leb}
use Rattle.std.proofs.lemmas.Bool.{lt-leb}
use Rattle.std.proofs.Math.ListN.{get_elem?}
use Rattle.model.specs.Base.{pick, is_some}
use Rattle.model.specs.Forest.{Forest, ◌⊕◌}
use Rattle.model.specs.Propagation.{count_from}
use Rattle.model.specs.Rules.{Family, absorbs, omits, unwraps, spreads, lifts, merges, factors, drops, decides, renames}
use Rattle.model.specs.Rules.{Row, table, row_of, change, rewrite}
use Rattle.theory_forms.specs.Logic.{none_some, some_inj, is_some_of}
use Rattle.theory_reading.specs.Flat.{spell}
use Rattle.theory_reading.specs.Stretches.{forest_in}
use Rattle.theory_rewriting.specs.Heads.{Headed, rewritten_to}
use Rattle.theory_rewriting.specs.Children.{headed_applies, headed_turn}

-- The family of a rule; of the last ones first.
unfoldable pub last_at : ℕ → Family
last_at r = pick (leb r 14) factors (pick (leb r 15) drops (pick (leb r 16) decides renames))

unfoldable pub family_at : ℕ → Family
family_at r =
    pick (leb r 3)
    absorbs
    (pick (leb r 6) omits (pick (leb r 8) unwraps (pick (leb r 10) spreads (pick (leb r 12) lifts (pick (leb r 13) merges (last_at r))))))

-- The family of each range of rules.
pub family_1 : (r : ℕ) → r ≤ 3 → family_at r ≡ absorbs
unfolding family_at pick
family_1 r b = rw (le-leb r 3 b)

pub family_4 : (r : ℕ) → 4 ≤ r → r ≤ 6 → family_at r ≡ omits
unfolding family_at pick
family_4 r a b = rw (lt-leb r 3 (omega arith), le-leb r 6 b)

pub family_7 : (r : ℕ) → 7 ≤ r → r ≤ 8 → family_at r ≡ unwraps
unfolding family_at pick
family_7 r a b = rw (lt-leb r 3 (omega arith), lt-leb r 6 (omega arith), le-leb r 8 b)

pub family_9 : (r : ℕ) → 9 ≤ r → r ≤ 10 → family_at r ≡ spreads
unfolding family_at pick
family_9 r a b = rw (lt-leb r 3 (omega arith), lt-leb r 6 (omega arith), lt-leb r 8 (omega arith), le-leb r 10 b)

pub family_11 : (r : ℕ) → 11 ≤ r → r ≤ 12 → family_at r ≡ lifts
unfolding family_at pick
family_11 r a b =
    rw (lt-leb r 3 (omega arith), lt-leb r 6 (omega arith), lt-leb r 8 (omega arith), lt-leb r 10 (omega arith), le-leb r 12 b)

pub family_15 : family_at 15 ≡ drops
unfolding family_at last_at pick
family_15 = refl

pub family_16 : family_at 16 ≡ decides
unfolding family_at last_at pick
family_16 = refl

pub family_17 : family_at 17 ≡ renames
unfolding family_at last_at pick
family_17 = refl

in_order : (ws : List Row) (n : ℕ) → map (λ w. w.family) ws ≡ map family_at (count_from n (length ws)) → (r : ℕ) {w : Row} →
    get_elem? ws r ≡ some w → w.family ≡ family_at (n + r)
unfolding count_from
in_order [] n h r e = none_some e
in_order (v ∷ ws) n h zero e =
    let here : v.family ≡ family_at n = cc in
    ap (λ w. w.family) (sym (some_inj e)) ∙ here ∙ ap family_at (sym (add-zero n))
in_order (v ∷ ws) n h (suc r) e =
    let rest : map (λ w. w.family) ws ≡ map family_at (count_from (suc n) (length ws)) = cc in
    in_order ws (suc n) rest r e ∙ ap family_at (omega arith)

pub family_of : (r : ℕ) {w : Row} → row_of r ≡ some w → w.family ≡ family_at r
unfolding row_of table family_at last_at pick count_from
family_of zero e = none_some e
family_of (suc r) e = let next : 1 + r ≡ suc r = omega arith in rw next at (in_order table 1 refl r e)

-- What a rule asks of the children, and what it makes of them.
module _ {r : ℕ} {l : List ℕ} (h : Headed r l) (i j : ℕ) where
  family_change : change h.row.family h.conn i j h.children ≡ change (family_at r) h.conn i j h.children
  family_change = ap (λ x. change x h.conn i j h.children) (family_of r h.its_row)

  pub family_applies : is_some (rewrite r i j (forest_in l)) ≡ is_some (change (family_at r) h.conn i j h.children)
  family_applies = headed_applies h i j ∙ ap is_some family_change

  pub family_turn : {out : List ℕ} (z : ℕ) → is_some (rewrite r i j (forest_in l)) ≡ true →
      ((g : Forest) → change (family_at r) h.conn i j h.children ≡ some g → out ≡ spell (g ⊕ h.rest) z) →
      length out ≡ length l → out ≡ rewritten_to r i j l
  family_turn z t shape n =
      let w = is_some_of (change (family_at r) h.conn i j h.children) (sym family_applies ∙ t) in
      headed_turn h i j z (family_change ∙ w.1) (shape w.0 w.1) n
