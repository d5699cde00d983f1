-- The lines of an order: which are counted after a keying and a withdrawal; marks put on a sheet one after another.
use Rattle.std.specs.Prelude.{Bool, true, false, ◌≡◌, ltb, length, get_or, take, drop, set}
use mathlib.Core.List.{List, [], ◌∷◌, ◌++◌}
use Rattle.std.proofs.Math.Path.{refl}
use Rattle.std.proofs.Common.{ap, ◌∙◌, arith, add-one, length-append, length-drop, take-suc-set, take_at, length-take-le}
use Prim.Native.Nat.{ℕ, zero, suc, ◌+◌, ◌-◌, ◌*◌, ◌≤◌, ◌<◌}
use borrow.Author.Tests.{ltb-true, lt-ltb}
use Rattle.model.specs.Base.{pick, all}
use Rattle.model.specs.Literal.{option, literal}
use Rattle.model.specs.Code.{weight}
use Rattle.model.specs.Limits.{most_weight, literal_weight}
use Rattle.model.specs.Sheet.{options_in, nodes_in, is_sheet}
use Rattle.model.specs.Results.{appended}
use Rattle.calls.specs.Lines.{Line, without, moved_up, with_marks}
use Rattle.theory_forms.specs.Logic.{and_split}
use Rattle.theory_forms.specs.Choice.{chosen_shaped, chosen_weight}
use Rattle.theory_forms.specs.Sheets.{sheet_shaped, sheet_options, sheet_made, nodes_made, options_made}

-- The option of a line's mark.
pub option_literal : (v : ℕ) (negative : Bool) → option (literal v negative) ≡ v
unfolding option literal pick
option_literal v true = refl
option_literal v false = refl

-- The counted lines once a line is put at the count.
pub keyed_counted : (ls : List Line) (c : ℕ) (l : Line) → c < length ls → take (c + 1) (set ls c l) ≡ take c ls ++ (l ∷ [])
keyed_counted ls c l h = ap (λ n. take n (set ls c l)) (add-one c) ∙ take-suc-set ls c l h

-- One line fewer.
pub without_length : (k : ℕ) (ls : List Line) → k < length ls → length (without k ls) ≡ length ls - 1
unfolding without
without_length k ls h =
    omega (arith, length-append (take k ls) (drop (suc k) ls), length-take-le k ls (omega arith), length-drop (suc k) ls)

-- The counted lines once line k is taken back.
pub withdrawn_counted :
    (k c : ℕ) (ls : List Line) →
    k < c →
    c ≤ length ls →
    take (c - 1) (moved_up k c ls) ≡ without k (take c ls)
unfolding moved_up
withdrawn_counted k c ls h few =
    let whole = length-take-le c ls few in
    let fewer = without_length k (take c ls) (omega arith) in
    take_at (without k (take c ls)) (drop (c - 1) ls) (c - 1) (omega arith)

-- The slots are as many as before.
pub moved_length : (k c : ℕ) (ls : List Line) → k < c → c ≤ length ls → length (moved_up k c ls) ≡ length ls
unfolding moved_up
moved_length k c ls h few =
    let whole = length-take-le c ls few in
    let fewer = without_length k (take c ls) (omega arith) in
    omega (arith, length-append (without k (take c ls)) (drop (c - 1) ls), length-drop (c - 1) ls)

-- What holds of all lines holds of those that stand.
module _ (n : ℕ) where
  abbrev Known : List Line → Type 0
  Known ls = all (λ l. ltb (option l) n) ls ≡ true

  known_append : (xs ys : List Line) → Known xs → Known ys → Known (xs ++ ys)
  unfolding all
  known_append [] ys p q = q
  known_append (x ∷ xs) ys p q = let w = and_split (ltb (option x) n) _ p in rw w.0 (known_append xs ys w.1 q)

  pub known_take : (k : ℕ) (ls : List Line) → Known ls → Known (take k ls)
  unfolding all
  known_take zero ls p = refl
  known_take (suc k) [] p = refl
  known_take (suc k) (x ∷ xs) p = let w = and_split (ltb (option x) n) _ p in rw w.0 (known_take k xs w.1)

  pub known_drop : (k : ℕ) (ls : List Line) → Known ls → Known (drop k ls)
  unfolding all
  known_drop zero ls p = p
  known_drop (suc k) [] p = refl
  known_drop (suc k) (x ∷ xs) p = known_drop k xs (and_split (ltb (option x) n) _ p).1

  pub known_at : (i : ℕ) (ls : List Line) (d : Line) → i < length ls → Known ls → option (get_or ls i d) < n
  unfolding all
  known_at i [] d h p = absurd (omega arith)
  known_at zero (x ∷ xs) d h p = ltb-true (option x) n (and_split (ltb (option x) n) _ p).0
  known_at (suc i) (x ∷ xs) d h p = known_at i xs d (omega arith) (and_split (ltb (option x) n) _ p).1

  pub known_without : (k : ℕ) (ls : List Line) → Known ls → Known (without k ls)
  unfolding without
  known_without k ls p = known_append (take k ls) (drop (suc k) ls) (known_take k ls p) (known_drop (suc k) ls p)

  pub known_more : (ls : List Line) (l : Line) → Known ls → option l < n → Known (ls ++ (l ∷ []))
  unfolding all
  known_more ls l p h = known_append ls (l ∷ []) p (rw (lt-ltb (option l) n h))

-- The sheet after marks for which it has room.
pub record Marked (s : List ℕ) (many : ℕ) (u : List ℕ) : Type 0 where
  pub sheet : is_sheet u ≡ true
  pub options : options_in u ≡ options_in s
  pub weight : weight (nodes_in u) ≡ weight (nodes_in s) + literal_weight * many

pub mark_put :
    (s : List ℕ) (l : Line) →
    is_sheet s ≡ true →
    option l < options_in s →
    weight (nodes_in s) + literal_weight ≤ most_weight →
    Marked s 1 (appended s l)
unfolding appended
mark_put s l h known room =
    let form = sheet_shaped s h in
    let after = chosen_shaped l form known in
    let heavier = chosen_weight l form in
    let back = nodes_made (sheet_options s h) after (omega arith) in
    record {
      sheet = sheet_made (sheet_options s h) after (omega arith);
      options = options_made (options_in s) _;
      weight = ap weight back ∙ heavier;
    }

-- One after another: none of them is refused.
pub marks_put :
    (ls : List Line) (s : List ℕ) →
    is_sheet s ≡ true →
    Known (options_in s) ls →
    weight (nodes_in s) + literal_weight * length ls ≤ most_weight →
    Marked s (length ls) (with_marks s ls)
unfolding with_marks all
marks_put [] s h known room = record { sheet = h; options = refl; weight = omega arith }
marks_put (l ∷ ls) s h known room =
    let w = and_split (ltb (option l) (options_in s)) _ known in
    let one = mark_put s l h (ltb-true (option l) (options_in s) w.0) (omega arith) in
    let more = marks_put ls (appended s l) one.sheet (rw one.options w.1) (omega (arith, one.weight)) in
    record {
      sheet = more.sheet;
      options = more.options ∙ one.options;
      weight = omega (arith, more.weight, one.weight);
    }

-- Marks after marks; the last mark.
pub marks_append : (ks ls : List Line) (s : List ℕ) → with_marks s (ks ++ ls) ≡ with_marks (with_marks s ks) ls
unfolding with_marks
marks_append [] ls s = refl
marks_append (k ∷ ks) ls s = marks_append ks ls (appended s k)

pub marks_last : (ls : List Line) (l : Line) (s : List ℕ) → with_marks s (ls ++ (l ∷ [])) ≡ appended (with_marks s ls) l
unfolding with_marks
marks_last ls l s = marks_append ls (l ∷ []) s
