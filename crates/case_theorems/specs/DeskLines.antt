-- "Choices from standard input, one a line; the last may lack its line end." Cases have a few lines; here the input is any.
use Rattle.std.specs.Prelude.{true, false, ◌⊎◌, ◌↔◌, ◌≡◌, refl, ℕ, eqb, length}
use mathlib.Core.List.{List, [], ◌∷◌, ◌++◌, map, flatten, append-nil, append_assoc}
use mathlib.Core.List.Memᴰ
use mathlib.Core.List.{Memᴰ}
use Rattle.std.proofs.Common.{inl, inr, ⊎_elim, sym, ap, ap₂, ◌∙◌, arith, eqb-true, ne_eqb}
use Rattle.std.proofs.lemmas.Bool.{eqb-false}
use Rattle.std.proofs.Math.Seq.{append_snoc}
use Rattle.model.specs.Base.{pick}
use Rattle.calls.specs.Desk.{before_line, lines}
use Rattle.theory_forms.specs.Logic.{either, pick_false}

-- No byte is 10.
abbrev pub Without10 : List ℕ → Type 0
Without10 bytes = (x : ℕ) → Memᴰ x bytes → x ≡ 10 → ⊥

-- Byte 10 after each line.
abbrev pub with_ends : List (List ℕ) → List ℕ
with_ends ls = flatten (map (λ l. l ++ (10 ∷ [])) ls)

-- The stretches of the input between bytes 10: some that byte 10 ends, and a rest, which is one more line where it is not empty. No byte
-- of theirs is 10, and with those line ends they are the input.
abbrev pub Stretches : List ℕ → List (List ℕ) → Type 0
Stretches input ls =
    (ended : List (List ℕ))
    × (rest : List ℕ)
    × (input ≡ with_ends ended ++ rest)
    × Without10 (flatten ended ++ rest)
    × (((rest ≡ []) × (ls ≡ ended)) ⊎ ((rest ≡ [] → ⊥) × (ls ≡ ended ++ (rest ∷ []))))

-- The first line, up to its end, and a line without one.
ended_line : (l rest : List ℕ) → Without10 l → lines (l ++ (10 ∷ rest)) ≡ l ∷ lines rest
unfolding lines before_line pick
ended_line [] rest w = refl
ended_line (x ∷ l) rest w =
    pick_false (eqb x 10) _ _ (ne_eqb x 10 (w x (Memᴰ.head refl)))
    ∙ ap (before_line x) (ended_line l rest (λ y m. w y (Memᴰ.tail m)))

last_line : (x : ℕ) (l : List ℕ) → Without10 (x ∷ l) → lines (x ∷ l) ≡ (x ∷ l) ∷ []
unfolding lines before_line pick
last_line x [] w = pick_false (eqb x 10) _ _ (ne_eqb x 10 (w x (Memᴰ.head refl)))
last_line x (y ∷ l) w =
    pick_false (eqb x 10) _ _ (ne_eqb x 10 (w x (Memᴰ.head refl)))
    ∙ ap (before_line x) (last_line y l (λ z m. w z (Memᴰ.tail m)))

-- Lines with their ends, then a rest: those lines, and the lines of the rest.
ended_lines :
    (ls : List (List ℕ)) (rest : List ℕ) →
    Without10 (flatten ls ++ rest) →
    lines (with_ends ls ++ rest) ≡ ls ++ lines rest
unfolding flatten
ended_lines [] rest w = refl
ended_lines (l ∷ ls) rest w =
    ap lines (append_assoc (l ++ (10 ∷ [])) (with_ends ls) rest ∙ append_snoc l 10 (with_ends ls ++ rest))
    ∙ ended_line l (with_ends ls ++ rest) (λ x m. w x (Memᴰ.append_left rest (Memᴰ.append_left (flatten ls) m)))
    ∙ ap (λ r. l ∷ r) (ended_lines ls rest (λ x m. w x (rw (append_assoc l (flatten ls) rest) (Memᴰ.append_right l m))))

-- The lines of a rest without byte 10, after others.
rest_lines :
    (ended : List (List ℕ)) (rest : List ℕ) (ls : List (List ℕ)) →
    Without10 rest →
    (ended ++ lines rest ≡ ls) ↔ (((rest ≡ []) × (ls ≡ ended)) ⊎ ((rest ≡ [] → ⊥) × (ls ≡ ended ++ (rest ∷ []))))
unfolding lines
rest_lines ended [] ls w = (
  λ e. inl (refl, sym e ∙ append-nil ended),
  ⊎_elim (λ k. append-nil ended ∙ sym k.1) (λ k. absurd (k.0 refl)),
)
rest_lines ended (x ∷ l) ls w = (
  λ e. inr (not_empty, sym e ∙ one_more),
  ⊎_elim (λ k. absurd (not_empty k.0)) (λ k. one_more ∙ sym k.1),
)
  where
    not_empty : x ∷ l ≡ [] → ⊥
    not_empty e = let z : ◌≡◌ {A = ℕ} (length (x ∷ l)) 0 = ap length e in omega arith

    one_more : ended ++ lines (x ∷ l) ≡ ended ++ ((x ∷ l) ∷ [])
    one_more = ap (λ r. ended ++ r) (last_line x l w)

-- Every input can be cut so.
abbrev Cut : List ℕ → Type 0
Cut input = (ended : List (List ℕ)) × (rest : List ℕ) × (input ≡ with_ends ended ++ rest) × Without10 (flatten ended ++ rest)

byte_before : (x : ℕ) (bytes : List ℕ) → eqb x 10 ≡ false → Without10 bytes → Without10 (x ∷ bytes)
byte_before x bytes n w y m e = ⊎_elim (λ q. eqb-false x 10 n (sym q ∙ e)) (λ k. w y k e) (Memᴰ.cases_cons m)

cut : (input : List ℕ) → Cut input
unfolding flatten
cut [] = ([], [], refl, λ x m e. Memᴰ.not-nil m)
cut (x ∷ xs) = go (either (eqb x 10)) (cut xs)
  where
    more :
        (ended : List (List ℕ)) (rest : List ℕ) →
        eqb x 10 ≡ false →
        xs ≡ with_ends ended ++ rest →
        Without10 (flatten ended ++ rest) →
        Cut (x ∷ xs)
    more [] rest n e w = ([], x ∷ rest, ap (λ r. x ∷ r) e, byte_before x rest n w)
    more (l ∷ ls) rest n e w = ((x ∷ l) ∷ ls, rest, ap (λ r. x ∷ r) e, byte_before x (flatten (l ∷ ls) ++ rest) n w)

    go : (eqb x 10 ≡ true) ⊎ (eqb x 10 ≡ false) → Cut xs → Cut (x ∷ xs)
    go (inl e) c = ([] ∷ c.0, c.1, ap₂ ◌∷◌ (eqb-true x 10 e) c.2, c.3)
    go (inr n) c = more c.0 c.1 n c.2 c.3

-- The desk's lines are the stretches of its input between bytes 10, and nothing else is.
pub lines_exactly : (input : List ℕ) (ls : List (List ℕ)) → (lines input ≡ ls) ↔ Stretches input ls
lines_exactly input ls = (
  λ e.
      let c = cut input in
      let all = ap lines c.2 ∙ ended_lines c.0 c.1 c.3 in
      (c.0, c.1, c.2, c.3, (rest_lines c.0 c.1 ls (rest_without c.0 c.1 c.3)).0 (sym all ∙ e)),
  λ c.
      ap lines c.2
      ∙ ended_lines c.0 c.1 c.3
      ∙ (rest_lines c.0 c.1 ls (rest_without c.0 c.1 c.3)).1 c.4,
)
  where
    rest_without : (ended : List (List ℕ)) (rest : List ℕ) → Without10 (flatten ended ++ rest) → Without10 rest
    rest_without ended rest w x m = w x (Memᴰ.append_right (flatten ended) m)
