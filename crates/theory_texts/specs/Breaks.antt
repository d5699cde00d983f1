-- Lines of a text, and the words after its p line, from the first byte on.
use Rattle.std.specs.Prelude.{Bool, true, false, ◌&&◌, ◌||◌, ◌≡◌, refl, ℕ, get_or}
use mathlib.Core.List.{List, [], ◌∷◌, ◌++◌, map, flatten}
use Rattle.std.proofs.Math.Logic.{⊎_elim}
use Rattle.std.proofs.Math.Path.{sym, ap}
use Rattle.std.proofs.Common.{◌∙◌, arith}
use borrow.Author.Tests.{eqb-true, eq-eqb}
use Rattle.std.proofs.Math.Dec.{eqb}
use Rattle.model.specs.Base.{pick}
use Rattle.texts.specs.ClauseFile.{before_part, parts, plain_ends, lines, is_blank, with_word, not_empty, words_of_line}
use Rattle.theory_forms.specs.Logic.{either, true_false, and_split, or_split, or_neither}

-- A list is never cut into nothing.
pub some_part : (cuts : ℕ → Bool) (xs : List ℕ) → (p : List ℕ) × (ps : List (List ℕ)) × (parts cuts xs ≡ p ∷ ps)
unfolding parts pick before_part
some_part cuts [] = ([], [], refl)
some_part cuts (x ∷ xs) = go (cuts x) (some_part cuts xs)
  where
    go :
        (b : Bool) →
        (p : List ℕ) × (ps : List (List ℕ)) × (parts cuts xs ≡ p ∷ ps) →
        (p : List ℕ) × (ps : List (List ℕ)) × (pick b ([] ∷ parts cuts xs) (before_part x (parts cuts xs)) ≡ p ∷ ps)
    go true s = ([], parts cuts xs, refl)
    go false (p, ps, e) = (x ∷ p, ps, ap (before_part x) e)

-- A line end, a 13 before one, and any other byte, at the start of a text.
pub lines_end : (b : List ℕ) → lines (10 ∷ b) ≡ [] ∷ lines b
unfolding lines parts plain_ends pick
lines_end b = refl

pub lines_before_end : (b : List ℕ) → get_or b 0 0 ≡ 10 → lines (13 ∷ b) ≡ lines b
unfolding lines plain_ends pick
lines_before_end b e = rw (eq-eqb (get_or b 0 0) 10 e)

-- Whether a 13 here belongs to a line end.
unfoldable pub before_end : ℕ → List ℕ → Bool
before_end x b = eqb x 13 && eqb (get_or b 0 0) 10

pub lines_other : (x : ℕ) (b : List ℕ) → eqb x 10 ≡ false → before_end x b ≡ false → lines (x ∷ b) ≡ before_part x (lines b)
unfolding lines parts plain_ends pick before_end
lines_other x b e f = rw (f, e)

-- Whether a blank, a line end or the end of the text stands here: no word begins, and one before it has ended.
unfoldable pub breaks : List ℕ → Bool
breaks [] = true
breaks (x ∷ b) = is_blank x || eqb x 10 || before_end x b

-- The words after a p line, of the bytes that follow its line.
unfoldable pub words_after : List ℕ → List (List ℕ)
words_after b = flatten (map words_of_line (lines b))

-- A byte before a line: a blank leaves its words; another is a word of its own before a blank or the end, else part of the first one.
unfoldable pub line_breaks : List ℕ → Bool
line_breaks [] = true
line_breaks (x ∷ l) = is_blank x

line_blank : (x : ℕ) (l : List ℕ) → is_blank x ≡ true → words_of_line (x ∷ l) ≡ words_of_line l
unfolding words_of_line parts pick not_empty with_word
line_blank x l e = rw e

-- The first part of a line is empty exactly where the line breaks.
line_alone : (x : ℕ) (l : List ℕ) → is_blank x ≡ false → line_breaks l ≡ true → words_of_line (x ∷ l) ≡ (x ∷ []) ∷ words_of_line l
unfolding words_of_line parts pick not_empty with_word before_part line_breaks
line_alone x [] e f = rw e
line_alone x (y ∷ l) e f = rw (e, f)

line_joined :
    (x : ℕ) (l : List ℕ) →
    is_blank x ≡ false →
    line_breaks l ≡ false →
    words_of_line (x ∷ l) ≡ before_part x (words_of_line l)
unfolding words_of_line parts pick not_empty with_word before_part line_breaks
line_joined x [] e f = true_false f
line_joined x (y ∷ l) e f = let (p, ps, g) = some_part is_blank l in rw (e, f, g)

some_word : (l : List ℕ) → line_breaks l ≡ false → (w : List ℕ) × (ws : List (List ℕ)) × (words_of_line l ≡ w ∷ ws)
unfolding words_of_line parts pick not_empty with_word before_part line_breaks
some_word [] f = true_false f
some_word (y ∷ l) f = let (p, ps, g) = some_part is_blank l in (y ∷ p, not_empty ps, rw (f, g))

pub some_line : (b : List ℕ) → (l : List ℕ) × (ls : List (List ℕ)) × (lines b ≡ l ∷ ls)
unfolding lines
some_line b = some_part (λ x. eqb x 10) (plain_ends b)

first_inj : {l m : List ℕ} {ls ms : List (List ℕ)} → l ∷ ls ≡ m ∷ ms → l ≡ m
first_inj e = ap (λ xss. get_or xss 0 []) e

-- The first line of a text breaks where the text does.
before_end_is : (x : ℕ) (b : List ℕ) → before_end x b ≡ true → (x ≡ 13) × (get_or b 0 0 ≡ 10)
unfolding before_end
before_end_is x b e =
    let s = and_split (eqb x 13) (eqb (get_or b 0 0) 10) e in (eqb-true x 13 s.0, eqb-true (get_or b 0 0) 10 s.1)

pub begins_empty : (b : List ℕ) → get_or b 0 0 ≡ 10 → (ls : List (List ℕ)) × (lines b ≡ [] ∷ ls)
begins_empty [] e = absurd (omega (arith, e))
begins_empty (y ∷ c) e = (lines c, rw e (lines_end c))

or_alone : (a b c : Bool) → b ≡ false → c ≡ false → a ≡ (a || b || c)
or_alone true b c e f = refl
or_alone false b c e f = rw (e, f)

-- What a byte at the start of a text is: a line end, a 13 before one, or another.
pub first_byte :
    {P : Type 0} (x : ℕ) (b : List ℕ) →
    (x ≡ 10 → P) →
    (x ≡ 13 → get_or b 0 0 ≡ 10 → P) →
    (eqb x 10 ≡ false → before_end x b ≡ false → P) →
    P
first_byte x b ends before other =
    ⊎_elim
    (λ e. ends (eqb-true x 10 e))
    (λ e. ⊎_elim
    (λ f. let s = before_end_is x b f in before s.0 s.1)
    (λ f. other e f)
    (either (before_end x b)))
    (either (eqb x 10))

first_breaks : (b : List ℕ) {l : List ℕ} {ls : List (List ℕ)} → lines b ≡ l ∷ ls → line_breaks l ≡ breaks b
unfolding breaks line_breaks lines parts plain_ends is_blank before_end before_part
first_breaks [] e = ap line_breaks (sym (first_inj e))
first_breaks (x ∷ b) {l} {ls} e =
    first_byte x b
    (λ t. let f : lines (x ∷ b) ≡ [] ∷ lines b = rw t (lines_end b) in
    ap line_breaks (first_inj (sym e ∙ f)) ∙ rw t)
    (λ t h. let (ls, g) = begins_empty b h in
    let f : lines (x ∷ b) ≡ [] ∷ ls = rw t (lines_before_end b h ∙ g) in
    ap line_breaks (first_inj (sym e ∙ f)) ∙ rw (t, eq-eqb (get_or b 0 0) 10 h))
    (λ p q. let (m, ms, g) = some_line b in
    let f : lines (x ∷ b) ≡ (x ∷ m) ∷ ms = lines_other x b p q ∙ ap (before_part x) g in
    ap line_breaks (first_inj (sym e ∙ f)) ∙ or_alone (is_blank x) (eqb x 10) (before_end x b) p q)

-- What a byte does to the words after it, where a blank or a line end stands and where not.
module _ (x : ℕ) (b : List ℕ) where
  blank_other : is_blank x ≡ true → (eqb x 10 ≡ false) × (before_end x b ≡ false)
  unfolding is_blank before_end
  blank_other e =
      ⊎_elim (λ f. let t = eqb-true x 32 f in (rw t, rw t)) (λ f. let t = eqb-true x 9 f in (rw t, rw t))
      (or_split (eqb x 32) (eqb x 9) e)

  by_line : (p : eqb x 10 ≡ false) (q : before_end x b ≡ false) {l : List ℕ} {ls : List (List ℕ)} →
      lines b ≡ l ∷ ls → words_after (x ∷ b) ≡ words_of_line (x ∷ l) ++ flatten (map words_of_line ls)
  unfolding words_after flatten before_part
  by_line p q g = rw (lines_other x b p q, g)

  of_first : {l : List ℕ} {ls : List (List ℕ)} → lines b ≡ l ∷ ls → words_after b ≡ words_of_line l ++ flatten (map words_of_line ls)
  unfolding words_after flatten
  of_first g = rw g

  pub words_past : breaks (x ∷ b) ≡ true → words_after (x ∷ b) ≡ words_after b
  unfolding words_after flatten breaks words_of_line parts not_empty with_word
  words_past h =
      first_byte x b
      (λ t. rw (t, lines_end b))
      (λ t e. rw (t, lines_before_end b e))
      (λ p q. let (l, ls, g) = some_line b in
      by_line p q g ∙ ap (λ ws. ws ++ flatten (map words_of_line ls)) (line_blank x l (or_alone (is_blank x) (eqb x 10) (before_end x b) p q ∙ h)) ∙ sym (of_first g))

  -- Bytes that break nothing: their own tests fail.
  solid : breaks (x ∷ b) ≡ false → (is_blank x ≡ false) × (eqb x 10 ≡ false) × (before_end x b ≡ false)
  unfolding breaks
  solid h =
      let s = or_neither (is_blank x || eqb x 10) (before_end x b) h in
      let t = or_neither (is_blank x) (eqb x 10) s.0 in (t.0, t.1, s.1)

  pub words_alone : breaks (x ∷ b) ≡ false → breaks b ≡ true → words_after (x ∷ b) ≡ (x ∷ []) ∷ words_after b
  words_alone h e =
      let (c, p, q) = solid h in
      let (l, ls, g) = some_line b in
      by_line p q g ∙ ap (λ ws. ws ++ flatten (map words_of_line ls)) (line_alone x l c (first_breaks b g ∙ e)) ∙ ap (λ ws. (x ∷ []) ∷ ws) (sym (of_first g))

  joined_first : (l : List ℕ) → line_breaks l ≡ false → (ws : List (List ℕ)) →
      before_part x (words_of_line l) ++ ws ≡ before_part x (words_of_line l ++ ws)
  unfolding before_part
  joined_first l f ws = let (v, vs, g) = some_word l f in rw g

  pub words_joined : breaks (x ∷ b) ≡ false → breaks b ≡ false → words_after (x ∷ b) ≡ before_part x (words_after b)
  words_joined h e =
      let (c, p, q) = solid h in
      let (l, ls, g) = some_line b in
      let f = first_breaks b g ∙ e in
      by_line p q g ∙ ap (λ ws. ws ++ flatten (map words_of_line ls)) (line_joined x l c f) ∙ joined_first l f (flatten (map words_of_line ls)) ∙ ap (before_part x) (sym (of_first g))
