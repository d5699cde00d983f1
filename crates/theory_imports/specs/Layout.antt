-- What a clause file does not depend on: comment lines, whether 13 stands before a line end, and which blanks and line ends stand between
-- the words after the p line.
use Rattle.std.specs.Prelude.{Bool, true, false, ◌&&◌, ◌||◌, not, ◌≡◌, eqb, length, get_or}
use mathlib.Core.List.{List, [], ◌∷◌, ◌++◌, append-nil, append_assoc}
use Rattle.std.proofs.Math.Logic.{⊎_elim}
use Rattle.std.proofs.Math.Path.{refl, sym, ap}
use Rattle.std.proofs.Common.{ap₂, ◌∙◌, arith, eq-eqb, ne_eqb, length-append}
use Prim.Native.Nat.{ℕ, ◌≤◌}
use Rattle.std.proofs.lemmas.Bool.{not-true}
use Rattle.model.specs.Base.{pick, then, all}
use Rattle.texts.specs.Decimals.{is_decimal}
use Rattle.texts.specs.ClauseFile.{before_part, parts, plain_ends, lines, past_comments, stated, is_blank, file_stated, file_of_lines, file_of}
use Rattle.theory_forms.specs.Logic.{either, true_false, and_split, or_left, or_neither, pick_true, pick_false}
use Rattle.theory_texts.specs.Breaks.{lines_end, lines_before_end, before_end, lines_other, first_byte, breaks, words_after, words_past, words_alone, words_joined}
use Rattle.theory_texts.specs.PLines.{in_line, p_line, p_in_line}

-- No 13 stands at the end of these bytes: what comes after them is not the rest of a line end.
abbrev pub No13Last : List ℕ → Type 0
No13Last a = (rest : List ℕ) → a ≡ rest ++ (13 ∷ []) → ⊥

no_13_later : (x y : ℕ) (a : List ℕ) → No13Last (x ∷ y ∷ a) → No13Last (y ∷ a)
no_13_later x y a h rest e = h (x ∷ rest) (ap (λ l. x ∷ l) e)

no_13_alone : (x : ℕ) → No13Last (x ∷ []) → eqb x 13 ≡ false
no_13_alone x h = ne_eqb x 13 (λ e. h [] (ap (λ y. y ∷ []) e))

-- Comment lines.

comment_line :
    (c text : List ℕ) →
    all (λ x. not (eqb x 10)) c ≡ true →
    (l : List ℕ) × (lines (c ++ 10 ∷ text) ≡ l ∷ lines text)
unfolding all before_part
comment_line [] text h = ([], lines_end text)
comment_line (x ∷ c) text h =
    let s = and_split (not (eqb x 10)) (all (λ x. not (eqb x 10)) c) h in
    let (l, e) = comment_line c text s.1 in
    first_byte x (c ++ 10 ∷ text)
    (λ t. true_false (sym (eq-eqb x 10 t) ∙ not-true (eqb x 10) s.0))
    (λ t g. (l, ap (λ y. lines (y ∷ (c ++ 10 ∷ text))) t ∙ lines_before_end (c ++ 10 ∷ text) g ∙ e))
    (λ p q. (x ∷ l, lines_other x (c ++ 10 ∷ text) p q ∙ ap (before_part x) e))

past_comment :
    (c text : List ℕ) →
    all (λ x. not (eqb x 10)) c ≡ true →
    past_comments (lines (99 ∷ (c ++ 10 ∷ text))) ≡ past_comments (lines text)
unfolding past_comments pick before_part before_end
past_comment c text h =
    let (l, e) = comment_line c text h in
    ap past_comments (lines_other 99 (c ++ 10 ∷ text) refl refl ∙ ap (before_part 99) e)

pub comment_before : (c text : List ℕ) → all (λ x. not (eqb x 10)) c ≡ true → file_of (99 ∷ (c ++ 10 ∷ text)) ≡ file_of text
unfolding file_of
comment_before c text h = ap file_of_lines (past_comment c text h)

-- Line ends.

plain_13 : (a b : List ℕ) → No13Last a → plain_ends (a ++ 13 ∷ 10 ∷ b) ≡ plain_ends (a ++ 10 ∷ b)
unfolding plain_ends pick
plain_13 [] b h = refl
plain_13 (x ∷ []) b h = rw (no_13_alone x h)
plain_13 (x ∷ y ∷ a) b h = rw (plain_13 (y ∷ a) b (no_13_later x y a h))

pub end_with_13 : (a b : List ℕ) → No13Last a → file_of (a ++ 13 ∷ 10 ∷ b) ≡ file_of (a ++ 10 ∷ b)
unfolding file_of lines
end_with_13 a b h = ap (λ l. file_of_lines (past_comments (parts (λ x. eqb x 10) l))) (plain_13 a b h)

-- Blanks and line ends.

unfoldable pub is_layout : ℕ → Bool
is_layout x = is_blank x || eqb x 10

layout_breaks : (x : ℕ) (b : List ℕ) → is_layout x ≡ true → breaks (x ∷ b) ≡ true
unfolding breaks is_layout
layout_breaks x b h = or_left (before_end x b) h

pub past_layout : (s b : List ℕ) → all is_layout s ≡ true → words_after (s ++ b) ≡ words_after b
unfolding all
past_layout [] b h = refl
past_layout (x ∷ s) b h =
    let e = and_split (is_layout x) (all is_layout s) h in
    words_past x (s ++ b) (layout_breaks x (s ++ b) e.0) ∙ past_layout s b e.1

-- What stands before two texts that both begin at a break joins neither, so it has the same words before both.
module _ (r q : List ℕ) (p : breaks r ≡ true) (o : breaks q ≡ true) where
  same_breaks : (a : List ℕ) → No13Last a → breaks (a ++ r) ≡ breaks (a ++ q)
  unfolding breaks before_end
  same_breaks [] h = p ∙ sym o
  same_breaks (x ∷ []) h = rw (no_13_alone x h)
  same_breaks (x ∷ y ∷ a) h = refl

  one_more :
      (x : ℕ) (a : List ℕ) →
      No13Last (x ∷ a) →
      breaks (a ++ r) ≡ breaks (a ++ q) →
      words_after (a ++ r) ≡ words_after (a ++ q) →
      words_after (x ∷ (a ++ r)) ≡ words_after (x ∷ (a ++ q))
  unfolding before_part
  one_more x a h k e =
      let l : List ℕ = a ++ r in
      let m : List ℕ = a ++ q in
      let first : breaks (x ∷ l) ≡ breaks (x ∷ m) = same_breaks (x ∷ a) h in
      ⊎_elim
      (λ t. words_past x l t ∙ e ∙ sym (words_past x m (sym first ∙ t)))
      (λ f. ⊎_elim
      (λ t. words_alone x l f t ∙ ap (λ ws. (x ∷ []) ∷ ws) e ∙ sym (words_alone x m (sym first ∙ f) (sym k ∙ t)))
      (λ t. words_joined x l f t ∙ ap (before_part x) e ∙ sym (words_joined x m (sym first ∙ f) (sym k ∙ t)))
      (either (breaks l)))
      (either (breaks (x ∷ l)))

  pub same_before : (a : List ℕ) → No13Last a → words_after r ≡ words_after q → words_after (a ++ r) ≡ words_after (a ++ q)
  same_before [] h e = e
  same_before (x ∷ []) h e = one_more x [] h (p ∙ sym o) e
  same_before (x ∷ y ∷ a) h e =
      let later = no_13_later x y a h in one_more x (y ∷ a) h (same_breaks (y ∷ a) later) (same_before (y ∷ a) later e)

-- Any blanks and line ends, at least one, between two stretches of text; and any at all after the last.
run_breaks : (s b : List ℕ) → 1 ≤ length s → all is_layout s ≡ true → breaks (s ++ b) ≡ true
unfolding all
run_breaks [] b n h = absurd (omega arith)
run_breaks (x ∷ s) b n h = layout_breaks x (s ++ b) (and_split (is_layout x) (all is_layout s) h).0

pub words_between :
    (a s t b : List ℕ) →
    No13Last a →
    1 ≤ length s →
    all is_layout s ≡ true →
    1 ≤ length t →
    all is_layout t ≡ true →
    words_after (a ++ (s ++ b)) ≡ words_after (a ++ (t ++ b))
words_between a s t b n i h j k =
    same_before (s ++ b) (t ++ b) (run_breaks s b i h) (run_breaks t b j k) a n (past_layout s b h ∙ sym (past_layout t b k))

ends_break : (s : List ℕ) → all is_layout s ≡ true → breaks s ≡ true
unfolding breaks all
ends_break [] h = refl
ends_break (x ∷ s) h = layout_breaks x s (and_split (is_layout x) (all is_layout s) h).0

pub words_ended : (a s : List ℕ) → No13Last a → all is_layout s ≡ true → words_after (a ++ s) ≡ words_after a
unfolding all
words_ended a s n h =
    let none_left : words_after s ≡ words_after [] = ap words_after (sym (append-nil s)) ∙ past_layout s [] h in
    same_before s [] (ends_break s h) (ends_break [] refl) a n none_left ∙ ap words_after (append-nil a)

-- Up to the end of the p line, and after it.

-- Bytes that are neither 10 nor 13, before a line end, are a line.
line_of : (w b : List ℕ) → all in_line w ≡ true → lines (w ++ 10 ∷ b) ≡ w ∷ lines b
unfolding all in_line before_end before_part
line_of [] b h = lines_end b
line_of (x ∷ w) b h =
    let s = and_split (in_line x) (all in_line w) h in
    let t = or_neither (eqb x 10) (eqb x 13) (not-true (eqb x 10 || eqb x 13) s.0) in
    lines_other x (w ++ 10 ∷ b) t.0 (ap (λ k. k && eqb (get_or (w ++ 10 ∷ b) 0 0) 10) t.1) ∙ ap (before_part x) (line_of w b s.1)

-- Bytes before a line end, cut into lines: the same whatever comes after that line end.
record Front (a b : List ℕ) : Type 0 where
  first : List ℕ
  more : List (List ℕ)
  here : lines (a ++ 10 ∷ b) ≡ (first ∷ more) ++ lines b
  alone : lines (a ++ 10 ∷ []) ≡ (first ∷ more) ++ ([] ∷ [])

no_line : lines [] ≡ [] ∷ []
unfolding lines parts plain_ends
no_line = refl

begins_alike : (a b c : List ℕ) → get_or (a ++ 10 ∷ b) 0 0 ≡ get_or (a ++ 10 ∷ c) 0 0
begins_alike [] b c = refl
begins_alike (x ∷ a) b c = refl

front : (a b : List ℕ) → Front a b
unfolding before_part before_end
front [] b = record { first = []; more = []; here = lines_end b; alone = lines_end [] ∙ ap (λ ls. [] ∷ ls) no_line }
front (x ∷ a) b =
    let f = front a b in
    let l : List ℕ = a ++ 10 ∷ b in
    let m : List ℕ = a ++ 10 ∷ [] in
    let alike : get_or m 0 0 ≡ get_or l 0 0 = begins_alike a [] b in
    first_byte x l
    (λ t.
    record {
      first = [];
      more = f.first ∷ f.more;
      here = ap (λ y. lines (y ∷ l)) t ∙ lines_end l ∙ ap (λ ls. [] ∷ ls) f.here;
      alone = ap (λ y. lines (y ∷ m)) t ∙ lines_end m ∙ ap (λ ls. [] ∷ ls) f.alone;
    })
    (λ t g.
    record {
      first = f.first;
      more = f.more;
      here = ap (λ y. lines (y ∷ l)) t ∙ lines_before_end l g ∙ f.here;
      alone = ap (λ y. lines (y ∷ m)) t ∙ lines_before_end m (alike ∙ g) ∙ f.alone;
    })
    (λ p q.
    record {
      first = x ∷ f.first;
      more = f.more;
      here = lines_other x l p q ∙ ap (before_part x) f.here;
      alone = lines_other x m p (ap (λ k. eqb x 13 && eqb k 10) alike ∙ q) ∙ ap (before_part x) f.alone;
    })

-- Lines that hold one past the comments hold the comments and the p line.
past_front :
    (ls ms : List (List ℕ)) (l : List ℕ) →
    past_comments (ls ++ ([] ∷ [])) ≡ l ∷ [] ∷ [] →
    past_comments (ls ++ ms) ≡ l ∷ ms
unfolding past_comments pick
past_front [] ms l e = absurd (omega (arith, ap length e))
past_front (k ∷ ls) ms l e =
    ⊎_elim
    (λ t. pick_true (eqb (get_or k 0 0) 99) _ _ t ∙ past_front ls ms l (sym (pick_true (eqb (get_or k 0 0) 99) _ _ t) ∙ e))
    (λ t.
    let whole : k ∷ (ls ++ ([] ∷ [])) ≡ l ∷ [] ∷ [] = sym (pick_false (eqb (get_or k 0 0) 99) _ _ t) ∙ e in
    let short : length ls ≡ 0 = omega (arith, ap length whole, length-append ls ([] ∷ [])) in
    pick_false (eqb (get_or k 0 0) 99) _ _ t
    ∙ ap₂ (λ j r. j ∷ (r ++ ms)) (ap (λ r. get_or r 0 []) whole) (no_element ls short))
    (either (eqb (get_or k 0 0) 99))
  where
    no_element : (r : List (List ℕ)) → length r ≡ 0 → r ≡ []
    no_element [] h = refl
    no_element (y ∷ r) h = absurd (omega arith)

-- So the file is what the p line states with the words after it.
pub after_p_line :
    (a b l : List ℕ) →
    past_comments (lines (a ++ 10 ∷ [])) ≡ l ∷ [] ∷ [] →
    file_of (a ++ 10 ∷ b) ≡ then (stated (parts (λ x. eqb x 32) l)) (λ s. file_stated s (words_after b))
unfolding file_of file_of_lines words_after
after_p_line a b l h =
    let f = front a b in
    ap (λ ls. file_of_lines (past_comments ls)) f.here
    ∙ ap file_of_lines (past_front (f.first ∷ f.more) (lines b) l (ap past_comments (sym f.alone) ∙ h))

pub same_words :
    (a b c l : List ℕ) →
    past_comments (lines (a ++ 10 ∷ [])) ≡ l ∷ [] ∷ [] →
    words_after b ≡ words_after c →
    file_of (a ++ 10 ∷ b) ≡ file_of (a ++ 10 ∷ c)
same_words a b c l h e =
    after_p_line a b l h
    ∙ ap (λ ws. then (stated (parts (λ x. eqb x 32) l)) (λ s. file_stated s ws)) e
    ∙ sym (after_p_line a c l h)

-- What comes up to the end of a p line: that line alone, or a comment line before such bytes.
pub p_line_alone : (v c : List ℕ) → is_decimal v ≡ true → is_decimal c ≡ true → past_comments (lines (p_line v c ++ 10 ∷ [])) ≡ p_line v c ∷ [] ∷ []
unfolding past_comments pick p_line
p_line_alone v c dv dc = ap past_comments (line_of (p_line v c) [] (p_in_line v c dv dc) ∙ ap (λ ls. p_line v c ∷ ls) no_line)

pub comment_more :
    (c a l : List ℕ) →
    all (λ x. not (eqb x 10)) c ≡ true →
    past_comments (lines (a ++ 10 ∷ [])) ≡ l ∷ [] ∷ [] →
    past_comments (lines ((99 ∷ (c ++ 10 ∷ a)) ++ 10 ∷ [])) ≡ l ∷ [] ∷ []
comment_more c a l h e =
    ap (λ t. past_comments (lines (99 ∷ t))) (append_assoc c (10 ∷ a) (10 ∷ [])) ∙ past_comment c (a ++ 10 ∷ []) h ∙ e
