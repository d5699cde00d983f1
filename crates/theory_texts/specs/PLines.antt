-- The p line, byte by byte: what it must begin with, the two numbers, its end; and where a text begins with no such line, no file.
use Rattle.std.specs.Prelude.{Bool, true, false, ◌&&◌, ◌||◌, not, ◌≡◌, refl, ℕ, eqb, length, get_or, take, drop}
use mathlib.Core.List.{List, [], ◌∷◌, ◌++◌, map, flatten, append_assoc}
use Rattle.std.proofs.Common.{⊎_elim, sym, ap₂, ◌∙◌, arith, eqb-true, eq-eqb, ne_eqb, take-append-drop}
use Rattle.std.proofs.Math.Option.{none, some}
use Rattle.std.proofs.Math.Path.{ap}
use Rattle.std.proofs.lemmas.Bool.{not-true}
use Rattle.std.proofs.Math.Seq.{take-append_seam, drop-append_seam}
use Rattle.model.specs.Base.{pick, only_if, then, all, same_list}
use Rattle.model.specs.Book.{between}
use Rattle.texts.specs.Decimals.{is_digit, is_decimal, number_in}
use Rattle.texts.specs.ClauseFile.{before_part, parts, plain_ends, lines, past_comments, is_p_line, stated, not_empty, with_word, words_of_line}
use Rattle.texts.specs.ClauseFile.{file_stated, file_of_lines, file_of}
use Rattle.theory_forms.specs.Logic.{either, true_false, pick_true, pick_false, and_split, and_join, none_if, only_some, then_some, or_split, or_left, or_right, or_neither}
use Rattle.theory_forms.specs.Lists.{all_append, all_weaken}
use Rattle.theory_forms.specs.Placed.{same_list_is}
use Rattle.theory_texts.specs.Breaks.{before_end, lines_end, lines_before_end, lines_other, first_byte, begins_empty, some_part, words_after}
use Rattle.theory_texts.specs.Figures.{digit_range, on_digit, run, run_digits}
use Rattle.theory_texts.specs.Numbers.{decimal_digits}
use Rattle.theory_texts.specs.WordKinds.{digits_of, past_digits}

-- Where a line ends.
unfoldable pub ends_line : List ℕ → Bool
ends_line [] = true
ends_line (x ∷ b) = eqb x 10 || before_end x b

-- Neither 10 nor 13.
unfoldable pub in_line : ℕ → Bool
in_line x = not (eqb x 10 || eqb x 13)

-- A line of such bytes before a line end is the first, and the words after it are those of what follows.
pub record FirstLine (b : List ℕ) : Type 0 where
  pub line : List ℕ
  pub rest : List ℕ
  pub later : List (List ℕ)
  pub both : b ≡ line ++ rest
  pub ended : ends_line rest ≡ true
  pub first : lines b ≡ line ∷ later
  pub words : flatten (map words_of_line later) ≡ words_after rest

-- Nothing before a line end.
line_none : (r : List ℕ) → ends_line r ≡ true → (ls : List (List ℕ)) × (lines r ≡ [] ∷ ls)
unfolding ends_line lines parts plain_ends
line_none [] h = ([], refl)
line_none (x ∷ r) h =
    first_byte x r
    (λ t. (lines r, rw t (lines_end r)))
    (λ t e. let (ls, g) = begins_empty r e in (ls, rw t (lines_before_end r e ∙ g)))
    (λ p q. true_false (sym h ∙ rw (p, q)))

after_empty : (r : List ℕ) {ls : List (List ℕ)} → lines r ≡ [] ∷ ls → flatten (map words_of_line ls) ≡ words_after r
unfolding words_after words_of_line flatten parts not_empty with_word
after_empty r g = rw g

ended_line : (r : List ℕ) → ends_line r ≡ true → FirstLine r
ended_line r h =
    let (ls, g) = line_none r h in
    record { line = []; rest = r; later = ls; both = refl; ended = h; first = g; words = after_empty r g }

one_more : (x : ℕ) (b : List ℕ) → eqb x 10 ≡ false → before_end x b ≡ false → FirstLine b → FirstLine (x ∷ b)
unfolding before_part
one_more x b p q f =
    record {
      line = x ∷ f.line;
      rest = f.rest;
      later = f.later;
      both = ap (λ r. x ∷ r) f.both;
      ended = f.ended;
      first = lines_other x b p q ∙ ap (before_part x) f.first;
      words = f.words;
    }

-- Every text has a first line.
pub first_line : (b : List ℕ) → FirstLine b
unfolding ends_line before_end
first_line [] = ended_line [] refl
first_line (x ∷ b) =
    first_byte x b
    (λ t. ended_line (x ∷ b) (or_left (before_end x b) (eq-eqb x 10 t)))
    (λ t e. ended_line (x ∷ b) (or_right (eqb x 10) (and_join (eq-eqb x 13 t) (eq-eqb (get_or b 0 0) 10 e))))
    (λ p q. one_more x b p q (first_line b))

-- Bytes that are neither 10 nor 13, before a line end, are it.
pub whole_line :
    (w r : List ℕ) →
    all in_line w ≡ true →
    ends_line r ≡ true →
    (ls : List (List ℕ)) × (lines (w ++ r) ≡ w ∷ ls) × (flatten (map words_of_line ls) ≡ words_after r)
unfolding all in_line before_end before_part
whole_line [] r h e = let (ls, g) = line_none r e in (ls, g, after_empty r g)
whole_line (x ∷ w) r h e =
    let s = and_split (in_line x) (all in_line w) h in
    let t = or_neither (eqb x 10) (eqb x 13) (not-true (eqb x 10 || eqb x 13) s.0) in
    let (ls, g, f) = whole_line w r s.1 e in
    (ls, lines_other x (w ++ r) t.0 (ap (λ b. b && eqb (get_or (w ++ r) 0 0) 10) t.1) ∙ ap (before_part x) g, f)

-- Parts between spaces: one that is followed by a space, the last, and all put together again.
abbrev space : ℕ → Bool
space x = eqb x 32

parts_front : (w r : List ℕ) → all (λ x. not (space x)) w ≡ true → parts space (w ++ (32 ∷ r)) ≡ w ∷ parts space r
unfolding all parts pick before_part
parts_front [] r h = refl
parts_front (x ∷ w) r h =
    let s = and_split (not (space x)) (all (λ y. not (space y)) w) h in
    rw (not-true (space x) s.0) (ap (before_part x) (parts_front w r s.1))

parts_last : (w : List ℕ) → all (λ x. not (space x)) w ≡ true → parts space w ≡ w ∷ []
unfolding all parts pick before_part
parts_last [] h = refl
parts_last (x ∷ w) h =
    let s = and_split (not (space x)) (all (λ y. not (space y)) w) h in
    rw (not-true (space x) s.0) (ap (before_part x) (parts_last w s.1))

unfoldable joined : List (List ℕ) → List ℕ
joined [] = []
joined (p ∷ []) = p
joined (p ∷ q ∷ ps) = p ++ (32 ∷ joined (q ∷ ps))

joined_longer : (x : ℕ) (p : List ℕ) (ps : List (List ℕ)) → joined ((x ∷ p) ∷ ps) ≡ x ∷ joined (p ∷ ps)
unfolding joined
joined_longer x p [] = refl
joined_longer x p (q ∷ ps) = refl

parts_joined : (xs : List ℕ) → joined (parts space xs) ≡ xs
unfolding parts pick before_part joined
parts_joined [] = refl
parts_joined (x ∷ xs) =
    let (p, ps, g) = some_part space xs in
    let rest : joined (p ∷ ps) ≡ xs = ap joined (sym g) ∙ parts_joined xs in
    ⊎_elim
    (λ e.
    let f : parts space (x ∷ xs) ≡ [] ∷ (p ∷ ps) = pick_true (space x) _ _ e ∙ ap (λ qs. [] ∷ qs) g in
    ap joined f ∙ ap₂ ◌∷◌ (sym (eqb-true x 32 e)) rest)
    (λ e.
    let f : parts space (x ∷ xs) ≡ (x ∷ p) ∷ ps = pick_false (space x) _ _ e ∙ ap (before_part x) g in
    ap joined f ∙ joined_longer x p ps ∙ ap (λ r. x ∷ r) rest)
    (either (space x))

-- The p line of two numbers, as bytes.
unfoldable pub p_line : List ℕ → List ℕ → List ℕ
p_line v c = 112 ∷ 32 ∷ 99 ∷ 110 ∷ 102 ∷ 32 ∷ v ++ (32 ∷ c)

digit_plain : (x : ℕ) → is_digit x ≡ true → (in_line x && not (space x)) ≡ true
unfolding in_line
digit_plain x h =
    let r = digit_range x h in
    rw (ne_eqb x 10 (λ e. omega arith), ne_eqb x 13 (λ e. omega arith), ne_eqb x 32 (λ e. omega arith))

module _ (v c : List ℕ) (dv : is_decimal v ≡ true) (dc : is_decimal c ≡ true) where
  no_space : (w : List ℕ) → is_decimal w ≡ true → all (λ x. not (space x)) w ≡ true
  no_space w h =
      all_weaken is_digit (λ x. not (space x)) (λ x e. (and_split (in_line x) (not (space x)) (digit_plain x e)).1) w (decimal_digits w h)

  no_end : (w : List ℕ) → is_decimal w ≡ true → all in_line w ≡ true
  no_end w h =
      all_weaken is_digit in_line (λ x e. (and_split (in_line x) (not (space x)) (digit_plain x e)).0) w (decimal_digits w h)

  p_parts : parts space (p_line v c) ≡ (112 ∷ []) ∷ (99 ∷ 110 ∷ 102 ∷ []) ∷ v ∷ c ∷ []
  unfolding p_line parts pick before_part
  p_parts = rw (parts_front v c (no_space v dv), parts_last c (no_space c dc))

  p_stated : stated (parts space (p_line v c)) ≡ some (record { options = number_in v; clauses = number_in c })
  unfolding stated is_p_line only_if same_list
  p_stated = rw (p_parts, dv, dc)

  pub p_in_line : all in_line (p_line v c) ≡ true
  unfolding p_line all in_line
  p_in_line = all_append in_line v (32 ∷ c) ∙ rw (no_end v dv, no_end c dc)

  p_first : (ls : List (List ℕ)) →
      file_of_lines (past_comments (p_line v c ∷ ls))
      ≡ file_stated (record { options = number_in v; clauses = number_in c }) (flatten (map words_of_line ls))
  unfolding past_comments pick file_of_lines then p_line
  p_first ls = ap (λ o. then o (λ s. file_stated s (flatten (map words_of_line ls)))) p_stated

  pub p_line_read : (r : List ℕ) → ends_line r ≡ true →
      file_of (p_line v c ++ r) ≡ file_stated (record { options = number_in v; clauses = number_in c }) (words_after r)
  unfolding file_of
  p_line_read r e =
      let (ls, g, f) = whole_line (p_line v c) r p_in_line e in
      ap (λ xs. file_of_lines (past_comments xs)) g
      ∙ p_first ls
      ∙ ap (λ ws. file_stated (record { options = number_in v; clauses = number_in c }) ws) f

-- The bytes that a text with a p line begins with, tested one after another.
unfoldable pub first_number : List ℕ → List ℕ
first_number b = drop 6 b

unfoldable pub second_number : List ℕ → List ℕ
second_number b = drop 1 (past_digits (first_number b))

unfoldable pub has_p_line : List ℕ → Bool
has_p_line b =
    same_list (take 6 b) (112 ∷ 32 ∷ 99 ∷ 110 ∷ 102 ∷ 32 ∷ [])
    && (is_decimal (digits_of (first_number b))
    && (eqb (get_or (past_digits (first_number b)) 0 0) 32
    && (is_decimal (digits_of (second_number b))
    && ends_line (past_digits (second_number b)))))

first_is : (b : List ℕ) → eqb (get_or b 0 0) 32 ≡ true → b ≡ 32 ∷ drop 1 b
first_is [] h = absurd (omega (arith, eqb-true 0 32 h))
first_is (x ∷ b) h = ap (λ y. y ∷ b) (eqb-true x 32 h)

-- What each test says.
pub record HasPLine (b : List ℕ) : Type 0 where
  pub options : is_decimal (digits_of (first_number b)) ≡ true
  pub clauses : is_decimal (digits_of (second_number b)) ≡ true
  pub ended : ends_line (past_digits (second_number b)) ≡ true
  pub whole : b ≡ p_line (digits_of (first_number b)) (digits_of (second_number b)) ++ past_digits (second_number b)

pub p_line_has : (b : List ℕ) → has_p_line b ≡ true → HasPLine b
unfolding has_p_line p_line first_number second_number
p_line_has b h =
    let front = same_list (take 6 b) (112 ∷ 32 ∷ 99 ∷ 110 ∷ 102 ∷ 32 ∷ []) in
    let s = and_split front _ h in
    let t = and_split (is_decimal (digits_of (first_number b))) _ s.1 in
    let u = and_split (eqb (get_or (past_digits (first_number b)) 0 0) 32) _ t.1 in
    let w = and_split (is_decimal (digits_of (second_number b))) (ends_line (past_digits (second_number b))) u.1 in
    record {
      options = t.0;
      clauses = w.0;
      ended = w.1;
      whole =
          sym (take-append-drop 6 b)
          ∙ ap₂ ◌++◌ ((same_list_is (take 6 b) (112 ∷ 32 ∷ 99 ∷ 110 ∷ 102 ∷ 32 ∷ [])).0 s.0) (one u.0 ∙ sym (append_assoc v (32 ∷ c) r));
    }
  where
    v : List ℕ
    v = digits_of (first_number b)

    c : List ℕ
    c = digits_of (second_number b)

    r : List ℕ
    r = past_digits (second_number b)

    one : eqb (get_or (past_digits (first_number b)) 0 0) 32 ≡ true → first_number b ≡ v ++ (32 ∷ (c ++ r))
    one h =
        sym (take-append-drop (run (first_number b)) (first_number b))
        ∙ ap (λ x. v ++ x) (first_is (past_digits (first_number b)) h ∙ ap (λ x. 32 ∷ x) (sym (take-append-drop (run (second_number b)) (second_number b))))

-- Digits before something else are the digits that a text begins with.
digits_front : (d r : List ℕ) → is_decimal d ≡ true → on_digit r ≡ false → (digits_of (d ++ r) ≡ d) × (past_digits (d ++ r) ≡ r)
digits_front d r h e =
    let k = run_digits d r (decimal_digits d h) e in
    (ap (λ n. take n (d ++ r)) k ∙ take-append_seam d r, ap (λ n. drop n (d ++ r)) k ∙ drop-append_seam d r)

ends_no_digit : (r : List ℕ) → ends_line r ≡ true → on_digit r ≡ false
unfolding ends_line before_end is_digit between
ends_no_digit [] h = refl
ends_no_digit (x ∷ r) h =
    ⊎_elim
    (λ e. rw (eqb-true x 10 e))
    (λ e. rw (eqb-true x 13 (and_split (eqb x 13) (eqb (get_or r 0 0) 10) e).0))
    (or_split (eqb x 10) (before_end x r) h)

-- And a text that begins with a p line passes them.
p_line_passes :
    (v c r : List ℕ) →
    is_decimal v ≡ true →
    is_decimal c ≡ true →
    ends_line r ≡ true →
    has_p_line (p_line v c ++ r) ≡ true
unfolding has_p_line first_number second_number p_line same_list is_digit between
p_line_passes v c r dv dc e =
    let f = append_assoc v (32 ∷ c) r in
    let (d, p) = digits_front v (32 ∷ (c ++ r)) dv refl in
    let (b, q) = digits_front c r dc (ends_no_digit r e) in
    let rest : past_digits ((v ++ (32 ∷ c)) ++ r) ≡ 32 ∷ (c ++ r) = ap (λ x. past_digits x) f ∙ p in
    and_join (ap (λ x. is_decimal (digits_of x)) f ∙ ap is_decimal d ∙ dv)
    (and_join (ap (λ x. eqb (get_or x 0 0) 32) rest)
    (and_join (ap (λ x. is_decimal (digits_of (drop 1 x))) rest ∙ ap is_decimal b ∙ dc)
    (ap (λ x. ends_line (past_digits (drop 1 x))) rest ∙ ap ends_line q ∙ e)))

-- A line that states V and C is a p line.
four_parts : (ps : List (List ℕ)) → length ps ≡ 4 → ps ≡ get_or ps 0 [] ∷ get_or ps 1 [] ∷ get_or ps 2 [] ∷ get_or ps 3 [] ∷ []
four_parts [] h = absurd (omega (arith, h))
four_parts (a ∷ []) h = absurd (omega (arith, h))
four_parts (a ∷ b ∷ []) h = absurd (omega (arith, h))
four_parts (a ∷ b ∷ c ∷ []) h = absurd (omega (arith, h))
four_parts (a ∷ b ∷ c ∷ d ∷ []) h = refl
four_parts (a ∷ b ∷ c ∷ d ∷ e ∷ ps) h = absurd (omega (arith, h))

pub record IsPLine (l : List ℕ) : Type 0 where
  pub v : List ℕ
  pub c : List ℕ
  pub options : is_decimal v ≡ true
  pub clauses : is_decimal c ≡ true
  pub whole : l ≡ p_line v c

stated_p_line : (l : List ℕ) → is_p_line (parts space l) ≡ true → IsPLine l
unfolding is_p_line p_line joined
stated_p_line l h =
    let ps = parts space l in
    let s = and_split (eqb (length ps) 4 && same_list (get_or ps 0 []) (112 ∷ []) && same_list (get_or ps 1 []) (99 ∷ 110 ∷ 102 ∷ []) && is_decimal (get_or ps 2 [])) (is_decimal (get_or ps 3 [])) h in
    let t = and_split (eqb (length ps) 4 && same_list (get_or ps 0 []) (112 ∷ []) && same_list (get_or ps 1 []) (99 ∷ 110 ∷ 102 ∷ [])) (is_decimal (get_or ps 2 [])) s.0 in
    let u = and_split (eqb (length ps) 4 && same_list (get_or ps 0 []) (112 ∷ [])) (same_list (get_or ps 1 []) (99 ∷ 110 ∷ 102 ∷ [])) t.0 in
    let w = and_split (eqb (length ps) 4) (same_list (get_or ps 0 []) (112 ∷ [])) u.0 in
    record {
      v = get_or ps 2 [];
      c = get_or ps 3 [];
      options = t.1;
      clauses = s.1;
      whole =
          sym (parts_joined l)
          ∙ ap joined (four_parts ps (eqb-true (length ps) 4 w.0))
          ∙ ap₂ (λ a b. a ++ (32 ∷ (b ++ (32 ∷ (get_or ps 2 [] ++ (32 ∷ get_or ps 3 []))))))
          ((same_list_is (get_or ps 0 []) (112 ∷ [])).0 w.1) ((same_list_is (get_or ps 1 []) (99 ∷ 110 ∷ 102 ∷ [])).0 u.1);
    }

-- A text that begins with neither a comment nor a p line is no clause file.
no_comment : (b l : List ℕ) (ls : List (List ℕ)) (r : List ℕ) → b ≡ l ++ r → eqb (get_or b 0 0) 99 ≡ false → past_comments (l ∷ ls) ≡ l ∷ ls
unfolding past_comments pick
no_comment b [] ls r e h = refl
no_comment b (x ∷ l) ls r e h = rw (ap (λ y. eqb (get_or y 0 0) 99) (sym e) ∙ h)

pub no_p_line : (b : List ℕ) → eqb (get_or b 0 0) 99 ≡ false → has_p_line b ≡ false → file_of b ≡ none
unfolding file_of file_of_lines stated
no_p_line b h n =
    let f = first_line b in
    none_if (file_of b) (λ a e.
    let read : then (stated (parts space f.line)) (λ s. file_stated s (flatten (map words_of_line f.later))) ≡ some a =
    sym (ap (λ ls. file_of_lines (past_comments ls)) f.first ∙ ap file_of_lines (no_comment b f.line f.later f.rest f.both h)) ∙ e in
    let (s, g, k) = then_some (stated (parts space f.line)) _ read in
    let p = stated_p_line f.line (only_some (is_p_line (parts space f.line)) _ g).0 in
    true_false (sym (p_line_passes p.v p.c f.rest p.options p.clauses f.ended) ∙ ap has_p_line (ap (λ l. l ++ f.rest) (sym p.whole) ∙ sym f.both) ∙ n))

-- With one, it is the file that the p line states and the words after it give.
pub with_p_line :
    (b : List ℕ) →
    has_p_line b ≡ true →
    file_of b
    ≡ file_stated
    (record { options = number_in (digits_of (first_number b)); clauses = number_in (digits_of (second_number b)) })
    (words_after (past_digits (second_number b)))
with_p_line b h =
    let p = p_line_has b h in
    ap file_of p.whole
    ∙ p_line_read (digits_of (first_number b)) (digits_of (second_number b)) p.options p.clauses (past_digits (second_number b)) p.ended
