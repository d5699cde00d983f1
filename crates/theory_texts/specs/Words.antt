-- The first word after a p line: what stands before the first blank, line end or the end.
use Rattle.std.specs.Prelude.{Bool, true, false, ◌&&◌, ◌||◌, not, List, [], ◌∷◌, ◌++◌, ◌≡◌, refl, ℕ, suc, ◌≤◌, eqb, length, get_or, drop}
use Rattle.std.proofs.Common.{⊎_elim, sym, ap, ◌∙◌, arith}
use Rattle.model.specs.Base.{pick, all}
use Rattle.texts.specs.ClauseFile.{before_part, is_blank}
use Rattle.theory_forms.specs.Logic.{either, true_false, and_split}
use Rattle.theory_texts.specs.Spans.{span}
use Rattle.theory_texts.specs.Breaks.{breaks, before_end, words_after, words_past, words_alone, words_joined}

-- Where no blank stands, a word does, up to the next blank, line end or the end.
pub record FirstWord (b : List ℕ) : Type 0 where
  pub word : List ℕ
  pub rest : List ℕ
  pub both : b ≡ word ++ rest
  pub ended : breaks rest ≡ true
  pub words : words_after b ≡ word ∷ words_after rest

pub first_word : (b : List ℕ) → breaks b ≡ false → FirstWord b
unfolding breaks before_part
first_word [] h = true_false h
first_word (x ∷ b) h =
    ⊎_elim
    (λ e. record { word = x ∷ []; rest = b; both = refl; ended = e; words = words_alone x b h e })
    (λ e.
    let f = first_word b e in
    record {
      word = x ∷ f.word;
      rest = f.rest;
      both = ap (λ r. x ∷ r) f.both;
      ended = f.ended;
      words = words_joined x b h e ∙ ap (before_part x) f.words;
    })
    (either (breaks b))

-- A byte that breaks nothing, whatever comes after it.
unfoldable pub is_solid : ℕ → Bool
is_solid x = not (is_blank x || eqb x 10 || eqb x 13)

pub solid_stays : (x : ℕ) (b : List ℕ) → is_solid x ≡ true → breaks (x ∷ b) ≡ false
unfolding is_solid breaks before_end
solid_stays x b h = go (is_blank x) (eqb x 10) (eqb x 13) h
  where
    go : (a c d : Bool) → not (a || c || d) ≡ true → (a || c || (d && eqb (get_or b 0 0) 10)) ≡ false
    go true c d e = true_false (sym e)
    go false true d e = true_false (sym e)
    go false false true e = true_false (sym e)
    go false false false e = refl

-- Solid bytes before a blank, a line end or the end are the first word.
pub whole_word :
    (w r : List ℕ) →
    1 ≤ length w →
    all is_solid w ≡ true →
    breaks r ≡ true →
    words_after (w ++ r) ≡ w ∷ words_after r
unfolding all before_part
whole_word [] r n h e = absurd (omega arith)
whole_word (x ∷ []) r n h e = words_alone x r (solid_stays x r (and_split (is_solid x) true h).0) e
whole_word (x ∷ y ∷ w) r n h e =
    let s = and_split (is_solid x) (all is_solid (y ∷ w)) h in
    let t = and_split (is_solid y) (all is_solid w) s.1 in
    words_joined x (y ∷ w ++ r) (solid_stays x (y ∷ w ++ r) s.0) (solid_stays y (w ++ r) t.0)
    ∙ ap (before_part x) (whole_word (y ∷ w) r (omega arith) s.1 e)

-- Blanks and line ends passed: the words are the same.
pub blanks_passed : (b : List ℕ) → words_after (drop (span breaks b) b) ≡ words_after b
unfolding span pick
blanks_passed [] = refl
blanks_passed (x ∷ b) =
    ⊎_elim
    (λ e. let s : span breaks (x ∷ b) ≡ suc (span breaks b) = rw e in rw s (blanks_passed b ∙ sym (words_past x b e)))
    (λ e. let s : span breaks (x ∷ b) ≡ 0 = rw e in rw s)
    (either (breaks (x ∷ b)))
