-- The verdict on a text: from the count of its words, and the number of clauses that its p line states.
use mathlib.Core.Bool.{true, false}
use mathlib.Core.List.{List, [], ◌∷◌, flatten}
use mathlib.Core.Option.{Option, none, some}
use mathlib.Core.Path.{◌≡◌, refl, sym, ap, ap₂, ◌∙◌}
use Prim.Native.Nat.{ℕ, ◌+◌, ◌-◌, ◌≤◌}
use native.Mathlib.Omega.{arith}
use lib.Dec.{eqb}
use lib.ListN.{length, get_or, take, drop}
use lib.Seq.{drop-drop}
use Rattle.model.specs.Base.{only_if, then}
use Rattle.model.specs.Clauses.{Clause}
use Rattle.texts.specs.ClauseFile.{clauses_of_words, File, file_stated, file_of}
use Rattle.theory_forms.specs.Logic.{none_some, some_inj, then_some}
use Rattle.texts.specs.Decimals.{is_decimal, number_in}
use Rattle.theory_texts.specs.Breaks.{words_after}
use Rattle.theory_texts.specs.Figures.{run}
use Rattle.theory_texts.specs.WordKinds.{digits_of, past_digits}
use Rattle.theory_texts.specs.FromPlaces.{digits_between, rest_after}
use Rattle.theory_texts.specs.PLines.{first_number, second_number, has_p_line, no_p_line, with_p_line}
use Rattle.theory_texts.specs.Tally as counts
use Rattle.import_head.specs.declared.Head.{Head}
use Rattle.import_judge.specs.declared.Tally.{Tally}
use Rattle.import_head.specs.Heads.{Stands}
use Rattle.import_judge.specs.Judging.{stated_at, PlacedHead, Gives}

-- What a count says of the clauses that were read.
counted_some : (cs : List Clause) → counts.counted 0 0 false cs ≡ some (counts.tallied (length cs) (length (flatten cs)))
unfolding counts.counted only_if flatten
counted_some [] = refl
counted_some (c ∷ cs) = ap₂ (λ a b. some (counts.tallied a b)) (omega arith) (omega arith)

module _ (n : ℕ) (ws : List (List ℕ)) where
  no_clauses_read : none ≡ counts.tally n 0 0 false ws → clauses_of_words n ws ≡ none
  unfolding then
  no_clauses_read e = go (clauses_of_words n ws) (e ∙ counts.tally_counts n 0 0 false ws)
    where
      go : (o : Option (List Clause)) → none ≡ then o (counts.counted 0 0 false) → o ≡ none
      go none h = refl
      go (some cs) h = none_some (h ∙ counted_some cs)

  -- Clauses that were counted: how many, and how many marks.
  pub record Read (k m : ℕ) : Type 0 where
    pub clauses : List Clause
    pub are : clauses_of_words n ws ≡ some clauses
    pub many : k ≡ length clauses
    pub marks : m ≡ length (flatten clauses)

  clauses_read : (k m : ℕ) → some (counts.tallied k m) ≡ counts.tally n 0 0 false ws → Read k m
  clauses_read k m e =
      let (cs, f, g) = then_some (clauses_of_words n ws) (counts.counted 0 0 false) (sym (counts.tally_counts n 0 0 false ws) ∙ sym e) in
      let t = some_inj (sym g ∙ counted_some cs) in
      record { clauses = cs; are = f; many = ap (λ u. u.clauses) t; marks = ap (λ u. u.marks) t }

  -- The verdict.
  module _ (c : ℕ) where
    abbrev stated : Option File
    stated = file_stated (record { options = n; clauses = c }) ws

    pub not_counted : none ≡ counts.tally n 0 0 false ws → stated ≡ none
    unfolding file_stated then
    not_counted e = rw (no_clauses_read e)

    pub other_count : (k m : ℕ) → some (counts.tallied k m) ≡ counts.tally n 0 0 false ws → eqb k c ≡ false → stated ≡ none
    unfolding file_stated then only_if
    other_count k m e f = let r = clauses_read k m e in rw (r.are, ← r.many, f)

    pub right_count : (k m : ℕ) → some (counts.tallied k m) ≡ counts.tally n 0 0 false ws → eqb k c ≡ true →
        (r : Read k m) × (stated ≡ some (record { options = n; clauses = r.clauses }))
    unfolding file_stated then only_if
    right_count k m e f = let r = clauses_read k m e in (r, rw (r.are, ← r.many, f))

-- A head that stands in a text: the ends of its digits, as far as they go.
module _ {text : List ℕ} {at : ℕ} {h : Head} (s : Stands text at h) where
  near : h.space ≡ h.options + run (drop h.options text)
  near = rw (s.rest.between, s.rest.first) s.far

  far : h.body ≡ h.clauses + run (drop h.clauses text)
  far = rw s.rest.second s.rest.last

  pub stands_placed : PlacedHead text h
  stands_placed =
      let r = s.rest in
      record {
        options_order = omega (arith, near);
        clauses_order = omega (arith, far);
        within = (omega (arith, r.within, far, r.second, r.between), r.within);
        options = ap is_decimal (digits_between text h.options h.space near) ∙ ap (λ k. is_decimal (digits_of (drop k text))) r.first ∙ s.decimal;
        clauses = ap is_decimal (digits_between text h.clauses h.body far) ∙ ap (λ k. is_decimal (digits_of (drop k text))) r.second ∙ r.decimal;
      }

  first_there : first_number (drop at text) ≡ drop h.options text
  unfolding first_number
  first_there = drop-drop 6 at text ∙ ap (λ k. drop k text) (sym s.rest.first)

  second_there : second_number (drop at text) ≡ drop h.clauses text
  unfolding second_number
  second_there =
      ap (λ b. drop 1 (past_digits b)) first_there
      ∙ ap (drop 1) (sym (rest_after text h.options h.space near))
      ∙ drop-drop 1 h.space text
      ∙ ap (λ k. drop (k + 1) text) s.rest.between
      ∙ ap (λ k. drop k text) (sym s.rest.second)

  pub head_read :
      file_stated
      (record { options = number_in (digits_of (first_number (drop at text))); clauses = number_in (digits_of (second_number (drop at text))) })
      (words_after (past_digits (second_number (drop at text))))
      ≡ stated_at text h
  unfolding stated_at
  head_read =
      rw (
        first_there,
        second_there,
        ← digits_between text h.options h.space near,
        ← digits_between text h.clauses h.body far,
        ← rest_after text h.clauses h.body far,
      )

-- The verdict on the words after a head, by their count.
module _ (text : List ℕ) (h : Head) where
  abbrev stated_options : ℕ
  stated_options = number_in (take (h.space - h.options) (drop h.options text))

  abbrev stated_clauses : ℕ
  stated_clauses = number_in (take (h.body - h.clauses) (drop h.clauses text))

  abbrev words : List (List ℕ)
  words = words_after (drop h.body text)

  pub none_counted : PlacedHead text h → none ≡ counts.tally stated_options 0 0 false words → stated_at text h ≡ none
  unfolding stated_at
  none_counted p told = not_counted stated_options words stated_clauses told

  module _ (t : Tally) (p : PlacedHead text h) (told : some (counts.tallied t.clauses t.marks) ≡ counts.tally stated_options 0 0 false words) where
    pub none_other : eqb t.clauses stated_clauses ≡ false → stated_at text h ≡ none
    unfolding stated_at
    none_other f = other_count stated_options words stated_clauses t.clauses t.marks told f

    pub gives :
        eqb t.clauses stated_clauses ≡ true →
        t.clauses + t.marks ≤ length text →
        Gives (stated_at text h) text
        (record { options = h.options; space = h.space; body = h.body; clauses = t.clauses; marks = t.marks })
    unfolding stated_at
    gives f few =
        let (r, g) = right_count stated_options words stated_clauses t.clauses t.marks told f in
        record {
          file = record { options = stated_options; clauses = r.clauses };
          reads = g;
          in_order = p.options_order;
          within = p.within;
          decimal = p.options;
          options = refl;
          words = r.are;
          clauses = r.many;
          marks = r.marks;
          few = few;
        }

-- The verdict on a text, by its p line.
module _ (text : List ℕ) (at : ℕ) (same : file_of (drop at text) ≡ file_of text) where
  pub nothing_there : eqb (get_or (drop at text) 0 0) 99 ≡ false → has_p_line (drop at text) ≡ false → file_of text ≡ none
  nothing_there n e = sym same ∙ no_p_line (drop at text) n e

  pub stated_there : (h : Head) → has_p_line (drop at text) ≡ true → Stands text at h → file_of text ≡ stated_at text h
  stated_there h e s = sym same ∙ with_p_line (drop at text) e ∙ head_read s
