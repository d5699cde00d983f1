-- Words counted one after another.
use mathlib.Core.Bool.{true, false, not}
use mathlib.Core.List.{List, ◌∷◌}
use mathlib.Core.Option.{Option, none, some}
use mathlib.Core.Path.{◌≡◌, sym, ap, ◌∙◌}
use Prim.Native.Nat.{ℕ, ◌+◌, ◌≤◌, ◌<◌}
use native.Mathlib.Numerals.{add-one}
use native.Mathlib.Omega.{arith}
use lib.ListN.{length, drop}
use lib.Seq.{drop-drop}
use Rattle.model.specs.Base.{pick, only_if}
use Rattle.theory_texts.specs.Breaks.{breaks, words_after}
use Rattle.theory_texts.specs.Words.{first_word}
use Rattle.theory_texts.specs.Spans.{span}
use Rattle.theory_texts.specs.WordKinds.{kind_of_word, first_kind, kind_at, word_length, word_at, kind_read, NextWord, next_word}
use Rattle.theory_texts.specs.FromPlaces.{words_same, word_here, words_ended}
use Rattle.theory_texts.specs.Tally as counts
use Rattle.import_words.specs.Kinds.{number_of}
use Rattle.import_words.specs.declared.Kind.{Kind}
use Rattle.import_words.specs.declared.Kind.TheVariants.{Closing, Mark}
use Rattle.import_judge.specs.declared.Tally.{Tally}
use Rattle.import_judge.specs.Judging.{one_counted}

-- What the words to come make of a count, for V; and what is counted where none come: nothing, where a clause is open.
abbrev pub to_come : ℕ → Tally → List (List ℕ) → Option counts.Tally
to_come n t ws = counts.tally n t.clauses t.marks t.pending ws

abbrev pub counts_of : Tally → Option counts.Tally
counts_of t = only_if (not t.pending) (counts.tallied t.clauses t.marks)

-- What one more word does to a count: one that is neither ends it, another is counted.
module _ (n : ℕ) (t : Tally) where
  tally_none : (w : List ℕ) (ws : List (List ℕ)) → kind_of_word n w ≡ 0 → to_come n t (w ∷ ws) ≡ none
  unfolding counts.tally pick
  tally_none w ws e = rw e

  one_closed : (w : List ℕ) (ws : List (List ℕ)) → kind_of_word n w ≡ 1 → to_come n t (w ∷ ws) ≡ counts.tally n (t.clauses + 1) t.marks false ws
  unfolding counts.tally pick
  one_closed w ws e = rw (e, add-one t.clauses)

  one_marked : (w : List ℕ) (ws : List (List ℕ)) → kind_of_word n w ≡ 2 → to_come n t (w ∷ ws) ≡ counts.tally n t.clauses (t.marks + 1) true ws
  unfolding counts.tally pick
  one_marked w ws e = rw (e, add-one t.marks)

  tally_more :
      (w : List ℕ) (ws : List (List ℕ)) (kind : Kind) →
      kind_of_word n w ≡ number_of kind →
      to_come n t (w ∷ ws) ≡ to_come n (one_counted kind t) ws
  tally_more w ws Closing e = one_closed w ws e
  tally_more w ws Mark e = one_marked w ws e

one_more : (kind : Kind) (t : Tally) → (one_counted kind t).clauses + (one_counted kind t).marks ≡ t.clauses + t.marks + 1
one_more Closing t = omega arith
one_more Mark t = omega arith

some_kind : (kind : Kind) → number_of kind ≡ 0 → ⊥
some_kind Closing e = omega (arith, e)
some_kind Mark e = omega (arith, e)

-- A count after some words: what the words to come make of it is what all of them make of nothing.
pub record Counted (n : ℕ) (l : List ℕ) (body : ℕ) (t : Tally) (at : ℕ) : Type 0 where
  pub within : at ≤ length l
  pub few : t.clauses + t.marks ≤ at
  pub here : at < length l → breaks (drop at l) ≡ false
  pub same : to_come n t (words_after (drop at l)) ≡ counts.tally n 0 0 false (words_after (drop body l))

module _ (n : ℕ) (l : List ℕ) (body : ℕ) where
  pub begun : (at : ℕ) → at ≡ body + span breaks (drop body l) → at ≤ length l
      → Counted n l body (record { clauses = 0; marks = 0; pending = false }) at
  begun at far h =
      record {
        within = h;
        few = omega arith;
        here = word_here l body at far;
        same = ap (λ ws. counts.tally n 0 0 false ws) (words_same l body at far);
      }

  module _ (t : Tally) (at : ℕ) (c : Counted n l body t at) where
    all_counted : length l ≤ at → counts_of t ≡ counts.tally n 0 0 false (words_after (drop body l))
    unfolding counts.tally
    all_counted h = ap (to_come n t) (sym (words_ended l at h)) ∙ c.same

    pub open_ended : length l ≤ at → t.pending ≡ true → none ≡ counts.tally n 0 0 false (words_after (drop body l))
    unfolding only_if
    open_ended h e = ap (λ b. only_if (not b) (counts.tallied t.clauses t.marks)) (sym e) ∙ all_counted h

    pub closed_ended : length l ≤ at → t.pending ≡ false → some (counts.tallied t.clauses t.marks) ≡ counts.tally n 0 0 false (words_after (drop body l))
    unfolding only_if
    closed_ended h e = ap (λ b. only_if (not b) (counts.tallied t.clauses t.marks)) (sym e) ∙ all_counted h

    module _ (h : at < length l) where
      first_kind_here : first_kind n (words_after (drop at l)) ≡ kind_at n (drop at l)
      first_kind_here = kind_read n (drop at l) (c.here h)

      pub no_count : kind_at n (drop at l) ≡ 0 → none ≡ counts.tally n 0 0 false (words_after (drop body l))
      unfolding first_kind
      no_count e =
          let f = first_word (drop at l) (c.here h) in
          sym (tally_none n t f.word (words_after f.rest) (ap (first_kind n) (sym f.words) ∙ first_kind_here ∙ e))
          ∙ ap (to_come n t) (sym f.words)
          ∙ c.same

      module _ (kind : Kind) (end next : ℕ) (told : number_of kind ≡ kind_at n (drop at l)) (far : end ≡ at + word_length (drop at l)) where
        found : NextWord (drop at l)
        found = next_word n (drop at l) (c.here h) (λ z. some_kind kind (told ∙ z))

        rest : words_after (drop (word_length (drop at l)) (drop at l)) ≡ words_after (drop end l)
        rest = ap words_after (drop-drop (word_length (drop at l)) at l ∙ ap (λ k. drop k l) (sym far))

        pub goes_on : at < end
        goes_on = omega (arith, far, found.some_byte)

        pub more_counted :
            (u : Tally) →
            u ≡ one_counted kind t →
            next ≡ end + span breaks (drop end l) →
            next ≤ length l →
            Counted n l body u next
        unfolding first_kind
        more_counted u e past k =
            let w = word_at (drop at l) in
            let ws = words_after (drop end l) in
            let here : words_after (drop at l) ≡ w ∷ ws = found.words ∙ ap (λ vs. w ∷ vs) rest in
            record {
              within = k;
              few = omega (arith, ap (λ v. v.clauses + v.marks) e, one_more kind t, c.few, goes_on);
              here = word_here l end next past;
              same =
                  ap (λ v. to_come n v (words_after (drop next l))) e
                  ∙ ap (to_come n (one_counted kind t)) (words_same l end next past)
                  ∙ sym (tally_more n t w ws kind (ap (first_kind n) (sym here) ∙ first_kind_here ∙ sym told))
                  ∙ ap (to_come n t) (sym here)
                  ∙ c.same;
            }
