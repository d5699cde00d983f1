-- Chains of refusals, whatever they are: which refusal a chain gives, and what a call that goes by it answers.
use Rattle.std.specs.Prelude.{Bool, ◌↔◌, ℕ}
use Rattle.std.proofs.Math.Bool.{true, false, not}
use mathlib.Core.List.{List, [], ◌∷◌, ◌++◌}
use mathlib.Core.Logic.Iff
use Rattle.std.proofs.Math.Option.{Option, none, some}
use Rattle.std.proofs.Math.Path.{◌≡◌, refl, ap}
use Rattle.std.proofs.Common.{sym, ◌∙◌, arith}
use borrow.Author.Tests.{not-true}
use Rattle.model.specs.Base.{all, any, only_if, first_of, then}
use Rattle.calls.specs.Refusals.{Refusal, sheet_refused, output_refused, due, ◌or_else◌}
use Rattle.calls.specs.Conditions.{has_short_index, has_stale_index}
use Rattle.calls.specs.Chains.{is_early, early, index_refusal}
use Rattle.calls.specs.Outcomes.{Answer, refused, accepted, answer, outcome}
use Rattle.calls.specs.Calls.{with_index}
use Rattle.theory_forms.specs.Logic.{none_some, some_inj, and_split, or_neither, none_due}
use Rattle.theory_index.specs.WithIndex.{with_index_is}

-- A refusal and the condition that it is due on.
pub record Test : Type 0 where
  pub refusal : Refusal
  pub holds : Bool

infix 70 ◌on◌
abbrev pub ◌on◌ : Refusal → Bool → Test
r on b = record { refusal = r; holds = b }

-- The first refusal of a chain that is due.
unfoldable pub first_due : List Test → Option Refusal
first_due [] = none
first_due (t ∷ ts) = due t.holds t.refusal or_else first_due ts

-- None of the conditions holds.
abbrev pub NoneDue : List Test → Type 0
NoneDue tests = any (λ t. t.holds) tests ≡ false

-- The refusal stands in the chain, its condition holds, and no earlier one does.
pub record First (r : Refusal) (tests : List Test) : Type 0 where
  pub earlier : List Test
  pub condition : Bool
  pub later : List Test
  pub order : tests ≡ earlier ++ ((r on condition) ∷ later)
  pub holds : condition ≡ true
  pub none_earlier : NoneDue earlier

module _ (r : Refusal) where
  first_given : (ts : List Test) → first_due ts ≡ some r → First r ts
  unfolding first_due first_of only_if any
  first_given [] e = none_some e
  first_given (t ∷ ts) e = go t.holds refl e (first_given ts)
    where
      go :
          (b : Bool) →
          t.holds ≡ b →
          first_of (only_if b t.refusal) (first_due ts) ≡ some r →
          (first_due ts ≡ some r → First r ts) →
          First r (t ∷ ts)
      go true h e f =
          record {
            earlier = [];
            condition = t.holds;
            later = ts;
            order = ap (λ x. (x on t.holds) ∷ ts) (some_inj e);
            holds = h;
            none_earlier = refl;
          }
      go false h e f =
          let w = f e in
          record {
            earlier = t ∷ w.earlier;
            condition = w.condition;
            later = w.later;
            order = ap (λ xs. t ∷ xs) w.order;
            holds = w.holds;
            none_earlier = rw h w.none_earlier;
          }

  given_first : (xs : List Test) (c : Bool) (ys : List Test) → c ≡ true → NoneDue xs → first_due (xs ++ ((r on c) ∷ ys)) ≡ some r
  unfolding first_due first_of only_if any
  given_first [] c ys h n = rw h
  given_first (x ∷ xs) c ys h n =
      let w = or_neither x.holds _ n in
      rw w.0 (given_first xs c ys h w.1)

  -- What a chain gives: a refusal exactly if its condition holds and no earlier one does.
  pub first_is : (ts : List Test) → (first_due ts ≡ some r) ↔ First r ts
  first_is ts =
      (first_given ts, λ w. ap first_due w.order ∙ given_first w.earlier w.condition w.later w.holds w.none_earlier)

-- It gives none exactly if no condition holds.
pub none_is : (ts : List Test) → (first_due ts ≡ none) ↔ NoneDue ts
unfolding first_due first_of only_if any
none_is ts = (to ts, from ts)
  where
    to : (ts : List Test) → first_due ts ≡ none → NoneDue ts
    to [] e = refl
    to (t ∷ ts) e = let w = none_due t.holds t.refusal (first_due ts) e in rw w.0 (to ts w.1)

    from : (ts : List Test) → NoneDue ts → first_due ts ≡ none
    from [] n = refl
    from (t ∷ ts) n = let w = or_neither t.holds _ n in rw w.0 (from ts w.1)

-- One chain after another; a chain's last refusal.
-- The first of three, however they are taken together.
pub first_joined : (o p q : Option Refusal) → ((o or_else p) or_else q) ≡ (o or_else p or_else q)
unfolding first_of
first_joined none p q = refl
first_joined (some r) p q = refl

pub first_append : (xs ys : List Test) → first_due (xs ++ ys) ≡ (first_due xs or_else first_due ys)
unfolding first_due first_of
first_append [] ys = refl
first_append (x ∷ xs) ys =
    rw (first_append xs ys) (sym (first_joined (due x.holds x.refusal) (first_due xs) (first_due ys)))

pub first_last : (o : Option Refusal) → (o or_else none) ≡ o
unfolding first_of
first_last none = refl
first_last (some r) = refl

-- What a chain gives is one of its refusals.
first_among :
    (p : Refusal → Bool) (ts : List Test) {r : Refusal} →
    all (λ t. p t.refusal) ts ≡ true →
    first_due ts ≡ some r →
    p r ≡ true
unfolding first_due first_of only_if all
first_among p [] h e = none_some e
first_among p (t ∷ ts) {r} h e = let w = and_split (p t.refusal) _ h in go t.holds e w.0 (first_among p ts w.1)
  where
    go :
        (b : Bool) →
        first_of (only_if b t.refusal) (first_due ts) ≡ some r →
        p t.refusal ≡ true →
        (first_due ts ≡ some r → p r ≡ true) →
        p r ≡ true
    go true e h f = ap p (sym (some_inj e)) ∙ h
    go false e h f = f e

-- The chain of a call with an index. Where the chain without one begins with refusals that come before the 11 of an index and goes on
-- with others, that 11 stands between them, and 12 at the end.
module _ (s index : List ℕ) (before after : List Test) where
  pub with_index_chain :
      all (λ t. is_early t.refusal) before ≡ true →
      all (λ t. not (is_early t.refusal)) after ≡ true →
      index_refusal s index (first_due (before ++ after))
      ≡ first_due (before ++ (sheet_refused on has_stale_index s index ∷ (after ++ (output_refused on has_short_index s index ∷ []))))
  unfolding index_refusal early then only_if first_of first_due
  with_index_chain p q =
      rw (
        first_append before after,
        first_append before (stale ∷ (after ++ (short ∷ []))),
        first_append after (short ∷ []),
      )
      (go (first_due before) (first_due after) (due stale.holds stale.refusal) (due short.holds short.refusal)
      (λ r e. first_among is_early before p e)
      (λ r e. not-true (is_early r) (first_among (λ x. not (is_early x)) after q e)))
    where
      stale : Test
      stale = sheet_refused on has_stale_index s index

      short : Test
      short = output_refused on has_short_index s index

      go :
          (early_one late_one at_stale at_short : Option Refusal) →
          ((r : Refusal) → early_one ≡ some r → is_early r ≡ true) →
          ((r : Refusal) → late_one ≡ some r → is_early r ≡ false) →
          first_of (early (first_of early_one late_one)) (first_of at_stale (first_of (first_of early_one late_one) at_short))
          ≡ first_of early_one (first_of at_stale (first_of late_one (first_of at_short none)))
      go (some r) late_one at_stale at_short h k = rw (h r refl)
      go none none at_stale at_short h k = rw (first_last at_short)
      go none (some r) at_stale at_short h k = rw (k r refl)

-- An answer by a chain: refused exactly by the first refusal that is due, a result exactly where none is.
pub record ByChain {A : Type 0} (given : Answer A) (tests : List Test) : Type 0 where
  pub refusal : (r : Refusal) → (given ≡ refused r) ↔ First r tests
  pub result : ((a : A) × (given ≡ accepted a)) ↔ NoneDue tests

module _ {A : Type 0} (a : A) {tests : List Test} where
  pub answered : (o : Option Refusal) → o ≡ first_due tests → ByChain (answer o a) tests
  unfolding answer
  answered o e =
      record {
        refusal = λ r. Iff.trans (given o r) (rw e (first_is r tests));
        result = Iff.trans (fine o) (rw e (none_is tests));
      }
    where
      given : (o : Option Refusal) (r : Refusal) → (answer o a ≡ refused r) ↔ (o ≡ some r)
      given none r = ((λ q. let z : ◌≡◌ {A = ℕ} 0 1 = cc in absurd (omega arith)), λ q. none_some q)
      given (some x) r = ((λ q. cc), λ q. cc)

      fine : (o : Option Refusal) → ((x : A) × (answer o a ≡ accepted x)) ↔ (o ≡ none)
      fine none = ((λ q. refl), λ q. (a, refl))
      fine (some x) = ((λ q. let p = q.1 in let z : ◌≡◌ {A = ℕ} 0 1 = cc in absurd (omega arith)), λ q. none_some (sym q))

  pub answered_lent :
      {L : Type 0} (kept filled : L) (o : Option Refusal) →
      o ≡ first_due tests →
      ByChain (outcome o a kept filled).answer tests
  unfolding outcome answer
  answered_lent kept filled none e = answered none e
  answered_lent kept filled (some r) e = answered (some r) e

-- A call with an index, by the chain of the call without one.
pub answered_with :
    {L A : Type 0} (sheet : L → List ℕ) (held : L) (index : List ℕ) (a : A) (filled : L) (own : Option Refusal)
    (before after : List Test) →
    own ≡ first_due (before ++ after) →
    all (λ t. is_early t.refusal) before ≡ true →
    all (λ t. not (is_early t.refusal)) after ≡ true →
    ByChain
    (with_index sheet held index (outcome own a held filled)).answer
    (before
    ++ (sheet_refused on has_stale_index (sheet held) index
    ∷ (after ++ (output_refused on has_short_index (sheet held) index ∷ []))))
answered_with sheet held index a filled own before after e p q =
    rw (with_index_is sheet held index a filled own)
    (answered_lent a _ _ (index_refusal (sheet held) index own)
    (ap (index_refusal (sheet held) index) e ∙ with_index_chain (sheet held) index before after p q))
