-- What is kept of trees, written one tree after another.
use mathlib.Core.Bool.{Bool, true}
use mathlib.Core.List.{List, [], ◌++◌, append-nil, append_assoc}
use mathlib.Core.Path.{◌≡◌, refl, sym, ap, ◌∙◌}
use Prim.Native.Nat.{ℕ, ◌+◌, ◌-◌, ◌≤◌, ◌<◌}
use native.Mathlib.Omega.{arith}
use lib.ListN.{length, drop, length-append, length-drop}
use Rattle.theory_forms.specs.Logic.{and_split}
use Rattle.theory_reading.specs.Spans.{span, span_within}
use Rattle.rule_factor.specs.Walks.{shares_here, all_share}
use Rattle.rule_factor.proofs.Walk.{walk_none, walk_end, walk_step, share_step}
use Rattle.rule_regroup.specs.Regrouped.{kept, gathered, Appended}
use Rattle.rule_regroup.proofs.Append.{appended_none, appended_both}

-- What is kept of trees.
module _ (b : Bool) (a n i : ℕ) (l : List ℕ) where
  pub gathered_none : n ≡ 0 → gathered b a n (drop i l) ≡ []
  unfolding gathered
  gathered_none h = ap (λ m. gathered b a m (drop i l)) h ∙ walk_none _ [] (drop i l)

  pub gathered_end : length l ≤ i → gathered b a n (drop i l) ≡ []
  unfolding gathered
  gathered_end h = walk_end _ [] n i l h

  pub gathered_step :
      0 < n →
      i < length l →
      gathered b a n (drop i l) ≡ kept b a (drop i l) ++ gathered b a (n - 1) (drop (i + span 1 (drop i l)) l)
  unfolding gathered
  gathered_step h k = walk_step _ [] n i l h k

-- The trees before the place `from` are passed, and what is kept of them is written up to the place `to`.
pub record Gathering (g : Bool) (a trees : ℕ) (part old : List ℕ) (at₀ : ℕ) (new : List ℕ) (to from left : ℕ) : Type 0 where
  pub within : from ≤ length part
  pub long : length new ≡ length old
  pub share : all_share a left (drop from part) ≡ true
  pub passed : List ℕ
  pub whole : gathered g a trees part ≡ passed ++ gathered g a left (drop from part)
  pub made : Appended passed at₀ old new to

pub gathering_none :
    (g : Bool) (a trees : ℕ) (part old : List ℕ) (at₀ : ℕ) →
    all_share a trees part ≡ true →
    Gathering g a trees part old at₀ old at₀ 0 trees
gathering_none g a trees part old at₀ h =
    record { within = omega arith; long = refl; share = h; passed = []; whole = refl; made = appended_none at₀ old }

module _ {g : Bool} {a trees : ℕ} {part old : List ℕ} {at₀ : ℕ} {new : List ℕ} {to from left : ℕ} (w : Gathering g a trees part old at₀ new to from left) where
  -- One tree more: it shares, there is room for what is kept of it, and that is written.
  module _ (h : 0 < left) (k : from < length part) where
    both : (shares_here a (drop from part) ≡ true) × (all_share a (left - 1) (drop (from + span 1 (drop from part)) part) ≡ true)
    both =
        and_split (shares_here a (drop from part)) (all_share a (left - 1) (drop (from + span 1 (drop from part)) part)) (sym (share_step a left from part h k) ∙ w.share)

    pub gathering_shares : shares_here a (drop from part) ≡ true
    gathering_shares = both.0

    further : gathered g a trees part ≡ (w.passed ++ kept g a (drop from part)) ++ gathered g a (left - 1) (drop (from + span 1 (drop from part)) part)
    further =
        w.whole
        ∙ ap (λ t. w.passed ++ t) (gathered_step g a left from part h k)
        ∙ sym (append_assoc w.passed (kept g a (drop from part)) (gathered g a (left - 1) (drop (from + span 1 (drop from part)) part)))

    pub gathering_room : at₀ + length (gathered g a trees part) ≤ length old → to + length (kept g a (drop from part)) ≤ length new
    gathering_room r =
        let later = gathered g a (left - 1) (drop (from + span 1 (drop from part)) part) in
        omega (arith, ap length further, length-append (w.passed ++ kept g a (drop from part)) later, length-append w.passed (kept g a (drop from part)), w.made.end, w.long)

    pub gathering_more :
        {newer : List ℕ} {next : ℕ} →
        length newer ≡ length new →
        Appended (kept g a (drop from part)) to new newer next →
        Gathering g a trees part old at₀ newer next (from + span 1 (drop from part)) (left - 1)
    gathering_more n e =
        record {
          within = omega (arith, span_within 1 (drop from part), length-drop from part);
          long = n ∙ w.long;
          share = both.1;
          passed = w.passed ++ kept g a (drop from part);
          whole = further;
          made = appended_both w.made e;
        }

  pub gathering_all : gathered g a left (drop from part) ≡ [] → Appended (gathered g a trees part) at₀ old new to
  gathering_all e = rw (w.whole, e, append-nil w.passed) w.made
