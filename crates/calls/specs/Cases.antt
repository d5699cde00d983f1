-- Document 01's starred cases, the first one's book by its bytes, and the cases of document 02's requests, computed from the
-- definitions: one list, one theorem.
use Rattle.std.specs.Prelude.{Bool, true, false, ◌≡◌, refl, ℕ, zero, suc, replicate}
use mathlib.Core.List.{List, [], ◌∷◌, ◌++◌, map}
use Rattle.model.specs.Base
use Rattle.model.specs.Literal
use Rattle.model.specs.Forest
use Rattle.model.specs.Code
use Rattle.model.specs.Clauses
use Rattle.model.specs.Propagation
use Rattle.model.specs.Rules
use Rattle.model.specs.Strategy
use Rattle.model.specs.Sheet
use Rattle.model.specs.Book
use Rattle.calls.specs.Outcomes
use Rattle.calls.specs.Chains
use Rattle.calls.specs.Calls
use Rattle.model.specs.Base.{maybe}
use Rattle.model.specs.Literal.{Literal, pos, neg}
use Rattle.model.specs.Forest.{Forest, nil, lit, node, and, or, root, at_least}
use Rattle.model.specs.Code.{Node, encode, decode, number_of}
use Rattle.model.specs.Clauses.{clauses}
use Rattle.model.specs.Propagation.{Report, report}
use Rattle.model.specs.Strategy.{Redex, next, contract, run}
use Rattle.model.specs.Limits.{sheet_length}
use Rattle.model.specs.Sheet.{chosen}
use Rattle.calls.specs.Outcomes.{Outcome, accepted}
use Rattle.calls.specs.Calls.{load_of}

-- A case: the number of options, the rules, the choices.
pub record Case : Type 0 where
  pub options : ℕ
  pub rules : Forest
  pub choices : List Literal

-- What is computed of it: the nodes of its sheet, its report, the rule numbers of the strategy's steps and their places, whether
-- they end and the nodes that they leave.
pub record Computed : Type 0 where
  pub nodes : List ℕ
  pub report : Report
  pub steps : List ℕ
  pub places : List ℕ
  pub settled : Bool
  pub left : List ℕ

-- The strategy's first steps, at most so many.
unfoldable pub redexes : ℕ → List Node → List Redex
redexes zero ns = []
redexes (suc n) ns = maybe [] (λ x. x ∷ maybe [] (redexes n) (contract x ns)) (next ns)

unfoldable pub with_choices : List Literal → List Node → List Node
with_choices [] ns = ns
with_choices (l ∷ ls) ns = with_choices ls (chosen l ns)

unfoldable pub compute : Case → Computed
compute c =
    let ns = with_choices c.choices (encode (node root c.rules nil)) in
    record {
      nodes = map number_of ns;
      report = report c.options (clauses root (decode ns));
      steps = map (λ x. x.rule) (redexes 20 ns);
      places = map (λ x. x.place) (redexes 20 ns);
      settled = (run 20 ns).settled;
      left = map number_of (run 20 ns).nodes;
    }

-- "P, Q, R are options 0, 1, 2"; S is option 3.
abbrev pub P : Forest → Forest
P f = lit (pos 0) f

abbrev pub Q : Forest → Forest
Q f = lit (pos 1) f

abbrev pub R : Forest → Forest
R f = lit (pos 2) f

abbrev pub S : Forest → Forest
S f = lit (pos 3) f

abbrev pub not_P : Forest → Forest
not_P f = lit (neg 0) f

abbrev pub not_Q : Forest → Forest
not_Q f = lit (neg 1) f

abbrev pub not_R : Forest → Forest
not_R f = lit (neg 2) f

-- A rule that is any of its parts, a part that is all of its parts, one that is at least so many of them, and what follows.
abbrev pub any_of : Forest → Forest → Forest
any_of k f = node or k f

abbrev pub all_of : Forest → Forest → Forest
all_of k f = node and k f

abbrev pub some_of_these : ℕ → Forest → Forest → Forest
some_of_these a k f = node (at_least a) k f

abbrev pub rules : ℕ → Forest → Case
rules n f = record { options = n; rules = f; choices = [] }

-- Document 02, U4: "Engineers write 'two of these four seals' as long nests." Two of P, Q, R, S, and choices.
abbrev pub two_of_four : List Literal → Case
two_of_four ls = record { options = 4; rules = some_of_these 2 (P (Q (R (S nil)))) nil; choices = ls }

unfoldable pub starred_cases : List Case
starred_cases =
    -- P or (P and Q)
    rules 2 (any_of (P (all_of (P (Q nil)) nil)) nil)
    -- P; ((not P and Q) or false)
    ∷ rules 2 (P (any_of (all_of (not_P (Q nil)) (any_of nil nil)) nil))
    -- (P and Q) or (P and R)
    ∷ rules 3 (any_of (all_of (P (Q nil)) (all_of (P (R nil)) nil)) nil)
    -- not P; P or not Q; P or not R; Q or R
    ∷ rules 3 (not_P (any_of (P (not_Q nil)) (any_of (P (not_R nil)) (any_of (Q (R nil)) nil))))
    -- P or Q; not P or Q
    ∷ rules 2 (any_of (P (Q nil)) (any_of (not_P (Q nil)) nil))
    -- (P and not P) or Q
    ∷ rules 2 (any_of (all_of (P (not_P nil)) (Q nil)) nil)
    -- P or Q, choice not Q
    ∷ record { options = 2; rules = any_of (P (Q nil)) nil; choices = neg 1 ∷ [] }
    -- only rule false; only rule true
    ∷ rules 0 (any_of nil nil)
    ∷ rules 0 (all_of nil nil)
    -- 2 of (P, Q, R, S); choices not P, not Q; choices not P, not Q, not R
    ∷ two_of_four []
    ∷ two_of_four (neg 0 ∷ neg 1 ∷ [])
    ∷ two_of_four (neg 0 ∷ neg 1 ∷ neg 2 ∷ [])
    -- 0 of (P, Q); 3 of (P, Q); 2 of (P, true, Q, false)
    ∷ rules 2 (some_of_these 0 (P (Q nil)) nil)
    ∷ rules 2 (some_of_these 3 (P (Q nil)) nil)
    ∷ rules 2 (some_of_these 2 (P (all_of nil (Q (any_of nil nil)))) nil)
    -- P or 2 of (P, Q, R)
    ∷ rules 3 (any_of (P (some_of_these 2 (P (Q (R nil))) nil)) nil)
    ∷ []

-- "Eight zero bytes: a book", loaded into a target of any contents.
unfoldable pub empty_book : Outcome (List ℕ) (Unit {0})
empty_book = load_of (replicate 8 0) (replicate sheet_length 7)

-- The first case's book, by the bytes that document 01 gives for the desk program.
unfoldable pub first_book : Outcome (List ℕ) (Unit {0})
first_book =
    load_of
    (2 ∷ 0 ∷ 1 ∷ 0 ∷ 5 ∷ 0 ∷ 0 ∷ 0 ∷ []
    ++ (80 ∷ replicate 12 0)
    ++ (81 ∷ replicate 12 0)
    ++ (0 ∷ 0 ∷ 5 ∷ 0 ∷ 2 ∷ 64 ∷ 0 ∷ 16 ∷ 2 ∷ 48 ∷ 0 ∷ 16 ∷ 1 ∷ 16 ∷ []))
    (replicate sheet_length 7)

pub record AllComputed : Type 0 where
  pub first : Outcome (List ℕ) (Unit {0})
  pub cases : List Computed
  pub empty : Outcome (List ℕ) (Unit {0})

unfoldable pub all_computed : AllComputed
all_computed = record { first = first_book; cases = map compute starred_cases; empty = empty_book }

abbrev pub told : List ℕ → Report
told ms = record { contradictory = false; marks = ms }

abbrev pub contradiction : ℕ → Report
contradiction n = record { contradictory = true; marks = replicate n 3 }

abbrev pub result : List ℕ → Report → List ℕ → List ℕ → List ℕ → Computed
result ns r ss ps left = record { nodes = ns; report = r; steps = ss; places = ps; settled = true; left = left }

-- The starred cases. Where document 01 gives the steps they are its steps: 9, 1, 7, 5, 8; 5, 8, 10, 1, 7, 3; 14, 7, 7, 8, 12, 7;
-- none and one. Then those of document 02, U4.
pub starred :
    all_computed
    ≡ record {
      first =
          record { answer = accepted tt; lent = 2 ∷ 6 ∷ 20481 ∷ 16386 ∷ 4096 ∷ 12290 ∷ 4096 ∷ 4097 ∷ replicate 4090 0 };
      cases =
          -- P or (P and Q)
          result
          (20481 ∷ 16386 ∷ 4096 ∷ 12290 ∷ 4096 ∷ 4097 ∷ [])
          (told (1 ∷ 0 ∷ []))
          (9 ∷ 1 ∷ 7 ∷ 5 ∷ 8 ∷ [])
          (1 ∷ 3 ∷ 3 ∷ 1 ∷ 1 ∷ [])
          (20481 ∷ 4096 ∷ [])
          -- P; ((not P and Q) or false)
          ∷ result
          (20482 ∷ 4096 ∷ 16386 ∷ 12290 ∷ 8192 ∷ 4097 ∷ 16384 ∷ [])
          (contradiction 2)
          (5 ∷ 8 ∷ 10 ∷ 1 ∷ 7 ∷ 3 ∷ [])
          (2 ∷ 2 ∷ 0 ∷ 2 ∷ 2 ∷ 0 ∷ [])
          (20481 ∷ 16384 ∷ [])
          -- (P and Q) or (P and R)
          ∷ result
          (20481 ∷ 16386 ∷ 12290 ∷ 4096 ∷ 4097 ∷ 12290 ∷ 4096 ∷ 4098 ∷ [])
          (told (1 ∷ 0 ∷ 0 ∷ []))
          (14 ∷ 7 ∷ 7 ∷ 8 ∷ 12 ∷ 7 ∷ [])
          (1 ∷ 5 ∷ 6 ∷ 1 ∷ 0 ∷ 2 ∷ [])
          (20482 ∷ 4096 ∷ 16386 ∷ 4097 ∷ 4098 ∷ [])
          -- not P; P or not Q; P or not R; Q or R
          ∷ result
          (20484 ∷ 8192 ∷ 16386 ∷ 4096 ∷ 8193 ∷ 16386 ∷ 4096 ∷ 8194 ∷ 16386 ∷ 4097 ∷ 4098 ∷ [])
          (contradiction 3)
          (10 ∷ 5 ∷ 5 ∷ 8 ∷ 8 ∷ 10 ∷ 5 ∷ 8 ∷ 10 ∷ 3 ∷ [])
          (0 ∷ 2 ∷ 4 ∷ 2 ∷ 3 ∷ 0 ∷ 4 ∷ 4 ∷ 0 ∷ 0 ∷ [])
          (20481 ∷ 16384 ∷ [])
          -- P or Q; not P or Q
          ∷ result
          (20482 ∷ 16386 ∷ 4096 ∷ 4097 ∷ 16386 ∷ 8192 ∷ 4097 ∷ [])
          (told (0 ∷ 0 ∷ []))
          []
          []
          (20482 ∷ 16386 ∷ 4096 ∷ 4097 ∷ 16386 ∷ 8192 ∷ 4097 ∷ [])
          -- (P and not P) or Q
          ∷ result
          (20481 ∷ 16386 ∷ 12290 ∷ 4096 ∷ 8192 ∷ 4097 ∷ [])
          (told (0 ∷ 0 ∷ []))
          []
          []
          (20481 ∷ 16386 ∷ 12290 ∷ 4096 ∷ 8192 ∷ 4097 ∷ [])
          -- P or Q, choice not Q
          ∷ result
          (20482 ∷ 16386 ∷ 4096 ∷ 4097 ∷ 8193 ∷ [])
          (told (1 ∷ 2 ∷ []))
          (10 ∷ 5 ∷ 8 ∷ [])
          (0 ∷ 1 ∷ 1 ∷ [])
          (20482 ∷ 4096 ∷ 8193 ∷ [])
          -- only rule false; only rule true
          ∷ result (20481 ∷ 16384 ∷ []) (contradiction 0) [] [] (20481 ∷ 16384 ∷ [])
          ∷ result (20481 ∷ 12288 ∷ []) (told []) (6 ∷ []) (0 ∷ []) (20480 ∷ [])
          -- 2 of (P, Q, R, S); choices not P, not Q; choices not P, not Q, not R
          ∷ result
          (20481 ∷ 24834 ∷ 4096 ∷ 4097 ∷ 4098 ∷ 4099 ∷ [])
          (told (0 ∷ 0 ∷ 0 ∷ 0 ∷ []))
          []
          []
          (20481 ∷ 24834 ∷ 4096 ∷ 4097 ∷ 4098 ∷ 4099 ∷ [])
          ∷ result
          (20483 ∷ 24834 ∷ 4096 ∷ 4097 ∷ 4098 ∷ 4099 ∷ 8192 ∷ 8193 ∷ [])
          (told (2 ∷ 2 ∷ 1 ∷ 1 ∷ []))
          (10 ∷ 10 ∷ 15 ∷ 15 ∷ 17 ∷ 12 ∷ 7 ∷ [])
          (0 ∷ 0 ∷ 1 ∷ 1 ∷ 1 ∷ 0 ∷ 2 ∷ [])
          (20484 ∷ 4098 ∷ 4099 ∷ 8192 ∷ 8193 ∷ [])
          ∷ result
          (20484 ∷ 24834 ∷ 4096 ∷ 4097 ∷ 4098 ∷ 4099 ∷ 8192 ∷ 8193 ∷ 8194 ∷ [])
          (contradiction 4)
          (10 ∷ 10 ∷ 10 ∷ 15 ∷ 15 ∷ 15 ∷ 16 ∷ 3 ∷ [])
          (0 ∷ 0 ∷ 0 ∷ 1 ∷ 1 ∷ 1 ∷ 1 ∷ 0 ∷ [])
          (20481 ∷ 16384 ∷ [])
          -- 0 of (P, Q); 3 of (P, Q); 2 of (P, true, Q, false)
          ∷ result (20481 ∷ 24704 ∷ 4096 ∷ 4097 ∷ []) (told (0 ∷ 0 ∷ [])) (16 ∷ 6 ∷ []) (1 ∷ 0 ∷ []) (20480 ∷ [])
          ∷ result (20481 ∷ 24707 ∷ 4096 ∷ 4097 ∷ []) (contradiction 2) (16 ∷ []) (1 ∷ []) (20481 ∷ 16384 ∷ [])
          ∷ result
          (20481 ∷ 24834 ∷ 4096 ∷ 12288 ∷ 4097 ∷ 16384 ∷ [])
          (told (0 ∷ 0 ∷ []))
          (15 ∷ 15 ∷ 17 ∷ [])
          (1 ∷ 1 ∷ 1 ∷ [])
          (20481 ∷ 16386 ∷ 4096 ∷ 4097 ∷ [])
          -- P or 2 of (P, Q, R)
          ∷ result
          (20481 ∷ 16386 ∷ 4096 ∷ 24770 ∷ 4096 ∷ 4097 ∷ 4098 ∷ [])
          (told (0 ∷ 0 ∷ 0 ∷ []))
          (9 ∷ 15 ∷ 17 ∷ [])
          (1 ∷ 3 ∷ 3 ∷ [])
          (20481 ∷ 16386 ∷ 4096 ∷ 12290 ∷ 4097 ∷ 4098 ∷ [])
          ∷ [];
      empty = record { answer = accepted tt; lent = 0 ∷ 1 ∷ 20480 ∷ replicate 4095 0 };
    }
unfolding Base.pick Base.only_if Base.first_of Base.is_some Base.all Base.any Base.least Base.maybe Base.then Base.same_list
    Literal.complement Literal.option Literal.same Literal.has
    Forest.same_conn Forest.◌⊕◌ Forest.size Forest.first Forest.after Forest.kids Forest.literal_at Forest.conjunction_at
    Forest.constant_at Forest.literals_only Forest.has_unit Forest.mentions Forest.members Forest.seated Forest.all_seated
    Code.encode Code.push Code.decode Code.joined Code.trees Code.exactly_one Code.one_tree Code.literals Code.least_count
    Code.leasts Code.weight Code.kind Code.value Code.number Code.conn_kind Code.conn_value Code.children Code.number_of Code.node_of
    Clauses.unions Clauses.need Clauses.no_tree Clauses.one_tree_more Clauses.some_of Clauses.clauses
    Propagation.others Propagation.refuted Propagation.forced_in Propagation.forced Propagation.propagate Propagation.facts_of
    Propagation.conflict Propagation.mark Propagation.count_from Propagation.report_by Propagation.report
    Rules.neutral Rules.deciding Rules.assigned Rules.without_unit Rules.shares Rules.units Rules.groups_without Rules.groups
    Rules.absorb Rules.omit Rules.unwrap Rules.spread Rules.lift Rules.merge Rules.factor Rules.one_less Rules.lower Rules.drop_member
    Rules.decided Rules.decide Rules.renamed Rules.rename Rules.change Rules.table Rules.row_of Rules.turn Rules.rewrite Rules.step
    Strategy.least_j Strategy.least_i Strategy.least_place Strategy.next Strategy.contract Strategy.next_step Strategy.one_more
    Strategy.run
    Sheet.body_node Sheet.options_in Sheet.used_in Sheet.numbers_in Sheet.nodes_in Sheet.rest_in Sheet.rooted Sheet.is_sheet
    Sheet.sheet_of Sheet.clauses_in Sheet.with_child Sheet.chosen
    Book.word Book.words Book.bytes_of Book.options_of Book.rules_of Book.size_of Book.head_in_limits Book.codes_end Book.contents_end
    Book.length_due Book.pieces Book.codes_of Book.entries Book.contents_of Book.numbers_of Book.between Book.character
    Book.then_zeros Book.code_ok Book.same_code Book.codes_ok Book.in_line Book.cut Book.bodies_of Book.body_ok Book.book_nodes
    Outcomes.outcome
    Chains.part_refusal Chains.book_refusal Chains.load_refusal
    Calls.load_of
    mathlib.Core.List.flatten starred_cases compute with_choices redexes all_computed empty_book first_book
starred = refl
