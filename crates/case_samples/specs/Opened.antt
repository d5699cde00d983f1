-- What computed cases see through, by one name: the definitions of `model`, `texts` and `calls`. To unfold a name is to unfold all
-- that its own line lists.
use mathlib.Core.List
use Rattle.model.specs.Base
use Rattle.model.specs.Literal
use Rattle.model.specs.Forest
use Rattle.model.specs.Code
use Rattle.model.specs.Clauses
use Rattle.model.specs.Propagation
use Rattle.model.specs.Rules
use Rattle.model.specs.Strategy
use Rattle.model.specs.Sheet
use Rattle.model.specs.Results
use Rattle.model.specs.Book
use Rattle.texts.specs.Decimals
use Rattle.texts.specs.ClauseFile
use Rattle.texts.specs.ClauseBook
use Rattle.calls.specs.Refusals
use Rattle.calls.specs.Outcomes
use Rattle.calls.specs.Lines
use Rattle.calls.specs.Index
use Rattle.calls.specs.Named
use Rattle.calls.specs.Chains
use Rattle.calls.specs.Calls
use Rattle.calls.specs.History
use Rattle.calls.specs.Desk

of_combinators : Unit {0}
unfolding Base.pick Base.only_if Base.first_of Base.is_some Base.all Base.any Base.least Base.maybe Base.then Base.placed Base.same_list
of_combinators = tt

of_literals : Unit {0}
unfolding Literal.literal Literal.complement Literal.option Literal.same Literal.has
of_literals = tt

of_forests : Unit {0}
unfolding Forest.same_conn Forest.◌⊕◌ Forest.size Forest.first Forest.after Forest.kids Forest.literal_at Forest.conjunction_at
    Forest.constant_at Forest.literals_only Forest.has_unit Forest.mentions Forest.members Forest.seated Forest.all_seated
of_forests = tt

of_nodes : Unit {0}
unfolding Code.encode Code.push Code.decode Code.joined Code.trees Code.exactly_one Code.one_tree Code.literals Code.least_count
    Code.leasts Code.weight Code.kind Code.value Code.number Code.conn_kind Code.conn_value Code.children Code.number_of Code.node_of
of_nodes = tt

of_meaning : Unit {0}
unfolding Clauses.unions Clauses.need Clauses.no_tree Clauses.one_tree_more Clauses.some_of Clauses.clauses Propagation.others
    Propagation.refuted Propagation.forced_in Propagation.forced Propagation.propagate Propagation.facts_of Propagation.conflict
    Propagation.mark Propagation.count_from Propagation.report_by Propagation.report Propagation.complete List.flatten
of_meaning = tt

of_rules : Unit {0}
unfolding Rules.neutral Rules.deciding Rules.assigned Rules.without_unit Rules.shares Rules.units Rules.groups_without
    Rules.groups Rules.absorb Rules.omit Rules.unwrap Rules.spread Rules.lift Rules.merge Rules.factor Rules.one_less Rules.lower
    Rules.drop_member Rules.decided Rules.decide Rules.renamed Rules.rename Rules.change Rules.table Rules.row_of
    Rules.is_rule Rules.turn Rules.rewrite Rules.step
of_rules = tt

of_runs : Unit {0}
unfolding Strategy.least_j Strategy.least_i Strategy.least_place Strategy.next Strategy.contract Strategy.next_step
    Strategy.one_more Strategy.run
of_runs = tt

of_sheets : Unit {0}
unfolding Sheet.body_node Sheet.options_in Sheet.used_in Sheet.numbers_in Sheet.nodes_in Sheet.rest_in Sheet.rooted Sheet.is_sheet
    Sheet.sheet_of Sheet.clauses_in Sheet.report_in Sheet.is_unit Sheet.with_child Sheet.chosen Results.appended Results.stepped
    Results.run_through
of_sheets = tt

of_books : Unit {0}
unfolding Book.word Book.words Book.bytes_of Book.options_of Book.rules_of Book.size_of Book.head_in_limits Book.codes_end
    Book.contents_end Book.length_due Book.pieces Book.codes_of Book.entries Book.contents_of Book.numbers_of Book.between
    Book.character Book.then_zeros Book.code_ok Book.same_code Book.codes_ok Book.in_line Book.cut Book.bodies_of Book.body_ok
    Book.book_nodes Book.clauses_of_body Book.clauses_of_book Book.counts Book.lined_up Book.written_rules Book.written
    Book.characters Book.option_of_code
of_books = tt

of_texts : Unit {0}
unfolding Decimals.digits Decimals.decimal Decimals.is_digit Decimals.is_decimal Decimals.number_from Decimals.number_in
    ClauseFile.before_part ClauseFile.parts ClauseFile.plain_ends ClauseFile.lines ClauseFile.past_comments ClauseFile.is_p_line
    ClauseFile.stated ClauseFile.is_blank ClauseFile.with_word ClauseFile.not_empty ClauseFile.words_of_line ClauseFile.mark_by
    ClauseFile.mark_of_word ClauseFile.closes ClauseFile.with_mark ClauseFile.clauses_of_words ClauseFile.file_stated
    ClauseFile.file_of_lines ClauseFile.file_of ClauseBook.padded ClauseBook.code_of ClauseBook.codes_to ClauseBook.nodes_of_clause
    ClauseBook.nodes_of_file ClauseBook.book_of_file ClauseBook.is_too_large
of_texts = tt

of_calls : Unit {0}
unfolding Refusals.refusal_number Outcomes.answer Outcomes.if_accepted Outcomes.outcome Chains.part_refusal Chains.book_refusal
    Chains.lookup_refusal Chains.load_refusal Chains.write_refusal Chains.report_refusal Chains.complete_refusal
    Chains.key_refusal Chains.order_refusal Chains.withdraw_refusal Chains.step_refusal Chains.run_refusal
    Chains.import_refusal Calls.check_of Calls.lookup_of Calls.load_of Calls.write_of
    Calls.report_of Calls.complete_of Calls.key_of Calls.withdraw_of Calls.step_of Calls.run_of
    Calls.import_of Lines.without Lines.moved_up Lines.with_marks
of_calls = tt

of_indexes : Unit {0}
unfolding Index.names Index.mark_count Index.first_mark Index.entries Index.fresh_count Outcomes.refusal_in Outcomes.unless
    Chains.fill_refusal Chains.is_early Chains.early Chains.index_refusal Calls.fill_of Calls.with_index Calls.key_with
    Calls.withdraw_with Calls.step_with Calls.run_with
of_indexes = tt

of_names : Unit {0}
unfolding Named.is_named Named.is_decided Named.complete_among
of_names = tt

of_lists : Unit {0}
unfolding History.after_call History.after_calls History.account_call History.account_calls History.choice_clauses History.meaning
    History.rekeys History.is_stretch History.steps_of_call History.steps_of History.says_settled History.ends_settled
of_lists = tt

of_desk : Unit {0}
unfolding Desk.before_line Desk.lines Desk.key_found Desk.key_signed Desk.keyed Desk.go_on Desk.all_keyed Desk.with_no_lines
    Desk.refused_word Desk.contradiction_word Desk.settled_word Desk.stopped_word Desk.mark_word Desk.line Desk.printed
    Desk.first_line Desk.option_lines Desk.desk_budget Desk.screen_length Desk.desk_of
of_desk = tt

unfoldable pub definitions : Unit {0}
unfolding of_combinators of_literals of_forests of_nodes of_meaning of_rules of_runs of_sheets of_books of_texts of_calls of_indexes of_names of_lists of_desk
definitions = tt
