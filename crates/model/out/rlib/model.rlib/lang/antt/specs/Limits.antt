-- The limits and sizes of books and sheets, in one place. Code has them by the same names (crate `common_limits`).
use Rattle.std.specs.Prelude.{ℕ, suc, ◌+◌, ◌*◌}

pub record Limits : Type 0 where
  pub options : ℕ
  pub weight : ℕ

-- "N options (0 to 512)"; "the weight is at most 4,096".
abbrev pub most_options : ℕ
most_options = 512

abbrev pub most_weight : ℕ
most_weight = 4096

abbrev pub usual : Limits
usual = record { options = most_options; weight = most_weight }

-- "M rules (0 to 4,095), T body nodes (0 to 4,095)."
abbrev pub most_rules : ℕ
most_rules = 4095

abbrev pub most_nodes : ℕ
most_nodes = 4095

-- "Head, four numbers."
abbrev pub head_length : ℕ
head_length = 8

-- "Codes of 13 bytes."
abbrev pub code_length : ℕ
code_length = 13

-- "A node is one number: kind × 4,096 + value."
abbrev pub kind_factor : ℕ
kind_factor = 4096

-- "A new node kind 6 has value members × 64 + k."
abbrev pub least_factor : ℕ
least_factor = 64

-- "A lent run of exactly 4,098 16-bit numbers": two and the nodes.
abbrev pub sheet_room : ℕ
sheet_room = 4096

abbrev pub sheet_length : ℕ
sheet_length = 2 + sheet_room

-- The literals of as many options as a sheet may have: each option plain and barred.
abbrev pub most_literals : ℕ
most_literals = 2 * most_options

-- "Weight + 2": a literal is a node and a mark.
abbrev pub literal_weight : ℕ
literal_weight = 2

-- "House order and 01's table go on to 17"; the number after the last stands for none.
abbrev pub last_rule : ℕ
last_rule = 17

abbrev pub no_rule : ℕ
no_rule = suc last_rule
