-- The form of each command: which arguments may follow its name, as an `App` of clap's definition of simple commands.
use Rattle.std.specs.Prelude.{◌≡◌, ℕ, true, List, [], ◌∷◌, Option, Some, None, codes, bytes_eq, if◌then◌else◌}
use Rattle.std.specs.Borrow.{Bor}
use Rattle.clap.specs.Words.{App, Rule, Text, new_rule}
use Rattle.clap.specs.Simple.{new_shape}
use Rattle.clap.specs.Walk.{texts}
use Rattle.clap.specs.declared.builder.action.ArgAction.TheVariants.{Set, SetTrue}
use Rattle.clap.specs.declared.builder.value_parser.ValueParser.TheVariants as parser
use Rattle.pfs_base.specs.declared.limits.TheConstants.{MOST_BLOCKS, MOST_JOBS, MOST_MACHINES, MOST_PASSES}
use Rattle.pfs_base.specs.declared.limits.TheConstants.{MOST_ROUNDS}
use Rattle.pfs_layout.specs.declared.layout.Layout.{Layout}

-- the form with these arguments, no subcommands and no groups; no program's name comes before the arguments
abbrev pub flat_form : Text → List Rule → App
flat_form name rules = record { top = record (new_shape name) { rules = rules; no_binary_name = true }; subs = [] }

-- the list of layout names that a form borrows. Its addresses are part of it, and a contract can't state those of the
-- program's list: so definitions apply to any `Names` with `AreLayoutNames`
abbrev pub Names : Type 0
Names = Bor (List (Bor Text))

abbrev pub layout_name : Layout → Text
layout_name Layout.Taillard = codes "taillard"
layout_name Layout.OrLib = codes "orlib"

-- the names are `taillard` and `orlib`, in this order
abbrev pub AreLayoutNames : Names → Type 0
AreLayoutNames names = texts names.now ≡ layout_name Layout.Taillard ∷ layout_name Layout.OrLib ∷ []

-- `--ID L`, required; L is the name of a layout
abbrev pub layout_rule : Names → Text → Rule
layout_rule names id = record (new_rule id) {
  long = Some id;
  action = Some Set;
  parser = Some (parser.Names names);
  required = true;
}

-- `[--ID N]`, a number from `least` to `most`; `left_out` is the text of its default, or empty for no default
abbrev pub option_rule : Text → ℕ → ℕ → List Text → Rule
option_rule id least most left_out = record (new_rule id) {
  long = Some id;
  action = Some Set;
  parser = Some (parser.Unsigned least most);
  defaults = left_out;
}

-- `[--block K]`, from 1 to `MOST_BLOCKS` (default: 1)
abbrev pub block_rule : Rule
block_rule = option_rule (codes "block") 1 MOST_BLOCKS (codes "1" ∷ [])

-- `[--ID]`, a flag
abbrev pub flag_rule : Text → Rule
flag_rule id = record (new_rule id) { long = Some id; action = Some SetTrue }

-- a required positional argument: a path
abbrev pub path_rule : Text → Rule
path_rule id = record (new_rule id) { action = Some Set; required = true }

-- a required positional argument: a number from `least` to `most`
abbrev pub number_rule : Text → ℕ → ℕ → Rule
number_rule id least most = record (new_rule id) {
  action = Some Set;
  parser = Some (parser.Unsigned least most);
  required = true;
}

-- `--layout L [--block K] FILE`
abbrev pub value_form : Names → App
value_form names = flat_form (codes "value") (layout_rule names (codes "layout") ∷ block_rule
    ∷ path_rule (codes "file") ∷ [])

-- `[--rounds R]`, from 0 to `MOST_ROUNDS` (default: 0)
abbrev pub rounds_rule : Rule
rounds_rule = option_rule (codes "rounds") 0 MOST_ROUNDS (codes "0" ∷ [])

-- `[--take D]`, the destruction size, from 1 to `MOST_JOBS`; the form has no default
abbrev pub take_rule : Rule
take_rule = option_rule (codes "take") 1 MOST_JOBS []

-- `[--seed S]`, any 64-bit number (default: 0)
abbrev pub search_seed_rule : Rule
search_seed_rule = option_rule (codes "seed") 0 18446744073709551615 (codes "0" ∷ [])

-- `[--passes P]`, from 0 to `MOST_PASSES` (default: 0)
abbrev pub passes_rule : Rule
passes_rule = option_rule (codes "passes") 0 MOST_PASSES (codes "0" ∷ [])

-- `--layout L [--block K] [--rounds R] [--take D] [--seed S] [--passes P] [--cells] FILE`
abbrev pub solve_form : Names → App
solve_form names = flat_form (codes "solve") (layout_rule names (codes "layout") ∷ block_rule ∷ rounds_rule ∷ take_rule
    ∷ search_seed_rule
    ∷ passes_rule ∷ flag_rule (codes "cells") ∷ path_rule (codes "file") ∷ [])

-- `--layout L [--block K] FILE ORDER`
abbrev pub audit_form : Text → Names → App
audit_form name names = flat_form name (layout_rule names (codes "layout") ∷ block_rule ∷ path_rule (codes "file")
    ∷ path_rule (codes "order") ∷ [])

-- `--from L --to L [--block K] FILE`
abbrev pub convert_form : Names → App
convert_form names = flat_form (codes "convert") (layout_rule names (codes "from") ∷ layout_rule names (codes "to")
    ∷ block_rule ∷ path_rule (codes "file") ∷ [])

-- `SEED`, required; any 64-bit number
abbrev pub seed_rule : Rule
seed_rule = number_rule (codes "seed") 0 18446744073709551615

-- `N M SEED`
abbrev pub generate_form : App
generate_form = flat_form (codes "generate") (number_rule (codes "jobs") 1 MOST_JOBS
    ∷ number_rule (codes "machines") 1 MOST_MACHINES ∷ seed_rule ∷ [])

-- the form of the command with this name, or `None` if there is no such command
abbrev pub form_of : Names → Text → Option App
form_of names word = if bytes_eq word (codes "value") then Some (value_form names)
    else (if bytes_eq word (codes "solve") then Some (solve_form names)
    else (if bytes_eq word (codes "check") then Some (audit_form (codes "check") names)
    else (if bytes_eq word (codes "table") then Some (audit_form (codes "table") names)
    else (if bytes_eq word (codes "convert") then Some (convert_form names)
    else (if bytes_eq word (codes "generate") then Some generate_form
    else None)))))
