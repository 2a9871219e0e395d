-- The command line `mte_host --frames N SCRIPT FILE...`: its form, and what it requests.
use Rattle.std.specs.Prelude.{ℕ, pos, List, [], ◌∷◌, codes, Some, true, find, slice_get, unwrap_or}
use Rattle.std.specs.Option.{option_map_or}
use Rattle.std.specs.Str.{bytes_eq}
use Rattle.clap.specs.Lexer.{usize_max}
use Rattle.clap.specs.Simple.{App, new_app, new_rule, with_rule}
use Rattle.clap.specs.Walk.{Rule, Row}
use Rattle.clap.specs.declared.builder.action.ArgAction.TheVariants.{Append}
use Rattle.clap.specs.declared.builder.value_parser.ValueParser.TheVariants as parser

-- `--frames N`, with N from 1 to 65536
abbrev pub frames_rule : Rule
frames_rule = record (new_rule (codes "frames")) {
  long = Some (codes "frames");
  value_names = 1;
  parser = Some (parser.Signed (pos 1) (pos 65536));
  required = true;
}

-- SCRIPT, one word.
abbrev pub script_rule : Rule
script_rule = record (new_rule (codes "script")) { value_names = 1; required = true }

-- FILE.., any number of words.
abbrev pub files_rule : Rule
files_rule = record (new_rule (codes "files")) {
  value_names = 1;
  range = Some (record { start_inclusive = 0; end_inclusive = usize_max });
  action = Some Append;
}

-- The form of the command line.
abbrev pub form : App
form =
    with_rule (with_rule (with_rule (new_app (codes "mte_host")) frames_rule) script_rule)
    files_rule

-- The values that words gave an argument.
abbrev pub values_at : List ℕ → List Row → List (List ℕ)
values_at id rows = option_map_or (λ r. r.values) (find (λ r. bytes_eq r.id id) rows) []

-- The names of the script and of the files, in their order.
abbrev pub names_in : List Row → List (List ℕ)
names_in rows =
    unwrap_or (slice_get (values_at (codes "script") rows) 0) [] ∷ values_at (codes "files") rows
