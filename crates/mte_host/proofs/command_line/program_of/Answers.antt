use Rattle.std.proofs.Common.{◌≡◌, ◌∷◌, ◌∙◌, codes, sym, rules}
use Rattle.clap.specs.Matches.{found_of, matched_of, first_value}
use Rattle.mte_session.specs.Reads.{names_of}
use Rattle.mte_host.proofs.RowLemmas.{text_or_none, texts_of, names_found}
use Rattle.mte_host.proofs.command_line.program_of.Goals as goal

pub returns : goal.returns
returns c =
    let f = found_of c.args.matches.now in
    let names : names_of c.match-get_strs.names.items ≡ text_or_none (first_value f (codes "script")) ∷ texts_of (matched_of f (codes "files")) = search rules in
    record { names = names ∙ sym (names_found f) }
